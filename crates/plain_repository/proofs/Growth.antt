-- No event changes what stands in the history.
use Rattle.std.proofs.Common.{◌≡◌, List, [], ◌∷◌, ◌++◌, Option, None, Some, refl, sym, subst, append-nil}
use Rattle.std.specs.Prelude.{IsTrue}
use Rattle.ecore_meta.specs.Meta.{Meta}
use Rattle.history_tree.specs.History.{History, first_history}
use Rattle.op_form.specs.declared.event.Event.{Event}
use Rattle.plain_repository.specs.State.{State}
use Rattle.plain_repository.specs.Commits.{version_of}
use Rattle.plain_repository.specs.Changes.{Change, applied, first_text}
use Rattle.plain_repository.specs.Events.{change_of, effect, play, playable, playable_with}
use Rattle.plain_repository.specs.Laws.{IsPrefix, Grows, HistoryOnlyGrows}
use Rattle.plain_repository.specs.Orderly.{AllOrderly}
use Rattle.plain_repository.proofs.Encodings.{and_right}
use Rattle.plain_repository.proofs.Shapes.{by_history, is_first, is_later}

same_list : {X : Type 0} (xs : List X) → IsPrefix xs xs
same_list xs = ([], sym (append-nil xs))

one_more : {X : Type 0} (xs : List X) (x : X) → IsPrefix xs (xs ++ x ∷ [])
one_more xs x = (x ∷ [], refl)

same_history : (h : History) → Grows h h
same_history h = record { versions = same_list h.versions; branches = same_list h.branches; tags = same_list h.tags }

-- but for the first
pub grown : (s : State) (c : Change) → first_text c ≡ None → Grows s.history (applied c s).history
grown s c later = by_history s (Grows s.history) (same_history s.history)
    (λ name start. record {
      versions = same_list s.history.versions;
      branches = one_more s.history.branches (record { name = name; start = start });
      tags = same_list s.history.tags;
    })
    (λ name version. record {
      versions = same_list s.history.versions;
      branches = same_list s.history.branches;
      tags = one_more s.history.tags (record { name = name; version = version });
    })
    c later
    (λ ws signature message is w. record {
      versions = one_more s.history.versions (version_of w signature message);
      branches = same_list s.history.branches;
      tags = same_list s.history.tags;
    })

effect_grows : (s : State) (m : Option Meta) (e : Event) → s.meta ≡ m → AllOrderly m s → IsTrue (playable_with s m e) → Grows s.history (effect s e).history
effect_grows s None e is kept could =
    subst (λ (c : Change). Grows s.history (applied c s).history) (sym (is_first (change_of e) could).is)
    (subst (λ (h : History). Grows h first_history) (sym kept.1)
    (record { versions = (first_history.versions, refl); branches = (first_history.branches, refl); tags = ([], refl) }))
effect_grows s (Some meta) e is kept could = grown s (change_of e) (is_later s meta e could)

pub history_only_grows : HistoryOnlyGrows
unfolding play playable
history_only_grows s orderly e could = effect_grows s s.meta e refl orderly (and_right _ (playable_with s s.meta e) could)
