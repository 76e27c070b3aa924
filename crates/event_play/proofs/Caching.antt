-- A cache holds states of the versions of the repository: what events leave of this.
use Rattle.std.proofs.Common.{◌≡◌, ℕ, List, [], Option, Some, None, refl, sym, ◌∙◌, subst}
use Rattle.std.specs.Prelude.{All, IsTrue}
use Rattle.std.proofs.lemmas.List.Elements.{All-weaker, All-nil}
use Rattle.ecore_meta.specs.Meta.{Meta}
use Rattle.model_state.specs.State as models
use Rattle.history_tree.specs.History.{History}
use Rattle.history_tree.specs.States.{state_of}
use Rattle.page_pool.specs.Frames.{Frames}
use Rattle.state_cache.specs.Entries.{Entries, stands}
use Rattle.state_form.specs.Form.{IsStateEncoding}
use Rattle.op_form.specs.declared.event.Event.{Event}
use Rattle.version_states.specs.Cached.{AreEncodings, IsVersionEncoding}
use Rattle.plain_repository.specs.State.{State}
use Rattle.plain_repository.specs.Events.{effect, meta_after, playable_with}
use Rattle.plain_repository.specs.Metamodels.{grown}
use Rattle.plain_repository.specs.Orderly.{AllOrderly, IsOrderly, Orderly}
use Rattle.plain_repository.proofs.Evolving.{by_growth, form_stays, grown_is}
use Rattle.plain_repository.proofs.Kept.{meta_left}
use Rattle.plain_repository.proofs.States.{effect_state_stays, effect_versions_stay}
use Rattle.repo_state.specs.Cached.{HasEncodings}

-- ---- events
none_are : (m : Option Meta) (h : History) (entries : List (ℕ × List ℕ)) → entries ≡ [] → AreEncodings m h entries
none_are None h entries is = is
none_are (Some meta) h entries is = subst (λ (l : List (ℕ × List ℕ)). All (IsVersionEncoding meta h) l) (sym is) (All-nil (IsVersionEncoding meta h))

-- bytes that stand for a state do so with the metamodel that is there then
form_after : (meta : Meta) (s : State) → Orderly meta s → (e : Event) → IsTrue (playable_with s (Some meta) e) → (m : models.State) (bytes : List ℕ)
    → IsStateEncoding meta m bytes → IsStateEncoding (meta_after meta e) m bytes
form_after meta s order e could m bytes form = by_growth meta (λ e. IsTrue (playable_with s (Some meta) e) → IsStateEncoding (meta_after meta e) m bytes)
    (λ text could. form_stays meta (grown text meta) (grown_is meta text order.metamodel could) m bytes form)
    (λ e same could. subst (λ (n : Meta). IsStateEncoding n m bytes) (sym same) form)
    e could

forms_with : (m : Option Meta) (s : State) (e : Event) (entries : List (ℕ × List ℕ)) → s.meta ≡ m → AllOrderly m s → IsTrue (playable_with s m e)
    → AreEncodings m s.history entries
    → AreEncodings (effect s e).meta (effect s e).history entries
forms_with None s e entries is order could forms = none_are (effect s e).meta (effect s e).history entries forms
forms_with (Some meta) s e entries is order could forms =
    subst (λ (m : Option Meta). AreEncodings m (effect s e).history entries) (sym (meta_left s meta e is could))
    (All-weaker (IsVersionEncoding meta s.history) (IsVersionEncoding (meta_after meta e) (effect s e).history) (λ x form. (
      effect_versions_stay meta s e could x.0 form.0,
      subst (λ (m : models.State). IsStateEncoding (meta_after meta e) m x.1) (sym (effect_state_stays meta s order e could x.0 form.0))
          (form_after meta s order e could (state_of meta s.history x.0) x.1 form.1),
    )) entries forms)

-- an event that can be made leaves the cache states of the repository's versions
pub forms_effect : (s : State) (e : Event) (pool : Frames) (cache : Entries) → IsOrderly s → IsTrue (playable_with s s.meta e) → HasEncodings s pool cache
    → HasEncodings (effect s e) pool cache
forms_effect s e pool cache order could forms = forms_with s.meta s e (stands pool cache) refl order could forms
