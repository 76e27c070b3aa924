-- Which versions are signed: those that events behind Upgrade make.
use Rattle.std.proofs.Common.{◌≡◌, ℕ, ◌&&◌, ◌||◌, nat_lt, List, [], ◌∷◌, ◌++◌, Bool, true, false, Option, None, Some, refl, sym}
use Rattle.std.proofs.Common.{◌∙◌, ap, subst, append_assoc, append-nil}
use Rattle.std.specs.Prelude.{IsTrue, All}
use Rattle.std.specs.List.{list_any}
use Rattle.std.proofs.lemmas.List.Elements.{All-append, All-from_recursion}
use Rattle.command_runs.specs.Runs.{played}
use Rattle.ecore_meta.specs.Meta.{Meta}
use Rattle.history_tree.specs.declared.version.Version.{Version}
use Rattle.history_tree.specs.History.{History, first_history, no_history, with_version}
use Rattle.op_form.specs.declared.event.Event.{Event}
use Rattle.op_form.specs.declared.event.Event.TheVariants.{Upgrade}
use Rattle.plain_repository.specs.State.{State, Workspace, empty, workspace_of}
use Rattle.plain_repository.specs.Answers.{most_events, fits_record}
use Rattle.history_tree.specs.declared.version.Signature.{Signature}
use Rattle.plain_repository.specs.Commits.{version_of, with_commit, with_new_branch}
use Rattle.plain_repository.specs.Changes.{Change, Begins, Extends, Upgrades, Opens, Drops, Within, Makes, Branches, Tags, applied, first_text}
use Rattle.plain_repository.specs.Changes.{Signing, Apart, Turns, Signs, signs, signing_of, suits_store, turns, comes_with_signatures}
use Rattle.plain_repository.specs.Events.{change_of, effect, play, playable, playable_with, suits, are_playable}
use Rattle.plain_repository.specs.Orderly.{AllOrderly, IsOrderly}
use Rattle.plain_repository.specs.Laws.{IsSigned, IsUnsigned, AddsSuch, is_upgrade, UpgradesStay, NewVersionsAreSigned}
use Rattle.plain_repository.specs.Laws.{SignedSinceUpgrade, is_of_signing, is_asked, are_asked, OldStoresReadOn}
use Rattle.plain_repository.proofs.Encodings.{and_left, and_right, not_so, suiting}
use Rattle.plain_repository.proofs.Kept.{empty_kept, play_keeps}
use Rattle.plain_repository.proofs.Shapes.{IsFirst, by_history, is_first, is_later}

-- ---- whether the store is upgraded
change_upgrades : (s : State) (c : Change) → (applied c s).upgraded ≡ (turns (signing_of c) || s.upgraded)
change_upgrades s (Begins text) = refl
change_upgrades s (Extends text) = refl
change_upgrades s Upgrades = refl
change_upgrades s (Opens version branch) = refl
change_upgrades s (Drops ws) = refl
change_upgrades s (Within ws change) = refl
change_upgrades s (Makes ws signature message) = by (workspace_of s ws) signature
  where
    by : (o : Option Workspace) (signature : Option Signature)
        → (with_commit ws signature message o s).upgraded ≡ (turns (signs signature) || s.upgraded)
    by None None = refl
    by None (Some x) = refl
    by (Some w) None = refl
    by (Some w) (Some x) = refl
change_upgrades s (Branches ws name) = by (workspace_of s ws)
  where
    by : (o : Option Workspace) → (with_new_branch ws name o s).upgraded ≡ s.upgraded
    by None = refl
    by (Some w) = refl
change_upgrades s (Tags name version) = refl

pub upgrades_stay : UpgradesStay
unfolding play
upgrades_stay s e = change_upgrades s (change_of e)

or_left_false : (a b : Bool) → a || b ≡ false → b ≡ false
or_left_false true b e = absurd cc
or_left_false false b e = e

or_right_true : (a b : Bool) → b ≡ true → a || b ≡ true
or_right_true true b e = refl
or_right_true false b e = e

-- a store that is upgraded stays so
stays_upgraded : (s : State) (e : Event) → s.upgraded ≡ true → (play s e).upgraded ≡ true
stays_upgraded s e is = upgrades_stay s e ∙ or_right_true (is_upgrade e) s.upgraded is

-- one that is not was not before
was_not : (s : State) (e : Event) → (play s e).upgraded ≡ false → s.upgraded ≡ false
was_not s e is = or_left_false (is_upgrade e) s.upgraded (sym (upgrades_stay s e) ∙ is)

-- ---- the versions that one event adds
module _ {Such : Version → Type 0} where
  adds_none : (h : History) → AddsSuch Such h h
  adds_none h = record { more = []; is = sym (append-nil h.versions); such = All-from_recursion Such [] tt }

  adds_more : (a b c : History) → AddsSuch Such a b → AddsSuch Such b c → AddsSuch Such a c
  adds_more a b c first second = record {
    more = first.more ++ second.more;
    is = second.is ∙ ap (λ (l : List Version). l ++ second.more) first.is ∙ append_assoc a.versions first.more second.more;
    such = All-append Such first.more second.more first.such second.such;
  }

  adds_one : (h : History) (version : Version) → Such version → AddsSuch Such h (with_version h version)
  adds_one h version such = record { more = version ∷ []; is = refl; such = All-from_recursion Such (version ∷ []) (such, tt) }

  -- but for the first
  change_adds : (s : State) (c : Change) → first_text c ≡ None
      → ((ws : ℕ) (signature : Option Signature) (message : List ℕ) → c ≡ Makes ws signature message → (w : Workspace) → Such (version_of w signature message))
      → AddsSuch Such s.history (applied c s).history
  change_adds s c later such =
      by_history s (AddsSuch Such s.history) (adds_none s.history)
      (λ name start. record { more = []; is = sym (append-nil s.history.versions); such = All-from_recursion Such [] tt })
      (λ name version. record { more = []; is = sym (append-nil s.history.versions); such = All-from_recursion Such [] tt }) c later
      (λ ws signature message is w. adds_one s.history (version_of w signature message) (such ws signature message is w))

  -- the first adds the first version
  first_adds : (s : State) (c : Change) → s.history ≡ no_history → IsFirst c → All Such first_history.versions → AddsSuch Such s.history (applied c s).history
  first_adds s c none first such = subst (λ (c : Change). AddsSuch Such s.history (applied c s).history) (sym first.is)
      (record { more = first_history.versions; is = ap (λ (h : History). h.versions ++ first_history.versions) (sym none); such = such })

first_unsigned : All IsUnsigned first_history.versions
first_unsigned = All-from_recursion IsUnsigned first_history.versions ((refl, refl), tt)

not_both : (b : Bool) → b ≡ true → b ≡ false → ⊥
not_both true first second = cc
not_both false first second = cc

-- what the versions of an event are, by whether it suits the store
by_store : (b : Bool) (signature : Option Signature) (w : Workspace) (message : List ℕ) → IsTrue (suits_store b (signs signature))
    → (b ≡ true → IsSigned (version_of w signature message)) × (b ≡ false → IsUnsigned (version_of w signature message))
by_store b (Some x) w message suited = (λ is. (refl, refl), λ is. absurd (not_both b suited is))
by_store b None w message suited = (λ is. absurd (not_both b is (not_so b suited)), λ is. (refl, refl))

module _ (s : State) (e : Event) (could : IsTrue (playable s e)) where
  asked_of : IsTrue (playable_with s s.meta e)
  unfolding playable
  asked_of = and_right _ (playable_with s s.meta e) could

  made : (ws : ℕ) (signature : Option Signature) (message : List ℕ) → change_of e ≡ Makes ws signature message
      → IsTrue (suits_store s.upgraded (signs signature))
  made ws signature message is = subst (λ (c : Change). IsTrue (suits_store s.upgraded (signing_of c))) is (suiting s e could)

  signed_in : (m : Option Meta) → AllOrderly m s → IsTrue (playable_with s m e) → s.upgraded ≡ true → AddsSuch IsSigned s.history (effect s e).history
  signed_in None order asked is = absurd (not_both s.upgraded is order.2)
  signed_in (Some meta) order asked is =
      change_adds s (change_of e) (is_later s meta e asked)
      (λ ws signature message same w. (by_store s.upgraded signature w message (made ws signature message same)).0 is)

  unsigned_in : (m : Option Meta) → AllOrderly m s → IsTrue (playable_with s m e) → s.upgraded ≡ false → AddsSuch IsUnsigned s.history (effect s e).history
  unsigned_in None order asked is = first_adds s (change_of e) order.1 (is_first (change_of e) asked) first_unsigned
  unsigned_in (Some meta) order asked is =
      change_adds s (change_of e) (is_later s meta e asked)
      (λ ws signature message same w. (by_store s.upgraded signature w message (made ws signature message same)).1 is)

  pub adds_signed : IsOrderly s → s.upgraded ≡ true → AddsSuch IsSigned s.history (play s e).history
  unfolding play
  adds_signed order is = signed_in s.meta order asked_of is

  pub adds_unsigned : IsOrderly s → s.upgraded ≡ false → AddsSuch IsUnsigned s.history (play s e).history
  unfolding play
  adds_unsigned order is = unsigned_in s.meta order asked_of is

pub new_versions_are_signed : NewVersionsAreSigned
new_versions_are_signed =
    record { signed = λ s order is e could. adds_signed s e could order is; unsigned = λ s order is e could. adds_unsigned s e could order is }

-- ---- the versions that events add
first_of : (s : State) (e : Event) (es : List Event) → IsTrue (are_playable s (e ∷ es)) → IsTrue (playable s e)
first_of s e es could = and_left (playable s e) (are_playable (play s e) es) could

rest_of : (s : State) (e : Event) (es : List Event) → IsTrue (are_playable s (e ∷ es)) → IsTrue (are_playable (play s e) es)
rest_of s e es could = and_right (playable s e) (are_playable (play s e) es) could

-- behind Upgrade
all_signed : (s : State) (es : List Event) → IsOrderly s → IsTrue (are_playable s es) → s.upgraded ≡ true
    → AddsSuch IsSigned s.history (played play s es).history
all_signed s [] order could is = adds_none s.history
all_signed s (e ∷ es) order could is =
    adds_more s.history (play s e).history (played play (play s e) es).history
    (adds_signed s e (first_of s e es could) order is)
    (all_signed (play s e) es (play_keeps s e (first_of s e es could) order) (rest_of s e es could) (stays_upgraded s e is))

-- before it
record Unsigned (s t : State) : Type 0 where
  was : s.upgraded ≡ false
  adds : AddsSuch IsUnsigned s.history t.history

all_unsigned : (s : State) (es : List Event) → IsOrderly s → IsTrue (are_playable s es) → (played play s es).upgraded ≡ false → Unsigned s (played play s es)
all_unsigned s [] order could is = record { was = is; adds = adds_none s.history }
all_unsigned s (e ∷ es) order could is =
    let rest = all_unsigned (play s e) es (play_keeps s e (first_of s e es could) order) (rest_of s e es could) is in
    let was = was_not s e rest.was in
    record {
      was = was;
      adds =
          adds_more s.history (play s e).history (played play (play s e) es).history (adds_unsigned s e (first_of s e es could) order was) rest.adds;
    }

-- all versions of a store that is not upgraded are unsigned
all_old : (es : List Event) → IsTrue (are_playable empty es) → (played play empty es).upgraded ≡ false → All IsUnsigned (played play empty es).history.versions
all_old es could is =
    let adds = (all_unsigned empty es empty_kept could is).adds in
    subst (All IsUnsigned) (sym adds.is) adds.such

-- events in two parts
front_could : (s : State) (xs ys : List Event) → IsTrue (are_playable s (xs ++ ys)) → IsTrue (are_playable s xs)
front_could s [] ys could = refl
front_could s (x ∷ xs) ys could =
    subst (λ (b : Bool). IsTrue (b && are_playable (play s x) xs)) (sym (first_of s x (xs ++ ys) could))
    (front_could (play s x) xs ys (rest_of s x (xs ++ ys) could))

back_could : (s : State) (xs ys : List Event) → IsTrue (are_playable s (xs ++ ys)) → IsTrue (are_playable (played play s xs) ys)
back_could s [] ys could = could
back_could s (x ∷ xs) ys could = back_could (play s x) xs ys (rest_of s x (xs ++ ys) could)

played_on : (s : State) (xs ys : List Event) → played play s (xs ++ ys) ≡ played play (played play s xs) ys
played_on s [] ys = refl
played_on s (x ∷ xs) ys = played_on (play s x) xs ys

order_on : (s : State) (es : List Event) → IsOrderly s → IsTrue (are_playable s es) → IsOrderly (played play s es)
order_on s [] order could = order
order_on s (e ∷ es) order could = order_on (play s e) es (play_keeps s e (first_of s e es could) order) (rest_of s e es could)

upgrade_adds : (t : State) → AddsSuch IsSigned t.history (play t Upgrade).history
unfolding play
upgrade_adds t = adds_none t.history

pub signed_since_upgrade : SignedSinceUpgrade
signed_since_upgrade before after could =
    let t : State = played play empty before in
    let front = front_could empty before (Upgrade ∷ after) could in
    let back = back_could empty before (Upgrade ∷ after) could in
    let order = order_on empty before empty_kept front in
    let can = first_of t Upgrade after back in
    let is : t.upgraded ≡ false = not_so t.upgraded (suiting t Upgrade can) in
    record {
      old = all_old before front is;
      new = subst (λ (x : State). AddsSuch IsSigned t.history x.history) (sym (played_on empty before (Upgrade ∷ after)))
          (adds_more t.history (play t Upgrade).history (played play (play t Upgrade) after).history (upgrade_adds t)
          (all_signed (play t Upgrade) after (play_keeps t Upgrade can order) (rest_of t Upgrade after back) (upgrades_stay t Upgrade)));
    }

-- ---- old stores
-- an event without signatures suits a store that is not upgraded, and leaves it so
old_suits : (x : Signing) → comes_with_signatures x ≡ false → suits_store false x ≡ true
old_suits Apart old = refl
old_suits Turns old = absurd cc
old_suits (Signs true) old = absurd cc
old_suits (Signs false) old = refl

old_is_no_upgrade : (x : Signing) → comes_with_signatures x ≡ false → turns x ≡ false
old_is_no_upgrade Apart old = refl
old_is_no_upgrade Turns old = absurd cc
old_is_no_upgrade (Signs signed) old = refl

with_true : (a b c : Bool) → b ≡ true → (a && b && c) ≡ (a && c)
with_true true true c is = refl
with_true false true c is = refl
with_true a false c is = absurd cc

could_is_asked : (s : State) (e : Event) → s.upgraded ≡ false → is_of_signing e ≡ false → playable s e ≡ is_asked s e
unfolding playable
could_is_asked s e is old =
    with_true (nat_lt s.events most_events && fits_record e) (suits s.upgraded e) (playable_with s s.meta e)
    (ap (λ b. suits b e) is ∙ old_suits (signing_of (change_of e)) old)

stays_old : (s : State) (e : Event) → s.upgraded ≡ false → is_of_signing e ≡ false → (play s e).upgraded ≡ false
stays_old s e is old = upgrades_stay s e ∙ (λ i. old_is_no_upgrade (signing_of (change_of e)) old i || is i)

neither : (a b : Bool) → a || b ≡ false → (a ≡ false) × (b ≡ false)
neither true b e = absurd cc
neither false b e = (refl, e)

old_playable : (s : State) (es : List Event) → s.upgraded ≡ false → list_any is_of_signing es ≡ false → are_playable s es ≡ are_asked s es
old_playable s [] is old = refl
old_playable s (e ∷ es) is old =
    let parts = neither (is_of_signing e) (list_any is_of_signing es) old in
    λ i. could_is_asked s e is parts.0 i && old_playable (play s e) es (stays_old s e is parts.0) parts.1 i

old_upgraded : (s : State) (es : List Event) → s.upgraded ≡ false → list_any is_of_signing es ≡ false → (played play s es).upgraded ≡ false
old_upgraded s [] is old = is
old_upgraded s (e ∷ es) is old =
    let parts = neither (is_of_signing e) (list_any is_of_signing es) old in
    old_upgraded (play s e) es (stays_old s e is parts.0) parts.1

pub old_stores_read_on : OldStoresReadOn
old_stores_read_on events old = record {
  playable = old_playable empty events refl old;
  unsigned = λ could. all_old events could (old_upgraded empty events refl old);
}
