-- What no later version wrote stays: the values and the targets of a feature.
use Rattle.std.proofs.Common.{◌≡◌, ℕ, ◌<◌, nat_eq, Bool, true, false, ◌||◌, ◌&&◌, List, [], ◌∷◌, ◌++◌, length, refl, sym, ◌∙◌, ap, subst, append_assoc, arith}
use Rattle.std.specs.Prelude.{All, Contains, Option, None, Some}
use Rattle.std.specs.FinMap.{get}
use Rattle.std.proofs.lemmas.List.Elements.{All-contains_itself, All-contains, All-head, All-tail, All-weaker, Contains-append_right}
use Rattle.finite_maps.specs.Equal.{text_eq}
use Rattle.finite_maps.proofs.Cases.{or_first, or_second}
use Rattle.finite_maps.proofs.EqualLaws.{and_both, nat_equality, text_equality}
use Rattle.ecore_meta.specs.Meta.{Meta}
use Rattle.model_state.specs.Good.{Good, Sound}
use Rattle.model_state.specs.Keys.{IdBytes}
use Rattle.model_state.specs.Packages.{fold_package, steps_of, steps_all}
use Rattle.model_state.specs.State.{State, nothing}
use Rattle.model_state.specs.Steps.{fold}
use Rattle.model_state.specs.declared.operation.Operation.{Operation}
use Rattle.model_state.specs.declared.step.Step.{Step}
use Rattle.model_laws.specs.Cells.{Cell, OfAttr, OfRow, OfWhole, Agree, cell_eq, has, is_bounded, step_writes, writes_all}
use Rattle.model_laws.proofs.Exchange.{has_append}
use Rattle.model_laws.proofs.Packages.{steps_append}
use Rattle.model_laws.proofs.Runs.{fold_append}
use Rattle.footprint.specs.Interference.{op_writes, package_writes}
use Rattle.footprint.specs.Same.{IsCell}
use Rattle.footprint.proofs.Alike.{package_leaves_others}
use Rattle.footprint.proofs.Pairs.{cell_exact}
use Rattle.history_tree.specs.declared.version.Version.{Version}
use Rattle.history_tree.specs.History.{History, path}
use Rattle.history_tree.specs.States.{operations_of, operations_to, package_of_version, state_folded}
use Rattle.history_tree.specs.Since.{path_after, operations_after}
use Rattle.history_tree.specs.Whole.{IsWhole}
use Rattle.history_tree.proofs.Since.{after_above, operations_split, path_splits}
use Rattle.change_index.specs.Last.{IsLast, IsGreatest}
use Rattle.change_index.specs.Laws.{HasSame, LastWriteStays, state_at}
use Rattle.change_index.specs.Written.{is_of, has_of, wrote}

-- ---- cells of a feature
both_false : (a b : Bool) → a ≡ false → b ≡ false → a || b ≡ false
both_false a b one two = rw one two

writes_append : (meta : Meta) (ss ts : List Step) → writes_all meta (ss ++ ts) ≡ writes_all meta ss ++ writes_all meta ts
writes_append meta [] ts = refl
writes_append meta (s ∷ ss) ts =
    ap (λ (l : List Cell). step_writes meta s ++ l) (writes_append meta ss ts)
    ∙ sym (append_assoc (step_writes meta s) (writes_all meta ss) (writes_all meta ts))

module _ (e : IdBytes) (f : ℕ) where
  -- a cell that is not of the feature is not one that is
  apart : (c d : Cell) → is_of e f c ≡ true → is_of e f d ≡ false → cell_eq c d ≡ false
  apart c d of not_of = by (cell_eq c d) refl
    where
      by : (b : Bool) → cell_eq c d ≡ b → b ≡ false
      by false is = refl
      by true is = let same : is_of e f d ≡ true = subst (λ (x : Cell). is_of e f x ≡ true) (cell_exact c d is) of in absurd cc

  -- a list without a cell of the feature
  none_has : (c : Cell) → is_of e f c ≡ true → (cs : List Cell) → has_of e f cs ≡ false → has cs c ≡ false
  none_has c of [] none = refl
  none_has c of (d ∷ cs) none =
      both_false (cell_eq c d) (has cs c) (apart c d of (or_first (is_of e f d) (has_of e f cs) none))
      (none_has c of cs (or_second (is_of e f d) (has_of e f cs) none))

  module _ (meta : Meta) (c : Cell) (of : is_of e f c ≡ true) where
    -- two lists of steps without one
    neither : (ss ts : List Step) → has (writes_all meta ss) c ≡ false → has (writes_all meta ts) c ≡ false → has (writes_all meta (ss ++ ts)) c ≡ false
    neither ss ts one two =
        ap (λ (l : List Cell). has l c) (writes_append meta ss ts) ∙ has_append (writes_all meta ss) (writes_all meta ts) c
        ∙ both_false (has (writes_all meta ss) c) (has (writes_all meta ts) c) one two

    package_none : (ops : List Operation) → wrote meta ops e f ≡ false → has (package_writes meta ops) c ≡ false
    package_none [] none = refl
    package_none (o ∷ os) none =
        neither (steps_of o) (steps_all os)
        (none_has c of (op_writes meta o) (or_first (has_of e f (op_writes meta o)) (wrote meta os e f) none))
        (package_none os (or_second (has_of e f (op_writes meta o)) (wrote meta os e f) none))

    -- the operations of versions that did not write the feature
    versions_none : (versions : List Version) (us : List ℕ) → All (λ u. wrote meta (package_of_version versions u) e f ≡ false) us
        → has (package_writes meta (operations_of versions us)) c ≡ false
    versions_none versions [] none = refl
    versions_none versions (u ∷ us) none =
        let P : ℕ → Type 0 = λ w. wrote meta (package_of_version versions w) e f ≡ false in
        let first = package_of_version versions u in
        let rest = operations_of versions us in
        ap (λ (l : List Step). has (writes_all meta l) c) (steps_append first rest)
        ∙ neither (steps_all first) (steps_all rest) (package_none first (All-head P u us none)) (versions_none versions us (All-tail P u us none))

-- ---- a feature by its cells
own_pair : (e : IdBytes) (f : ℕ) → (text_eq e e && nat_eq f f) ≡ true
own_pair e f = and_both (text_eq e e) (nat_eq f f) (text_equality.own e) (nat_equality.own f)

-- states that agree at the cells of a feature have the same there
same_there : (meta : Meta) (m n : State) (e : IdBytes) (f : ℕ) → ((c : Cell) → IsCell c → is_of e f c ≡ true → Agree meta m n c) → HasSame m n e f
same_there meta m n e f agree = record { values = agree (OfAttr e f) tt (own_pair e f); targets = by (is_bounded meta f) refl }
  where
    by : (b : Bool) → is_bounded meta f ≡ b → (x : IdBytes) → get m.row (e, f, x) ≡ get n.row (e, f, x)
    by true bounded x = (agree (OfWhole e f) tt (own_pair e f)).0 bounded x
    by false free x = agree (OfRow e f x) tt (own_pair e f) free

-- ---- the last write
module _ (meta : Meta) (sound : Sound meta) (h : History) (whole : IsWhole h) (v : ℕ) (there : v < length h.versions) (e : IdBytes) (f : ℕ) where
  abbrev wrote_at : ℕ → Bool
  wrote_at u = wrote meta (package_of_version h.versions u) e f

  -- operations of versions that did not write the feature leave it
  left : (us : List ℕ) → All (λ u. wrote_at u ≡ false) us → (m n : State) → Good meta m → fold_package meta m (operations_of h.versions us) ≡ Some n
      → HasSame m n e f
  left us none m n good leads = same_there meta m n e f
      (λ c is of. package_leaves_others meta sound m n good (operations_of h.versions us) leads c is (versions_none e f meta c of h.versions us none))

  -- no version after the last one that wrote it did
  later_none : (u : ℕ) → IsGreatest wrote_at (path h v) u → All (λ w. wrote_at w ≡ false) (path_after h u v)
  later_none u last =
      All-weaker (Contains (path_after h u v)) (λ w. wrote_at w ≡ false) (λ w within. by w within (wrote_at w) refl) (path_after h u v)
      (All-contains_itself (path_after h u v))
    where
      by : (w : ℕ) → Contains (path_after h u v) w → (b : Bool) → wrote_at w ≡ b → wrote_at w ≡ false
      by w within false is = is
      by w within true is =
          let above : u < w = All-contains (λ t. u < t) (path_after h u v) w (after_above h u v) within in
          let on_path : Contains (path h v) w =
          subst (λ (l : List ℕ). Contains l w) (sym (path_splits h whole u v there last.there))
          (Contains-append_right (path h u) (path_after h u v) w within) in
          absurd (omega (arith, above, last.greatest w on_path is))

  pub stays : (last : Option ℕ) → IsLast wrote_at (path h v) last → (m n : State) → state_at meta h last ≡ Some m → Good meta m
      → state_folded meta h v ≡ Some n → HasSame m n e f
  stays None none m n begins good leads =
      let is : nothing ≡ m = cc in
      left (path h v)
      (All-weaker (Contains (path h v)) (λ w. wrote_at w ≡ false) none (path h v) (All-contains_itself (path h v))) m n good
      (subst (λ (x : State). fold_package meta x (operations_to h v) ≡ Some n) is leads)
  stays (Some u) last m n begins good leads =
      left (path_after h u v) (later_none u last) m n good
      (sym (fold_append meta nothing m (steps_all (operations_to h u)) (steps_all (operations_after h u v)) begins)
      ∙ ap (λ (l : List Step). fold meta nothing l) (sym (ap steps_all (operations_split h whole u v there last.there)
      ∙ steps_append (operations_to h u) (operations_after h u v))) ∙ leads)

pub last_write_stays : LastWriteStays
last_write_stays meta sound h whole v there e f last is m n begins good leads = stays meta sound h whole v there e f last is m n begins good leads
