-- What was foreseen of an update or of a merge.
use Rattle.std.proofs.Common.{◌≡◌, ℕ, List, sym, ap, subst, ◌∙◌}
use Rattle.op_form.specs.declared.event.Event.{Event}
use Rattle.op_form.specs.declared.event.Event.TheVariants as event
use Rattle.plain_repository.specs.State.{State}
use Rattle.repo_state.specs.declared.merging.Updated.{Updated}
use Rattle.repo_state.specs.declared.merging.Merged.{Merged}
use Rattle.event_play.specs.declared.foreseen.Foreseen.{Foreseen}
use Rattle.event_play.specs.declared.foreseen.Foreseen.TheVariants.{Update, Merge}
use Rattle.event_play.specs.Foreseen.{IsForeseen, IsMerge, IsUpdate}

-- of an update there is an update
pub update_foreseen : (s : State) (ws : ℕ) (letters : List ℕ) (u : Updated) → IsForeseen s (event.Update ws letters) (Update u) → IsUpdate s ws letters u
update_foreseen s ws letters u (k, l, is, update) =
    let number : k ≡ ws = cc in
    let choices : l ≡ letters = cc in
    subst (λ (l : List ℕ). IsUpdate s ws l u) choices (subst (λ (k : ℕ). IsUpdate s k l u) number update)

pub update_no_merge : (s : State) (ws : ℕ) (letters : List ℕ) (m : Merged) → IsForeseen s (event.Update ws letters) (Merge m) → ⊥
update_no_merge s ws letters m (k, b, l, is, merge) = absurd cc

-- of a merge there is a merge
pub merge_foreseen : (s : State) (ws branch : ℕ) (letters : List ℕ) (m : Merged) → IsForeseen s (event.Merge ws branch letters) (Merge m)
    → IsMerge s ws branch letters m
merge_foreseen s ws branch letters m (k, b, l, is, merge) =
    let number : k ≡ ws = cc in
    let other : b ≡ branch = cc in
    let choices : l ≡ letters = cc in
    subst (λ (l : List ℕ). IsMerge s ws branch l m) choices
    (subst (λ (b : ℕ). IsMerge s ws b l m) other (subst (λ (k : ℕ). IsMerge s k b l m) number merge))

pub merge_no_update : (s : State) (ws branch : ℕ) (letters : List ℕ) (u : Updated) → IsForeseen s (event.Merge ws branch letters) (Update u) → ⊥
merge_no_update s ws branch letters u (k, l, is, update) = absurd cc
