-- The workspaces, by their numbers.
use Rattle.std.proofs.Common.{◌≡◌, ◌≢◌, ℕ, zero, suc, List, [], ◌∷◌, ◌++◌, Option, None, Some, refl, ap, subst}
use Rattle.std.specs.Prelude.{slice_get, option_map}
use Rattle.std.specs.List.{AllByRecursion}
use Rattle.plain_repository.specs.State.{Workspace, State, there, workspace_of, changed_at, changed_by_number}
use Rattle.plain_repository.specs.Orderly.{IfThere}

module _ {X : Type 0} (P : X → Type 0) where
  pub both : (xs ys : List X) → AllByRecursion P xs → AllByRecursion P ys → AllByRecursion P (xs ++ ys)
  both [] ys first second = second
  both (x ∷ xs) ys first second = (first.0, both xs ys first.1 second)

  pub front : (xs ys : List X) → AllByRecursion P (xs ++ ys) → AllByRecursion P xs
  front [] ys all = tt
  front (x ∷ xs) ys all = (all.0, front xs ys all.1)

-- what holds of all holds of the one at a number
at_place : (P : Workspace → Type 0) (ws : List (Option Workspace)) (n : ℕ) (w : Workspace) → there (slice_get ws n) ≡ Some w
    → AllByRecursion (IfThere P) ws → P w
at_place P [] n w is all = absurd cc
at_place P (o ∷ ws) zero w is all = subst (IfThere P) is all.0
at_place P (o ∷ ws) (suc n) w is all = at_place P ws n w is all.1

pub at_number : (P : Workspace → Type 0) (s : State) (k : ℕ) (w : Workspace) → workspace_of s k ≡ Some w → AllByRecursion (IfThere P) s.workspaces → P w
at_number P s zero w is all = absurd cc
at_number P s (suc n) w is all = at_place P s.workspaces n w is all

-- where something weaker holds of a workspace that is changed, and of each that is left
module _ (P Q : Workspace → Type 0) (weaker : (w : Workspace) → P w → Q w) where
  weaker_there : (o : Option Workspace) → IfThere P o → IfThere Q o
  weaker_there None all = tt
  weaker_there (Some w) all = weaker w all

  pub all_weaker : (ws : List (Option Workspace)) → AllByRecursion (IfThere P) ws → AllByRecursion (IfThere Q) ws
  all_weaker [] all = tt
  all_weaker (o ∷ ws) all = (weaker_there o all.0, all_weaker ws all.1)

  place_changed : (change : Workspace → Workspace) (ws : List (Option Workspace)) (n : ℕ)
      → ((w : Workspace) → there (slice_get ws n) ≡ Some w → P w → Q (change w))
      → AllByRecursion (IfThere P) ws → AllByRecursion (IfThere Q) (changed_at (option_map change) ws n)
  place_changed change [] n keeps all = tt
  place_changed change (None ∷ ws) zero keeps all = (tt, all_weaker ws all.1)
  place_changed change (Some w ∷ ws) zero keeps all = (keeps w refl all.0, all_weaker ws all.1)
  place_changed change (o ∷ ws) (suc n) keeps all = (weaker_there o all.0, place_changed change ws n keeps all.1)

  pub number_changed : (change : Workspace → Workspace) (s : State) (k : ℕ) → ((w : Workspace) → workspace_of s k ≡ Some w → P w → Q (change w))
      → AllByRecursion (IfThere P) s.workspaces → AllByRecursion (IfThere Q) (changed_by_number (option_map change) s.workspaces k)
  number_changed change s zero keeps all = all_weaker s.workspaces all
  number_changed change s (suc n) keeps all = place_changed change s.workspaces n keeps all

-- one that is dropped leaves what holds of the others
place_dropped : (P : Workspace → Type 0) (ws : List (Option Workspace)) (n : ℕ) → AllByRecursion (IfThere P) ws
    → AllByRecursion (IfThere P) (changed_at (λ o. None) ws n)
place_dropped P [] n all = tt
place_dropped P (o ∷ ws) zero all = (tt, all.1)
place_dropped P (o ∷ ws) (suc n) all = (all.0, place_dropped P ws n all.1)

pub number_dropped : (P : Workspace → Type 0) (ws : List (Option Workspace)) (k : ℕ) → AllByRecursion (IfThere P) ws
    → AllByRecursion (IfThere P) (changed_by_number (λ o. None) ws k)
number_dropped P ws zero all = all
number_dropped P ws (suc n) all = place_dropped P ws n all

-- ---- what stands at a number
abbrev pub of_number : List (Option Workspace) → ℕ → Option Workspace
of_number ws zero = None
of_number ws (suc n) = there (slice_get ws n)

pub is_of_number : (s : State) (k : ℕ) → workspace_of s k ≡ of_number s.workspaces k
is_of_number s zero = refl
is_of_number s (suc n) = refl

other_place : (change : Option Workspace → Option Workspace) (ws : List (Option Workspace)) (k n : ℕ) → k ≢ n
    → slice_get (changed_at change ws k) n ≡ slice_get ws n
other_place change [] k n apart = refl
other_place change (w ∷ ws) zero zero apart = absurd (apart refl)
other_place change (w ∷ ws) zero (suc n) apart = refl
other_place change (w ∷ ws) (suc k) zero apart = refl
other_place change (w ∷ ws) (suc k) (suc n) apart = other_place change ws k n (λ e. apart (ap suc e))

-- a change at one number leaves what stands at another
pub other_number : (change : Option Workspace → Option Workspace) (ws : List (Option Workspace)) (k n : ℕ) → k ≢ n
    → of_number (changed_by_number change ws k) n ≡ of_number ws n
other_number change ws zero n apart = refl
other_number change ws (suc k) zero apart = refl
other_number change ws (suc k) (suc n) apart = ap there (other_place change ws k n (λ e. apart (ap suc e)))

same_place : (change : Workspace → Workspace) (ws : List (Option Workspace)) (n : ℕ) (w : Workspace) → there (slice_get ws n) ≡ Some w
    → there (slice_get (changed_at (option_map change) ws n) n) ≡ Some (change w)
same_place change [] n w is = absurd cc
same_place change (o ∷ ws) zero w is = ap (option_map change) is
same_place change (o ∷ ws) (suc n) w is = same_place change ws n w is

-- at its own number stands what it makes
pub same_number : (change : Workspace → Workspace) (ws : List (Option Workspace)) (k : ℕ) (w : Workspace) → of_number ws k ≡ Some w
    → of_number (changed_by_number (option_map change) ws k) k ≡ Some (change w)
same_number change ws zero w is = absurd cc
same_number change ws (suc n) w is = same_place change ws n w is

more_place : (ws : List (Option Workspace)) (o : Option Workspace) (n : ℕ) (w : Workspace) → there (slice_get ws n) ≡ Some w
    → there (slice_get (ws ++ o ∷ []) n) ≡ Some w
more_place [] o n w is = absurd cc
more_place (p ∷ ws) o zero w is = is
more_place (p ∷ ws) o (suc n) w is = more_place ws o n w is

-- a further one leaves what is there
pub more_number : (ws : List (Option Workspace)) (o : Option Workspace) (k : ℕ) (w : Workspace) → of_number ws k ≡ Some w → of_number (ws ++ o ∷ []) k ≡ Some w
more_number ws o zero w is = absurd cc
more_number ws o (suc n) w is = more_place ws o n w is
