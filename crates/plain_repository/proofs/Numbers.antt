-- The numbers of workspaces: none is taken away, and none is used again.
use Rattle.std.proofs.Common.{◌≡◌, ℕ, zero, suc, ◌+◌, ◌≤◌, List, [], ◌∷◌, ◌++◌, length, Option, None, Some, refl, ◌∙◌, ap, arith, length-append}
use Rattle.std.specs.Prelude.{slice_get, option_map}
use Rattle.std.proofs.lemmas.Option.{slice_get_within}
use Rattle.history_tree.proofs.Paths.{get_left}
use Rattle.plain_repository.specs.State.{State, Workspace, changed_at, changed_by_number}
use Rattle.plain_repository.specs.Changes.{Change, applied}
use Rattle.plain_repository.specs.Events.{change_of, play}
use Rattle.plain_repository.proofs.Shapes.{by_workspaces}
use Rattle.plain_repository.specs.Laws.{NumbersOnlyGrow, DroppedStayDropped}

-- The places of the second list are those of the first, and one more at most. Where the first has none at a place, so has the second.
pub record Keeps (before after : List (Option Workspace)) : Type 0 where
  pub count : length before ≤ length after
  pub one_more : length after ≤ length before + 1
  pub dropped : (n : ℕ) → slice_get before n ≡ Some None → slice_get after n ≡ Some None

same : (ws : List (Option Workspace)) → Keeps ws ws
same ws = record { count = omega arith; one_more = omega arith; dropped = λ n is. is }

pub count_at : (change : Option Workspace → Option Workspace) (ws : List (Option Workspace)) (k : ℕ) → length (changed_at change ws k) ≡ length ws
count_at change [] k = refl
count_at change (w ∷ ws) zero = refl
count_at change (w ∷ ws) (suc k) = omega (arith, count_at change ws k)

dropped_at : (change : Option Workspace → Option Workspace) → change None ≡ None → (ws : List (Option Workspace)) (k n : ℕ)
    → slice_get ws n ≡ Some None → slice_get (changed_at change ws k) n ≡ Some None
dropped_at change none [] k n is = is
dropped_at change none (w ∷ ws) zero zero is = ap (option_map change) is ∙ ap Some none
dropped_at change none (w ∷ ws) zero (suc n) is = is
dropped_at change none (w ∷ ws) (suc k) zero is = is
dropped_at change none (w ∷ ws) (suc k) (suc n) is = dropped_at change none ws k n is

changed : (change : Option Workspace → Option Workspace) → change None ≡ None → (ws : List (Option Workspace)) (k : ℕ)
    → Keeps ws (changed_by_number change ws k)
changed change none ws zero = same ws
changed change none ws (suc k) = record {
  count = omega (arith, count_at change ws k);
  one_more = omega (arith, count_at change ws k);
  dropped = dropped_at change none ws k;
}

more : (ws : List (Option Workspace)) (o : Option Workspace) → Keeps ws (ws ++ o ∷ [])
more ws o = record {
  count = omega (arith, length-append ws (o ∷ []));
  one_more = omega (arith, length-append ws (o ∷ []));
  dropped = λ n is. get_left ws (o ∷ []) n (slice_get_within ws n None is) ∙ is;
}

pub change_keeps : (s : State) (c : Change) → Keeps s.workspaces (applied c s).workspaces
change_keeps s c =
    by_workspaces s (Keeps s.workspaces) (same s.workspaces) (λ w. more s.workspaces (Some w)) c (λ ws of is none. changed of none s.workspaces ws)

pub numbers_only_grow : NumbersOnlyGrow
unfolding play
numbers_only_grow s e = (change_keeps s (change_of e)).count

pub dropped_stay_dropped : DroppedStayDropped
unfolding play
dropped_stay_dropped s n is e = (change_keeps s (change_of e)).dropped n is
