-- The texts of lines, as they are put together.
use Rattle.std.proofs.Common.{◌≡◌, ℕ, ◌<◌, ◌^◌, List, [], ◌∷◌, ◌++◌, length, append_assoc}
use Rattle.std.specs.Prelude.{codes}
use Rattle.std.specs.Fmt.{decimal}
use Rattle.plain_repository.specs.State.{State}
use Rattle.repo_state.specs.Counting.{live_workspaces}
use Rattle.repo_answers.specs.Counting.{AreCounts, element_count}
use Rattle.repo_answers.specs.declared.counting.Counts.{Counts}
use Rattle.emf_top.specs.Tasks.{check_line, outcome_line}

-- a word and a number five times, one pair after the other
five : (w1 n1 w2 n2 w3 n3 w4 n4 w5 n5 last l0 l1 l2 l3 l4 l5 l6 : List ℕ) → l0 ≡ [] → l1 ≡ l0 ++ (w1 ++ n1) → l2 ≡ l1 ++ (w2 ++ n2)
    → l3 ≡ l2 ++ (w3 ++ n3) → l4 ≡ l3 ++ (w4 ++ n4) → l5 ≡ l4 ++ (w5 ++ n5)
    → l6 ≡ l5 ++ last → l6 ≡ w1 ++ (n1 ++ (w2 ++ (n2 ++ (w3 ++ (n3 ++ (w4 ++ (n4 ++ (w5 ++ (n5 ++ last)))))))))
five w1 n1 w2 n2 w3 n3 w4 n4 w5 n5 last l0 l1 l2 l3 l4 l5 l6 e0 e1 e2 e3 e4 e5 e6 = rw (e6, e5, e4, e3, e2, e1, e0) (simp append_assoc)

-- the same four times
four : (w1 n1 w2 n2 w3 n3 w4 n4 last l0 l1 l2 l3 l4 l5 : List ℕ) → l0 ≡ [] → l1 ≡ l0 ++ (w1 ++ n1) → l2 ≡ l1 ++ (w2 ++ n2) → l3 ≡ l2 ++ (w3 ++ n3)
    → l4 ≡ l3 ++ (w4 ++ n4)
    → l5 ≡ l4 ++ last → l5 ≡ w1 ++ (n1 ++ (w2 ++ (n2 ++ (w3 ++ (n3 ++ (w4 ++ (n4 ++ last)))))))
four w1 n1 w2 n2 w3 n3 w4 n4 last l0 l1 l2 l3 l4 l5 e0 e1 e2 e3 e4 e5 = rw (e5, e4, e3, e2, e1, e0) (simp append_assoc)

pub outcome_text : (s : State) (accepted refused versions elements : ℕ) → versions ≡ length s.history.versions → elements ≡ element_count s
    → (l0 l1 l2 l3 l4 l5 : List ℕ) → l0 ≡ []
    → l1 ≡ l0 ++ (codes "accepted " ++ decimal accepted)
    → l2 ≡ l1 ++ (codes " refused " ++ decimal refused)
    → l3 ≡ l2 ++ (codes " versions " ++ decimal versions)
    → l4 ≡ l3 ++ (codes " elements " ++ decimal elements)
    → l5 ≡ l4 ++ 10 ∷ [] → l5 ≡ outcome_line accepted refused s
outcome_text s accepted refused versions elements versions_are elements_are l0 l1 l2 l3 l4 l5 e0 e1 e2 e3 e4 e5 =
    rw (← versions_are, ← elements_are)
    (four (codes "accepted ") (decimal accepted) (codes " refused ") (decimal refused) (codes " versions ") (decimal versions) (codes " elements ")
    (decimal elements) (10 ∷ [])
    l0 l1 l2 l3 l4 l5 e0 e1 e2 e3 e4 e5)

pub check_text : (s : State) (counts : Counts) → AreCounts s counts → live_workspaces s < 2 ^ 32 → (l0 l1 l2 l3 l4 l5 l6 : List ℕ) → l0 ≡ []
    → l1 ≡ l0 ++ (codes "check events " ++ decimal counts.events)
    → l2 ≡ l1 ++ (codes " versions " ++ decimal counts.versions)
    → l3 ≡ l2 ++ (codes " branches " ++ decimal counts.branches)
    → l4 ≡ l3 ++ (codes " tags " ++ decimal counts.tags)
    → l5 ≡ l4 ++ (codes " workspaces " ++ decimal counts.workspaces)
    → l6 ≡ l5 ++ 10 ∷ [] → l6 ≡ check_line s
check_text s counts are few l0 l1 l2 l3 l4 l5 l6 e0 e1 e2 e3 e4 e5 e6 =
    rw (← are.events, ← are.versions, ← are.branches, ← are.tags, ← are.workspaces few)
    (five (codes "check events ") (decimal counts.events) (codes " versions ") (decimal counts.versions) (codes " branches ") (decimal counts.branches)
    (codes " tags ") (decimal counts.tags) (codes " workspaces ") (decimal counts.workspaces) (10 ∷ []) l0 l1 l2 l3 l4 l5 l6 e0 e1 e2 e3 e4 e5 e6)
