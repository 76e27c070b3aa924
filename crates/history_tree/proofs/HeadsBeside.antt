-- The list of heads follows a history that grows.
use Rattle.std.proofs.Common.{◌≡◌, ◌≢◌, ℕ, ◌+◌, ◌<◌, nat_eq, Bool, true, false, List, [], ◌∷◌, ◌++◌, length, get_or, refl, sym, ◌∙◌, subst, arith}
use Rattle.std.proofs.Common.{length-append, get_or-set_other}
use Rattle.std.specs.Prelude.{slice_set}
use Rattle.std.proofs.Math.Seq.{get_or-append_seam}
use Rattle.std.proofs.lemmas.Bool.{eqb-true, eqb-false}
use Rattle.std.proofs.lemmas.List.{get_or-set_same, get_or_append_left, length-set}
use Rattle.history_tree.specs.declared.version.Version.{Version}
use Rattle.history_tree.specs.declared.version.Branch.{Branch}
use Rattle.history_tree.specs.History.{History, with_version, with_branch, head}
use Rattle.history_tree.specs.Heads.{AreHeads}
use Rattle.history_tree.specs.Whole.{IsWhole}
use Rattle.history_tree.proofs.Heads.{head_more, head_other}
use Rattle.history_tree.proofs.Steady.{head_kept, head_new}

-- a further version is the head of its branch
pub heads_more : (h : History) (v : Version) (heads : List ℕ) → v.branch < length h.branches → AreHeads h heads
    → AreHeads (with_version h v) (slice_set heads v.branch (length h.versions))
heads_more h v heads on are = (length-set heads v.branch (length h.versions) ∙ are.0, λ branch within. each branch within (nat_eq v.branch branch) refl)
  where
    each : (branch : ℕ) → branch < length h.branches → (b : Bool) → nat_eq v.branch branch ≡ b
        → get_or (slice_set heads v.branch (length h.versions)) branch 0 ≡ head (with_version h v) branch
    each branch within true is =
        subst (λ k. get_or (slice_set heads v.branch (length h.versions)) k 0 ≡ head (with_version h v) k) (eqb-true v.branch branch is)
        (get_or-set_same heads v.branch (length h.versions) 0 (omega (arith, on, are.0)) ∙ sym (head_more h v))
    each branch within false is =
        let apart : v.branch ≢ branch = eqb-false v.branch branch is in
        get_or-set_other heads v.branch branch (length h.versions) 0 (omega (arith, apart)) ∙ are.1 branch within ∙ sym (head_other h v branch apart)

-- a further branch has its start as its head
pub heads_branch : (h : History) → IsWhole h → (name : List ℕ) (start : ℕ) (heads : List ℕ) → AreHeads h heads
    → AreHeads (with_branch h name start) (heads ++ start ∷ [])
heads_branch h whole name start heads are =
    let b : Branch = record { name = name; start = start } in (
      omega (arith, length-append heads (start ∷ []), length-append h.branches (b ∷ []), are.0),
      λ branch within.
          each branch within (nat_eq (length h.branches) branch) refl,
    )
  where
    each : (branch : ℕ) → branch < length (with_branch h name start).branches → (b : Bool) → nat_eq (length h.branches) branch ≡ b
        → get_or (heads ++ start ∷ []) branch 0 ≡ head (with_branch h name start) branch
    each branch within true is =
        subst (λ k. get_or (heads ++ start ∷ []) k 0 ≡ head (with_branch h name start) k) (eqb-true (length h.branches) branch is)
        (subst (λ k. get_or (heads ++ start ∷ []) k 0 ≡ start) are.0 (get_or-append_seam heads start [] 0) ∙ sym (head_new h whole name start))
    each branch within false is =
        let apart : length h.branches ≢ branch = eqb-false (length h.branches) branch is in
        let longer : length (with_branch h name start).branches ≡ length h.branches + 1 =
        length-append h.branches (record { name = name; start = start } ∷ []) in
        let known : branch < length h.branches = omega (arith, within, longer, apart) in
        get_or_append_left heads (start ∷ []) 0 branch (omega (arith, known, are.0)) ∙ are.1 branch known ∙ sym (head_kept h name start branch known)
