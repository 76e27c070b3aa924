-- A history that grows stays whole.
use Rattle.std.proofs.Common.{◌≡◌, ℕ, suc, ◌+◌, ◌<◌, List, [], ◌∷◌, ◌++◌, length, sym, subst, arith, length-append}
use Rattle.std.specs.Prelude.{All, Some, is_some}
use Rattle.std.proofs.lemmas.List.Elements.{All-push, All-weaker}
use Rattle.history_tree.specs.declared.version.Version.{Version}
use Rattle.history_tree.specs.declared.version.Branch.{Branch}
use Rattle.history_tree.specs.declared.version.Tag.{Tag}
use Rattle.history_tree.specs.History.{History, with_version, head}
use Rattle.history_tree.specs.Whole.{IsWhole, ComesBefore, ParentsComeBefore}
use Rattle.history_tree.proofs.Heads.{head_within}

parents_more : (n : ℕ) (vs : List Version) (v : Version) (m : ℕ) → m ≡ n + length vs → ParentsComeBefore n vs → ComesBefore v.parent m
    → ParentsComeBefore n (vs ++ v ∷ [])
parents_more n [] v m is all before = let same : m ≡ n = omega (arith, is) in (subst (λ k. ComesBefore v.parent k) same before, tt)
parents_more n (w ∷ vs) v m is all before = (all.0, parents_more (suc n) vs v m (omega (arith, is)) all.1 before)

-- one version more, on a branch that is there and after its head
pub whole_more : (h : History) (v : Version) → IsWhole h → v.branch < length h.branches → v.parent ≡ Some (head h v.branch)
    → All (λ u. u < length h.versions) v.merged
    → is_some v.author ≡ is_some v.moment → IsWhole (with_version h v)
whole_more h v whole on parent merged signed =
    let longer : length (h.versions ++ v ∷ []) ≡ length h.versions + 1 = length-append h.versions (v ∷ []) in
    let up : (u : ℕ) → u < length h.versions → u < length (h.versions ++ v ∷ []) = λ u within. omega (arith, within, longer) in
    record {
      some_version = omega (arith, longer);
      some_branch = whole.some_branch;
      parents = parents_more 0 h.versions v (length h.versions) (omega arith) whole.parents
          (subst (λ o. ComesBefore o (length h.versions)) (sym parent) (head_within h v.branch whole));
      branches = All-push (λ (w : Version). w.branch < length h.branches) h.versions v whole.branches on;
      merged = All-push (λ (w : Version). All (λ u. u < length (h.versions ++ v ∷ [])) w.merged) h.versions v
          (All-weaker (λ (w : Version). All (λ u. u < length h.versions) w.merged)
          (λ (w : Version). All (λ u. u < length (h.versions ++ v ∷ [])) w.merged)
          (λ w all. All-weaker (λ u. u < length h.versions) (λ u. u < length (h.versions ++ v ∷ [])) up w.merged all) h.versions whole.merged)
          (All-weaker (λ u. u < length h.versions) (λ u. u < length (h.versions ++ v ∷ [])) up v.merged merged);
      signed = All-push (λ (w : Version). is_some w.author ≡ is_some w.moment) h.versions v whole.signed signed;
      starts = All-weaker (λ (b : Branch). b.start < length h.versions) (λ (b : Branch). b.start < length (h.versions ++ v ∷ []))
          (λ b. up b.start) h.branches whole.starts;
      tags = All-weaker (λ (t : Tag). t.version < length h.versions) (λ (t : Tag). t.version < length (h.versions ++ v ∷ []))
          (λ t. up t.version) h.tags whole.tags;
    }
