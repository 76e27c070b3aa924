use Rattle.std.proofs.Common.{ℕ, ◌<◌, [], ◌∷◌, ◌++◌, arith, sym, subst, List, length}
use Rattle.history_tree.specs.declared.version.Branch.{Branch}
use Rattle.history_tree.specs.Heads.{AreHeads}
use Rattle.history_tree.specs.History.{History}
use Rattle.history_tree.specs.Index.{Knows}
use Rattle.history_tree.specs.Room.{HistoryState, most_numbered}
use Rattle.history_tree.specs.Whole.{IsWhole}
use Rattle.history_tree.proofs.HeadsBeside.{heads_branch}
use Rattle.history_tree.proofs.Named.{knows_longer}
use Rattle.history_tree.proofs.Steady.{whole_branch}
use Rattle.history_tree.proofs.history.History.add_branch.Goals as goal

pub invariant_of-self : goal.invariant_of-self
invariant_of-self c =
    let name : List ℕ = c.args.name in
    let start : ℕ = c.args.start in
    let heads : List ℕ = c.self.inside.heads.items in
    let h : History = record { versions = c.self.inside.versions.items; branches = c.self.inside.branches.items; tags = c.self.inside.tags.items } in
    let seen = sym c.self.view_is in
    let count : length h.branches < most_numbered = subst (λ (s : HistoryState). length s.history.branches < most_numbered) seen c.requires.count in
    let within : start < length h.versions = subst (λ (s : HistoryState). start < length s.history.versions) seen c.requires.start in
    let added = sym c.push_reserved-2.ensures.items in (
      subst (λ (bs : List Branch). IsWhole (record { versions = c.self.inside.versions.items; branches = bs; tags = c.self.inside.tags.items })) added
          (whole_branch h c.self.invariant.0 name start within),
      c.self.invariant.1,
      omega (arith, count, c.push_reserved-2.ensures.len, c.self.inside.branches.ok.0),
      c.self.invariant.3,
      subst (λ (hs : List ℕ).
          AreHeads (record { versions = c.self.inside.versions.items; branches = c.push_reserved-2.new.self.items; tags = c.self.inside.tags.items })
          hs) (sym c.push_reserved.ensures.items)
          (subst (λ (bs : List Branch).
          AreHeads (record { versions = c.self.inside.versions.items; branches = bs; tags = c.self.inside.tags.items }) (heads ++ start ∷ [])) added
          (heads_branch h c.self.invariant.0 name start heads c.self.invariant.4)),
      subst (λ (bs : List Branch). Knows (λ (b : Branch). b.name) c.self.inside.branch_names bs) added
          (knows_longer (λ (b : Branch). b.name) c.self.inside.branch_names h.branches (record { name = name; start = start }) c.self.invariant.5),
      c.self.invariant.6,
    )
