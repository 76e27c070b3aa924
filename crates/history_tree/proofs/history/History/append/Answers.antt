use Rattle.std.proofs.Common.{ℕ, ◌≡◌, ◌<◌, arith, sym, subst, List, length, Some}
use Rattle.std.specs.Prelude.{All, slice_set}
use Rattle.history_tree.specs.declared.version.Version.{Version}
use Rattle.history_tree.specs.Heads.{AreHeads}
use Rattle.history_tree.specs.History.{History, head, with_version}
use Rattle.history_tree.specs.Room.{HistoryState, most_numbered}
use Rattle.history_tree.specs.Whole.{IsWhole}
use Rattle.history_tree.proofs.Growing.{whole_more}
use Rattle.history_tree.proofs.HeadsBeside.{heads_more}
use Rattle.history_tree.proofs.history.History.append.Goals as goal

pub invariant_of-self : goal.invariant_of-self
invariant_of-self c =
    let v : Version = c.args.version in
    let h : History = record { versions = c.self.inside.versions.items; branches = c.self.inside.branches.items; tags = c.self.inside.tags.items } in
    let seen = sym c.self.view_is in
    let count : length h.versions < most_numbered = subst (λ (s : HistoryState). length s.history.versions < most_numbered) seen c.requires.count in
    let heads : List ℕ = c.self.inside.heads.items in
    let on : v.branch < length h.branches = subst (λ (s : HistoryState). v.branch < length s.history.branches) seen c.requires.branch in
    let number : c.len-number.result ≡ length h.versions = omega (arith, c.len-number.ensures, c.self.inside.versions.ok.0) in
    let added = sym c.push_reserved.ensures.items in (
      subst (λ (vs : List Version). IsWhole (record { versions = vs; branches = c.self.inside.branches.items; tags = c.self.inside.tags.items })) added
          (whole_more h v c.self.invariant.0 on
          (subst (λ (s : HistoryState). v.parent ≡ Some (head s.history v.branch)) seen c.requires.parent)
          (subst (λ (s : HistoryState). All (λ u. u < length s.history.versions) v.merged) seen c.requires.merged)
          c.requires.signed),
      omega (arith, count, c.push_reserved.ensures.len, c.self.inside.versions.ok.0),
      c.self.invariant.2,
      c.self.invariant.3,
      subst (λ (vs : List Version).
          AreHeads (record { versions = vs; branches = c.self.inside.branches.items; tags = c.self.inside.tags.items })
          (slice_set heads v.branch c.len-number.result)) added
          (subst (λ k. AreHeads (with_version h v) (slice_set heads v.branch k)) (sym number) (heads_more h v heads on c.self.invariant.4)),
      c.self.invariant.5,
      c.self.invariant.6,
    )
