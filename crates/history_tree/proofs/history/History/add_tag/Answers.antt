use Rattle.std.proofs.Common.{ℕ, ◌<◌, arith, sym, subst, List, length}
use Rattle.history_tree.specs.declared.version.Tag.{Tag}
use Rattle.history_tree.specs.History.{History}
use Rattle.history_tree.specs.Index.{Knows}
use Rattle.history_tree.specs.Room.{HistoryState, most_numbered}
use Rattle.history_tree.specs.Whole.{IsWhole}
use Rattle.history_tree.proofs.Named.{knows_longer}
use Rattle.history_tree.proofs.Steady.{whole_tag}
use Rattle.history_tree.proofs.history.History.add_tag.Goals as goal

pub invariant_of-self : goal.invariant_of-self
invariant_of-self c =
    let name : List ℕ = c.args.name in
    let version : ℕ = c.args.version in
    let h : History = record { versions = c.self.inside.versions.items; branches = c.self.inside.branches.items; tags = c.self.inside.tags.items } in
    let seen = sym c.self.view_is in
    let count : length h.tags < most_numbered = subst (λ (s : HistoryState). length s.history.tags < most_numbered) seen c.requires.count in
    let within : version < length h.versions = subst (λ (s : HistoryState). version < length s.history.versions) seen c.requires.version in
    let added = sym c.push_reserved.ensures.items in (
      subst (λ (ts : List Tag). IsWhole (record { versions = c.self.inside.versions.items; branches = c.self.inside.branches.items; tags = ts }))
          added (whole_tag h c.self.invariant.0 name version within),
      c.self.invariant.1,
      c.self.invariant.2,
      omega (arith, count, c.push_reserved.ensures.len, c.self.inside.tags.ok.0),
      c.self.invariant.4,
      c.self.invariant.5,
      subst (λ (ts : List Tag). Knows (λ (t : Tag). t.name) c.self.inside.tag_names ts) added
          (knows_longer (λ (t : Tag). t.name) c.self.inside.tag_names h.tags (record { name = name; version = version }) c.self.invariant.6),
    )
