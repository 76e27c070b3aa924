use Rattle.std.proofs.Common.{ap, ◌∙◌}
use Rattle.std.specs.Prelude.{None, Some}
use Rattle.std.specs.Option.{option_copied}
use Rattle.std.specs.FinMap.{get}
use Rattle.ranked_lists.specs.Ranked.{rank_map, named}
use Rattle.ranked_lists.proofs.Keyed.{lookup-text, table_rank}
use Rattle.ranked_lists.proofs.many.Many.rank.Goals as goal

pub returns-in-None : goal.returns-in-None
returns-in-None c =
    let a = c.self.inside in
    let is = lookup-text a.by_id.entries c.args.e.now c.as_str.result.now c.as_str.ensures.bytes _ c.get.ensures.value ∙ ap option_copied c.in-None.is in
    table_rank (named a.by_id.entries) (rank_map a.by_rank.keys) c.self.invariant.1 c.args.e.now None is ∙ ap (λ m. get m c.args.e.now) c.self.view_is

pub returns-in-Some : goal.returns-in-Some
returns-in-Some c =
    let a = c.self.inside in
    let is = lookup-text a.by_id.entries c.args.e.now c.as_str.result.now c.as_str.ensures.bytes _ c.get.ensures.value ∙ ap option_copied c.in-Some.is in
    table_rank (named a.by_id.entries) (rank_map a.by_rank.keys) c.self.invariant.1 c.args.e.now (Some c.in-Some.entry.now) is
    ∙ ap (λ m. get m c.args.e.now) c.self.view_is
