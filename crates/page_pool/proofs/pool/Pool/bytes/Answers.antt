use Rattle.std.proofs.Common.{◌∙◌, arith}
use Rattle.page_pool.proofs.Steps.{out_within, read_at, not_none}
use Rattle.page_pool.proofs.pool.Pool.bytes.Goals as goal

pub index-requires : goal.index-requires
index-requires c = let w =
    out_within c.args.self.now c.self.inside.slots.items c.args.frame.now c.frame.inside.number c.self.view_is c.frame.view_is c.requires.out
    in omega (arith, w)

pub unreachable-requires : goal.unreachable-requires
unreachable-requires c =
    not_none c.args.self.now c.self.inside.slots.items c.args.frame.now c.frame.inside.number c.index.result.now c.self.view_is c.frame.view_is
    c.requires.out c.index.ensures c.in-None.ensures.none

pub returns-clause-bytes : goal.returns-clause-bytes
returns-clause-bytes c =
    read_at c.args.self.now c.self.inside.slots.items c.args.frame.now c.frame.inside.number c.index.result.now c.self.view_is c.frame.view_is
    c.requires.out c.index.ensures ∙ c.in-Some.ensures.some
