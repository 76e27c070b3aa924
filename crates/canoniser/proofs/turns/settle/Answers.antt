-- one operation more
use Rattle.std.proofs.Common.{◌≡◌, ◌+◌, length, ap, subst, refl, ◌∙◌, arith}
use Rattle.merge_laws.specs.Rules.{Settles}
use Rattle.canoniser.specs.Meetings.{standing_of}
use Rattle.canoniser.proofs.Comes.{calm_none, calm_settles}
use Rattle.canoniser.proofs.turns.settle.Goals as goal

pub loop-init : goal.loop-init
loop-init c = record {
  keeps = c.in_ok-standing.ensures.keeps;
  printed = c.requires.printed;
  calm = calm_none c.args.meta.now c.in_ok-standing.standing.stands.items c.args.list.now.items c.in_ok-standing.ensures.none;
  leads = λ r h. subst (λ l. Settles c.args.meta.now l r) (ap (λ s. standing_of s c.args.list.now.items) c.in_ok-standing.ensures.none) h;
  many = ap length c.in_ok-standing.ensures.none;
  size = refl;
}

pub loop-preserved : goal.loop-preserved
loop-preserved c = record {
  keeps = c.in_ok-enter.ensures.keeps;
  printed = c.in_ok-enter.ensures.printed;
  calm = c.in_ok-enter.ensures.calm;
  leads = λ r h. c.loop.invariant.leads r (c.in_ok-enter.ensures.leads r h);
  many = c.in_ok-enter.ensures.many ∙ ap (λ n. n + 1) c.loop.invariant.many;
  size = c.in_ok-enter.ensures.size ∙ c.loop.invariant.size;
}

pub returns-clause-settles : goal.returns-clause-settles
returns-clause-settles c =
    let past = c.loop-test.false in
    let many = c.loop.invariant.many in
    let size = c.loop.invariant.size in
    let end : c.len-end.result ≡ length c.args.list.now.items = c.len-end.ensures ∙ c.args.list.now.ok.0 in
    c.loop.invariant.leads (standing_of c.loop.standing.stands.items c.loop.list.items)
    (calm_settles c.args.meta.now c.loop.standing.stands.items c.loop.list.items c.loop.invariant.calm (omega (arith, past, many, size, end)))
