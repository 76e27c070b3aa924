-- one turn more
use Rattle.std.proofs.Common.{◌<◌, length, sym, ap, subst, refl, ◌∙◌, arith, length-append, true, [], ◌∷◌}
use Rattle.footprint.proofs.Printed.{as_many}
use Rattle.merge_laws.specs.Rules.{Settles}
use Rattle.canoniser.specs.Meetings.{standing_of, Calm, Ready}
use Rattle.canoniser.proofs.Comes.{calm_ready, kept_more}
use Rattle.canoniser.proofs.Turning.{on_some, on_none, if_some}
use Rattle.canoniser.proofs.turns.enter.Goals as goal

pub put-requires-clause-more : goal.put-requires-clause-more
put-requires-clause-more c =
    subst (λ n. length c.args.standing.now.stands.items < n)
    (sym (as_many c.args.meta.now c.args.prints.now c.args.list.now.items c.requires.printed)) c.requires.more

pub loop-place-init : goal.loop-place-init
loop-place-init c = record {
  keeps = c.in_ok-put.ensures.keeps;
  printed = c.requires.printed;
  ready = calm_ready c.args.meta.now c.args.standing.now.stands.items c.put.new.self.stands.items c.args.list.now.items
      (length c.stands-at.result.now) c.requires.calm c.requires.more c.in_ok-put.ensures.stands (ap length c.stands-at.ensures);
  leads = λ r h. subst (λ l. Settles c.args.meta.now l r)
      (ap (λ s. standing_of s c.args.list.now.items) c.in_ok-put.ensures.stands
      ∙ kept_more c.args.standing.now.stands.items c.args.list.now.items c.requires.more) h;
  many = let made = ap length c.in_ok-put.ensures.stands in let sum = length-append c.args.standing.now.stands.items (true ∷ []) in omega (arith, made, sum);
  size = refl;
}

pub loop-place-preserved : goal.loop-place-preserved
loop-place-preserved c = record {
  keeps = c.in_ok-place.ensures.keeps;
  printed = c.in_ok-place.ensures.printed;
  ready = on_some c.in_ok-place.field-0 c.in-Some.place (Calm c.args.meta.now c.turn.new.standing.stands.items c.turn.new.list.items)
      (Ready c.args.meta.now c.turn.new.standing.stands.items c.turn.new.list.items) c.in_ok-place.ensures.turned c.in-Some.is;
  leads = λ r h. c.loop-place.invariant.leads r (c.in_ok-place.ensures.leads r h);
  many = c.in_ok-place.ensures.many ∙ c.loop-place.invariant.many;
  size = c.in_ok-place.ensures.size ∙ c.loop-place.invariant.size;
}

pub loop-place-smaller : goal.loop-place-smaller
loop-place-smaller c = if_some c.in_ok-place.field-0 c.in-Some.place (λ i. i < c.loop-place.at) c.in_ok-place.ensures.lower c.in-Some.is

pub returns-clause-calm : goal.returns-clause-calm
returns-clause-calm c =
    on_none c.in_ok-place.field-0 (Calm c.args.meta.now c.turn.new.standing.stands.items c.turn.new.list.items)
    (Ready c.args.meta.now c.turn.new.standing.stands.items c.turn.new.list.items) c.in_ok-place.ensures.turned c.in_default.is

pub returns-clause-leads : goal.returns-clause-leads
returns-clause-leads c = λ r h. c.loop-place.invariant.leads r (c.in_ok-place.ensures.leads r h)
