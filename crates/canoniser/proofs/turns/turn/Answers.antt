-- by the rule that was found, if any
use Rattle.std.proofs.Common.{◌<◌, length, sym, ap, subst, ◌∙◌, rules}
use Rattle.footprint.proofs.Printed.{as_many}
use Rattle.canoniser.proofs.Comes.{within_ops, none_calm, place_low, turned_by}
use Rattle.canoniser.proofs.Turning.{found_of, missed_of}
use Rattle.canoniser.proofs.turns.turn.Goals as goal

pub nearest-requires : goal.nearest-requires
nearest-requires c = record {
  keeps = c.requires.keeps;
  within = subst (λ l. c.args.at < length l) (sym c.deref.ensures.value)
      (within_ops c.args.meta.now c.args.standing.now.stands.items c.args.prints.now c.args.list.now.items c.args.at c.requires.printed c.requires.ready);
  many = as_many c.args.meta.now c.args.prints.now c.args.list.now.items c.requires.printed ∙ ap length (sym c.deref.ensures.value);
}

pub returns-in-None-clause-turned : goal.returns-in-None-clause-turned
returns-in-None-clause-turned c =
    none_calm c.args.meta.now c.args.standing.now.stands.items c.args.prints.now c.args.list.now.items c.args.at c.requires.printed c.requires.ready
    (missed_of c.args.standing.now.stands.items c.args.prints.now c.args.list.now.items c.deref.result.now c.args.at c.deref.ensures.value
    c.in_ok-nearest.field-0 c.in_ok-nearest.ensures c.in-None.is)

pub take_out-place-requires-clause-low : goal.take_out-place-requires-clause-low
take_out-place-requires-clause-low c =
    place_low c.args.meta.now c.args.standing.now.stands.items c.args.prints.now c.args.list.now.items c.args.at c.requires.printed c.requires.ready
    c.in-Some.found.at c.in-Some.found.left
    (found_of c.args.standing.now.stands.items c.args.prints.now c.args.list.now.items c.deref.result.now c.args.at c.deref.ensures.value
    c.in_ok-nearest.field-0 c.in_ok-nearest.ensures c.in-Some.found c.in-Some.is)

pub returns-in-Some : goal.returns-in-Some
returns-in-Some c =
    let turned = turned_by c.args.meta.now c.args.standing.now.stands.items c.args.prints.now c.args.list.now.items c.args.at c.requires.printed
    c.requires.ready c.in-Some.found.at c.in-Some.found.left
    (found_of c.args.standing.now.stands.items c.args.prints.now c.args.list.now.items c.deref.result.now c.args.at c.deref.ensures.value
    c.in_ok-nearest.field-0 c.in_ok-nearest.ensures c.in-Some.found c.in-Some.is)
    c.take_out-place.new.standing.stands.items c.take_out-place.new.list.items c.take_out-place.result c.take_out-place.ensures.stands
    c.take_out-place.ensures.list c.take_out-place.ensures.place in
    record {
      keeps = c.take_out-place.ensures.keeps;
      printed = turned.printed;
      leads = turned.leads;
      turned = turned.turned;
      lower = turned.lower;
      many = search rules;
      size = search rules;
    }
