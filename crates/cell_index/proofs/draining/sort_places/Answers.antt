-- one place more
use Rattle.std.proofs.Common.{subst, List, ℕ}
use Rattle.std.proofs.lemmas.List.{take_all}
use Rattle.cell_index.specs.Draining.{AreSorted}
use Rattle.cell_index.proofs.Drained.{sort_none, sort_on}
use Rattle.cell_index.proofs.draining.sort_places.Goals as goal

pub loop-place-init : goal.loop-place-init
loop-place-init c = sort_none c.args.prints.now c.args.print.now c.args.flags.now c.args.met.now.items c.args.rest.now.items

pub loop-place-preserved : goal.loop-place-preserved
loop-place-preserved c =
    sort_on c.args.prints.now c.args.print.now c.args.flags.now c.args.places.now c.loop-place.place-index
    c.args.met.now.items c.loop-place.met.items c.sort_place.new.met.items c.args.rest.now.items c.loop-place.rest.items c.sort_place.new.rest.items
    c.loop-place-test.true c.loop-place.invariant c.in_ok-sort_place.ensures

pub returns : goal.returns
returns c =
    let prints = c.args.prints.now in
    let p = c.args.print.now in
    let flags = c.args.flags.now in
    subst (λ (l : List ℕ). AreSorted prints p flags l c.args.met.now.items c.loop-place.met.items c.args.rest.now.items c.loop-place.rest.items)
    (take_all c.loop-place.place-index c.args.places.now c.loop-place-test.false) c.loop-place.invariant
