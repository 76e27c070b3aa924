-- the list of the slot is the rest
use Rattle.std.proofs.Common.{[], refl, set, subst, List, ℕ}
use Rattle.cell_index.specs.Draining.{AreSorted}
use Rattle.cell_index.proofs.Drained.{drain_slot, drain_found}
use Rattle.cell_index.proofs.draining.drain.Goals as goal

pub returns-clause-drained : goal.returns-clause-drained
returns-clause-drained c =
    let prints = c.args.prints.now in
    let p = c.args.print.now in
    let flags = c.args.flags.now in
    let met = c.args.met.now.items in
    let more = c.sort_places.new.met.items in
    let w = c.sort_places.new.rest in
    let sorted = subst (λ (l : List ℕ). AreSorted prints p flags l met more [] w.items) c.deref.ensures.value
    (subst (λ (l : List ℕ). AreSorted prints p flags c.deref.result.now met more l w.items) c.new-rest.ensures.items c.in_ok-sort_places.ensures) in
    drain_slot prints p flags c.args.table.now.items _ c.args.slot c.index.result.now w met more c.requires c.index.ensures refl sorted

pub returns-clause-found : goal.returns-clause-found
returns-clause-found c =
    let prints = c.args.prints.now in
    let p = c.args.print.now in
    let flags = c.args.flags.now in
    let met = c.args.met.now.items in
    let more = c.sort_places.new.met.items in
    let w = c.sort_places.new.rest in
    let table = c.args.table.now.items in
    let sorted = subst (λ (l : List ℕ). AreSorted prints p flags l met more [] w.items) c.deref.ensures.value
    (subst (λ (l : List ℕ). AreSorted prints p flags c.deref.result.now met more l w.items) c.new-rest.ensures.items c.in_ok-sort_places.ensures) in
    drain_found prints p flags table (set table c.args.slot w) c.args.slot c.index.result.now w met more c.requires c.index.ensures refl sorted
