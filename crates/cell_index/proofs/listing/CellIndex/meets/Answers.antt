-- what no list has isn't met
use Rattle.cell_index.proofs.NoneMeets.{far, meets_one, meets_none, meets_by}
use Rattle.cell_index.proofs.listing.CellIndex.meets.Goals as goal

pub returns-then-any_met_of : goal.returns-then-any_met_of
returns-then-any_met_of c = record { met = meets_one c.args.prints.now c.args.print.now (c.any_met_of.ensures.met c.if-any_met_of.true) }

pub returns-then-any_met_of-2 : goal.returns-then-any_met_of-2
returns-then-any_met_of-2 c = record { met = meets_one c.args.prints.now c.args.print.now (c.any_met_of-2.ensures.met c.if-any_met_of-2.true) }

pub returns : goal.returns
returns c = record {
  met = meets_by c.args.prints.now c.args.print.now c.any_met_of-3.result c.any_met_of-3.ensures.met
      (λ off. meets_none c.args.prints.now c.args.print.now (λ k met.
      far c.args.self.now c.args.prints.now c.args.print.now c.as_slice-writes.result.now c.as_slice-reads.result.now c.deref.result.now
      c.deref-2.result.now c.deref-3.result.now
      k (λ q is. c.requires.index.writers k q met.low is) (λ q is. c.requires.index.readers k q met.low is)
      c.as_slice-writes.ensures c.as_slice-reads.ensures c.deref.ensures.value c.deref-2.ensures.value c.deref-3.ensures.value met
      (λ h in_h in_row. c.any_met_of.ensures.none c.if-any_met_of.false h in_h k in_row met)
      (λ h in_h in_row. c.any_met_of-2.ensures.none c.if-any_met_of-2.false h in_h k in_row met)
      (λ h in_h in_row. c.any_met_of-3.ensures.none off h in_h k in_row met)));
}
