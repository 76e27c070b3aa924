-- one print more
use Rattle.std.proofs.Common.{◌<◌, sym, ap, subst, ◌∙◌, arith}
use Rattle.footprint.specs.declared.cell.Print.{Print}
use Rattle.cell_index.proofs.Rows.{print_more}
use Rattle.cell_index.proofs.listing.index_of.Goals as goal

pub loop-k-preserved : goal.loop-k-preserved
loop-k-preserved c = record {
  some_writers = subst (λ n. 0 < n) (sym c.in_ok-put_cells.ensures.wider.size) c.loop-k.invariant.some_writers;
  some_readers = subst (λ n. 0 < n) (sym c.in_ok-put_cells-2.ensures.wider.size) c.loop-k.invariant.some_readers;
  writers = print_more (λ (p : Print). p.writes) c.loop-k.writers.items c.put_cells.new.table.items c.args.prints.now c.loop-k.k
      c.index-prints-k.result c.as_slice.result.now
      c.loop-k-test.true c.index-prints-k.is
      (c.as_slice.ensures ∙ ap (λ (p : Print). p.writes) (sym c.index-prints-k.is)) c.in_ok-put_cells.ensures.wider
      c.in_ok-put_cells.ensures.listed c.loop-k.invariant.writers;
  readers = print_more (λ (p : Print). p.reads) c.loop-k.readers.items c.put_cells-in-loop-k.new.table.items c.args.prints.now c.loop-k.k
      c.index-prints-k-in-loop-k.result c.as_slice-in-loop-k.result.now
      c.loop-k-test.true c.index-prints-k-in-loop-k.is
      (c.as_slice-in-loop-k.ensures ∙ ap (λ (p : Print). p.reads) (sym c.index-prints-k-in-loop-k.is)) c.in_ok-put_cells-2.ensures.wider
      c.in_ok-put_cells-2.ensures.listed c.loop-k.invariant.readers;
}

pub returns : goal.returns
returns c = record {
  some_writers = c.loop-k.invariant.some_writers;
  some_readers = c.loop-k.invariant.some_readers;
  writers = λ k p low is. let past = c.loop-k-test.false in c.loop-k.invariant.writers k p (omega (arith, low, past)) is;
  readers = λ k p low is. let past = c.loop-k-test.false in c.loop-k.invariant.readers k p (omega (arith, low, past)) is;
}
