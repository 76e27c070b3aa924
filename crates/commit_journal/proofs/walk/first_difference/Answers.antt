use Rattle.std.proofs.Common.{◌≡◌, ℕ, ◌<◌, ◌≤◌, List, length, take, get_or, sym, ◌∙◌, arith, below_more}
use Rattle.std.proofs.lemmas.List.{ext_get_or, get_or-take, length-take}
use Rattle.commit_journal.specs.Journal.{header}
use Rattle.commit_journal.proofs.Ends.{length-header}
use Rattle.commit_journal.proofs.walk.first_difference.Goals as goal

same_so_far : (head : List ℕ) (i : ℕ) → i ≤ length head → i ≤ length header → ((k : ℕ) → k < i → get_or head k 0 ≡ get_or header k 0)
    → take i head ≡ take i header
same_so_far head i low fits same =
    ext_get_or 0 (take i head) (take i header) (omega (arith, length-take i head, length-take i header))
    (λ k below.
    let inside : k < i = omega (arith, below, length-take i head) in
    get_or-take i head k 0 inside ∙ same k inside ∙ sym (get_or-take i header k 0 inside))

pub returns-then-byte-i-clause-differs : goal.returns-then-byte-i-clause-differs
unfolding header
returns-then-byte-i-clause-differs c = record {
  within = c.loop-i-test.true;
  same = same_so_far c.args.head.now c.loop-i.i (omega (arith, c.told-head, c.loop-i-test.true))
      (omega (arith, length-header, c.loop-i-test.true)) c.loop-i.invariant;
  differs = c.if-byte-i.true;
}

pub loop-i-preserved : goal.loop-i-preserved
unfolding header
loop-i-preserved c = below_more _ _ c.loop-i.invariant c.if-byte-i.false

pub returns-clause-same : goal.returns-clause-same
returns-clause-same c =
    ext_get_or 0 c.args.head.now header (c.told-head ∙ sym length-header)
    (λ k below. c.loop-i.invariant k (omega (arith, below, c.told-head, c.loop-i-test.false)))
