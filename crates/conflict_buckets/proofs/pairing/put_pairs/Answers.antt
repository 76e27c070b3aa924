-- one pair more
use Rattle.std.proofs.Common.{◌+◌, ◌<◌, ◌≤◌, ◌++◌, true, false, drop, length, refl, sym, ap, subst, ◌∙◌}
use Rattle.footprint.proofs.Printed.{as_many}
use Rattle.merge_laws.specs.Pairs.{pairs_with}
use Rattle.conflict_buckets.proofs.Paired.{pair_turn, with_end}
use Rattle.conflict_buckets.proofs.pairing.put_pairs.Goals as goal
use Rattle.conflict_buckets.proofs.pairing.put_pairs.Goals.{then-interferes+in_ok-push, else-interferes}

pub loop-k-init : goal.loop-k-init
loop-k-init c = λ meta left ts ms a rest low print_is h g is. refl

pub loop-k-preserved : goal.loop-k-preserved
loop-k-preserved c = λ meta left ts ms a rest low print_is h g is.
    let i = c.args.i in
    let k = c.loop-k.k in
    let whole = c.args.found.now ++ (pairs_with meta i a 0 ms ++ rest) in
    let before : i < length ts = subst (λ n. i < n) (as_many meta left ts h) low in
    let high : k < length ms = subst (λ n. k < n) (as_many meta c.args.right.now ms g) c.loop-k-test.true in
    elim c.if-interferes.branch [
      | then-interferes+in_ok-push w ↦
          ap (λ l. l ++ (pairs_with meta i a (k + 1) (drop (k + 1) ms) ++ rest)) (w.found-is ∙ w.in_ok-push.ensures.ok)
          ∙ pair_turn meta left c.args.right.now ts ms h g i k c.args.print.now c.index-right-k.result before high print_is c.index-right-k.is
          c.loop-k.found rest whole true (sym c.interferes.ensures ∙ w.if-interferes.true) a is (c.loop-k.invariant meta left ts ms a rest low print_is h g is)
      | else-interferes w ↦
          ap (λ l. l ++ (pairs_with meta i a (k + 1) (drop (k + 1) ms) ++ rest)) w.found-is
          ∙ pair_turn meta left c.args.right.now ts ms h g i k c.args.print.now c.index-right-k.result before high print_is c.index-right-k.is
          c.loop-k.found rest whole false (sym c.interferes.ensures ∙ w.if-interferes.false) a is
          (c.loop-k.invariant meta left ts ms a rest low print_is h g is)
    ]

pub returns : goal.returns
returns c = λ meta left ts ms a rest low print_is h g is.
    let high : length ms ≤ c.loop-k.k = subst (λ n. n ≤ c.loop-k.k) (as_many meta c.args.right.now ms g) c.loop-k-test.false in
    with_end meta c.args.i c.loop-k.k a ms c.loop-k.found rest (c.args.found.now ++ (pairs_with meta c.args.i a 0 ms ++ rest)) high
    (c.loop-k.invariant meta left ts ms a rest low print_is h g is)
