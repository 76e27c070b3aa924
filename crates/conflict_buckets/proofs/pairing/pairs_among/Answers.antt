use Rattle.std.proofs.Common.{◌<◌, ◌≤◌, length, subst}
use Rattle.footprint.proofs.Printed.{as_many}
use Rattle.merge_laws.specs.Pairs.{pairs}
use Rattle.conflict_buckets.proofs.Paired.{pairs_end, pairs_further}
use Rattle.conflict_buckets.proofs.pairing.pairs_among.Goals as goal

pub loop-i-preserved : goal.loop-i-preserved
loop-i-preserved c =
    let meta = c.args._meta.now in
    let ts = c.args._theirs.now in
    let ms = c.args._mine.now in
    let low : c.loop-i.i < length ts = subst (λ n. c.loop-i.i < n) (as_many meta c.args.left.now ts c.requires.left) c.loop-i-test.true in
    pairs_further meta ts ms c.loop-i.i c.loop-i.found c.put_pairs.new.found (pairs meta ts ms) low
    (λ a rest is. c.in_ok-put_pairs.ensures meta c.args.left.now ts ms a rest c.loop-i-test.true c.index-left-i.is c.requires.left
    c.requires.right is) c.loop-i.invariant

pub returns : goal.returns
returns c =
    let meta = c.args._meta.now in
    let ts = c.args._theirs.now in
    let high : length ts ≤ c.loop-i.i = subst (λ n. n ≤ c.loop-i.i) (as_many meta c.args.left.now ts c.requires.left) c.loop-i-test.false in
    pairs_end meta ts c.args._mine.now c.loop-i.i c.loop-i.found (pairs meta ts c.args._mine.now) high c.loop-i.invariant
