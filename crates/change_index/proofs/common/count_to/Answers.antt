-- where the numbers that are at most the bound end
use Rattle.std.proofs.Common.{◌-◌, ◌≤◌, take, drop, leb, arith, rules}
use Rattle.std.proofs.lemmas.List.Sorted.{IsPartitionedBy-leb, IsPartitionPoint-from_clause}
use Rattle.change_index.proofs.Lists.{slice_length, slice_rises}
use Rattle.change_index.proofs.Meeting.{Parts, counted_below, counted_above}
use Rattle.change_index.proofs.common.count_to.Goals as goal

pub returns : goal.returns
returns c =
    let us = c.args.numbers.now in
    let end = c.args.end in
    let u = c.args.bound in
    let start = c.passed_from-start.result in
    let slice = take (end - start) (drop start us) in
    let i = c.partition_point.result in
    let few : i ≤ end - start = omega (arith, c.partition_point.ensures.bound, slice_length us start end c.requires.inside) in
    let parts : Parts slice u i = IsPartitionPoint-from_clause (λ y. leb y u) slice i c.partition_point.ensures.partitioned
    (IsPartitionedBy-leb (λ v. v) slice u (slice_rises us start end c.requires.rises c.requires.inside)) (λ a r q k. search rules) in
    record {
      within = omega (arith, few, c.passed_from-start.ensures.within);
      below = counted_below us start end i u c.passed_from-start.ensures.within few c.passed_from-start.ensures.below parts;
      above = counted_above us start end i u c.requires.inside parts;
    }
