-- what the lists have in common stays before the places reached
use Rattle.std.proofs.Common.{refl, sym, arith}
use Rattle.change_index.proofs.Meeting.{cut_first, cut_second, found, none}
use Rattle.change_index.proofs.common.last_common.Goals as goal

pub returns-then-last-written : goal.returns-then-last-written
returns-then-last-written c =
    found c.args.path.now c.args.versions.now c.ends.on_path c.ends.of_versions _ c.requires.path (omega arith) c.ends.invariant.on_path
    (omega arith) c.ends.invariant.of_versions c.ends.invariant.within refl (sym c.if-last-written.true)

pub ends-preserved-then-last-written-2 : goal.ends-preserved-then-last-written-2
ends-preserved-then-last-written-2 c = record {
  on_path = c.ends.invariant.on_path;
  of_versions = omega (arith, c.count_to-of_versions.ensures.within, c.ends.invariant.of_versions);
  within = cut_second c.args.path.now c.args.versions.now c.ends.on_path c.ends.of_versions c.count_to-of_versions.result c.requires.path
      (omega arith) c.ends.invariant.on_path c.ends.invariant.within c.count_to-of_versions.ensures.above;
}

pub ends-preserved : goal.ends-preserved
ends-preserved c = record {
  on_path = omega (arith, c.count_to-on_path.ensures.within, c.ends.invariant.on_path);
  of_versions = c.ends.invariant.of_versions;
  within = cut_first c.args.path.now c.args.versions.now c.ends.on_path c.ends.of_versions c.count_to-on_path.result c.requires.versions
      (omega arith) c.ends.invariant.of_versions c.ends.invariant.within c.count_to-on_path.ensures.above;
}

pub returns-else-of_versions-gt0 : goal.returns-else-of_versions-gt0
returns-else-of_versions-gt0 c = none c.args.path.now c.args.versions.now c.ends.on_path c.ends.of_versions c.ends.invariant.within (λ a b. omega arith)

pub returns-after-ends : goal.returns-after-ends
returns-after-ends c = none c.args.path.now c.args.versions.now c.ends.on_path c.ends.of_versions c.ends.invariant.within (λ a b. omega arith)
