-- one of the others more
use Rattle.std.proofs.Common.{ap, sym, ◌∙◌}
use Rattle.std.specs.List.{list_any}
use Rattle.cell_index.specs.Near.{prints_interfere}
use Rattle.conflict_buckets.proofs.Asked.{others_first, prints_meet, found_here, found_later}
use Rattle.conflict_buckets.proofs.asking.PackageIndex.interferes_with.Goals as goal

pub loop-other-init : goal.loop-other-init
loop-other-init c = others_first c.args.meta.now c.args._package.now c.args.others.now

pub returns-then-meets : goal.returns-then-meets
returns-then-meets c =
    let meta = c.args.meta.now in
    let os = c.args._package.now in
    let p = c.in_ok-print.print in
    let o = c.other-item.result in
    let tells = c.meets.ensures.met ∙ ap (list_any (prints_interfere p)) c.deref.ensures.value
    ∙ prints_meet meta c.args.self.now.prints.items os p o c.requires.index.prints c.in_ok-print.ensures.writes c.in_ok-print.ensures.reads in
    record {
      found = found_here meta os c.args.others.now c.loop-other.other-index o c.loop-other-test.true c.other-item.is c.loop-other.invariant
          (sym tells ∙ c.if-meets.true);
    }

pub loop-other-preserved : goal.loop-other-preserved
loop-other-preserved c =
    let meta = c.args.meta.now in
    let os = c.args._package.now in
    let p = c.in_ok-print.print in
    let o = c.other-item.result in
    let tells = c.meets.ensures.met ∙ ap (list_any (prints_interfere p)) c.deref.ensures.value
    ∙ prints_meet meta c.args.self.now.prints.items os p o c.requires.index.prints c.in_ok-print.ensures.writes c.in_ok-print.ensures.reads in
    found_later meta os c.args.others.now c.loop-other.other-index o c.loop-other-test.true c.other-item.is c.loop-other.invariant
    (sym tells ∙ c.if-meets.false)
