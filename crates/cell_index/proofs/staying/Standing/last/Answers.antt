-- what is past the last place that was found doesn't touch
use Rattle.cell_index.proofs.Touching.{seek_none, seek_some}
use Rattle.cell_index.proofs.staying.Standing.last.Goals as goal

pub returns-then-end-eq0-clause-last : goal.returns-then-end-eq0-clause-last
returns-then-end-eq0-clause-last c =
    λ p p_is. seek_none c.args.self.now c.args.prints.now c.index-prints-at.result c.args.at c.later_of-end.result c.later_of-end-2.result
    c.later_of-end-3.result c.later_idle-end.result
    c.as_slice-writes.result.now c.as_slice-reads.result.now c.deref.result.now c.deref-2.result.now c.deref-3.result.now c.requires.keeps
    c.as_slice-writes.ensures c.as_slice-reads.ensures c.deref.ensures.value c.deref-2.ensures.value c.deref-3.ensures.value
    c.later_of-end-2.ensures.further c.later_of-end-3.ensures.further c.later_idle-end.ensures.further
    c.later_of-end.ensures.clear c.later_of-end-2.ensures.clear c.later_of-end-3.ensures.clear c.later_idle-end.ensures.clear
    c.later_of-end.ensures.hit c.later_of-end-2.ensures.hit c.later_of-end-3.ensures.hit c.later_idle-end.ensures.hit
    c.index-prints-at.is c.requires.within p p_is c.if-end-eq0.true

pub returns-else-end-eq0-clause-last : goal.returns-else-end-eq0-clause-last
returns-else-end-eq0-clause-last c =
    λ p p_is. seek_some c.args.self.now c.args.prints.now c.index-prints-at.result c.args.at c.later_of-end.result c.later_of-end-2.result
    c.later_of-end-3.result c.later_idle-end.result
    c.as_slice-writes.result.now c.as_slice-reads.result.now c.deref.result.now c.deref-2.result.now c.deref-3.result.now c.requires.keeps
    c.as_slice-writes.ensures c.as_slice-reads.ensures c.deref.ensures.value c.deref-2.ensures.value c.deref-3.ensures.value
    c.later_of-end-2.ensures.further c.later_of-end-3.ensures.further c.later_idle-end.ensures.further
    c.later_of-end.ensures.clear c.later_of-end-2.ensures.clear c.later_of-end-3.ensures.clear c.later_idle-end.ensures.clear
    c.later_of-end.ensures.hit c.later_of-end-2.ensures.hit c.later_of-end-3.ensures.hit c.later_idle-end.ensures.hit
    c.index-prints-at.is c.requires.within p p_is c.if-end-eq0.false

pub returns-else-end-eq0-clause-low : goal.returns-else-end-eq0-clause-low
returns-else-end-eq0-clause-low c = (returns-else-end-eq0-clause-last c c.index-prints-at.result c.index-prints-at.is).hit.low
