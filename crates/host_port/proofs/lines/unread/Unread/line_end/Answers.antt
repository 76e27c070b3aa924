use Rattle.std.proofs.Common.{arith, sym}
use Rattle.host_port.proofs.ScriptCuts.{line_faults}
use Rattle.host_port.proofs.lines.unread.Unread.line_end.Goals as goal

pub returns-in-Feed-clause-fault : goal.returns-in-Feed-clause-fault
returns-in-Feed-clause-fault g c = λ tells. rw (sym c.in_ok-len.ensures.offset, sym (c.in_ok-len.ensures.unread tells))
    (line_faults c.within_limit.result c.piece_end.new.self.offset c.in_ok-len.len c.piece_end.new.self.pending (g.H.Host.told c.piece_end.new.host).left
    (omega (arith, (c.in_ok-len.ensures.feed c.in-Feed.is).0)) c.in_ok-len.ensures.clear
    (grind (arith, c.piece_end.new.self.within)) c.within_limit.ensures.err)

pub returns-in-Far-clause-fault : goal.returns-in-Far-clause-fault
returns-in-Far-clause-fault g c = λ tells. rw (sym c.in_ok-len.ensures.offset, sym (c.in_ok-len.ensures.unread tells))
    (line_faults c.within_limit-in-Far.result c.piece_end.new.self.offset c.in_ok-len.len c.piece_end.new.self.pending (g.H.Host.told c.piece_end.new.host).left
    (grind arith) c.in_ok-len.ensures.clear (grind (arith, c.piece_end.new.self.within)) c.within_limit-in-Far.ensures.err)
