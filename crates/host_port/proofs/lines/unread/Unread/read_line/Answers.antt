use Rattle.std.proofs.Common.{arith, sym, length, ◌≤◌}
use Rattle.host_port.proofs.ScriptCuts.{line_is, past_line}
use Rattle.host_port.proofs.lines.unread.Unread.read_line.Goals as goal

pub returns-clause-line : goal.returns-clause-line
returns-clause-line g c = λ told.
    let h : c.in_ok-len.len ≤ length c.line_end.new.self.pending = grind (arith, c.in_ok-len.ensures.found, c.in_ok-len.ensures.none) in
    let line = line_is c.line_end.new.self.offset c.in_ok-len.len c.in_ok-len.ended c.line_end.new.self.pending (g.H.Host.told c.line_end.new.host).left
    c.in_ok-len.ensures.found c.in_ok-len.ensures.none (c.in_ok-len.ensures.end told) h c.in_ok-len.ensures.limit c.in_ok-len.ensures.within in
    rw (sym (c.in_ok-len.ensures.unread told), sym c.in_ok-len.ensures.offset, line.0) c.line_at.ensures.line

pub returns-clause-past : goal.returns-clause-past
returns-clause-past g c = λ told.
    let h : c.in_ok-len.len ≤ length c.line_end.new.self.pending = grind (arith, c.in_ok-len.ensures.found, c.in_ok-len.ensures.none) in
    let line = line_is c.line_end.new.self.offset c.in_ok-len.len c.in_ok-len.ended c.line_end.new.self.pending (g.H.Host.told c.line_end.new.host).left
    c.in_ok-len.ensures.found c.in_ok-len.ensures.none (c.in_ok-len.ensures.end told) h c.in_ok-len.ensures.limit c.in_ok-len.ensures.within in
    rw (sym (c.in_ok-len.ensures.unread told), sym c.in_ok-len.ensures.offset)
    (past_line c.line_at.result c.in_ok-len.len c.line_end.new.self.offset c.line_at.new.self.offset c.in_ok-len.ended c.line_end.new.self.pending
    (g.H.Host.told c.line_end.new.host).left c.line_at.new.self.pending h (λ t. (c.in_ok-len.ensures.found t).0) (λ f. (c.in_ok-len.ensures.none f).0) line.1
    c.line_at.ensures.pending c.line_at.ensures.offset)
