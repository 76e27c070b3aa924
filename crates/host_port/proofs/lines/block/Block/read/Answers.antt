use Rattle.std.proofs.Common.{◌∙◌, ◌++◌, ◌≡◌, sym, false, Result, Ok, Err, OnOk}
use Rattle.std.specs.Prelude.{string_bytes}
use Rattle.std.specs.Result.{is_err}
use Rattle.host_port.specs.Cut.{script_from}
use Rattle.host_port.proofs.Course.{told_next}
use Rattle.host_port.proofs.ScriptEnds.{read_whole, read_bad}
use Rattle.host_port.proofs.lines.block.Block.read.Goals as goal

-- what holds where a call went well
went_well : {X E : Type 0} (P : Type 0) (r : Result X E) → is_err r ≡ false → OnOk r P → P
went_well P (Ok x) is p = p
went_well P (Err e) is p = absurd cc

pub returns-in-Some-clause-block : goal.returns-in-Some-clause-block
returns-in-Some-clause-block g c = λ told takes line. read_bad line (string_bytes c.line.new.self.text) c.line.new.self.not_text c.in-Some.at
    (script_from takes c.line.new.unread.offset (c.line.new.unread.pending ++ (g.H.Host.told c.line.new.host).left)) _ c.in-Some.is
    (c.lines.invariant.goes told takes line
    ∙ (went_well _ c.add_plain.result (sym c.is_err.ensures.value ∙ c.if-is_err.false) c.add_plain.ensures.step takes line
    (g.H.Host.told c.lines.host).left
    ∙ (rw c.if-branch.true at
    (c.in_ok-line.ensures.step (told_next (g.H.Host.told c.args.host.now) (g.H.Host.told c.lines.host) c.lines.invariant.course told) takes line))))

pub returns-in-None-clause-block : goal.returns-in-None-clause-block
returns-in-None-clause-block g c = λ told takes line. read_whole line (string_bytes c.line.new.self.text) c.line.new.self.not_text
    (script_from takes c.line.new.unread.offset (c.line.new.unread.pending ++ (g.H.Host.told c.line.new.host).left)) _ c.in-None.is
    (c.lines.invariant.goes told takes line
    ∙ (went_well _ c.add_plain.result (sym c.is_err.ensures.value ∙ c.if-is_err.false) c.add_plain.ensures.step takes line
    (g.H.Host.told c.lines.host).left
    ∙ (rw c.if-branch.true at
    (c.in_ok-line.ensures.step (told_next (g.H.Host.told c.args.host.now) (g.H.Host.told c.lines.host) c.lines.invariant.course told) takes line))))
