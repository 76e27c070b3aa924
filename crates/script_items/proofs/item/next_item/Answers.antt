use Rattle.std.proofs.Common.{◌++◌, List, ℕ, Some, ap, sym, subst, ◌∙◌}
use Rattle.host_port.specs.Cut.{Script, script_from, with_item}
use Rattle.host_port.specs.Reads.{EndsScript}
use Rattle.host_port.proofs.Course.{told_next}
use Rattle.host_port.proofs.ScriptItems.{script_end}
use Rattle.plain_repository.specs.Lines.{takes_block}
use Rattle.script_items.proofs.Items.{fault_ends_it, got_fault, plain_item, block_item}
use Rattle.script_items.proofs.item.next_item.Goals as goal

pub returns-in_err-next_line-clause-item : goal.returns-in_err-next_line-clause-item
returns-in_err-next_line-clause-item g c =
    λ told. got_fault c.from_residual.result c.in_err-next_line.field-0.0 _ _ c.from_residual.ensures.0 c.from_residual.ensures.1
    (fault_ends_it c.in_err-next_line.field-0.0 c.args.lines.now.offset (c.args.lines.now.pending ++ (g.H.Host.told c.args.host.now).left)
    (c.in_err-next_line.ensures.line told))

pub returns-in-End-clause-item : goal.returns-in-End-clause-item
returns-in-End-clause-item g c =
    λ told. script_end takes_block c.args.lines.now.offset (c.args.lines.now.pending ++ (g.H.Host.told c.args.host.now).left)
    ((rw c.in-End.is at c.in_ok-next_line.ensures.line) told)

pub returns-then-not-takes_block-clause-item : goal.returns-then-not-takes_block-clause-item
returns-then-not-takes_block-clause-item g c = λ told.
    plain_item c.args.lines.now.offset c.next_line.new.self.offset (c.args.lines.now.pending ++ (g.H.Host.told c.args.host.now).left)
    (c.next_line.new.self.pending ++ (g.H.Host.told c.next_line.new.host).left) c.next_line.new.self.text c.in_ok-line.line
    c.in_ok-next_line.field-0 c.in_default.not-End (c.in_ok-next_line.ensures.line told) (c.in_ok-next_line.ensures.past told) c.in_ok-line.ensures.ok
    (sym (ap takes_block c.as_str.ensures) ∙ sym c.if-not-takes_block.ensures)

pub returns-in_err-next_block-clause-item : goal.returns-in_err-next_block-clause-item
returns-in_err-next_block-clause-item g c = λ told.
    let same = block_item c.args.lines.now.offset c.next_line.new.self.offset (c.args.lines.now.pending ++ (g.H.Host.told c.args.host.now).left)
    (c.next_line.new.self.pending ++ (g.H.Host.told c.next_line.new.host).left) c.next_line.new.self.text c.in_ok-line.line
    c.in_ok-next_line.field-0 c.in_default.not-End (c.in_ok-next_line.ensures.line told) (c.in_ok-next_line.ensures.past told) c.in_ok-line.ensures.ok
    (sym (ap takes_block c.as_str.ensures) ∙ sym c.if-not-takes_block.ensures) in
    got_fault c.from_residual-in_err-next_block.result c.in_err-next_block.field-0.0 _ _ c.from_residual-in_err-next_block.ensures.0
    c.from_residual-in_err-next_block.ensures.1 (subst (λ (s : Script). EndsScript c.in_err-next_block.field-0.0 s) (sym same)
    (c.in_err-next_block.ensures.block
    (told_next (g.H.Host.told c.args.host.now) (g.H.Host.told c.next_line.new.host) c.next_line.ensures.course told) takes_block c.in_ok-line.line))

pub returns-clause-item : goal.returns-clause-item
returns-clause-item g c = λ told.
    let same = block_item c.args.lines.now.offset c.next_line.new.self.offset (c.args.lines.now.pending ++ (g.H.Host.told c.args.host.now).left)
    (c.next_line.new.self.pending ++ (g.H.Host.told c.next_line.new.host).left) c.next_line.new.self.text c.in_ok-line.line
    c.in_ok-next_line.field-0 c.in_default.not-End (c.in_ok-next_line.ensures.line told) (c.in_ok-next_line.ensures.past told) c.in_ok-line.ensures.ok
    (sym (ap takes_block c.as_str.ensures) ∙ sym c.if-not-takes_block.ensures) in
    same ∙ c.in_ok-next_block.ensures.block
    (told_next (g.H.Host.told c.args.host.now) (g.H.Host.told c.next_line.new.host) c.next_line.ensures.course told) takes_block c.in_ok-line.line
    ∙ ap (λ (t : List ℕ). with_item c.in_ok-line.line (Some t)
    (script_from takes_block c.next_block.new.self.offset (c.next_block.new.self.pending ++ (g.H.Host.told c.next_block.new.host).left)))
    (sym c.in_ok-read_last.ensures.ok)
