-- All lines answered: what the loop keeps of them, and what holds when it ends or a call fails.
use Rattle.std.proofs.Common.{arith, ◌++◌, refl, sym, ◌∙◌}
use Rattle.host_port.specs.Cut.{script_from}
use Rattle.host_port.proofs.Course.{rose_second}
use Rattle.plain_repository.specs.Lines.{takes_block}
use Rattle.store_session.specs.Tasks.{gated}
use Rattle.store_runs.proofs.Script.{accepted_done, fault_done, gated_skipped, open_for, refused_done, serving_on, serving_starts, skipped_on}
use Rattle.store_runs.proofs.Script.{status_failed, step_fault_done}
use Rattle.store_runs.proofs.serving.serve_lines.Goals as goal

pub commands-init : goal.commands-init
commands-init g c = serving_starts (gated (g.G.Gate.refusal c.args.gate.now))
    (g.H.Host.told c.args.host.now) c.args.session.now.state c.args.lines.now.failed c.args.lines.now.offset c.args.lines.now.pending
    c.args.session.now.broken c.requires.fresh c.requires.whole c.requires.open

pub returns-in-Err-clause-done : goal.returns-in-Err-clause-done
returns-in-Err-clause-done g c = λ made holds.
    let rule = gated (g.G.Gate.refusal c.args.gate.now) in
    let entry = g.H.Host.told c.args.host.now in
    let now = g.H.Host.told c.commands.host in
    let next = g.H.Host.told c.next_item.new.host in
    let whole = script_from takes_block c.args.lines.now.offset (c.args.lines.now.pending ++ entry.left) in
    rw c.status_of_input.ensures (fault_done rule entry now next c.args.session.now.state whole c.commands.lines.failed c.commands.lines.offset
    c.commands.lines.pending c.commands.refused c.commands.session.state c.commands.session.broken c.commands.invariant c.next_item.ensures.course
    c.next_item.ensures.disk c.next_item.ensures.said made holds c.in-Err.fault
    (script_from takes_block c.next_item.new.lines.offset (c.next_item.new.lines.pending ++ next.left)) c.in-Err.ensures.item)

pub returns-in-Err-clause-read : goal.returns-in-Err-clause-read
returns-in-Err-clause-read g c = λ is.
    let failed = status_failed c.in-Err.fault (sym c.status_of_input.ensures ∙ is) in
    rose_second (g.H.Host.told c.args.host.now).take_faults (g.H.Host.told c.commands.host).take_faults
    (g.H.Host.told c.next_item.new.host).take_faults c.commands.invariant.course.take_faults (c.in-Err.ensures.cause (rw failed refl))

pub returns-then-refused-clause-done : goal.returns-then-refused-clause-done
returns-then-refused-clause-done g c = λ made holds.
    let rule = gated (g.G.Gate.refusal c.args.gate.now) in
    let entry = g.H.Host.told c.args.host.now in
    let now = g.H.Host.told c.commands.host in
    let next = g.H.Host.told c.next_item.new.host in
    let whole = script_from takes_block c.args.lines.now.offset (c.args.lines.now.pending ++ entry.left) in
    refused_done rule entry now next c.args.session.now.state whole c.commands.lines.failed c.commands.lines.offset c.commands.lines.pending
    c.commands.refused c.commands.session.state c.commands.session.broken c.commands.invariant c.next_item.ensures.course c.next_item.ensures.disk
    c.next_item.ensures.said made holds (rw c.in-Ok-None.field-0-is at c.in-Ok-None.ensures.item)
    (rw c.in-Ok-None.field-0-is at c.in-Ok-None.ensures.end) c.if-refused.true

pub returns-in-Ok-None-clause-done : goal.returns-in-Ok-None-clause-done
returns-in-Ok-None-clause-done g c = λ made holds.
    let rule = gated (g.G.Gate.refusal c.args.gate.now) in
    let entry = g.H.Host.told c.args.host.now in
    let now = g.H.Host.told c.commands.host in
    let next = g.H.Host.told c.next_item.new.host in
    let whole = script_from takes_block c.args.lines.now.offset (c.args.lines.now.pending ++ entry.left) in
    accepted_done rule entry now next c.args.session.now.state whole c.commands.lines.failed c.commands.lines.offset c.commands.lines.pending
    c.commands.refused c.commands.session.state c.commands.session.broken c.commands.invariant c.next_item.ensures.course c.next_item.ensures.disk
    c.next_item.ensures.said made holds (rw c.in-Ok-None.field-0-is at c.in-Ok-None.ensures.item)
    (rw c.in-Ok-None.field-0-is at c.in-Ok-None.ensures.end) c.if-refused.false

pub answer_item-answered-requires-clause-open : goal.answer_item-answered-requires-clause-open
answer_item-answered-requires-clause-open g c =
    let rule = gated (g.G.Gate.refusal c.args.gate.now) in
    let entry = g.H.Host.told c.args.host.now in
    let now = g.H.Host.told c.commands.host in
    let next = g.H.Host.told c.next_item.new.host in
    let whole = script_from takes_block c.args.lines.now.offset (c.args.lines.now.pending ++ entry.left) in
    open_for rule entry now next c.args.session.now.state whole c.commands.lines.failed c.commands.lines.offset c.commands.lines.pending
    c.commands.refused c.commands.session.state c.commands.session.broken c.commands.invariant c.next_item.ensures.course c.next_item.ensures.disk
    c.next_item.ensures.said c.in-Ok-Some.item c.next_item.new.lines.offset c.next_item.new.lines.pending
    (rw c.in-Ok-Some.field-0-is at c.in-Ok-Some.ensures.item)

pub answer_item-answered-requires-clause-read : goal.answer_item-answered-requires-clause-read
answer_item-answered-requires-clause-read g c = sym c.is_skipped.ensures ∙ c.if-is_skipped.false

pub commands-preserved-then-is_skipped : goal.commands-preserved-then-is_skipped
commands-preserved-then-is_skipped g c =
    let rule = gated (g.G.Gate.refusal c.args.gate.now) in
    let entry = g.H.Host.told c.args.host.now in
    let now = g.H.Host.told c.commands.host in
    let next = g.H.Host.told c.next_item.new.host in
    let whole = script_from takes_block c.args.lines.now.offset (c.args.lines.now.pending ++ entry.left) in
    skipped_on rule entry now next c.args.session.now.state whole c.commands.lines.failed c.commands.lines.offset c.commands.lines.pending
    c.commands.refused c.commands.session.state c.commands.session.broken c.commands.invariant c.next_item.ensures.course c.next_item.ensures.disk
    c.next_item.ensures.said c.in-Ok-Some.item c.next_item.new.lines.offset c.next_item.new.lines.pending
    (rw c.in-Ok-Some.field-0-is at c.in-Ok-Some.ensures.item) c.next_item.new.lines.failed c.in-Ok-Some.ensures.fresh
    (gated_skipped c.commands.session.state c.in-Ok-Some.item (sym c.is_skipped.ensures ∙ c.if-is_skipped.true)
    (g.G.Gate.refusal c.args.gate.now c.commands.session.state c.in-Ok-Some.item.line))

pub returns-in-Err-answered-clause-done : goal.returns-in-Err-answered-clause-done
returns-in-Err-answered-clause-done g c = λ made holds.
    let rule = gated (g.G.Gate.refusal c.args.gate.now) in
    let entry = g.H.Host.told c.args.host.now in
    let now = g.H.Host.told c.commands.host in
    let next = g.H.Host.told c.next_item.new.host in
    let whole = script_from takes_block c.args.lines.now.offset (c.args.lines.now.pending ++ entry.left) in
    rw c.status_of.ensures (step_fault_done rule entry now next c.args.session.now.state whole c.commands.lines.failed c.commands.lines.offset
    c.commands.lines.pending c.commands.refused c.commands.session.state c.commands.session.broken c.commands.invariant c.next_item.ensures.course
    c.next_item.ensures.disk c.next_item.ensures.said c.in-Ok-Some.item c.next_item.new.lines.offset c.next_item.new.lines.pending
    (rw c.in-Ok-Some.field-0-is at c.in-Ok-Some.ensures.item) (g.H.Host.told c.answer_item-answered.new.host)
    (rule c.commands.session.state c.in-Ok-Some.item) refl c.answer_item-answered.ensures.course c.answer_item-answered.ensures.part
    c.answer_item-answered.ensures.moments c.answer_item-answered.ensures.still c.in-Err-answered.fault c.answer_item-answered.new.session.state
    c.in-Err-answered.ensures.added c.in-Err-answered.ensures.never (λ is. c.in-Err-answered.ensures.memory (rw is refl))
    (λ is. (c.in-Err-answered.ensures.unsaid (rw is refl), c.in-Err-answered.ensures.event (rw is refl)))
    (λ told_d. g.met.H.Host.now_is_left c.answer_item-answered.new.host (g.H.Host.told c.answer_item-answered.new.host).clock told_d (omega arith))
    made holds)

pub commands-preserved : goal.commands-preserved
commands-preserved g c =
    let rule = gated (g.G.Gate.refusal c.args.gate.now) in
    let entry = g.H.Host.told c.args.host.now in
    let now = g.H.Host.told c.commands.host in
    let next = g.H.Host.told c.next_item.new.host in
    let whole = script_from takes_block c.args.lines.now.offset (c.args.lines.now.pending ++ entry.left) in
    serving_on rule entry now next c.args.session.now.state whole c.commands.lines.failed c.commands.lines.offset c.commands.lines.pending
    c.commands.refused c.commands.session.state c.commands.session.broken c.commands.invariant c.next_item.ensures.course c.next_item.ensures.disk
    c.next_item.ensures.said c.in-Ok-Some.item c.next_item.new.lines.offset c.next_item.new.lines.pending
    (rw c.in-Ok-Some.field-0-is at c.in-Ok-Some.ensures.item) (g.H.Host.told c.answer_item-answered.new.host)
    (rule c.commands.session.state c.in-Ok-Some.item) refl c.answer_item-answered.ensures.course c.answer_item-answered.ensures.part
    c.answer_item-answered.ensures.moments c.answer_item-answered.ensures.still c.next_item.new.lines.failed c.answer_item-answered.new.session.state
    c.answer_item-answered.new.session.broken _ c.in-Ok-Some.ensures.fresh c.in-Ok.ensures.whole c.answer_item-answered.ensures.input
    (sym (c.refused_so_far-refused.ensures (rule c.commands.session.state c.in-Ok-Some.item).refused c.in-Ok.ensures.refused)) c.in-Ok.ensures.state
    c.in-Ok.ensures.replied c.in-Ok.ensures.added
