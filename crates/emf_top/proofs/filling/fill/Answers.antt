-- Items answered without their replies, and one line at the end: for each way out, what was printed and what the store holds.
use Rattle.std.proofs.Common.{◌-◌, ◌+◌, length, arith, ℕ, List, Option, refl, sym, ◌∙◌, ap, false}
use Rattle.store_session.specs.Session.{answer_to}
use Rattle.store_runs.proofs.Printing.{accepted_told, untold}
use Rattle.store_runs.proofs.Script.{decide_read}
use Rattle.emf_top.specs.Tasks.{filling, outcome}
use Rattle.emf_top.proofs.Quietly.{at_outcome, fault_done, filled_on, fills_start, gets_reply, given, memory_done, outcome_is}
use Rattle.emf_top.proofs.filling.fill.Goals as goal

pub items-init : goal.items-init
items-init g c = fills_start
    (g.H.Host.told c.args.host.now) c.args.session.now.state c.args.items.now c.args.session.now.broken c.requires.whole c.requires.open

pub returns-in-Err-clause-done : goal.returns-in-Err-clause-done
returns-in-Err-clause-done g c =
    λ made holds. rw c.status_of.ensures
    (fault_done (g.H.Host.told c.args.host.now)
    (g.H.Host.told c.items.host) c.args.session.now.state c.args.items.now c.items.item-index c.items.refused c.items.session.state
    c.items.session.broken c.items.invariant c.item-item.result (omega arith) c.item-item.is (g.H.Host.told c.step_quiet.new.host)
    (answer_to c.items.session.state c.line.result.now c.block.result.now)
    (decide_read c.items.session.state c.item-item.result
    (gets_reply c.args.items.now c.items.item-index c.item-item.result c.requires.plain (omega arith) c.item-item.is)
    ∙ ap (λ (l : List ℕ). answer_to c.items.session.state l c.item-item.result.block) (sym c.line.ensures)
    ∙ ap (λ (b : Option (List ℕ)). answer_to c.items.session.state c.line.result.now b) (sym c.block.ensures)) c.step_quiet.ensures.course
    c.step_quiet.ensures.said c.step_quiet.ensures.entering c.step_quiet.ensures.still
    c.in-Err.fault c.in-Err.ensures.faults (λ is. c.in-Err.ensures.event (rw is refl)) (λ is. c.in-Err.ensures.memory (rw is refl))
    (λ told_d. g.met.H.Host.now_is_left c.step_quiet.new.host (g.H.Host.told c.step_quiet.new.host).clock told_d (omega arith)) made holds)

pub items-preserved : goal.items-preserved
items-preserved g c = filled_on (g.H.Host.told c.args.host.now)
    (g.H.Host.told c.items.host) c.args.session.now.state c.args.items.now c.items.item-index c.items.refused c.items.session.state
    c.items.session.broken c.items.invariant c.item-item.result (omega arith) c.item-item.is (g.H.Host.told c.step_quiet.new.host)
    (answer_to c.items.session.state c.line.result.now c.block.result.now)
    (decide_read c.items.session.state c.item-item.result
    (gets_reply c.args.items.now c.items.item-index c.item-item.result c.requires.plain (omega arith) c.item-item.is)
    ∙ ap (λ (l : List ℕ). answer_to c.items.session.state l c.item-item.result.block) (sym c.line.ensures)
    ∙ ap (λ (b : Option (List ℕ)). answer_to c.items.session.state c.line.result.now b) (sym c.block.ensures)) c.step_quiet.ensures.course
    c.step_quiet.ensures.said c.step_quiet.ensures.entering c.step_quiet.ensures.still
    c.step_quiet.new.self.state c.in-Ok.ensures.state c.in-Ok.ensures.added _ c.step_quiet.new.self.broken c.in-Ok.ensures.whole c.step_quiet.ensures.input
    (ap (λ (n : ℕ). c.items.refused + n)
    (c.refusals-refused.ensures.count (answer_to c.items.session.state c.line.result.now c.block.result.now).refused c.in-Ok.ensures.refused))

pub returns-in_default-clause-done : goal.returns-in_default-clause-done
returns-in_default-clause-done g c =
    λ made holds. memory_done (g.H.Host.told c.args.host.now)
    (g.H.Host.told c.items.host) c.args.session.now.state c.args.items.now c.items.item-index c.items.refused c.items.session.state
    c.items.session.broken c.items.invariant c.items-test.false made holds

pub returns-in-Ok-said-clause-done : goal.returns-in-Ok-said-clause-done
returns-in-Ok-said-clause-done g c =
    λ made holds. accepted_told (g.H.Host.told c.args.host.now) (g.H.Host.told c.items.host) (g.H.Host.told c.say-said.new.self) made
    (filling c.args.session.now.state c.args.items.now) c.items.session.state
    (outcome c.args.session.now.state (given c.args.session.now.state c.args.items.now)) c.as_bytes.result.now
    (c.as_bytes.ensures.value ∙ c.in-Ok-outcome_line.ensures.line
    ∙ outcome_is (g.H.Host.told c.args.host.now)
    (g.H.Host.told c.items.host) c.args.session.now.state c.args.items.now c.items.item-index c.items.refused c.items.session.state
    c.items.session.broken c.items.invariant c.items-test.false (length c.args.items.now - c.items.refused) refl) false
    (λ told. at_outcome (g.H.Host.told c.args.host.now)
    (g.H.Host.told c.items.host) c.args.session.now.state c.args.items.now c.items.item-index c.items.refused c.items.session.state
    c.items.session.broken c.items.invariant c.items-test.false told made holds) c.items.invariant.course c.say-said.ensures.course
    c.say-said.ensures.disk c.say-said.ensures.part refl c.in-Ok-said.ensures.whole refl

pub returns-clause-done : goal.returns-clause-done
returns-clause-done g c =
    λ made holds. untold (g.H.Host.told c.args.host.now) (g.H.Host.told c.items.host) (g.H.Host.told c.say-said.new.self) made
    (filling c.args.session.now.state c.args.items.now) c.items.session.state
    (outcome c.args.session.now.state (given c.args.session.now.state c.args.items.now)) c.as_bytes.result.now
    (c.as_bytes.ensures.value ∙ c.in-Ok-outcome_line.ensures.line
    ∙ outcome_is (g.H.Host.told c.args.host.now)
    (g.H.Host.told c.items.host) c.args.session.now.state c.args.items.now c.items.item-index c.items.refused c.items.session.state
    c.items.session.broken c.items.invariant c.items-test.false (length c.args.items.now - c.items.refused) refl) false
    (λ told. at_outcome (g.H.Host.told c.args.host.now)
    (g.H.Host.told c.items.host) c.args.session.now.state c.args.items.now c.items.item-index c.items.refused c.items.session.state
    c.items.session.broken c.items.invariant c.items-test.false told made holds) c.items.invariant.course c.say-said.ensures.course
    c.say-said.ensures.disk c.say-said.ensures.part
