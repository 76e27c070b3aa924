-- The items of a turn, one after the other.
use Rattle.std.proofs.Common.{[], ◌++◌, ◌∷◌, ◌∙◌, None, Some, arith, ap, refl, sym, subst, true, false}
use Rattle.std.specs.Prelude.{IsTrue}
use Rattle.host_port.proofs.Course.{course_on, keeps_input_on}
use Rattle.command_runs.specs.Runs.{after, listed}
use Rattle.plain_repository.specs.State.{State}
use Rattle.plain_repository.specs.Events.{play}
use Rattle.store_session.specs.Tasks.{gated, telling_one}
use Rattle.tool_requests.specs.Turns.{turn_refusal}
use Rattle.turn_frames.specs.Runs.{closing, in_turn, turns_answers}
use Rattle.store_turns.specs.Serving.{manner, said_of}
use Rattle.store_turns.proofs.Answering.{answered_on, fault_done, skipped_on, starved, told_as}
use Rattle.store_turns.proofs.Loop.{end_left, ends_it, item_left, skipped_left}
use Rattle.store_turns.proofs.turns.serve_items.Goals as goal

pub returns-then-is_of_script-clause-on : goal.returns-then-is_of_script-clause-on
returns-then-is_of_script-clause-on g c = λ entry first task end rest stands.
    let grants = c.args.policy.now.grants in
    let user = c.args.user.now in
    let s = c.items.session.state in
    told_as entry (g.H.Host.told c.items.host) first task end (in_turn (manner grants) user s c.items.items.script rest) c.items.so_far s
    c.items.session.broken (c.items.invariant.stands entry first task end rest stands)
    (closing said_of (Some c.in-Err.fault) ++ turns_answers (manner grants) s rest)
    (λ told. end_left grants user s rest (Some c.in-Err.fault) c.items.items.script
    (ends_it c.in-Err.fault c.items.items.script (sym c.is_of_script.ensures ∙ c.if-is_of_script.true) c.in-Err.ensures.item))

pub returns-in-Err-clause-stopped : goal.returns-in-Err-clause-stopped
returns-in-Err-clause-stopped g c = λ entry first task end rest stands.
    starved entry (g.H.Host.told c.items.host) first task end (in_turn
    (manner c.args.policy.now.grants) c.args.user.now c.items.session.state c.items.items.script rest)
    c.items.so_far c.items.session.state c.items.session.broken (c.items.invariant.stands entry first task end rest stands)

pub returns-in-Ok-None-clause-on : goal.returns-in-Ok-None-clause-on
returns-in-Ok-None-clause-on g c = λ entry first task end rest stands.
    let grants = c.args.policy.now.grants in
    let user = c.args.user.now in
    let s = c.items.session.state in
    told_as entry (g.H.Host.told c.items.host) first task end (in_turn (manner grants) user s c.items.items.script rest) c.items.so_far s
    c.items.session.broken (c.items.invariant.stands entry first task end rest stands)
    (closing said_of None ++ turns_answers (manner grants) s rest)
    (λ told. end_left grants user s rest None c.items.items.script (rw c.in-Ok-None.field-0-is at c.in-Ok-None.ensures.item))

pub items-preserved-then-is_skipped : goal.items-preserved-then-is_skipped
items-preserved-then-is_skipped g c =
    let grants = c.args.policy.now.grants in
    let user = c.args.user.now in
    let now = g.H.Host.told c.items.host in
    let s = c.items.session.state in
    record {
      fresh = c.in-Ok-Some.ensures.fresh;
      whole = c.items.invariant.whole;
      course = c.items.invariant.course;
      input = c.items.invariant.input;
      at_rest = c.items.invariant.at_rest;
      stands = λ entry first task end rest stands.
          skipped_on entry now first task end (in_turn (manner grants) user s c.next.new.self.script rest) c.items.so_far s c.items.session.broken
          (told_as entry now first task end (in_turn (manner grants) user s c.items.items.script rest) c.items.so_far s c.items.session.broken
          (c.items.invariant.stands entry first task end rest stands)
          (telling_one [] false ∷ in_turn (manner grants) user s c.next.new.self.script rest)
          (λ told. skipped_left grants user s rest c.in-Ok-Some.item c.next.new.self.script c.items.items.script
          (rw c.in-Ok-Some.field-0-is at c.in-Ok-Some.ensures.item) (sym c.is_skipped.ensures ∙ c.if-is_skipped.true)));
    }

pub items-preserved : goal.items-preserved
items-preserved g c =
    let grants = c.args.policy.now.grants in
    let user = c.args.user.now in
    let start = g.H.Host.told c.args.host.now in
    let now = g.H.Host.told c.items.host in
    let after_it = g.H.Host.told c.answer_item-answered.new.host in
    let s = c.items.session.state in
    let answer = gated (turn_refusal grants user) s c.in-Ok-Some.item in
    record {
      fresh = c.in-Ok-Some.ensures.fresh;
      whole = c.in-Ok.ensures.whole;
      course = course_on start now after_it c.items.invariant.course c.answer_item-answered.ensures.course;
      input = keeps_input_on start now after_it c.items.invariant.input c.answer_item-answered.ensures.input;
      at_rest = λ told.
          let told_now : IsTrue now.tells = subst IsTrue c.answer_item-answered.ensures.course.tells told in
          let had = c.items.invariant.at_rest told_now in
          (had.0 ++ listed answer.event, c.in-Ok.ensures.added told_now had.0 had.1);
      stands = λ entry first task end rest stands.
          let more = in_turn (manner grants) user (after play s answer.event) c.next.new.self.script rest in
          let here = told_as entry now first task end (in_turn (manner grants) user s c.items.items.script rest) c.items.so_far s c.items.session.broken
          (c.items.invariant.stands entry first task end rest stands) (answer ∷ more)
          (λ told. item_left grants user s rest c.in-Ok-Some.item c.next.new.self.script c.items.items.script
          (rw c.in-Ok-Some.field-0-is at c.in-Ok-Some.ensures.item)) in
          told_as entry after_it first task end more c.refused_so_far-so_far.result c.answer_item-answered.new.session.state
          c.answer_item-answered.new.session.broken
          (answered_on entry now first task end (answer ∷ more) c.items.so_far s c.items.session.broken here after_it answer more refl
          c.answer_item-answered.ensures.course c.answer_item-answered.ensures.part c.answer_item-answered.ensures.moments
          c.answer_item-answered.ensures.still c.answer_item-answered.new.session.state c.answer_item-answered.new.session.broken
          c.refused_so_far-so_far.result c.in-Ok.ensures.whole (sym (c.refused_so_far-so_far.ensures answer.refused c.in-Ok.ensures.refused))
          c.in-Ok.ensures.state c.in-Ok.ensures.replied c.in-Ok.ensures.added)
          (in_turn (manner grants) user c.answer_item-answered.new.session.state c.next.new.self.script rest)
          (λ told. ap (λ (t : State). in_turn (manner grants) user t c.next.new.self.script rest) (sym c.in-Ok.ensures.state));
    }

pub returns-in-Err-answered-clause-stopped : goal.returns-in-Err-answered-clause-stopped
returns-in-Err-answered-clause-stopped g c = λ entry first task end rest stands made holds.
    let grants = c.args.policy.now.grants in
    let user = c.args.user.now in
    let now = g.H.Host.told c.items.host in
    let after_it = g.H.Host.told c.answer_item-answered.new.host in
    let s = c.items.session.state in
    let answer = gated (turn_refusal grants user) s c.in-Ok-Some.item in
    let more = in_turn (manner grants) user (after play s answer.event) c.next.new.self.script rest in
    let here = told_as entry now first task end (in_turn (manner grants) user s c.items.items.script rest) c.items.so_far s c.items.session.broken
    (c.items.invariant.stands entry first task end rest stands) (answer ∷ more)
    (λ told. item_left grants user s rest c.in-Ok-Some.item c.next.new.self.script c.items.items.script
    (rw c.in-Ok-Some.field-0-is at c.in-Ok-Some.ensures.item)) in
    rw c.status_of.ensures (fault_done entry now first task end (answer ∷ more) c.items.so_far s c.items.session.broken here after_it answer more refl
    c.answer_item-answered.ensures.course c.answer_item-answered.ensures.part c.answer_item-answered.ensures.moments
    c.answer_item-answered.ensures.still c.in-Err-answered.fault c.answer_item-answered.new.session.state c.in-Err-answered.ensures.added
    c.in-Err-answered.ensures.never (λ is. c.in-Err-answered.ensures.memory (rw is refl))
    (λ is. (c.in-Err-answered.ensures.unsaid (rw is refl), c.in-Err-answered.ensures.event (rw is refl)))
    (λ told_d. g.met.H.Host.now_is_left c.answer_item-answered.new.host (g.H.Host.told c.answer_item-answered.new.host).clock told_d (omega arith))
    made holds)
