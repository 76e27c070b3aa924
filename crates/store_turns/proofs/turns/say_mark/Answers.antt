-- The mark is printed, and is one answer more.
use Rattle.std.proofs.Common.{◌||◌, false, refl}
use Rattle.std.specs.Prelude.{[], ◌∷◌}
use Rattle.turn_frames.specs.Runs.{mark}
use Rattle.command_runs.proofs.RunLaws.{or_false}
use Rattle.store_turns.proofs.Answering.{line_on, line_write_done, refused_as}
use Rattle.store_turns.proofs.turns.say_mark.Goals as goal

pub returns-in-Ok-clause-on : goal.returns-in-Ok-clause-on
returns-in-Ok-clause-on g c = λ entry first task end next state broken stands.
    let a = g.H.Host.told c.args.host.now in
    let d = g.H.Host.told c.say.new.self in
    refused_as entry d first task end next (c.args.refused || false) state broken
    (line_on entry a first task end (mark ∷ next) c.args.refused state broken stands d (10 ∷ []) (10 ∷ []) false next refl refl c.say.ensures.course
    c.say.ensures.disk c.say.ensures.part c.in-Ok.ensures.whole) c.args.refused (or_false c.args.refused)

pub returns-in-Err-clause-stopped : goal.returns-in-Err-clause-stopped
returns-in-Err-clause-stopped g c = λ entry first task end next state broken stands made holds.
    let a = g.H.Host.told c.args.host.now in
    let d = g.H.Host.told c.say.new.self in
    line_write_done entry a first task end (mark ∷ next) c.args.refused state broken stands d (10 ∷ []) (10 ∷ []) false next refl refl c.say.ensures.course
    c.say.ensures.disk c.say.ensures.part made holds
