-- What each command of a change asks of the repository: that it is there, and that its text is short enough.
use Rattle.std.proofs.Common.{◌≡◌, ap, arith, length, subst, true}
use Rattle.std.specs.Prelude.{◌||◌}
use Rattle.op_form.specs.Events.{event_encoding}
use Rattle.op_form.specs.declared.event.Event.{Event}
use Rattle.plain_repository.proofs.Encodings.{evolve_text_shorter, text_shorter}
use Rattle.plain_repository.specs.State.{State}
use Rattle.plain_repository.specs.Events.{playable_with}
use Rattle.event_play.specs.Foreseen.{IsForeseen}
use Rattle.event_play.specs.Playing.{is_tested_late}
use Rattle.event_play.proofs.There.{begin_there, branch_there, commit_there, discard_there, drop_there, end_there, signed_there, undo_there}
use Rattle.event_play.proofs.playing.change.Goals as goal

-- the event can be played there, or that is found out later
abbrev IsTested : State → Event → Type 0
IsTested repo e = (is_tested_late e || playable_with repo repo.meta e) ≡ true

pub begin-requires-clause-short : goal.begin-requires-clause-short
begin-requires-clause-short c = omega (arith, text_shorter c.in-Init.text, ap (λ (e : Event). length (event_encoding e)) c.in-Init.is, c.requires.short)

pub open_composite-requires-clause-there : goal.open_composite-requires-clause-there
open_composite-requires-clause-there c =
    begin_there c.args.repo.now c.args.repo.now.meta c.in-Begin.ws c.in-Begin.name
    (subst (IsTested c.args.repo.now) c.in-Begin.is c.requires.tested)

pub close_composite-requires-clause-there : goal.close_composite-requires-clause-there
close_composite-requires-clause-there c =
    end_there c.args.repo.now c.args.repo.now.meta c.in-End.ws
    (subst (IsTested c.args.repo.now) c.in-End.is c.requires.tested)

pub undo-requires-clause-there : goal.undo-requires-clause-there
undo-requires-clause-there c =
    undo_there c.args.repo.now c.args.repo.now.meta c.in-Undo.ws
    (subst (IsTested c.args.repo.now) c.in-Undo.is c.requires.tested)

pub discard-requires-clause-there : goal.discard-requires-clause-there
discard-requires-clause-there c =
    discard_there c.args.repo.now c.args.repo.now.meta c.in-Discard.ws
    (subst (IsTested c.args.repo.now) c.in-Discard.is c.requires.tested)

pub commit-requires-clause-there : goal.commit-requires-clause-there
commit-requires-clause-there c =
    commit_there c.args.repo.now c.args.repo.now.meta c.in-Commit.ws c.in-Commit.message
    (subst (IsTested c.args.repo.now) c.in-Commit.is c.requires.tested)

pub branch-repo-requires-clause-there : goal.branch-repo-requires-clause-there
branch-repo-requires-clause-there c =
    branch_there c.args.repo.now c.args.repo.now.meta c.in-Branch.ws c.in-Branch.name
    (subst (IsTested c.args.repo.now) c.in-Branch.is c.requires.tested)

pub drop_workspace-requires-clause-there : goal.drop_workspace-requires-clause-there
drop_workspace-requires-clause-there c =
    drop_there c.args.repo.now c.args.repo.now.meta c.in-Drop.ws
    (subst (IsTested c.args.repo.now) c.in-Drop.is c.requires.tested)

pub evolve-requires-clause-short : goal.evolve-requires-clause-short
evolve-requires-clause-short c =
    omega (arith, evolve_text_shorter c.in-Evolve.text, ap (λ (e : Event). length (event_encoding e)) c.in-Evolve.is, c.requires.short)

pub commit-signed-requires-clause-there : goal.commit-signed-requires-clause-there
commit-signed-requires-clause-there c =
    signed_there c.args.repo.now c.args.repo.now.meta c.in-Signed.ws c.in-Signed.author c.in-Signed.moment c.in-Signed.message
    (subst (IsTested c.args.repo.now) c.in-Signed.is c.requires.tested)

-- what is foreseen is of the event
pub update-requires-clause-foreseen : goal.update-requires-clause-foreseen
update-requires-clause-foreseen c =
    subst (λ (e : Event). IsForeseen c.args.repo.now e c.args.foreseen) c.in-Update.is c.requires.foreseen

pub merge-requires-clause-foreseen : goal.merge-requires-clause-foreseen
merge-requires-clause-foreseen c =
    subst (λ (e : Event). IsForeseen c.args.repo.now e c.args.foreseen) c.in-Merge.is c.requires.foreseen
