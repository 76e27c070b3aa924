-- No event makes more than one workspace, so there are no more of them than events.
use Rattle.std.proofs.Common.{◌≡◌, ℕ, suc, ◌+◌, ◌≤◌, List, [], ◌∷◌, ◌&&◌, nat_lt, length, is_some, subst, arith}
use Rattle.std.specs.Prelude.{IsTrue}
use Rattle.std.proofs.lemmas.Bool.{leb-true}
use Rattle.std.proofs.lemmas.List.Sums.{count_by-le-length}
use Rattle.command_runs.specs.Runs.{played}
use Rattle.op_form.specs.declared.event.Event.{Event}
use Rattle.plain_repository.specs.State.{State, empty}
use Rattle.plain_repository.specs.Answers.{most_events, fits_record}
use Rattle.plain_repository.specs.Events.{change_of, effect, play, playable, playable_with, suits, are_playable}
use Rattle.plain_repository.proofs.Encodings.{and_left, and_right}
use Rattle.plain_repository.proofs.Numbers.{change_keeps}
use Rattle.repo_state.specs.Counts.{WorkspacesAreFew}

effect_adds_one : (s : State) (e : Event) → length (effect s e).workspaces ≤ length s.workspaces + 1
effect_adds_one s e = (change_keeps s (change_of e)).one_more

record Few (s : State) : Type 0 where
  workspaces : length s.workspaces ≤ s.events
  events : s.events ≤ most_events

had_room : (s : State) (e : Event) → IsTrue (playable s e) → s.events + 1 ≤ most_events
unfolding playable
had_room s e could =
    let room = nat_lt s.events most_events in
    let fits = and_left (room && fits_record e) (suits s.upgraded e)
    (and_left (room && fits_record e && suits s.upgraded e) (playable_with s s.meta e) could) in
    let is = leb-true (suc s.events) most_events (and_left room (fits_record e) fits) in
    omega (arith, is)

play_few : (s : State) (e : Event) → IsTrue (playable s e) → Few s → Few (play s e)
unfolding play
play_few s e could few = record { workspaces = omega (arith, few.workspaces, effect_adds_one s e); events = had_room s e could }

played_few : (s : State) (events : List Event) → IsTrue (are_playable s events) → Few s → Few (played play s events)
played_few s [] could few = few
played_few s (e ∷ events) could few =
    played_few (play s e) events (and_right (playable s e) (are_playable (play s e) events) could)
    (play_few s e (and_left (playable s e) (are_playable (play s e) events) could) few)

none_few : Few empty
none_few = record { workspaces = omega arith; events = omega arith }

pub workspaces_are_few : WorkspacesAreFew
workspaces_are_few s r =
    let few = subst Few r.reached (played_few empty r.events r.could none_few) in
    (omega (arith, few.workspaces, count_by-le-length is_some s.workspaces), few.events)
