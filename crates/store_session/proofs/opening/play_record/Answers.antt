-- What a second try plays is what the first one would have.
use Rattle.std.proofs.Common.{◌≡◌, ◌≢◌, ◌∙◌, ◌<◌, ◌^◌, length, sym, subst}
use Rattle.std.specs.Prelude.{IsErrOf, IsTrue, OnOk}
use Rattle.commit_journal.specs.Journal.{next_gate}
use Rattle.op_form.specs.declared.event.Event.{Event}
use Rattle.op_form.specs.Events.{event_encoding}
use Rattle.plain_repository.specs.State.{State}
use Rattle.plain_repository.specs.Events.{play, playable}
use Rattle.version_states.proofs.Caching.{uses_on}
use Rattle.repo_state.specs.Cached.{HasEncodings}
use Rattle.repo_state.specs.declared.fault.PlayFault.TheVariants.{NotPlayable}
use Rattle.repo_state.proofs.Caching.{may_again}
use Rattle.store_session.proofs.opening.play_record.Goals as goal

pub play_bytes-requires-in-Err-Memory-clause-room : goal.play_bytes-requires-in-Err-Memory-clause-room
play_bytes-requires-in-Err-Memory-clause-room c =
    subst (λ (s : State). next_gate s.end (length c.args.bytes.now) < 2 ^ 40)
    (sym (c.let_models_go.ensures.same ∙ c.in-Err-Memory.ensures.same)) c.requires.room

pub play_bytes-requires-in-Err-Memory-clause-usable : goal.play_bytes-requires-in-Err-Memory-clause-usable
play_bytes-requires-in-Err-Memory-clause-usable c =
    may_again c.args.pool.now c.play_bytes.new.pool c.args.cache.now c.play_bytes.new.cache c.requires.usable c.play_bytes.ensures.uses

pub play_bytes-requires-in-Err-Memory-clause-forms : goal.play_bytes-requires-in-Err-Memory-clause-forms
play_bytes-requires-in-Err-Memory-clause-forms c =
    subst (λ (s : State). HasEncodings s c.play_bytes.new.pool c.play_bytes.new.cache) (sym c.let_models_go.ensures.same) c.play_bytes.ensures.forms

pub returns-in-Err-Memory-clause-played : goal.returns-in-Err-Memory-clause-played
returns-in-Err-Memory-clause-played c =
    subst (λ (s : State). OnOk c.play_bytes-in-Err-Memory.result
    ((event : Event) × IsTrue (playable s event) × (c.args.bytes.now ≡ event_encoding event) × (c.play_bytes-in-Err-Memory.new.repo ≡ play s event)))
    (c.let_models_go.ensures.same ∙ c.in-Err-Memory.ensures.same) c.play_bytes-in-Err-Memory.ensures.played

pub returns-in-Err-Memory-clause-refused : goal.returns-in-Err-Memory-clause-refused
returns-in-Err-Memory-clause-refused c =
    subst (λ (s : State). IsErrOf c.play_bytes-in-Err-Memory.result NotPlayable
    → (event : Event) → IsTrue (playable s event) → c.args.bytes.now ≢ event_encoding event)
    (c.let_models_go.ensures.same ∙ c.in-Err-Memory.ensures.same) c.play_bytes-in-Err-Memory.ensures.refused

pub returns-in-Err-Memory-clause-uses : goal.returns-in-Err-Memory-clause-uses
returns-in-Err-Memory-clause-uses c =
    uses_on c.args.pool.now c.play_bytes.new.pool c.play_bytes-in-Err-Memory.new.pool c.args.cache.now c.play_bytes.new.cache
    c.play_bytes-in-Err-Memory.new.cache
    c.play_bytes.ensures.uses c.play_bytes-in-Err-Memory.ensures.uses
