-- A run that serves a store's script makes the store again.
use Rattle.std.proofs.Common.{◌∙◌, ap, None}
use Rattle.command_runs.specs.Runs.{answers, refuses}
use Rattle.plain_repository.specs.State.{empty}
use Rattle.plain_repository.specs.Events.{play}
use Rattle.plain_repository.specs.Repository.{decide}
use Rattle.script_items.specs.Items.{script}
use Rattle.replay_laws.specs.Scripts.{script_again}
use Rattle.replay_laws.proofs.Replaying.{stores_replay}
use Rattle.store_session.specs.Tasks.{end_of}
use Rattle.store_replay.specs.Moving.{StoresAreMadeAgain}

pub stores_are_made_again : StoresAreMadeAgain
stores_are_made_again file events stands print short =
    let again = stores_replay file events stands print short in
    let refused = refuses (answers decide play empty (script (script_again events)).items) in
    record { made = again.same; accepted = ap (λ fault. end_of fault refused) again.whole ∙ ap (end_of None) again.accepted }
