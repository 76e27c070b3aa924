use Rattle.script_items.proofs.Rounds.{round_more}
use Rattle.script_items.proofs.generator.generated.Goals as goal

pub rounds-preserved : goal.rounds-preserved
rounds-preserved c = round_more c.rounds.items c.push_round.new.items c.args.seed c.rounds.k c.rounds.invariant c.in_ok-push_round.ensures
