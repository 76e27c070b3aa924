use Rattle.system_port.proofs.Begun.{short_writes}
use Rattle.system_port.proofs.laws.law_of_short_writes.Goals as goal

pub returns : goal.returns
returns c = record { short = short_writes }
