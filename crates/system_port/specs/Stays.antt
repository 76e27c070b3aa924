-- What a call does that changes nothing.
use Rattle.host_port.specs.Host.{Told, GoesOn, KeepsDisk, KeepsSaid, KeepsInput}

-- time may pass, and all else stays
pub record Stays (old new : Told) : Type 0 where
  pub course : GoesOn old new
  pub disk : KeepsDisk old new
  pub said : KeepsSaid old new
  pub input : KeepsInput old new
