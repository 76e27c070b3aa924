-- What a host of a dialogue has left of its input, what was printed to it, and what its file holds.
use Rattle.std.specs.Prelude.{◌≡◌, ℕ, List, drop}
use Rattle.host_port.specs.declared.talk.TalkHost.{TalkHost}
use Rattle.host_port.specs.Host.{Told}
use Rattle.host_port.specs.Talk.{Talk, pieces_in, nothing_told}

-- what the host reports: its faults alone
abbrev pub talk_told : TalkHost → Told
talk_told host = nothing_told host.take_faults host.say_faults host.disk_faults

-- the dialogue that is left
abbrev pub talk_of : TalkHost → Talk
talk_of host = record { part = drop host.taken host.piece.items; later = pieces_in host.pieces; heard = host.heard }

-- all that was printed
abbrev pub words_of : TalkHost → List ℕ
words_of host = host.said.items

-- the bytes of the file
abbrev pub file_of : TalkHost → List ℕ
file_of host = host.file.items

-- the input, the words and the file stay
pub record KeepsTalk (old new : TalkHost) : Type 0 where
  pub talk : talk_of new ≡ talk_of old
  pub words : words_of new ≡ words_of old
  pub file : file_of new ≡ file_of old
