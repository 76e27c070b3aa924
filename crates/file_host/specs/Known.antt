-- What a host knows of the file without a call.
use Rattle.host_port.specs.Host.{Told}
use Rattle.file_host.specs.Counting.{HasLength, HasBytes}
use Rattle.file_host.specs.declared.known.Known.{Known}

-- the length that is known, and the bytes that were read ahead, are the file's
abbrev pub IsKnown : Told → Known → Type 0
IsKnown told known = HasLength told known.len × HasBytes told known.ahead.from known.ahead.bytes.items known.ahead.count
