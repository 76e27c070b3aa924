use Rattle.std.proofs.Common.{take}
use Rattle.host_port.specs.Image.{IsShownAs}
use Rattle.host_port.specs.Replay.{at_start, after_calls}
use Rattle.host_port.proofs.image.image_after.Given as goal

abbrev pub invariant-loop-call : goal.invariant-loop-call
invariant-loop-call l = IsShownAs (after_calls (at_start l.first.items) (take l.call-index l.calls.items)) l.fill l.now.items l.image.items
