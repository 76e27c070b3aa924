use Rattle.std.proofs.Common.{◌≡◌, ◌++◌, drop}
use Rattle.script_items.specs.Generator.{script_bytes}
use Rattle.script_items.proofs.generator.generate.Given as goal

abbrev pub invariant-items : goal.invariant-items
invariant-items l = l.bytes.items ++ script_bytes (drop l.item-index l.item-items) ≡ script_bytes l.item-items
