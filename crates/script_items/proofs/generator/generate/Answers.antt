use Rattle.std.proofs.Common.{◌∙◌, ap}
use Rattle.script_items.specs.Generator.{generated}
use Rattle.script_items.specs.Items.{script}
use Rattle.script_items.proofs.Script.{generated_script}
use Rattle.script_items.proofs.Rounds.{all_bytes}
use Rattle.script_items.proofs.generator.generate.Goals as goal

pub returns-clause-bytes : goal.returns-clause-bytes
returns-clause-bytes c =
    all_bytes c.items.bytes.items c.as_slice-item-items.result.now
    (generated c.args.seed c.args.count) c.items.item-index c.items-test.false c.items.invariant (c.as_slice-item-items.ensures ∙ c.in_ok-items.ensures)

pub returns-clause-script : goal.returns-clause-script
returns-clause-script c =
    λ most. ap script (all_bytes c.items.bytes.items c.as_slice-item-items.result.now
    (generated c.args.seed c.args.count) c.items.item-index c.items-test.false c.items.invariant (c.as_slice-item-items.ensures ∙ c.in_ok-items.ensures))
    ∙ generated_script c.args.seed c.args.count most
