use Rattle.std.proofs.Common.{◌≡◌, ◌++◌, drop}
use Rattle.op_form.specs.Lists.{items_encoding}
use Rattle.byte_form.specs.Fields.{text_encoding}
use Rattle.op_form.proofs.write_step.put_id_items.Given as goal

abbrev pub invariant-loop-id : goal.invariant-loop-id
invariant-loop-id l = l.form ++ items_encoding text_encoding (drop l.id-index l.ids) ≡ l.initial.form ++ items_encoding text_encoding l.ids
