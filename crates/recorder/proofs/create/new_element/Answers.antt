use Rattle.std.proofs.Common.{◌≡◌, rules}
use Rattle.std.specs.Prelude.{◌⊎◌, Err}
use Rattle.edit_steps.specs.declared.fault.EditFault.TheVariants.{Memory}
use Rattle.edits.specs.FreshIds.{id_or_fresh}
use Rattle.edits.specs.Edits.{new_effect}
use Rattle.recorder.proofs.Founds.{new_refused}
use Rattle.recorder.proofs.create.new_element.Goals as goal

pub returns-in_err-e : goal.returns-in_err-e
returns-in_err-e g c =
    let m = g.L.Look.state c.args.look.now in
    let id = id_or_fresh m c.args.ws c.args.id.now in
    let fault = c.in_err-e.field-0.0 in
    let due : (fault ≡ Memory) ⊎ (new_effect m c.args.class c.args.place id ≡ Err fault) =
    new_refused m c.args.class c.args.place id fault c.in_err-e.ensures in
    search rules
