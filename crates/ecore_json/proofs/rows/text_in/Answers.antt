use Rattle.std.proofs.Common.{◌∙◌, ap}
use Rattle.std.specs.Prelude.{option_and_then}
use Rattle.serde_json.specs.Find.{as_str}
use Rattle.ecore_json.proofs.rows.text_in.Goals as goal

pub returns-in-None : goal.returns-in-None
returns-in-None c = ap (option_and_then as_str) c.in-None.ensures

pub returns-in-Some : goal.returns-in-Some
returns-in-Some c = c.as_str.ensures ∙ ap (option_and_then as_str) c.in-Some.ensures
