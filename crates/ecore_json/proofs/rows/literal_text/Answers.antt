use Rattle.std.proofs.Common.{◌∙◌, ap}
use Rattle.std.specs.Prelude.{codes}
use Rattle.std.specs.Option.{option_map_or}
use Rattle.serde_json.specs.View.{view}
use Rattle.ecore_json.specs.Rows.{text_at}
use Rattle.ecore_json.proofs.rows.literal_text.Goals as goal

pub returns-in-None : goal.returns-in-None
returns-in-None c = c.text_at.ensures ∙ ap (λ o. option_map_or (λ t. t) o (text_at (codes "name") (view c.args.value.now))) c.in-None.ensures

pub returns-in-Some : goal.returns-in-Some
returns-in-Some c = ap (λ o. option_map_or (λ t. t) o (text_at (codes "name") (view c.args.value.now))) c.in-Some.ensures
