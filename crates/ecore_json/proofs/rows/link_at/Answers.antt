use Rattle.std.proofs.Common.{◌∙◌, ap, []}
use Rattle.std.specs.Prelude.{codes}
use Rattle.std.specs.Option.{option_map_or}
use Rattle.ecore_json.specs.Rows.{text_at}
use Rattle.ecore_json.proofs.rows.link_at.Goals as goal

pub returns-in-None : goal.returns-in-None
returns-in-None c = ap (λ o. option_map_or (text_at (codes "$ref")) o []) c.in-None.ensures

pub returns-in-Some : goal.returns-in-Some
returns-in-Some c = c.text_at.ensures ∙ ap (λ o. option_map_or (text_at (codes "$ref")) o []) c.in-Some.ensures
