use Rattle.std.proofs.Common.{ap, ◌∙◌}
use Rattle.serde_json.specs.View.{view}
use Rattle.ecore_json.specs.Metamodel.{root_of}
use Rattle.ecore_json.proofs.Values.{many_values}
use Rattle.ecore_json.proofs.read.root_of.Goals as goal

pub returns-in-len2-up : goal.returns-in-len2-up
returns-in-len2-up c = many_values _ _ c.as_slice.ensures.value c.in-len2-up.len_at_least ∙ ap (root_of (view c.args.document.now)) c.in-Some.ensures
