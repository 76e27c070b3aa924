use Rattle.ecore_json.proofs.Prefixes.{behind_stripped}
use Rattle.emfjson_drafts.proofs.classes.after_prefix.Goals as goal

pub returns : goal.returns
returns c = behind_stripped _ _ _ c.strip_prefix.ensures.cases
