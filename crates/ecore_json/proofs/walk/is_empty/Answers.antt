use Rattle.ecore_json.proofs.Values.{filled}
use Rattle.ecore_json.proofs.walk.is_empty.Goals as goal

pub returns-in-len1-up : goal.returns-in-len1-up
returns-in-len1-up c = filled _ _ c.as_slice.ensures.value c.in-len1-up.len_at_least
