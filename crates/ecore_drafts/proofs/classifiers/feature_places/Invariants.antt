use Rattle.std.proofs.Common.{◌≡◌, take}
use Rattle.ecore_drafts.specs.Document.{feature_names}
use Rattle.ecore_meta.specs.Names.{Name, number_of, place_in}
use Rattle.ecore_drafts.proofs.classifiers.feature_places.Given as goal

abbrev pub invariant-loop-n : goal.invariant-loop-n
invariant-loop-n l = (q : Name) → place_in l.index q ≡ number_of q (feature_names (take l.n l.features))
