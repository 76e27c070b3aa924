use Rattle.std.proofs.Common.{◌∙◌, ap}
use Rattle.ecore_drafts.specs.Classifiers.{class_in}
use Rattle.ecore_drafts.proofs.PlaceLaws.{class_is}
use Rattle.ecore_drafts.proofs.classifiers.Classifiers.class_number.Goals as goal

pub returns : goal.returns
returns c = c.class_in.ensures ∙ ap class_in c.named.ensures.found ∙ class_is _ _ c.named.ensures.apart
