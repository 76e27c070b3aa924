use Rattle.std.proofs.Common.{◌∙◌, ap, sym}
use Rattle.ecore_drafts.specs.Document.{classifier_name}
use Rattle.ecore_drafts.proofs.rows.ClassifierRow.name.Goals as goal

pub returns-in-Class : goal.returns-in-Class
returns-in-Class c = c.as_str.ensures ∙ sym (ap classifier_name c.in-Class.is)

pub returns-in-Enum : goal.returns-in-Enum
returns-in-Enum c = c.as_str-in-Enum.ensures ∙ sym (ap classifier_name c.in-Enum.is)

pub returns-in-Plain : goal.returns-in-Plain
returns-in-Plain c = c.as_str-in-Plain.ensures ∙ sym (ap classifier_name c.in-Plain.is)
