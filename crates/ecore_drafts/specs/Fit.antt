-- Names of a document that are of their form.
use Rattle.std.specs.Prelude.{◌≡◌, false, List, [], ◌∷◌}
use Rattle.std.specs.List.{AllByRecursion}
use Rattle.ecore_meta.specs.Named.{has_slash, is_taken}
use Rattle.ecore_drafts.specs.declared.rows.ClassifierRow.{ClassifierRow}
use Rattle.ecore_drafts.specs.declared.rows.ClassifierRow.TheVariants.{Class, Enum, Plain}
use Rattle.ecore_drafts.specs.declared.rows.FeatureRow.{FeatureRow}

-- names of classes without a slash, and features that are not named as a key that has a meaning of its own
abbrev pub NamesFit : List ClassifierRow → Type 0
NamesFit [] = Unit {0}
NamesFit (Class c ∷ rows) = (has_slash c.name ≡ false) × AllByRecursion (λ (f : FeatureRow). is_taken f.name ≡ false) c.features × NamesFit rows
NamesFit (Enum e ∷ rows) = NamesFit rows
NamesFit (Plain t ∷ rows) = NamesFit rows
