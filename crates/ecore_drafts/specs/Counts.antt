-- Which documents can be numbered.
use Rattle.std.specs.Prelude.{ℕ, ◌<◌, [], ◌∷◌, length}
use Rattle.ecore_drafts.specs.Document.{ClassifierRows, feature_total}
use Rattle.ecore_drafts.specs.declared.rows.ClassifierRow.{ClassifierRow}
use Rattle.ecore_drafts.specs.declared.rows.ClassifierRow.TheVariants.{Class, Enum, Plain}

-- the rows of one sort that are numbered are fewer than this: 2^32 - 1
abbrev pub too_many : ℕ
too_many = 4294967295

-- the features or literals of a classifier can be numbered
abbrev pub Few : ClassifierRow → Type 0
Few (Class c) = length c.features < too_many
Few (Enum e) = length e.literals < too_many
Few (Plain t) = Unit {0}

-- the features or literals of each classifier can be numbered
abbrev pub AreFew : ClassifierRows → Type 0
AreFew [] = Unit {0}
AreFew (row ∷ rows) = Few row × AreFew rows

-- fewer than 2^32 - 1 classifiers, features, and literals of an enum
pub record Numbered (rows : ClassifierRows) : Type 0 where
  pub classifiers : length rows < too_many
  pub features : feature_total rows < too_many
  pub parts : AreFew rows
