-- What is known of a document once the names in it are resolved.
use Rattle.std.specs.Prelude.{◌≡◌, map}
use Rattle.ecore_drafts.specs.Document.{ClassifierRows, supers_in}
use Rattle.ecore_drafts.specs.Drafts.{drafts}
use Rattle.ecore_drafts.specs.Supers.{all_above}
use Rattle.ecore_build.specs.Faults.{enums_in, features_of}
use Rattle.ecore_build.specs.declared.building.Resolved.{Resolved}

-- the drafts of its features, its direct supertypes and all those above, the features of each class and its enums
pub record Resolves (rows : ClassifierRows) (known : Resolved) : Type 0 where
  pub drafted : known.drafts.items ≡ drafts rows
  pub supers : map (λ ups. ups.items) known.supers.items ≡ supers_in rows rows
  pub above : map (λ s. s.keys) known.above.items ≡ all_above (supers_in rows rows)
  pub features : map (λ fs. fs.items) known.features.items ≡ features_of rows
  pub enums : known.enums ≡ enums_in rows
