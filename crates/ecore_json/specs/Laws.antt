-- What holds of every metamodel that is read.
use Rattle.std.specs.Prelude.{◌≡◌, ℕ, List, Some, Ok, option_and_then}
use Rattle.serde_json.specs.Data.{Data}
use Rattle.serde_json.specs.Read.{read}
use Rattle.ecore_build.specs.Build.{Chains}
use Rattle.ecore_drafts.specs.Document.{supers_in}
use Rattle.ecore_meta.specs.Meta.{Meta}
use Rattle.ecore_meta.specs.Promised.{IsMetamodel}
use Rattle.ecore_json.specs.Metamodel.{metamodel_of, package_of}
use Rattle.ecore_json.specs.Rows.{rows_of}

-- what holds of every metamodel holds of each that a text reads as
abbrev pub ReadMetamodelsHold : Type 0
ReadMetamodelsHold = (text : List ℕ) (meta : Meta) → metamodel_of text ≡ Ok meta → IsMetamodel meta

-- the classes that are direct supertypes of each class of a package, by number
abbrev pub supers_of : Data → List (List ℕ)
supers_of d = let rows = (rows_of d).classifiers in supers_in rows rows

-- A class of such a metamodel is another exactly where the supertypes that the text's package names lead there.
abbrev pub SupertypesAreRead : Type 0
SupertypesAreRead = (text : List ℕ) (meta : Meta) → metamodel_of text ≡ Ok meta → (d : Data) → option_and_then package_of (read text) ≡ Some d
    → Chains (supers_of d) meta
