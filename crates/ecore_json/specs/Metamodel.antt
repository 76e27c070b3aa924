-- The metamodel that a text stands for, or its first fault.
use Rattle.std.specs.Prelude.{◌≡◌, ℕ, List, cond, Option, None, Some, Result, Ok, Err}
use Rattle.serde_json.specs.Data.{Data, Items, no_items, item}
use Rattle.serde_json.specs.Find.{as_array}
use Rattle.serde_json.specs.Read.{read}
use Rattle.ecore_build.specs.Build.{meta_of}
use Rattle.ecore_build.specs.Faults.{fault}
use Rattle.ecore_meta.specs.Meta.{Meta}
use Rattle.ecore_build.specs.declared.fault.MetaFault.{MetaFault}
use Rattle.ecore_build.specs.declared.fault.MetaFault.TheVariants as meta
use Rattle.ecore_drafts.specs.declared.rows.MetaRows.{MetaRows}
use Rattle.ecore_json.specs.Classes.{ecore_package}
use Rattle.ecore_json.specs.declared.fault.EcoreFault.{EcoreFault}
use Rattle.ecore_json.specs.declared.fault.EcoreFault.TheVariants.{NotJson, NotPackage, BadKey, LeftOut, Meta as OfMeta, Memory}
use Rattle.ecore_json.specs.declared.fault.WalkFault.{WalkFault}
use Rattle.ecore_json.specs.declared.fault.WalkFault.TheVariants.{BadKey as BadKeyFound, LeftOut as LeftOutFound}
use Rattle.ecore_json.specs.Walk.{is_a, package_fault}
use Rattle.ecore_json.specs.Rows.{own_prefix, rows_of}

-- the only value of an array
abbrev pub sole : Items → Option Data
sole no_items = None
sole (item d no_items) = Some d
sole (item d (item e ds)) = None

-- a document is a value, or an array of one
abbrev pub root_of : Data → Option Items → Option Data
root_of d None = Some d
root_of d (Some ds) = sole ds

-- the value, where it says that it is a package
abbrev pub if_package : Option Data → Option Data
if_package None = None
if_package (Some d) = cond (is_a ecore_package d) (Some d) None

-- the package that a document is
abbrev pub package_of : Data → Option Data
package_of d = if_package (root_of d (as_array d))

-- the metamodel of the rows, or their first fault
abbrev pub built : Option MetaFault → MetaRows → Result Meta EcoreFault
built None rows = Ok (meta_of rows)
built (Some e) rows = Err (OfMeta e)

-- the first fault of the walk comes before those of the rows
abbrev pub walked : Option WalkFault → MetaRows → Result Meta EcoreFault
walked (Some BadKeyFound) rows = Err BadKey
walked (Some LeftOutFound) rows = Err LeftOut
walked None rows = built (fault rows.classifiers) rows

-- the metamodel of a package, or its first fault
abbrev pub of_package : Option Data → Result Meta EcoreFault
of_package None = Err NotPackage
of_package (Some d) = walked (package_fault (own_prefix d) d) (rows_of d)

-- the metamodel of a document, or its first fault; None is a text that is no JSON
abbrev pub of_document : Option Data → Result Meta EcoreFault
of_document None = Err NotJson
of_document (Some d) = of_package (package_of d)

-- the metamodel that a text stands for, or its first fault
unfoldable pub metamodel_of : List ℕ → Result Meta EcoreFault
metamodel_of text = of_document (read text)

-- an answer is the metamodel that was read or the fault that was found, or out of memory
abbrev pub GivesMetamodel : Result Meta EcoreFault → Result Meta EcoreFault → Type 0
GivesMetamodel (Ok m) read = read ≡ Ok m
GivesMetamodel (Err Memory) read = Unit {0}
GivesMetamodel (Err NotJson) read = read ≡ Err NotJson
GivesMetamodel (Err NotPackage) read = read ≡ Err NotPackage
GivesMetamodel (Err BadKey) read = read ≡ Err BadKey
GivesMetamodel (Err LeftOut) read = read ≡ Err LeftOut
GivesMetamodel (Err (OfMeta e)) read = read ≡ Err (OfMeta e)

-- a fault of the rows; out of memory is none of theirs
abbrev pub of_meta : MetaFault → EcoreFault
of_meta meta.DupName = OfMeta meta.DupName
of_meta meta.Unsupported = OfMeta meta.Unsupported
of_meta meta.NoType = OfMeta meta.NoType
of_meta meta.SuperCycle = OfMeta meta.SuperCycle
of_meta meta.Clash = OfMeta meta.Clash
of_meta meta.SelfOpposite = OfMeta meta.SelfOpposite
of_meta meta.BadOpposite = OfMeta meta.BadOpposite
of_meta meta.BadBound = OfMeta meta.BadBound
of_meta meta.BadDefault = OfMeta meta.BadDefault
of_meta meta.Memory = Memory

-- the number of a fault in a reply
abbrev pub ecore_fault_number : EcoreFault → ℕ
ecore_fault_number NotJson = 1
ecore_fault_number NotPackage = 2
ecore_fault_number BadKey = 3
ecore_fault_number LeftOut = 4
ecore_fault_number Memory = 6
ecore_fault_number (OfMeta meta.DupName) = 11
ecore_fault_number (OfMeta meta.Unsupported) = 12
ecore_fault_number (OfMeta meta.NoType) = 13
ecore_fault_number (OfMeta meta.SuperCycle) = 14
ecore_fault_number (OfMeta meta.Clash) = 15
ecore_fault_number (OfMeta meta.SelfOpposite) = 16
ecore_fault_number (OfMeta meta.BadOpposite) = 17
ecore_fault_number (OfMeta meta.BadBound) = 18
ecore_fault_number (OfMeta meta.BadDefault) = 19
ecore_fault_number (OfMeta meta.Memory) = 6
