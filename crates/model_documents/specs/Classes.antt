-- The class and the id that an object has.
use Rattle.std.specs.Prelude.{ℕ, Bool, true, not, codes, Option, None, Some, Ok, Err, option_and_then}
use Rattle.std.specs.List.{list_any}
use Rattle.serde_json.specs.Data.{Data, null, boolean, number, string, array, object}
use Rattle.finite_maps.specs.Equal.{option_eq, text_eq}
use Rattle.ecore_meta.specs.Meta.{Meta, class_named, is_a}
use Rattle.ecore_json.specs.References.{after_prefix, or_else}
use Rattle.model_state.specs.Ident.{is_id}
use Rattle.ecore_meta.specs.Names.{Name}
use Rattle.model_state.specs.Keys.{IdBytes}
use Rattle.model_state.specs.Typing.{is_concrete}
use Rattle.model_documents.specs.declared.fault.ModelFault.TheVariants.{NoClass, Abstract, WrongType, DupId, BadId}
use Rattle.model_documents.specs.Parts.{Ids}
use Rattle.model_documents.specs.Reads.{Read, «then», unless, found}

-- the class named after the prefix
abbrev pub class_after : Meta → Name → Name → Option ℕ
class_after meta prefix t = option_and_then (class_named meta) (after_prefix prefix t)

-- the class that `//Name`, `#//Name` or `#//Name` after the package's URI names
abbrev pub class_spelled : Meta → Name → Option ℕ
class_spelled meta t =
    or_else (class_after meta (codes "//") t)
    (or_else (class_after meta (codes "#//") t)
    (option_and_then (class_after meta (codes "#//")) (after_prefix meta.uri t)))

-- the class that an object names; without `eClass` it is the default, which a root has not
abbrev pub class_said : Meta → Option ℕ → Option Data → Read ℕ
class_said meta default None = found NoClass default
class_said meta default (Some (string s)) = found NoClass (class_spelled meta s)
class_said meta default (Some null) = Err NoClass
class_said meta default (Some (boolean b)) = Err NoClass
class_said meta default (Some (number n)) = Err NoClass
class_said meta default (Some (array ds)) = Err NoClass
class_said meta default (Some (object ms)) = Err NoClass

-- the class may stand where elements of that one are due; anything may be a root
abbrev pub may_stand : Meta → Option ℕ → ℕ → Bool
may_stand meta None c = true
may_stand meta (Some target) c = is_a meta c target

-- a class with elements of its own, which may stand there
abbrev pub class_of : Meta → Option ℕ → Option Data → Read ℕ
class_of meta default said =
    «then» (class_said meta default said) (λ c. unless (is_concrete meta c) Abstract (unless (may_stand meta default c) WrongType (Ok c)))

-- the id that an object has, which no object before has
abbrev pub id_of : Ids → Option Data → Read (Option IdBytes)
id_of ids None = Ok None
id_of ids (Some (string s)) = unless (not (list_any (option_eq text_eq (Some s)) ids)) DupId (unless (is_id s) BadId (Ok (Some s)))
id_of ids (Some null) = Err BadId
id_of ids (Some (boolean b)) = Err BadId
id_of ids (Some (number n)) = Err BadId
id_of ids (Some (array ds)) = Err BadId
id_of ids (Some (object ms)) = Err BadId
