-- The element that a reference finds: by its id, or by the path to it.
use Rattle.std.specs.Prelude.{ℕ, Bool, true, false, ◌&&◌, ◌==◌, not, cond, List, [], ◌∷◌, ◌^◌, Option, None, Some, Ok, Err, length, codes, nat_eq}
use Rattle.std.specs.Prelude.{nat_lt, option_and_then}
use Rattle.std.specs.List.{filter, list_all, list_any, slice_split}
use Rattle.std.specs.Char.{is_ascii_digit}
use Rattle.std.specs.Str.Parse.{digits_value}
use Rattle.ecore_meta.specs.Meta.{Meta, feature_named, features_of}
use Rattle.ecore_json.specs.References.{after_prefix}
use Rattle.ecore_meta.specs.Names.{Name}
use Rattle.model_state.specs.Typing.{is_containment, is_plain, kind_of, plain_to, upper_of}
use Rattle.model_documents.specs.declared.doc.DocRefs.{DocRefs}
use Rattle.model_documents.specs.declared.draft.ElementDraft.{ElementDraft}
use Rattle.model_documents.specs.declared.draft.Links.{Links}
use Rattle.model_documents.specs.declared.fault.ModelFault.TheVariants.{BadRef, WrongType}
use Rattle.ecore_meta.specs.Typing.{is_one}
use Rattle.model_documents.specs.Reads.{Read, «then», unless, collected}
use Rattle.model_documents.specs.Places.{child_at, named, class_at}

-- ---- paths
-- decimal digits, one or more, for a number below 2 ^ 32
abbrev pub number_of : Name → Option ℕ
number_of t = cond (nat_lt 0 (length t) && (list_all is_ascii_digit t && nat_lt (digits_value 10 t) (2 ^ 32))) (Some (digits_value 10 t)) None

-- the index after a feature's name: a single containment has none, and holds the one child
abbrev pub index_of : Bool → Option Name → Option ℕ
index_of true None = Some 0
index_of true (Some t) = None
index_of false None = None
index_of false (Some t) = number_of t

-- the child of row p that a containment of it and an index name
abbrev pub child_by : Meta → List ElementDraft → ℕ → Option ℕ → Option Name → Option ℕ
child_by meta rows p None index = None
child_by meta rows p (Some f) index =
    cond (is_containment (kind_of meta f))
    (option_and_then (child_at rows (Some (record { row = p; feature = f }))) (index_of (is_one (upper_of meta f)) index)) None

-- the child that the parts of a step name: a feature, and after the dot an index
abbrev pub child_named : Meta → List ElementDraft → ℕ → List Name → Option ℕ
child_named meta rows p [] = None
child_named meta rows p (name ∷ []) = child_by meta rows p (feature_named meta (class_at rows p) name) None
child_named meta rows p (name ∷ index ∷ []) = child_by meta rows p (feature_named meta (class_at rows p) name) (Some index)
child_named meta rows p (name ∷ index ∷ part ∷ parts) = None

-- one step of a path: `@feature`, or `@feature.index`
abbrev pub step_from : Meta → List ElementDraft → Name → ℕ → Option ℕ
step_from meta rows step p = option_and_then (λ t. child_named meta rows p (slice_split (λ b. b == 46) t)) (after_prefix (codes "@") step)

-- the element at the end of these steps
abbrev pub along : Meta → List ElementDraft → List Name → Option ℕ → Option ℕ
along meta rows [] here = here
along meta rows (step ∷ steps) here = along meta rows steps (option_and_then (step_from meta rows step) here)

-- a root's number; nothing is the first root
abbrev pub root_at : List ElementDraft → Name → Option ℕ
root_at rows [] = child_at rows None 0
root_at rows (b ∷ bs) = option_and_then (child_at rows None) (number_of (b ∷ bs))

-- the parts of a path: a root, and the steps from it
abbrev pub along_parts : Meta → List ElementDraft → List Name → Option ℕ
along_parts meta rows [] = None
along_parts meta rows (root ∷ steps) = along meta rows steps (root_at rows root)

-- ---- references
-- a reference without the number sign that it begins with
abbrev pub bare : Name → Option Name → Name
bare t None = t
bare t (Some rest) = rest

-- a path begins with a slash
abbrev pub located_by : Meta → List ElementDraft → Name → Option Name → Option ℕ
located_by meta rows t None = named rows t
located_by meta rows t (Some path) = along_parts meta rows (slice_split (λ b. b == 47) path)

-- the element of a reference without the number sign
abbrev pub located_bare : Meta → List ElementDraft → Name → Option ℕ
located_bare meta rows t = located_by meta rows t (after_prefix (codes "/") t)

-- the element that a reference finds
abbrev pub located : Meta → List ElementDraft → Name → Option ℕ
located meta rows t = located_bare meta rows (bare t (after_prefix (codes "#") t))

-- ---- lists of references
-- an element that the list has not yet, of the feature's type
abbrev pub new_target : Meta → List ElementDraft → ℕ → List ℕ → Option ℕ → Read ℕ
new_target meta rows f ts None = Err BadRef
new_target meta rows f ts (Some n) = unless (not (list_any (nat_eq n) ts)) BadRef (unless (plain_to meta (kind_of meta f) (class_at rows n)) WrongType (Ok n))

-- the target of an entry, after those before it
abbrev pub target_of : Meta → List ElementDraft → ℕ → List ℕ → Option Name → Read ℕ
target_of meta rows f ts entry = new_target meta rows f ts (option_and_then (located meta rows) entry)

-- the targets of a list of entries
abbrev pub targets_of : Meta → List ElementDraft → ℕ → List (Option Name) → Read (List ℕ)
targets_of meta rows f entries = collected (target_of meta rows f) [] entries

-- the entries of a feature, none where its key is not there
abbrev pub entries_at : ℕ → List Links → List (Option Name)
entries_at f [] = []
entries_at f (l ∷ ls) = cond (nat_eq f l.feature) l.entries (entries_at f ls)

-- the targets of a feature of an element
abbrev pub refs_at : Meta → List ElementDraft → List Links → List DocRefs → ℕ → Read DocRefs
refs_at meta rows links before f = «then» (targets_of meta rows f (entries_at f links)) (λ ts. Ok (record { feature = f; targets = ts }))

-- those of the features that are plain references
abbrev pub plain_features : Meta → List ℕ → List ℕ
plain_features meta fs = filter (λ f. is_plain (kind_of meta f)) fs

-- what an element gives of its plain references, by number
abbrev pub refs_of : Meta → List ElementDraft → List (List DocRefs) → ElementDraft → Read (List DocRefs)
refs_of meta rows before r = collected (refs_at meta rows r.links) [] (plain_features meta (features_of meta r.class))

-- what each element gives of its plain references
abbrev pub given_by : Meta → List ElementDraft → Read (List (List DocRefs))
given_by meta rows = collected (refs_of meta rows) [] rows
