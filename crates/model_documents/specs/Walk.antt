-- The elements of a document, on a walk over its JSON tree. In an object comes its class, then its id, then its keys in the order
-- of their bytes. What is inside an element comes at its key.
use Rattle.std.specs.Prelude.{ℕ, not, ◌||◌, cond, List, [], ◌∷◌, ◌++◌, codes, Option, None, Some, Ok, Err, length}
use Rattle.std.specs.Str.{bytes_eq}
use Rattle.serde_json.specs.Data.{Data, null, boolean, number, string, array, object, Items, no_items, item, Members, no_members, member}
use Rattle.serde_json.specs.Find.{get_member}
use Rattle.ecore_meta.specs.Meta.{Meta, feature_named}
use Rattle.ecore_meta.specs.declared.meta.Kind.{Kind}
use Rattle.ecore_meta.specs.declared.meta.Kind.TheVariants.{Attr, AttrMany, Bounded, Free, Contains, Container, Skip}
use Rattle.ecore_meta.specs.Names.{Name}
use Rattle.model_state.specs.Keys.{IdBytes}
use Rattle.model_state.specs.Typing.{kind_of, upper_of}
use Rattle.ecore_json.specs.Rows.{list_of}
use Rattle.model_documents.specs.declared.doc.DocParent.{DocParent}
use Rattle.model_documents.specs.declared.draft.ElementDraft.{ElementDraft}
use Rattle.model_documents.specs.declared.fault.ModelFault.{ModelFault}
use Rattle.model_documents.specs.declared.fault.ModelFault.TheVariants.{NoClass, NoFeature, Bound, WrongType}
use Rattle.model_documents.specs.declared.key.Key.{Key}
use Rattle.model_documents.specs.declared.key.Key.TheVariants.{Own, Of, Unknown}
use Rattle.model_documents.specs.Reads.{Read, «then», unless}
use Rattle.model_documents.specs.Parts.{Part, no_part, joined, Ids, ids_of}
use Rattle.model_documents.specs.Classes.{class_of, id_of}
use Rattle.finite_maps.specs.Maps.{is_within}
use Rattle.model_documents.specs.Attributes.{single_part, many_part}
use Rattle.ecore_meta.specs.Typing.{is_one}
use Rattle.model_documents.specs.Links.{links_part}

-- the key of a feature, or one that no feature has
abbrev pub feature_key : Option ℕ → Key
feature_key None = Unknown
feature_key (Some f) = Of f

-- the key of that name of an object of the class: one that is read first, or a feature
abbrev pub key_named : Meta → ℕ → Name → Key
key_named meta c k = cond (bytes_eq k (codes "eClass") || bytes_eq k (codes "_id")) Own (feature_key (feature_named meta c k))

-- the elements inside
abbrev pub rows_part : List ElementDraft → Part
rows_part rows = record no_part { rows = rows }

-- what a feature's key gives; held reads the elements inside
abbrev pub feature_part : Meta → ℕ → Kind → Data → (ℕ → ℕ → Read (List ElementDraft)) → Read Part
feature_part meta f (Attr s default) d held = single_part meta f s d
feature_part meta f (AttrMany s unique) d held = many_part meta f s unique d
feature_part meta f (Bounded target opposite) d held = Ok (links_part f (is_one (upper_of meta f)) d)
feature_part meta f (Free target opposite) d held = Ok (links_part f (is_one (upper_of meta f)) d)
feature_part meta f (Contains target opposite) d held = «then» (held f target) (λ rows. Ok (rows_part rows))
feature_part meta f (Container target opposite) d held = Ok no_part
feature_part meta f Skip d held = Ok no_part

-- what a key gives: an unknown one is a fault, and one that is read first gives nothing more
abbrev pub key_part : Meta → Key → Data → (ℕ → ℕ → Read (List ElementDraft)) → Read Part
key_part meta Unknown d held = Err NoFeature
key_part meta Own d held = Ok no_part
key_part meta (Of f) d held = feature_part meta f (kind_of meta f) d held

-- an object's own row before those inside it
abbrev pub own_rows : Option DocParent → Option IdBytes → ℕ → Read Part → Read (List ElementDraft)
own_rows parent id c inside = «then» inside (λ part. Ok (record { id = id; class = c; parent = parent; attrs = part.attrs; links = part.links } ∷ part.rows))

-- the rows of an object: its own, and those inside
abbrev pub object_rows : Meta → Ids → Option DocParent → Option ℕ → Members → (ℕ → Ids → Read Part) → Read (List ElementDraft)
object_rows meta ids parent default ms inside =
    «then» (class_of meta default (get_member (codes "eClass") ms)) (λ c.
    «then» (id_of ids (get_member (codes "_id") ms)) (λ id. own_rows parent id c (inside c (ids ++ id ∷ []))))

-- a root that is no object names no class, a child is of no type
abbrev pub not_object : Option ℕ → ModelFault
not_object None = NoClass
not_object (Some c) = WrongType

unfoldable mutual
  -- the rows of an element and of those inside it, after the rows with these ids; the default is the class that is due there
  pub element_rows : Meta → Ids → Option DocParent → Option ℕ → Data → Read (List ElementDraft)
  element_rows meta ids parent default (object ms) = object_rows meta ids parent default ms (λ c below. members_rows meta c (length ids) below no_part ms)
  element_rows meta ids parent default null = Err (not_object default)
  element_rows meta ids parent default (boolean b) = Err (not_object default)
  element_rows meta ids parent default (number n) = Err (not_object default)
  element_rows meta ids parent default (string s) = Err (not_object default)
  element_rows meta ids parent default (array ds) = Err (not_object default)

  -- the rows of a list of elements, after those that it gave so far
  pub items_rows : Meta → Ids → Option DocParent → Option ℕ → List ElementDraft → Items → Read (List ElementDraft)
  items_rows meta ids parent default rows no_items = Ok rows
  items_rows meta ids parent default rows (item d ds) =
      «then» (element_rows meta (ids ++ ids_of rows) parent default d) (λ more. items_rows meta ids parent default (rows ++ more) ds)

  -- what the keys of an object of the class give, whose row has the number own, after what they gave so far
  pub members_rows : Meta → ℕ → ℕ → Ids → Part → Members → Read Part
  members_rows meta c own ids part no_members = Ok part
  members_rows meta c own ids part (member k d ms) =
      «then» (key_part meta (key_named meta c k) d (λ f target. held_rows meta (ids ++ ids_of part.rows) (record { row = own; feature = f }) target d))
      (λ more. members_rows meta c own ids (joined part more) ms)

  -- the elements under the key of a containment
  pub held_rows : Meta → Ids → DocParent → ℕ → Data → Read (List ElementDraft)
  held_rows meta ids parent target null = Ok []
  held_rows meta ids parent target (object ms) =
      unless (is_within 1 (upper_of meta parent.feature)) Bound
      (object_rows meta ids (Some parent) (Some target) ms (λ c below. members_rows meta c (length ids) below no_part ms))
  held_rows meta ids parent target (array ds) =
      unless (not (is_one (upper_of meta parent.feature))) WrongType
      (unless (is_within (length (list_of ds)) (upper_of meta parent.feature)) Bound
      (items_rows meta ids (Some parent) (Some target) [] ds))
  held_rows meta ids parent target (boolean b) = Err WrongType
  held_rows meta ids parent target (number n) = Err WrongType
  held_rows meta ids parent target (string s) = Err WrongType

-- the rows of a document: an array of roots, or one root
abbrev pub walked : Meta → Data → Read (List ElementDraft)
walked meta (array ds) = items_rows meta [] None None [] ds
walked meta null = Err NoClass
walked meta (boolean b) = Err NoClass
walked meta (number n) = Err NoClass
walked meta (string s) = Err NoClass
walked meta (object ms) = element_rows meta [] None None (object ms)
