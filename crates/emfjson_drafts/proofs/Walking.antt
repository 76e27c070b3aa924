-- How a walk goes on, by what its parts give.
use Rattle.std.proofs.Common.{◌≡◌, ℕ, suc, Bool, List, [], ◌∷◌, ◌++◌, refl, sym, ap, subst, ◌∙◌, append_assoc, length, codes, not}
use Rattle.std.specs.Prelude.{Option, None, Some, Result, Ok, Err}
use Rattle.serde_json.specs.Data.{Data, Num, null, boolean, number, string, array, object, Items, no_items, item, Members, no_members, member}
use Rattle.serde_json.specs.Find.{get}
use Rattle.serde_json.specs.View.{items_view}
use Rattle.serde_json.specs.declared.value.Value.{Value}
use Rattle.ecore_json.specs.Rows.{list_of}
use Rattle.ecore_meta.specs.Meta.{Meta}
use Rattle.ecore_meta.specs.Names.{Name}
use Rattle.model_state.specs.Keys.{IdBytes}
use Rattle.model_state.specs.Typing.{upper_of}
use Rattle.model_documents.specs.declared.doc.DocAttr.{DocAttr}
use Rattle.model_documents.specs.declared.doc.DocParent.{DocParent}
use Rattle.model_documents.specs.declared.draft.ElementDraft.{ElementDraft}
use Rattle.model_documents.specs.declared.draft.Links.{Links}
use Rattle.model_documents.specs.declared.fault.ModelFault.{ModelFault}
use Rattle.model_documents.specs.declared.fault.ModelFault.TheVariants.{Bound, WrongType}
use Rattle.emfjson_drafts.specs.Answers.{IsFault, Walks, AppendsPart}
use Rattle.finite_maps.specs.Maps.{is_within}
use Rattle.model_documents.specs.Classes.{class_of, id_of}
use Rattle.ecore_meta.specs.Typing.{is_one}
use Rattle.model_documents.specs.Parts.{Part, no_part, joined, Ids, ids_of}
use Rattle.model_documents.specs.Reads.{Read, «then», unless}
use Rattle.model_documents.specs.Walk.{element_rows, items_rows, members_rows, held_rows, key_named, key_part, own_rows, not_object}
use Rattle.model_documents.proofs.IdLists.{ids_append}
use Rattle.emfjson_drafts.proofs.Reading.{fault_then, fault_is}

pub holds_is : {T : Type 0} (attrs attrs' : List DocAttr) (links links' : List Links) (rows rows' : List ElementDraft) (result : Result T ModelFault)
    (r s : Read Part)
    → AppendsPart attrs attrs' links links' rows rows' result r → r ≡ s → AppendsPart attrs attrs' links links' rows rows' result s
holds_is attrs attrs' links links' rows rows' result r s h p = subst (AppendsPart attrs attrs' links links' rows rows' result) p h

fault_here : {A : Type 0} (default : Option ℕ) (r : Read A) → r ≡ Err (not_object default) → IsFault (not_object default) r
fault_here None r h = h
fault_here (Some c) r h = h

pub walks_is : {T : Type 0} (old new : List ElementDraft) (result : Result T ModelFault) (r s : Read (List ElementDraft)) → Walks old new result r → r ≡ s
    → Walks old new result s
walks_is old new result r s h p = subst (Walks old new result) p h

-- ---- one element
module _ (meta : Meta) (ids : Ids) (parent : Option DocParent) (default : Option ℕ) where
  -- the rows of an element of a class by its id, and those of the keys of an object by its class
  abbrev by_id : ℕ → Members → Option IdBytes → Read (List ElementDraft)
  by_id c ms id = own_rows parent id c (members_rows meta c (length ids) (ids ++ id ∷ []) no_part ms)

  abbrev by_class : Members → ℕ → Read (List ElementDraft)
  by_class ms c = «then» (id_of ids (get (codes "_id") (object ms))) (by_id c ms)

  pub class_fault : (d : Data) (ms : Members) (o : Option Data) (e : ModelFault) → d ≡ object ms → o ≡ get (codes "eClass") d
      → IsFault e (class_of meta default o) → IsFault e (element_rows meta ids parent default d)
  unfolding element_rows
  class_fault d ms o e is at h =
      let f : ℕ → Read (List ElementDraft) = by_class ms in
      fault_is e _ _ (fault_then e (class_of meta default o) f h)
      (ap (λ o. «then» (class_of meta default o) f) (at ∙ ap (get (codes "eClass")) is) ∙ sym (ap (element_rows meta ids parent default) is))

  pub id_fault : (d : Data) (ms : Members) (o q : Option Data) (c : ℕ) (e : ModelFault) → d ≡ object ms → o ≡ get (codes "eClass") d
      → class_of meta default o ≡ Ok c → q ≡ get (codes "_id") d → IsFault e (id_of ids q)
      → IsFault e (element_rows meta ids parent default d)
  unfolding element_rows
  id_fault d ms o q c e is at class at' h =
      let g : Option IdBytes → Read (List ElementDraft) = by_id c ms in
      let f : ℕ → Read (List ElementDraft) = by_class ms in
      let known : class_of meta default (get (codes "eClass") (object ms)) ≡ Ok c =
      ap (class_of meta default) (sym (at ∙ ap (get (codes "eClass")) is)) ∙ class in
      fault_is e _ _ (fault_then e (id_of ids q) g h)
      (ap (λ q. «then» (id_of ids q) g) (at' ∙ ap (get (codes "_id")) is) ∙ sym (ap (element_rows meta ids parent default) is ∙ ap (λ r. «then» r f) known))

  pub object_is : (d : Data) (ms : Members) (o q : Option Data) (c : ℕ) (id : Option IdBytes) → d ≡ object ms → o ≡ get (codes "eClass") d
      → class_of meta default o ≡ Ok c → q ≡ get (codes "_id") d → id_of ids q ≡ Ok id
      → own_rows parent id c (members_rows meta c (length ids) (ids ++ id ∷ []) no_part ms) ≡ element_rows meta ids parent default d
  unfolding element_rows
  object_is d ms o q c id is at class at' read =
      let g : Option IdBytes → Read (List ElementDraft) = by_id c ms in
      let f : ℕ → Read (List ElementDraft) = by_class ms in
      let known : class_of meta default (get (codes "eClass") (object ms)) ≡ Ok c =
      ap (class_of meta default) (sym (at ∙ ap (get (codes "eClass")) is)) ∙ class in
      let named : id_of ids (get (codes "_id") (object ms)) ≡ Ok id = ap (id_of ids) (sym (at' ∙ ap (get (codes "_id")) is)) ∙ read in
      sym (ap (element_rows meta ids parent default) is ∙ ap (λ r. «then» r f) known ∙ ap (λ r. «then» r g) named)

  pub other_rows : (d e : Data) → d ≡ e → element_rows meta ids parent default e ≡ Err (not_object default)
      → IsFault (not_object default) (element_rows meta ids parent default d)
  other_rows d e is other = fault_here default (element_rows meta ids parent default d) (ap (element_rows meta ids parent default) is ∙ other)

  pub null_rows : element_rows meta ids parent default null ≡ Err (not_object default)
  unfolding element_rows
  null_rows = refl

  pub boolean_rows : (b : Bool) → element_rows meta ids parent default (boolean b) ≡ Err (not_object default)
  unfolding element_rows
  boolean_rows b = refl

  pub number_rows : (n : Num) → element_rows meta ids parent default (number n) ≡ Err (not_object default)
  unfolding element_rows
  number_rows n = refl

  pub string_rows : (s : List ℕ) → element_rows meta ids parent default (string s) ≡ Err (not_object default)
  unfolding element_rows
  string_rows s = refl

  pub array_rows : (ds : Items) → element_rows meta ids parent default (array ds) ≡ Err (not_object default)
  unfolding element_rows
  array_rows ds = refl

module _ (meta : Meta) (ids : Ids) (parent : DocParent) (target : ℕ) where
  pub held_null : (d : Data) → d ≡ null → held_rows meta ids parent target d ≡ Ok []
  unfolding held_rows
  held_null d is = ap (held_rows meta ids parent target) is

  -- an array where one element is due, past the bound, or within it
  abbrev by_tests : Bool → Bool → Items → Read (List ElementDraft)
  by_tests one within ds = unless (not one) WrongType (unless within Bound (items_rows meta ids (Some parent) (Some target) [] ds))

  pub held_array : (d : Data) (ds : Items) (one within : Bool) → d ≡ array ds → is_one (upper_of meta parent.feature) ≡ one
      → is_within (length (list_of ds)) (upper_of meta parent.feature) ≡ within
      → held_rows meta ids parent target d ≡ unless (not one) WrongType (unless within Bound (items_rows meta ids (Some parent) (Some target) [] ds))
  unfolding held_rows
  held_array d ds one within is p q =
      ap (held_rows meta ids parent target) is
      ∙ ap (λ (b : Bool). by_tests b (is_within (length (list_of ds)) (upper_of meta parent.feature)) ds) p
      ∙ ap (λ (b : Bool). by_tests one b ds) q

  pub held_object : (d : Data) (ms : Members) (within : Bool) → d ≡ object ms → is_within 1 (upper_of meta parent.feature) ≡ within
      → held_rows meta ids parent target d ≡ unless within Bound (element_rows meta ids (Some parent) (Some target) d)
  unfolding held_rows element_rows
  held_object d ms within is p =
      ap (held_rows meta ids parent target) is
      ∙ ap (λ (b : Bool). unless b Bound (element_rows meta ids (Some parent) (Some target) (object ms))) p
      ∙ ap (λ d. unless within Bound (element_rows meta ids (Some parent) (Some target) d)) (sym is)

  pub held_boolean : (d : Data) (b : Bool) → d ≡ boolean b → held_rows meta ids parent target d ≡ Err WrongType
  unfolding held_rows
  held_boolean d b is = ap (held_rows meta ids parent target) is

  pub held_number : (d : Data) (n : Num) → d ≡ number n → held_rows meta ids parent target d ≡ Err WrongType
  unfolding held_rows
  held_number d n is = ap (held_rows meta ids parent target) is

  pub held_string : (d : Data) (s : List ℕ) → d ≡ string s → held_rows meta ids parent target d ≡ Err WrongType
  unfolding held_rows
  held_string d s is = ap (held_rows meta ids parent target) is

-- as many values as the items seen
pub count_items : (vs : List Value) → length (list_of (items_view vs)) ≡ length vs
count_items [] = refl
count_items (v ∷ vs) = ap (λ n. suc n) (count_items vs)

-- ---- lists of elements
module _ (meta : Meta) (first : List ElementDraft) (parent : Option DocParent) (default : Option ℕ) where
  abbrev pub SoFar : List ElementDraft → Items → Items → Type 0
  SoFar now all rest = (done : List ElementDraft) × (now ≡ first ++ done)
      × (items_rows meta (ids_of first) parent default [] all ≡ items_rows meta (ids_of first) parent default done rest)

  here : (now done : List ElementDraft) (d : Data) → now ≡ first ++ done
      → element_rows meta (ids_of now) parent default d ≡ element_rows meta (ids_of first ++ ids_of done) parent default d
  here now done d is = ap (λ ids. element_rows meta ids parent default d) (ap ids_of is ∙ ids_append first done)

  pub items_step : {T : Type 0} (now after : List ElementDraft) (x : T) (all : Items) (d : Data) (ds : Items) → SoFar now all (item d ds)
      → Walks {T = T} now after (Ok x) (element_rows meta (ids_of now) parent default d) → SoFar after all ds
  unfolding items_rows
  items_step now after x all d ds so walks = (
    so.0 ++ walks.0,
    walks.2 ∙ ap (λ l. l ++ walks.0) so.1 ∙ append_assoc first so.0 walks.0,
    so.2 ∙ ap (λ r. «then» r (λ more. items_rows meta (ids_of first) parent default (so.0 ++ more) ds)) (sym (here now so.0 d so.1) ∙ walks.1),
  )

  pub items_fault : (now : List ElementDraft) (e : ModelFault) (all : Items) (d : Data) (ds : Items) → SoFar now all (item d ds)
      → IsFault e (element_rows meta (ids_of now) parent default d) → IsFault e (items_rows meta (ids_of first) parent default [] all)
  unfolding items_rows
  items_fault now e all d ds so h =
      fault_is e _ _ (fault_then e _ (λ more. items_rows meta (ids_of first) parent default (so.0 ++ more) ds)
      (fault_is e _ _ h (here now so.0 d so.1))) (sym so.2)

  pub items_end : (now : List ElementDraft) (all : Items) → SoFar now all no_items
      → (more : List ElementDraft) × (items_rows meta (ids_of first) parent default [] all ≡ Ok more) × (now ≡ first ++ more)
  unfolding items_rows
  items_end now all so = (so.0, so.2, so.1)

-- the rows that a feature of an element holds in a value
abbrev pub rows_held : Meta → Ids → ℕ → Data → ℕ → ℕ → Read (List ElementDraft)
rows_held meta ids own d f target = held_rows meta ids (record { row = own; feature = f }) target d

-- ---- the keys of an object
module _ (meta : Meta) (c own : ℕ) (first : List ElementDraft) where
  abbrev pub PartSoFar : List ElementDraft → List DocAttr → List Links → Members → Members → Type 0
  PartSoFar now attrs links all rest =
      (done : Part) × (now ≡ first ++ done.rows) × (attrs ≡ done.attrs) × (links ≡ done.links)
      × (members_rows meta c own (ids_of first) no_part all ≡ members_rows meta c own (ids_of first) done rest)

  abbrev at_key : Ids → Name → Data → Read Part
  at_key ids k d = key_part meta (key_named meta c k) d (rows_held meta ids own d)

  pub members_step : {T : Type 0} (now after : List ElementDraft) (attrs attrs' : List DocAttr) (links links' : List Links) (x : T) (all : Members)
      (k : Name) (d : Data) (ms : Members) → PartSoFar now attrs links all (member k d ms)
      → AppendsPart {T = T} attrs attrs' links links' now after (Ok x)
      (key_part meta (key_named meta c k) d (rows_held meta (ids_of now) own d))
      → PartSoFar after attrs' links' all ms
  unfolding members_rows
  members_step now after attrs attrs' links links' x all k d ms so holds =
      let ids : ids_of now ≡ ids_of first ++ ids_of so.0.rows = ap ids_of so.1 ∙ ids_append first so.0.rows in (
        joined so.0 holds.0,
        holds.4 ∙ ap (λ l. l ++ holds.0.rows) so.1 ∙ append_assoc first so.0.rows holds.0.rows,
        holds.2 ∙ ap (λ l. l ++ holds.0.attrs) so.2,
        holds.3 ∙ ap (λ l. l ++ holds.0.links) so.3,
        so.4 ∙ ap (λ r. «then» r (λ more. members_rows meta c own (ids_of first) (joined so.0 more) ms)) (sym (ap (λ ids. at_key ids k d) ids) ∙ holds.1),
      )

  pub members_fault : (now : List ElementDraft) (attrs : List DocAttr) (links : List Links) (e : ModelFault) (all : Members) (k : Name) (d : Data)
      (ms : Members) → PartSoFar now attrs links all (member k d ms)
      → IsFault e (key_part meta (key_named meta c k) d (rows_held meta (ids_of now) own d))
      → IsFault e (members_rows meta c own (ids_of first) no_part all)
  unfolding members_rows
  members_fault now attrs links e all k d ms so h =
      let ids : ids_of now ≡ ids_of first ++ ids_of so.0.rows = ap ids_of so.1 ∙ ids_append first so.0.rows in
      fault_is e _ _ (fault_then e _ (λ more. members_rows meta c own (ids_of first) (joined so.0 more) ms)
      (fault_is e _ _ h (ap (λ ids. at_key ids k d) ids))) (sym so.4)

  pub members_end : (now : List ElementDraft) (attrs : List DocAttr) (links : List Links) (all : Members) → PartSoFar now attrs links all no_members
      → (more : Part) × (members_rows meta c own (ids_of first) no_part all ≡ Ok more) × (attrs ≡ more.attrs) × (links ≡ more.links)
      × (now ≡ first ++ more.rows)
  unfolding members_rows
  members_end now attrs links all so = (so.0, so.4, so.2, so.3, so.1)
