-- No id comes twice in a document that is read: the walk tests each id against those of all rows before.
use Rattle.std.proofs.Common.{◌≡◌, ℕ, Bool, true, false, ◌||◌, not, cond, List, [], ◌∷◌, ◌++◌, map, length, codes, refl, sym, ap, subst, ◌∙◌}
use Rattle.std.proofs.Common.{append_assoc, append-nil, ◌⊎◌, inl, inr}
use Rattle.std.specs.Prelude.{Option, None, Some, Ok, Err}
use Rattle.std.specs.List.{list_any}
use Rattle.serde_json.specs.Data.{Data, null, boolean, number, string, array, object, Items, no_items, item, Members, no_members, member}
use Rattle.serde_json.specs.Find.{get_member}
use Rattle.serde_json.specs.Read.{read}
use Rattle.finite_maps.specs.Equal.{option_eq, text_eq}
use Rattle.finite_maps.proofs.Cases.{not_so, true_false, or_first, or_second}
use Rattle.finite_maps.proofs.EqualLaws.{text_equality}
use Rattle.ecore_json.specs.Rows.{list_of}
use Rattle.ecore_meta.specs.Meta.{Meta}
use Rattle.ecore_meta.specs.declared.meta.Kind.{Kind}
use Rattle.ecore_meta.specs.declared.meta.Kind.TheVariants.{Attr, AttrMany, Bounded, Free, Contains, Container, Skip}
use Rattle.ecore_meta.specs.declared.meta.Value.{Value}
use Rattle.model_state.specs.Ident.{is_id}
use Rattle.model_state.specs.Keys.{IdBytes}
use Rattle.model_state.specs.Typing.{is_default, kind_of, upper_of}
use Rattle.emfjson_values.specs.Values.{value_in}
use Rattle.model_documents.specs.declared.key.Key.{Key}
use Rattle.model_documents.specs.declared.key.Key.TheVariants.{Own, Of, Unknown}
use Rattle.model_documents.specs.declared.doc.DocParent.{DocParent}
use Rattle.model_documents.specs.declared.doc.DocRefs.{DocRefs}
use Rattle.model_documents.specs.declared.doc.DocRow.{DocRow}
use Rattle.model_documents.specs.declared.draft.ElementDraft.{ElementDraft}
use Rattle.model_documents.specs.declared.fault.ModelFault.TheVariants.{BadValue, Bound, WrongType, DupId, BadId}
use Rattle.finite_maps.specs.Maps.{is_within}
use Rattle.model_documents.specs.Attributes.{elements, is_null, may_hold, set_part, values_in, values_part}
use Rattle.model_documents.specs.Classes.{class_of, id_of}
use Rattle.model_documents.specs.Document.{doc_of, of_json, resolved}
use Rattle.model_documents.specs.Laws.{IdsAreApart, gives_id, ids_repeat, is_given}
use Rattle.ecore_meta.specs.Typing.{is_one}
use Rattle.model_documents.specs.Links.{entries_of, links_part}
use Rattle.model_documents.specs.Completed.{given_at, completed_all, next_row, row_of, rows_by}
use Rattle.model_documents.specs.Parts.{Part, no_part, joined, Ids, ids_of}
use Rattle.model_documents.specs.Reads.{Read, «then», unless, found, collected}
use Rattle.model_documents.specs.References.{given_by}
use Rattle.model_documents.specs.Walk.{element_rows, feature_part, held_rows, items_rows, key_named, key_part, members_rows, object_rows, own_rows}
use Rattle.model_documents.specs.Walk.{rows_part, walked}
use Rattle.model_documents.proofs.IdLists.{ids_append}

-- ---- ids
abbrev among : Option IdBytes → Ids → Bool
among None ids = false
among (Some id) ids = list_any (option_eq text_eq (Some id)) ids

abbrev repeats : Ids → Bool
repeats [] = false
repeats (x ∷ xs) = among x xs || repeats xs

neither : (a b : Bool) → a ≡ false → b ≡ false → a || b ≡ false
neither a b p q = ap (λ c. c || b) p ∙ q

any_last : (p : Option IdBytes → Bool) (xs : Ids) (y : Option IdBytes) → list_any p xs ≡ false → p y ≡ false → list_any p (xs ++ y ∷ []) ≡ false
any_last p [] y h g = neither (p y) false g refl
any_last p (x ∷ xs) y h g = neither (p x) (list_any p (xs ++ y ∷ [])) (or_first (p x) (list_any p xs) h) (any_last p xs y (or_second (p x) (list_any p xs) h) g)

-- equal ids are found from either side
turned : (x y : IdBytes) → text_eq x y ≡ false → text_eq y x ≡ false
turned x y h = not_so (text_eq y x) (λ e. true_false (text_eq x y) (subst (λ z. text_eq z y ≡ true) (text_equality.exact y x e) (text_equality.own y)) h)

among_last : (x y : Option IdBytes) (xs : Ids) → among x xs ≡ false → among y (x ∷ []) ≡ false → among x (xs ++ y ∷ []) ≡ false
among_last None y xs h g = refl
among_last (Some a) None xs h g = any_last (option_eq text_eq (Some a)) xs None h refl
among_last (Some a) (Some b) xs h g = any_last (option_eq text_eq (Some a)) xs (Some b) h (turned b a (or_first (text_eq b a) false g))

among_tail : (y x : Option IdBytes) (xs : Ids) → among y (x ∷ xs) ≡ false → (among y (x ∷ []) ≡ false) × (among y xs ≡ false)
among_tail None x xs h = (refl, refl)
among_tail (Some b) x xs h = (
  neither (option_eq text_eq (Some b) x) false (or_first (option_eq text_eq (Some b) x) (list_any (option_eq text_eq (Some b)) xs) h) refl,
  or_second (option_eq text_eq (Some b) x) (list_any (option_eq text_eq (Some b)) xs) h,
)

-- one id more, which is not there yet
one_more : (xs : Ids) (y : Option IdBytes) → repeats xs ≡ false → among y xs ≡ false → repeats (xs ++ y ∷ []) ≡ false
one_more [] None h g = refl
one_more [] (Some b) h g = refl
one_more (x ∷ xs) y h g =
    let apart = among_tail y x xs g in
    neither (among x (xs ++ y ∷ [])) (repeats (xs ++ y ∷ [])) (among_last x y xs (or_first (among x xs) (repeats xs) h) apart.0)
    (one_more xs y (or_second (among x xs) (repeats xs) h) apart.1)

-- ---- what was read
pub then_ok : {A B : Type 0} (r : Read A) (f : A → Read B) (b : B) → «then» r f ≡ Ok b → (a : A) × (r ≡ Ok a) × (f a ≡ Ok b)
then_ok (Ok a) f b h = (a, refl, h)
then_ok (Err e) f b h = cc

pub unless_ok : {A : Type 0} (t : Bool) (e : _) (r : Read A) (a : A) → unless t e r ≡ Ok a → r ≡ Ok a
unless_ok true e r a h = h
unless_ok false e r a h = cc

pub unless_true : {A : Type 0} (t : Bool) (e : _) (r : Read A) (a : A) → unless t e r ≡ Ok a → t ≡ true
unless_true true e r a h = refl
unless_true false e r a h = cc

not_true : (b : Bool) → not b ≡ true → b ≡ false
not_true true h = cc
not_true false h = refl

id_new : (ids : Ids) (o : Option Data) (id : Option IdBytes) → id_of ids o ≡ Ok id → among id ids ≡ false
id_new ids None id h = let same : None ≡ id = cc in ap (λ i. among i ids) (sym same)
id_new ids (Some (string s)) id h =
    let new : list_any (option_eq text_eq (Some s)) ids ≡ false =
    not_true _ (unless_true (not (list_any (option_eq text_eq (Some s)) ids)) DupId (unless (is_id s) BadId (Ok (Some s))) id h) in
    let same : Some s ≡ id = let k =
    unless_ok (is_id s) BadId (Ok (Some s)) id
    (unless_ok (not (list_any (option_eq text_eq (Some s)) ids)) DupId (unless (is_id s) BadId (Ok (Some s))) id h) in cc in
    ap (λ i. among i ids) (sym same) ∙ new
id_new ids (Some null) id h = cc
id_new ids (Some (boolean b)) id h = cc
id_new ids (Some (number n)) id h = cc
id_new ids (Some (array ds)) id h = cc
id_new ids (Some (object ms)) id h = cc

-- ---- parts without elements
abbrev Bare : Part → Type 0
Bare p = p.rows ≡ []

bare_is : (p q : Part) → Bare p → p ≡ q → Bare q
bare_is p q h e = ap (λ (r : Part). r.rows) (sym e) ∙ h

pub of_ok : (p q : Part) → ◌≡◌ {A = Read Part} (Ok p) (Ok q) → p ≡ q
of_ok p q h = cc

set_bare : (f : ℕ) (b : Bool) (v : Value) → Bare (set_part f b v)
set_bare f true v = refl
set_bare f false v = refl

single_bare : (f : ℕ) (b : Bool) (o : Option Value) (g : Value → Bool) (more : Part)
    → cond b (Ok no_part) («then» (found BadValue o) (λ v. Ok (set_part f (g v) v))) ≡ Ok more → Bare more
single_bare f true o g more h = bare_is no_part more refl (of_ok no_part more h)
single_bare f false None g more h = cc
single_bare f false (Some v) g more h = bare_is (set_part f (g v) v) more (set_bare f (g v) v) (of_ok (set_part f (g v) v) more h)

values_bare : (f : ℕ) (vs : List Value) → Bare (values_part f vs)
values_bare f [] = refl
values_bare f (v ∷ vs) = refl

many_bare : (f : ℕ) (b : Bool) (r : Read (List Value)) (t : List Value → Bool) (more : Part)
    → cond b (Ok no_part) («then» r (λ vs. unless (t vs) Bound (Ok (values_part f vs)))) ≡ Ok more → Bare more
many_bare f true r t more h = bare_is no_part more refl (of_ok no_part more h)
many_bare f false (Err e) t more h = cc
many_bare f false (Ok vs) t more h =
    bare_is (values_part f vs) more (values_bare f vs) (of_ok (values_part f vs) more (unless_ok (t vs) Bound (Ok (values_part f vs)) more h))

links_bare : (f : ℕ) (b : Bool) (es : List (Option IdBytes)) → Bare (cond b no_part (record no_part { links = record { feature = f; entries = es } ∷ [] }))
links_bare f true es = refl
links_bare f false es = refl

-- the elements that a key gives are those that it holds
abbrev Held : (ℕ → ℕ → Read (List ElementDraft)) → Part → Type 0
Held held more = (f : ℕ) × (t : ℕ) × (held f t ≡ Ok more.rows)

held_rows_are : (r : Read (List ElementDraft)) (more : Part) → «then» r (λ rows. Ok (rows_part rows)) ≡ Ok more → r ≡ Ok more.rows
held_rows_are (Err e) more h = cc
held_rows_are (Ok rows) more h = ap (λ (p : Part). Ok p.rows) (of_ok (rows_part rows) more h)

module _ (meta : Meta) where
  kind_gives : (f : ℕ) (k : Kind) (d : Data) (held : ℕ → ℕ → Read (List ElementDraft)) (more : Part) → feature_part meta f k d held ≡ Ok more
      → Bare more ⊎ Held held more
  kind_gives f (Attr s default) d held more h = inl (single_bare f (is_null d) (value_in meta s d) (λ v. is_default (kind_of meta f) v) more h)
  kind_gives f (AttrMany s unique) d held more h =
      inl (many_bare f (is_null d) (values_in meta s unique (elements d)) (λ vs. may_hold meta f (length vs)) more h)
  kind_gives f (Bounded t o) d held more h =
      inl (bare_is (links_part f (is_one (upper_of meta f)) d) more (links_bare f (is_null d) (entries_of (is_one (upper_of meta f)) d))
      (of_ok (links_part f (is_one (upper_of meta f)) d) more h))
  kind_gives f (Free t o) d held more h =
      inl (bare_is (links_part f (is_one (upper_of meta f)) d) more (links_bare f (is_null d) (entries_of (is_one (upper_of meta f)) d))
      (of_ok (links_part f (is_one (upper_of meta f)) d) more h))
  kind_gives f (Contains t o) d held more h = inr (f, t, held_rows_are (held f t) more h)
  kind_gives f (Container t o) d held more h = inl (bare_is no_part more refl (of_ok no_part more h))
  kind_gives f Skip d held more h = inl (bare_is no_part more refl (of_ok no_part more h))

  pub key_gives : (k : Key) (d : Data) (held : ℕ → ℕ → Read (List ElementDraft)) (more : Part) → key_part meta k d held ≡ Ok more → Bare more ⊎ Held held more
  key_gives Unknown d held more h = cc
  key_gives Own d held more h = inl (bare_is no_part more refl (of_ok no_part more h))
  key_gives (Of f) d held more h = kind_gives f (kind_of meta f) d held more h

  -- ---- the walk
  -- an object whose keys have no id twice
  object_apart : (ids : Ids) (parent : Option DocParent) (default : Option ℕ) (ms : Members) (inside : ℕ → Ids → Read Part)
      → ((c : ℕ) (id : Option IdBytes) (part : Part) → repeats (ids ++ id ∷ []) ≡ false → inside c (ids ++ id ∷ []) ≡ Ok part
      → repeats ((ids ++ id ∷ []) ++ ids_of part.rows) ≡ false)
      → (more : List ElementDraft) → repeats ids ≡ false → object_rows meta ids parent default ms inside ≡ Ok more → repeats (ids ++ ids_of more) ≡ false
  object_apart ids parent default ms inside keeps more apart h =
      let class = then_ok (class_of meta default (get_member (codes "eClass") ms))
      (λ c. «then» (id_of ids (get_member (codes "_id") ms)) (λ id. own_rows parent id c (inside c (ids ++ id ∷ [])))) more h in
      let name = then_ok (id_of ids (get_member (codes "_id") ms)) (λ id. own_rows parent id class.0 (inside class.0 (ids ++ id ∷ []))) more class.2 in
      let part = then_ok (inside class.0 (ids ++ name.0 ∷ []))
      (λ (p : Part). Ok (record { id = name.0; class = class.0; parent = parent; attrs = p.attrs; links = p.links } ∷ p.rows)) more name.2 in
      let kept = keeps class.0 name.0 part.0 (one_more ids name.0 apart (id_new ids (get_member (codes "_id") ms) name.0 name.1)) part.1 in
      let same : record { id = name.0; class = class.0; parent = parent; attrs = part.0.attrs; links = part.0.links } ∷ part.0.rows ≡ more =
      list_ok _ more part.2 in
      subst (λ (rows : List ElementDraft). repeats (ids ++ ids_of rows) ≡ false) same
      (subst (λ (is : Ids). repeats is ≡ false) (append_assoc ids (name.0 ∷ []) (ids_of part.0.rows)) kept)
    where
      list_ok : (xs ys : List ElementDraft) → ◌≡◌ {A = Read (List ElementDraft)} (Ok xs) (Ok ys) → xs ≡ ys
      list_ok xs ys h = cc

  -- one part more
  grown : (ids : Ids) (rows more : List ElementDraft) → repeats ((ids ++ ids_of rows) ++ ids_of more) ≡ false → repeats (ids ++ ids_of (rows ++ more)) ≡ false
  grown ids rows more h =
      subst (λ (is : Ids). repeats is ≡ false) (append_assoc ids (ids_of rows) (ids_of more) ∙ ap (λ is. ids ++ is) (sym (ids_append rows more))) h

  bare_grown : (ids : Ids) (rows more : List ElementDraft) → more ≡ [] → repeats (ids ++ ids_of rows) ≡ false → repeats (ids ++ ids_of (rows ++ more)) ≡ false
  bare_grown ids rows more none h =
      subst (λ (rs : List ElementDraft). repeats (ids ++ ids_of rs) ≡ false) (sym (append-nil rows) ∙ ap (λ m. rows ++ m) (sym none)) h

  rows_ok : (xs ys : List ElementDraft) → ◌≡◌ {A = Read (List ElementDraft)} (Ok xs) (Ok ys) → xs ≡ ys
  rows_ok xs ys h = cc

  nothing_grown : (ids : Ids) (more : List ElementDraft) → repeats ids ≡ false → ◌≡◌ {A = Read (List ElementDraft)} (Ok []) (Ok more)
      → repeats (ids ++ ids_of more) ≡ false
  nothing_grown ids more h is =
      subst (λ (rs : List ElementDraft). repeats (ids ++ ids_of rs) ≡ false) (rows_ok [] more is)
      (subst (λ (is : Ids). repeats is ≡ false) (sym (append-nil ids)) h)

  mutual
    unfolding element_rows items_rows members_rows held_rows

    element_apart : (ids : Ids) (parent : Option DocParent) (default : Option ℕ) (d : Data) (more : List ElementDraft) → repeats ids ≡ false
        → element_rows meta ids parent default d ≡ Ok more → repeats (ids ++ ids_of more) ≡ false
    element_apart ids parent default (object ms) more apart h =
        object_apart ids parent default ms (λ c below. members_rows meta c (length ids) below no_part ms)
        (λ c id part a e. members_apart c (length ids) (ids ++ id ∷ []) no_part ms part
        (subst (λ (is : Ids). repeats is ≡ false) (sym (append-nil (ids ++ id ∷ []))) a) e) more apart h
    element_apart ids parent default null more apart h = cc
    element_apart ids parent default (boolean b) more apart h = cc
    element_apart ids parent default (number n) more apart h = cc
    element_apart ids parent default (string s) more apart h = cc
    element_apart ids parent default (array ds) more apart h = cc

    items_apart : (ids : Ids) (parent : Option DocParent) (default : Option ℕ) (rows : List ElementDraft) (ds : Items) (more : List ElementDraft)
        → repeats (ids ++ ids_of rows) ≡ false → items_rows meta ids parent default rows ds ≡ Ok more
        → repeats (ids ++ ids_of more) ≡ false
    items_apart ids parent default rows no_items more apart h =
        subst (λ (rs : List ElementDraft). repeats (ids ++ ids_of rs) ≡ false) (rows_ok rows more h) apart
    items_apart ids parent default rows (item d ds) more apart h =
        let one = then_ok (element_rows meta (ids ++ ids_of rows) parent default d) (λ more. items_rows meta ids parent default (rows ++ more) ds) more h in
        items_apart ids parent default (rows ++ one.0) ds more
        (grown ids rows one.0 (element_apart (ids ++ ids_of rows) parent default d one.0 apart one.1)) one.2

    members_apart : (c own : ℕ) (ids : Ids) (part : Part) (ms : Members) (more : Part) → repeats (ids ++ ids_of part.rows) ≡ false
        → members_rows meta c own ids part ms ≡ Ok more → repeats (ids ++ ids_of more.rows) ≡ false
    members_apart c own ids part no_members more apart h = subst (λ (p : Part). repeats (ids ++ ids_of p.rows) ≡ false) (of_ok part more h) apart
    members_apart c own ids part (member k d ms) more apart h =
        let held : ℕ → ℕ → Read (List ElementDraft) = λ f target. held_rows meta (ids ++ ids_of part.rows) (record { row = own; feature = f }) target d in
        let one = then_ok (key_part meta (key_named meta c k) d held) (λ more. members_rows meta c own ids (joined part more) ms) more h in
        members_apart c own ids (joined part one.0) ms more
        (elim (key_gives (key_named meta c k) d held one.0 one.1) [
          | inl none ↦ bare_grown ids part.rows one.0.rows none apart
          | inr some ↦ grown ids part.rows one.0.rows
              (held_apart (ids ++ ids_of part.rows) (record { row = own; feature = some.0 }) some.1 d one.0.rows apart some.2)
        ]) one.2

    held_apart : (ids : Ids) (parent : DocParent) (target : ℕ) (d : Data) (more : List ElementDraft) → repeats ids ≡ false
        → held_rows meta ids parent target d ≡ Ok more → repeats (ids ++ ids_of more) ≡ false
    held_apart ids parent target null more apart h = nothing_grown ids more apart h
    held_apart ids parent target (object ms) more apart h =
        object_apart ids (Some parent) (Some target) ms (λ c below. members_rows meta c (length ids) below no_part ms)
        (λ c id part a e. members_apart c (length ids) (ids ++ id ∷ []) no_part ms part
        (subst (λ (is : Ids). repeats is ≡ false) (sym (append-nil (ids ++ id ∷ []))) a) e) more apart
        (unless_ok (is_within 1 (upper_of meta parent.feature)) Bound
        (object_rows meta ids (Some parent) (Some target) ms (λ c below. members_rows meta c (length ids) below no_part ms)) more h)
    held_apart ids parent target (array ds) more apart h =
        items_apart ids (Some parent) (Some target) [] ds more (subst (λ (is : Ids). repeats is ≡ false) (sym (append-nil ids)) apart)
        (unless_ok (is_within (length (list_of ds)) (upper_of meta parent.feature)) Bound (items_rows meta ids (Some parent) (Some target) [] ds) more
        (unless_ok (not (is_one (upper_of meta parent.feature))) WrongType
        (unless (is_within (length (list_of ds)) (upper_of meta parent.feature)) Bound (items_rows meta ids (Some parent) (Some target) [] ds))
        more h))
    held_apart ids parent target (boolean b) more apart h = cc
    held_apart ids parent target (number n) more apart h = cc
    held_apart ids parent target (string s) more apart h = cc

  walked_apart : (d : Data) (more : List ElementDraft) → walked meta d ≡ Ok more → repeats (ids_of more) ≡ false
  walked_apart (array ds) more h = items_apart [] None None [] ds more refl h
  walked_apart (object ms) more h = element_apart [] None None (object ms) more refl h
  walked_apart null more h = cc
  walked_apart (boolean b) more h = cc
  walked_apart (number n) more h = cc
  walked_apart (string s) more h = cc

  -- ---- a row keeps what the walk gave of it, but for its references and the order of its attributes
  pub rows_keep : {X : Type 0} (f : ElementDraft → X) (g : DocRow → X) → ((r : ElementDraft) (refs : List DocRefs) → g (row_of meta r refs) ≡ f r)
      → (given : List (List DocRefs)) (rows : List DocRow) (drafts : List ElementDraft) (more : List DocRow)
      → collected (next_row meta given) rows drafts ≡ Ok more → map g more ≡ map g rows ++ map f drafts
  rows_keep f g keeps given rows [] more h = ap (map g) (sym (doc_ok rows more h)) ∙ sym (append-nil (map g rows))
    where
      doc_ok : (xs ys : List DocRow) → ◌≡◌ {A = Read (List DocRow)} (Ok xs) (Ok ys) → xs ≡ ys
      doc_ok xs ys h = cc
  rows_keep f g keeps given rows (r ∷ drafts) more h =
      let one = then_ok (next_row meta given rows r) (λ b. collected (next_row meta given) (rows ++ b ∷ []) drafts) more h in
      let refs = then_ok (completed_all meta given (length rows) (given_at given (length rows))) (λ refs. Ok (row_of meta r refs)) one.0 one.1 in
      rows_keep f g keeps given (rows ++ one.0 ∷ []) drafts more one.2
      ∙ ap (λ is. is ++ map f drafts) (map_last rows one.0)
      ∙ append_assoc (map g rows) (g one.0 ∷ []) (map f drafts)
      ∙ ap (λ i. map g rows ++ (i ∷ map f drafts)) (ap g (sym (row_ok (row_of meta r refs.0) one.0 refs.2)) ∙ keeps r refs.0)
    where
      map_last : (rows : List DocRow) (x : DocRow) → map g (rows ++ x ∷ []) ≡ map g rows ++ g x ∷ []
      map_last [] x = refl
      map_last (y ∷ rows) x = ap (λ is. g y ∷ is) (map_last rows x)

      row_ok : (x y : DocRow) → ◌≡◌ {A = Read DocRow} (Ok x) (Ok y) → x ≡ y
      row_ok x y h = cc

-- ---- of rows
given_ids : (o : Option IdBytes) (rows : List DocRow) → is_given o rows ≡ among o (map (λ (r : DocRow). r.id) rows)
given_ids None rows = refl
given_ids (Some id) rows = any_ids rows
  where
    any_ids : (rows : List DocRow) → list_any (gives_id id) rows ≡ list_any (option_eq text_eq (Some id)) (map (λ (r : DocRow). r.id) rows)
    any_ids [] = refl
    any_ids (r ∷ rows) = ap (λ b. option_eq text_eq (Some id) r.id || b) (any_ids rows)

rows_repeat : (rows : List DocRow) → ids_repeat rows ≡ repeats (map (λ (r : DocRow). r.id) rows)
rows_repeat [] = refl
rows_repeat (r ∷ rows) = ap (λ b. b || ids_repeat rows) (given_ids r.id rows) ∙ ap (λ b. among r.id (map (λ (r : DocRow). r.id) rows) || b) (rows_repeat rows)

of_data : (meta : Meta) (o : Option Data) (rows : List DocRow) → of_json meta o ≡ Ok rows → ids_repeat rows ≡ false
of_data meta None rows h = cc
of_data meta (Some d) rows h =
    let drafts = then_ok (walked meta d) (resolved meta) rows h in
    let given = then_ok (given_by meta drafts.0) (λ given. rows_by meta given drafts.0) rows drafts.2 in
    rows_repeat rows ∙ ap repeats (rows_keep meta (λ (r : ElementDraft). r.id) (λ (r : DocRow). r.id) (λ r refs. refl) given.0 [] drafts.0 rows given.2)
    ∙ walked_apart meta d drafts.0 drafts.1

pub ids_apart : IdsAreApart
unfolding doc_of
ids_apart meta text rows h = of_data meta (read text) rows h
