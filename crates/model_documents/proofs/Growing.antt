-- What holds of the rows of a walk, by what its parts keep to.
use Rattle.std.proofs.lemmas.Bool.Decides.{nat_tests}
use Rattle.std.proofs.lemmas.List.{length-map}
use Rattle.std.proofs.Common.{◌≡◌, ℕ, ◌+◌, suc, Bool, true, false, ◌||◌, cond, List, [], ◌∷◌, ◌++◌, length, codes, nat_eq, refl, sym, ap, subst, ◌∙◌}
use Rattle.std.proofs.Common.{length-append, arith}
use Rattle.std.specs.Prelude.{Option, None, Some, Ok, not, slice_get}
use Rattle.std.specs.List.{list_any}
use Rattle.std.specs.Option.{option_map_or}
use Rattle.std.specs.Str.{bytes_eq}
use Rattle.serde_json.specs.Data.{Data, null, boolean, number, string, array, object, Items, no_items, item, Members, no_members, member}
use Rattle.serde_json.specs.Find.{get_member}
use Rattle.ecore_json.specs.Rows.{list_of}
use Rattle.ecore_meta.specs.Meta.{Meta, feature_named, first_named, has_feature, name_at}
use Rattle.ecore_meta.specs.declared.meta.Class.{Class}
use Rattle.ecore_meta.specs.declared.meta.Feature.{Feature}
use Rattle.ecore_meta.specs.declared.meta.Kind.{Kind}
use Rattle.ecore_meta.specs.declared.meta.Kind.TheVariants.{Attr, AttrMany, Bounded, Free, Contains, Container, Skip}
use Rattle.ecore_meta.specs.Names.{Name}
use Rattle.model_state.specs.Keys.{IdBytes}
use Rattle.model_state.specs.Typing.{is_concrete, kind_of, upper_of}
use Rattle.model_documents.specs.declared.key.Key.{Key}
use Rattle.model_documents.specs.declared.key.Key.TheVariants.{Own, Of, Unknown}
use Rattle.model_documents.specs.declared.doc.DocParent.{DocParent}
use Rattle.model_documents.specs.declared.draft.ElementDraft.{ElementDraft}
use Rattle.model_documents.specs.declared.fault.ModelFault.TheVariants.{Abstract, Bound, WrongType}
use Rattle.finite_maps.specs.Maps.{is_within}
use Rattle.model_documents.specs.Attributes.{is_null}
use Rattle.model_documents.specs.Classes.{class_of, class_said, id_of, may_stand}
use Rattle.model_documents.specs.Laws.{parent_before}
use Rattle.ecore_meta.specs.Typing.{is_one}
use Rattle.model_documents.specs.Links.{entries_of, links_part}
use Rattle.model_documents.specs.Parts.{Part, no_part, joined, Ids, ids_of}
use Rattle.model_documents.specs.Reads.{Read, «then», unless}
use Rattle.model_documents.specs.Walk.{element_rows, feature_key, feature_part, held_rows, items_rows, key_named, key_part, members_rows, object_rows}
use Rattle.model_documents.specs.Walk.{own_rows, rows_part, walked}
use Rattle.model_documents.proofs.Apart.{then_ok, unless_ok, unless_true, of_ok}
use Rattle.model_documents.proofs.ParentsFirst.{rows_ok, still_before}
use Rattle.model_documents.proofs.Keys.{Above, Trim, TrimItems, TrimMembers}
use Rattle.model_documents.proofs.ValuesFit.{Plain, many_fits, plain_is, plain_none, single_fits}

-- ---- the feature that a key names
pub first_has : (features : List Feature) (fs : List ℕ) (k : Name) (f : ℕ) → first_named features fs k ≡ Some f
    → (list_any (nat_eq f) fs ≡ true) × (bytes_eq (name_at features f) k ≡ true)
first_has features [] k f h = cc
first_has features (g ∷ fs) k f h = by_test (bytes_eq (name_at features g) k) refl h (λ e. first_has features fs k f e)
  where
    own : (f : ℕ) → nat_eq f f ≡ true
    own f = grind (arith, nat_tests)

    behind : (a b : Bool) → b ≡ true → a || b ≡ true
    behind true b e = refl
    behind false b e = e

    by_test : (b : Bool) → bytes_eq (name_at features g) k ≡ b → cond b (Some g) (first_named features fs k) ≡ Some f
        → (first_named features fs k ≡ Some f → (list_any (nat_eq f) fs ≡ true) × (bytes_eq (name_at features f) k ≡ true))
        → (list_any (nat_eq f) (g ∷ fs) ≡ true) × (bytes_eq (name_at features f) k ≡ true)
    by_test true is h later =
        let same : g ≡ f = cc in (
          subst (λ x. list_any (nat_eq f) (x ∷ fs) ≡ true) (sym same) (ap (λ b. b || list_any (nat_eq f) fs) (own f)),
          subst (λ x. bytes_eq (name_at features x) k ≡ true) same is,
        )
    by_test false is h later = let e = later h in (behind (nat_eq f g) (list_any (nat_eq f) fs) e.0, e.1)

pub named_has : (meta : Meta) (c : ℕ) (k : Name) (f : ℕ) → feature_named meta c k ≡ Some f
    → (has_feature meta c f ≡ true) × (bytes_eq (name_at meta.features f) k ≡ true)
named_has meta c k f h = by_class (slice_get meta.classes c) h
  where
    by_class : (o : Option Class) → first_named meta.features (option_map_or (λ class. class.features) o []) k ≡ Some f
        → (option_map_or (λ class. list_any (nat_eq f) class.features) o false ≡ true) × (bytes_eq (name_at meta.features f) k ≡ true)
    by_class None h = cc
    by_class (Some class) h = first_has meta.features class.features k f h

key_is : (b : Bool) (o : Option ℕ) (f : ℕ) → cond b Own (feature_key o) ≡ Of f → o ≡ Some f
key_is true o f h = cc
key_is false None f h = cc
key_is false (Some g) f h = cc

links_plain : (meta : Meta) (c f : ℕ) (b : Bool) (es : List (Option Name))
    → Plain meta c (cond b no_part (record no_part { links = record { feature = f; entries = es } ∷ [] }))
links_plain meta c f true es = plain_none meta c
links_plain meta c f false es = record { none = refl; attrs = tt }

links_fit : (meta : Meta) (c f : ℕ) (single : Bool) (d : Data) (one : Part) → ◌≡◌ {A = Read Part} (Ok (links_part f single d)) (Ok one) → Plain meta c one
links_fit meta c f single d one h =
    plain_is meta c (links_part f single d) one (of_ok (links_part f single d) one h) (links_plain meta c f (is_null d) (entries_of single d))

-- ---- numbers of rows
pub count_ids : (ids : Ids) (rows : List ElementDraft) → length (ids ++ ids_of rows) ≡ length ids + length rows
count_ids ids rows = length-append ids (ids_of rows) ∙ ap (λ n. length ids + n) (length-map rows (λ (r : ElementDraft). r.id))

last_ids : (ids : Ids) (id : Option IdBytes) → length (ids ++ id ∷ []) ≡ suc (length ids)
last_ids [] id = refl
last_ids (x ∷ ids) id = ap (λ n. suc n) (last_ids ids id)

own_before : (n : ℕ) (p : DocParent) → p.row ≡ n → parent_before (suc n) (Some p) ≡ true
own_before n p h = grind (arith, nat_tests)

-- ---- the class of an object
class_tested : (meta : Meta) (default : Option ℕ) (o : Option Data) (c : ℕ) → class_of meta default o ≡ Ok c
    → (is_concrete meta c ≡ true) × (may_stand meta default c ≡ true)
class_tested meta default o c h =
    let said = then_ok (class_said meta default o) (λ c. unless (is_concrete meta c) Abstract (unless (may_stand meta default c) WrongType (Ok c))) c h in
    let d = said.0 in
    let inner = unless_ok (is_concrete meta d) Abstract (unless (may_stand meta default d) WrongType (Ok d)) c said.2 in
    let same : d ≡ c = number_ok d c (unless_ok (may_stand meta default d) WrongType (Ok d) c inner) in (
      subst (λ x. is_concrete meta x ≡ true) same (unless_true (is_concrete meta d) Abstract (unless (may_stand meta default d) WrongType (Ok d)) c said.2),
      subst (λ x. may_stand meta default x ≡ true) same (unless_true (may_stand meta default d) WrongType (Ok d) c inner),
    )
  where
    number_ok : (m n : ℕ) → ◌≡◌ {A = Read ℕ} (Ok m) (Ok n) → m ≡ n
    number_ok m n h = cc

-- ---- what the parts of a walk keep to
-- Rows from a number on, with so many elements on top, that stand at a parent where a class is due. Further what the keys of an
-- object of a class give whose row has a number, up to the last key.
pub record Kept (meta : Meta) (Rows : ℕ → Option DocParent → Option ℕ → ℕ → List ElementDraft → Type 0)
    (Keys : ℕ → ℕ → Option Name → Part → Type 0) : Type 0 where
  pub none : (n : ℕ) (p : Option DocParent) (t : Option ℕ) → Rows n p t 0 []
  pub more : (n : ℕ) (p : Option DocParent) (t : Option ℕ) (k l : ℕ) (xs ys : List ElementDraft) → parent_before n p ≡ true → Rows n p t k xs
      → Rows (n + length xs) p t l ys → Rows n p t (k + l) (xs ++ ys)
  pub begins : (c own : ℕ) → Keys c own None no_part
  pub bare : (c own : ℕ) (last : Option Name) (k : Name) (part one : Part) → Above last k → Keys c own last part → Plain meta c one
      → Keys c own (Some k) (joined part one)
  pub holds : (c own : ℕ) (last : Option Name) (k : Name) (part : Part) (f target : ℕ) (opposite : Option ℕ) (count : ℕ) (rows : List ElementDraft)
      → Above last k → Keys c own last part
      → feature_named meta c k ≡ Some f → kind_of meta f ≡ Contains target opposite → is_within count (upper_of meta f) ≡ true
      → Rows (suc own + length part.rows) (Some (record { row = own; feature = f })) (Some target) count rows
      → Keys c own (Some k) (joined part (rows_part rows))
  pub own : (n : ℕ) (p : Option DocParent) (t : Option ℕ) (id : Option IdBytes) (c : ℕ) (last : Option Name) (part : Part) → parent_before n p ≡ true
      → is_concrete meta c ≡ true → may_stand meta t c ≡ true → Keys c n last part
      → Rows n p t 1 (record { id = id; class = c; parent = p; attrs = part.attrs; links = part.links } ∷ part.rows)

module _ (meta : Meta) (Rows : ℕ → Option DocParent → Option ℕ → ℕ → List ElementDraft → Type 0) (Keys : ℕ → ℕ → Option Name → Part → Type 0)
    (kept : Kept meta Rows Keys) where
  -- what an object's keys come to
  abbrev Told : ℕ → ℕ → Part → Type 0
  Told c own part = (last : Option Name) × Keys c own last part

  -- elements under the key of a containment
  abbrev Under : ℕ → DocParent → ℕ → List ElementDraft → Type 0
  Under n parent target rows = (count : ℕ) × (is_within count (upper_of meta parent.feature) ≡ true) × Rows n (Some parent) (Some target) count rows

  object_grows : (ids : Ids) (parent : Option DocParent) (default : Option ℕ) (ms : Members) (inside : ℕ → Ids → Read Part)
      → ((c : ℕ) (id : Option IdBytes) (part : Part) → inside c (ids ++ id ∷ []) ≡ Ok part → Told c (length ids) part)
      → (more : List ElementDraft) → parent_before (length ids) parent ≡ true → object_rows meta ids parent default ms inside ≡ Ok more
      → Rows (length ids) parent default 1 more
  object_grows ids parent default ms inside tells more before h =
      let class = then_ok (class_of meta default (get_member (codes "eClass") ms))
      (λ c. «then» (id_of ids (get_member (codes "_id") ms)) (λ id. own_rows parent id c (inside c (ids ++ id ∷ [])))) more h in
      let name = then_ok (id_of ids (get_member (codes "_id") ms)) (λ id. own_rows parent id class.0 (inside class.0 (ids ++ id ∷ []))) more class.2 in
      let part = then_ok (inside class.0 (ids ++ name.0 ∷ []))
      (λ (p : Part). Ok (record { id = name.0; class = class.0; parent = parent; attrs = p.attrs; links = p.links } ∷ p.rows)) more name.2 in
      let told = tells class.0 name.0 part.0 part.1 in
      let tested = class_tested meta default (get_member (codes "eClass") ms) class.0 class.1 in
      let same : record { id = name.0; class = class.0; parent = parent; attrs = part.0.attrs; links = part.0.links } ∷ part.0.rows ≡ more =
      rows_ok _ more part.2 in
      subst (λ (rows : List ElementDraft). Rows (length ids) parent default 1 rows) same
      (kept.own (length ids) parent default name.0 class.0 told.0 part.0 before tested.0 tested.1 told.1)

  -- a key and what it gives
  feature_grows : (c own : ℕ) (last : Option Name) (k : Name) (part : Part) (f : ℕ) (kind : Kind) (d : Data) (held : ℕ → ℕ → Read (List ElementDraft))
      (one : Part) → Above last k → Keys c own last part → feature_named meta c k ≡ Some f → kind_of meta f ≡ kind
      → ((target : ℕ) (rows : List ElementDraft) → held f target ≡ Ok rows → Under (suc own + length part.rows) (record { row = own; feature = f }) target rows)
      → feature_part meta f kind d held ≡ Ok one → Keys c own (Some k) (joined part one)
  feature_grows c own last k part f (Attr s default) d held one above so named kind under h =
      kept.bare c own last k part one above so (single_fits meta c f (named_has meta c k f named).0 s default d one kind h)
  feature_grows c own last k part f (AttrMany s unique) d held one above so named kind under h =
      kept.bare c own last k part one above so (many_fits meta c f (named_has meta c k f named).0 s unique d one kind h)
  feature_grows c own last k part f (Bounded t o) d held one above so named kind under h =
      kept.bare c own last k part one above so (links_fit meta c f (is_one (upper_of meta f)) d one h)
  feature_grows c own last k part f (Free t o) d held one above so named kind under h =
      kept.bare c own last k part one above so (links_fit meta c f (is_one (upper_of meta f)) d one h)
  feature_grows c own last k part f (Contains t o) d held one above so named kind under h =
      let rows = then_ok (held f t) (λ rows. Ok (rows_part rows)) one h in
      let told = under t rows.0 rows.1 in
      subst (λ (p : Part). Keys c own (Some k) (joined part p)) (of_ok (rows_part rows.0) one rows.2)
      (kept.holds c own last k part f t o told.0 rows.0 above so named kind told.1 told.2)
  feature_grows c own last k part f (Container t o) d held one above so named kind under h =
      kept.bare c own last k part one above so (plain_is meta c no_part one (of_ok no_part one h) (plain_none meta c))
  feature_grows c own last k part f Skip d held one above so named kind under h =
      kept.bare c own last k part one above so (plain_is meta c no_part one (of_ok no_part one h) (plain_none meta c))

  key_grows : (c own : ℕ) (last : Option Name) (k : Name) (part : Part) (d : Data) (held : ℕ → ℕ → Read (List ElementDraft)) (one : Part) → Above last k
      → Keys c own last part
      → ((f target : ℕ) (rows : List ElementDraft) → held f target ≡ Ok rows
      → Under (suc own + length part.rows) (record { row = own; feature = f }) target rows)
      → key_part meta (key_named meta c k) d held ≡ Ok one → Keys c own (Some k) (joined part one)
  key_grows c own last k part d held one above so under h = by_key (key_named meta c k) refl h
    where
      by_key : (key : Key) → key_named meta c k ≡ key → key_part meta key d held ≡ Ok one → Keys c own (Some k) (joined part one)
      by_key Unknown is h = cc
      by_key Own is h = kept.bare c own last k part one above so (plain_is meta c no_part one (of_ok no_part one h) (plain_none meta c))
      by_key (Of f) is h =
          feature_grows c own last k part f (kind_of meta f) d held one above so
          (key_is (bytes_eq k (codes "eClass") || bytes_eq k (codes "_id")) (feature_named meta c k) f is) refl (under f) h

  no_more : (k : ℕ) → k ≡ k + 0
  no_more k = omega arith

  one_more : (k n : ℕ) → k + 1 + n ≡ k + suc n
  one_more k n = omega arith

  none_less : (n : ℕ) → 0 + n ≡ n
  none_less n = omega arith

  none_within : (upper : Option ℕ) → is_within 0 upper ≡ true
  none_within None = refl
  none_within (Some u) = grind (arith, nat_tests)

  -- ---- the walk
  mutual
    unfolding element_rows items_rows members_rows held_rows

    element_grows : (ids : Ids) (parent : Option DocParent) (default : Option ℕ) (d : Data) (more : List ElementDraft) → Trim d
        → parent_before (length ids) parent ≡ true → element_rows meta ids parent default d ≡ Ok more
        → Rows (length ids) parent default 1 more
    element_grows ids parent default (object ms) more trim before h =
        object_grows ids parent default ms (λ c below. members_rows meta c (length ids) below no_part ms)
        (λ c id part e. members_grows c (length ids) (ids ++ id ∷ []) None no_part ms part trim (last_ids ids id) (kept.begins c (length ids)) e) more before h
    element_grows ids parent default null more trim before h = cc
    element_grows ids parent default (boolean b) more trim before h = cc
    element_grows ids parent default (number n) more trim before h = cc
    element_grows ids parent default (string s) more trim before h = cc
    element_grows ids parent default (array ds) more trim before h = cc

    items_grows : (ids : Ids) (parent : Option DocParent) (default : Option ℕ) (k : ℕ) (rows : List ElementDraft) (ds : Items) (more : List ElementDraft)
        → TrimItems ds → parent_before (length ids) parent ≡ true → Rows (length ids) parent default k rows
        → items_rows meta ids parent default rows ds ≡ Ok more → Rows (length ids) parent default (k + length (list_of ds)) more
    items_grows ids parent default k rows no_items more trim before so h =
        subst (λ n. Rows (length ids) parent default n more) (no_more k)
        (subst (λ (rs : List ElementDraft). Rows (length ids) parent default k rs) (rows_ok rows more h) so)
    items_grows ids parent default k rows (item d ds) more trim before so h =
        let one = then_ok (element_rows meta (ids ++ ids_of rows) parent default d) (λ more. items_rows meta ids parent default (rows ++ more) ds) more h in
        let grown = subst (λ n. Rows n parent default 1 one.0) (count_ids ids rows)
        (element_grows (ids ++ ids_of rows) parent default d one.0 trim.0 (still_before ids rows parent before) one.1) in
        subst (λ n. Rows (length ids) parent default n more) (one_more k (length (list_of ds)))
        (items_grows ids parent default (k + 1) (rows ++ one.0) ds more trim.1 before
        (kept.more (length ids) parent default k 1 rows one.0 before so grown) one.2)

    members_grows : (c own : ℕ) (ids : Ids) (last : Option Name) (part : Part) (ms : Members) (more : Part) → TrimMembers last ms
        → length ids ≡ suc own → Keys c own last part → members_rows meta c own ids part ms ≡ Ok more → Told c own more
    members_grows c own ids last part no_members more trim long so h = subst (λ (p : Part). Told c own p) (of_ok part more h) (last, so)
    members_grows c own ids last part (member k d ms) more trim long so h =
        let held : ℕ → ℕ → Read (List ElementDraft) = λ f target. held_rows meta (ids ++ ids_of part.rows) (record { row = own; feature = f }) target d in
        let one = then_ok (key_part meta (key_named meta c k) d held) (λ more. members_rows meta c own ids (joined part more) ms) more h in
        members_grows c own ids (Some k) (joined part one.0) ms more trim.2 long
        (key_grows c own last k part d held one.0 trim.0 so
        (λ f target rows e.
        let p : DocParent = record { row = own; feature = f } in
        subst (λ n. Under n p target rows) (count_ids ids part.rows ∙ ap (λ n. n + length part.rows) long)
        (held_grows (ids ++ ids_of part.rows) p target d rows trim.1
        (still_before ids part.rows (Some p) (ap (λ n. parent_before n (Some p)) long ∙ own_before own p refl)) e))
        one.1) one.2

    held_grows : (ids : Ids) (parent : DocParent) (target : ℕ) (d : Data) (more : List ElementDraft) → Trim d
        → parent_before (length ids) (Some parent) ≡ true → held_rows meta ids parent target d ≡ Ok more → Under (length ids) parent target more
    held_grows ids parent target null more trim before h = (
      0,
      none_within (upper_of meta parent.feature),
      subst (λ (rs : List ElementDraft). Rows (length ids) (Some parent) (Some target) 0 rs) (rows_ok [] more h)
          (kept.none (length ids) (Some parent) (Some target)),
    )
    held_grows ids parent target (object ms) more trim before h =
        let inside : ℕ → Ids → Read Part = λ c below. members_rows meta c (length ids) below no_part ms in (
          1,
          unless_true (is_within 1 (upper_of meta parent.feature)) Bound (object_rows meta ids (Some parent) (Some target) ms inside) more h,
          object_grows ids (Some parent) (Some target) ms inside
              (λ c id part e. members_grows c (length ids) (ids ++ id ∷ []) None no_part ms part trim (last_ids ids id)
              (kept.begins c (length ids)) e) more before
              (unless_ok (is_within 1 (upper_of meta parent.feature)) Bound (object_rows meta ids (Some parent) (Some target) ms inside) more h),
        )
    held_grows ids parent target (array ds) more trim before h =
        let within : Bool = is_within (length (list_of ds)) (upper_of meta parent.feature) in
        let tested = unless_ok (not (is_one (upper_of meta parent.feature))) WrongType
        (unless within Bound (items_rows meta ids (Some parent) (Some target) [] ds)) more h in (
          length (list_of ds),
          unless_true within Bound (items_rows meta ids (Some parent) (Some target) [] ds) more tested,
          subst (λ n. Rows (length ids) (Some parent) (Some target) n more) (none_less (length (list_of ds)))
              (items_grows ids (Some parent) (Some target) 0 [] ds more trim before (kept.none (length ids) (Some parent) (Some target))
              (unless_ok within Bound (items_rows meta ids (Some parent) (Some target) [] ds) more tested)),
        )
    held_grows ids parent target (boolean b) more trim before h = cc
    held_grows ids parent target (number n) more trim before h = cc
    held_grows ids parent target (string s) more trim before h = cc

  pub walked_grows : (d : Data) (more : List ElementDraft) → Trim d → walked meta d ≡ Ok more → (k : ℕ) × Rows 0 None None k more
  walked_grows (array ds) more trim h = (0 + length (list_of ds), items_grows [] None None 0 [] ds more trim refl (kept.none 0 None None) h)
  walked_grows (object ms) more trim h = (1, element_grows [] None None (object ms) more trim refl h)
  walked_grows null more trim h = cc
  walked_grows (boolean b) more trim h = cc
  walked_grows (number n) more trim h = cc
  walked_grows (string s) more trim h = cc
