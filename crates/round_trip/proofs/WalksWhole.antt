-- The walk over a good model's tree gives the rows of its elements.
use Rattle.std.proofs.Common.{◌≡◌, ℕ, zero, suc, max, ◌≤◌, Bool, true, false, cond, not, List, [], ◌∷◌, ◌++◌, length, map, refl, sym, ap, subst, ◌∙◌}
use Rattle.std.proofs.Common.{codes, arith, append-nil, length-append, inl, inr}
use Rattle.std.specs.Prelude.{Option, None, Some, is_some, unwrap_or, Ok, slice_get}
use Rattle.std.specs.FinMap.{FinMap, get}
use Rattle.std.specs.List.{AllByRecursion}
use Rattle.std.specs.Option.{option_map_or}
use Rattle.serde_json.specs.Data.{Data, string, object, no_members, depth, members_depth, items_depth}
use Rattle.serde_json.specs.Find.{get_member}
use Rattle.serde_json.specs.View.{items_of}
use Rattle.ecore_meta.specs.Meta.{Meta, feature_named, features_of, name_at}
use Rattle.ecore_meta.specs.Typing.{kind_of, upper_of}
use Rattle.ecore_meta.specs.declared.meta.Class.{Class as ClassOf}
use Rattle.ecore_meta.specs.declared.meta.Kind.{Kind}
use Rattle.ecore_meta.specs.declared.meta.Kind.TheVariants.{Attr, AttrMany, Bounded, Free, Contains, Container, Skip}
use Rattle.model_state.specs.declared.step.Place.{Place}
use Rattle.model_state.specs.declared.step.Place.TheVariants.{Inside}
use Rattle.model_state.specs.Good.{Good, PlaceOk, StandsOk}
use Rattle.model_state.specs.Ident.{is_id}
use Rattle.model_state.specs.Keys.{IdBytes, id_cmp}
use Rattle.model_state.specs.State.{State, is_live}
use Rattle.model_state.specs.Typing.{is_concrete, contains_to}
use Rattle.model_documents.specs.declared.doc.DocParent.{DocParent}
use Rattle.model_documents.specs.declared.fault.ModelFault.TheVariants.{NoClass, Abstract, WrongType, DupId, BadId}
use Rattle.model_documents.specs.Classes.{class_of, id_of, may_stand}
use Rattle.model_documents.specs.Parts.{no_part, Ids, ids_of}
use Rattle.model_documents.specs.Reads.{«then», unless, found}
use Rattle.model_documents.specs.Walk.{element_rows, feature_key, held_rows, key_named, key_part, members_rows, own_rows}
use Rattle.edit_steps.proofs.Lists.{all-in_order}
use Rattle.model_texts.specs.Keys.{key_name, key_cmp, keys_of}
use Rattle.model_texts.specs.Laws.{IsNested}
use Rattle.model_state.specs.Listing.{values_at}
use Rattle.model_texts.specs.Tree.{child_ids, class_text, content, is_single, listed, members, object_of, part, whole, with_member}
use Rattle.model_texts.proofs.Children.{each_child}
use Rattle.ecore_meta.specs.Named.{IsNamed}
use Rattle.ecore_meta.specs.Promised.{IsMetamodel}
use Rattle.round_trip.proofs.KeysFound.{Stands, all_stand, class_again, class_stands, feature_found, feature_stands, ident_stands, member_at}
use Rattle.round_trip.proofs.KeysRise.{keys_rise}
use Rattle.round_trip.proofs.KeysTypes.{ElementDraft, Key, Ident, Class, Feature}
use Rattle.round_trip.proofs.ReadingKinds.{ContentFits, FeatureOk, IsObject, feature_ok}
use Rattle.round_trip.proofs.ReadingTrees.{AreOk, values_ok}
use Rattle.round_trip.proofs.WalksCounts.{bounded_few, children_within, free_few}
use Rattle.round_trip.proofs.WalksRows.{Come, among, class_at, keys_attrs, keys_links, keys_rows, told, tree_rows}
use Rattle.round_trip.proofs.WalksSteps.{KeyOk, Walked, members_walk}

-- ---- how deep
abbrev pub IsWithinIf : ℕ → Option Data → Type 0
IsWithinIf n None = Unit {0}
IsWithinIf n (Some d) = depth d ≤ n

max_first : (a b n : ℕ) → max a b ≤ n → a ≤ n
max_first a b n h = grind arith

max_second : (a b n : ℕ) → max a b ≤ n → b ≤ n
max_second a b n h = grind arith

pub depths : (name : Key → List ℕ) (p : Key → Option Data) (n : ℕ) (ks : List Key) → members_depth (members name p ks) ≤ n
    → AllByRecursion (λ k. IsWithinIf n (p k)) ks
depths name p n [] h = tt
depths name p n (k ∷ ks) h = by_part (p k) (depths name p n ks) h
  where
    by_part : (o : Option Data) → (members_depth (members name p ks) ≤ n → AllByRecursion (λ k. IsWithinIf n (p k)) ks)
        → members_depth (with_member (name k) o (members name p ks)) ≤ n → IsWithinIf n o × AllByRecursion (λ k. IsWithinIf n (p k)) ks
    by_part None more h = (tt, more h)
    by_part (Some d) more h = (max_first (depth d) _ n h, more (max_second (depth d) _ n h))

items_depths : (f : IdBytes → Data) (n : ℕ) (cs : List IdBytes) → items_depth (items_of (map f cs)) ≤ n → AllByRecursion (λ c. depth (f c) ≤ n) cs
items_depths f n [] h = tt
items_depths f n (c ∷ cs) h = (max_first (depth (f c)) _ n h, items_depths f n cs (max_second (depth (f c)) _ n h))

pub listed_depths : (f : IdBytes → Data) (n : ℕ) (single : Bool) (cs : List IdBytes) → IsWithinIf n (listed single (map f cs))
    → AllByRecursion (λ c. depth (f c) ≤ n) cs
listed_depths f n single [] h = tt
listed_depths f n true (c ∷ []) h = (h, tt)
listed_depths f n true (c ∷ d ∷ cs) h = items_depths f n (c ∷ d ∷ cs) (omega arith)
listed_depths f n false (c ∷ cs) h = items_depths f n (c ∷ cs) (omega arith)

pub all_both : {A : Type 0} (P Q R : A → Type 0) → ((x : A) → P x → Q x → R x) → (xs : List A) → AllByRecursion P xs → AllByRecursion Q xs → AllByRecursion R xs
all_both P Q R h [] p q = tt
all_both P Q R h (x ∷ xs) p q = (h x p.0 q.0, all_both P Q R h xs p.1 q.1)

-- ---- where elements stand
pub placed : (meta : Meta) (kind : FinMap id_cmp ℕ) (k : Option ℕ) (q : Option Place) (p : Place) (r : Option ℕ) → PlaceOk meta kind k q r
    → q ≡ Some p → (c : ℕ) × (k ≡ Some c) × (is_concrete meta c ≡ true) × StandsOk meta kind c p
placed meta kind None None p r ok at = cc
placed meta kind None (Some q) p r ok at = absurd ok
placed meta kind (Some c) None p r ok at = absurd ok
placed meta kind (Some c) (Some q) p None ok at = absurd ok
placed meta kind (Some c) (Some q) p (Some r) ok at = let same : q ≡ p = cc in (c, refl, ok.0, subst (λ x. StandsOk meta kind c x) same ok.1)

pub live_concrete : (meta : Meta) (kind : FinMap id_cmp ℕ) (k : Option ℕ) (q : Option Place) (r : Option ℕ) (c : ℕ) → PlaceOk meta kind k q r
    → k ≡ Some c → is_concrete meta c ≡ true
live_concrete meta kind None q r c ok is = cc
live_concrete meta kind (Some d) None r c ok is = absurd ok
live_concrete meta kind (Some d) (Some q) None c ok is = absurd ok
live_concrete meta kind (Some d) (Some q) (Some r) c ok is = let same : d ≡ c = cc in subst (λ x. is_concrete meta x ≡ true) same ok.0

pub concrete_class : (meta : Meta) (c : ℕ) → is_concrete meta c ≡ true → (class : ClassOf) × (slice_get meta.classes c ≡ Some class)
concrete_class meta c h = by_place (slice_get meta.classes c) refl h
  where
    by_place : (o : Option ClassOf) → slice_get meta.classes c ≡ o → option_map_or (λ class. not class.is_abstract) o false ≡ true
        → (class : ClassOf) × (slice_get meta.classes c ≡ Some class)
    by_place None is h = cc
    by_place (Some class) is h = (class, is)

-- ---- what is read first
class_read : (meta : Meta) → IsNamed meta → (default : Option ℕ) (c : ℕ) → is_concrete meta c ≡ true → may_stand meta default c ≡ true
    → class_of meta default (Some (string (class_text meta c))) ≡ Ok c
class_read meta named default c concrete may =
    let class = concrete_class meta c concrete in
    ap (λ o. «then» (found NoClass o) (λ c. unless (is_concrete meta c) Abstract (unless (may_stand meta default c) WrongType (Ok c))))
    (class_again meta named c class.0 class.1)
    ∙ ap (λ b. unless b Abstract (unless (may_stand meta default c) WrongType (Ok c))) concrete
    ∙ ap (λ b. unless b WrongType (Ok c)) may

id_read : (ids : Ids) (e : IdBytes) → among (Some e) ids ≡ false → is_id e ≡ true → id_of ids (Some (string e)) ≡ Ok (Some e)
id_read ids e new form = ap (λ b. unless (not b) DupId (unless (is_id e) BadId (Ok (Some e)))) new ∙ ap (λ b. unless b BadId (Ok (Some e))) form

-- ---- the walk
module _ (meta : Meta) (promised : IsMetamodel meta) (m : State) (good : Good meta m) (forms : (e : IdBytes) → is_live m e ≡ true → is_id e ≡ true)
    (nested : IsNested meta m) where
  pub objects : (c : IdBytes) → IsObject (whole meta m c)
  objects c = by_kind (get m.kind c) (nested c)
    where
      by_kind : (k : Option ℕ) → whole meta m c ≡ object_of meta m (whole meta m) c k → IsObject (whole meta m c)
      by_kind None is = (no_members, is)
      by_kind (Some k) is = (members (key_name meta) (part meta m (whole meta m) c k) (keys_of meta k), is)

  -- an element of a class that may stand there, down to a depth
  abbrev Below : ℕ → Type 0
  Below n = (parent : Option DocParent) (default : Option ℕ) (e : IdBytes) (c : ℕ) → get m.kind e ≡ Some c → may_stand meta default c ≡ true
      → depth (whole meta m e) ≤ n → Walked meta (tree_rows meta m n) (whole meta m) parent default e

  module _ (n : ℕ) (below : Below n) (own : ℕ) (e : IdBytes) (c : ℕ) where
    child_walked : (f target : ℕ) (opposite : Option ℕ) → kind_of meta f ≡ Contains target opposite → (x : IdBytes)
        → get m.place x ≡ Some (Inside e f) → depth (whole meta m x) ≤ n
        → Walked meta (tree_rows meta m n) (whole meta m) (Some (record { row = own; feature = f })) (Some target) x
    child_walked f target opposite kind x at deep =
        let p = placed meta m.kind (get m.kind x) (get m.place x) (Inside e f) (get m.prank x) (good.places.stands x) at in
        below (Some (record { row = own; feature = f })) (Some target) x p.0 p.1 (ap (λ k. contains_to meta k p.0) (sym kind) ∙ p.3.1) deep

    content_fits : (f : ℕ) (k : Kind) → kind_of meta f ≡ k → IsWithinIf n (content meta m (whole meta m) e f k)
        → ContentFits meta promised.named m (tree_rows meta m n) (whole meta m) objects own e f k
    content_fits f (Attr scalar default) kind deep = subst (λ k. AreOk meta k (upper_of meta f) (values_at m e f)) kind (values_ok meta m good e f)
    content_fits f (AttrMany scalar unique) kind deep = subst (λ k. AreOk meta k (upper_of meta f) (values_at m e f)) kind (values_ok meta m good e f)
    content_fits f (Bounded target opposite) kind deep = bounded_few meta m good e f target opposite kind
    content_fits f (Free target opposite) kind deep = free_few meta m good promised.bounded e f target opposite kind
    content_fits f (Contains target opposite) kind deep = (
      children_within meta m good e f target opposite kind,
      all_both (λ x. get m.place x ≡ Some (Inside e f)) (λ x. depth (whole meta m x) ≤ n)
          (Walked meta (tree_rows meta m n) (whole meta m) (Some (record { row = own; feature = f })) (Some target)) (child_walked f target opposite kind)
          (child_ids m (Inside e f)) (each_child m (Inside e f)) (listed_depths (whole meta m) n (is_single meta f) (child_ids m (Inside e f)) deep),
    )
    content_fits f (Container target opposite) kind deep = tt
    content_fits f Skip kind deep = tt

    -- what stands under a key gives what it is to give
    abbrev Due : Key → Type 0
    Due key = KeyOk meta m e (tree_rows meta m n) own c (part meta m (whole meta m) e c) key (part meta m (whole meta m) e c key)

    named_key : (f : ℕ) → Stands f (features_of meta c) → key_named meta c (name_at meta.features f) ≡ feature_key (Some f)
    named_key f h = ap (λ b. cond b (key_named meta c (codes "_id")) (feature_key (feature_named meta c (name_at meta.features f))))
        (promised.named.keys f) ∙ ap feature_key (feature_found meta promised.named c f h)

    feature_due : (f : ℕ) → Stands f (features_of meta c) → (o : Option Data)
        → FeatureOk meta promised.named m (tree_rows meta m n) (whole meta m) objects own e f (kind_of meta f) o
        → KeyOk meta m e (tree_rows meta m n) own c (part meta m (whole meta m) e c) (Feature f) o
    unfolding keys_of Feature
    feature_due f h None ok = ok
    feature_due f h (Some d) ok =
        λ ids come. ap (λ key. key_part meta key d (λ g target. held_rows meta ids (record { row = own; feature = g }) target d)) (named_key f h)
        ∙ ok ids come

    features_due : (fs : List ℕ) → ((f : ℕ) → Stands f fs → Stands f (features_of meta c))
        → AllByRecursion (λ k. IsWithinIf n (part meta m (whole meta m) e c k)) (keys_of meta c) → AllByRecursion Due (map Feature fs)
    unfolding keys_of Feature
    features_due [] in_class deep = tt
    features_due (f ∷ fs) in_class deep =
        let h = in_class f (inl refl) in
        let deep_here : IsWithinIf n (content meta m (whole meta m) e f (kind_of meta f)) =
        all_stand (λ k. IsWithinIf n (part meta m (whole meta m) e c k)) (keys_of meta c) deep (Feature f) (feature_stands meta c f h) in (
          feature_due f h (content meta m (whole meta m) e f (kind_of meta f))
              (feature_ok meta promised.named m (tree_rows meta m n) (whole meta m) objects own e f (kind_of meta f) refl
              (content_fits f (kind_of meta f) refl deep_here)),
          features_due fs (λ g s. in_class g (inr s)) deep,
        )

    keys_due : AllByRecursion (λ k. IsWithinIf n (part meta m (whole meta m) e c k)) (keys_of meta c) → AllByRecursion Due (keys_of meta c)
    unfolding keys_of Ident Class Feature
    keys_due deep = all-in_order (key_cmp meta) Due (Ident ∷ Class ∷ map Feature (features_of meta c))
        ((λ ids come. refl), ((λ ids come. refl), features_due (features_of meta c) (λ f s. s) deep))

  -- the row of an element of a class, and the rows inside
  abbrev rows_of : ℕ → ℕ → Option DocParent → IdBytes → ℕ → List ElementDraft
  rows_of n k parent e c =
      record { id = Some e; class = c; parent = parent; attrs = keys_attrs meta m e (keys_of meta c); links = keys_links meta m e (keys_of meta c) }
      ∷ keys_rows meta m e (tree_rows meta m n) k (suc k) (keys_of meta c)

  tree_step : (n k : ℕ) (parent : Option DocParent) (e : IdBytes) (c : ℕ) → class_at meta m e ≡ c → tree_rows meta m (suc n) k parent e ≡ rows_of n k parent e c
  unfolding tree_rows
  tree_step n k parent e c is = ap (λ x. rows_of n k parent e x) is

  object_walk : (n : ℕ) → Below n → (parent : Option DocParent) (default : Option ℕ) (e : IdBytes) (c : ℕ) → get m.kind e ≡ Some c
      → may_stand meta default c ≡ true
      → members_depth (members (key_name meta) (part meta m (whole meta m) e c) (keys_of meta c)) ≤ n
      → (ids : Ids) → Come ids (ids_of (rows_of n (length ids) parent e c))
      → element_rows meta ids parent default (object (members (key_name meta) (part meta m (whole meta m) e c) (keys_of meta c))) ≡ Ok
      (rows_of n (length ids) parent e c)
  unfolding element_rows keys_of Ident Class
  object_walk n below parent default e c kind may shallow ids come =
      let p = part meta m (whole meta m) e c in
      let ms = members (key_name meta) p (keys_of meta c) in
      let own = length ids in
      let deep = depths (key_name meta) p n (keys_of meta c) shallow in
      let inside : Ids = ids ++ Some e ∷ [] in
      let concrete = live_concrete meta m.kind (get m.kind e) (get m.place e) (get m.prank e) c (good.places.stands e) kind in
      let class_there : get_member (codes "eClass") ms ≡ Some (string (class_text meta c)) =
      member_at meta p (keys_of meta c) (keys_rise meta promised.named c) Class (string (class_text meta c)) (class_stands meta c) refl in
      let id_there : get_member (codes "_id") ms ≡ Some (string e) =
      member_at meta p (keys_of meta c) (keys_rise meta promised.named c) Ident (string e) (ident_stands meta c) refl in
      let rows = keys_rows meta m e (tree_rows meta m n) own (suc own) (keys_of meta c) in
      let keys_read : members_rows meta c own inside no_part ms ≡ Ok (told meta m e (tree_rows meta m n) own (suc own) (keys_of meta c)) =
      members_walk meta m e (tree_rows meta m n) own c p inside (keys_of meta c) (keys_due n below own e c deep) no_part (suc own)
      (counted ids (Some e)) (subst (λ zs. Come zs (ids_of rows)) (sym (append-nil inside)) come.1) in
      ap (λ o. «then» (class_of meta default o)
      (λ c. «then» (id_of ids (get_member (codes "_id") ms)) (λ id. own_rows parent id c (members_rows meta c own (ids ++ id ∷ []) no_part ms))))
      class_there
      ∙ ap (λ r. «then» r (λ c.
      «then» (id_of ids (get_member (codes "_id") ms)) (λ id. own_rows parent id c (members_rows meta c own (ids ++ id ∷ []) no_part ms))))
      (class_read meta promised.named default c concrete may)
      ∙ ap (λ r. «then» r (λ id. own_rows parent id c (members_rows meta c own (ids ++ id ∷ []) no_part ms)))
      (ap (id_of ids) id_there ∙ id_read ids e come.0 (forms e (ap is_some kind)))
      ∙ ap (own_rows parent (Some e) c) keys_read
    where
      counted : (ids : Ids) (id : Option IdBytes) → suc (length ids) ≡ length ((ids ++ id ∷ []) ++ ids_of [])
      counted ids id = let l = length-append ids (id ∷ []) in let k = ap length (append-nil (ids ++ id ∷ [])) in omega arith

  pub walk : (n : ℕ) → Below n
  walk zero parent default e c kind may deep ids come =
      let shape = nested e ∙ ap (object_of meta m (whole meta m) e) kind in
      let l = ap depth shape in
      absurd (omega arith)
  walk (suc n) parent default e c kind may deep ids come =
      let shape : whole meta m e ≡ object (members (key_name meta) (part meta m (whole meta m) e c) (keys_of meta c)) =
      nested e ∙ ap (object_of meta m (whole meta m) e) kind in
      let step = tree_step n (length ids) parent e c (ap (λ o. unwrap_or o 0) kind) in
      let shallow : members_depth (members (key_name meta) (part meta m (whole meta m) e c) (keys_of meta c)) ≤ n = let l = ap depth shape in omega arith in
      ap (element_rows meta ids parent default) shape
      ∙ object_walk n (walk n) parent default e c kind may shallow ids (subst (λ rs. Come ids (ids_of rs)) step come)
      ∙ ap (λ rs. Ok rs) (sym step)
