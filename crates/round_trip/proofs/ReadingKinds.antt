-- What stands under a feature gives what it is to give.
use Rattle.std.proofs.Common.{◌≡◌, ℕ, ◌≤◌, Bool, true, false, not, ◌&&◌, List, [], ◌∷◌, length, map, refl, sym, ap, subst, ◌∙◌, arith, append-nil}
use Rattle.std.specs.Prelude.{Option, None, Some, Ok, nat_le}
use Rattle.std.specs.List.{AllByRecursion}
use Rattle.std.proofs.lemmas.List.{length-map}
use Rattle.std.proofs.lemmas.Bool.Decides.{nat_tests}
use Rattle.serde_json.specs.Data.{Data, array, object, Members}
use Rattle.serde_json.specs.View.{items_of}
use Rattle.ecore_json.specs.Rows.{list_of}
use Rattle.ecore_meta.specs.Meta.{Meta}
use Rattle.ecore_meta.specs.Typing.{fits, is_one, kind_of, upper_of}
use Rattle.ecore_meta.specs.declared.meta.Kind.{Kind}
use Rattle.ecore_meta.specs.declared.meta.Kind.TheVariants.{Attr, AttrMany, Bounded, Free, Contains, Container, Skip}
use Rattle.ecore_meta.specs.declared.meta.Scalar.{Scalar}
use Rattle.ecore_meta.specs.declared.meta.Value.{Value}
use Rattle.model_state.specs.declared.step.Place.TheVariants.{Inside}
use Rattle.model_state.specs.Keys.{IdBytes}
use Rattle.model_state.specs.State.{State}
use Rattle.model_state.specs.Typing.{is_default}
use Rattle.emfjson_values.specs.Values.{data_of}
use Rattle.model_documents.specs.declared.doc.DocParent.{DocParent}
use Rattle.model_documents.specs.declared.fault.ModelFault.TheVariants.{BadValue, Bound, WrongType}
use Rattle.finite_maps.specs.Maps.{is_within}
use Rattle.model_documents.specs.Links.{entry_of, links_part}
use Rattle.model_documents.specs.Parts.{Part, no_part, Ids, ids_of}
use Rattle.model_documents.specs.Reads.{«then», unless, found}
use Rattle.model_documents.specs.Walk.{element_rows, feature_part, held_rows, items_rows, rows_part}
use Rattle.model_documents.proofs.Features.{single_set, many_read}
use Rattle.model_state.specs.Listing.{values_at}
use Rattle.model_texts.specs.Tree.{child_ids, content, first_value, is_single, listed, one_or_all, reference, target_ids}
use Rattle.ecore_meta.specs.Named.{IsNamed}
use Rattle.round_trip.proofs.KeysTypes.{ElementDraft}
use Rattle.round_trip.proofs.ReadingTrees.{AreOk, all_from}
use Rattle.round_trip.proofs.WalksRows.{Come, forest, kind_attrs, kind_links, kind_rows, set_attr, set_links}
use Rattle.round_trip.proofs.WalksSteps.{Walked, items_walk}
use Rattle.round_trip.proofs.ReadingParts.{held_once, list_items, not_null, one_within, value_again, values_again}
use Rattle.model_state.specs.Ranks.{most_entries}

both : (a b : Bool) → a ≡ true → b ≡ true → a && b ≡ true
both true true h k = refl
both true false h k = cc
both false b h k = cc

few : (n : ℕ) → n ≤ most_entries → nat_le n most_entries ≡ true
few n h = grind (arith, nat_tests)

-- ---- links
entries_again : (bs : List IdBytes) → map entry_of (map reference bs) ≡ map (λ b. Some b) bs
entries_again [] = refl
entries_again (b ∷ bs) = ap (λ xs. Some b ∷ xs) (entries_again bs)

links_again : (f : ℕ) (single : Bool) (b : IdBytes) (bs : List IdBytes) → (single ≡ true → length (b ∷ bs) ≤ 1)
    → links_part f single (one_or_all single (reference b) (map reference bs)) ≡ record no_part {
      links =
          record { feature = f; entries = map (λ x. Some x) (b ∷ bs) } ∷ [];
    }
links_again f true b [] h = refl
links_again f true b (d ∷ bs) h = let l = h refl in absurd (omega arith)
links_again f false b bs h =
    ap (λ es. record no_part { links = record { feature = f; entries = es } ∷ [] })
    (ap (map entry_of) (list_items (map reference (b ∷ bs))) ∙ entries_again (b ∷ bs))

-- ---- elements inside
abbrev pub IsObject : Data → Type 0
IsObject d = (ms : Members) × (d ≡ object ms)

held_object : (meta : Meta) (ids : Ids) (p : DocParent) (target : ℕ) (d : Data) → IsObject d → is_within 1 (upper_of meta p.feature) ≡ true
    → held_rows meta ids p target d ≡ element_rows meta ids (Some p) (Some target) d
unfolding element_rows held_rows
held_object meta ids p target d o within =
    subst (λ x. held_rows meta ids p target x ≡ element_rows meta ids (Some p) (Some target) x) (sym o.1)
    (ap (λ b. unless b Bound (element_rows meta ids (Some p) (Some target) (object o.0))) within)

module _ (meta : Meta) (below : ℕ → Option DocParent → IdBytes → List ElementDraft) (whole : IdBytes → Data)
    (objects : (c : IdBytes) → IsObject (whole c)) where
  alone : (k : ℕ) (parent : Option DocParent) (c : IdBytes) → below k parent c ≡ forest below k parent (c ∷ [])
  alone k parent c = sym (append-nil (below k parent c))

  held_again : (p : DocParent) (target : ℕ) (single : Bool) (c : IdBytes) (cs : List IdBytes) → is_one (upper_of meta p.feature) ≡ single
      → is_within (length (c ∷ cs)) (upper_of meta p.feature) ≡ true
      → AllByRecursion (Walked meta below whole (Some p) (Some target)) (c ∷ cs) → (ids : Ids) → Come ids (ids_of (forest below (length ids) (Some p) (c ∷ cs)))
      → held_rows meta ids p target (one_or_all single (whole c) (map whole cs)) ≡ Ok (forest below (length ids) (Some p) (c ∷ cs))
  unfolding held_rows
  held_again p target true c [] one within all ids come =
      held_object meta ids p target (whole c) (objects c) within
      ∙ all.0 ids (subst (λ rs. Come ids (ids_of rs)) (sym (alone (length ids) (Some p) c)) come)
      ∙ ap (λ rs. Ok rs) (alone (length ids) (Some p) c)
  held_again p target true c (d ∷ cs) one within all ids come = absurd (one_within (upper_of meta p.feature) (length cs) one within)
  held_again p target false c cs one within all ids come =
      let ds = map whole (c ∷ cs) in
      let many : length (list_of (items_of ds)) ≡ length (c ∷ cs) = ap length (list_items ds) ∙ length-map (c ∷ cs) whole in
      ap (λ b. unless (not b) WrongType
      (unless (is_within (length (list_of (items_of ds))) (upper_of meta p.feature)) Bound
      (items_rows meta ids (Some p) (Some target) [] (items_of ds)))) one
      ∙ ap (λ n. unless (is_within n (upper_of meta p.feature)) Bound (items_rows meta ids (Some p) (Some target) [] (items_of ds))) many
      ∙ ap (λ b. unless b Bound (items_rows meta ids (Some p) (Some target) [] (items_of ds))) within
      ∙ items_walk meta below whole (Some p) (Some target) ids (c ∷ cs) [] (length ids) (ap length (sym (append-nil ids))) all
      (subst (λ zs. Come zs (ids_of (forest below (length ids) (Some p) (c ∷ cs)))) (sym (append-nil ids)) come)

-- ---- each kind of feature
module _ (meta : Meta) (named : IsNamed meta) (m : State) (below : ℕ → Option DocParent → IdBytes → List ElementDraft) (whole : IdBytes → Data)
    (objects : (c : IdBytes) → IsObject (whole c)) (own : ℕ) (e : IdBytes) (f : ℕ) where
  -- the parent of the elements in the feature
  abbrev here : DocParent
  here = record { row = own; feature = f }

  -- the content of a feature gives what it is to give, after whatever ids have come
  abbrev pub FeatureOk : Kind → Option Data → Type 0
  FeatureOk k None = (kind_attrs m e f k ≡ []) × (kind_links m e f k ≡ []) × ((n : ℕ) → kind_rows m e f below own n k ≡ [])
  FeatureOk k (Some d) =
      (ids : Ids) → Come ids (ids_of (kind_rows m e f below own (length ids) k))
      → feature_part meta f k d (λ g target. held_rows meta ids (record { row = own; feature = g }) target d) ≡ Ok
      (record { attrs = kind_attrs m e f k; links = kind_links m e f k; rows = kind_rows m e f below own (length ids) k })

  -- what a good state has under a feature of the kind
  abbrev pub ContentFits : Kind → Type 0
  ContentFits (Attr scalar default) = AreOk meta (Attr scalar default) (upper_of meta f) (values_at m e f)
  ContentFits (AttrMany scalar unique) = AreOk meta (AttrMany scalar unique) (upper_of meta f) (values_at m e f)
  ContentFits (Bounded target opposite) = is_single meta f ≡ true → length (target_ids m e f) ≤ 1
  ContentFits (Free target opposite) = is_single meta f ≡ true → length (target_ids m e f) ≤ 1
  ContentFits (Contains target opposite) =
      (is_within (length (child_ids m (Inside e f))) (upper_of meta f) ≡ true)
      × AllByRecursion (Walked meta below whole (Some here) (Some target)) (child_ids m (Inside e f))
  ContentFits (Container target opposite) = Unit {0}
  ContentFits Skip = Unit {0}

  single_ok : (s : Scalar) (default : Option Value) → kind_of meta f ≡ Attr s default → (vs : List Value) → values_at m e f ≡ vs
      → AreOk meta (Attr s default) (upper_of meta f) vs → FeatureOk (Attr s default) (first_value meta s vs)
  single_ok s default kind [] at ok = (ap (λ xs. set_attr f xs) at, refl, λ n. refl)
  single_ok s default kind (v ∷ []) at ok = λ ids come.
      single_set meta f s (data_of meta s v) v false (not_null meta s v) (ap (found BadValue) (value_again meta named s v ok.0))
      (ap (λ k. is_default k v) kind ∙ ok.1)
      ∙ ap (λ xs. Ok (record { attrs = set_attr f xs; links = []; rows = [] })) (sym at)
  single_ok s default kind (v ∷ w ∷ vs) at ok = absurd ok

  many_ok : (s : Scalar) (unique : Bool) (vs : List Value) → values_at m e f ≡ vs → AreOk meta (AttrMany s unique) (upper_of meta f) vs
      → FeatureOk (AttrMany s unique) (listed false (map (data_of meta s) vs))
  many_ok s unique [] at ok = (ap (λ xs. set_attr f xs) at, refl, λ n. refl)
  many_ok s unique (v ∷ vs) at ok = λ ids come.
      many_read meta f s unique (array (items_of (map (data_of meta s) (v ∷ vs)))) (v ∷ vs) true (map (data_of meta s) (v ∷ vs)) refl
      (sym (list_items (map (data_of meta s) (v ∷ vs))))
      (values_again meta named s unique [] (v ∷ vs) (all_from (fits meta s) (v ∷ vs) ok.0) (held_once unique (v ∷ vs) ok.3))
      (both (is_within (length (v ∷ vs)) (upper_of meta f)) (nat_le (length (v ∷ vs)) most_entries) ok.1 (few (length (v ∷ vs)) ok.2))
      ∙ ap (λ xs. Ok (record { attrs = set_attr f xs; links = []; rows = [] })) (sym at)

  links_told : List IdBytes → Part
  links_told bs = record { attrs = []; links = set_links f bs; rows = [] }

  links_ok : (bs : List IdBytes) → (is_single meta f ≡ true → length bs ≤ 1) → (b : IdBytes) (rest : List IdBytes) → bs ≡ b ∷ rest
      → links_part f (is_one (upper_of meta f)) (one_or_all (is_single meta f) (reference b) (map reference rest)) ≡ links_told bs
  unfolding links_told
  links_ok bs few b rest is =
      links_again f (is_single meta f) b rest (subst (λ xs. is_single meta f ≡ true → length xs ≤ 1) is few)
      ∙ ap (λ xs. record { attrs = []; links = set_links f xs; rows = [] }) (sym is)

  bounded_ok : (target : ℕ) (opposite : Option ℕ) (bs : List IdBytes) → target_ids m e f ≡ bs → (is_single meta f ≡ true → length bs ≤ 1)
      → FeatureOk (Bounded target opposite) (listed (is_single meta f) (map reference bs))
  unfolding links_told
  bounded_ok target opposite [] at few = (refl, ap (λ xs. set_links f xs) at, λ n. refl)
  bounded_ok target opposite (b ∷ bs) at few =
      λ ids come. ap (λ (q : Part). Ok q) (links_ok (b ∷ bs) few b bs refl)
      ∙ ap (λ xs. Ok (record { attrs = []; links = set_links f xs; rows = [] })) (sym at)

  free_ok : (target : ℕ) (opposite : Option ℕ) (bs : List IdBytes) → target_ids m e f ≡ bs → (is_single meta f ≡ true → length bs ≤ 1)
      → FeatureOk (Free target opposite) (listed (is_single meta f) (map reference bs))
  unfolding links_told
  free_ok target opposite [] at few = (refl, ap (λ xs. set_links f xs) at, λ n. refl)
  free_ok target opposite (b ∷ bs) at few =
      λ ids come. ap (λ (q : Part). Ok q) (links_ok (b ∷ bs) few b bs refl)
      ∙ ap (λ xs. Ok (record { attrs = []; links = set_links f xs; rows = [] })) (sym at)

  contains_ok : (target : ℕ) (opposite : Option ℕ) (cs : List IdBytes) → child_ids m (Inside e f) ≡ cs
      → is_within (length cs) (upper_of meta f) ≡ true → AllByRecursion (Walked meta below whole (Some here) (Some target)) cs
      → FeatureOk (Contains target opposite) (listed (is_single meta f) (map whole cs))
  contains_ok target opposite [] at within all = (refl, refl, λ n. ap (λ xs. forest below n (Some here) xs) at)
  contains_ok target opposite (c ∷ cs) at within all = λ ids come.
      ap (λ r. «then» r (λ rows. Ok (rows_part rows)))
      (held_again meta below whole objects here target (is_single meta f) c cs refl within all ids
      (subst (λ xs. Come ids (ids_of (forest below (length ids) (Some here) xs))) at come))
      ∙ ap (λ xs. Ok (record { attrs = []; links = []; rows = forest below (length ids) (Some here) xs })) (sym at)

  pub feature_ok : (k : Kind) → kind_of meta f ≡ k → ContentFits k → FeatureOk k (content meta m whole e f k)
  feature_ok (Attr scalar default) is fit = single_ok scalar default is (values_at m e f) refl fit
  feature_ok (AttrMany scalar unique) is fit = many_ok scalar unique (values_at m e f) refl fit
  feature_ok (Bounded target opposite) is fit = bounded_ok target opposite (target_ids m e f) refl fit
  feature_ok (Free target opposite) is fit = free_ok target opposite (target_ids m e f) refl fit
  feature_ok (Contains target opposite) is fit = contains_ok target opposite (child_ids m (Inside e f)) refl fit.0 fit.1
  feature_ok (Container target opposite) is fit = (refl, refl, λ n. refl)
  feature_ok Skip is fit = (refl, refl, λ n. refl)
