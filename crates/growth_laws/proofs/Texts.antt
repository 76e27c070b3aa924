-- The text of a good state is that of the metamodel that grew.
use Rattle.std.proofs.Common.{◌≡◌, ℕ, zero, suc, ◌+◌, ◌≤◌, Bool, true, false, cond, refl, sym, ap, subst, ◌∙◌, ◌&&◌, ◌++◌, List, [], ◌∷◌, length, map}
use Rattle.std.proofs.Common.{nat_lt, not, arith}
use Rattle.std.specs.Prelude.{Option, None, Some, slice_get, codes, unwrap_or}
use Rattle.std.specs.Ordering.{nat_cmp, ordering_then}
use Rattle.std.specs.Cmp.Lexicographic.{slice_cmp}
use Rattle.std.specs.List.{filter, range_with_len, AllByRecursion, list_all}
use Rattle.std.specs.Option.{option_map_or}
use Rattle.std.specs.FinMap.{FinMap, get, len, entries}
use Rattle.serde_json.specs.Data.{Data, string, object}
use Rattle.serde_json.specs.Written.{compact_text}
use Rattle.finite_maps.specs.Maps.{tally}
use Rattle.finite_maps.specs.Sorts.{in_order}
use Rattle.finite_maps.proofs.SortLaws.{tally-map, tally-in_order, rises-in_order, same_risen}
use Rattle.finite_maps.proofs.EqualLaws.{and_first, and_second, and_both}
use Rattle.finite_maps.proofs.Cases.{true_false}
use Rattle.std.proofs.lemmas.Bool.Decides.{nat_tests}
use Rattle.std.proofs.lemmas.List.Elements.{filter_agree}
use Rattle.ecore_meta.specs.Meta.{Meta, is_a, has_feature, features_of}
use Rattle.ecore_meta.specs.Typing.{fits, is_one, kind_of, literal_text, literal_count, text_in, upper_of}
use Rattle.ecore_meta.specs.declared.meta.Class.{Class as MetaClass}
use Rattle.ecore_meta.specs.declared.meta.Feature.{Feature as MetaFeature}
use Rattle.ecore_meta.specs.declared.meta.EnumLiteral.{EnumLiteral}
use Rattle.ecore_meta.specs.declared.meta.Kind.{Kind}
use Rattle.ecore_meta.specs.declared.meta.Kind.TheVariants.{Attr, AttrMany, Bounded, Free, Contains, Container, Skip}
use Rattle.ecore_meta.specs.declared.meta.Scalar.{Scalar}
use Rattle.ecore_meta.specs.declared.meta.Scalar.TheVariants.{Literal as LiteralType}
use Rattle.ecore_meta.specs.declared.meta.Value.{Value}
use Rattle.ecore_meta.specs.declared.meta.Value.TheVariants.{Literal}
use Rattle.model_state.specs.declared.step.Place.{Place}
use Rattle.model_state.specs.declared.step.Place.TheVariants.{Root, Inside}
use Rattle.model_state.specs.Keys.{IdBytes, RowKey, id_cmp}
use Rattle.model_state.specs.Listing.{entry_cmp, is_of, rank_at, row_entry, values_at}
use Rattle.model_state.specs.State.{State, place_eq}
use Rattle.model_state.specs.Typing.{is_concrete}
use Rattle.model_state.specs.Steps.{class_has}
use Rattle.model_state.specs.Good.{AttrOk, Good, PlaceOk, ValuesOk}
use Rattle.emfjson_values.specs.Values.{data_of}
use Rattle.model_texts.specs.declared.key.Key.{Key}
use Rattle.model_texts.specs.declared.key.Key.TheVariants.{Ident, Class, Feature}
use Rattle.model_texts.specs.Keys.{key_cmp, key_name, key_number, keys_of}
use Rattle.model_texts.specs.Tree.{child_ids, class_text, content, element, entry_ids, first_value, is_single, listed, members, object_of}
use Rattle.model_texts.specs.Tree.{one_or_list, part, reference, target_ids, text, whole, with_member}
use Rattle.model_texts.proofs.Order.{key_order}
use Rattle.growth_laws.specs.Growth.{Evolves}
use Rattle.growth_laws.proofs.Keeps.{Keeps}
use Rattle.growth_laws.proofs.Kept.{Same, same_kind, same_upper}
use Rattle.growth_laws.proofs.States.{none_stands, none_linked}
use Rattle.growth_laws.proofs.Runs.{kept}
use Rattle.growth_laws.specs.Laws.{GrowthKeepsText}
use Rattle.ecore_meta.specs.Names.{Name}
use Rattle.ecore_meta.specs.Promised.{IsMetamodel, declared}
use Rattle.ecore_meta.specs.declared.meta.Enum.{Enum}
use Rattle.ecore_meta.proofs.DeclaredLaws.{has_declared}
use Rattle.growth_laws.proofs.Lists.{filter_all, rises_filter, rises_agree, tally_filter, filter_none, filter_twice, filter_range}

-- keys under which nothing stands may go
drop_members : (name : Key → Name) (part : Key → Option Data) (p : Key → Bool) → ((k : Key) → p k ≡ false → part k ≡ None)
    → (ks : List Key) → members name part ks ≡ members name part (filter p ks)
drop_members name part p none [] = refl
drop_members name part p none (k ∷ ks) =
    elim (p k) as (λ b. p k ≡ b → with_member (name k) (part k) (members name part ks) ≡ members name part (cond b (k ∷ filter p ks) (filter p ks))) [
      | true ↦ λ e. ap (with_member (name k) (part k)) (drop_members name part p none ks)
      | false ↦ λ e. ap (λ d. with_member (name k) d (members name part ks)) (none k e) ∙ drop_members name part p none ks
    ] refl

-- names and parts that agree at the keys
agree_members : (P : Key → Type 0) (name name' : Key → Name) (part part' : Key → Option Data) → ((k : Key) → P k → name k ≡ name' k)
    → ((k : Key) → P k → part k ≡ part' k) → (ks : List Key) → AllByRecursion P ks → members name part ks ≡ members name' part' ks
agree_members P name name' part part' f g [] all = refl
agree_members P name name' part part' f g (k ∷ ks) all = λ i. with_member (f k all.0 i) (g k all.0 i) (agree_members P name name' part part' f g ks all.1 i)

same_map : {X Y : Type 0} (f g : X → Y) → ((x : X) → f x ≡ g x) → (xs : List X) → map f xs ≡ map g xs
same_map f g h [] = refl
same_map f g h (x ∷ xs) = λ i. h x i ∷ same_map f g h xs i

-- a key that the metamodel has for a class
abbrev old_key : Meta → ℕ → Key → Bool
old_key o c Ident = true
old_key o c Class = true
old_key o c (Feature f) = has_feature o c f

-- values that an attribute of the kind may hold are of its type
abbrev Fit : Meta → Kind → List Value → Type 0
Fit o (Attr scalar default) vs = list_all (fits o scalar) vs ≡ true
Fit o (AttrMany scalar unique) vs = list_all (fits o scalar) vs ≡ true
Fit o k vs = Unit {0}

fit_none : (o : Meta) (k : Kind) → Fit o k []
fit_none o (Attr scalar default) = refl
fit_none o (AttrMany scalar unique) = refl
fit_none o k = tt

fit_of : (o : Meta) (k : Kind) (upper : Option ℕ) (vs : List Value) → ValuesOk o k upper vs → Fit o k vs
fit_of o (Attr scalar default) upper (v ∷ []) h = and_both _ _ h.0 refl
fit_of o (AttrMany scalar unique) upper (v ∷ vs) h = h.0
fit_of o k upper vs h = absurd h

fit_at : (o : Meta) (c f : ℕ) (vs : Option (List Value)) → AttrOk o (Some c) f vs → Fit o (kind_of o f) (unwrap_or vs [])
fit_at o c f None h = fit_none o (kind_of o f)
fit_at o c f (Some vs) h = fit_of o (kind_of o f) (upper_of o f) vs h.1

stood_concrete : (o : Meta) (kind : FinMap id_cmp ℕ) (c : ℕ) (p : Option Place) (r : Option ℕ) → PlaceOk o kind (Some c) p r → is_concrete o c ≡ true
stood_concrete o kind c (Some p) (Some r) h = h.0
stood_concrete o kind c p r h = absurd h

module _ (o n : Meta) (evolves : Evolves o n) where
  keeps : Keeps o n
  keeps = kept o n evolves

  -- the features of a class stand by number, each once
  listed_in : (m : Meta) → IsMetamodel m → (c : ℕ) → features_of m c ≡ filter (has_feature m c) (range_with_len 0 (length m.features))
  listed_in m is c = is.lists c ∙ filter_agree (declared m c) (has_feature m c) (λ f. sym (has_declared m is.lists c f)) (range_with_len 0 (length m.features))

  same : (c f : ℕ) → has_feature o c f ≡ true → Same o n f
  same c f h = record { is = keeps.feature c f h }

  same_name : (c : ℕ) (k : Key) → old_key o c k ≡ true → key_name n k ≡ key_name o k
  same_name c Ident h = refl
  same_name c Class h = refl
  same_name c (Feature f) h = ap (λ x. option_map_or (λ (feature : MetaFeature). feature.name) x []) (keeps.feature c f h)

  same_cmp : (c : ℕ) (x y : Key) → old_key o c x ≡ true → old_key o c y ≡ true → key_cmp o y x ≡ key_cmp n y x
  same_cmp c x y h g = λ i. ordering_then (slice_cmp nat_cmp (sym (same_name c y g) i) (sym (same_name c x h) i)) (nat_cmp (key_number y) (key_number x))

  -- no more features than before have a number of before
  in_reach : (c f : ℕ) → length o.features ≤ f → has_feature o c f ≡ false
  in_reach c f le = has_declared o evolves.was.lists c f
      ∙ ap (λ x. option_map_or (λ (feature : MetaFeature). is_a o c feature.owner) x false) (past o.features f le)
    where
      past : (xs : List MetaFeature) (k : ℕ) → length xs ≤ k → slice_get xs k ≡ None
      past [] k h = refl
      past (x ∷ xs) zero h = absurd (omega (arith, h))
      past (x ∷ xs) (suc k) h = past xs k (omega (arith, h))

  no_fewer : length o.features ≤ length n.features
  no_fewer = longer o.features n.features evolves.preserves.features
    where
      first_is : (y : MetaFeature) (ys xs : List MetaFeature)
          → ((f : ℕ) (x : MetaFeature) → slice_get (y ∷ ys) f ≡ Some x → slice_get xs f ≡ Some x) → xs ≡ [] → ⊥
      first_is y ys xs h e = let g : None ≡ Some y = sym (ap (λ (zs : List MetaFeature). slice_get zs 0) e) ∙ h 0 y refl in cc

      longer : (ys xs : List MetaFeature) → ((f : ℕ) (x : MetaFeature) → slice_get ys f ≡ Some x → slice_get xs f ≡ Some x) → length ys ≤ length xs
      longer [] xs h = omega arith
      longer (y ∷ ys) [] h = absurd (first_is y ys [] h refl)
      longer (y ∷ ys) (x ∷ xs) h = let rest = longer ys xs (λ f z is. h (suc f) z is) in omega (arith, rest)

  same_features : (c : ℕ) → filter (has_feature o c) (features_of n c) ≡ features_of o c
  same_features c =
      ap (filter (has_feature o c)) (listed_in n evolves.is c)
      ∙ filter_twice (has_feature o c) (has_feature n c) (keeps.has c) (range_with_len 0 (length n.features))
      ∙ filter_range (has_feature o c) 0 (length n.features) (length o.features) no_fewer (λ x le. in_reach c x (omega (arith, le)))
      ∙ sym (listed_in o evolves.was c)

  same_keys : (c : ℕ) → filter (old_key o c) (keys_of n c) ≡ keys_of o c
  unfolding keys_of
  same_keys c =
      same_risen (key_order o) _ _
      (rises_agree (key_cmp n) (key_cmp o) (λ k. old_key o c k ≡ true) (same_cmp c) (filter (old_key o c) (keys_of n c))
      (filter_all (old_key o c) (keys_of n c))
      (rises_filter (old_key o c) (key_cmp n) (keys_of n c)
      (rises-in_order (key_order n) (Ident ∷ Class ∷ map (λ f. Feature f) (features_of n c)))))
      (rises-in_order (key_order o) (Ident ∷ Class ∷ map (λ f. Feature f) (features_of o c)))
      (λ q.
      tally_filter (old_key o c) q (keys_of n c)
      ∙ tally-in_order (key_cmp n) (λ k. old_key o c k && q k) (Ident ∷ Class ∷ map (λ f. Feature f) (features_of n c))
      ∙ ap (λ t. cond (q Ident) 1 0 + (cond (q Class) 1 0 + t))
      (tally-map (λ k. old_key o c k && q k) (λ f. Feature f) (features_of n c)
      ∙ sym (tally_filter (has_feature o c) (λ f. q (Feature f)) (features_of n c))
      ∙ ap (tally (λ f. q (Feature f))) (same_features c)
      ∙ sym (tally-map q (λ f. Feature f) (features_of o c)))
      ∙ sym (tally-in_order (key_cmp o) q (Ident ∷ Class ∷ map (λ f. Feature f) (features_of o c))))

  same_class : (c : ℕ) → is_concrete o c ≡ true → class_text n c ≡ class_text o c
  same_class c h =
      elim (slice_get o.classes c) as (λ x. slice_get o.classes c ≡ x → option_map_or (λ (k : MetaClass). not k.is_abstract) x false ≡ true
      → class_text n c ≡ class_text o c) [
        | None ↦ λ is g. absurd (never g)
        | Some k ↦ λ is g.
            let l = evolves.preserves.classes c k is in
            let name : option_map_or (λ (x : MetaClass). x.name) (slice_get n.classes c) [] ≡ option_map_or (λ (x : MetaClass). x.name)
            (slice_get o.classes c) [] = ap (λ x. option_map_or (λ (x : MetaClass). x.name) x []) l.1 ∙ l.2
            ∙ sym (ap (λ x. option_map_or (λ (x : MetaClass). x.name) x []) is) in
            λ i. evolves.preserves.uri i ++ codes "#//" ++ name i
      ] refl h
    where
      never : false ≡ true → ⊥
      never e = cc

  literal_same : (e k : ℕ) → nat_lt k (literal_count o e) ≡ true → literal_text n e k ≡ literal_text o e k
  literal_same e k h =
      elim (slice_get o.enums e) as (λ x. slice_get o.enums e ≡ x
      → nat_lt k (length (option_map_or (λ (found : Enum). found.literals) x [])) ≡ true → literal_text n e k ≡ literal_text o e k) [
        | None ↦ λ at g. absurd (none_below k g)
        | Some x ↦ λ at g.
            let more = evolves.preserves.enums e x at in
            ap (λ y. text_in (option_map_or (λ (found : Enum). found.literals) y []) k) more.2
            ∙ ap (λ ls. text_in ls k) more.4
            ∙ ap (λ y. option_map_or (λ (l : EnumLiteral). l.text) y []) (get_left x.literals more.1 k g)
            ∙ sym (ap (λ y. text_in (option_map_or (λ (found : Enum). found.literals) y []) k) at)
      ] refl h
    where
      none_below : (k : ℕ) → nat_lt k 0 ≡ true → ⊥
      none_below k g = grind (arith, nat_tests)

      less : (k m : ℕ) → nat_lt (suc k) (suc m) ≡ true → nat_lt k m ≡ true
      less k m g = grind (arith, nat_tests)

      get_left : (ls more : List EnumLiteral) (k : ℕ) → nat_lt k (length ls) ≡ true → slice_get (ls ++ more) k ≡ slice_get ls k
      get_left [] more k g = absurd (none_below k g)
      get_left (l ∷ ls) more zero g = refl
      get_left (l ∷ ls) more (suc k) g = get_left ls more k (less k (length ls) g)

  -- a value that fits has its datum still
  pub data_same : (s : Scalar) (v : Value) → fits o s v ≡ true → data_of n s v ≡ data_of o s v
  data_same (LiteralType e) (Literal k) h = ap string (literal_same e k h)
  data_same s v h = refl

  datas_same : (s : Scalar) (vs : List Value) → list_all (fits o s) vs ≡ true → map (data_of n s) vs ≡ map (data_of o s) vs
  datas_same s [] h = refl
  datas_same s (v ∷ vs) h = λ i. data_same s v (and_first _ _ h) i ∷ datas_same s vs (and_second _ _ h) i

  single_same : (f : ℕ) → Same o n f → is_single n f ≡ is_single o f
  single_same f s = ap is_one (same_upper o n f s)

  module _ (m : State) (good : Good o m) where
    no_values : (e : IdBytes) (c f : ℕ) → get m.kind e ≡ Some c → has_feature o c f ≡ false → values_at m e f ≡ []
    no_values e c f is lacks =
        elim (get m.attr (e, f)) as (λ x. get m.attr (e, f) ≡ x → unwrap_or x [] ≡ []) [
          | None ↦ λ at. refl
          | Some vs ↦ λ at. absurd (true_false _
              (subst (λ k. AttrOk o k f (Some vs)) is (subst (λ x. AttrOk o (get m.kind e) f x) at (good.attrs.typed e f))).0 lacks)
        ] refl

    lacking : (e : IdBytes) (c f : ℕ) → get m.kind e ≡ Some c → has_feature o c f ≡ false → class_has o (get m.kind e) f ≡ false
    lacking e c f is lacks = ap (λ k. class_has o k f) is ∙ lacks

    no_targets : (e : IdBytes) (c f : ℕ) → get m.kind e ≡ Some c → has_feature o c f ≡ false → target_ids m e f ≡ []
    no_targets e c f is lacks = ap (λ es. entry_ids (in_order entry_cmp (map row_entry es)))
        (filter_none (λ (x : RowKey × ℕ). is_of e f x.0) (entries m.row)
        (none_linked o n keeps evolves.is.sound m good e f (lacking e c f is lacks)))

    no_children : (e : IdBytes) (c f : ℕ) → get m.kind e ≡ Some c → has_feature o c f ≡ false → child_ids m (Inside e f) ≡ []
    no_children e c f is lacks =
        ap (λ es. entry_ids (in_order entry_cmp (map (λ (x : IdBytes × Place). record { rank = rank_at m.prank x.0; id = x.0 }) es)))
        (filter_none (λ (x : IdBytes × Place). place_eq (Inside e f) x.1) (entries m.place)
        (none_stands o n keeps evolves.is.sound m good e f (lacking e c f is lacks)))

    nothing_there : (below : IdBytes → Data) (e : IdBytes) (c f : ℕ) → get m.kind e ≡ Some c → has_feature o c f ≡ false → (k : Kind)
        → content n m below e f k ≡ None
    nothing_there below e c f is lacks (Attr scalar default) = ap (first_value n scalar) (no_values e c f is lacks)
    nothing_there below e c f is lacks (AttrMany scalar unique) = ap (λ vs. listed false (map (data_of n scalar) vs)) (no_values e c f is lacks)
    nothing_there below e c f is lacks (Bounded target opposite) = ap (λ xs. listed (is_single n f) (map reference xs)) (no_targets e c f is lacks)
    nothing_there below e c f is lacks (Free target opposite) = ap (λ xs. listed (is_single n f) (map reference xs)) (no_targets e c f is lacks)
    nothing_there below e c f is lacks (Contains target opposite) = ap (λ xs. listed (is_single n f) (map below xs)) (no_children e c f is lacks)
    nothing_there below e c f is lacks (Container target opposite) = refl
    nothing_there below e c f is lacks Skip = refl

    first_same : (s : Scalar) (vs : List Value) → list_all (fits o s) vs ≡ true → first_value n s vs ≡ first_value o s vs
    first_same s [] h = refl
    first_same s (v ∷ vs) h = ap Some (data_same s v (and_first _ _ h))

    kind_content : (below below' : IdBytes → Data) → ((x : IdBytes) → below x ≡ below' x) → (e : IdBytes) (f : ℕ) → Same o n f → (k : Kind)
        → Fit o k (values_at m e f) → content n m below e f k ≡ content o m below' e f k
    kind_content below below' alike e f s (Attr scalar default) h = first_same scalar (values_at m e f) h
    kind_content below below' alike e f s (AttrMany scalar unique) h = ap (listed false) (datas_same scalar (values_at m e f) h)
    kind_content below below' alike e f s (Bounded target opposite) h = ap (λ b. listed b (map reference (target_ids m e f))) (single_same f s)
    kind_content below below' alike e f s (Free target opposite) h = ap (λ b. listed b (map reference (target_ids m e f))) (single_same f s)
    kind_content below below' alike e f s (Contains target opposite) h = ap (λ b. listed b (map below (child_ids m (Inside e f))))
        (single_same f s) ∙ ap (listed (is_single o f)) (same_map below below' alike (child_ids m (Inside e f)))
    kind_content below below' alike e f s (Container target opposite) h = refl
    kind_content below below' alike e f s Skip h = refl

    same_content : (below below' : IdBytes → Data) → ((x : IdBytes) → below x ≡ below' x) → (e : IdBytes) (c f : ℕ) → get m.kind e ≡ Some c
        → has_feature o c f ≡ true → content n m below e f (kind_of n f) ≡ content o m below' e f (kind_of o f)
    same_content below below' alike e c f is has =
        ap (content n m below e f) (same_kind o n f (same c f has))
        ∙ kind_content below below' alike e f (same c f has) (kind_of o f)
        (fit_at o c f (get m.attr (e, f)) (subst (λ k. AttrOk o k f (get m.attr (e, f))) is (good.attrs.typed e f)))

    no_part : (below : IdBytes → Data) (e : IdBytes) (c : ℕ) → get m.kind e ≡ Some c → (k : Key) → old_key o c k ≡ false → part n m below e c k ≡ None
    no_part below e c is Ident h = cc
    no_part below e c is Class h = cc
    no_part below e c is (Feature f) h = nothing_there below e c f is h (kind_of n f)

    same_part : (below below' : IdBytes → Data) → ((x : IdBytes) → below x ≡ below' x) → (e : IdBytes) (c : ℕ) → get m.kind e ≡ Some c
        → (k : Key) → old_key o c k ≡ true → part n m below e c k ≡ part o m below' e c k
    same_part below below' alike e c is Ident h = refl
    same_part below below' alike e c is Class h =
        ap (λ t. Some (string t))
        (same_class c (stood_concrete o m.kind c (get m.place e) (get m.prank e)
        (subst (λ k. PlaceOk o m.kind k (get m.place e) (get m.prank e)) is (good.places.stands e))))
    same_part below below' alike e c is (Feature f) h = same_content below below' alike e c f is h

    same_object : (below below' : IdBytes → Data) → ((x : IdBytes) → below x ≡ below' x) → (e : IdBytes) (k : Option ℕ) → get m.kind e ≡ k
        → object_of n m below e k ≡ object_of o m below' e k
    same_object below below' alike e None is = refl
    same_object below below' alike e (Some c) is = ap object
        (drop_members (key_name n) (part n m below e c) (old_key o c) (no_part below e c is) (keys_of n c)
        ∙ agree_members (λ k. old_key o c k ≡ true) (key_name n) (key_name o) (part n m below e c) (part o m below' e c) (same_name c)
        (same_part below below' alike e c is) (filter (old_key o c) (keys_of n c)) (filter_all (old_key o c) (keys_of n c))
        ∙ ap (members (key_name o) (part o m below' e c)) (same_keys c))

    same_element : (k : ℕ) (e : IdBytes) → element n m k e ≡ element o m k e
    unfolding element
    same_element zero e = refl
    same_element (suc k) e = same_object (element n m k) (element o m k) (same_element k) e (get m.kind e) refl

    same_whole : (e : IdBytes) → whole n m e ≡ whole o m e
    unfolding whole
    same_whole e = same_element (len m.kind) e

    pub same_text : text n m ≡ text o m
    same_text = ap (λ ds. compact_text (one_or_list true ds)) (same_map (whole n m) (whole o m) same_whole (child_ids m Root))

pub growth_keeps_text : GrowthKeepsText
growth_keeps_text old new evolves m good = same_text old new evolves m good
