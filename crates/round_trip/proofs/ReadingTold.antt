-- The rows of the document that a good model's text is describe the model.
use Rattle.std.proofs.Common.{◌≡◌, ℕ, suc, ◌+◌, ◌≤◌, true, cond, List, [], ◌∷◌, length, map, refl, sym, ap, subst, ◌∙◌, arith}
use Rattle.std.specs.Prelude.{None, Some, Ok, slice_get, unwrap_or}
use Rattle.std.specs.FinMap.{get}
use Rattle.std.specs.List.{AllByRecursion}
use Rattle.std.specs.Option.{option_map}
use Rattle.std.proofs.lemmas.List.{length-map}
use Rattle.std.proofs.lemmas.Option.{slice_get-map}
use Rattle.serde_json.specs.Data.{depth}
use Rattle.serde_json.specs.Read.{max_depth}
use Rattle.ecore_meta.specs.Meta.{Meta}
use Rattle.model_state.specs.declared.step.Place.{Place}
use Rattle.model_state.specs.declared.step.Place.TheVariants.{Root}
use Rattle.model_state.specs.Good.{Good}
use Rattle.model_state.specs.Ident.{is_id}
use Rattle.model_state.specs.Keys.{IdBytes}
use Rattle.model_state.specs.State.{State, is_live, place_eq}
use Rattle.import_laws.specs.Names.{name_at}
use Rattle.import_laws.specs.News.{place_of}
use Rattle.model_documents.specs.declared.doc.DocRow.{DocRow}
use Rattle.model_documents.specs.Document.{doc_of, of_json, resolved}
use Rattle.model_documents.specs.Parts.{ids_of}
use Rattle.model_documents.specs.Reads.{«then»}
use Rattle.model_texts.specs.Laws.{IsNested}
use Rattle.model_texts.specs.Tree.{child_ids, target_ids, text, tree, whole}
use Rattle.model_texts.proofs.Nested.{text_is_whole}
use Rattle.ecore_meta.specs.Promised.{IsMetamodel}
use Rattle.round_trip.specs.Describes.{Describes, DescribesElement, standing_in}
use Rattle.round_trip.proofs.KeysFound.{Stands}
use Rattle.round_trip.proofs.KeysPairs.{Pairs}
use Rattle.round_trip.proofs.KeysTypes.{ElementDraft}
use Rattle.round_trip.proofs.ReadingLinks.{IsLink, targets_linked}
use Rattle.round_trip.proofs.ReadingMerged.{final, resolved_ok, told_at}
use Rattle.round_trip.proofs.ReadingSpots.{row_at, spot, spot_there}
use Rattle.round_trip.proofs.ReadingTrees.{all_so, text_reads}
use Rattle.round_trip.proofs.ReadingValues.{values_are_told}
use Rattle.round_trip.proofs.WalksApart.{Differ, roots_apart}
use Rattle.round_trip.proofs.WalksLists.{all_covered, at_place, kept, names_kept}
use Rattle.round_trip.proofs.WalksNames.{forest_names, tree_named, tree_names}
use Rattle.round_trip.proofs.WalksPlaces.{IsRow, RowOk, model_names, model_ok}
use Rattle.round_trip.proofs.WalksRoots.{model_rows, one_or_list_within, roots_walked}
use Rattle.round_trip.proofs.WalksRows.{class_at, tree_rows}
use Rattle.round_trip.proofs.WalksShort.{walked_short}
use Rattle.round_trip.proofs.WalksWhole.{listed_depths}

module _ (meta : Meta) (m : State) (good : Good meta m) (forms : (e : IdBytes) → is_live m e ≡ true → is_id e ≡ true) (names : List IdBytes)
    (apart : Pairs Differ names) (covered : (x : IdBytes) (c : ℕ) → get m.kind x ≡ Some c → Stands x names)
    (rows : List ElementDraft) (ids : ids_of rows ≡ map (λ x. Some x) names) (all : AllByRecursion (RowOk meta m names) rows) where
  -- the row of a document
  abbrev shown : ElementDraft → DocRow
  shown = final meta m good forms names apart covered rows ids all

  -- ---- each element
  named_back : (bs : List IdBytes) → AllByRecursion (λ b. Stands b names) bs → map (name_at names) (map (spot names) bs) ≡ bs
  named_back [] there = refl
  named_back (b ∷ bs) there = λ i. unwrap_or (spot_there b names there.0 i) [] ∷ named_back bs there.1 i

  targets_told : (e : IdBytes) (f : ℕ) → map (name_at names) (map (spot names) (target_ids m e f)) ≡ target_ids m e f
  targets_told e f = named_back (target_ids m e f)
      (all_so (IsLink meta m e f) (λ b. Stands b names) (λ b link. covered b (class_at meta m b) link.target) (target_ids m e f)
      (targets_linked meta m good e f))

  element_told : (r : ElementDraft) (e : IdBytes) → IsRow meta m names r e → DescribesElement m names e (shown r)
  element_told r e row =
      subst (λ q. DescribesElement m names e (shown q)) (sym row.is) (record {
        id = refl;
        class = row.class;
        place = row.place;
        values = values_are_told meta m e good (class_at meta m e) row.class;
        targets = λ f. ap (map (name_at names)) (told_at meta m good forms names apart covered rows ids all e f) ∙ targets_told e f;
      })

  each_told : (n : ℕ) (r : DocRow) (e : IdBytes) → slice_get (map shown rows) n ≡ Some r → slice_get names n ≡ Some e → DescribesElement m names e r
  each_told n r e at named =
      let d = row_at meta m names rows names n e ids all named in
      let same : Some (shown d.0) ≡ Some r = sym (slice_get-map shown rows n ∙ ap (option_map shown) d.1) ∙ at in
      subst (DescribesElement m names e) (some_same (shown d.0) r same) (element_told d.0 e d.2)
    where
      some_same : (x y : DocRow) → Some x ≡ Some y → x ≡ y
      some_same x y h = cc

  -- ---- each list
  standing_kept : (p : Place) (qs : List ElementDraft) (xs : List IdBytes) (n : ℕ) → ids_of qs ≡ map (λ x. Some x) xs
      → AllByRecursion (RowOk meta m names) qs → ((i : ℕ) (x : IdBytes) → slice_get xs i ≡ Some x → slice_get names (n + i) ≡ Some x)
      → standing_in names p n (map shown qs) ≡ kept m p xs
  standing_kept p [] [] n is ok at = refl
  standing_kept p [] (x ∷ xs) n is ok at = cc
  standing_kept p (q ∷ qs) [] n is ok at = cc
  standing_kept p (q ∷ qs) (x ∷ xs) n is ok at =
      let row = ok.0.1 in
      let own : q.id ≡ Some ok.0.0 = ap (λ (r : ElementDraft). r.id) row.is in
      let head : q.id ≡ Some x = cc in
      let tail : ids_of qs ≡ map (λ x. Some x) xs = cc in
      let same : ok.0.0 ≡ x = cc in
      let parent : q.parent ≡ row.parent = ap (λ (r : ElementDraft). r.parent) row.is in
      let placed : get m.place x ≡ Some (place_of names q.parent) = ap (get m.place) (sym same) ∙ row.place ∙ ap (λ o. Some (place_of names o)) (sym parent) in
      let here : name_at names n ≡ x = ap (λ k. unwrap_or (slice_get names k) []) (sym (none n)) ∙ ap (λ o. unwrap_or o []) (at 0 x refl) in
      let rest = standing_kept p qs xs (suc n) tail ok.1 (λ i y there. ap (slice_get names) (later n i) ∙ at (suc i) y there) in
      ap (λ y. cond (place_eq (place_of names q.parent) p) (y ∷ standing_in names p (suc n) (map shown qs)) (standing_in names p (suc n) (map shown qs))) here
      ∙ ap (λ ys. cond (place_eq (place_of names q.parent) p) (x ∷ ys) ys) rest
      ∙ ap (λ o. cond (at_place m p o) (x ∷ kept m p xs) (kept m p xs)) (sym placed)
    where
      none : (n : ℕ) → n + 0 ≡ n
      none n = omega arith

      later : (n i : ℕ) → suc n + i ≡ n + suc i
      later n i = omega arith

  as_many : length names ≡ length (map shown rows)
  as_many = sym (length-map names (λ x. Some x)) ∙ ap length (sym ids) ∙ length-map rows (λ (r : ElementDraft). r.id) ∙ sym (length-map rows shown)

  pub model_told : ((p : Place) → kept m p names ≡ child_ids m p) → Describes m names (map shown rows)
  model_told lists = record {
    as_many = as_many;
    each = each_told;
    lists = λ p. standing_kept p rows names 0 ids all (λ i x at. ap (slice_get names) (none i) ∙ at) ∙ lists p;
  }
    where
      none : (i : ℕ) → 0 + i ≡ i
      none i = omega arith

-- ---- put together
pub texts_are_told : (meta : Meta) → IsMetamodel meta → (m : State) → Good meta m → ((e : IdBytes) → is_live m e ≡ true → is_id e ≡ true)
    → depth (tree meta m) ≤ max_depth
    → (names : List IdBytes) × (rows : List DocRow) × (doc_of meta (text meta m) ≡ Ok rows) × Describes m names rows × (length rows ≤ length (text meta m))
unfolding doc_of
texts_are_told meta promised m good forms shallow =
    let n = depth (tree meta m) in
    let nested : IsNested meta m = text_is_whole meta m good in
    let deep : AllByRecursion (λ c. depth (whole meta m c) ≤ n) (child_ids m Root) =
    listed_depths (whole meta m) n true (child_ids m Root) (one_or_list_within n (map (whole meta m) (child_ids m Root)) (omega arith)) in
    let names = model_names meta m good n in
    let rows = model_rows meta promised m good forms in
    let apart = roots_apart meta promised.named m good n in
    let covered = all_covered meta promised.named m good nested n deep in
    let ids = forest_names (tree_rows meta m n) (tree_names meta m n) (tree_named meta m n) 0 None (child_ids m Root) in
    let all = model_ok meta m good n in
    let walk = roots_walked meta promised m good forms in
    let shown = final meta m good forms names apart covered rows ids all in
    let many = walked_short meta (tree meta m) rows walk in
    let as_many = length-map rows shown in (
      names,
      map shown rows,
      ap (of_json meta) (text_reads meta promised.named m good shallow) ∙ ap (λ r. «then» r (resolved meta)) walk
          ∙ resolved_ok meta m good forms names apart covered rows ids all,
      model_told meta m good forms names apart covered rows ids all (names_kept meta promised.named m good nested n deep),
      omega arith,
    )
