-- The rows of a document: the references are looked up, and the lists merged with what the other side gives, which adds nothing.
use Rattle.std.proofs.Math.Bool.{or-true}
use Rattle.std.proofs.Common.{◌≡◌, ℕ, zero, suc, ◌+◌, Bool, true, false, cond, not, ◌&&◌, ◌||◌, List, [], ◌∷◌, ◌++◌, length, map, refl, sym, ap}
use Rattle.std.proofs.Common.{subst, ◌∙◌, arith, nat_eq, ◌⊎◌, inl, inr, append_assoc, append-nil, length-append}
use Rattle.std.specs.Prelude.{Option, None, Some, is_some, Ok, slice_get, unwrap_or}
use Rattle.std.specs.FinMap.{get}
use Rattle.std.specs.List.{AllByRecursion, list_any}
use Rattle.std.specs.Option.{option_map_or, option_map}
use Rattle.std.proofs.lemmas.List.{length-map}
use Rattle.std.proofs.lemmas.Option.{slice_get-map}
use Rattle.finite_maps.specs.Maps.{is_within}
use Rattle.finite_maps.proofs.EqualLaws.{nat_equality}
use Rattle.ecore_meta.specs.Meta.{Meta, features_of}
use Rattle.ecore_meta.specs.Typing.{kind_of, opposite_of}
use Rattle.model_state.specs.declared.entry.Entry.{Entry}
use Rattle.model_state.specs.Good.{Good}
use Rattle.model_state.specs.Ident.{is_id}
use Rattle.model_state.specs.Keys.{IdBytes}
use Rattle.model_state.specs.Listing.{targets}
use Rattle.model_state.specs.State.{State, is_live}
use Rattle.model_state.specs.Typing.{is_plain, row_upper}
use Rattle.edit_steps.proofs.Lists.{Apart, targets_apart, targets_has}
use Rattle.model_documents.specs.declared.doc.DocRefs.{DocRefs}
use Rattle.model_documents.specs.declared.doc.DocRow.{DocRow}
use Rattle.model_documents.specs.declared.fault.ModelFault.TheVariants.{Bound}
use Rattle.model_documents.specs.Document.{resolved}
use Rattle.model_documents.specs.Completed.{given_at, completed, completed_all, completed_at, naming, next_row, others, row_of, rows_by, targets_at}
use Rattle.model_documents.specs.Parts.{ids_of}
use Rattle.model_documents.specs.Reads.{Read, «then», unless, collected}
use Rattle.model_documents.specs.References.{given_by, plain_features, refs_at, refs_of, targets_of}
use Rattle.model_texts.specs.Tree.{target_ids}
use Rattle.round_trip.proofs.KeysFound.{Stands, all_stand}
use Rattle.round_trip.proofs.KeysPairs.{Pairs}
use Rattle.round_trip.proofs.KeysTypes.{ElementDraft}
use Rattle.round_trip.proofs.ReadingLinks.{IsLink, collected_map, entries_told, plain_all, targets_at_map, targets_held_by, targets_linked}
use Rattle.round_trip.proofs.ReadingSpots.{IsReady, place_stands, spot, spot_at, spot_same, targets_read}
use Rattle.round_trip.proofs.ReadingTrees.{all_of, all_so}
use Rattle.round_trip.proofs.WalksApart.{Differ, entry_differs}
use Rattle.round_trip.proofs.WalksCounts.{target_count}
use Rattle.round_trip.proofs.WalksDown.{entry_stands}
use Rattle.round_trip.proofs.WalksPlaces.{IsRow, RowOk}
use Rattle.round_trip.proofs.WalksRows.{class_at, own_row}

collected_same : {A : Type 0} (give : List A → A → Read A) (done xs : List A) → AllByRecursion (λ a. (bs : List A) → give bs a ≡ Ok a) xs
    → collected give done xs ≡ Ok (done ++ xs)
collected_same give done [] all = ap (λ xs. Ok xs) (sym (append-nil done))
collected_same give done (x ∷ xs) all =
    ap (λ r. «then» r (λ b. collected give (done ++ b ∷ []) xs)) (all.0 done) ∙ collected_same give (done ++ x ∷ []) xs all.1
    ∙ ap (λ ys. Ok ys) (append_assoc done (x ∷ []) xs)

all_map : {A B : Type 0} (P : B → Type 0) (h : A → B) (xs : List A) → AllByRecursion (λ x. P (h x)) xs → AllByRecursion P (map h xs)
all_map P h [] all = tt
all_map P h (x ∷ xs) all = (all.0, all_map P h xs all.1)

module _ (meta : Meta) (m : State) (good : Good meta m) (forms : (e : IdBytes) → is_live m e ≡ true → is_id e ≡ true) (names : List IdBytes)
    (apart : Pairs Differ names) (covered : (x : IdBytes) (c : ℕ) → get m.kind x ≡ Some c → Stands x names)
    (rows : List ElementDraft) (ids : ids_of rows ≡ map (λ x. Some x) names) (all : AllByRecursion (RowOk meta m names) rows) where
  -- the targets of a reference, by number
  abbrev spots : IdBytes → ℕ → List ℕ
  spots e f = map (spot names) (target_ids m e f)

  -- the list of a reference
  abbrev list_told : IdBytes → ℕ → DocRefs
  list_told e f = record { feature = f; targets = spots e f }

  -- what an element gives of its references
  abbrev pub refs_told : IdBytes → List DocRefs
  refs_told e = map (list_told e) (plain_features meta (features_of meta (class_at meta m e)))

  -- what the element of a row gives
  abbrev pub refs_of_row : ElementDraft → List DocRefs
  refs_of_row r = refs_told (unwrap_or r.id [])

  -- the row of a document
  abbrev pub final : ElementDraft → DocRow
  final r = row_of meta r (refs_of_row r)

  -- ---- what the elements give
  ready : (a : IdBytes) (f : ℕ) (b : IdBytes) → IsLink meta m a f b → IsReady meta m names rows ids all f b
  ready a f b link = record { there = covered b (class_at meta m b) link.target; form = forms b (ap is_some link.target); type = link.type }

  entries_apart : (xs : List Entry) → Apart xs → Pairs Differ (map (λ (y : Entry). y.id) xs)
  entries_apart [] h = tt
  entries_apart (x ∷ xs) h = (entry_differs meta m good x xs h.0, entries_apart xs h.1)

  targets_differ : (a : IdBytes) (f : ℕ) → Pairs Differ (target_ids m a f)
  targets_differ a f = entries_apart (targets m.row a f) (targets_apart m.row a f)

  refs_ok : (r : ElementDraft) (e : IdBytes) → IsRow meta m names r e → (before : List (List DocRefs)) → refs_of meta rows before r ≡ Ok (refs_of_row r)
  refs_ok r e row before =
      subst (λ q. refs_of meta rows before q ≡ Ok (refs_of_row q)) (sym row.is)
      (collected_map (refs_at meta rows (own_row meta m row.parent e).links) (list_told e) [] (plain_features meta (features_of meta (class_at meta m e)))
      (all_so (λ f. (is_plain (kind_of meta f) ≡ true) × Stands f (features_of meta (class_at meta m e)))
      (λ f. (bs : List DocRefs) → refs_at meta rows (own_row meta m row.parent e).links bs f ≡ Ok (list_told e f))
      (λ f h bs.
      ap (λ es. «then» (targets_of meta rows f es) (λ ts. Ok (record { feature = f; targets = ts }))) (entries_told meta m e (class_at meta m e) f h.1 h.0)
      ∙ ap (λ r. «then» r (λ ts. Ok (record { feature = f; targets = ts })))
      (targets_read meta m names rows ids all f [] (target_ids m e f)
      (all_so (IsLink meta m e f) (IsReady meta m names rows ids all f) (ready e f) (target_ids m e f) (targets_linked meta m good e f))
      (targets_differ e f)
      (all_of (λ x. list_any (nat_eq (spot names x)) [] ≡ false) (λ x. refl) (target_ids m e f))))
      (plain_features meta (features_of meta (class_at meta m e))) (plain_all meta (features_of meta (class_at meta m e)))))

  given_ok : given_by meta rows ≡ Ok (map refs_of_row rows)
  given_ok = collected_map (refs_of meta rows) refs_of_row [] rows
      (all_so (RowOk meta m names) (λ r. (bs : List (List DocRefs)) → refs_of meta rows bs r ≡ Ok (refs_of_row r))
      (λ r h bs. refs_ok r h.0 h.1 bs) rows all)

  -- ---- the other side gives nothing more
  pub told_at : (x : IdBytes) (g : ℕ) → targets_at g (refs_told x) ≡ spots x g
  told_at x g = targets_at_map (spots x) g (plain_features meta (features_of meta (class_at meta m x))) (by_targets (targets_held_by meta m good x g))
    where
      by_targets : (target_ids m x g ≡ []) ⊎ Stands g (plain_features meta (features_of meta (class_at meta m x)))
          → (spots x g ≡ []) ⊎ Stands g (plain_features meta (features_of meta (class_at meta m x)))
      by_targets (inl none) = inl (ap (map (spot names)) none)
      by_targets (inr s) = inr s

  any_spot : (e : IdBytes) (bs : List IdBytes) → Stands e names → AllByRecursion (λ b. Stands b names) bs
      → list_any (nat_eq (spot names e)) (map (spot names) bs) ≡ true → Stands e bs
  any_spot e [] s there h = cc
  any_spot e (b ∷ bs) s there h = by_test (nat_eq (spot names e) (spot names b)) refl (any_spot e bs s there.1) h
    where
      by_test : (t : Bool) → nat_eq (spot names e) (spot names b) ≡ t → (list_any (nat_eq (spot names e)) (map (spot names) bs) ≡ true → Stands e bs)
          → t || list_any (nat_eq (spot names e)) (map (spot names) bs) ≡ true → (e ≡ b) ⊎ Stands e bs
      by_test true is more h = inl (spot_same e b names s there.0 (nat_equality.exact (spot names e) (spot names b) is))
      by_test false is more h = inr (more h)

  spot_any : (x : IdBytes) (bs : List IdBytes) → Stands x bs → list_any (nat_eq (spot names x)) (map (spot names) bs) ≡ true
  spot_any x [] s = absurd s
  spot_any x (b ∷ bs) (inl e) =
      ap (λ t. t || list_any (nat_eq (spot names x)) (map (spot names) bs))
      (subst (λ z. nat_eq (spot names x) (spot names z) ≡ true) e (nat_equality.own (spot names x)))
  spot_any x (b ∷ bs) (inr s) = ap (λ t. nat_eq (spot names x) (spot names b) || t) (spot_any x bs s) ∙ or-true (nat_eq (spot names x) (spot names b))

  row_target : (a : IdBytes) (f : ℕ) (b : IdBytes) (o : Option ℕ) → get m.row (a, f, b) ≡ o → is_some o ≡ true → Stands b (target_ids m a f)
  row_target a f b None is h = cc
  row_target a f b (Some rank) is h = entry_stands b (targets m.row a f) (targets_has m.row a f b rank is)

  mirror_false : (e : IdBytes) (f g : ℕ) (x : IdBytes) → opposite_of meta f ≡ Some g → Stands e names
      → list_any (nat_eq (spot names e)) (targets_at g (refs_told x)) && not (list_any (nat_eq (spot names x)) (spots e f)) ≡ false
  mirror_false e f g x opposite s = by_test (list_any (nat_eq (spot names e)) (targets_at g (refs_told x))) refl
    where
      named : AllByRecursion (λ b. Stands b names) (target_ids m x g)
      named = all_so (IsLink meta m x g) (λ b. Stands b names) (λ b link. covered b (class_at meta m b) link.target) (target_ids m x g)
          (targets_linked meta m good x g)

      by_test : (t : Bool) → list_any (nat_eq (spot names e)) (targets_at g (refs_told x)) ≡ t → t && not (list_any (nat_eq (spot names x)) (spots e f)) ≡ false
      by_test false is = refl
      by_test true is =
          let target : Stands e (target_ids m x g) = any_spot e (target_ids m x g) s named (ap (list_any (nat_eq (spot names e))) (sym (told_at x g)) ∙ is) in
          let link = all_stand (IsLink meta m x g) (target_ids m x g) (targets_linked meta m good x g) e target in
          let back : is_some (get m.row (e, f, x)) ≡ true = good.rows.mirrored e f x g opposite ∙ link.row in
          ap not (spot_any x (target_ids m e f) (row_target e f x (get m.row (e, f, x)) refl back))

  naming_none : (e : IdBytes) (f g : ℕ) → opposite_of meta f ≡ Some g → Stands e names → (qs : List ElementDraft) (xs : List IdBytes) (n : ℕ)
      → ids_of qs ≡ map (λ x. Some x) xs → ((i : ℕ) (x : IdBytes) → slice_get xs i ≡ Some x → spot names x ≡ n + i)
      → naming g (spot names e) (spots e f) n (map refs_of_row qs) ≡ []
  naming_none e f g opposite s [] xs n is at = refl
  naming_none e f g opposite s (q ∷ qs) [] n is at = cc
  naming_none e f g opposite s (q ∷ qs) (x ∷ xs) n is at =
      let head : q.id ≡ Some x = cc in
      let tail : ids_of qs ≡ map (λ x. Some x) xs = cc in
      let here : spot names x ≡ n = at 0 x refl ∙ none n in
      let rest = naming g (spot names e) (spots e f) (suc n) (map refs_of_row qs) in
      ap (λ o. cond (list_any (nat_eq (spot names e)) (targets_at g (refs_told (unwrap_or o []))) && not (list_any (nat_eq n) (spots e f)))
      (n ∷ rest) rest) head
      ∙ ap (λ k. cond (list_any (nat_eq (spot names e)) (targets_at g (refs_told x)) && not (list_any (nat_eq k) (spots e f))) (n ∷ rest) rest) (sym here)
      ∙ ap (λ t. cond t (n ∷ rest) rest) (mirror_false e f g x opposite s)
      ∙ naming_none e f g opposite s qs xs (suc n) tail (λ i y there. at (suc i) y there ∙ later n i)
    where
      none : (n : ℕ) → n + 0 ≡ n
      none n = omega arith

      later : (n i : ℕ) → n + suc i ≡ suc n + i
      later n i = omega arith

  -- what all elements give
  abbrev given : List (List DocRefs)
  given = map refs_of_row rows

  no_others : (e : IdBytes) (f : ℕ) → Stands e names → (o : Option ℕ) → opposite_of meta f ≡ o → others o (spot names e) (spots e f) given ≡ []
  no_others e f s None is = refl
  no_others e f s (Some g) is = naming_none e f g is s rows names 0 ids (λ i x there. spot_at names i x apart there ∙ none i)
    where
      none : (i : ℕ) → i ≡ 0 + i
      none i = omega arith

  merged_same : (e : IdBytes) (f : ℕ) → Stands e names → completed meta given (spot names e) (list_told e f) ≡ spots e f
  merged_same e f s = ap (λ xs. spots e f ++ xs) (no_others e f s (opposite_of meta f) refl) ∙ append-nil (spots e f)

  spots_within : (e : IdBytes) (f : ℕ) → is_within (length (spots e f)) (row_upper meta f) ≡ true
  spots_within e f =
      subst (λ n. is_within n (row_upper meta f) ≡ true) (sym (length-map (target_ids m e f) (spot names) ∙ target_count m e f)) (good.rows.bound e f)

  merged_list : (e : IdBytes) (f : ℕ) → Stands e names → (before : List DocRefs)
      → completed_at meta given (spot names e) before (list_told e f) ≡ Ok (list_told e f)
  merged_list e f s before =
      ap (λ ts. «then» (unless (is_within (length ts) (row_upper meta f)) Bound (Ok ts)) (λ ts. Ok (record { feature = f; targets = ts }))) (merged_same e f s)
      ∙ ap (λ b. «then» (unless b Bound (Ok (spots e f))) (λ ts. Ok (record { feature = f; targets = ts }))) (spots_within e f)

  merged_ok : (e : IdBytes) → Stands e names → completed_all meta given (spot names e) (refs_told e) ≡ Ok (refs_told e)
  merged_ok e s =
      let fs = plain_features meta (features_of meta (class_at meta m e)) in
      collected_same (completed_at meta given (spot names e)) [] (refs_told e)
      (all_map (λ r. (bs : List DocRefs) → completed_at meta given (spot names e) bs r ≡ Ok r) (list_told e) fs
      (all_of (λ f. (bs : List DocRefs) → completed_at meta given (spot names e) bs (list_told e f) ≡ Ok (list_told e f))
      (λ f bs. merged_list e f s bs) fs))

  -- ---- the rows
  abbrev NextOk : ℕ → ElementDraft → Type 0
  NextOk n r = completed_all meta given n (given_at given n) ≡ Ok (refs_of_row r)

  rows_walk : (qs : List ElementDraft) (done : List DocRow) → ((i : ℕ) (r : ElementDraft) → slice_get qs i ≡ Some r → NextOk (length done + i) r)
      → collected (next_row meta given) done qs ≡ Ok (done ++ map final qs)
  rows_walk [] done next = ap (λ xs. Ok xs) (sym (append-nil done))
  rows_walk (r ∷ qs) done next =
      ap (λ x. «then» («then» x (λ refs. Ok (row_of meta r refs))) (λ b. collected (next_row meta given) (done ++ b ∷ []) qs))
      (ap (λ n. completed_all meta given n (given_at given n)) (sym (none (length done))) ∙ next 0 r refl)
      ∙ rows_walk qs (done ++ final r ∷ [])
      (λ i q there. subst (λ n. NextOk n q) (later (length done) i ∙ ap (λ n. n + i) (sym (length-append done (final r ∷ []))))
      (next (suc i) q there))
      ∙ ap (λ xs. Ok xs) (append_assoc done (final r ∷ []) (map final qs))
    where
      none : (n : ℕ) → n + 0 ≡ n
      none n = omega arith

      later : (n i : ℕ) → n + suc i ≡ (n + 1) + i
      later n i = omega arith

  ids_at : (qs : List ElementDraft) (xs : List IdBytes) (n : ℕ) (r : ElementDraft) → ids_of qs ≡ map (λ x. Some x) xs → slice_get qs n ≡ Some r
      → (x : IdBytes) × (r.id ≡ Some x) × (slice_get xs n ≡ Some x)
  ids_at [] xs n r is at = cc
  ids_at (q ∷ qs) [] n r is at = cc
  ids_at (q ∷ qs) (x ∷ xs) zero r is at = let head : q.id ≡ Some x = cc in let same : q ≡ r = cc in (x, ap (λ (z : ElementDraft). z.id) (sym same) ∙ head, refl)
  ids_at (q ∷ qs) (x ∷ xs) (suc n) r is at = let tail : ids_of qs ≡ map (λ x. Some x) xs = cc in ids_at qs xs n r tail at

  next_ok : (n : ℕ) (r : ElementDraft) → slice_get rows n ≡ Some r → NextOk n r
  next_ok n r at =
      let x = ids_at rows names n r ids at in
      let own : refs_of_row r ≡ refs_told x.0 = ap (λ o. refs_told (unwrap_or o [])) x.1 in
      let here : given_at given n ≡ refs_told x.0 =
      ap (λ o. option_map_or (λ refs. refs) o []) (slice_get-map refs_of_row rows n ∙ ap (option_map refs_of_row) at) ∙ own in
      let spot_is : spot names x.0 ≡ n = spot_at names n x.0 apart x.2 in
      ap (completed_all meta given n) here ∙ ap (λ k. completed_all meta given k (refs_told x.0)) (sym spot_is)
      ∙ merged_ok x.0 (place_stands names n x.0 x.2) ∙ ap (λ xs. Ok xs) (sym own)

  -- the rows of the document
  pub resolved_ok : resolved meta rows ≡ Ok (map final rows)
  resolved_ok = ap (λ r. «then» r (λ given. rows_by meta given rows)) given_ok ∙ rows_walk rows [] (λ i r at. subst (λ n. NextOk n r) (none i) (next_ok i r at))
    where
      none : (i : ℕ) → i ≡ 0 + i
      none i = omega arith
