-- The walk over the text's tree gives the rows of the roots and of all inside.
use Rattle.std.proofs.Common.{◌≡◌, ℕ, ◌≤◌, true, List, [], ◌∷◌, map, refl, sym, ap, subst, ◌∙◌, arith, append-nil}
use Rattle.std.specs.Prelude.{Option, None, Some, Ok}
use Rattle.std.specs.FinMap.{get}
use Rattle.std.specs.List.{AllByRecursion}
use Rattle.serde_json.specs.Data.{Data, depth}
use Rattle.ecore_meta.specs.Meta.{Meta}
use Rattle.model_state.specs.declared.step.Place.TheVariants.{Root}
use Rattle.model_state.specs.Good.{Good}
use Rattle.model_state.specs.Ident.{is_id}
use Rattle.model_state.specs.Keys.{IdBytes}
use Rattle.model_state.specs.State.{State, is_live}
use Rattle.model_documents.specs.declared.doc.DocParent.{DocParent}
use Rattle.model_documents.specs.Parts.{ids_of}
use Rattle.model_documents.specs.Walk.{element_rows, items_rows, walked}
use Rattle.model_texts.specs.Laws.{IsNested}
use Rattle.model_texts.specs.Tree.{child_ids, listed, one_or_list, tree, whole}
use Rattle.model_texts.proofs.Children.{each_child}
use Rattle.model_texts.proofs.Nested.{text_is_whole}
use Rattle.ecore_meta.specs.Promised.{IsMetamodel}
use Rattle.round_trip.proofs.KeysTypes.{ElementDraft}
use Rattle.round_trip.proofs.ReadingKinds.{IsObject}
use Rattle.round_trip.proofs.WalksApart.{rows_come}
use Rattle.round_trip.proofs.WalksRows.{Come, forest, tree_rows}
use Rattle.round_trip.proofs.WalksSteps.{Walked, items_walk}
use Rattle.round_trip.proofs.WalksWhole.{all_both, listed_depths, objects, placed, walk, IsWithinIf}

module _ (meta : Meta) (below : ℕ → Option DocParent → IdBytes → List ElementDraft) (shown : IdBytes → Data)
    (objects : (c : IdBytes) → IsObject (shown c)) where
  walked_object : (d : Data) → IsObject d → walked meta d ≡ element_rows meta [] None None d
  walked_object d o = subst (λ x. walked meta x ≡ element_rows meta [] None None x) (sym o.1) refl

  list_walked : (cs : List IdBytes) → AllByRecursion (Walked meta below shown None None) cs → Come [] (ids_of (forest below 0 None cs))
      → walked meta (one_or_list true (map shown cs)) ≡ Ok (forest below 0 None cs)
  unfolding items_rows
  list_walked [] all come = refl
  list_walked (c ∷ []) all come =
      let alone : below 0 None c ≡ forest below 0 None (c ∷ []) = sym (append-nil (below 0 None c)) in
      walked_object (shown c) (objects c) ∙ all.0 [] (subst (λ rs. Come [] (ids_of rs)) (sym alone) come) ∙ ap (λ rs. Ok rs) alone
  list_walked (c ∷ d ∷ cs) all come = items_walk meta below shown None None [] (c ∷ d ∷ cs) [] 0 refl all come

pub one_or_list_within : (n : ℕ) (ds : List Data) → depth (one_or_list true ds) ≤ n → IsWithinIf n (listed true ds)
one_or_list_within n [] h = tt
one_or_list_within n (d ∷ ds) h = h

module _ (meta : Meta) (promised : IsMetamodel meta) (m : State) (good : Good meta m) (forms : (e : IdBytes) → is_live m e ≡ true → is_id e ≡ true) where
  -- the rows that the walk gives
  abbrev pub model_rows : List ElementDraft
  model_rows = forest (tree_rows meta m (depth (tree meta m))) 0 None (child_ids m Root)

  pub roots_walked : walked meta (tree meta m) ≡ Ok model_rows
  roots_walked =
      let n = depth (tree meta m) in
      let nested : IsNested meta m = text_is_whole meta m good in
      list_walked meta (tree_rows meta m n) (whole meta m) (objects meta promised m good forms nested) (child_ids m Root)
      (all_both (λ c. get m.place c ≡ Some Root) (λ c. depth (whole meta m c) ≤ n) (Walked meta (tree_rows meta m n) (whole meta m) None None)
      (λ c at deep. let p = placed meta m.kind (get m.kind c) (get m.place c) Root (get m.prank c) (good.places.stands c) at
      in walk meta promised m good forms nested n None None c p.0 p.1 refl deep)
      (child_ids m Root) (each_child m Root)
      (listed_depths (whole meta m) n true (child_ids m Root) (one_or_list_within n (map (whole meta m) (child_ids m Root)) (omega arith))))
      (rows_come meta promised.named m good n)
