-- What rows that describe a model leave in the empty project is alike to the model, so it has the same text. What an import
-- leaves in each model says what it leaves there.
use Rattle.std.proofs.Common.{◌≡◌, ◌∙◌, ℕ, zero, suc, ◌<◌, ◌||◌, true, false, List, [], ◌∷◌, ◌++◌, length, refl, sym, ap, arith}
use Rattle.std.specs.Prelude.{Some, None, is_some, slice_get, unwrap_or}
use Rattle.std.specs.List.{list_any}
use Rattle.std.specs.FinMap.{empty, get, get-empty}
use Rattle.finite_maps.specs.Equal.{text_eq}
use Rattle.finite_maps.proofs.Cases.{no_some, not_so}
use Rattle.finite_maps.proofs.MapLaws.{same}
use Rattle.ecore_meta.specs.Meta.{Meta}
use Rattle.model_state.specs.Good.{Good}
use Rattle.model_state.specs.Keys.{IdBytes, attr_cmp, id_cmp, row_cmp}
use Rattle.model_state.specs.Listing.{values_at}
use Rattle.model_state.specs.State.{State, is_live, nothing}
use Rattle.model_state.proofs.Orders.{id_order}
use Rattle.model_laws.proofs.Births.{dead_attr, dead_from}
use Rattle.model_laws.proofs.Start.{starts_good}
use Rattle.edit_steps.proofs.Lists.{targets_alike}
use Rattle.model_documents.specs.declared.doc.DocRow.{DocRow}
use Rattle.model_texts.specs.Laws.{Alike}
use Rattle.model_texts.specs.Tree.{entry_ids, target_ids}
use Rattle.model_texts.proofs.Alike.{text_is_of_lists}
use Rattle.import_laws.specs.After.{import_after}
use Rattle.import_laws.proofs.Indexed.{at_less}
use Rattle.round_trip.specs.Describes.{Describes, DescribesElement, standing_in}
use Rattle.round_trip.specs.Imported.{IsAsBefore, IsAsGiven, IsBroughtIn}
use Rattle.round_trip.specs.Laws.{DescriptionsAreShown}
use Rattle.round_trip.proofs.BringingNames.{live_row, names_apart}
use Rattle.round_trip.proofs.BringingRooms.{all_come, no_children}
use Rattle.round_trip.proofs.Imported.{brought_in}
use Rattle.round_trip.proofs.ImportedMaps.{away_all}
use Rattle.round_trip.proofs.ListsInOrder.{any_index}

item_at : (rows : List DocRow) (i : ℕ) → i < length rows → (r : DocRow) × (slice_get rows i ≡ Some r)
item_at [] i h = absurd (omega (arith, h))
item_at (r ∷ rows) zero h = (r, refl)
item_at (r ∷ rows) (suc i) h = item_at rows i (omega (arith, h))

-- no element of the empty project is live
none_live : (names : List IdBytes) → list_any (is_live nothing) names ≡ false
none_live [] = refl
none_live (x ∷ names) = ap (λ o. is_some o || list_any (is_live nothing) names) (get-empty id_cmp x) ∙ none_live names

module _ (meta : Meta) (m : State) (good : Good meta m) (names : List IdBytes) (rows : List DocRow) (tells : Describes m names rows) (left : State)
    (brought : IsBroughtIn nothing names rows left) where
  -- an id is that of a row, or neither model has it
  by_row : (P : IdBytes → Type 0) → ((e : IdBytes) (r : DocRow) → IsAsGiven left names e r → DescribesElement m names e r → P e)
      → ((e : IdBytes) → get m.kind e ≡ None → IsAsBefore nothing left e → P e) → (e : IdBytes) → P e
  by_row P one none e =
      elim (list_any (text_eq e) names) as (λ b. list_any (text_eq e) names ≡ b → P e) [
        | true ↦ λ is.
            let at = any_index e names is in
            let less = at_less names at.0 e at.1 in
            let many = tells.as_many in
            let row = item_at rows at.0 (omega (arith, less, many)) in
            one e row.0 (brought.given at.0 row.0 e row.1 at.1) (tells.each at.0 row.0 e row.1 at.1)
        | false ↦ λ away. none e (no_some (get m.kind e) (not_so (is_live m e) (not_named away))) (brought.others e away)
      ] refl
    where
      not_named : list_any (text_eq e) names ≡ false → is_live m e ≡ true → ⊥
      not_named away live =
          let row = live_row m names rows tells meta good e live in
          let less = at_less rows row.row row.r row.is_row in
          let many = tells.as_many in
          away_all names e away row.row (omega arith) (omega (arith, less, many)) row.named

  brought_alike : Alike left m
  brought_alike = record {
    kinds = same id_order left.kind m.kind
        (by_row (λ e. get left.kind e ≡ get m.kind e) (λ e r given told. given.class ∙ sym told.class)
        (λ e dead before. before.class ∙ get-empty id_cmp e ∙ sym dead));
    values = by_row (λ e. (f : ℕ) → values_at left e f ≡ values_at m e f) (λ e r given told f. given.values f ∙ told.values f)
        (λ e dead before f. before.values f ∙ ap (λ o. unwrap_or o []) (get-empty attr_cmp (e, f) ∙ sym (dead_attr meta m good e dead f)));
    targets = by_row (λ e. (f : ℕ) → target_ids left e f ≡ target_ids m e f) (λ e r given told f. given.targets f ∙ told.targets f)
        (λ e dead before f. before.targets f
        ∙ ap entry_ids (targets_alike empty m.row e f (λ y. get-empty row_cmp (e, f, y) ∙ sym (dead_from meta m good e dead f y))));
    children = λ p. brought.lists p ∙ ap (λ xs. entry_ids xs ++ standing_in names p 0 rows) (no_children p) ∙ tells.lists p;
  }

pub tellings_are_shown : DescriptionsAreShown
tellings_are_shown meta sound m good names rows fit tells few =
    let differ = names_apart m names rows tells fit.ids_apart in
    let come = all_come names rows (omega (arith, few)) in
    text_is_of_lists meta (import_after nothing names rows) m
    (brought_alike meta m good names rows tells (import_after nothing names rows)
    (brought_in meta nothing (starts_good meta) names rows fit tells.as_many differ (none_live names) come.0 come.1))
