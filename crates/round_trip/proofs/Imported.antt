-- An import leaves each of its elements as its row says, after those that stood in its place, and all else as it was.
use Rattle.std.proofs.Common.{◌≡◌, ◌∙◌, ℕ, ◌+◌, ◌<◌, Bool, true, false, List, [], ◌++◌, length, refl, sym, ap, subst, arith}
use Rattle.std.specs.Prelude.{Option, None, Some, Result, Ok, Err, slice_get, unwrap_or, if◌then◌else◌}
use Rattle.std.specs.List.{list_any}
use Rattle.std.specs.FinMap.{get}
use Rattle.finite_maps.proofs.Cases.{no_some}
use Rattle.ecore_meta.specs.Meta.{Meta}
use Rattle.model_state.specs.declared.operation.Operation.{Operation}
use Rattle.model_state.specs.declared.step.Place.TheVariants.{Root}
use Rattle.model_state.specs.declared.step.Step.{Step}
use Rattle.model_state.specs.Good.{Good}
use Rattle.model_state.specs.Keys.{IdBytes}
use Rattle.model_state.specs.Listing.{children}
use Rattle.model_state.specs.State.{State, is_live}
use Rattle.model_laws.proofs.Births.{dead_attr, dead_from}
use Rattle.edit_steps.specs.declared.fault.EditFault.{EditFault}
use Rattle.edit_steps.specs.declared.fault.EditFault.TheVariants.{IdInUse}
use Rattle.model_documents.specs.declared.doc.DocRow.{DocRow}
use Rattle.model_documents.specs.Fits.{DocumentFits}
use Rattle.model_documents.specs.Completed.{targets_at}
use Rattle.model_texts.specs.Tree.{entry_ids}
use Rattle.import_laws.specs.After.{import_after}
use Rattle.import_laws.specs.Import.{and_then, of_steps, steps_made}
use Rattle.import_laws.specs.Laws.{ids_differ}
use Rattle.import_laws.specs.Links.{links_made}
use Rattle.import_laws.specs.Names.{any_in_use, name_at}
use Rattle.import_laws.specs.News.{news_made, place_of}
use Rattle.import_laws.specs.Values.{values_made}
use Rattle.import_laws.proofs.ImportLead.{imports_lead}
use Rattle.import_laws.proofs.Indexed.{at_less, drop_none, named, none_at}
use Rattle.import_laws.proofs.LinksLead.{Sits, all_sit, any_at, list_apart}
use Rattle.import_laws.proofs.NewNames.{names_new}
use Rattle.import_laws.proofs.Turns.{Each, each_map, found_from, turns_from}
use Rattle.round_trip.specs.Imported.{IsAsBefore, IsAsGiven, IsBroughtIn}
use Rattle.round_trip.specs.Laws.{ImportsBringIn}
use Rattle.round_trip.proofs.ImportedLinks.{targets_mine, targets_other}
use Rattle.round_trip.proofs.ImportedLists.{lists_left}
use Rattle.round_trip.proofs.ImportedMaps.{Away, away_all, kinds_are, places_are, set_mine, set_other, values_mine, values_other}

-- ---- an import that is recorded is of ids that are not live, and of elements that have room
not_refused : (b : Bool) (o : Result (Option Operation) EditFault) (operation : Option Operation) → (if b then Err IdInUse else o) ≡ Ok operation
    → (b ≡ false) × (o ≡ Ok operation)
not_refused true o operation h = cc
not_refused false o operation h = (refl, h)

made : (rows : List DocRow) (o : Result (List Step) EditFault) (operation : Option Operation) → of_steps rows o ≡ Ok operation
    → (ss : List Step) × (o ≡ Ok ss)
made rows (Err fault) operation h = cc
made rows (Ok ss) operation h = (ss, refl)

created : (o : Result (List Step) EditFault) (more ss : List Step) → and_then o more ≡ Ok ss → (news : List Step) × (o ≡ Ok news)
created (Err fault) more ss h = cc
created (Ok news) more ss h = (news, refl)

module _ (meta : Meta) (m : State) (good : Good meta m) (names : List IdBytes) (rows : List DocRow) (fit : DocumentFits meta rows)
    (as_many : length names ≡ length rows) (differ : ids_differ names ≡ true) (dead : list_any (is_live m) names ≡ false) where
  small_is : (i : ℕ) (r : DocRow) → slice_get rows i ≡ Some r → i < length names
  small_is i r is = let less = at_less rows i r is in omega (arith, less, as_many)

  not_live : (i : ℕ) → i < length names → get m.kind (name_at names i) ≡ None
  not_live i small = no_some (get m.kind (name_at names i)) (none_at (is_live m) names i dead small)

  -- the targets of a row are rows
  abbrev IsRow : ℕ → ℕ → ℕ → Type 0
  IsRow i f b = (d : DocRow) × (slice_get rows b ≡ Some d)

  all_rows : Each (λ t. IsRow t.row t.feature t.target) (turns_from 0 rows)
  all_rows = each_map (Sits meta rows) (λ t. IsRow t.row t.feature t.target) (λ t sits. (sits.to, sits.is_to)) (turns_from 0 rows) (all_sit meta rows fit)

  target_small : (i : ℕ) (r : DocRow) → slice_get rows i ≡ Some r → (f j b : ℕ) → slice_get (targets_at f r.refs) j ≡ Some b → b < length names
  target_small i r is f j b at =
      let to = found_from IsRow rows 0 i r f b all_rows is (any_at (targets_at f r.refs) j b at) i (own i) in
      small_is b to.0 to.1
    where
      own : (i : ℕ) → i ≡ 0 + i
      own i = omega arith

  -- ---- the element of a row
  given_at : (i : ℕ) (r : DocRow) → slice_get rows i ≡ Some r → IsAsGiven (import_after m names rows) names (name_at names i) r
  given_at i r is =
      let small = small_is i r is in
      let row = fit.each i r is in
      let none = not_live i small in
      record {
        class = ap (λ kind. get kind (name_at names i)) (kinds_are names rows 0 m.kind)
            ∙ set_mine names rows as_many (λ (r : DocRow). r.class) differ rows 0 m.kind i r (drop_none rows) is i (own i);
        place = ap (λ place. get place (name_at names i)) (places_are names rows 0 m.place)
            ∙ set_mine names rows as_many (λ (r : DocRow). place_of names r.parent) differ rows 0 m.place i r (drop_none rows) is i (own i);
        values = λ f. values_mine names rows as_many differ rows 0 m.attr i r f (drop_none rows) is row.attrs_apart i (own i) small
            (dead_attr meta m good (name_at names i) none f);
        targets = λ f. targets_mine names rows as_many differ m.row i r f is small row.refs_apart (list_apart meta rows fit i r is f)
            (target_small i r is f) (λ y. dead_from meta m good (name_at names i) none f y);
      }
    where
      own : (i : ℕ) → i ≡ 0 + i
      own i = omega arith

  -- ---- any other id
  before_at : (e : IdBytes) → Away names 0 e → IsAsBefore m (import_after m names rows) e
  before_at e away = record {
    class = ap (λ kind. get kind e) (kinds_are names rows 0 m.kind)
        ∙ set_other names rows as_many (λ (r : DocRow). r.class) rows 0 m.kind e (drop_none rows) away;
    place = ap (λ place. get place e) (places_are names rows 0 m.place)
        ∙ set_other names rows as_many (λ (r : DocRow). place_of names r.parent) rows 0 m.place e (drop_none rows) away;
    values = λ f. ap (λ o. unwrap_or o []) (values_other names rows as_many rows 0 m.attr (e, f) (drop_none rows) away);
    targets = λ f. ap entry_ids (targets_other names rows as_many differ m.row e f away);
  }

  pub brought_in : (all : List Step) → news_made (children m.place m.prank Root) names rows ≡ Ok all → IsBroughtIn m names rows (import_after m names rows)
  brought_in all come = record {
    as_many = as_many;
    given = λ i r e is at.
        subst (λ x. IsAsGiven (import_after m names rows) names x r) (same_name (name_at names i) e (sym (named names i (small_is i r is)) ∙ at))
        (given_at i r is);
    others = λ e none. before_at e (away_all names e none);
    lists = lists_left meta m good names rows fit as_many differ dead all come;
  }
    where
      same_name : (x e : IdBytes) → ◌≡◌ {A = Option IdBytes} (Some x) (Some e) → x ≡ e
      same_name x e is = cc

pub imports_bring_in : ImportsBringIn
imports_bring_in meta sound m good ws rows fit names are operation is =
    let unused = not_refused (any_in_use m rows) (of_steps rows (steps_made meta m names rows)) operation is in
    let new = names_new m rows ws names are unused.0 fit.ids_apart in
    let steps = made rows (steps_made meta m names rows) operation unused.1 in
    let news = created (news_made (children m.place m.prank Root) names rows) (values_made meta names rows ++ links_made meta names rows) steps.0 steps.1 in (
      import_after m names rows,
      (imports_lead meta sound m good ws rows fit names are operation is).run,
      brought_in meta m good names rows fit new.0 new.2 new.1 news.0 news.1,
    )
