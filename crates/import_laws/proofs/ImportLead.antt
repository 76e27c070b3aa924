-- The steps of an import can be taken one by one, and leave the model with the document's elements.
use Rattle.std.proofs.Common.{◌≡◌, ℕ, ◌<◌, Bool, true, false, List, [], ◌∷◌, ◌++◌, length, refl, sym, ap, ◌∙◌, arith}
use Rattle.std.specs.Prelude.{Option, None, Some, Result, Ok, Err, if◌then◌else◌, slice_get}
use Rattle.std.specs.List.{list_any}
use Rattle.std.specs.FinMap.{get}
use Rattle.finite_maps.proofs.Cases.{no_some, some_none}
use Rattle.ecore_meta.specs.Meta.{Meta}
use Rattle.model_state.specs.declared.operation.Operation.{Operation}
use Rattle.model_state.specs.declared.step.Place.TheVariants.{Root}
use Rattle.model_state.specs.declared.step.Step.{Step}
use Rattle.model_state.specs.Good.{Good, Sound}
use Rattle.model_state.specs.Keys.{IdBytes}
use Rattle.model_state.specs.Listing.{children}
use Rattle.model_state.specs.State.{State, is_live}
use Rattle.model_state.specs.Steps.{fold}
use Rattle.model_laws.proofs.Births.{dead_attr, dead_from}
use Rattle.model_laws.proofs.Runs.{fold_append, steps_keep_good}
use Rattle.edit_steps.specs.declared.fault.EditFault.{EditFault}
use Rattle.edit_steps.specs.declared.fault.EditFault.TheVariants.{IdInUse}
use Rattle.model_documents.specs.declared.doc.DocRow.{DocRow}
use Rattle.model_documents.specs.Fits.{DocumentFits}
use Rattle.import_laws.specs.After.{Kinds, attrs_from, import_after, kinds_from, places_from, ranks_from}
use Rattle.import_laws.specs.Import.{and_then, composite, of_steps, steps_made}
use Rattle.import_laws.specs.Laws.{ImportsLead, ids_differ}
use Rattle.import_laws.specs.Links.{links_made}
use Rattle.import_laws.specs.Names.{any_in_use, name_at}
use Rattle.import_laws.specs.News.{news_made}
use Rattle.import_laws.specs.Values.{values_made}
use Rattle.import_laws.proofs.Indexed.{drop_none, none_at}
use Rattle.import_laws.proofs.LinksLead.{links_led}
use Rattle.import_laws.proofs.NewNames.{names_new}
use Rattle.import_laws.proofs.NewsLead.{news_led, placed}
use Rattle.import_laws.proofs.ValuesLead.{values_lead}
use Rattle.edits.specs.Answers.{steps_in}

-- ---- from what is recorded to its steps
allowed : (b : Bool) (r : Result (Option Operation) EditFault) (operation : Option Operation) → (if b then Err IdInUse else r) ≡ Ok operation
    → (b ≡ false) × (r ≡ Ok operation)
allowed true r operation h = cc
allowed false r operation h = (refl, h)

made : (rows : List DocRow) (r : Result (List Step) EditFault) (operation : Option Operation) → of_steps rows r ≡ Ok operation
    → (ss : List Step) × (r ≡ Ok ss) × (composite rows ss ≡ operation)
made rows (Err e) operation h = cc
made rows (Ok ss) operation h = (ss, refl, same_operation (composite rows ss) operation h)
  where
    same_operation : (x y : Option Operation) → ◌≡◌ {A = Result (Option Operation) EditFault} (Ok x) (Ok y) → x ≡ y
    same_operation x y h = cc

parts : (r : Result (List Step) EditFault) (more ss : List Step) → and_then r more ≡ Ok ss → (news : List Step) × (r ≡ Ok news) × (ss ≡ news ++ more)
parts (Err e) more ss h = cc
parts (Ok news) more ss h = (news, refl, same_steps (news ++ more) ss h)
  where
    same_steps : (x y : List Step) → ◌≡◌ {A = Result (List Step) EditFault} (Ok x) (Ok y) → y ≡ x
    same_steps x y h = cc

-- a document without elements makes no step
steps_are : (rows : List DocRow) (ss : List Step) → (rows ≡ [] → ss ≡ []) → steps_in (composite rows ss) ≡ ss
steps_are [] ss none = sym (none refl)
steps_are (r ∷ rows) ss none = refl

nothing_made : (meta : Meta) (m : State) (names : List IdBytes) (rows : List DocRow) (ss : List Step) → steps_made meta m names rows ≡ Ok ss
    → rows ≡ [] → ss ≡ []
nothing_made meta m names rows ss h is = same_steps ss (sym (ap (steps_made meta m names) is) ∙ h)
  where
    same_steps : (y : List Step) → ◌≡◌ {A = Result (List Step) EditFault} (Ok []) (Ok y) → y ≡ []
    same_steps y h = cc

-- ---- nothing is recorded exactly where the model stays
no_rows : (rows : List DocRow) (ss : List Step) → composite rows ss ≡ None → rows ≡ []
no_rows [] ss h = refl
no_rows (r ∷ rows) ss h = cc

-- the first element would be live, and would not
none_come : (kind : Kinds) (names : List IdBytes) (rows : List DocRow)
    → ((i : ℕ) (r : DocRow) → slice_get rows i ≡ Some r → get kind (name_at names i) ≡ Some r.class)
    → ((i : ℕ) → i < length rows → get kind (name_at names i) ≡ None)
    → rows ≡ []
none_come kind names [] live dead = refl
none_come kind names (r ∷ rest) live dead = absurd (some_none (get kind (name_at names 0)) r.class (live 0 r refl) (dead 0 (omega arith)))

module _ (meta : Meta) (sound : Sound meta) (m : State) (good : Good meta m) (names : List IdBytes) (rows : List DocRow)
    (fit : DocumentFits meta rows) (as_many : length names ≡ length rows) (dead : list_any (is_live m) names ≡ false)
    (differ : ids_differ names ≡ true) where
  not_there : (i : ℕ) → i < length names → get m.kind (name_at names i) ≡ None
  not_there i small = no_some (get m.kind (name_at names i)) (none_at (is_live m) names i dead small)

  abbrev come : State
  come = placed m (kinds_from names 0 m.kind rows) (places_from names 0 m.place rows) (ranks_from names rows 0 (children m.place m.prank Root) m.prank rows)

  abbrev valued : State
  valued = record come { attr = attrs_from names 0 m.attr rows }

  run : (news : List Step) → news_made (children m.place m.prank Root) names rows ≡ Ok news
      → fold meta m (news ++ (values_made meta names rows ++ links_made meta names rows)) ≡ Some (import_after m names rows)
  run news is =
      let led = news_led meta sound m names rows fit as_many differ good dead news is in
      let given : fold meta come (values_made meta names rows) ≡ Some valued =
      values_lead meta come names rows fit as_many differ led.kinds rows 0 m.attr (drop_none rows)
      (λ i f _ small. dead_attr meta m good (name_at names i) (not_there i small) f) in
      fold_append meta m come news (values_made meta names rows ++ links_made meta names rows) led.run
      ∙ fold_append meta come valued (values_made meta names rows) (links_made meta names rows) given
      ∙ links_led meta sound valued
      (steps_keep_good meta sound come valued led.good (values_made meta names rows) given) names rows fit as_many differ led.kinds
      (λ i f y small. dead_from meta m good (name_at names i) (not_there i small) f y)

  stays : (news : List Step) → news_made (children m.place m.prank Root) names rows ≡ Ok news → import_after m names rows ≡ m → rows ≡ []
  stays news is same =
      let led = news_led meta sound m names rows fit as_many differ good dead news is in
      none_come m.kind names rows (λ i r at. ap (λ (s : State). get s.kind (name_at names i)) (sym same) ∙ led.kinds i r at)
      (λ i small. not_there i (omega (arith, as_many, small)))

pub imports_lead : ImportsLead
imports_lead meta sound m good ws rows fit names are operation is =
    let unused = allowed (any_in_use m rows) (of_steps rows (steps_made meta m names rows)) operation is in
    let new = names_new m rows ws names are unused.0 fit.ids_apart in
    let steps = made rows (steps_made meta m names rows) operation unused.1 in
    let news = parts (news_made (children m.place m.prank Root) names rows) (values_made meta names rows ++ links_made meta names rows) steps.0 steps.1 in
    let listed : steps_in operation ≡ steps.0 = ap steps_in (sym steps.2) ∙ steps_are rows steps.0 (nothing_made meta m names rows steps.0 steps.1) in
    let led : fold meta m (steps_in operation) ≡ Some (import_after m names rows) =
    ap (fold meta m) (listed ∙ news.2) ∙ run meta sound m good names rows fit new.0 new.1 new.2 news.0 news.1 in
    record {
      run = led;
      good = steps_keep_good meta sound m (import_after m names rows) good (steps_in operation) led;
      idle = (
        λ none. ap (import_after m names) (no_rows rows steps.0 (steps.2 ∙ none)),
        λ same. sym steps.2 ∙ ap (λ rs. composite rs steps.0) (stays meta sound m good names rows fit new.0 new.1 new.2 news.0 news.1 same),
      );
    }
