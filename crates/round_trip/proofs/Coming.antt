-- The text of a good model comes back: it is read, brought into the empty project, and shown the same.
use Rattle.std.proofs.Common.{◌≡◌, ◌∙◌, ℕ, zero, suc, ◌<◌, ◌≤◌, ◌-◌, ◌^◌, Bool, true, false, List, [], ◌∷◌, ◌++◌, length, refl, sym, ap, arith}
use Rattle.std.specs.Prelude.{◌||◌, is_some, Option, None, Some, Result, Ok, Err, slice_get, if◌then◌else◌}
use Rattle.std.specs.FinMap.{empty, get-empty}
use Rattle.ecore_meta.specs.Meta.{Meta}
use Rattle.ecore_meta.specs.Promised.{IsMetamodel}
use Rattle.model_state.specs.Good.{Good}
use Rattle.model_state.specs.Keys.{IdBytes, id_cmp}
use Rattle.model_state.specs.Listing.{children}
use Rattle.model_state.specs.State.{State, nothing}
use Rattle.model_state.specs.declared.operation.Operation.{Operation}
use Rattle.model_state.specs.declared.step.Place.TheVariants.{Root}
use Rattle.model_state.specs.declared.step.Step.{Step}
use Rattle.model_laws.proofs.Start.{starts_good}
use Rattle.edit_steps.specs.declared.fault.EditFault.{EditFault}
use Rattle.edit_steps.specs.declared.fault.EditFault.TheVariants.{IdInUse}
use Rattle.model_documents.specs.declared.doc.DocRow.{DocRow}
use Rattle.model_documents.specs.Document.{doc_of}
use Rattle.model_documents.proofs.Fitting.{documents_fit}
use Rattle.model_texts.specs.Tree.{text}
use Rattle.import_laws.specs.After.{import_after}
use Rattle.import_laws.specs.Import.{and_then, composite, import_of, of_steps, steps_made}
use Rattle.import_laws.specs.Links.{links_made}
use Rattle.import_laws.specs.Names.{AreNames, IsName, any_in_use, in_use}
use Rattle.import_laws.specs.News.{news_made}
use Rattle.import_laws.specs.Values.{values_made}
use Rattle.import_laws.proofs.ImportLead.{imports_lead}
use Rattle.import_laws.proofs.NameLists.{names_are}
use Rattle.round_trip.specs.Laws.{ComesBack, TextsComeBack}
use Rattle.round_trip.specs.Describes.{Describes}
use Rattle.round_trip.proofs.Bringing.{tellings_are_shown}
use Rattle.round_trip.proofs.BringingRooms.{all_come}
use Rattle.round_trip.proofs.ReadingTold.{texts_are_told}
use Rattle.model_state.specs.Ranks.{most_entries}

-- ids that are all given are those that the elements get
given_names : (m : State) (all : List DocRow) (ws k : ℕ) (rest : List DocRow) (names : List IdBytes) → length names ≡ length rest
    → ((n : ℕ) (r : DocRow) (e : IdBytes) → slice_get rest n ≡ Some r → slice_get names n ≡ Some e → r.id ≡ Some e) → AreNames m all ws k rest names
given_names m all ws k [] [] as_many given = tt
given_names m all ws k [] (x ∷ xs) as_many given = absurd cc
given_names m all ws k (r ∷ rest) [] as_many given = absurd cc
given_names m all ws k (r ∷ rest) (x ∷ xs) as_many given =
    named r.id (given zero r x refl refl)
    (given_names m all ws k rest xs (one_less (length xs) (length rest) as_many) (λ n q e here there. given (suc n) q e here there))
  where
    one_less : (a b : ℕ) → suc a ≡ suc b → a ≡ b
    one_less a b h = omega arith

    same : (a b : IdBytes) → ◌≡◌ {A = Option IdBytes} (Some a) (Some b) → b ≡ a
    same a b h = cc

    named : (id : Option IdBytes) → id ≡ Some x → AreNames m all ws k rest xs → (next : ℕ) × IsName m all ws k id x next × AreNames m all ws next rest xs
    named None is later = absurd cc
    named (Some id) is later = (k, (same id x is, refl), later)

-- no element of the empty project is live
none_in_use : (rows : List DocRow) → any_in_use nothing rows ≡ false
none_in_use [] = refl
none_in_use (r ∷ rows) = ap (λ b. b || any_in_use nothing rows) (none r.id) ∙ none_in_use rows
  where
    none : (id : Option IdBytes) → in_use nothing id ≡ false
    none None = refl
    none (Some id) = ap is_some (get-empty id_cmp id)

not_refused : (b : Bool) (r : Result (Option Operation) EditFault) → b ≡ false → (if b then Err IdInUse else r) ≡ r
not_refused true r is = absurd cc
not_refused false r is = refl

module _ (meta : Meta) (names : List IdBytes) (rows : List DocRow) (all : List Step) (come : news_made (children empty empty Root) names rows ≡ Ok all) where
  abbrev steps : List Step
  steps = all ++ (values_made meta names rows ++ links_made meta names rows)

  is_import : import_of meta nothing names rows ≡ Ok (composite rows steps)
  is_import =
      not_refused (any_in_use nothing rows) (of_steps rows (steps_made meta nothing names rows)) (none_in_use rows)
      ∙ ap (λ (r : Result (List Step) EditFault). of_steps rows (and_then r (values_made meta names rows ++ links_made meta names rows))) come

-- what rows that describe a model leave in the empty project is shown as that model
comes : (meta : Meta) → IsMetamodel meta → (m : State) → Good meta m → (ws : ℕ) (names : List IdBytes) (rows : List DocRow)
    → doc_of meta (text meta m) ≡ Ok rows → Describes m names rows → length rows < most_entries → ComesBack meta ws (text meta m)
comes meta promised m good ws names rows read tells few =
    let fit = documents_fit meta promised (text meta m) rows read in
    let come = all_come names rows few in
    let are = given_names nothing rows ws 1 rows names tells.as_many (λ n r e here there. (tells.each n r e here there).id) in
    let operation = composite rows (steps meta names rows come.0 come.1) in
    let imported = is_import meta names rows come.0 come.1 in
    let leads = imports_lead meta promised.sound nothing (starts_good meta) ws rows fit names are operation imported in
    record {
      rows = rows;
      operation = operation;
      left = import_after nothing names rows;
      read = read;
      recorded = ap (λ (l : List IdBytes). import_of meta nothing l rows) (sym (names_are nothing rows ws 1 rows names are)) ∙ imported;
      run = leads.run;
      shown = tellings_are_shown meta promised.sound m good names rows fit tells (omega (arith, few));
    }

pub texts_come_back : TextsComeBack
texts_come_back meta promised m good ids shallow short ws =
    let told = texts_are_told meta promised m good ids shallow in
    comes meta promised m good ws told.0 told.1 told.2 told.3 (fewer (length told.1) (length (text meta m)) told.4 short)
  where
    fewer : (a b : ℕ) → a ≤ b → b < 2 ^ 32 - 1 → a < most_entries
    fewer a b le lt = omega (arith, le, lt)
