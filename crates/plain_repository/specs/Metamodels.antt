-- The metamodel: the commands `init` and `evolve`, and the events Init and Evolve.
use Rattle.std.specs.Prelude.{ℕ, ◌&&◌, not, List, [], Bool, Option, Some, None, Result, Ok, Err, is_none, is_ok, is_some, option_map, unwrap_or, if◌then◌else◌}
use Rattle.ecore_meta.specs.Meta.{Meta}
use Rattle.ecore_json.specs.declared.fault.EcoreFault.{EcoreFault}
use Rattle.ecore_json.specs.Metamodel.{metamodel_of, ecore_fault_number}
use Rattle.metamodel_growth.specs.Extension.{missing}
use Rattle.metamodel_growth.specs.Evolved.{evolved}
use Rattle.metamodel_growth.specs.Same.{is_same}
use Rattle.history_tree.specs.History.{first_history}
use Rattle.op_form.specs.declared.event.Event.TheVariants as events
use Rattle.script_lang.specs.declared.reply.Refusal.TheVariants as refusals
use Rattle.plain_repository.specs.State.{State}
use Rattle.plain_repository.specs.Answers.{Decision, refused, told, with_room}

-- ---- Init
-- the metamodel, where the text reads as one
abbrev pub meta_of_read : Result Meta EcoreFault → Option Meta
meta_of_read (Ok meta) = Some meta
meta_of_read (Err fault) = None

-- there is the metamodel of the text, and version 0 on `trunk`
abbrev pub initialized : List ℕ → State → State
initialized text s = record s { meta = meta_of_read (metamodel_of text); history = first_history }

-- the text reads as a metamodel
abbrev pub is_metamodel : List ℕ → Bool
is_metamodel text = is_ok (metamodel_of text)

-- a block that reads as a metamodel
abbrev pub with_metamodel : State → List ℕ → Result Meta EcoreFault → Decision
with_metamodel s text (Err fault) = refused (refusals.BadMetamodel (ecore_fault_number fault))
with_metamodel s text (Ok meta) = with_room s [] [] (events.Init text)

-- `init`
unfoldable pub decide_init : State → Option Meta → List ℕ → Decision
decide_init s (Some meta) text = refused refusals.AlreadyInit
decide_init s None text = with_metamodel s text (metamodel_of text)

-- ---- Evolve
-- the metamodel that extends the present one and is another, with the numbers of the present one; None where there is none
abbrev pub extension_of : Meta → Result Meta EcoreFault → Option Meta
extension_of old (Err fault) = None
extension_of old (Ok next) = if is_none (missing old next) && not (is_same old (evolved old next)) then Some (evolved old next) else None

-- the text reads as a metamodel that extends the present one and is another
abbrev pub can_evolve : Meta → List ℕ → Bool
can_evolve old text = is_some (extension_of old (metamodel_of text))

-- the metamodel that the text extends it to
abbrev pub grown : List ℕ → Meta → Meta
grown text old = unwrap_or (extension_of old (metamodel_of text)) old

-- the metamodel is extended
abbrev pub with_grown : List ℕ → State → State
with_grown text s = record s { meta = option_map (grown text) s.meta }

-- a metamodel that lacks a part of the present one is refused by the part's name; the present one once more makes no event
abbrev pub extended : State → List ℕ → Meta → Meta → Option (List ℕ) → Decision
extended s text old next (Some name) = refused (refusals.NotExtension name)
extended s text old next None = if is_same old (evolved old next) then told [] [] else with_room s [] [] (events.Evolve text)

-- the same, where the block reads as a metamodel
abbrev pub evolve_read : State → List ℕ → Meta → Result Meta EcoreFault → Decision
evolve_read s text old (Err fault) = refused (refusals.BadMetamodel (ecore_fault_number fault))
evolve_read s text old (Ok next) = extended s text old next (missing old next)

-- `evolve`
unfoldable pub decide_evolve : State → Meta → List ℕ → Decision
decide_evolve s old text = evolve_read s text old (metamodel_of text)
