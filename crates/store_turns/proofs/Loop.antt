-- The loops over a turn's items and over turns.
use Rattle.std.proofs.Common.{◌≡◌, ℕ, List, [], ◌∷◌, ◌++◌, true, false, Option, Some, None, refl, sym, ◌∙◌, ap}
use Rattle.host_port.specs.Cut.{Item, Script, with_item, ends_by}
use Rattle.host_port.specs.Reads.{EndsScript}
use Rattle.host_port.specs.declared.lines.LineFault.{LineFault}
use Rattle.host_port.specs.declared.lines.LineFault.TheVariants as faults
use Rattle.command_runs.specs.Runs.{Answer, after}
use Rattle.op_form.specs.declared.event.Event.{Event}
use Rattle.access_rules.specs.declared.policy.Grant.{Grant}
use Rattle.plain_repository.specs.Lines.{is_skipped}
use Rattle.plain_repository.specs.State.{State}
use Rattle.plain_repository.specs.Events.{play}
use Rattle.plain_repository.specs.Repository.{decide}
use Rattle.tool_requests.specs.Turns.{turn_refusal}
use Rattle.turn_frames.specs.declared.fault.TurnFault.{TurnFault}
use Rattle.turn_frames.specs.declared.fault.TurnFault.TheVariants as turns
use Rattle.turn_frames.specs.Turns.{Turn, Turns, ended_by, with_turn}
use Rattle.turn_frames.specs.Runs.{closing, in_turn, turns_answers}
use Rattle.turn_frames.proofs.RunLaws.{turn_begins, turn_item}
use Rattle.store_session.specs.declared.status.Status.{Status}
use Rattle.store_session.specs.Tasks.{gated, gated_by, input_status, telling_one}
use Rattle.store_turns.specs.Serving.{fault_line, is_of_script, manner, said_of}

-- a fault of the script ends it
pub ends_it : (fault : LineFault) (script : Script) → is_of_script fault ≡ true → EndsScript fault script → script ≡ ends_by (Some fault)
ends_it (faults.LineTooLong at) script of is = is
ends_it (faults.BlockTooLong at) script of is = is
ends_it (faults.NotText at) script of is = is
ends_it (faults.UnendedBlock at) script of is = is
ends_it (faults.InputTooLong at) script of is = is
ends_it faults.Failed script of is = absurd cc
ends_it faults.Memory script of is = absurd cc

-- an item that is skipped is answered with nothing
decide_skipped : (s : State) (item : Item) → is_skipped item.line ≡ true → decide s item ≡ telling_one [] false
unfolding decide
decide_skipped s item is = rw is refl

gated_skipped : (s : State) (item : Item) → is_skipped item.line ≡ true → (refusal : Option (List ℕ)) → gated_by s item refusal ≡ telling_one [] false
gated_skipped s item is None = decide_skipped s item is
gated_skipped s item is (Some reply) = rw is refl

module _ (grants : List Grant) (user : List ℕ) (s : State) (rest : List Turn) where
  -- an item of a turn's script
  pub item_left : (item : Item) (left script : Script) → script ≡ with_item item.line item.block left
      → in_turn (manner grants) user s script rest
      ≡ gated (turn_refusal grants user) s item ∷ in_turn (manner grants) user (after play s (gated (turn_refusal grants user) s item).event) left rest
  item_left item left script is =
      ap (λ (x : Script). in_turn (manner grants) user s x rest) is ∙ turn_item (manner grants) (λ fault. refl) user s item left rest

  pub skipped_left : (item : Item) (left script : Script) → script ≡ with_item item.line item.block left → is_skipped item.line ≡ true
      → in_turn (manner grants) user s script rest ≡ telling_one [] false ∷ in_turn (manner grants) user s left rest
  skipped_left item left script is skipped =
      item_left item left script is
      ∙ ap (λ (a : Answer Event). a ∷ in_turn (manner grants) user (after play s a.event) left rest)
      (gated_skipped s item skipped (turn_refusal grants user s item.line))

  -- its end
  pub end_left : (fault : Option LineFault) (script : Script) → script ≡ ends_by fault
      → in_turn (manner grants) user s script rest ≡ closing said_of fault ++ turns_answers (manner grants) s rest
  end_left fault script is = ap (λ (x : Script). in_turn (manner grants) user s x rest) is

-- a turn
pub turn_left : (grants : List Grant) (s : State) (turn : Turn) (rest : List Turn) (user : List ℕ) (script : Script) → user ≡ turn.user
    → script ≡ (manner grants).script turn.bytes
    → turns_answers (manner grants) s (turn ∷ rest) ≡ in_turn (manner grants) user s script rest
turn_left grants s turn rest user script user_is script_is =
    turn_begins (manner grants) (λ fault. refl) s turn rest
    ∙ ap (λ (u : List ℕ). in_turn (manner grants) u s ((manner grants).script turn.bytes) rest) (sym user_is)
    ∙ ap (λ (x : Script). in_turn (manner grants) user s x rest) (sym script_is)

-- what is said of a fault of the input
pub said_is : (fault : LineFault) (status : Status) → status ≡ input_status fault → said_of fault ≡ telling_one (fault_line status) true
said_is fault status is = ap (λ (x : Status). telling_one (fault_line x) true) (sym is)

-- the turns that are read, and those that are left
module _ (grants : List Grant) (s : State) (whole : Turns) where
  pub more_turns : (turn : Turn) (rest : Turns) → whole ≡ with_turn turn rest
      → turns_answers (manner grants) s whole.turns ≡ turns_answers (manner grants) s (turn ∷ rest.turns)
  more_turns turn rest is = ap (λ (t : Turns). turns_answers (manner grants) s t.turns) is

  pub no_turns : (fault : Option TurnFault) → whole ≡ ended_by fault → turns_answers (manner grants) s whole.turns ≡ []
  no_turns fault is = ap (λ (t : Turns). turns_answers (manner grants) s t.turns) is
