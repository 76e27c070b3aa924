-- Runs of turns.
use Rattle.std.proofs.Common.{◌≡◌, ℕ, List, [], ◌∷◌, ◌++◌, Option, None, Some, refl, ◌∙◌, ap, append_assoc}
use Rattle.std.proofs.lemmas.List.{append-nil}
use Rattle.host_port.specs.Cut.{Item, Script, with_item}
use Rattle.host_port.specs.declared.lines.LineFault.{LineFault}
use Rattle.command_runs.specs.Runs.{listed, after, answers, events, played, replies}
use Rattle.command_runs.proofs.RunLaws.{played-append, events-append, replies-append}
use Rattle.turn_frames.specs.Turns.{Turn}
use Rattle.turn_frames.specs.Runs.{Manner, closing, in_turn, turn_answers, turns_answers}

-- a fault of a script makes no event
module _ {S E : Type 0} (manner : Manner S E) (quiet : (fault : LineFault) → (manner.said fault).event ≡ None) where
  closing_quiet : (fault : Option LineFault) → events (closing manner.said fault) ≡ []
  closing_quiet None = refl
  closing_quiet (Some fault) = ap (λ (e : Option E). listed e ++ []) (quiet fault)

  -- a turn's events are those of its script's items
  pub turn_events : (s : S) (turn : Turn)
      → events (turn_answers manner s turn) ≡ events (answers (manner.rule turn.user) manner.play s (manner.script turn.bytes).items)
  turn_events s turn =
      events-append (answers (manner.rule turn.user) manner.play s (manner.script turn.bytes).items) (closing manner.said (manner.script turn.bytes).fault)
      ∙ ap (λ (l : List E). events (answers (manner.rule turn.user) manner.play s (manner.script turn.bytes).items) ++ l)
      (closing_quiet (manner.script turn.bytes).fault)
      ∙ append-nil (events (answers (manner.rule turn.user) manner.play s (manner.script turn.bytes).items))

  -- a turn begins
  pub turn_begins : (s : S) (turn : Turn) (rest : List Turn)
      → turns_answers manner s (turn ∷ rest) ≡ in_turn manner turn.user s (manner.script turn.bytes) rest
  turn_begins s turn rest =
      append_assoc (answers (manner.rule turn.user) manner.play s (manner.script turn.bytes).items) (closing manner.said (manner.script turn.bytes).fault)
      (turns_answers manner (played manner.play s (events (turn_answers manner s turn))) rest)
      ∙ ap (λ (l : List E). answers (manner.rule turn.user) manner.play s (manner.script turn.bytes).items
      ++ (closing manner.said (manner.script turn.bytes).fault ++ turns_answers manner (played manner.play s l) rest)) (turn_events s turn)

  -- an item of its script
  pub turn_item : (user : List ℕ) (s : S) (item : Item) (left : Script) (rest : List Turn)
      → in_turn manner user s (with_item item.line item.block left) rest
      ≡ manner.rule user s item ∷ in_turn manner user (after manner.play s (manner.rule user s item).event) left rest
  turn_item user s item left rest =
      let answer = manner.rule user s item in
      let next = answers (manner.rule user) manner.play (after manner.play s answer.event) left.items in
      ap (λ (t : S). answer ∷ (next ++ (closing manner.said left.fault ++ turns_answers manner t rest)))
      (played-append manner.play s (listed answer.event) (events next))

  -- ---- turn by turn
  -- what some answers print, and what is printed of the fault
  pub turn_replies : (s : S) (turn : Turn)
      → replies (turn_answers manner s turn)
      ≡ replies (answers (manner.rule turn.user) manner.play s (manner.script turn.bytes).items) ++ replies (closing manner.said
      (manner.script turn.bytes).fault)
  turn_replies s turn =
      replies-append (answers (manner.rule turn.user) manner.play s (manner.script turn.bytes).items) (closing manner.said (manner.script turn.bytes).fault)
