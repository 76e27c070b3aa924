-- The next turn: what the bytes at hand begin with decides, and the input's end.
use Rattle.std.proofs.Common.{◌≡◌, ◌++◌, ◌+◌, ◌<◌, ◌≤◌, ◌∙◌, sym, ap, arith, ℕ, List, [], length, length-append, true, false, Some, refl}
use Rattle.std.proofs.lemmas.Bool.{leb-true, leb-false, ltb-true, ltb-false}
use Rattle.std.proofs.lemmas.List.{append-nil}
use Rattle.host_port.specs.Limits.{input_limit}
use Rattle.host_port.proofs.Course.{told_next}
use Rattle.turn_frames.specs.Turns.{Turns, frame, first_turn, turns_from, with_turn}
use Rattle.turn_frames.specs.Reads.{most_frame}
use Rattle.turn_frames.proofs.Turning.{nothing_left, far_end, broken_end, empty_end, same_turns, whole_turn, whole_some, whole_next}
use Rattle.turn_frames.proofs.reader.TurnReader.next_turn.Goals as goal
use Rattle.turn_frames.proofs.reader.TurnReader.next_turn.Goals.{After-front, In-Ok-Whole, else-has_bytes-via-then-has_bytes+else-is_far}
use Rattle.turn_frames.proofs.reader.TurnReader.next_turn.Goals.{else-has_bytes-via-else-has_bytes}
use Rattle.turn_frames.proofs.reader.TurnReader.next_turn.Given.{Over}

-- where bytes are at hand, they stand within the limit
module _ (g : Over) (c : After-front g) where
  near : 0 < length c.pieces.self.pending → c.pieces.self.offset < input_limit
  near some = elim c.else-has_bytes.branch [
    | else-has_bytes-via-then-has_bytes+else-is_far w ↦ leb-false _ _ (sym w.is_far.ensures ∙ w.if-is_far.false)
    | else-has_bytes-via-else-has_bytes w ↦
        let none : length c.pieces.self.pending ≤ 0 = ltb-false _ _ (sym c.has_bytes.ensures ∙ w.if-has_bytes.false) in absurd (omega (arith, none, some))
  ]

pub returns-then-is_far-clause-turn : goal.returns-then-is_far-clause-turn
returns-then-is_far-clause-turn g c = λ told.
    let left = (g.H.Host.told c.pieces.host).left in
    let some : 0 < length c.pieces.self.pending = ltb-true _ _ (sym c.if-has_bytes.ensures) in
    same_turns _ c.place.result _ (c.pieces.self.pending ++ left) (c.place.ensures ∙ c.pieces.invariant.offset) (c.pieces.invariant.unread told)
    ∙ far_end c.place.result (c.pieces.self.pending ++ left) (omega (arith, some, length-append c.pieces.self.pending left))
    (let far : input_limit ≤ c.pieces.self.offset = leb-true _ _ (sym c.if-is_far.ensures) in omega (arith, far, c.place.ensures))

pub returns-in-Ok-Broken-clause-turn : goal.returns-in-Ok-Broken-clause-turn
returns-in-Ok-Broken-clause-turn g c = λ told.
    let left = (g.H.Host.told c.pieces.host).left in
    let broken = rw c.in-Ok-Broken.field-0-is at c.in-Ok-Broken.ensures in
    let low = near g (goal.at.returns-in-Ok-Broken-clause-turn g c).After-front broken.0 in
    same_turns _ c.place-in-Ok-Broken.result _ (c.pieces.self.pending ++ left) (c.place-in-Ok-Broken.ensures ∙ c.pieces.invariant.offset)
    (c.pieces.invariant.unread told)
    ∙ broken_end c.place-in-Ok-Broken.result (c.pieces.self.pending ++ left) (omega (arith, broken.0, length-append c.pieces.self.pending left))
    (omega (arith, c.place-in-Ok-Broken.ensures, low)) (broken.1 left)

module _ (g : Over) (c : In-Ok-Whole g) (low : 0 < length c.pieces.self.pending → c.pieces.self.offset < input_limit) where
  whole : (first_turn c.pieces.self.pending ≡ Some c.in-Ok-Whole.turn) × (c.in-Ok-Whole.size ≡ length (frame c.in-Ok-Whole.turn))
  whole = rw c.in-Ok-Whole.field-0-is at c.in-Ok-Whole.ensures

  sizes : (1 ≤ c.in-Ok-Whole.size) × (c.in-Ok-Whole.size ≤ length c.pieces.self.pending) × (c.in-Ok-Whole.size ≤ most_frame)
  sizes = whole_some c.pieces.self.pending c.in-Ok-Whole.turn c.in-Ok-Whole.size whole.0 whole.1

  within : c.pieces.self.offset < input_limit
  within = low (omega (arith, sizes.0, sizes.1))

pub go_past-requires-clause-count : goal.go_past-requires-clause-count
go_past-requires-clause-count g c =
    (sizes g (goal.at.go_past-requires-clause-count g c).In-Ok-Whole (near g (goal.at.go_past-requires-clause-count g c).After-front)).1

pub go_past-requires-clause-low : goal.go_past-requires-clause-low
go_past-requires-clause-low g c =
    let h = (goal.at.go_past-requires-clause-low g c).In-Ok-Whole in
    let low = near g (goal.at.go_past-requires-clause-low g c).After-front in
    omega (arith, within g h low, (sizes g h low).2)

pub returns-in-Ok-Whole-clause-turn : goal.returns-in-Ok-Whole-clause-turn
returns-in-Ok-Whole-clause-turn g c = λ told.
    let h = (goal.at.returns-in-Ok-Whole-clause-turn g c).In-Ok-Whole in
    let low = near g (goal.at.returns-in-Ok-Whole-clause-turn g c).After-front in
    let left = (g.H.Host.told c.pieces.host).left in
    let turn = c.in-Ok-Whole.turn in
    let w = whole g h low in
    same_turns _ c.pieces.self.offset _ (c.pieces.self.pending ++ left) c.pieces.invariant.offset (c.pieces.invariant.unread told)
    ∙ whole_next c.pieces.self.pending turn c.in-Ok-Whole.size w.0 w.1 c.pieces.self.offset left (within g h low)
    ∙ ap (λ (t : Turns). with_turn turn t)
    (same_turns _ c.go_past.new.self.offset _ (c.go_past.new.self.pending ++ left) c.go_past.ensures.offset
    (ap (λ (l : List ℕ). l ++ left) c.go_past.ensures.pending))

pub returns-in-Ok-Whole-clause-is : goal.returns-in-Ok-Whole-clause-is
returns-in-Ok-Whole-clause-is g c =
    let h = (goal.at.returns-in-Ok-Whole-clause-is g c).In-Ok-Whole in
    let low = near g (goal.at.returns-in-Ok-Whole-clause-is g c).After-front in
    whole_turn c.pieces.self.pending c.in-Ok-Whole.turn c.in-Ok-Whole.size (whole g h low).0 (whole g h low).1

pub returns-in-Ok-Whole-clause-low : goal.returns-in-Ok-Whole-clause-low
returns-in-Ok-Whole-clause-low g c =
    let h = (goal.at.returns-in-Ok-Whole-clause-low g c).In-Ok-Whole in
    let low = near g (goal.at.returns-in-Ok-Whole-clause-low g c).After-front in
    omega (arith, c.go_past.ensures.offset, within g h low, (sizes g h low).2)

pub returns-then-has_bytes-2-clause-turn : goal.returns-then-has_bytes-2-clause-turn
returns-then-has_bytes-2-clause-turn g c = λ told.
    let told_b = told_next (g.H.Host.told c.args.host.now) (g.H.Host.told c.pieces.host) c.pieces.invariant.course told in
    let part = rw c.in-Ok-Part.field-0-is at c.in-Ok-Part.ensures in
    let left = (g.H.Host.told c.fill.new.host).left in
    let none : left ≡ [] = c.in_ok-fill.ensures.end told_b c.if-not-branch.true in
    let same : c.fill.new.self.pending ≡ c.pieces.self.pending = c.in_ok-fill.ensures.same c.if-not-branch.true in
    let some : 0 < length c.fill.new.self.pending = ltb-true _ _ (sym c.if-has_bytes-2.ensures) in
    let low = near g (goal.at.returns-then-has_bytes-2-clause-turn g c).After-front (omega (arith, some, ap length same)) in
    same_turns _ c.place-then-has_bytes-2.result _ (c.fill.new.self.pending ++ left)
    (c.place-then-has_bytes-2.ensures ∙ c.in_ok-fill.ensures.offset ∙ c.pieces.invariant.offset)
    (c.in_ok-fill.ensures.unread told_b ∙ c.pieces.invariant.unread told)
    ∙ ap (λ (l : List ℕ). turns_from 0 c.place-then-has_bytes-2.result (c.fill.new.self.pending ++ l)) none
    ∙ ap (λ (l : List ℕ). turns_from 0 c.place-then-has_bytes-2.result l) (append-nil c.fill.new.self.pending)
    ∙ broken_end c.place-then-has_bytes-2.result c.fill.new.self.pending some
    (omega (arith, c.place-then-has_bytes-2.ensures, c.in_ok-fill.ensures.offset, low)) (ap first_turn same ∙ part.0)

pub returns-then-not-branch-clause-turn : goal.returns-then-not-branch-clause-turn
returns-then-not-branch-clause-turn g c = λ told.
    let told_b = told_next (g.H.Host.told c.args.host.now) (g.H.Host.told c.pieces.host) c.pieces.invariant.course told in
    let left = (g.H.Host.told c.fill.new.host).left in
    let none : left ≡ [] = c.in_ok-fill.ensures.end told_b c.if-not-branch.true in
    let empty : c.fill.new.self.pending ≡ [] = nothing_left c.fill.new.self.pending (ltb-false _ _ (sym c.if-has_bytes-2.ensures)) in
    same_turns _ c.args.self.now.offset _ [] refl
    (sym none ∙ ap (λ (l : List ℕ). l ++ left) (sym empty) ∙ c.in_ok-fill.ensures.unread told_b ∙ c.pieces.invariant.unread told)
    ∙ empty_end c.args.self.now.offset
