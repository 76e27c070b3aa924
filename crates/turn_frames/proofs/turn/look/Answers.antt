use Rattle.std.proofs.Common.{◌≡◌, ◌+◌, ◌-◌, length, true, false, arith}
use Rattle.std.proofs.Common.{take, drop, length-drop}
use Rattle.std.proofs.lemmas.List.{length-take, take_all}
use Rattle.turn_frames.proofs.Looks.{FeedAt, broken_head, broken_long, part_short, part_unfed, whole_is}
use Rattle.turn_frames.proofs.turn.look.Goals as goal
use Rattle.turn_frames.proofs.turn.look.Goals.{In-Some}

module _ (c : In-Some) where
  feed : FeedAt c.args.bytes.now c.in-Some.at
  feed = record { within = omega (arith, c.min.ensures, c.in-Some.ensures.found.0); here = c.in-Some.ensures.found.1; before = c.in-Some.ensures.found.2 }

pub returns-then-bytes-gt-MOST_HEAD : goal.returns-then-bytes-gt-MOST_HEAD
returns-then-bytes-gt-MOST_HEAD c =
    (omega arith, broken_long c.args.bytes.now c.min.result (omega (arith, c.min.ensures)) (omega (arith, c.min.ensures)) c.in-None.ensures.none)

pub returns-else-bytes-gt-MOST_HEAD : goal.returns-else-bytes-gt-MOST_HEAD
returns-else-bytes-gt-MOST_HEAD c =
    (part_unfed c.args.bytes.now c.min.result (omega (arith, c.min.ensures)) c.in-None.ensures.none, omega arith)

pub returns-in-None-head_of : goal.returns-in-None-head_of
returns-in-None-head_of c =
    let there = feed (goal.at.returns-in-None-head_of c).In-Some in
    (omega (arith, there.within), broken_head c.args.bytes.now c.in-Some.at there c.in-None-head_of.ensures.none)

pub returns-then-rest-count : goal.returns-then-rest-count
returns-then-rest-count c =
    let bytes = c.args.bytes.now in
    let rest = drop (c.in-Some.at + 1) bytes in
    let there = feed (goal.at.returns-then-rest-count c).In-Some in
    part_short bytes c.in-Some.at there
    (record { user = c.in-Some-head_of.user.now; count = c.in-Some-head_of.count }) c.in-Some-head_of.ensures.some
    (omega (arith, c.if-rest-count.true, length-take (length bytes - (c.in-Some.at + 1)) rest, length-drop (c.in-Some.at + 1) bytes, there.within))

pub returns-in_ok-turn-in-Some-head_of : goal.returns-in_ok-turn-in-Some-head_of
returns-in_ok-turn-in-Some-head_of c =
    let bytes = c.args.bytes.now in
    let rest = drop (c.in-Some.at + 1) bytes in
    let all : take (length bytes - (c.in-Some.at + 1)) rest ≡ rest = take_all (length bytes - (c.in-Some.at + 1)) rest (omega (
      arith,
      length-drop
          (c.in-Some.at + 1) bytes,
    )) in
    let there = feed (goal.at.returns-in_ok-turn-in-Some-head_of c).In-Some in
    rw c.in_ok-turn-in-Some-head_of.ensures
    (whole_is bytes c.in-Some.at there c.in-Some-head_of.user.now c.in-Some-head_of.count c.in-Some-head_of.ensures.some
    (take (length bytes - (c.in-Some.at + 1)) rest) all (omega (arith, c.if-rest-count.false)))
