-- What bytes begin with.
use Rattle.std.proofs.Common.{◌≡◌, ℕ, ◌+◌, ◌-◌, ◌<◌, ◌≤◌, ◌^◌, Bool, true, false, cond, ◌&&◌, List, [], ◌∷◌, ◌++◌, length, take, drop, get_or}
use Rattle.std.proofs.Common.{None, Option, Some, refl, sym, ◌∙◌, ap, subst, arith, length-append}
use Rattle.std.specs.Prelude.{nat_le}
use Rattle.std.specs.List.{list_all, before_first, after_first, position_or_len}
use Rattle.std.specs.Option.{option_map}
use Rattle.std.specs.Char.{is_ascii_alphabetic}
use Rattle.std.specs.Fmt.{decimal}
use Rattle.std.specs.Str.{IsAscii, IsUtf8}
use Rattle.std.proofs.lemmas.Bool.{leb-true}
use Rattle.std.proofs.lemmas.Bool.Decides.{nat_tests}
use Rattle.std.proofs.lemmas.List.{length-take, take-append-drop, take_at}
use Rattle.std.proofs.lemmas.List.{append-nil, take-append-le, get_or_append_left, get_or-append_right}
use Rattle.std.proofs.lemmas.List.Sums.{position_or_len_is, split_at_first, passes_at_first}
use Rattle.std.proofs.lemmas.Str.{IsUtf8-from_ascii, IsAscii-append}
use Rattle.std.proofs.lemmas.Str.Ascii.{IsAscii-nil, IsAscii-cons}
use Rattle.std.proofs.lemmas.Fmt.{length-decimal-le, IsAscii-decimal}
use Rattle.host_port.specs.Cut.{is_lf}
use Rattle.model_state.specs.Names.{is_name, is_name_byte, most_name_rest}
use Rattle.script_lang.specs.Words.{is_space, number_below}
use Rattle.turn_frames.specs.Turns.{Turn, IsTurn, Head, frame, most_turn_bytes, headed, head_of, first_turn}
use Rattle.script_lang.proofs.Numbers.{number_decimal, number_back, both}
use Rattle.turn_frames.proofs.Cuts.{position_at}
use Rattle.turn_frames.proofs.Heads.{head_back, head_read, head_quiet, head_line, frame_is, frame_read, frame_back, after_none}

-- ---- numbers below a lower limit
some_is : {X : Type 0} (x y : X) → Some x ≡ Some y → x ≡ y
some_is x y e = cc

pub no_other : {X : Type 0} (o : Option X) → ((x : X) → o ≡ Some x → ⊥) → o ≡ None
no_other None none = refl
no_other (Some x) none = absurd (none x refl)

module _ (low high : ℕ) (order : low ≤ high) (fits : high ≤ 2 ^ 64) (word : List ℕ) where
  pub narrow_some : (n : ℕ) → number_below high word ≡ Some n → n < low → number_below low word ≡ Some n
  narrow_some n is below =
      let back = number_back high fits word n is in
      ap (λ (w : List ℕ). number_below low w) back.0 ∙ number_decimal low (omega (arith, order, fits)) n below

  again : (m : ℕ) → number_below low word ≡ Some m → (m < low) × (number_below high word ≡ Some m)
  again m is =
      let back = number_back low (omega (arith, order, fits)) word m is in
      (back.1, ap (λ (w : List ℕ). number_below high w) back.0 ∙ number_decimal high fits m (omega (arith, back.1, order)))

  pub narrow_far : (n : ℕ) → number_below high word ≡ Some n → low ≤ n → number_below low word ≡ None
  narrow_far n is far =
      no_other (number_below low word) (λ m got. let a = again m got in let same : m ≡ n = some_is m n (sym a.1 ∙ is) in absurd (omega (arith, a.0, far, same)))

  pub narrow_none : number_below high word ≡ None → number_below low word ≡ None
  narrow_none is = no_other (number_below low word) (λ m got. let a = again m got in let clash = sym is ∙ a.1 in cc)

-- ---- lines that are no heads
headed_none : (user : List ℕ) → headed user None ≡ None
headed_none user = by (is_name user)
  where
    by : (b : Bool) → cond b (option_map {T = ℕ} {U = Head} (λ n. record { user = user; count = n }) None) None ≡ None
    by true = refl
    by false = refl

no_number : (limit : ℕ) → number_below limit [] ≡ None
unfolding number_below
no_number limit = refl

pub unspaced : (line : List ℕ) → position_or_len is_space line ≡ length line → head_of line ≡ None
unspaced line whole =
    let none : after_first is_space line ≡ [] = after_none line (omega (arith, whole, length-take (position_or_len is_space line) line)) in
    ap (λ (w : List ℕ). headed (before_first is_space line) (number_below (most_turn_bytes + 1) w)) none
    ∙ ap (λ (n : Option ℕ). headed (before_first is_space line) n) (no_number (most_turn_bytes + 1)) ∙ headed_none (before_first is_space line)

-- ---- heads are short, and ASCII
ascii_bytes : (bs : List ℕ) → list_all is_name_byte bs ≡ true → IsAscii bs
ascii_bytes [] all = IsAscii-nil
ascii_bytes (b ∷ bs) all =
    let k = both (is_name_byte b) (list_all is_name_byte bs) all in
    let low : b < 128 = grind (arith, nat_tests, k.0) in
    IsAscii-cons b bs low (ascii_bytes bs k.1)

pub name_shape : (name : List ℕ) → is_name name ≡ true → IsAscii name × (length name ≤ 64) × (1 ≤ length name)
name_shape [] is = cc
name_shape (b ∷ bs) is =
    let k = both (is_ascii_alphabetic b && nat_le (length bs) most_name_rest) (list_all is_name_byte bs) is in
    let m = both (is_ascii_alphabetic b) (nat_le (length bs) most_name_rest) k.0 in
    let low : b < 128 = grind (arith, nat_tests, m.0) in
    (IsAscii-cons b bs low (ascii_bytes bs k.1), omega (arith, leb-true (length bs) most_name_rest m.1), omega arith)

pub head_shape : (line : List ℕ) (head : Head) → head_of line ≡ Some head → IsUtf8 line × (length line ≤ 73)
head_shape line head is =
    let back = head_back line head is in
    let name = name_shape head.user back.1 in
    let number = decimal head.count in
    let narrow : head.count < 2 ^ 64 = omega (arith, back.2) in
    let digits : length number ≤ 8 = length-decimal-le 8 head.count (omega arith) (omega (arith, back.2)) narrow in
    let ascii : IsAscii (head.user ++ 32 ∷ number) = IsAscii-append head.user (32 ∷ number) name.0 (IsAscii-cons 32 number (omega arith)
    (IsAscii-decimal head.count narrow)) in (
      subst IsUtf8 (sym back.0) (IsUtf8-from_ascii (head.user ++ 32 ∷ number) ascii),
      omega (arith, ap length back.0, length-append head.user (32 ∷ number), name.1, digits),
    )

-- ---- the line feed of a frame
-- the first line feed of the bytes stands there
pub record FeedAt (bytes : List ℕ) (at : ℕ) : Type 0 where
  pub within : at < length bytes
  pub here : get_or bytes at 0 ≡ 10
  pub before : (k : ℕ) → k < at → get_or bytes k 0 ≡ 10 → ⊥

no_feed_at : (b : ℕ) → (b ≡ 10 → ⊥) → is_lf b ≡ false
no_feed_at b none = grind (arith, nat_tests, none)

feed_here : (b : ℕ) → b ≡ 10 → is_lf b ≡ true
feed_here b is = grind (arith, nat_tests, is)

feed_back : (b : ℕ) → is_lf b ≡ true → b ≡ 10
feed_back b is = grind (arith, nat_tests, is)

module _ (bytes more : List ℕ) where
  feed_on : (at : ℕ) → FeedAt bytes at → position_or_len is_lf (bytes ++ more) ≡ at
  feed_on at feed =
      position_or_len_is is_lf (bytes ++ more) at 0 (omega (arith, feed.within, length-append bytes more))
      (λ k low. no_feed_at (get_or (bytes ++ more) k 0)
      (λ is. feed.before k low (sym (get_or_append_left bytes more 0 k (omega (arith, low, feed.within))) ∙ is)))
      (λ low. feed_here (get_or (bytes ++ more) at 0) (get_or_append_left bytes more 0 at feed.within ∙ feed.here))

  -- what the bytes begin with, where they and what comes after them begin with a turn's frame
  module _ (turn : Turn) (got : first_turn (bytes ++ more) ≡ Some turn) where
    back : IsTurn turn × (rest : List ℕ) × (bytes ++ more ≡ frame turn ++ rest)
    back = frame_back (bytes ++ more) turn got

    apart : bytes ++ more ≡ head_line turn ++ (10 ∷ (turn.bytes ++ back.1))
    apart = back.2 ∙ frame_is turn back.1

    head_some : head_of (head_line turn) ≡ Some (record { user = turn.user; count = length turn.bytes })
    head_some = head_read turn back.0

    head_short : length (head_line turn) ≤ 73
    head_short = (head_shape (head_line turn) (record { user = turn.user; count = length turn.bytes }) head_some).1

    nothing : length (head_line turn) - length (head_line turn) ≡ 0
    nothing = omega arith

    feed_there : get_or (bytes ++ more) (length (head_line turn)) 0 ≡ 10
    feed_there =
        ap (λ (l : List ℕ). get_or l (length (head_line turn)) 0) apart
        ∙ get_or-append_right (head_line turn) (10 ∷ (turn.bytes ++ back.1)) (length (head_line turn)) (length (head_line turn)) 0 refl (omega arith)
        ∙ ap (λ (k : ℕ). get_or (10 ∷ (turn.bytes ++ back.1)) k 0) nothing

    position_there : position_or_len is_lf (bytes ++ more) ≡ length (head_line turn)
    position_there =
        ap (λ (l : List ℕ). position_or_len is_lf l) apart ∙ position_at is_lf (head_line turn) 10 (turn.bytes ++ back.1) (head_quiet turn back.0) refl

    long : length bytes + length more ≡ length (head_line turn) + (1 + (length turn.bytes + length back.1))
    long = omega (
      arith,
      ap length apart,
      length-append bytes more,
      length-append (head_line turn) (10 ∷ (turn.bytes
          ++ back.1)),
      length-append turn.bytes back.1,
    )

    -- no line feed stands among enough of them
    unfed : (most : ℕ) → length (head_line turn) < most → most ≤ length bytes → ((k : ℕ) → k < most → get_or bytes k 0 ≡ 10 → ⊥) → ⊥
    unfed most low within none =
        none (length (head_line turn)) low (sym (get_or_append_left bytes more 0 (length (head_line turn)) (omega (arith, low, within))) ∙ feed_there)

    -- the first line feed is the head's
    line_is : (at : ℕ) → FeedAt bytes at → (at ≡ length (head_line turn)) × (take at bytes ≡ head_line turn)
    line_is at feed =
        let same : at ≡ length (head_line turn) = sym (feed_on at feed) ∙ position_there in (
          same,
          sym (take-append-le at bytes more (omega (arith, feed.within))) ∙ ap (λ (l : List ℕ). take at l) apart
              ∙ take_at (head_line turn) (10 ∷ (turn.bytes ++ back.1)) at (sym same),
        )

module _ (bytes : List ℕ) where
  -- no line feed is where a head could have one
  pub broken_long : (most : ℕ) → most ≡ 74 → most ≤ length bytes → ((k : ℕ) → k < most → get_or bytes k 0 ≡ 10 → ⊥)
      → (more : List ℕ) → first_turn (bytes ++ more) ≡ None
  broken_long most is within none more =
      no_other (first_turn (bytes ++ more)) (λ turn got. unfed bytes more turn got most (omega (arith, head_short bytes more turn got, is)) within none)

  pub broken_head : (at : ℕ) → FeedAt bytes at → head_of (take at bytes) ≡ None → (more : List ℕ) → first_turn (bytes ++ more) ≡ None
  broken_head at feed none more =
      no_other (first_turn (bytes ++ more)) (λ turn got.
      let clash = sym none ∙ ap head_of (line_is bytes more turn got at feed).1 ∙ head_some bytes more turn got in cc)

  bare : (turn : Turn) → first_turn bytes ≡ Some turn → first_turn (bytes ++ []) ≡ Some turn
  bare turn got = ap first_turn (append-nil bytes) ∙ got

  pub part_unfed : (most : ℕ) → most ≡ length bytes → ((k : ℕ) → k < most → get_or bytes k 0 ≡ 10 → ⊥) → first_turn bytes ≡ None
  part_unfed most is none =
      no_other (first_turn bytes) (λ turn got. unfed bytes [] turn (bare turn got) most
      (omega (arith, is, long bytes [] turn (bare turn got))) (omega (arith, is)) none)

  pub part_short : (at : ℕ) → FeedAt bytes at → (head : Head) → head_of (take at bytes) ≡ Some head → length bytes < at + 1 + head.count
      → (first_turn bytes ≡ None) × (length bytes ≤ 74 + most_turn_bytes)
  part_short at feed head is low =
      let shape = head_shape (take at bytes) head is in
      let back_is = head_back (take at bytes) head is in (
        no_other (first_turn bytes) (λ turn got.
            let l = line_is bytes [] turn (bare turn got) at feed in
            let same : head ≡ record { user = turn.user; count = length turn.bytes } =
            some_is head (record { user = turn.user; count = length turn.bytes }) (sym is ∙ ap head_of l.1 ∙ head_some bytes [] turn (bare turn got)) in
            let count : head.count ≡ length turn.bytes = ap (λ (h : Head). h.count) same in
            absurd (omega (arith, low, count, l.0, long bytes [] turn (bare turn got)))),
        omega (arith, low, back_is.2, shape.1, length-take at bytes, feed.within),
      )

  pub whole_is : (at : ℕ) → FeedAt bytes at → (user : List ℕ) (count : ℕ) → head_of (take at bytes) ≡ Some (record { user = user; count = count })
      → (rest : List ℕ) → rest ≡ drop (at + 1) bytes → count ≤ length rest
      → (first_turn bytes ≡ Some (record { user = user; bytes = take count rest })) × (at + 1 + count ≡ length (frame
      (record { user = user; bytes = take count rest })))
  whole_is at feed user count is rest rest_is enough =
      let head : Head = record { user = user; count = count } in
      let back_is = head_back (take at bytes) head is in
      let turn : Turn = record { user = user; bytes = take count rest } in
      let size : length (take count rest) ≡ count = omega (arith, enough, length-take count rest) in
      let is_turn : IsTurn turn = record { named = back_is.1; short = omega (arith, size, back_is.2) } in
      let line : take at bytes ≡ head_line turn = back_is.0 ∙ ap (λ (n : ℕ). user ++ 32 ∷ decimal n) (sym size) in
      let place : position_or_len is_lf bytes ≡ at = ap (λ (l : List ℕ). position_or_len is_lf l) (sym (append-nil bytes)) ∙ feed_on bytes [] at feed in
      let inside : position_or_len is_lf bytes < length bytes = omega (arith, place, feed.within) in
      let split : bytes ≡ take at bytes ++ (10 ∷ rest) =
      split_at_first is_lf bytes 0 inside
      ∙ ap (λ (b : ℕ). before_first is_lf bytes ++ (b ∷ after_first is_lf bytes)) (feed_back _ (passes_at_first is_lf bytes 0 inside))
      ∙ ap (λ (k : ℕ). take k bytes ++ (10 ∷ drop (k + 1) bytes)) place
      ∙ ap (λ (l : List ℕ). take at bytes ++ (10 ∷ l)) (sym rest_is) in
      let whole : bytes ≡ frame turn ++ drop count rest =
      split ∙ ap (λ (l : List ℕ). l ++ (10 ∷ rest)) line
      ∙ ap (λ (l : List ℕ). head_line turn ++ (10 ∷ l)) (sym (take-append-drop count rest)) ∙ sym (frame_is turn (drop count rest)) in (
        ap first_turn whole ∙ frame_read turn (drop count rest) is_turn,
        omega (
          arith,
          size,
          ap length line,
          length-take at bytes,
          feed.within,
          length-append user (32 ∷ decimal (length turn.bytes)),
          length-append user (32 ∷ (decimal (length turn.bytes) ++ 10 ∷ turn.bytes)),
          length-append (decimal (length turn.bytes)) (10 ∷ turn.bytes),
        ),
      )
