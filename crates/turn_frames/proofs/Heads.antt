-- Heads and frames.
use Rattle.std.proofs.Common.{◌≡◌, ℕ, zero, suc, ◌+◌, ◌-◌, ◌<◌, ◌≤◌, ◌^◌, Bool, true, false}
use Rattle.std.proofs.Common.{cond, ◌&&◌, List, [], ◌∷◌, ◌++◌, length, take, drop, get_or}
use Rattle.std.proofs.Common.{⊎_elim, None, Option, Some, refl, sym, ◌∙◌, ap, subst, arith, append_assoc, length-append}
use Rattle.std.specs.Prelude.{nat_le}
use Rattle.std.specs.List.{list_any, list_all, before_first, after_first, position_or_len}
use Rattle.std.specs.Option.{option_map, option_and_then}
use Rattle.std.specs.Char.{is_ascii_digit, is_ascii_alphabetic}
use Rattle.std.specs.Fmt.{decimal}
use Rattle.std.proofs.lemmas.Bool.{leb-true, le-leb, cases_lt}
use Rattle.std.proofs.lemmas.Bool.Decides.{nat_tests}
use Rattle.std.proofs.lemmas.List.{length-take, take-append-drop, take_at}
use Rattle.std.proofs.lemmas.Fmt.{digits_decimal, decimal_nonempty}
use Rattle.host_port.specs.Cut.{is_lf, is_ended, raw_line}
use Rattle.model_state.specs.Names.{is_name, is_name_byte, most_name_rest}
use Rattle.script_lang.specs.Words.{is_space, number_below}
use Rattle.turn_frames.specs.Turns.{Turn, IsTurn, Head, frame, most_turn_bytes, headed, head_of, turn_of, first_turn}
use Rattle.script_lang.proofs.Numbers.{numerals, number_decimal, number_back, both, chosen}
use Rattle.turn_frames.proofs.Cuts.{neither, before_at, after_at, cut_at, position_within}

-- ---- bytes that no head has
quiet_byte : (b : ℕ) → is_name_byte b ≡ true → (is_space b ≡ false) × (is_lf b ≡ false)
quiet_byte b is = (grind (arith, nat_tests, is), grind (arith, nat_tests, is))

quiet_first : (b : ℕ) → is_ascii_alphabetic b ≡ true → (is_space b ≡ false) × (is_lf b ≡ false)
quiet_first b is = (grind (arith, nat_tests, is), grind (arith, nat_tests, is))

quiet_bytes : (bs : List ℕ) → list_all is_name_byte bs ≡ true → (list_any is_space bs ≡ false) × (list_any is_lf bs ≡ false)
quiet_bytes [] all = (refl, refl)
quiet_bytes (b ∷ bs) all =
    let k = both (is_name_byte b) (list_all is_name_byte bs) all in
    let one = quiet_byte b k.0 in
    let more = quiet_bytes bs k.1 in
    (rw one.0 more.0, rw one.1 more.1)

-- a name has no space and no line feed
pub quiet_name : (name : List ℕ) → is_name name ≡ true → (list_any is_space name ≡ false) × (list_any is_lf name ≡ false)
quiet_name [] is = cc
quiet_name (b ∷ bs) is =
    let k = both (is_ascii_alphabetic b && nat_le (length bs) most_name_rest) (list_all is_name_byte bs) is in
    let m = both (is_ascii_alphabetic b) (nat_le (length bs) most_name_rest) k.0 in
    let one = quiet_first b m.0 in
    let more = quiet_bytes bs k.1 in
    (rw one.0 more.0, rw one.1 more.1)

no_feed : (c : ℕ) → is_ascii_digit c ≡ true → is_lf c ≡ false
no_feed c is = grind (arith, nat_tests, is)

quiet_digits : (ds : List ℕ) → list_all is_ascii_digit ds ≡ true → list_any is_lf ds ≡ false
quiet_digits [] all = refl
quiet_digits (c ∷ cs) all = let k = both (is_ascii_digit c) (list_all is_ascii_digit cs) all in rw (no_feed c k.0) (quiet_digits cs k.1)

pub any_append : {X : Type 0} (p : X → Bool) (xs ys : List X) → list_any p xs ≡ false → list_any p ys ≡ false → list_any p (xs ++ ys) ≡ false
any_append p [] ys one other = other
any_append p (x ∷ xs) ys one other =
    let k = neither (p x) (list_any p xs) one in
    rw k.0 (any_append p xs ys k.1 other)

-- ---- a frame, taken apart
-- the line of a turn's head
abbrev pub head_line : Turn → List ℕ
head_line turn = turn.user ++ 32 ∷ decimal (length turn.bytes)

pub frame_is : (turn : Turn) (rest : List ℕ) → frame turn ++ rest ≡ head_line turn ++ (10 ∷ (turn.bytes ++ rest))
frame_is turn rest =
    append_assoc turn.user (32 ∷ (decimal (length turn.bytes) ++ 10 ∷ turn.bytes)) rest
    ∙ ap (λ (l : List ℕ). turn.user ++ (32 ∷ l)) (append_assoc (decimal (length turn.bytes)) (10 ∷ turn.bytes) rest)
    ∙ sym (append_assoc turn.user (32 ∷ decimal (length turn.bytes)) (10 ∷ (turn.bytes ++ rest)))

fits_word : (n : ℕ) → n ≤ most_turn_bytes → n < 2 ^ 64
fits_word n short = omega (arith, short)

pub head_quiet : (turn : Turn) → IsTurn turn → list_any is_lf (head_line turn) ≡ false
head_quiet turn is =
    any_append is_lf turn.user (32 ∷ decimal (length turn.bytes)) (quiet_name turn.user is.named).1
    (quiet_digits (decimal (length turn.bytes)) (digits_decimal numerals (length turn.bytes) (fits_word (length turn.bytes) is.short)))

pub head_read : (turn : Turn) → IsTurn turn → head_of (head_line turn) ≡ Some (record { user = turn.user; count = length turn.bytes })
head_read turn is =
    let quiet = (quiet_name turn.user is.named).0 in
    let user = before_at is_space turn.user 32 (decimal (length turn.bytes)) quiet refl in
    let word = after_at is_space turn.user 32 (decimal (length turn.bytes)) quiet refl in
    let number = number_decimal (most_turn_bytes + 1) (omega arith) (length turn.bytes) (omega (arith, is.short)) in
    ap (λ (u : List ℕ). headed u (number_below (most_turn_bytes + 1) (after_first is_space (head_line turn)))) user
    ∙ ap (λ (w : List ℕ). headed turn.user (number_below (most_turn_bytes + 1) w)) word
    ∙ ap (λ (n : Option ℕ). headed turn.user n) number
    ∙ ap (λ (b : Bool). cond b (Some (record { user = turn.user; count = length turn.bytes })) None) is.named

turn_read : (turn : Turn) (rest : List ℕ) → turn_of (turn.bytes ++ rest) (record { user = turn.user; count = length turn.bytes }) ≡ Some turn
turn_read turn rest =
    let enough : nat_le (length turn.bytes) (length (turn.bytes ++ rest)) ≡ true =
    le-leb (length turn.bytes) (length (turn.bytes ++ rest)) (omega (arith, length-append turn.bytes rest)) in
    rw enough (ap (λ (l : List ℕ). Some (record { user = turn.user; bytes = l })) (take_at turn.bytes rest (length turn.bytes) refl))

-- ended_at: a line feed follows the head
ended_at : (line more : List ℕ) → list_any is_lf line ≡ false → is_ended (line ++ (10 ∷ more)) ≡ true
ended_at line more quiet =
    le-leb _ _ (omega (arith, ap length (before_at is_lf line 10 more quiet refl), length-append line (10 ∷ more)))

-- a frame is read as its turn, whatever comes after it
pub frame_read : (turn : Turn) (rest : List ℕ) → IsTurn turn → first_turn (frame turn ++ rest) ≡ Some turn
unfolding first_turn
frame_read turn rest is =
    let quiet = head_quiet turn is in
    let more = turn.bytes ++ rest in
    ap first_turn (frame_is turn rest)
    ∙ ap (λ (b : Bool). cond b (option_and_then (turn_of (after_first is_lf (head_line turn ++ (10 ∷ more)))) (head_of (raw_line (head_line turn ++
    (10 ∷ more))))) None)
    (ended_at (head_line turn) more quiet)
    ∙ ap (λ (l : List ℕ). option_and_then (turn_of l) (head_of (raw_line (head_line turn ++ (10 ∷ more))))) (after_at is_lf (head_line turn) 10 more quiet refl)
    ∙ ap (λ (l : List ℕ). option_and_then (turn_of more) (head_of l)) (before_at is_lf (head_line turn) 10 more quiet refl)
    ∙ ap (λ (h : Option Head). option_and_then (turn_of more) h) (head_read turn is)
    ∙ turn_read turn rest

-- ---- and back
-- a choice that is true
opened : {X : Type 0} (b : Bool) (x : Option X) (y : X) → cond b x None ≡ Some y → (b ≡ true) × (x ≡ Some y)
opened true x y e = (refl, e)
opened false x y e = cc

and_then : {X Y : Type 0} (f : X → Option Y) (o : Option X) (y : Y) → option_and_then f o ≡ Some y → (x : X) × (o ≡ Some x) × (f x ≡ Some y)
and_then f None y e = cc
and_then f (Some x) y e = (x, refl, e)

mapped : {X Y : Type 0} (f : X → Y) (o : Option X) (y : Y) → option_map f o ≡ Some y → (x : X) × (o ≡ Some x) × (f x ≡ y)
mapped f None y e = cc
mapped f (Some x) y e = (x, refl, cc)

feed_is : (b : ℕ) → is_lf b ≡ true → b ≡ 10
feed_is b is = grind (arith, nat_tests, is)

space_is : (b : ℕ) → is_space b ≡ true → b ≡ 32
space_is b is = grind (arith, nat_tests, is)

-- no words stand after the first space of a line without one
pub after_none : (xs : List ℕ) → length xs ≤ length (before_first is_space xs) → after_first is_space xs ≡ []
after_none xs whole =
    let same : position_or_len is_space xs ≡ length xs =
    omega (arith, whole, length-take (position_or_len is_space xs) xs, position_within is_space xs) in
    drop_all xs (position_or_len is_space xs + 1) (omega (arith, same))
  where
    drop_all : (xs : List ℕ) (n : ℕ) → length xs ≤ n → drop n xs ≡ []
    drop_all [] zero all = refl
    drop_all [] (suc n) all = refl
    drop_all (x ∷ xs) zero all = absurd (omega (arith, all))
    drop_all (x ∷ xs) (suc n) all = drop_all xs n (omega (arith, all))

-- a line that is a head is a name, a space and a count
pub head_back : (line : List ℕ) (head : Head) → head_of line ≡ Some head
    → (line ≡ head.user ++ 32 ∷ decimal head.count) × (is_name head.user ≡ true) × (head.count ≤ most_turn_bytes)
head_back line head is =
    let user = before_first is_space line in
    let word = after_first is_space line in
    let k = opened (is_name user) (option_map (λ n. record { user = user; count = n }) (number_below (most_turn_bytes + 1) word)) head is in
    let m = mapped (λ (n : ℕ). record { user = user; count = n }) (number_below (most_turn_bytes + 1) word) head k.1 in
    let n = number_back (most_turn_bytes + 1) (omega arith) word m.0 m.1 in
    let within : length user < length line = ⊎_elim (λ (h : length user < length line). h)
    (λ (h : length line ≤ length user). absurd (omega (arith, ap length (sym n.0 ∙ after_none line h), decimal_nonempty m.0 (omega (arith, n.1)))))
    (cases_lt (length user) (length line)) in
    let c = cut_at is_space line 0 within in
    let whole : line ≡ user ++ 32 ∷ decimal m.0 =
    c.0 ∙ ap (λ (b : ℕ). user ++ (b ∷ word)) (space_is (get_or line (position_or_len is_space line) 0) c.1) ∙ ap (λ (l : List ℕ). user ++ 32 ∷ l) n.0 in
    subst (λ (h : Head). (line ≡ h.user ++ 32 ∷ decimal h.count) × (is_name h.user ≡ true) × (h.count ≤ most_turn_bytes)) m.2
    (whole, k.0, omega (arith, n.1))

-- what a turn was read of begins with its frame
pub frame_back : (bytes : List ℕ) (turn : Turn) → first_turn bytes ≡ Some turn → IsTurn turn × (rest : List ℕ) × (bytes ≡ frame turn ++ rest)
unfolding first_turn
frame_back bytes turn is =
    let k = opened (is_ended bytes) (option_and_then (turn_of (after_first is_lf bytes)) (head_of (raw_line bytes))) turn is in
    let m = and_then (turn_of (after_first is_lf bytes)) (head_of (raw_line bytes)) turn k.1 in
    let h = head_back (raw_line bytes) m.0 m.1 in
    let after = after_first is_lf bytes in
    let count = m.0.count in
    let t = chosen (nat_le count (length after)) (record { user = m.0.user; bytes = take count after }) turn m.2 in
    let enough : count ≤ length after = leb-true count (length after) t.0 in
    let long : length (take count after) ≡ count = omega (arith, enough, length-take count after) in
    let within : length (raw_line bytes) < length bytes = leb-true _ _ k.0 in
    let c = cut_at is_lf bytes 0 within in
    let bytes_are : bytes ≡ (m.0.user ++ 32 ∷ decimal count) ++ (10 ∷ after) =
    c.0 ∙ ap (λ (b : ℕ). raw_line bytes ++ (b ∷ after)) (feed_is (get_or bytes (position_or_len is_lf bytes) 0) c.1)
    ∙ ap (λ (l : List ℕ). l ++ (10 ∷ after)) h.0 in
    let this : Turn = record { user = m.0.user; bytes = take count after } in
    let there : bytes ≡ frame this ++ drop count after =
    bytes_are ∙ ap (λ (l : List ℕ). (m.0.user ++ 32 ∷ decimal count) ++ (10 ∷ l)) (sym (take-append-drop count after))
    ∙ ap (λ (n : ℕ). (m.0.user ++ 32 ∷ decimal n) ++ (10 ∷ (take count after ++ drop count after))) (sym long)
    ∙ sym (frame_is this (drop count after)) in
    subst (λ (u : Turn). IsTurn u × (rest : List ℕ) × (bytes ≡ frame u ++ rest)) t.1
    (record { named = h.1; short = omega (arith, long, h.2) }, drop count after, there)
