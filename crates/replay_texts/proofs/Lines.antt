-- A line of quiet bytes and a message after them is cut out as it is.
use Rattle.std.proofs.Common.{◌≡◌, ℕ, zero, suc, ◌-◌, ◌<◌, ◌≤◌, ◌&&◌, ◌||◌, not, List, [], ◌∷◌, ◌++◌, length, Bool, true, false, nat_lt, nat_eq, refl}
use Rattle.std.proofs.Common.{subst, ◌∙◌, arith, length-append, append-nil}
use Rattle.std.specs.List.{list_all, list_any, All}
use Rattle.std.specs.Str.{IsAscii}
use Rattle.std.proofs.lemmas.Bool.{ltb-true, and_parts}
use Rattle.std.proofs.lemmas.List.Elements.{All-nil, All-cons, All-append}
use Rattle.std.proofs.lemmas.Str.{IsUtf8-append, IsUtf8-from_ascii}
use Rattle.host_port.specs.Limits.{line_limit}
use Rattle.host_port.specs.Cut.{is_lf, without_cr}
use Rattle.replay_texts.specs.Texts.{ends_with_return, is_quiet, MessagesStand}

pub neither : (a b : Bool) → (a || b) ≡ false → (a ≡ false) × (b ≡ false)
neither true b e = cc
neither false b e = (refl, e)

pub is_not : (a : Bool) → not a ≡ true → a ≡ false
is_not true e = cc
is_not false e = refl

-- what a quiet byte is
record Quiet (b : ℕ) : Type 0 where
  ascii : b < 128
  no_feed : is_lf b ≡ false
  no_return : nat_eq b 13 ≡ false

quiet : (b : ℕ) → is_quiet b ≡ true → Quiet b
quiet b is =
    let k = and_parts (nat_lt b 128 && not (nat_eq b 10)) (not (nat_eq b 13)) is in
    let m = and_parts (nat_lt b 128) (not (nat_eq b 10)) k.0 in
    record { ascii = ltb-true _ _ m.0; no_feed = is_not _ m.1; no_return = is_not _ k.1 }

ascii : (bytes : List ℕ) → list_all is_quiet bytes ≡ true → IsAscii bytes
ascii [] all i = omega arith
ascii (b ∷ bytes) all zero = (quiet b (and_parts (is_quiet b) (list_all is_quiet bytes) all).0).ascii
ascii (b ∷ bytes) all (suc i) = ascii bytes (and_parts (is_quiet b) (list_all is_quiet bytes) all).1 i

no_feeds : (bytes : List ℕ) → list_all is_quiet bytes ≡ true → All (λ b. is_lf b ≡ false) bytes
no_feeds [] all = All-nil (λ b. is_lf b ≡ false)
no_feeds (b ∷ bytes) all =
    let k = and_parts (is_quiet b) (list_all is_quiet bytes) all in
    All-cons (λ b. is_lf b ≡ false) b bytes (quiet b k.0).no_feed (no_feeds bytes k.1)

-- the last of such bytes is no carriage return
no_return_at_end : (bytes : List ℕ) → list_all is_quiet bytes ≡ true → ends_with_return bytes ≡ false
no_return_at_end [] all = refl
no_return_at_end (b ∷ []) all = (quiet b (and_parts (is_quiet b) true all).0).no_return
no_return_at_end (b ∷ c ∷ bytes) all =
    let k = and_parts (is_quiet b) (list_all is_quiet (c ∷ bytes)) all in
    same_end b c bytes ∙ no_return_at_end (c ∷ bytes) k.1
  where
    same_end : (b c : ℕ) (bytes : List ℕ) → ends_with_return (b ∷ c ∷ bytes) ≡ ends_with_return (c ∷ bytes)
    same_end b c bytes = let at : length (b ∷ c ∷ bytes) - 1 ≡ suc (length (c ∷ bytes) - 1) = omega arith in rw at refl

pub whole_from : (bytes : List ℕ) → ends_with_return bytes ≡ false → without_cr bytes ≡ bytes
whole_from bytes none = rw none refl

no_feeds_from : (bytes : List ℕ) → list_any is_lf bytes ≡ false → All (λ b. is_lf b ≡ false) bytes
no_feeds_from [] none = All-nil (λ b. is_lf b ≡ false)
no_feeds_from (b ∷ bytes) none = let k = neither (is_lf b) (list_any is_lf bytes) none in All-cons (λ b. is_lf b ≡ false) b bytes k.0 (no_feeds_from bytes k.1)

-- what stands last after something stands last
last_of : (front : List ℕ) (b : ℕ) (bytes : List ℕ) → ends_with_return (front ++ (b ∷ bytes)) ≡ ends_with_return (b ∷ bytes)
last_of [] b bytes = refl
last_of (c ∷ front) b bytes =
    let at : length (c ∷ (front ++ (b ∷ bytes))) - 1 ≡ suc (length (front ++ (b ∷ bytes)) - 1) = omega (arith, length-append front (b ∷ bytes)) in
    rw at (last_of front b bytes)

pub messages_stand : MessagesStand
messages_stand front [] quiet utf8 whole short =
    rw append-nil (record {
      utf8 = IsUtf8-from_ascii front (ascii front quiet);
      no_feed = no_feeds front quiet;
      whole = whole_from front (no_return_at_end front quiet);
      short = subst (λ (xs : List ℕ). length xs ≤ line_limit) (append-nil front) short;
    })
messages_stand front (b ∷ message) quiet utf8 whole short =
    let k = neither (list_any is_lf (b ∷ message)) (ends_with_return (b ∷ message)) whole in
    record {
      utf8 = IsUtf8-append front (b ∷ message) (IsUtf8-from_ascii front (ascii front quiet)) utf8;
      no_feed = All-append (λ b. is_lf b ≡ false) front (b ∷ message) (no_feeds front quiet) (no_feeds_from (b ∷ message) k.0);
      whole = whole_from (front ++ (b ∷ message)) (last_of front b message ∙ k.1);
      short = short;
    }
