-- Reading and encoding of each field.
use Rattle.std.proofs.Common.{◌≡◌, ℕ, zero, suc, ◌+◌, ◌^◌, ◌<◌, ◌≤◌, Bool, true, false, cond, nat_lt, List, [], ◌∷◌, ◌++◌, length, take, drop, Result}
use Rattle.std.proofs.Common.{Ok, Err, refl, sym, ap, subst, ◌∙◌, arith}
use Rattle.std.specs.Int.{Width, w32, w64, byte_len, from_be_bytes, to_be_bytes}
use Rattle.std.specs.Str.{is_utf8}
use Rattle.std.proofs.lemmas.Bool.{le-ltb}
use Rattle.std.proofs.lemmas.List.{take_at, drop_at, length-append, length-take-le, take-append-drop, get_or-drop}
use Rattle.std.proofs.lemmas.Nat.{from_be_bytes-to_be_bytes_4, from_be_bytes-to_be_bytes_8, be_bytes_4, be_bytes_8}
use Rattle.std.proofs.lemmas.Str.{is_utf8-from_IsUtf8, IsUtf8-from_is_utf8}
use Rattle.byte_form.specs.declared.reader.ReadFault.TheVariants.{Short, BadText}
use Rattle.byte_form.specs.Rest.{Rest}
use Rattle.byte_form.specs.Fields.{◌>>=◌, number_at, text_at, byte_at, byte_from, past, u32_encoding, u64_encoding, text_encoding}
use Rattle.byte_form.specs.Laws.{at, IsReadAgain, IsSpelledSo, NoneBeginsAnother, StoodThere, AreBytes, IsBelow, IsShortText, byte_encoding}

-- a reading that went through both its parts
pub reached : {A B E : Type 0} (r : Result A E) (f : A → Result B E) (y : B) → (r >>= f) ≡ Ok y → (x : A) × (r ≡ Ok x) × (f x ≡ Ok y)
reached (Ok x) f y e = (x, refl, e)
reached (Err c) f y e = cc

pub ok_is : {X E : Type 0} (x y : X) → ◌≡◌ {A = Result X E} (Ok x) (Ok y) → x ≡ y
ok_is x y e = cc

-- a choice whose value is Ok went the other way than to its fault
pub not_fault : {X E : Type 0} (b : Bool) (fault : E) (r : Result X E) (y : X) → cond b (Err fault) r ≡ Ok y → (b ≡ false) × (r ≡ Ok y)
not_fault true fault r y e = cc
not_fault false fault r y e = (refl, e)

-- a choice whose value is Ok went the way of its value
pub is_chosen : {X E : Type 0} (b : Bool) (fault : E) (x y : X) → cond b (Ok x) (Err fault) ≡ Ok y → (b ≡ true) × (x ≡ y)
is_chosen true fault x y e = (refl, cc)
is_chosen false fault x y e = cc

-- a part of bytes is bytes
pub are_bytes-take : (n : ℕ) (bs : List ℕ) → AreBytes bs → AreBytes (take n bs)
are_bytes-take zero bs bytes i = omega arith
are_bytes-take (suc n) [] bytes i = omega arith
are_bytes-take (suc n) (b ∷ bs) bytes zero = bytes 0
are_bytes-take (suc n) (b ∷ bs) bytes (suc i) = are_bytes-take n bs (λ j. bytes (suc j)) i

pub are_bytes-drop : (n : ℕ) (bs : List ℕ) → AreBytes bs → AreBytes (drop n bs)
are_bytes-drop n bs bytes i = rw (get_or-drop n bs i 0) (bytes (n + i))

pub not_less : (a b : ℕ) → nat_lt a b ≡ false → b ≤ a
not_less a b e = grind (arith, e)

-- what is read again whatever stands after it begins nothing else of its kind
pub apart : {X E : Type 0} (Is : X → Type 0) (form : X → List ℕ) (read : Rest → Result (X × Rest) E) → IsReadAgain Is form read → NoneBeginsAnother Is form
apart Is form read again x y is_x is_y rest more e =
    ap (λ p. p.0) (ok_is (x, at rest (0 + length (form x))) (y, at more (0 + length (form y)))
    (sym (again x is_x rest 0) ∙ ap (λ bytes. read (at bytes 0)) e ∙ again y is_y more 0))

pub record IsWide (w : Width) (limit : ℕ) : Type 0 where
  pub len : (n : ℕ) → length (to_be_bytes w n) ≡ byte_len w
  pub again : (n : ℕ) → n < limit → from_be_bytes w (to_be_bytes w n) ≡ n
  pub spelled : (bs : List ℕ) → length bs ≡ byte_len w → AreBytes bs → to_be_bytes w (from_be_bytes w bs) ≡ bs
  pub below : (bs : List ℕ) → length bs ≡ byte_len w → AreBytes bs → from_be_bytes w bs < limit

pub wide32 : IsWide w32 (2 ^ 32)
wide32 = record {
  len = λ n. refl;
  again = λ n lt. from_be_bytes-to_be_bytes_4 n lt;
  spelled =
      λ bs l b. be_bytes_4 bs (from_be_bytes w32 bs) l b refl;
  below = λ bs l b. omega (arith, b 0, b 1, b 2, b 3);
}

pub wide64 : IsWide w64 (2 ^ 64)
wide64 = record {
  len = λ n. refl;
  again = λ n lt. from_be_bytes-to_be_bytes_8 n lt;
  spelled =
      λ bs l b. be_bytes_8 bs (from_be_bytes w64 bs) l b refl;
  below = λ bs l b. omega (arith, b 0, b 1, b 2, b 3, b 4, b 5, b 6, b 7);
}

pub byte_again : IsReadAgain (IsBelow 256) byte_encoding byte_at
unfolding byte_at
byte_again n is rest offset = refl

-- the same of what is equal
pub stands : {X : Type 0} (Is : X → Type 0) (form : X → List ℕ) (before made after : Rest) (y x : X) → ◌≡◌ {A = X × Rest} (y, made) (x, after)
    → StoodThere Is form before made y → StoodThere Is form before after x
stands Is form before made after y x pair s = subst (λ p. StoodThere Is form before p.1 p.0) pair s

pub byte_spelled : IsSpelledSo (IsBelow 256) byte_encoding byte_at
unfolding byte_at
byte_spelled before bytes x after e = by before.bytes before.offset bytes e
  where
    by : (bs : List ℕ) (offset : ℕ) → AreBytes bs → byte_from offset bs ≡ Ok (x, after) → StoodThere (IsBelow 256) byte_encoding (at bs offset) after x
    by [] offset bytes e = cc
    by (b ∷ bs) offset bytes e =
        stands (IsBelow 256) byte_encoding (at (b ∷ bs) offset) (at bs (offset + 1)) after b x (ok_is (b, at bs (offset + 1)) (x, after) e)
        (record { is = bytes 0; bytes = refl; offset = refl })

module _ (w : Width) (limit : ℕ) (wide : IsWide w limit) where
  pub number_again : IsReadAgain (IsBelow limit) (to_be_bytes w) (number_at w)
  unfolding number_at
  number_again n lt rest offset =
      let len = wide.len n in
      let long : nat_lt (length (to_be_bytes w n ++ rest)) (byte_len w) ≡ false = le-ltb _ _ (omega (arith, length-append (to_be_bytes w n) rest)) in
      rw (long, take_at (to_be_bytes w n) rest (byte_len w) len, drop_at (to_be_bytes w n) rest (byte_len w) len, wide.again n lt, len) refl

  pub number_spelled : IsSpelledSo (IsBelow limit) (to_be_bytes w) (number_at w)
  unfolding number_at
  number_spelled before bytes n after e =
      let k = not_fault (nat_lt (length before.bytes) (byte_len w)) (Short before.offset) _ (n, after) e in
      let long = not_less (length before.bytes) (byte_len w) k.0 in
      let pair = ok_is (from_be_bytes w (take (byte_len w) before.bytes), past before (byte_len w)) (n, after) k.1 in
      let front = take (byte_len w) before.bytes in
      let len : length front ≡ byte_len w = length-take-le (byte_len w) before.bytes long in
      let of_bytes : AreBytes front = are_bytes-take (byte_len w) before.bytes bytes in
      let again = wide.spelled front len of_bytes in
      stands (IsBelow limit) (to_be_bytes w) before (past before (byte_len w)) after (from_be_bytes w front) n pair
      (record {
        is = wide.below front len of_bytes;
        bytes = sym (take-append-drop (byte_len w) before.bytes) ∙ ap (λ bs. bs ++ drop (byte_len w) before.bytes) (sym again);
        offset = ap (λ k. before.offset + k) (sym (ap length again ∙ len));
      })

pub u32_again : IsReadAgain (IsBelow (2 ^ 32)) u32_encoding (number_at w32)
unfolding u32_encoding
u32_again = number_again w32 (2 ^ 32) wide32

pub u32_spelled : IsSpelledSo (IsBelow (2 ^ 32)) u32_encoding (number_at w32)
unfolding u32_encoding
u32_spelled = number_spelled w32 (2 ^ 32) wide32

pub u64_again : IsReadAgain (IsBelow (2 ^ 64)) u64_encoding (number_at w64)
unfolding u64_encoding
u64_again = number_again w64 (2 ^ 64) wide64

pub u64_spelled : IsSpelledSo (IsBelow (2 ^ 64)) u64_encoding (number_at w64)
unfolding u64_encoding
u64_spelled = number_spelled w64 (2 ^ 64) wide64

pub text_again : IsReadAgain IsShortText text_encoding text_at
unfolding text_at text_encoding u32_encoding
text_again text is rest offset =
    let long : nat_lt (length (text ++ rest)) (length text) ≡ false = le-ltb _ _ (omega (arith, length-append text rest)) in
    let utf8 : is_utf8 text ≡ true = is_utf8-from_IsUtf8 text is.1 in
    rw (
      number_again w32 (2 ^ 32) wide32 (length text) is.0 (text ++ rest) offset,
      long,
      take_at text rest (length text) refl,
      drop_at text rest (length text) refl,
      utf8,
    )
    (ap (λ k. Ok (text, at rest k)) (omega arith))

pub text_spelled : IsSpelledSo IsShortText text_encoding text_at
unfolding text_at text_encoding u32_encoding
text_spelled before bytes text after e =
    let k = reached (number_at w32 before)
    (λ n. cond (nat_lt (length n.1.bytes) n.0) (Err (Short before.offset))
    (cond (is_utf8 (take n.0 n.1.bytes)) (Ok (take n.0 n.1.bytes, past n.1 n.0)) (Err (BadText before.offset)))) (text, after) e in
    let n = k.0.0 in
    let rest = k.0.1 in
    let s = number_spelled w32 (2 ^ 32) wide32 before bytes n rest k.1 in
    let l = not_fault (nat_lt (length rest.bytes) n) (Short before.offset) _ (text, after) k.2 in
    let u = is_chosen (is_utf8 (take n rest.bytes)) (BadText before.offset) (take n rest.bytes, past rest n) (text, after) l.1 in
    let len : length (take n rest.bytes) ≡ n = length-take-le n rest.bytes (not_less (length rest.bytes) n l.0) in
    stands IsShortText text_encoding before (past rest n) after (take n rest.bytes) text u.1
    (record {
      is = (omega (arith, len, s.is), IsUtf8-from_is_utf8 (take n rest.bytes) u.0);
      bytes = s.bytes ∙ ap (λ bs. to_be_bytes w32 n ++ bs) (sym (take-append-drop n rest.bytes))
          ∙ ap (λ m. to_be_bytes w32 m ++ (take n rest.bytes ++ drop n rest.bytes)) (sym len);
      offset = omega (arith, s.offset, len);
    })
