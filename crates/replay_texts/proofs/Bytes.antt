-- The encoding of a package is bytes: numbers below 256.
use Rattle.std.proofs.Common.{◌≡◌, ℕ, zero, suc, ◌+◌, ◌%◌, ◌/◌, cond, ◌<◌, ◌&&◌, List, [], ◌∷◌, ◌++◌, length, Bool, true, false, nat_lt, nat_le, refl}
use Rattle.std.proofs.Common.{subst, ◌∙◌, arith, Option, Some, None}
use Rattle.std.specs.List.{list_all, All}
use Rattle.std.specs.Int.{w64, cast_unsigned}
use Rattle.std.specs.Str.{IsUtf8}
use Rattle.std.specs.Char.{is_ascii_alphabetic}
use Rattle.std.proofs.lemmas.Bool.{ltb-true, lt-ltb, and_parts}
use Rattle.std.proofs.lemmas.List.Folds.{list_all-append}
use Rattle.std.proofs.lemmas.List.Elements.{All-head, All-tail}
use lib.Utf8.{scalar, scalars, encode, encodes}
use Rattle.byte_form.specs.Fields.{u32_encoding, u64_encoding, text_encoding}
use Rattle.ecore_meta.specs.declared.meta.Value.{Value}
use Rattle.ecore_meta.specs.declared.meta.Value.TheVariants.{Text, Flag, Whole, Literal}
use Rattle.model_state.specs.Ident.{is_id_byte, most_id_bytes, begins_as_id}
use Rattle.model_state.specs.Names.{is_name_byte, most_name_rest}
use Rattle.model_state.specs.declared.step.Place.{Place}
use Rattle.model_state.specs.declared.step.Place.TheVariants.{Root, Inside}
use Rattle.model_state.specs.declared.step.Step.{Step}
use Rattle.model_state.specs.declared.step.Step.TheVariants.{Put, Ins, Del, Shift, Link, Unlink, RerankRow, New, Gone, Move, RerankPlace}
use Rattle.model_state.specs.declared.operation.OpKind.{OpKind}
use Rattle.model_state.specs.declared.operation.OpKind.TheVariants as kinds
use Rattle.model_state.specs.declared.operation.Operation.{Operation}
use Rattle.model_state.specs.declared.operation.Operation.TheVariants.{Simple, Composite}
use Rattle.op_form.specs.Lists.{option_encoding, items_encoding, list_encoding}
use Rattle.op_form.specs.Values.{value_encoding, place_encoding}
use Rattle.op_form.specs.Steps.{step_encoding}
use Rattle.op_form.specs.Packages.{kind_encoding, operation_encoding, package_encoding}
use Rattle.op_form.specs.Formed.{IsU64, IsIdText, IsNameText, IsGiven, IsList, IsValue, IsPlace, IsStep, IsOperation, IsPackage, is_package}
use Rattle.op_form.proofs.FormedLaws.{is_package_is}
use Rattle.hex.specs.Hex.{IsBytes}

abbrev pub is_byte : ℕ → Bool
is_byte b = nat_lt b 256

-- each of them is a byte
pub record AreBytes (bytes : List ℕ) : Type 0 where
  pub all : list_all is_byte bytes ≡ true

joined : {xs ys : List ℕ} → AreBytes xs → AreBytes ys → AreBytes (xs ++ ys)
joined {xs = xs} {ys = ys} a b = record { all = list_all-append is_byte xs ys ∙ rw (a.all, b.all) refl }

after : {ys : List ℕ} (x : ℕ) → is_byte x ≡ true → AreBytes ys → AreBytes (x ∷ ys)
after x is b = record { all = rw (is, b.all) refl }

weaker : (p q : ℕ → Bool) → ((b : ℕ) → p b ≡ true → q b ≡ true) → (xs : List ℕ) → list_all p xs ≡ true → list_all q xs ≡ true
weaker p q goes [] all = refl
weaker p q goes (x ∷ xs) all = let k = and_parts (p x) (list_all p xs) all in rw (goes x k.0, weaker p q goes xs k.1) refl

-- ---- numbers
low : (n : ℕ) → is_byte (n % 256) ≡ true
low n = lt-ltb _ _ (omega arith)

four : (a b c d : ℕ) → AreBytes (a % 256 ∷ b % 256 ∷ c % 256 ∷ d % 256 ∷ [])
four a b c d = after _ (low a) (after _ (low b) (after _ (low c) (after _ (low d) (record { all = refl }))))

eight : (a b c d e f g h : ℕ) → AreBytes (a % 256 ∷ b % 256 ∷ c % 256 ∷ d % 256 ∷ e % 256 ∷ f % 256 ∷ g % 256 ∷ h % 256 ∷ [])
eight a b c d e f g h = after _ (low a) (after _ (low b) (after _ (low c) (after _ (low d) (four e f g h))))

u32_bytes : (n : ℕ) → AreBytes (u32_encoding n)
unfolding u32_encoding
u32_bytes n = four _ _ _ _

u64_bytes : (n : ℕ) → AreBytes (u64_encoding n)
unfolding u64_encoding
u64_bytes n = eight _ _ _ _ _ _ _ _

-- ---- texts
pick : (t : Bool) (xs ys : List ℕ) → (t ≡ true → list_all is_byte xs ≡ true) → (t ≡ false → list_all is_byte ys ≡ true) → list_all is_byte (cond t xs ys) ≡ true
pick true xs ys h g = h refl
pick false xs ys h g = g refl

all_one : (a : ℕ) → a < 256 → list_all is_byte (a ∷ []) ≡ true
all_one a x = rw (lt-ltb a 256 x) refl

all_two : (a b : ℕ) → a < 256 → b < 256 → list_all is_byte (a ∷ b ∷ []) ≡ true
all_two a b x y = rw (lt-ltb a 256 x) (all_one b y)

all_three : (a b c : ℕ) → a < 256 → b < 256 → c < 256 → list_all is_byte (a ∷ b ∷ c ∷ []) ≡ true
all_three a b c x y z = rw (lt-ltb a 256 x) (all_two b c y z)

all_four : (a b c d : ℕ) → a < 256 → b < 256 → c < 256 → d < 256 → list_all is_byte (a ∷ b ∷ c ∷ d ∷ []) ≡ true
all_four a b c d x y z w = rw (lt-ltb a 256 x) (all_three b c d y z w)

below_top : (c : ℕ) → scalar c ≡ true → c < 1114112
below_top c is = grind (arith, is)

char_bytes : (c : ℕ) → scalar c ≡ true → list_all is_byte (encode c) ≡ true
unfolding encode
char_bytes c is =
    let top : c < 1114112 = below_top c is in
    pick (nat_lt c 128) (c ∷ []) _ (λ t. let h = ltb-true c 128 t in all_one c (omega arith))
    (λ _. pick (nat_lt c 2048) ((192 + c / 64) ∷ (128 + c % 64) ∷ []) _
    (λ t. let h = ltb-true c 2048 t in all_two (192 + c / 64) (128 + c % 64) (omega arith) (omega arith))
    (λ _. pick (nat_lt c 65536) ((224 + c / 4096) ∷ (128 + c / 64 % 64) ∷ (128 + c % 64) ∷ [])
    ((240 + c / 262144) ∷ (128 + c / 4096 % 64) ∷ (128 + c / 64 % 64) ∷ (128 + c % 64) ∷ [])
    (λ t. let h = ltb-true c 65536 t in all_three (224 + c / 4096) (128 + c / 64 % 64) (128 + c % 64) (omega arith) (omega arith) (omega arith))
    (λ _. all_four (240 + c / 262144) (128 + c / 4096 % 64) (128 + c / 64 % 64) (128 + c % 64) (omega arith) (omega arith) (omega arith) (omega arith))))

chars_bytes : (cs : List ℕ) → scalars cs ≡ true → list_all is_byte (encodes cs) ≡ true
chars_bytes [] is = refl
chars_bytes (c ∷ cs) is =
    let k = and_parts (scalar c) (scalars cs) is in list_all-append is_byte (encode c) (encodes cs) ∙ rw (char_bytes c k.0, chars_bytes cs k.1) refl

utf8_bytes : (text : List ℕ) → IsUtf8 text → AreBytes text
utf8_bytes text u = record { all = subst (λ (xs : List ℕ). list_all is_byte xs ≡ true) u.1.1 (chars_bytes u.0 u.1.0) }

id_byte : (b : ℕ) → is_id_byte b ≡ true → is_byte b ≡ true
id_byte b is = grind (arith, is)

name_byte : (b : ℕ) → is_name_byte b ≡ true → is_byte b ≡ true
name_byte b is = grind (arith, is)

letter_byte : (b : ℕ) → is_ascii_alphabetic b ≡ true → is_byte b ≡ true
letter_byte b is = grind (arith, is)

id_bytes : (text : List ℕ) → IsIdText text → AreBytes text
id_bytes text is =
    let k = and_parts (nat_le 1 (length text) && nat_le (length text) most_id_bytes && list_all is_id_byte text) (begins_as_id text) is in
    let m = and_parts (nat_le 1 (length text) && nat_le (length text) most_id_bytes) (list_all is_id_byte text) k.0 in
    record { all = weaker is_id_byte is_byte id_byte text m.1 }

name_bytes : (text : List ℕ) → IsNameText text → AreBytes text
name_bytes [] is = absurd cc
name_bytes (b ∷ bs) is =
    let k = and_parts (is_ascii_alphabetic b && nat_le (length bs) most_name_rest) (list_all is_name_byte bs) is in
    let m = and_parts (is_ascii_alphabetic b) (nat_le (length bs) most_name_rest) k.0 in
    after b (letter_byte b m.0) (record { all = weaker is_name_byte is_byte name_byte bs k.1 })

text_bytes : {text : List ℕ} → AreBytes text → AreBytes (text_encoding text)
unfolding text_encoding
text_bytes {text = text} is = joined (u32_bytes (length text)) is

-- ---- lists
items_bytes : {X : Type 0} (Is : X → Type 0) (form : X → List ℕ) → ((x : X) → Is x → AreBytes (form x)) → (xs : List X) → All Is xs
    → AreBytes (items_encoding form xs)
items_bytes Is form each [] all = record { all = refl }
items_bytes Is form each (x ∷ xs) all = joined (each x (All-head Is x xs all)) (items_bytes Is form each xs (All-tail Is x xs all))

list_bytes : {X : Type 0} (Is : X → Type 0) (form : X → List ℕ) → ((x : X) → Is x → AreBytes (form x)) → (xs : List X) → All Is xs
    → AreBytes (list_encoding form xs)
list_bytes Is form each xs all = joined (u32_bytes (length xs)) (items_bytes Is form each xs all)

option_bytes : {X : Type 0} (Is : X → Type 0) (form : X → List ℕ) → ((x : X) → Is x → AreBytes (form x)) → (o : Option X) → IsGiven Is o
    → AreBytes (option_encoding form o)
option_bytes Is form each None is = record { all = refl }
option_bytes Is form each (Some x) is = after 1 refl (each x is)

-- ---- values, places, steps
value_bytes : (v : Value) → IsValue v → AreBytes (value_encoding v)
unfolding value_encoding
value_bytes (Text t) is = after 1 refl (text_bytes (utf8_bytes t is.1))
value_bytes (Flag true) is = record { all = refl }
value_bytes (Flag false) is = record { all = refl }
value_bytes (Whole z) is = after 3 refl (u64_bytes (cast_unsigned w64 z))
value_bytes (Literal n) is = after 4 refl (u32_bytes n)

given_value : (o : Option Value) → IsGiven IsValue o → AreBytes (option_encoding value_encoding o)
given_value o is = option_bytes IsValue value_encoding value_bytes o is

given_rank : (o : Option ℕ) → IsGiven IsU64 o → AreBytes (option_encoding u64_encoding o)
given_rank o is = option_bytes IsU64 u64_encoding (λ n _. u64_bytes n) o is

id_text : (text : List ℕ) → IsIdText text → AreBytes (text_encoding text)
id_text text is = text_bytes (id_bytes text is)

place_bytes : (p : Place) → IsPlace p → AreBytes (place_encoding p)
unfolding place_encoding
place_bytes Root is = record { all = refl }
place_bytes (Inside parent feature) is = after 1 refl (joined (id_text parent is.0) (u32_bytes feature))

ids_bytes : (ids : List (List ℕ)) → IsList IsIdText ids → AreBytes (list_encoding text_encoding ids)
ids_bytes ids is = list_bytes IsIdText text_encoding id_text ids is.1

step_bytes : (s : Step) → IsStep s → AreBytes (step_encoding s)
unfolding step_encoding
step_bytes (Put e f old new) is = after 1 refl (joined (id_text e is.0) (joined (u32_bytes f) (joined (given_value old is.1.1.0) (given_value new is.1.1.1))))
step_bytes (Ins e f at v) is = after 2 refl (joined (id_text e is.0) (joined (u32_bytes f) (joined (u32_bytes at) (value_bytes v is.1.1.1))))
step_bytes (Del e f at v) is = after 3 refl (joined (id_text e is.0) (joined (u32_bytes f) (joined (u32_bytes at) (value_bytes v is.1.1.1))))
step_bytes (Shift e f from to) is = after 4 refl (joined (id_text e is.0) (joined (u32_bytes f) (joined (u32_bytes from) (u32_bytes to))))
step_bytes (Link a f ra b rb) is =
    after 5 refl (joined (id_text a is.0) (joined (u32_bytes f) (joined (u64_bytes ra) (joined (id_text b is.1.1.1.0) (given_rank rb is.1.1.1.1)))))
step_bytes (Unlink a f ra b rb) is =
    after 6 refl (joined (id_text a is.0) (joined (u32_bytes f) (joined (u64_bytes ra) (joined (id_text b is.1.1.1.0) (given_rank rb is.1.1.1.1)))))
step_bytes (RerankRow a f b old new) is =
    after 7 refl (joined (id_text a is.0) (joined (u32_bytes f) (joined (id_text b is.1.1.0) (joined (u64_bytes old) (u64_bytes new)))))
step_bytes (New e class place rank) is =
    after 8 refl (joined (id_text e is.0) (joined (u32_bytes class) (joined (place_bytes place is.1.1.0) (u64_bytes rank))))
step_bytes (Gone e class place rank) is =
    after 9 refl (joined (id_text e is.0) (joined (u32_bytes class) (joined (place_bytes place is.1.1.0) (u64_bytes rank))))
step_bytes (Move e from from_rank to to_rank above_from above_to) is =
    after 10 refl (joined (id_text e is.0) (joined (place_bytes from is.1.0)
    (joined (u64_bytes from_rank) (joined (place_bytes to is.1.1.1.0)
    (joined (u64_bytes to_rank) (joined (ids_bytes above_from is.1.1.1.1.1.0) (ids_bytes above_to is.1.1.1.1.1.1)))))))
step_bytes (RerankPlace e old new) is = after 11 refl (joined (id_text e is.0) (joined (u64_bytes old) (u64_bytes new)))

-- ---- operations and packages
kind_bytes : (kind : OpKind) → AreBytes (kind_encoding kind)
kind_bytes kinds.Create = record { all = refl }
kind_bytes kinds.Delete = record { all = refl }
kind_bytes kinds.Attribute = record { all = refl }
kind_bytes kinds.ManyAttribute = record { all = refl }
kind_bytes kinds.Reference = record { all = refl }
kind_bytes kinds.Move = record { all = refl }

operation_bytes : (o : Operation) → IsOperation o → AreBytes (operation_encoding o)
unfolding operation_encoding
operation_bytes (Simple kind steps) is = after 1 refl (joined (kind_bytes kind) (list_bytes IsStep step_encoding step_bytes steps is.1.2))
operation_bytes (Composite name steps) is = after 2 refl (joined (text_bytes (name_bytes name is.0)) (list_bytes IsStep step_encoding step_bytes steps is.1.2))

all_package_bytes : (operations : List Operation) → IsPackage operations → AreBytes (package_encoding operations)
unfolding package_encoding
all_package_bytes operations is = list_bytes IsOperation operation_encoding operation_bytes operations is.1

at_each : (bytes : List ℕ) → list_all is_byte bytes ≡ true → IsBytes bytes
at_each [] all i = omega arith
at_each (b ∷ bytes) all zero = ltb-true _ _ (and_parts (is_byte b) (list_all is_byte bytes) all).0
at_each (b ∷ bytes) all (suc i) = at_each bytes (and_parts (is_byte b) (list_all is_byte bytes) all).1 i

pub package_bytes : (operations : List Operation) → is_package operations ≡ true → IsBytes (package_encoding operations)
package_bytes operations is = at_each (package_encoding operations) (all_package_bytes operations (is_package_is operations is)).all
