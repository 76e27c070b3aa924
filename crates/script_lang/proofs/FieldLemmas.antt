-- Each kind of word: read where it stands first, and standing first where it was read.
use Rattle.std.proofs.Common.{◌≡◌, ℕ, ◌+◌, ◌≤◌, ◌^◌, List, [], ◌∷◌, ◌++◌, length, refl, sym, ap, subst, ◌∙◌, true, false, Bool, cond, Option, None}
use Rattle.std.proofs.Common.{Some, Result, Ok, arith, nat_eq, nat_le, codes}
use Rattle.std.specs.Fmt.{decimal}
use Rattle.std.proofs.lemmas.Bool.{leb-true, le-leb, eqb-true}
use Rattle.std.proofs.lemmas.List.{append-nil}
use Rattle.script_lang.specs.Left.{Left}
use Rattle.script_lang.specs.Words.{◌>>=◌, word_at, number_of, number_at, not_below, optional_at, optional_number_at, rest_at, rest_from}
use Rattle.finite_maps.specs.Equal.{text_eq}
use Rattle.script_lang.specs.Words.{optional_rest_at, optional_rest_from, index_or_end, index_from, index_or_end_at, number_below, moment_at, end_at}
use Rattle.script_lang.specs.Spelling.{IsWord, IsNumber, IsMoment, IsText, IsOptionalText, IsOptionalNumber, IsOptionalWord, optional_word}
use Rattle.script_lang.specs.Spelling.{index_word, index_if_any}
use Rattle.script_lang.proofs.Numbers.{both, number_decimal, number_back, decimal_word}
use Rattle.script_lang.proofs.WordLemmas.{behind, word_last, word_back}
use Rattle.script_lang.proofs.Readings.{Kind, named_kind, joined, ok_is, some_is, reached}

-- a number of at least that
abbrev pub IsFrom : ℕ → ℕ → Type 0
IsFrom least n = (least ≤ n) × IsNumber n

at_least : (least : ℕ) (o : Option ℕ) (n : ℕ) → not_below least o ≡ Some n → (o ≡ Some n) × (least ≤ n)
at_least least None n e = cc
at_least least (Some m) n e = by (nat_le least m) refl e
  where
    by : (b : Bool) → nat_le least m ≡ b → cond b (Some m) None ≡ Some n → (Some m ≡ Some n) × (least ≤ n)
    by true t e = let is : m ≡ n = cc in (ap Some is, omega (arith, is, leb-true least m t))
    by false t e = cc

number_named : (least n : ℕ) → IsFrom least n → not_below least (number_of (decimal n)) ≡ Some n
number_named least n is = rw (number_decimal (2 ^ 32) (omega arith) n is.1) (rw (le-leb least n is.0) refl)

number_only : (least : ℕ) (word : List ℕ) (n : ℕ) → not_below least (number_of word) ≡ Some n → IsFrom least n × (word ≡ decimal n)
number_only least word n e =
    let a = at_least least (number_of word) n e in
    let d = number_back (2 ^ 32) (omega arith) word n a.0 in
    ((a.1, d.1), d.0)

pub number_kind : (least : ℕ) → Kind (number_at least) (IsFrom least) decimal
unfolding number_at
number_kind least = named_kind (λ word. not_below least (number_of word)) (IsFrom least) decimal (λ n is. decimal_word n (omega (arith, is.1)))
    (number_named least) (number_only least)

pub index_kind : Kind (number_at 0) IsNumber decimal
index_kind = record {
  read = λ n is rest column. (number_kind 0).read n (omega arith, is) rest column;
  told = λ left n next e. let t = (number_kind 0).told left n next e in (t.0.1, t.1);
}

-- a number of 64 bits
pub moment_kind : Kind moment_at IsMoment decimal
unfolding moment_at
moment_kind = named_kind (number_below (2 ^ 64)) IsMoment decimal (λ n is. decimal_word n is) (λ n is. number_decimal (2 ^ 64) (omega arith) n is)
    (λ word n e. let d = number_back (2 ^ 64) (omega arith) word n e in (d.1, d.0))

-- two texts that are found equal are
pub same_word : (xs ys : List ℕ) → text_eq xs ys ≡ true → xs ≡ ys
same_word [] [] e = refl
same_word [] (y ∷ ys) e = cc
same_word (x ∷ xs) [] e = cc
same_word (x ∷ xs) (y ∷ ys) e =
    let k = both (nat_eq x y) (text_eq xs ys) e in
    λ i. eqb-true x y k.0 i ∷ same_word xs ys k.1 i

-- an index, or `end`
index_is_word : (at : Option ℕ) → IsOptionalNumber at → IsWord (index_word at)
index_is_word None is = (omega arith, refl)
index_is_word (Some n) is = decimal_word n (omega (arith, is))

end_no_number : number_of (codes "end") ≡ None
unfolding number_below
end_no_number = refl

index_named : (at : Option ℕ) → IsOptionalNumber at → index_or_end (index_word at) ≡ Some at
index_named None is = rw end_no_number refl
index_named (Some n) is = rw (number_decimal (2 ^ 32) (omega arith) n is) refl

end_only : (word : List ℕ) (at : Option ℕ) (b : Bool) → text_eq word (codes "end") ≡ b → cond b (Some None) None ≡ Some at
    → IsOptionalNumber at × (word ≡ index_word at)
end_only word at true t e = let same = some_is None at e in (subst IsOptionalNumber same tt, same_word word (codes "end") t ∙ ap index_word same)
end_only word at false t e = cc

index_only : (word : List ℕ) (o at : Option ℕ) → number_of word ≡ o → index_from o word ≡ Some at → IsOptionalNumber at × (word ≡ index_word at)
index_only word None at is e = end_only word at (text_eq word (codes "end")) refl e
index_only word (Some n) at is e =
    let d = number_back (2 ^ 32) (omega arith) word n is in
    let same = some_is (Some n) at e in
    (subst IsOptionalNumber same d.1, d.0 ∙ ap index_word same)

pub index_or_end_kind : Kind index_or_end_at IsOptionalNumber index_word
unfolding index_or_end_at
index_or_end_kind = named_kind index_or_end IsOptionalNumber index_word index_is_word index_named (λ word at e. index_only word (number_of word) at refl e)

-- the end of the line
pub end_tells : {B : Type 0} (left : Left) (f : Unit {0} → Result B ℕ) (y : B) → (end_at left >>= f) ≡ Ok y → (left.rest ≡ joined []) × (f tt ≡ Ok y)
end_tells left f y e = by left.rest left.column e
  where
    by : (rest : Option (List ℕ)) (column : ℕ) → (end_at (record { rest = rest; column = column }) >>= f) ≡ Ok y → (rest ≡ None) × (f tt ≡ Ok y)
    by None column e = (refl, e)
    by (Some rest) column e = cc

-- a text up to the end of the line
pub text_in : (text : List ℕ) → IsText text → (column : ℕ) → rest_at (record { rest = joined (text ∷ []); column = column }) ≡ Ok text
unfolding rest_at
text_in text is column = rw (append-nil text) (by text is)
  where
    by : (text : List ℕ) → IsText text → rest_from (Some text) column ≡ Ok text
    by [] is = absurd (omega (arith, is))
    by (b ∷ bs) is = refl

text_out : (left : Left) (text : List ℕ) → rest_at left ≡ Ok text → IsText text × (left.rest ≡ joined (text ∷ []))
unfolding rest_at
text_out left text e = by left.rest left.column e
  where
    by : (rest : Option (List ℕ)) (column : ℕ) → rest_from rest column ≡ Ok text → IsText text × (rest ≡ joined (text ∷ []))
    by None column e = cc
    by (Some []) column e = cc
    by (Some (b ∷ bs)) column e =
        let same = ok_is (b ∷ bs) text e in
        (subst IsText same (omega arith), ap Some same ∙ ap Some (sym (append-nil text)))

pub text_tells : {B G : Type 0} (left : Left) (f : List ℕ → Result B ℕ) (y : B) → (rest_at left >>= f) ≡ Ok y
    → ((text : List ℕ) → IsText text → left.rest ≡ joined (text ∷ []) → f text ≡ Ok y → G) → G
text_tells left f y e on =
    let k = reached (rest_at left) f y e in
    let t = text_out left k.0 k.1 in
    on k.0 t.0 t.1 k.2

-- a text up to the end of the line, where there is one
pub optional_text_in : (text : Option (List ℕ)) → IsOptionalText text → (column : ℕ)
    → optional_rest_at (record { rest = joined (optional_word text); column = column }) ≡ Ok text
unfolding optional_rest_at
optional_text_in None is column = refl
optional_text_in (Some text) is column = rw (text_in text is column) refl

optional_text_out : (left : Left) (text : Option (List ℕ)) → optional_rest_at left ≡ Ok text → IsOptionalText text × (left.rest ≡ joined (optional_word text))
unfolding optional_rest_at
optional_text_out left text e = by left.rest refl e
  where
    by : (rest : Option (List ℕ)) → left.rest ≡ rest → optional_rest_from rest left ≡ Ok text → IsOptionalText text × (left.rest ≡ joined (optional_word text))
    by None is e =
        let none = ok_is None text e in
        (subst IsOptionalText none tt, is ∙ ap (λ o. joined (optional_word o)) none)
    by (Some rest) is e =
        let k = reached (rest_at left) (λ text. Ok (Some text)) text e in
        let t = text_out left k.0 k.1 in
        let same = ok_is (Some k.0) text k.2 in
        (subst IsOptionalText same t.0, t.1 ∙ ap (λ o. joined (optional_word o)) same)

pub optional_text_tells : {B G : Type 0} (left : Left) (f : Option (List ℕ) → Result B ℕ) (y : B) → (optional_rest_at left >>= f) ≡ Ok y
    → ((text : Option (List ℕ)) → IsOptionalText text → left.rest ≡ joined (optional_word text) → f text ≡ Ok y → G) → G
optional_text_tells left f y e on =
    let k = reached (optional_rest_at left) f y e in
    let t = optional_text_out left k.0 k.1 in
    on k.0 t.0 t.1 k.2

-- a last word, where there is one
pub optional_in : (id : Option (List ℕ)) → IsOptionalWord id → (column : ℕ)
    → (next : Left) × (optional_at (record { rest = joined (optional_word id); column = column }) ≡ Ok (id, next)) × (next.rest ≡ None)
unfolding optional_at
optional_in None is column = (record { rest = None; column = column }, refl, refl)
optional_in (Some word) is column = (record { rest = None; column = column + length word + 1 }, rw (append-nil word) (rw (word_last word is column) refl), refl)

pub optional_out : (left : Left) (id : Option (List ℕ)) (next : Left) → optional_at left ≡ Ok (id, next) → next.rest ≡ None
    → IsOptionalWord id × (left.rest ≡ joined (optional_word id))
unfolding optional_at
optional_out left id next e = by left.rest left.column e
  where
    by : (rest : Option (List ℕ)) (column : ℕ) → optional_at (record { rest = rest; column = column }) ≡ Ok (id, next) → next.rest ≡ None
        → IsOptionalWord id × (rest ≡ joined (optional_word id))
    by None column e ends =
        let pair = ok_is (None, record { rest = None; column = column }) (id, next) e in
        let none = ap (λ p. p.0) pair in
        (subst IsOptionalWord none tt, ap (λ o. joined (optional_word o)) none)
    by (Some rest) column e ends =
        let k = reached (word_at (record { rest = Some rest; column = column })) (λ word. Ok (Some word.0, word.1)) (id, next) e in
        let w = word_back (record { rest = Some rest; column = column }) k.0.0 k.0.1 k.1 in
        let pair = ok_is (Some k.0.0, k.0.1) (id, next) k.2 in
        let word : Some k.0.0 ≡ id = ap (λ p. p.0) pair in
        let last : k.0.1.rest ≡ None = ap (λ p. p.1.rest) pair ∙ ends in (
          subst IsOptionalWord word w.0,
          w.1 ∙ (λ i. Some (k.0.0 ++ behind (last i))) ∙ ap (λ o. joined (optional_word o)) word,
        )

-- a last index, where there is one
pub last_index_in : (at : Option ℕ) → IsOptionalNumber at → (column : ℕ)
    → (next : Left) × (optional_number_at (record { rest = joined (index_if_any at); column = column }) ≡ Ok (at, next)) × (next.rest ≡ None)
unfolding optional_number_at
last_index_in None is column = (record { rest = None; column = column }, refl, refl)
last_index_in (Some n) is column =
    let k = index_kind.read n is None column in
    (record { rest = None; column = k.0 }, rw k.1 refl, refl)

pub last_index_out : (left : Left) (at : Option ℕ) (next : Left) → optional_number_at left ≡ Ok (at, next) → next.rest ≡ None
    → IsOptionalNumber at × (left.rest ≡ joined (index_if_any at))
unfolding optional_number_at
last_index_out left at next e = by left.rest left.column e
  where
    by : (rest : Option (List ℕ)) (column : ℕ) → optional_number_at (record { rest = rest; column = column }) ≡ Ok (at, next) → next.rest ≡ None
        → IsOptionalNumber at × (rest ≡ joined (index_if_any at))
    by None column e ends =
        let pair = ok_is (None, record { rest = None; column = column }) (at, next) e in
        let none = ap (λ p. p.0) pair in
        (subst IsOptionalNumber none tt, ap (λ o. joined (index_if_any o)) none)
    by (Some rest) column e ends =
        let k = reached (number_at 0 (record { rest = Some rest; column = column })) (λ number. Ok (Some number.0, number.1)) (at, next) e in
        let t = index_kind.told (record { rest = Some rest; column = column }) k.0.0 k.0.1 k.1 in
        let pair = ok_is (Some k.0.0, k.0.1) (at, next) k.2 in
        let number : Some k.0.0 ≡ at = ap (λ p. p.0) pair in
        let last : k.0.1.rest ≡ None = ap (λ p. p.1.rest) pair ∙ ends in (
          subst IsOptionalNumber number t.0,
          t.1 ∙ (λ i. Some (decimal k.0.0 ++ behind (last i))) ∙ ap (λ o. joined (index_if_any o)) number,
        )
