-- Reading a word that stands first, and what stands first where a word was read.
use Rattle.std.proofs.Common.{◌≡◌, ℕ, suc, ◌+◌, ◌<◌, ◌≤◌, List, [], ◌∷◌, ◌++◌, length, refl, sym, ap, subst, ◌∙◌, true, false, Bool, ◌||◌, cond}
use Rattle.std.proofs.Common.{Option, None, Some, Ok, Err, arith, nat_eq, nat_lt, length-append, length-take}
use Rattle.std.specs.List.{list_any, before_first, after_first, position_or_len}
use Rattle.std.proofs.lemmas.Bool.{leb-true}
use Rattle.std.proofs.lemmas.List.Sums.{passes_at_first, split_at_first}
use Rattle.std.proofs.lemmas.List.{append-nil, take_all}
use Rattle.std.proofs.Math.Seq.{take-append_seam, drop-append-add}
use Rattle.script_lang.specs.Left.{Left}
use Rattle.script_lang.specs.Words.{is_space, word_at, word_from}
use Rattle.script_lang.specs.Spelling.{IsWord}

-- what stands after a word: nothing, or a space and the rest
abbrev pub behind : Option (List ℕ) → List ℕ
behind None = []
behind (Some rest) = 32 ∷ rest

pub neither : (a b : Bool) → (a || b) ≡ false → (a ≡ false) × (b ≡ false)
neither true b e = cc
neither false b e = (refl, e)

none_first : (next : Option (List ℕ)) → position_or_len is_space (behind next) ≡ 0
none_first None = refl
none_first (Some rest) = refl

-- the first space stands right after the word
pub space_behind : (word : List ℕ) → list_any is_space word ≡ false → (next : Option (List ℕ)) → position_or_len is_space (word ++ behind next) ≡ length word
space_behind [] none next = none_first next
space_behind (c ∷ cs) none next =
    let k = neither (is_space c) (list_any is_space cs) none in
    rw k.0 (omega (arith, space_behind cs k.1 next))

not_empty : (n : ℕ) → 0 < n → nat_eq n 0 ≡ false
not_empty n some = grind (arith, some)

not_less : (n m : ℕ) → m ≤ n → nat_lt n m ≡ false
not_less n m le = grind (arith, le)

is_less : (n m : ℕ) → n < m → nat_lt n m ≡ true
is_less n m lt = grind (arith, lt)

module _ (word : List ℕ) (is : IsWord word) where
  before : (next : Option (List ℕ)) → before_first is_space (word ++ behind next) ≡ word
  before next = rw (space_behind word is.1 next) (take-append_seam word (behind next))

  pub word_last : (column : ℕ) → word_at (record { rest = Some word; column = column }) ≡ Ok (word, record { rest = None; column = column + length word + 1 })
  unfolding word_at
  word_last column =
      let whole : before_first is_space word ≡ word = ap (before_first is_space) (sym (append-nil word)) ∙ before None in
      rw whole (rw (not_empty (length word) is.0) (rw (not_less (length word) (length word) (omega arith)) refl))

  pub word_first : (rest : List ℕ) (column : ℕ)
      → word_at (record { rest = Some (word ++ (32 ∷ rest)); column = column }) ≡ Ok
      (word, record { rest = Some rest; column = column + length word + 1 })
  unfolding word_at
  word_first rest column =
      let after : after_first is_space (word ++ (32 ∷ rest)) ≡ rest = rw (space_behind word is.1 (Some rest)) (drop-append-add word (32 ∷ rest) 1) in
      rw (before (Some rest))
      (rw (not_empty (length word) is.0)
      (rw (is_less (length word) (length (word ++ (32 ∷ rest))) (omega (arith, length-append word (32 ∷ rest)))) (rw after refl)))

-- no space stands before the first
no_space_before : (rest : List ℕ) → list_any is_space (before_first is_space rest) ≡ false
no_space_before [] = refl
no_space_before (c ∷ cs) = by (is_space c) refl (no_space_before cs)
  where
    by : (b : Bool) → is_space c ≡ b → list_any is_space (before_first is_space cs) ≡ false → list_any is_space (before_first is_space (c ∷ cs)) ≡ false
    by true e more = rw e refl
    by false e more =
        let next : 1 + position_or_len is_space cs ≡ suc (position_or_len is_space cs) = omega arith in
        rw e (rw next (rw e more))

lt_from : (n m : ℕ) → nat_lt n m ≡ true → n < m
lt_from n m e = leb-true (suc n) m e

le_from : (n m : ℕ) → nat_lt n m ≡ false → m ≤ n
le_from n m e = grind (arith, e)

is_32 : (c : ℕ) → is_space c ≡ true → c ≡ 32
is_32 c e = grind (arith, e)

-- a line is its first word and what stands after it
parts : (rest : List ℕ) (t : Bool) → nat_lt (length (before_first is_space rest)) (length rest) ≡ t
    → rest ≡ before_first is_space rest ++ behind (cond t (Some (after_first is_space rest)) None)
parts rest true less =
    let n : position_or_len is_space rest < length rest = omega (arith, lt_from _ _ less, length-take (position_or_len is_space rest) rest) in
    split_at_first is_space rest 32 n ∙ ap (λ b. before_first is_space rest ++ (b ∷ after_first is_space rest)) (is_32 _ (passes_at_first is_space rest 32 n))
parts rest false more =
    let all : length rest ≤ position_or_len is_space rest = omega (arith, le_from _ _ more, length-take (position_or_len is_space rest) rest) in
    sym (append-nil (before_first is_space rest) ∙ take_all (position_or_len is_space rest) rest all)

taken : {X : Type 0} (b : Bool) (c : ℕ) (x y : X) → cond b (Err c) (Ok x) ≡ Ok y → (b ≡ false) × (x ≡ y)
taken true c x y e = cc
taken false c x y e = (refl, cc)

some_from : (n : ℕ) → nat_eq n 0 ≡ false → 0 < n
some_from n e = grind (arith, e)

word_back_from : (left : Option (List ℕ)) (column : ℕ) (word : List ℕ) (next : Left) → word_from left column ≡ Ok (word, next)
    → IsWord word × (left ≡ Some (word ++ behind next.rest))
word_back_from None column word next e = cc
word_back_from (Some rest) column word next e =
    let w : List ℕ = before_first is_space rest in
    let t = taken (nat_eq (length w) 0) column (
      w,
      record {
        rest = cond (nat_lt (length w) (length rest)) (Some (after_first is_space rest)) None;
        column = column + length w + 1;
      },
    ) (word, next) e in
    let same : w ≡ word = ap (λ p. p.0) t.1 in
    let more : cond (nat_lt (length w) (length rest)) (Some (after_first is_space rest)) None ≡ next.rest = ap (λ p. p.1.rest) t.1 in (
      subst IsWord same (some_from (length w) t.0, no_space_before rest),
      ap Some (parts rest (nat_lt (length w) (length rest)) refl ∙ (λ i. same i ++ behind (more i))),
    )

-- where a word was read, it stands first
pub word_back : (left : Left) (word : List ℕ) (next : Left) → word_at left ≡ Ok (word, next) → IsWord word × (left.rest ≡ Some (word ++ behind next.rest))
unfolding word_at
word_back left word next e = word_back_from left.rest left.column word next e
