-- Reading the words of a line one after another, whatever each of them stands for.
use Rattle.std.proofs.Common.{◌≡◌, ℕ, ◌+◌, List, [], ◌∷◌, ◌++◌, length, refl, sym, ap, subst, ◌∙◌, Option, None, Some, Result, Ok, Err}
use Rattle.std.proofs.lemmas.List.{append-nil}
use Rattle.script_lang.specs.Left.{Left}
use Rattle.script_lang.specs.Words.{◌>>=◌, word_at, found_at}
use Rattle.script_lang.specs.declared.command.Command.{Command}
use Rattle.script_lang.specs.Spelling.{IsWord, IsCommand, IsLineOf, spaced}
use Rattle.script_lang.proofs.WordLemmas.{behind, word_first, word_last, word_back}

pub ok_is : {X : Type 0} (x y : X) → ◌≡◌ {A = Result X ℕ} (Ok x) (Ok y) → x ≡ y
ok_is x y e = cc

pub some_is : {X : Type 0} (x y : X) → Some x ≡ Some y → x ≡ y
some_is x y e = cc

-- a reading that went through both its parts
pub reached : {A B : Type 0} (r : Result A ℕ) (f : A → Result B ℕ) (y : B) → (r >>= f) ≡ Ok y → (x : A) × (r ≡ Ok x) × (f x ≡ Ok y)
reached (Ok x) f y e = (x, refl, e)
reached (Err c) f y e = cc

-- what is left of a line where these words are
abbrev pub joined : List (List ℕ) → Option (List ℕ)
joined [] = None
joined (word ∷ words) = Some (word ++ behind (joined words))

pub spaced_joined : (word : List ℕ) (words : List (List ℕ)) → Some (spaced (word ∷ words)) ≡ joined (word ∷ words)
spaced_joined word [] = ap Some (sym (append-nil word))
spaced_joined word (next ∷ words) = ap (λ r. Some (word ++ behind r)) (spaced_joined next words)

-- a kind of word: a value of it is read where its word stands first, and where a value is read its word stands first
pub record Kind {X : Type 0} (at : Left → Result (X × Left) ℕ) (Is : X → Type 0) (word : X → List ℕ) : Type 0 where
  pub read : (x : X) → Is x → (rest : Option (List ℕ)) (column : ℕ)
      → (past : ℕ) × (at (record { rest = Some (word x ++ behind rest); column = column }) ≡ Ok (x, record { rest = rest; column = past }))
  pub told : (left : Left) (x : X) (next : Left) → at left ≡ Ok (x, next) → Is x × (left.rest ≡ Some (word x ++ behind next.rest))

-- the words that are left are this one and those after it
abbrev pub Front : Left → List ℕ → Left → Type 0
Front left word next = (words : List (List ℕ)) → next.rest ≡ joined words → left.rest ≡ joined (word ∷ words)

module _ {X B : Type 0} {at : Left → Result (X × Left) ℕ} {Is : X → Type 0} {word : X → List ℕ} (kind : Kind at Is word) where
  -- reading goes on after a value's word
  pub reads : (x : X) → Is x → (words : List (List ℕ)) (column : ℕ) (f : X × Left → Result B ℕ) (y : B)
      → ((past : ℕ) → f (x, record { rest = joined words; column = past }) ≡ Ok y)
      → (at (record { rest = joined (word x ∷ words); column = column }) >>= f) ≡ Ok y
  reads x is words column f y on = let k = kind.read x is (joined words) column in rw k.1 (on k.0)

  -- where reading went on, a value's word stands first
  pub tells : {G : Type 0} (left : Left) (f : X × Left → Result B ℕ) (y : B) → (at left >>= f) ≡ Ok y
      → ((x : X) (next : Left) → Is x → Front left (word x) next → f (x, next) ≡ Ok y → G) → G
  tells left f y e on =
      let k = reached (at left) f y e in
      let t = kind.told left k.0.0 k.0.1 k.1 in
      on k.0.0 k.0.1 t.0 (λ words more. t.1 ∙ ap (λ r. Some (word k.0.0 ++ behind r)) more) k.2

-- any word
word_in : (word : List ℕ) → IsWord word → (rest : Option (List ℕ)) (column : ℕ) → word_at (record { rest = Some (word ++ behind rest); column = column })
    ≡ Ok (word, record { rest = rest; column = column + length word + 1 })
word_in word is None column = rw (append-nil word) (word_last word is column)
word_in word is (Some rest) column = word_first word is rest column

pub word_kind : Kind word_at IsWord (λ word. word)
word_kind = record {
  read = λ x is rest column. (column + length x + 1, word_in x is rest column);
  told = λ left x next e. word_back left x next e;
}

pub found : {X : Type 0} (column : ℕ) (o : Option X) (left : Left) (x : X) (next : Left) → found_at column o left ≡ Ok (x, next) → (o ≡ Some x) × (left ≡ next)
found column None left x next e = cc
found column (Some y) left x next e = let pair = ok_is (y, left) (x, next) e in (ap (λ p. Some p.0) pair, ap (λ p. p.1) pair)

-- words that name values, each value by one word
module _ {X : Type 0} (named : List ℕ → Option X) (Is : X → Type 0) (word : X → List ℕ)
    (is_word : (x : X) → Is x → IsWord (word x)) (names : (x : X) → Is x → named (word x) ≡ Some x)
    (only : (w : List ℕ) (x : X) → named w ≡ Some x → Is x × (w ≡ word x)) where
  named_read : (x : X) → Is x → (rest : Option (List ℕ)) (column : ℕ)
      → (past : ℕ) × ((word_at (record { rest = Some (word x ++ behind rest); column = column }) >>= λ w. found_at column (named w.0) w.1) ≡ Ok
      (x, record { rest = rest; column = past }))
  named_read x is rest column = (column + length (word x) + 1, rw (word_in (word x) (is_word x is) rest column) (rw (names x is) refl))

  named_told : (left : Left) (x : X) (next : Left) → (word_at left >>= λ w. found_at left.column (named w.0) w.1) ≡ Ok (x, next)
      → Is x × (left.rest ≡ Some (word x ++ behind next.rest))
  named_told left x next e =
      let k = reached (word_at left) (λ w. found_at left.column (named w.0) w.1) (x, next) e in
      let f = found left.column (named k.0.0) k.0.1 x next k.2 in
      let t = only k.0.0 x f.0 in
      (t.0, (word_back left k.0.0 k.0.1 k.1).1 ∙ (λ i. Some (t.1 i ++ behind (f.1 i).rest)))

  pub named_kind : Kind (λ left. word_at left >>= λ w. found_at left.column (named w.0) w.1) Is word
  named_kind = record { read = named_read; told = named_told }

-- a first word and what stands after it are the line of a command
abbrev pub Tells : List ℕ → Left → Command → Type 0
Tells first left command = IsCommand command × ((line : List ℕ) → Some line ≡ Some (first ++ behind left.rest) → IsLineOf line command)

pub told_as : (first : List ℕ) (left : Left) (c command : Command) (words : List (List ℕ)) → IsCommand c → left.rest ≡ joined words
    → ((line : List ℕ) → line ≡ spaced (first ∷ words) → IsLineOf line c) → ◌≡◌ {A = Result Command ℕ} (Ok c) (Ok command) → Tells first left command
told_as first left c command words is behind_it spelled e =
    let same = ok_is c command e in (
      subst IsCommand same is,
      λ line at_front.
          let whole = at_front ∙ ap (λ r. Some (first ++ behind r)) behind_it ∙ sym (spaced_joined first words) in
          subst (IsLineOf line) same (spelled line (some_is line (spaced (first ∷ words)) whole)),
    )
