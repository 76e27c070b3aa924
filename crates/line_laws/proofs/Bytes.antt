-- The bytes of a line from a place on, and two lines that are alike through a word.
use Rattle.std.proofs.Common.{◌≡◌, ℕ, zero, suc, ◌+◌, ◌<◌, ◌≤◌, List, [], ◌∷◌, ◌++◌, length, take, drop, refl, sym, ap, subst, ◌∙◌, true, false, Bool}
use Rattle.std.proofs.Common.{Option, None, Some, arith, take_all}
use Rattle.std.specs.List.{list_any, before_first, position_or_len}
use Rattle.std.proofs.lemmas.List.Folds.{list_any-append}
use Rattle.std.proofs.Math.Seq.{take-append_seam}
use Rattle.script_lang.specs.Words.{is_space}
use Rattle.script_lang.specs.Spelling.{IsLine, is_line_feed}
use Rattle.script_lang.proofs.WordLemmas.{behind, neither, space_behind}

-- the bytes from a place on, up to the next space
abbrev pub word_past : ℕ → List ℕ → List ℕ
word_past place bytes = before_first is_space (drop place bytes)

-- the bytes that are left
abbrev pub bytes_left : Option (List ℕ) → List ℕ
bytes_left None = []
bytes_left (Some rest) = rest

-- other bytes are these through the word at a place
pub record Through (past : ℕ) (rest other : List ℕ) : Type 0 where
  pub before : take past other ≡ take past rest
  pub word : word_past past other ≡ word_past past rest
  pub ends : length rest ≤ past → length other ≤ past

pub past_byte : (past b : ℕ) (rest other : List ℕ) → Through (suc past) (b ∷ rest) other → (more : List ℕ) × (other ≡ b ∷ more) × Through past rest more
past_byte past b rest [] through = let before = through.before in cc
past_byte past b rest (c ∷ cs) through =
    let before : c ∷ take past cs ≡ b ∷ take past rest = through.before in
    let first : c ≡ b = cc in
    let more : take past cs ≡ take past rest = cc in
    (cs, ap (λ x. x ∷ cs) first, record { before = more; word = through.word; ends = λ le. omega (arith, through.ends (omega (arith, le))) })

pub past_word : (word : List ℕ) (past n : ℕ) (rest other : List ℕ) → n ≡ length word + past → Through n (word ++ rest) other
    → (more : List ℕ) × (other ≡ word ++ more) × Through past rest more
past_word [] past n rest other is through = let same : n ≡ past = omega (arith, is) in (other, refl, subst (λ k. Through k rest other) same through)
past_word (b ∷ word) past zero rest other is through = absurd (omega (arith, is))
past_word (b ∷ word) past (suc n) rest other is through =
    let first = past_byte n b (word ++ rest) other through in
    let after = past_word word past n rest first.0 (omega (arith, is)) first.2 in
    (after.0, first.1 ∙ ap (λ bytes. b ∷ bytes) after.1, after.2)

pub whole : (past : ℕ) (rest other : List ℕ) → length rest ≤ past → Through past rest other → other ≡ rest
whole past rest other le through = sym (take_all past other (through.ends le)) ∙ through.before ∙ take_all past rest le

pub first_word : (word : List ℕ) → list_any is_space word ≡ false → (next : Option (List ℕ)) → before_first is_space (word ++ behind next) ≡ word
first_word word none next = rw (space_behind word none next) (take-append_seam word (behind next))

first_space : (b : ℕ) (bytes : List ℕ) → is_space b ≡ true → before_first is_space (b ∷ bytes) ≡ []
first_space b bytes space = rw space refl

first_more : (b : ℕ) (bytes : List ℕ) → is_space b ≡ false → before_first is_space (b ∷ bytes) ≡ b ∷ before_first is_space bytes
first_more b bytes none =
    let next : 1 + position_or_len is_space bytes ≡ suc (position_or_len is_space bytes) = omega arith in
    rw none (rw next refl)

-- behind the same byte, bytes that are alike up to the next space are alike up to it
first_alike : (b : ℕ) (is : Bool) → is_space b ≡ is → (one other : List ℕ) → before_first is_space one ≡ before_first is_space other
    → before_first is_space (b ∷ one) ≡ before_first is_space (b ∷ other)
first_alike b true is one other alike = first_space b one is ∙ sym (first_space b other is)
first_alike b false is one other alike = first_more b one is ∙ ap (λ word. b ∷ word) alike ∙ sym (first_more b other is)

pub behind_byte : (b past : ℕ) (rest other : List ℕ) → Through past rest other → Through (suc past) (b ∷ rest) (b ∷ other)
behind_byte b past rest other through = record {
  before = ap (λ bytes. b ∷ bytes) through.before;
  word = through.word;
  ends = λ le. omega (arith, through.ends (omega (arith, le)));
}

pub behind_word : (word : List ℕ) (past n : ℕ) (rest other : List ℕ) → n ≡ length word + past → Through past rest other
    → Through n (word ++ rest) (word ++ other)
behind_word [] past n rest other is through = let same : past ≡ n = omega (arith, is) in subst (λ k. Through k rest other) same through
behind_word (b ∷ word) past zero rest other is through = absurd (omega (arith, is))
behind_word (b ∷ word) past (suc n) rest other is through =
    behind_byte b n (word ++ rest) (word ++ other) (behind_word word past n rest other (omega (arith, is)) through)

-- lines with the same word are the same through its last byte
pub through_last : (word : List ℕ) → list_any is_space word ≡ false → (rest other : Option (List ℕ)) (place : ℕ) → length word ≡ suc place
    → Through place (word ++ behind rest) (word ++ behind other)
through_last [] none rest other place is = absurd (omega (arith, is))
through_last (b ∷ []) none rest other zero is = record {
  before = refl;
  word = first_word (b ∷ []) none other ∙ sym (first_word (b ∷ []) none rest);
  ends = λ le. absurd (omega (arith, le));
}
through_last (b ∷ []) none rest other (suc place) is = absurd (omega (arith, is))
through_last (b ∷ c ∷ cs) none rest other zero is = absurd (omega (arith, is))
through_last (b ∷ c ∷ cs) none rest other (suc place) is =
    behind_byte b place (c ∷ cs ++ behind rest) (c ∷ cs ++ behind other)
    (through_last (c ∷ cs) (neither (is_space b) (list_any is_space (c ∷ cs)) none).1 rest other place (omega (arith, is)))

-- a space and the end are alike up to the next space
pub through_space : (rest : List ℕ) (other : Option (List ℕ)) → Through 0 (32 ∷ rest) (behind other)
through_space rest other = record {
  before = refl;
  word = first_word [] refl other ∙ sym (first_word [] refl (Some rest));
  ends = λ le. absurd (omega (arith, le));
}

-- what is the same through a place is so through each before it
pub earlier : (k past : ℕ) (rest other : List ℕ) → k ≤ past → past < length rest → Through past rest other → Through k rest other
earlier zero zero rest other le lt through = through
earlier zero (suc past) [] other le lt through = absurd (omega (arith, lt))
earlier zero (suc past) (b ∷ rest) other le lt through =
    let first = past_byte past b rest other through in
    let after = earlier zero past rest first.0 (omega arith) (omega (arith, lt)) first.2 in
    subst (Through zero (b ∷ rest)) (sym first.1)
    (record { before = refl; word = first_alike b (is_space b) refl first.0 rest after.word; ends = λ none. absurd (omega (arith, none)) })
earlier (suc k) zero rest other le lt through = absurd (omega (arith, le))
earlier (suc k) (suc past) [] other le lt through = absurd (omega (arith, lt))
earlier (suc k) (suc past) (b ∷ rest) other le lt through =
    let first = past_byte past b rest other through in
    subst (Through (suc k) (b ∷ rest)) (sym first.1)
    (behind_byte b k rest first.0 (earlier k past rest first.0 (omega (arith, le)) (omega (arith, lt)) first.2))

feed_behind : (next : Option (List ℕ)) → list_any is_line_feed (behind next) ≡ list_any is_line_feed (bytes_left next)
feed_behind None = refl
feed_behind (Some rest) = refl

pub line_joined : (word : List ℕ) (next : Option (List ℕ)) → IsLine word → IsLine (bytes_left next) → IsLine (word ++ behind next)
line_joined word next first rest = rw (list_any-append is_line_feed word (behind next)) (rw first (feed_behind next ∙ rest))

pub line_parts : (word : List ℕ) (next : Option (List ℕ)) → IsLine (word ++ behind next) → IsLine word × IsLine (bytes_left next)
line_parts word next is =
    let k = neither (list_any is_line_feed word) (list_any is_line_feed (behind next)) (sym (list_any-append is_line_feed word (behind next)) ∙ is) in
    (k.0, sym (feed_behind next) ∙ k.1)
