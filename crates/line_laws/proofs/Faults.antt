-- Readings whose every fault is at the first word that does not fit.
use Rattle.std.proofs.Common.{◌≡◌, ℕ, zero, suc, ◌+◌, ◌-◌, ◌≤◌, List, [], ◌∷◌, ◌++◌, length, length-append, refl, sym, ap, subst, ◌∙◌, true, false}
use Rattle.std.proofs.Common.{Bool, cond, Option, None, Some, Result, Ok, Err, arith, nat_eq, nat_lt}
use Rattle.std.specs.List.{before_first, after_first}
use Rattle.std.proofs.lemmas.List.{append-nil}
use Rattle.script_lang.specs.declared.command.Command.{Command}
use Rattle.script_lang.specs.Left.{Left}
use Rattle.script_lang.specs.Words.{◌>>=◌, is_space, word_of, word_at, found_at}
use Rattle.script_lang.specs.Spelling.{IsLine, IsWord}
use Rattle.script_lang.proofs.WordLemmas.{behind, word_first, word_last, word_back}
use Rattle.line_laws.proofs.Bytes.{bytes_left, Through, past_byte, past_word, whole, behind_byte, behind_word, through_last, through_space}
use Rattle.line_laws.proofs.Bytes.{line_joined, line_parts}

abbrev pub left_at : Option (List ℕ) → ℕ → Left
left_at rest column = record { rest = rest; column = column }

-- what may be left is the same through the place
abbrev pub ThroughLeft : ℕ → List ℕ → Option (List ℕ) → Type 0
ThroughLeft place rest None = ⊥
ThroughLeft place rest (Some other) = Through place rest other

-- bytes that the reading takes, with the same words before the place
pub record Fitting (at : Left → Result Command ℕ) (column past : ℕ) (rest : List ℕ) : Type 0 where
  pub left : Option (List ℕ)
  pub command : Command
  pub line : IsLine rest → IsLine (bytes_left left)
  pub reads : at (left_at left column) ≡ Ok command
  pub words : (place : ℕ) → past ≡ suc place → ThroughLeft place rest left

-- a fault is at a place of the bytes: what stands before it fits, and the word there does not
pub record Fault (at : Left → Result Command ℕ) (column fault : ℕ) (rest : List ℕ) : Type 0 where
  pub past : ℕ
  pub place : fault ≡ column + past
  pub within : past ≤ length rest
  pub fits : Fitting at column past rest
  pub fails : (other : List ℕ) → Through past rest other → at (left_at (Some other) column) ≡ Err fault

-- where nothing is left, a word is missed one past the end
abbrev pub FaultIn : (Left → Result Command ℕ) → ℕ → ℕ → Option (List ℕ) → Type 0
FaultIn at column fault None = fault ≡ column - 1
FaultIn at column fault (Some rest) = Fault at column fault rest

-- a reading that takes some bytes, wherever they begin, and whose faults are all at such places
pub record Exact (at : Left → Result Command ℕ) : Type 0 where
  pub finish : Option (List ℕ)
  pub line : IsLine (bytes_left finish)
  pub command : ℕ → Command
  pub finishes : (column : ℕ) → at (left_at finish column) ≡ Ok (command column)
  pub faults : (rest : Option (List ℕ)) (column fault : ℕ) → at (left_at rest column) ≡ Err fault → FaultIn at column fault rest

-- a reading that reads a word, and then what is left as the next reading does
module _ (at next : Left → Result Command ℕ) (word : List ℕ) (is : IsWord word) (column : ℕ)
    (on : (rest : Option (List ℕ)) → at (left_at (Some (word ++ behind rest)) column) ≡ next (left_at rest (column + length word + 1)))
    (exact : Exact next) where
  -- the words before a place of what is left, and this one before them
  words_after : (rest : List ℕ) (left : Option (List ℕ)) (past : ℕ) → ((place : ℕ) → past ≡ suc place → ThroughLeft place rest left) → (place : ℕ)
      → length word + past ≡ place
      → Through place (word ++ (32 ∷ rest)) (word ++ behind left)
  words_after rest left zero words place is = behind_word word 0 place (32 ∷ rest) (behind left) (sym is) (through_space rest left)
  words_after rest None (suc past) words place is = absurd (words past refl)
  words_after rest (Some other) (suc past) words place is =
      behind_word word (suc past) place (32 ∷ rest) (32 ∷ other) (sym is) (behind_byte 32 past rest other (words past refl))

  -- a fault of the next reading is one of the whole
  pub later : (rest : Option (List ℕ)) (fault : ℕ) → next (left_at rest (column + length word + 1)) ≡ Err fault → Fault at column fault (word ++ behind rest)
  later None fault e =
      let place : fault ≡ column + length word + 1 - 1 = exact.faults None (column + length word + 1) fault e in
      record {
        past = length word;
        place = omega (arith, place);
        within = omega (arith, length-append word []);
        fits = record {
          left = Some (word ++ behind exact.finish);
          command = exact.command (column + length word + 1);
          line = λ line. line_joined word exact.finish (line_parts word None line).0 exact.line;
          reads = on exact.finish ∙ exact.finishes (column + length word + 1);
          words = λ k last. through_last word is.1 None exact.finish k last;
        };
        fails = λ other through.
            let same : other ≡ word ++ [] = whole (length word) (word ++ []) other (omega (arith, length-append word [])) through in
            ap (λ bytes. at (left_at (Some bytes) column)) same ∙ on None ∙ e;
      }
  later (Some rest) fault e =
      let f : Fault next (column + length word + 1) fault rest = exact.faults (Some rest) (column + length word + 1) fault e in
      record {
        past = length word + 1 + f.past;
        place = omega (arith, f.place);
        within = omega (arith, f.within, length-append word (32 ∷ rest));
        fits = record {
          left = Some (word ++ behind f.fits.left);
          command = f.fits.command;
          line = λ line. let parts = line_parts word (Some rest) line in line_joined word f.fits.left parts.0 (f.fits.line parts.1);
          reads = on f.fits.left ∙ f.fits.reads;
          words = λ k last. words_after rest f.fits.left f.past f.fits.words k (omega (arith, last));
        };
        fails = λ other through.
            let after = past_word word (1 + f.past) (length word + 1 + f.past) (32 ∷ rest) other (omega arith) through in
            let more = past_byte f.past 32 rest after.0 (subst (λ k. Through k (32 ∷ rest) after.0) (omega arith) after.2) in
            ap (λ bytes. at (left_at (Some bytes) column)) (after.1 ∙ ap (λ bytes. word ++ bytes) more.1) ∙ on (Some more.0) ∙ f.fails more.0 more.2;
      }

word_in : (word : List ℕ) → IsWord word → (rest : Option (List ℕ)) (column : ℕ)
    → word_at (left_at (Some (word ++ behind rest)) column) ≡ Ok (word, left_at rest (column + length word + 1))
word_in word is None column = rw (append-nil word) (word_last word is column)
word_in word is (Some rest) column = word_first word is rest column

no_word : (other word : List ℕ) (column : ℕ) → before_first is_space other ≡ word → nat_eq (length word) 0 ≡ true → word_of column other ≡ Err column
no_word other word column is empty = rw is (rw empty refl)

some_word : (other word : List ℕ) (column : ℕ) → before_first is_space other ≡ word → nat_eq (length word) 0 ≡ false
    → word_of column other ≡ Ok (word, left_at (cond (nat_lt (length word) (length other)) (Some (after_first is_space other)) None) (column + length word + 1))
some_word other word column is full = rw is (rw full refl)

err_is : (a b : ℕ) → ◌≡◌ {A = Result Command ℕ} (Err a) (Err b) → b ≡ a
err_is a b e = cc

some_is : (xs ys : List ℕ) → Some xs ≡ Some ys → xs ≡ ys
some_is xs ys e = cc

-- a word that names a value, and what is read after it
module _ {X : Type 0} (value : List ℕ → Option X) (f : X × Left → Result Command ℕ) where
  abbrev named : Left → Result Command ℕ
  named left = word_at left >>= λ word. (found_at left.column (value word.0) word.1 >>= f)

  goes_on : (word : List ℕ) → IsWord word → (x : X) → value word ≡ Some x → (rest : Option (List ℕ)) (column : ℕ)
      → named (left_at (Some (word ++ behind rest)) column) ≡ f (x, left_at rest (column + length word + 1))
  goes_on word is x names rest column = rw (word_in word is rest column) (rw names refl)

  module _ (sample : List ℕ) (is : IsWord sample) (line : IsLine sample) (x : X) (names : value sample ≡ Some x)
      (exact : (word : List ℕ) (x : X) → value word ≡ Some x → Exact (λ left. f (x, left))) where
    -- what may stand in the place of a word that does not fit
    abbrev whole_finish : Option (List ℕ)
    whole_finish = Some (sample ++ behind (exact sample x names).finish)

    finish_line : IsLine (bytes_left whole_finish)
    finish_line = line_joined sample (exact sample x names).finish line (exact sample x names).line

    finish_reads : (column : ℕ) → named (left_at whole_finish column) ≡ Ok ((exact sample x names).command (column + length sample + 1))
    finish_reads column = goes_on sample is x names (exact sample x names).finish column ∙ (exact sample x names).finishes (column + length sample + 1)

    -- a fault at the first word
    first_fault : (rest : List ℕ) (column fault : ℕ)
        → ((other : List ℕ) → before_first is_space other ≡ before_first is_space rest → named (left_at (Some other) column) ≡ Err column)
        → named (left_at (Some rest) column) ≡ Err fault → Fault named column fault rest
    first_fault rest column fault bad e =
        let same : fault ≡ column = err_is column fault (sym (bad rest refl) ∙ e) in
        record {
          past = 0;
          place = omega (arith, same);
          within = omega arith;
          fits = record {
            left = whole_finish;
            command = (exact sample x names).command (column + length sample + 1);
            line = λ of_rest. finish_line;
            reads = finish_reads column;
            words = λ place none. absurd (omega (arith, none));
          };
          fails = λ other through. bad other through.word ∙ ap Err (sym same);
        }

    unnamed : (rest word : List ℕ) (column : ℕ) → before_first is_space rest ≡ word → nat_eq (length word) 0 ≡ false → value word ≡ None
        → named (left_at (Some rest) column) ≡ Err column
    unfolding word_at
    unnamed rest word column is full none = rw (some_word rest word column is full) (rw none refl)

    by_value : (rest : List ℕ) (column fault : ℕ) → nat_eq (length (before_first is_space rest)) 0 ≡ false → (o : Option X)
        → value (before_first is_space rest) ≡ o
        → named (left_at (Some rest) column) ≡ Err fault → Fault named column fault rest
    unfolding word_at
    by_value rest column fault full None none e =
        first_fault rest column fault (λ other same. unnamed other (before_first is_space rest) column same full none) e
    by_value rest column fault full (Some y) names_it e =
        let word : List ℕ = before_first is_space rest in
        let next : Option (List ℕ) = cond (nat_lt (length word) (length rest)) (Some (after_first is_space rest)) None in
        let read = some_word rest word column refl full in
        let back = word_back (left_at (Some rest) column) word (left_at next (column + length word + 1)) read in
        let parts : rest ≡ word ++ behind next = some_is rest (word ++ behind next) back.1 in
        let e_there = subst (λ bytes. named (left_at (Some bytes) column) ≡ Err fault) parts e in
        let at_next = sym (goes_on word back.0 y names_it next column) ∙ e_there in
        subst (Fault named column fault) (sym parts)
        (later named (λ left. f (y, left)) word back.0 column (λ more. goes_on word back.0 y names_it more column) (exact word y names_it) next fault at_next)

    by_word : (rest : List ℕ) (column fault : ℕ) (empty : Bool) → nat_eq (length (before_first is_space rest)) 0 ≡ empty
        → named (left_at (Some rest) column) ≡ Err fault
        → Fault named column fault rest
    unfolding word_at
    by_word rest column fault true empty e =
        first_fault rest column fault (λ other same. rw (no_word other (before_first is_space rest) column same empty) refl) e
    by_word rest column fault false full e = by_value rest column fault full (value (before_first is_space rest)) refl e

    named_faults : (rest : Option (List ℕ)) (column fault : ℕ) → named (left_at rest column) ≡ Err fault → FaultIn named column fault rest
    unfolding word_at
    named_faults None column fault e = err_is (column - 1) fault e
    named_faults (Some rest) column fault e = by_word rest column fault (nat_eq (length (before_first is_space rest)) 0) refl e

    pub named_exact : Exact named
    named_exact = record {
      finish = whole_finish;
      line = finish_line;
      command = λ column. (exact sample x names).command (column + length sample + 1);
      finishes = finish_reads;
      faults = named_faults;
    }
