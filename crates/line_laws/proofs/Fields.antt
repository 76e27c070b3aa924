-- Each kind of word of a command's line: reading it, and then what stands after it, is exact where what stands after it is.
use Rattle.std.proofs.Common.{◌≡◌, ℕ, ◌-◌, ◌≤◌, ◌^◌, List, [], ◌∷◌, length, refl, sym, ap, subst, ◌∙◌, true, false, Bool, cond, Option, None, Some}
use Rattle.std.proofs.Common.{Result, Ok, Err, arith, codes}
use Rattle.std.proofs.lemmas.Bool.{le-leb}
use Rattle.edits.specs.declared.edit.Destination.{Destination}
use Rattle.edits.specs.declared.edit.Destination.TheVariants.{Root, Inside}
use Rattle.hex.specs.Hex.{decode_of, decode_pairs}
use Rattle.model_state.specs.Names.{is_name}
use Rattle.script_lang.specs.declared.command.Spec.{Spec}
use Rattle.script_lang.specs.declared.command.Spec.TheVariants.{Number}
use Rattle.script_lang.specs.declared.command.Command.{Command}
use Rattle.script_lang.specs.Left.{Left}
use Rattle.script_lang.specs.Words.{◌>>=◌, word_at, found_at, number_of, number_below, not_below, number_at, moment_at, name_at}
use Rattle.finite_maps.specs.Equal.{text_eq}
use Rattle.script_lang.specs.Words.{index_or_end, index_or_end_at, optional_at, optional_number_at, rest_at, optional_rest_at, end_at}
use Rattle.script_lang.specs.Command.{spec_of, spec_at, if_decoded, bytes_at, destination_from, destination_at}
use Rattle.script_lang.specs.Spelling.{IsLine, IsWord}
use Rattle.line_laws.proofs.Faults.{left_at, Fault, FaultIn, Exact, named_exact}

in_order : {A B C : Type 0} (r : Result A ℕ) (g : A → Result B ℕ) (f : B → Result C ℕ) → ((r >>= g) >>= f) ≡ (r >>= λ x. g x >>= f)
in_order (Ok x) g f = refl
in_order (Err c) g f = refl

-- a reading that does what an exact one does is exact
same_exact : (at other : Left → Result Command ℕ) → ((left : Left) → at left ≡ other left) → Exact other → Exact at
same_exact at other same exact = subst Exact (λ i left. sym (same left) i) exact

err_is : (a b : ℕ) → ◌≡◌ {A = Result Command ℕ} (Err a) (Err b) → b ≡ a
err_is a b e = cc

nothing : (bytes : List ℕ) → length bytes ≤ 0 → bytes ≡ []
nothing [] le = refl
nothing (b ∷ bs) le = absurd (omega (arith, le))

-- a word that names a value, by the sample of such a word
value_then : {X : Type 0} (value : List ℕ → Option X) (f : X × Left → Result Command ℕ) (sample : List ℕ) → IsWord sample → IsLine sample → (x : X)
    → value sample ≡ Some x
    → ((x : X) → Exact (λ left. f (x, left))) → Exact (λ left. (word_at left >>= λ word. found_at left.column (value word.0) word.1) >>= f)
value_then value f sample is line x names exact =
    same_exact _ _ (λ left. in_order (word_at left) (λ word. found_at left.column (value word.0) word.1) f)
    (named_exact value f sample is line x names (λ word x it_names. exact x))

pub word_then : (f : List ℕ × Left → Result Command ℕ) → ((word : List ℕ) → Exact (λ left. f (word, left))) → Exact (λ left. word_at left >>= f)
word_then f exact = named_exact Some f (codes "x") (omega arith, refl) refl (codes "x") refl (λ word x names. exact x)

-- each kind of word has a sample
one_number : number_of (codes "1") ≡ Some 1
unfolding number_below
one_number = refl

one_at_least : (least : ℕ) → least ≤ 1 → not_below least (number_of (codes "1")) ≡ Some 1
one_at_least least le = rw one_number (rw (le-leb least 1 le) refl)

one_moment : number_below (2 ^ 64) (codes "1") ≡ Some 1
unfolding number_below
one_moment = refl

one_index : index_or_end (codes "1") ≡ Some (Some 1)
one_index = rw one_number refl

one_version : spec_of (codes "1") ≡ Some (Number 1)
unfolding spec_of
one_version = rw one_number refl

a_byte : if_decoded (decode_of (codes "00")) ≡ Some (0 ∷ [])
unfolding decode_pairs
a_byte = refl

pub number_then : (least : ℕ) → least ≤ 1 → (f : ℕ × Left → Result Command ℕ) → ((n : ℕ) → Exact (λ left. f (n, left)))
    → Exact (λ left. number_at least left >>= f)
unfolding number_at
number_then least le f exact = value_then (λ word. not_below least (number_of word)) f (codes "1") (omega arith, refl) refl 1 (one_at_least least le) exact

pub moment_then : (f : ℕ × Left → Result Command ℕ) → ((n : ℕ) → Exact (λ left. f (n, left))) → Exact (λ left. moment_at left >>= f)
unfolding moment_at
moment_then f exact = value_then (number_below (2 ^ 64)) f (codes "1") (omega arith, refl) refl 1 one_moment exact

pub name_then : (f : List ℕ × Left → Result Command ℕ) → ((name : List ℕ) → Exact (λ left. f (name, left))) → Exact (λ left. name_at left >>= f)
unfolding name_at
name_then f exact = value_then (λ word. cond (is_name word) (Some word) None) f (codes "x") (omega arith, refl) refl (codes "x") refl exact

pub index_or_end_then : (f : Option ℕ × Left → Result Command ℕ) → ((index : Option ℕ) → Exact (λ left. f (index, left)))
    → Exact (λ left. index_or_end_at left >>= f)
unfolding index_or_end_at
index_or_end_then f exact = value_then index_or_end f (codes "1") (omega arith, refl) refl (Some 1) one_index exact

pub spec_then : (f : Spec × Left → Result Command ℕ) → ((spec : Spec) → Exact (λ left. f (spec, left))) → Exact (λ left. spec_at left >>= f)
unfolding spec_at
spec_then f exact = value_then spec_of f (codes "1") (omega arith, refl) refl (Number 1) one_version exact

pub bytes_then : (f : List ℕ × Left → Result Command ℕ) → ((bytes : List ℕ) → Exact (λ left. f (bytes, left))) → Exact (λ left. bytes_at left >>= f)
unfolding bytes_at
bytes_then f exact = value_then (λ word. if_decoded (decode_of word)) f (codes "00") (omega arith, refl) refl (0 ∷ []) a_byte exact

-- what stands after the first word of a place, which is `/` or not
abbrev place_of : List ℕ → Bool → Left → Result (Destination × Left) ℕ
place_of first is_root left = cond is_root (Ok (Root, left)) (word_at left >>= λ feature. Ok (Inside first feature.0, feature.1))

place_from : (f : Destination × Left → Result Command ℕ) → ((place : Destination) → Exact (λ left. f (place, left))) → (first : List ℕ) (is_root : Bool)
    → Exact (λ left. place_of first is_root left >>= f)
place_from f exact first true = exact Root
place_from f exact first false =
    same_exact _ _ (λ left. in_order (word_at left) (λ feature. Ok (Inside first feature.0, feature.1)) f)
    (word_then (λ feature. f (Inside first feature.0, feature.1)) (λ feature. exact (Inside first feature)))

pub destination_then : (f : Destination × Left → Result Command ℕ) → ((place : Destination) → Exact (λ left. f (place, left)))
    → Exact (λ left. destination_at left >>= f)
unfolding destination_at
destination_then f exact =
    same_exact _ _ (λ left. in_order (word_at left) (λ first. destination_from first.0 first.1) f)
    (word_then (λ first. destination_from first.0 first.1 >>= f) (λ first. place_from f exact first (text_eq first (codes "/"))))

-- a reading that is one where nothing is left, and another where something is
module _ (at one other : Left → Result Command ℕ) (ends : (column : ℕ) → at (left_at None column) ≡ one (left_at None column))
    (more : (rest : List ℕ) (column : ℕ) → at (left_at (Some rest) column) ≡ other (left_at (Some rest) column))
    (misses : (column : ℕ) → other (left_at None column) ≡ Err (column - 1)) (one_exact : Exact one) (other_exact : Exact other) where
  taken : (rest : Option (List ℕ)) (column : ℕ) (command : Command) → other (left_at rest column) ≡ Ok command → at (left_at rest column) ≡ Ok command
  taken None column command e = let missed = misses column in cc
  taken (Some rest) column command e = more rest column ∙ e

  either_faults : (rest : Option (List ℕ)) (column fault : ℕ) → at (left_at rest column) ≡ Err fault → FaultIn at column fault rest
  either_faults None column fault e = one_exact.faults None column fault (sym (ends column) ∙ e)
  either_faults (Some rest) column fault e =
      let f : Fault other column fault rest = other_exact.faults (Some rest) column fault (sym (more rest column) ∙ e) in
      record {
        past = f.past;
        place = f.place;
        within = f.within;
        fits = record {
          left = f.fits.left;
          command = f.fits.command;
          line = f.fits.line;
          reads = taken f.fits.left column f.fits.command f.fits.reads;
          words = f.fits.words;
        };
        fails = λ bytes through. more bytes column ∙ f.fails bytes through;
      }

  either_exact : Exact at
  either_exact = record {
    finish = other_exact.finish;
    line = other_exact.line;
    command = other_exact.command;
    finishes = λ column. taken other_exact.finish column (other_exact.command column) (other_exact.finishes column);
    faults = either_faults;
  }

pub optional_then : (f : Option (List ℕ) × Left → Result Command ℕ) → ((word : Option (List ℕ)) → Exact (λ left. f (word, left)))
    → Exact (λ left. optional_at left >>= f)
unfolding optional_at word_at
optional_then f exact =
    either_exact _ (λ left. f (None, left)) (λ left. word_at left >>= λ word. f (Some word.0, word.1)) (λ column. refl)
    (λ rest column. in_order (word_at (left_at (Some rest) column)) (λ word. Ok (Some word.0, word.1)) f) (λ column. refl) (exact None)
    (word_then (λ word. f (Some word.0, word.1)) (λ word. exact (Some word)))

pub optional_number_then : (f : Option ℕ × Left → Result Command ℕ) → ((n : Option ℕ) → Exact (λ left. f (n, left)))
    → Exact (λ left. optional_number_at left >>= f)
unfolding optional_number_at number_at word_at
optional_number_then f exact =
    either_exact _ (λ left. f (None, left)) (λ left. number_at 0 left >>= λ n. f (Some n.0, n.1)) (λ column. refl)
    (λ rest column. in_order (number_at 0 (left_at (Some rest) column)) (λ n. Ok (Some n.0, n.1)) f) (λ column. refl) (exact None)
    (number_then 0 (omega arith) (λ n. f (Some n.0, n.1)) (λ n. exact (Some n)))

-- the rest of a line, of whatever bytes
module _ (command : List ℕ → Command) where
  abbrev rest_reading : Left → Result Command ℕ
  rest_reading left = rest_at left >>= λ text. Ok (command text)

  rest_faults : (rest : Option (List ℕ)) (column fault : ℕ) → rest_reading (left_at rest column) ≡ Err fault → FaultIn rest_reading column fault rest
  unfolding rest_at
  rest_faults None column fault e = err_is (column - 1) fault e
  rest_faults (Some []) column fault e =
      let same = err_is column fault e in
      record {
        past = 0;
        place = omega (arith, same);
        within = omega arith;
        fits = record {
          left = Some (codes "x");
          command = command (codes "x");
          line = λ of_rest. refl;
          reads = refl;
          words = λ place none. absurd (omega (arith, none));
        };
        fails = λ other through. rw (nothing other (through.ends (omega arith))) (ap Err (sym same));
      }
  rest_faults (Some (b ∷ bs)) column fault e = cc

  pub rest_last : Exact rest_reading
  unfolding rest_at
  rest_last = record {
    finish = Some (codes "x");
    line = refl;
    command = λ column. command (codes "x");
    finishes = λ column. refl;
    faults = rest_faults;
  }

-- a reading that takes whatever is left
always : (command : Command) → Exact (λ left. Ok command)
always command = record {
  finish = None;
  line = refl;
  command = λ column. command;
  finishes = λ column. refl;
  faults = λ rest column fault e. cc;
}

rest_missing : (command : List ℕ → Command) (column : ℕ) → (rest_at (left_at None column) >>= λ text. Ok (command text)) ≡ Err (column - 1)
unfolding rest_at
rest_missing command column = refl

pub optional_rest_last : (command : Option (List ℕ) → Command) → Exact (λ left. optional_rest_at left >>= λ text. Ok (command text))
unfolding optional_rest_at
optional_rest_last command =
    either_exact _ (λ left. Ok (command None)) (λ left. rest_at left >>= λ text. Ok (command (Some text))) (λ column. refl)
    (λ rest column. in_order (rest_at (left_at (Some rest) column)) (λ text. Ok (Some text)) (λ text. Ok (command text)))
    (rest_missing (λ text. command (Some text))) (always (command None))
    (rest_last (λ text. command (Some text)))

-- the end of a line
module _ (command : Command) where
  abbrev end_reading : Left → Result Command ℕ
  end_reading left = end_at left >>= λ end. Ok command

  end_faults : (rest : Option (List ℕ)) (column fault : ℕ) → end_reading (left_at rest column) ≡ Err fault → FaultIn end_reading column fault rest
  end_faults None column fault e = cc
  end_faults (Some rest) column fault e =
      let same = err_is column fault e in
      record {
        past = 0;
        place = omega (arith, same);
        within = omega arith;
        fits = record {
          left = None;
          command = command;
          line = λ of_rest. refl;
          reads = refl;
          words = λ place none. absurd (omega (arith, none));
        };
        fails = λ other through. ap Err (sym same);
      }

  pub end_last : Exact end_reading
  end_last = record { finish = None; line = refl; command = λ column. command; finishes = λ column. refl; faults = end_faults }
