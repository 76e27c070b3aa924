-- Shown lines have no line feed.
use Rattle.std.proofs.Common.{◌≡◌, ℕ, zero, suc, ℤ, pos, negsuc, ◌+◌, ◌<◌, ◌/◌, ◌%◌, List}
use Rattle.std.proofs.Common.{[], ◌∷◌, ◌++◌, Bool, true, false, ◌||◌, cond, Option, None, Some, length, get_or}
use Rattle.std.proofs.Common.{refl, length-append, arith}
use Rattle.std.specs.Prelude.{All, codes, nat_lt, map, ◌==◌}
use Rattle.std.specs.FinMap.{get, len}
use Rattle.std.specs.List.{AllByRecursion, list_any}
use Rattle.std.specs.Char.{digit_char}
use Rattle.std.specs.Fmt.{decimal, digits, digits_onto, digit_glyph, signed_decimal}
use Rattle.std.proofs.lemmas.List.Elements.{All-nil, All-cons, All-head, All-tail, All-append, All-from_recursion}
use Rattle.std.proofs.lemmas.Bool.Decides.{nat_tests}
use Rattle.json.specs.Print.{escape, escape_byte, escape_letter, quoted}
use Rattle.serde_json.specs.Data.{Data, Items, Members, Num}
use Rattle.serde_json.specs.Data as trees
use Rattle.serde_json.specs.Written.{comma_if, compact_text, items_text, members_text, number_text}
use Rattle.host_port.specs.Cut.{is_lf}
use Rattle.ecore_meta.specs.Meta.{Meta}
use Rattle.ecore_meta.specs.Typing.{kind_of}
use Rattle.ecore_meta.specs.declared.meta.Kind.{Kind}
use Rattle.ecore_meta.specs.declared.meta.Kind.TheVariants.{Attr, AttrMany, Bounded, Free, Contains, Container, Skip}
use Rattle.ecore_meta.specs.declared.meta.Value.{Value}
use Rattle.emfjson_values.specs.Values.{data_of}
use Rattle.model_state.specs.Packages.{steps_of}
use Rattle.model_state.specs.declared.operation.Operation.{Operation}
use Rattle.model_state.specs.declared.operation.Operation.TheVariants.{Simple, Composite}
use Rattle.model_state.specs.declared.operation.OpKind.{OpKind}
use Rattle.model_state.specs.declared.operation.OpKind.TheVariants as kinds
use Rattle.model_state.specs.declared.step.Place.{Place}
use Rattle.model_state.specs.declared.step.Place.TheVariants.{Root, Inside}
use Rattle.model_state.specs.declared.step.Step.{Step}
use Rattle.model_state.specs.declared.step.Step.TheVariants.{Put, Ins, Del, Shift, Link, Unlink, RerankRow, New, Gone, Move, RerankPlace}
use Rattle.history_tree.specs.declared.version.Version.{Version}
use Rattle.history_tree.specs.History.{History}
use Rattle.history_tree.specs.Found.{branch_name, tags_of}
use Rattle.shown_lines.specs.Lines.{after_spaces, feature_name, kind_word, kind_words, lines_from, open_lines, operation_line, operation_lines}
use Rattle.shown_lines.specs.Lines.{optional, place_word, shown_text, step_line, step_words, value_word}
use Rattle.shown_lines.specs.Versions.{after_commas, listed, log_lines, package_lines, version_line, version_lines}
use Rattle.shown_lines.specs.Buckets.{bucket_line, bucket_lines, bucket_lines_from}
use Rattle.shown_lines.specs.Buckets as buckets
use Rattle.shown_lines.specs.Validation.{element_lines, feature_lines, features_at, held_in, lower_of, shortage_line, validate_lines}
use Rattle.footprint.specs.declared.bucket.Bucket.{Bucket}
use Rattle.hex.specs.Hex.{encode_lower, encode_with, lower_digits}
use Rattle.model_state.specs.Keys.{IdBytes}
use Rattle.model_state.specs.Listing.{ids}
use Rattle.model_state.specs.State.{State}
use Rattle.model_texts.specs.Tree.{child_ids, element, object_of, one_or_all, one_or_list, tree, whole}
use Rattle.op_form.specs.Packages.{package_encoding}
use Rattle.mark_lines.specs.Shown.{IsWhole, IsLine, IsGivenWhole, AreNamed, HasNames, PlaceIsWhole, StepIsWhole, NameIsWhole, OperationIsWhole}
use Rattle.mark_lines.specs.Shown.{BucketsAreLines, JsonIsWhole, LogsAreLines, OperationsAreLines, OpenAreLines, PackagesAreLines, ShortagesAreLines}
use Rattle.mark_lines.specs.Shown.{TextsAreLines}

-- ---- texts one after the other
pub both : (xs ys : List ℕ) → IsWhole xs → IsWhole ys → IsWhole (xs ++ ys)
both [] ys one other = other
both (x ∷ xs) ys one other = let k = neither (is_lf x) (list_any is_lf xs) one in rw k.0 (both xs ys k.1 other)
  where
    neither : (a b : Bool) → (a || b) ≡ false → (a ≡ false) × (b ≡ false)
    neither true b e = cc
    neither false b e = (refl, e)

-- ---- numbers
quiet_digit : (d : ℕ) → is_lf (digit_glyph false d) ≡ false
quiet_digit d = by (nat_lt d 10)
  where
    by : (b : Bool) → is_lf (cond b (48 + d) (cond false (55 + d) (87 + d))) ≡ false
    by true = grind (arith, nat_tests)
    by false = grind (arith, nat_tests)

quiet_onto : (k n : ℕ) (acc : List ℕ) → IsWhole acc → IsWhole (digits_onto k 10 false n acc)
quiet_onto zero n acc quiet = quiet
quiet_onto (suc k) n acc quiet =
    let last : IsWhole (digit_glyph false (n % 10) ∷ acc) = rw (quiet_digit (n % 10)) quiet in
    by k n acc (n / 10 == 0) last (quiet_onto k (n / 10) (digit_glyph false (n % 10) ∷ acc) last)
  where
    by : (k n : ℕ) (acc : List ℕ) (b : Bool) → IsWhole (digit_glyph false (n % 10) ∷ acc)
        → IsWhole (digits_onto k 10 false (n / 10) (digit_glyph false (n % 10) ∷ acc))
        → IsWhole (cond b (digit_glyph false (n % 10) ∷ acc) (digits_onto k 10 false (n / 10) (digit_glyph false (n % 10) ∷ acc)))
    by k n acc true last more = last
    by k n acc false last more = more

pub number : (n : ℕ) → IsWhole (decimal n)
unfolding digits
number n = quiet_onto 64 n [] refl

signed : (z : ℤ) → IsWhole (signed_decimal z)
signed (pos n) = number n
signed (negsuc n) = number (suc n)

-- ---- JSON
hex_quiet : (d : ℕ) → is_lf (digit_char d) ≡ false
hex_quiet d = by (nat_lt d 10)
  where
    by : (b : Bool) → is_lf (cond b (48 + d) (87 + d)) ≡ false
    by true = grind (arith, nat_tests)
    by false = grind (arith, nat_tests)

letter_quiet : (x : ℕ) → is_lf (escape_letter x) ≡ false
letter_quiet x = grind (arith, nat_tests)

plain_quiet : (x : ℕ) → nat_lt x 32 ≡ false → is_lf x ≡ false
plain_quiet x is = grind (arith, nat_tests, is)

escaped : (x : ℕ) → IsWhole (escape_byte x)
unfolding escape_byte
escaped x = by (nat_lt 0 (escape_letter x)) (nat_lt x 32) refl
  where
    by : (a b : Bool) → nat_lt x 32 ≡ b
        → IsWhole (cond a (92 ∷ escape_letter x ∷ []) (cond b (92 ∷ 117 ∷ 48 ∷ 48 ∷ digit_char (x / 16) ∷ digit_char (x % 16) ∷ []) (x ∷ [])))
    by true b is = rw (letter_quiet x) refl
    by false true is = rw (hex_quiet (x / 16)) (rw (hex_quiet (x % 16)) refl)
    by false false is = rw (plain_quiet x is) refl

escape_quiet : (s : List ℕ) → IsWhole (escape s)
escape_quiet [] = refl
escape_quiet (x ∷ xs) = both (escape_byte x) (escape xs) (escaped x) (escape_quiet xs)

quoted_quiet : (s : List ℕ) → IsWhole (quoted s)
quoted_quiet s = both (escape s) (34 ∷ []) (escape_quiet s) refl

number_quiet : (n : Num) → IsWhole (number_text n)
number_quiet (trees.unsigned n) = number n
number_quiet (trees.negative z) = signed z
number_quiet (trees.float x) = refl

comma_quiet : (later : Bool) → IsWhole (comma_if later)
comma_quiet true = refl
comma_quiet false = refl

mutual
  json_quiet : (d : Data) → IsWhole (compact_text d)
  json_quiet trees.null = refl
  json_quiet (trees.boolean true) = refl
  json_quiet (trees.boolean false) = refl
  json_quiet (trees.number n) = number_quiet n
  json_quiet (trees.string s) = quoted_quiet s
  json_quiet (trees.array ds) = items_quiet false ds
  json_quiet (trees.object ms) = members_quiet false ms

  items_quiet : (later : Bool) (ds : Items) → IsWhole (items_text later ds)
  items_quiet later trees.no_items = refl
  items_quiet later (trees.item d ds) = both (comma_if later) (compact_text d ++ items_text true ds) (comma_quiet later)
      (both (compact_text d) (items_text true ds) (json_quiet d) (items_quiet true ds))

  members_quiet : (later : Bool) (ms : Members) → IsWhole (members_text later ms)
  members_quiet later trees.no_members = refl
  members_quiet later (trees.member k d ms) = both (comma_if later) (quoted k ++ 58 ∷ (compact_text d ++ members_text true ms)) (comma_quiet later)
      (both (quoted k) (58 ∷ (compact_text d ++ members_text true ms)) (quoted_quiet k)
      (both (compact_text d) (members_text true ms) (json_quiet d) (members_quiet true ms)))

pub json_is_whole : JsonIsWhole
json_is_whole d = json_quiet d

-- ---- words
spaced : (words : List (List ℕ)) → All IsWhole words → IsWhole (after_spaces words)
spaced [] all = refl
spaced (word ∷ words) all = both word (after_spaces words) (All-head IsWhole word words all) (spaced words (All-tail IsWhole word words all))

commas : (words : List (List ℕ)) → All IsWhole words → IsWhole (after_commas words)
commas [] all = refl
commas (word ∷ words) all = both word (after_commas words) (All-head IsWhole word words all) (commas words (All-tail IsWhole word words all))

listed_quiet : (words : List (List ℕ)) → All IsWhole words → IsWhole (listed words)
listed_quiet [] all = refl
listed_quiet (word ∷ words) all = both word (after_commas words) (All-head IsWhole word words all) (commas words (All-tail IsWhole word words all))

numbers : (ns : List ℕ) → All IsWhole (map decimal ns)
numbers [] = All-nil IsWhole
numbers (n ∷ ns) = All-cons IsWhole (decimal n) (map decimal ns) (number n) (numbers ns)

optional_number : (o : Option ℕ) → IsWhole (optional decimal o)
optional_number None = refl
optional_number (Some n) = number n

optional_name : (o : Option (List ℕ)) → IsGivenWhole o → IsWhole (optional (λ author. author) o)
optional_name None is = refl
optional_name (Some name) is = is

-- the same, of facts one by one
each : (words : List (List ℕ)) → AllByRecursion IsWhole words → IsWhole (after_spaces words)
each words facts = spaced words (All-from_recursion IsWhole words facts)

-- ---- versions
version_quiet : (h : History) (n : ℕ) (v : Version) → AreNamed h → IsGivenWhole v.author → IsLine (version_line h n v)
version_quiet h n v named author =
    let words = branch_name h v.branch ∷ optional decimal v.parent ∷ listed (map decimal v.merged) ∷ decimal (length v.«package»)
    ∷ listed (tags_of h n) ∷ optional (λ author. author) v.author ∷ optional decimal v.moment ∷ compact_text (trees.string v.message) ∷ [] in
    record {
      some = omega (arith, length-append (decimal n) (after_spaces words));
      whole = both (decimal n) (after_spaces words) (number n) (each words (
        named.branches v.branch,
        (
          optional_number v.parent,
          (
            listed_quiet (map decimal v.merged) (numbers v.merged),
            (
              number (length v.«package»),
              (
                listed_quiet (tags_of h n) (named.tags n),
                (optional_name v.author author, (optional_number v.moment, (json_quiet (trees.string v.message), tt))),
              ),
            ),
          ),
        ),
      ));
    }

versions_quiet : (h : History) (n : ℕ) (vs : List Version) → AreNamed h → All (λ v. IsGivenWhole v.author) vs → All IsLine (version_lines h n vs)
versions_quiet h n [] named authors = All-nil IsLine
versions_quiet h n (v ∷ vs) named authors =
    All-cons IsLine (version_line h n v) (version_lines h (suc n) vs)
    (version_quiet h n v named (All-head (λ (x : Version). IsGivenWhole x.author) v vs authors))
    (versions_quiet h (suc n) vs named (All-tail (λ (x : Version). IsGivenWhole x.author) v vs authors))

pub logs_are_lines : LogsAreLines
unfolding log_lines
logs_are_lines h named = versions_quiet h 0 h.versions named named.authors

-- ---- steps
value_quiet : (meta : Meta) (kind : Kind) (v : Value) → IsWhole (shown_text meta kind v)
value_quiet meta (Attr scalar default) v = json_quiet (data_of meta scalar v)
value_quiet meta (AttrMany scalar unique) v = json_quiet (data_of meta scalar v)
value_quiet meta (Bounded target opposite) v = refl
value_quiet meta (Free target opposite) v = refl
value_quiet meta (Contains target opposite) v = refl
value_quiet meta (Container target opposite) v = refl
value_quiet meta Skip v = refl

given_value : (meta : Meta) (f : ℕ) (o : Option Value) → IsWhole (optional (value_word meta f) o)
given_value meta f None = refl
given_value meta f (Some v) = value_quiet meta (kind_of meta f) v

place_quiet : (meta : Meta) → HasNames meta → (p : Place) → PlaceIsWhole p → IsWhole (place_word meta p)
place_quiet meta names Root is = refl
place_quiet meta names (Inside parent f) is = both parent (47 ∷ feature_name meta f) is (names.features f)

pub words_quiet : (meta : Meta) → HasNames meta → (s : Step) → StepIsWhole s → AllByRecursion IsWhole (step_words meta s)
unfolding step_words
words_quiet meta names (Put e f old new) is = (refl, (is, (names.features f, (given_value meta f old, (given_value meta f new, tt)))))
words_quiet meta names (Ins e f at v) is = (refl, (is, (names.features f, (number at, (value_quiet meta (kind_of meta f) v, tt)))))
words_quiet meta names (Del e f at v) is = (refl, (is, (names.features f, (number at, (value_quiet meta (kind_of meta f) v, tt)))))
words_quiet meta names (Shift e f from to) is = (refl, (is, (names.features f, (number from, (number to, tt)))))
words_quiet meta names (Link a f ra b rb) is = (refl, (is.0, (names.features f, (number ra, (is.1, (optional_number rb, tt))))))
words_quiet meta names (Unlink a f ra b rb) is = (refl, (is.0, (names.features f, (number ra, (is.1, (optional_number rb, tt))))))
words_quiet meta names (RerankRow a f b old new) is = (refl, (is.0, (names.features f, (is.1, (number old, (number new, tt))))))
words_quiet meta names (New e class place rank) is = (refl, (is.0, (names.classes class, (place_quiet meta names place is.1, (number rank, tt)))))
words_quiet meta names (Gone e class place rank) is = (refl, (is.0, (names.classes class, (place_quiet meta names place is.1, (number rank, tt)))))
words_quiet meta names (Move e from from_rank to to_rank above_from above_to) is =
    (refl, (is.0, (place_quiet meta names from is.1, (number from_rank, (place_quiet meta names to is.2, (number to_rank, tt))))))
words_quiet meta names (RerankPlace e old new) is = (refl, (is, (number old, (number new, tt))))

some_words : (meta : Meta) (s : Step) → 0 < length (step_line meta s)
unfolding step_words
some_words meta (Put e f old new) = omega arith
some_words meta (Ins e f at v) = omega arith
some_words meta (Del e f at v) = omega arith
some_words meta (Shift e f from to) = omega arith
some_words meta (Link a f ra b rb) = omega arith
some_words meta (Unlink a f ra b rb) = omega arith
some_words meta (RerankRow a f b old new) = omega arith
some_words meta (New e class place rank) = omega arith
some_words meta (Gone e class place rank) = omega arith
some_words meta (Move e from from_rank to to_rank above_from above_to) = omega arith
some_words meta (RerankPlace e old new) = omega arith

steps_quiet : (meta : Meta) → HasNames meta → (steps : List Step) → All StepIsWhole steps → All IsLine (map (step_line meta) steps)
steps_quiet meta names [] all = All-nil IsLine
steps_quiet meta names (s ∷ steps) all =
    All-cons IsLine (step_line meta s) (map (step_line meta) steps)
    (record { some = some_words meta s; whole = each (step_words meta s) (words_quiet meta names s (All-head StepIsWhole s steps all)) })
    (steps_quiet meta names steps (All-tail StepIsWhole s steps all))

-- ---- operations
kind_quiet : (kind : OpKind) → IsWhole (kind_word kind)
kind_quiet kinds.Create = refl
kind_quiet kinds.Delete = refl
kind_quiet kinds.Attribute = refl
kind_quiet kinds.ManyAttribute = refl
kind_quiet kinds.Reference = refl
kind_quiet kinds.Move = refl

kinds_quiet : (o : Operation) → NameIsWhole o → AllByRecursion IsWhole (kind_words o)
kinds_quiet (Simple kind steps) is = (kind_quiet kind, tt)
kinds_quiet (Composite name steps) is = (refl, (is, tt))

operation_quiet : (n : ℕ) (o : Operation) → NameIsWhole o → IsLine (operation_line n o)
operation_quiet n o is = record {
  some = omega arith;
  whole = both (codes "op") (after_spaces (decimal n ∷ kind_words o)) refl (each (decimal n ∷ kind_words o) (number n, kinds_quiet o is));
}

from_quiet : (meta : Meta) → HasNames meta → (n : ℕ) (os : List Operation) → All OperationIsWhole os → All IsLine (lines_from meta n os)
from_quiet meta names n [] all = All-nil IsLine
from_quiet meta names n (o ∷ os) all =
    let first = All-head OperationIsWhole o os all in
    All-cons IsLine (operation_line n o) (map (step_line meta) (steps_of o) ++ lines_from meta (suc n) os) (operation_quiet n o first.0)
    (All-append IsLine (map (step_line meta) (steps_of o)) (lines_from meta (suc n) os) (steps_quiet meta names (steps_of o) first.1)
    (from_quiet meta names (suc n) os (All-tail OperationIsWhole o os all)))

pub operations_are_lines : OperationsAreLines
unfolding operation_lines
operations_are_lines meta operations names all = from_quiet meta names 1 operations all

pub open_are_lines : OpenAreLines
unfolding open_lines
open_are_lines meta name steps names is all =
    All-cons IsLine (codes "open" ++ after_spaces (name ∷ [])) (map (step_line meta) steps)
    (record { some = omega arith; whole = both (codes "open") (after_spaces (name ∷ [])) refl (each (name ∷ []) (is, tt)) })
    (steps_quiet meta names steps all)

-- ---- bytes of operations
digit_quiet : (t : List ℕ) → IsWhole t → (i : ℕ) → is_lf (get_or t i 0) ≡ false
digit_quiet [] quiet i = refl
digit_quiet (x ∷ xs) quiet zero = first (is_lf x) (list_any is_lf xs) quiet
  where
    first : (a b : Bool) → (a || b) ≡ false → a ≡ false
    first true b e = cc
    first false b e = refl
digit_quiet (x ∷ xs) quiet (suc i) = digit_quiet xs (rest (is_lf x) (list_any is_lf xs) quiet) i
  where
    rest : (a b : Bool) → (a || b) ≡ false → b ≡ false
    rest true b e = cc
    rest false b e = e

hex_text_quiet : (bytes : List ℕ) → IsWhole (encode_lower bytes)
unfolding encode_with
hex_text_quiet [] = refl
hex_text_quiet (b ∷ bytes) =
    rw (digit_quiet lower_digits refl (b / 16)) (rw (digit_quiet lower_digits refl (b % 16)) (hex_text_quiet bytes))

pub packages_are_lines : PackagesAreLines
unfolding package_lines
packages_are_lines meta operations names all =
    let bytes = encode_lower (package_encoding operations) in
    All-append IsLine (operation_lines meta operations) ((codes "hex " ++ bytes) ∷ []) (operations_are_lines meta operations names all)
    (All-cons IsLine (codes "hex " ++ bytes) []
    (record { some = omega arith; whole = both (codes "hex ") bytes refl (hex_text_quiet (package_encoding operations)) }) (All-nil IsLine))

-- ---- what a model lacks
shortage_quiet : (meta : Meta) → HasNames meta → (m : State) (e : IdBytes) (f : ℕ) → IsWhole e → IsLine (shortage_line meta m e f)
shortage_quiet meta names m e f is =
    let words = feature_name meta f ∷ decimal (held_in meta m e f) ∷ decimal (lower_of meta f) ∷ [] in
    record {
      some = omega (arith, length-append e (after_spaces words));
      whole = both e (after_spaces words) is (each words (names.features f, (number (held_in meta m e f), (number (lower_of meta f), tt))));
    }

features_quiet : (meta : Meta) → HasNames meta → (m : State) (e : IdBytes) (fs : List ℕ) → IsWhole e → All IsLine (feature_lines meta m e fs)
features_quiet meta names m e [] is = All-nil IsLine
features_quiet meta names m e (f ∷ fs) is = by (nat_lt (held_in meta m e f) (lower_of meta f)) (features_quiet meta names m e fs is)
  where
    by : (b : Bool) → All IsLine (feature_lines meta m e fs) → All IsLine (cond b (shortage_line meta m e f ∷ []) [] ++ feature_lines meta m e fs)
    by true more = All-cons IsLine (shortage_line meta m e f) (feature_lines meta m e fs) (shortage_quiet meta names m e f is) more
    by false more = more

elements_quiet : (meta : Meta) → HasNames meta → (m : State) (es : List IdBytes) → All IsWhole es → All IsLine (element_lines meta m es)
elements_quiet meta names m [] all = All-nil IsLine
elements_quiet meta names m (e ∷ es) all =
    let fs = features_at meta (get m.kind e) in
    All-append IsLine (feature_lines meta m e fs) (element_lines meta m es)
    (features_quiet meta names m e fs (All-head IsWhole e es all)) (elements_quiet meta names m es (All-tail IsWhole e es all))

pub shortages_are_lines : ShortagesAreLines
unfolding validate_lines
shortages_are_lines meta m names all = elements_quiet meta names m (ids m) all

-- ---- operations in conflict
one_more : (places : List ℕ) → All IsWhole (buckets.numbers places)
one_more [] = All-nil IsWhole
one_more (place ∷ places) = All-cons IsWhole (decimal (place + 1)) (buckets.numbers places) (number (place + 1)) (one_more places)

bucket_quiet : (n : ℕ) (b : Bucket) → IsLine (bucket_line n b)
bucket_quiet n b =
    let words = decimal n ∷ codes "theirs" ∷ listed (buckets.numbers b.theirs) ∷ codes "mine" ∷ listed (buckets.numbers b.mine) ∷ [] in
    record {
      some = omega arith;
      whole = both (codes "bucket") (after_spaces words) refl (each words (
        number n,
        (refl, (listed_quiet (buckets.numbers b.theirs) (one_more b.theirs), (refl, (listed_quiet (buckets.numbers b.mine) (one_more b.mine), tt)))),
      ));
    }

rows_quiet : (n : ℕ) (bs : List Bucket) → All IsLine (bucket_lines_from n bs)
rows_quiet n [] = All-nil IsLine
rows_quiet n (b ∷ bs) = All-cons IsLine (bucket_line n b) (bucket_lines_from (suc n) bs) (bucket_quiet n b) (rows_quiet (suc n) bs)

pub buckets_are_lines : BucketsAreLines
unfolding bucket_lines
buckets_are_lines b = rows_quiet 1 b.rows

-- ---- the text of a model
-- an array or an object has a bracket
element_some : (meta : Meta) (m : State) (n : ℕ) (e : IdBytes) → 0 < length (compact_text (element meta m n e))
unfolding element
element_some meta m zero e = omega arith
element_some meta m (suc n) e = by (get m.kind e)
  where
    by : (class : Option ℕ) → 0 < length (compact_text (object_of meta m (element meta m n) e class))
    by None = omega arith
    by (Some c) = omega arith

whole_some : (meta : Meta) (m : State) (e : IdBytes) → 0 < length (compact_text (whole meta m e))
unfolding whole
whole_some meta m e = element_some meta m (len m.kind) e

one_some : (single : Bool) (d : Data) (ds : List Data) → 0 < length (compact_text d) → 0 < length (compact_text (one_or_all single d ds))
one_some true d [] some = some
one_some true d (x ∷ xs) some = omega arith
one_some false d ds some = omega arith

roots_some : (meta : Meta) (m : State) (es : List IdBytes) → 0 < length (compact_text (one_or_list true (map (whole meta m) es)))
roots_some meta m [] = omega arith
roots_some meta m (e ∷ es) = one_some true (whole meta m e) (map (whole meta m) es) (whole_some meta m e)

pub texts_are_lines : TextsAreLines
texts_are_lines meta m = record { some = roots_some meta m (child_ids m Root); whole = json_quiet (tree meta m) }
