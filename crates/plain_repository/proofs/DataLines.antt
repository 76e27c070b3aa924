-- Which lines begin as the last line of a reply does, and which don't.
use Rattle.std.proofs.Common.{◌≡◌, ℕ, zero, suc, ◌+◌, ◌/◌, ◌%◌, ◌<◌, List, [], ◌∷◌, ◌++◌, map, take, Bool, true, false, ◌&&◌, ◌||◌, cond, nat_eq}
use Rattle.std.proofs.Common.{nat_lt, Option, None, Some, refl, sym, subst, arith}
use Rattle.std.specs.Prelude.{All}
use Rattle.std.specs.Cmp.Lexicographic.{pointwise}
use Rattle.std.specs.Fmt.{decimal, digits, digits_onto, digit_glyph}
use Rattle.std.proofs.lemmas.Bool.{ne_eqb}
use Rattle.std.proofs.lemmas.List.Elements.{All-append, All-cons, All-nil}
use Rattle.serde_json.specs.Data.{Data, object, Members, no_members}
use Rattle.serde_json.specs.Written.{compact_text}
use Rattle.ecore_meta.specs.Meta.{Meta}
use Rattle.std.specs.FinMap.{get, len}
use Rattle.model_state.specs.Keys.{IdBytes}
use Rattle.model_state.specs.State as models
use Rattle.model_state.specs.declared.step.Place.TheVariants.{Root}
use Rattle.model_state.specs.Packages.{steps_of}
use Rattle.model_state.specs.declared.step.Step.{Step}
use Rattle.model_state.specs.declared.step.Step.TheVariants.{Put, Ins, Del, Shift, Link, Unlink, RerankRow, New, Gone, Move, RerankPlace}
use Rattle.model_state.specs.declared.operation.Operation.{Operation}
use Rattle.history_tree.specs.declared.version.Version.{Version}
use Rattle.history_tree.specs.History.{History}
use Rattle.footprint.specs.declared.bucket.Bucket.{Bucket}
use Rattle.model_texts.specs.Keys.{key_name, keys_of}
use Rattle.model_texts.specs.Tree.{child_ids, element, members, object_of, one_or_list, part, text, whole}
use Rattle.shown_lines.specs.Lines.{step_words, step_line, operation_line, lines_from, operation_lines, open_lines}
use Rattle.shown_lines.specs.Versions.{version_line, version_lines, log_lines, package_lines}
use Rattle.shown_lines.specs.Buckets.{bucket_line, bucket_lines_from, bucket_lines}
use Rattle.script_lang.specs.declared.reply.Last.TheVariants as last
use Rattle.plain_repository.specs.State.{Composite}
use Rattle.plain_repository.specs.Views.{lines_of_open}
use Rattle.plain_repository.specs.Laws.{looks_last, LastLinesLook}

pub last_lines_look : LastLinesLook
last_lines_look (last.Ok []) = refl
last_lines_look (last.Ok (b ∷ bs)) = refl
last_lines_look (last.No refusal) = refl

-- a line that doesn't look like a last line
abbrev pub Apart : List ℕ → Type 0
Apart line = looks_last line ≡ false

pub no_lines : All Apart []
no_lines = All-nil Apart

pub one_line : (line : List ℕ) → Apart line → All Apart (line ∷ [])
one_line line apart = All-cons Apart line [] apart no_lines

-- ---- operations
step_apart : (meta : Meta) (s : Step) → Apart (step_line meta s)
unfolding step_words
step_apart meta (Put e f old new) = refl
step_apart meta (Ins e f at v) = refl
step_apart meta (Del e f at v) = refl
step_apart meta (Shift e f from to) = refl
step_apart meta (Link a f ra b rb) = refl
step_apart meta (Unlink a f ra b rb) = refl
step_apart meta (RerankRow a f b old new) = refl
step_apart meta (New e class place rank) = refl
step_apart meta (Gone e class place rank) = refl
step_apart meta (Move e from from_rank to to_rank above_from above_to) = refl
step_apart meta (RerankPlace e old new) = refl

steps_apart : (meta : Meta) (steps : List Step) → All Apart (map (step_line meta) steps)
steps_apart meta [] = no_lines
steps_apart meta (s ∷ steps) = All-cons Apart (step_line meta s) (map (step_line meta) steps) (step_apart meta s) (steps_apart meta steps)

from_apart : (meta : Meta) (n : ℕ) (os : List Operation) → All Apart (lines_from meta n os)
from_apart meta n [] = no_lines
from_apart meta n (o ∷ os) =
    All-cons Apart (operation_line n o) (map (step_line meta) (steps_of o) ++ lines_from meta (suc n) os) refl
    (All-append Apart (map (step_line meta) (steps_of o)) (lines_from meta (suc n) os) (steps_apart meta (steps_of o)) (from_apart meta (suc n) os))

operations_apart : (meta : Meta) (os : List Operation) → All Apart (operation_lines meta os)
unfolding operation_lines
operations_apart meta os = from_apart meta 1 os

open_apart : (meta : Meta) (composite : Option Composite) → All Apart (lines_of_open meta composite)
unfolding open_lines
open_apart meta None = no_lines
open_apart meta (Some composite) = All-cons Apart _ (map (step_line meta) composite.steps) refl (steps_apart meta composite.steps)

pub changes_apart : (meta : Meta) (os : List Operation) (composite : Option Composite) → All Apart (operation_lines meta os ++ lines_of_open meta composite)
changes_apart meta os composite =
    All-append Apart (operation_lines meta os) (lines_of_open meta composite) (operations_apart meta os) (open_apart meta composite)

pub package_apart : (meta : Meta) (os : List Operation) → All Apart (package_lines meta os)
unfolding package_lines
package_apart meta os = All-append Apart (operation_lines meta os) _ (operations_apart meta os) (one_line _ refl)

-- ---- buckets
buckets_from : (n : ℕ) (rows : List Bucket) → All Apart (bucket_lines_from n rows)
buckets_from n [] = no_lines
buckets_from n (b ∷ rows) = All-cons Apart (bucket_line n b) (bucket_lines_from (suc n) rows) refl (buckets_from (suc n) rows)

pub buckets_apart : (rows : List Bucket) → All Apart (bucket_lines (record { rows = rows }))
unfolding bucket_lines
buckets_apart rows = buckets_from 1 rows

-- ---- the text of a model
-- what an element is written as is an object
record IsObject (d : Data) : Type 0 where
  held : Members
  is : d ≡ object held

class_object : (meta : Meta) (m : models.State) (below : IdBytes → Data) (e : IdBytes) (class : Option ℕ) → IsObject (object_of meta m below e class)
class_object meta m below e None = record { held = no_members; is = refl }
class_object meta m below e (Some c) = record { held = members (key_name meta) (part meta m below e c) (keys_of meta c); is = refl }

element_object : (meta : Meta) (m : models.State) (n : ℕ) (e : IdBytes) → IsObject (element meta m n e)
unfolding element
element_object meta m zero e = record { held = no_members; is = refl }
element_object meta m (suc n) e = class_object meta m (element meta m n) e (get m.kind e)

whole_object : (meta : Meta) (m : models.State) (e : IdBytes) → IsObject (whole meta m e)
unfolding whole
whole_object meta m e = element_object meta m (len m.kind) e

object_apart : (d : Data) → IsObject d → Apart (compact_text d)
object_apart d o = subst (λ (x : Data). Apart (compact_text x)) (sym o.is) refl

roots_apart : (meta : Meta) (m : models.State) (es : List IdBytes) → Apart (compact_text (one_or_list true (map (whole meta m) es)))
roots_apart meta m [] = refl
roots_apart meta m (e ∷ []) = object_apart (whole meta m e) (whole_object meta m e)
roots_apart meta m (e ∷ f ∷ es) = refl

pub text_apart : (meta : Meta) (m : models.State) → All Apart (text meta m ∷ [])
text_apart meta m = one_line (text meta m) (roots_apart meta m (child_ids m Root))

-- ---- the versions
-- a list that begins with a byte of a digit
record IsNumeral (line : List ℕ) : Type 0 where
  first : ℕ
  rest : List ℕ
  is : line ≡ first ∷ rest
  low : first < 100

digit_low : (d : ℕ) → d < 10 → (b : Bool) → nat_lt d 10 ≡ b → cond b (48 + d) (87 + d) < 100
digit_low d small true is = omega arith
digit_low d small false is = omega arith

last_digit : (n : ℕ) (acc : List ℕ) → IsNumeral (digit_glyph false (n % 10) ∷ acc)
last_digit n acc = record { first = digit_glyph false (n % 10); rest = acc; is = refl; low = digit_low (n % 10) (omega arith) (nat_lt (n % 10) 10) refl }

one_of : (b : Bool) (x y : List ℕ) → IsNumeral x → IsNumeral y → IsNumeral (cond b x y)
one_of true x y first second = first
one_of false x y first second = second

onto_numeral : (k n : ℕ) (acc : List ℕ) → IsNumeral (digits_onto (suc k) 10 false n acc)
onto_numeral zero n acc = one_of (nat_eq (n / 10) 0) _ _ (last_digit n acc) (last_digit n acc)
onto_numeral (suc k) n acc = one_of (nat_eq (n / 10) 0) _ _ (last_digit n acc) (onto_numeral k (n / 10) (digit_glyph false (n % 10) ∷ acc))

decimal_numeral : (n : ℕ) → IsNumeral (decimal n)
unfolding digits
decimal_numeral n = onto_numeral 63 n []

neither : (p q x y : Bool) → p ≡ false → q ≡ false → ((p && x) || (q && y)) ≡ false
neither true q x y one two = absurd cc
neither false true x y one two = absurd cc
neither false false x y one two = refl

low_apart : (first : ℕ) (rest : List ℕ) → first < 100 → Apart (first ∷ rest)
low_apart first rest low =
    neither (nat_eq first 111) (nat_eq first 110) (pointwise nat_eq (take 1 rest) (107 ∷ [])) (pointwise nat_eq (take 1 rest) (111 ∷ []))
    (ne_eqb first 111 (λ is. omega (arith, is, low))) (ne_eqb first 110 (λ is. omega (arith, is, low)))

numeral_apart : (line more : List ℕ) → IsNumeral line → Apart (line ++ more)
numeral_apart line more numeral = subst (λ (l : List ℕ). Apart (l ++ more)) (sym numeral.is) (low_apart numeral.first (numeral.rest ++ more) numeral.low)

versions_apart : (h : History) (n : ℕ) (vs : List Version) → All Apart (version_lines h n vs)
versions_apart h n [] = no_lines
versions_apart h n (v ∷ vs) =
    All-cons Apart (version_line h n v) (version_lines h (suc n) vs) (numeral_apart (decimal n) _ (decimal_numeral n)) (versions_apart h (suc n) vs)

pub log_apart : (h : History) → All Apart (log_lines h)
unfolding log_lines
log_apart h = versions_apart h 0 h.versions
