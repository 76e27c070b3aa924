-- What the questions `query` and `blame` are answered.
use Rattle.std.specs.Prelude.{◌≡◌, ℕ, Bool, true, false, List, [], codes, Option, None, Some, Result, Ok, Err, if◌then◌else◌}
use Rattle.std.specs.Fmt.{decimal}
use Rattle.std.specs.Option.{ok_or}
use Rattle.byte_form.specs.Fields.{◌>>=◌}
use Rattle.ecore_meta.specs.Meta.{Meta, class_named, feature_named}
use Rattle.ecore_meta.specs.Typing.{kind_of}
use Rattle.ecore_meta.specs.declared.meta.Kind.{Kind}
use Rattle.ecore_meta.specs.declared.meta.Kind.TheVariants.{Attr, AttrMany, Bounded, Free, Contains, Container, Skip}
use Rattle.model_state.specs.Ident.{is_id}
use Rattle.model_state.specs.Keys.{IdBytes}
use Rattle.history_tree.specs.declared.found.Found.{Found}
use Rattle.history_tree.specs.declared.found.FindFault.{FindFault}
use Rattle.history_tree.specs.History.{History}
use Rattle.script_lang.specs.declared.command.Spec.{Spec}
use Rattle.script_lang.specs.declared.reply.Refusal.{Refusal}
use Rattle.script_lang.specs.declared.reply.Refusal.TheVariants as refusals
use Rattle.script_lang.specs.declared.reply.Last.TheVariants as last
use Rattle.script_lang.specs.declared.reply.Reply.{Reply}
use Rattle.plain_repository.specs.State.{State}
use Rattle.plain_repository.specs.Specs.{found_by_spec, unknown}
use Rattle.feature_writers.specs.declared.fault.Fault.{Fault}
use Rattle.feature_writers.specs.declared.fault.Fault.TheVariants as faults
use Rattle.feature_writers.specs.Writers.{last_write, blame_lines}

-- ---- what the words of a question name, each with its refusal
-- the version that was found
abbrev pub version_of : Result Found FindFault → Result ℕ Refusal
version_of (Ok found) = Ok found.version
version_of (Err fault) = Err (unknown fault)

-- the id that the word is
abbrev pub id_of : List ℕ → Result IdBytes Refusal
id_of word = if is_id word then Ok word else Err refusals.BadId

-- Does an element hold values or references of that kind itself? What contains it and what it contains is said by places, and what is
-- skipped isn't there.
abbrev pub is_held : Kind → Bool
is_held (Attr scalar default) = true
is_held (AttrMany scalar unique) = true
is_held (Bounded target opposite) = true
is_held (Free target opposite) = true
is_held (Contains target opposite) = false
is_held (Container target opposite) = false
is_held Skip = false

-- the feature, where it is of such a kind
abbrev pub if_held : Meta → ℕ → Result ℕ Refusal
if_held meta f = if is_held (kind_of meta f) then Ok f else Err refusals.WrongKind

-- the feature of that name, in the class of that name
unfoldable pub feature_of : Meta → List ℕ → List ℕ → Result ℕ Refusal
feature_of meta class feature = do
  c ← ok_or (class_named meta class) refusals.NoClass
  f ← ok_or (feature_named meta c feature) refusals.NoFeature
  if_held meta f

-- ---- what is asked, or the refusal of the first word that names nothing
-- `query SPEC ID CLASS FEATURE`: the last version up to SPEC that wrote the feature of the element, or none
unfoldable pub query_of : State → Spec → List ℕ → List ℕ → List ℕ → Result (Option ℕ) Refusal
query_of s spec word class feature = do
  meta ← ok_or s.meta refusals.NotInit
  v ← version_of (found_by_spec s.history spec)
  e ← id_of word
  f ← feature_of meta class feature
  Ok (last_write meta s.history v e f)

-- `blame SPEC ID`: a line for each feature of the element that some version up to SPEC wrote
unfoldable pub blame_of : State → Spec → List ℕ → Result (List (List ℕ)) Refusal
blame_of s spec word = do
  meta ← ok_or s.meta refusals.NotInit
  v ← version_of (found_by_spec s.history spec)
  e ← id_of word
  Ok (blame_lines meta s.history v e)

-- ---- how that is said
-- a version's number, or `-` for none
abbrev pub version_words : Option ℕ → List ℕ
version_words None = codes "-"
version_words (Some u) = decimal u

-- `ok` and the version, or the refusal
abbrev pub version_told : Result (Option ℕ) Refusal → Reply
version_told (Ok found) = record { lines = []; last = last.Ok (version_words found) }
version_told (Err refusal) = record { lines = []; last = last.No refusal }

-- the lines and `ok`, or the refusal
abbrev pub lines_told : Result (List (List ℕ)) Refusal → Reply
lines_told (Ok lines) = record { lines = lines; last = last.Ok [] }
lines_told (Err refusal) = record { lines = []; last = last.No refusal }

-- the reply to `query`
abbrev pub query_reply : State → Spec → List ℕ → List ℕ → List ℕ → Reply
query_reply s spec word class feature = version_told (query_of s spec word class feature)

-- the reply to `blame`
abbrev pub blame_reply : State → Spec → List ℕ → Reply
blame_reply s spec word = lines_told (blame_of s spec word)

-- the fault names the refusal; out of memory says nothing of what is asked
abbrev pub IsRefused : {X : Type 0} → Fault → Result X Refusal → Type 0
IsRefused faults.Memory asked = Unit {0}
IsRefused (faults.Refused refusal) asked = asked ≡ Err refusal

-- a call gave what is asked, or its refusal
abbrev pub Gives : {X : Type 0} → Result X Fault → Result X Refusal → Type 0
Gives (Ok x) asked = asked ≡ Ok x
Gives (Err e) asked = IsRefused e asked
