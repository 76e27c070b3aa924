-- How often each value is held.
use Rattle.std.specs.Prelude.{◌≡◌, ℕ, ◌+◌, Bool, true, false, cond, List, ℤ, String}
use Rattle.std.specs.List.{count_by}
use Rattle.std.specs.Option.{unwrap_or}
use Rattle.std.specs.Ordering.{nat_cmp, int_cmp}
use Rattle.std.specs.BTreeMap.{BTreeMap, get, get_by_text}
use Rattle.ecore_meta.specs.declared.meta.Value.{Value}
use Rattle.ecore_meta.specs.declared.meta.Value.TheVariants.{Text, Flag, Whole, Literal}
use Rattle.model_state.specs.Typing.{value_eq}
use Rattle.value_counts.specs.declared.counts.ValueCounts.{ValueCounts}

-- how often a text is counted
abbrev pub text_count : {Y : Type 0} → BTreeMap (String Y) ℕ → List ℕ → ℕ
text_count tree q = unwrap_or (get_by_text tree q) 0

-- how often a whole number is
abbrev pub whole_count : BTreeMap ℤ ℕ → ℤ → ℕ
whole_count tree q = unwrap_or (get int_cmp tree q) 0

-- how often a literal is, by its number
abbrev pub literal_count : BTreeMap ℕ ℕ → ℕ → ℕ
literal_count tree q = unwrap_or (get nat_cmp tree q) 0

-- how often a value is
abbrev pub count_of : ValueCounts → Value → ℕ
count_of c (Text t) = text_count c.texts t
count_of c (Flag true) = c.yes
count_of c (Flag false) = c.no
count_of c (Whole n) = whole_count c.wholes n
count_of c (Literal n) = literal_count c.literals n

-- one for what is the same
abbrev pub once : Bool → ℕ
once same = cond same 1 0

-- each value is counted as often as the list has it
pub record Counts (c : ValueCounts) (vs : List Value) : Type 0 where
  pub each : (w : Value) → count_of c w ≡ count_by (value_eq w) vs

-- the value is counted once more, and each other as often as before
pub record IsOneMore (old new : ValueCounts) (v : Value) : Type 0 where
  pub each : (w : Value) → count_of new w ≡ count_of old w + once (value_eq w v)

-- each value is counted as often as before
pub record IsSame (old new : ValueCounts) : Type 0 where
  pub each : (w : Value) → count_of new w ≡ count_of old w
