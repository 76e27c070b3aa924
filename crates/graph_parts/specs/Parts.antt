-- What the parts of an element are seen as, with their codes.
use Rattle.std.specs.Prelude.{◌≡◌, ℕ, Bool, false, cond, List, Option, None, Some}
use Rattle.std.specs.declared.cmp.Ordering.{Ordering}
use Rattle.std.specs.Ordering.{nat_cmp}
use Rattle.std.specs.FinMap.{FinMap, code, from_entries, get}
use Rattle.std.specs.Coded.{Coded, coded_ℕ, coded_list, coded×}
use Rattle.finite_maps.specs.Nested.{pair_cmp}
use Rattle.spread_maps.specs.Spread.{Joined, spread, is_bare}
use Rattle.ecore_meta.specs.declared.meta.Value.{Value}
use Rattle.ecore_meta.specs.contracts.meta.Value as value_type
use Rattle.model_state.specs.declared.entry.Incoming.{Incoming}
use Rattle.model_state.specs.Keys.{IdBytes, AttrKey, id_cmp, attr_cmp}
use Rattle.ranked_lists.specs.Ranks.{Ranks, coded_id}

-- what stands by feature in one vector; the first of a feature tells
abbrev pub flat : {X : Type 0} → List (ℕ × X) → FinMap nat_cmp X
flat es = from_entries es

-- a feature and an element
abbrev pub ListKey : Type 0
ListKey = ℕ × IdBytes

-- by the feature, and then by the element
abbrev pub list_key_cmp : ListKey → ListKey → Ordering
list_key_cmp = pair_cmp nat_cmp id_cmp

-- the lists of all features
abbrev pub Lists : Type 0
Lists = FinMap list_key_cmp ℕ

-- the code of the lists
abbrev pub lists_code : Coded Lists
lists_code = code (coded× coded_ℕ coded_id) coded_ℕ

-- a key of the lists is a feature, and an element of its list
abbrev pub by_list : Joined ℕ IdBytes ListKey
by_list = record { first = λ k. k.0; second = λ k. k.1; both = λ f e. (f, e) }

-- the lists that stand by feature
abbrev pub feature_lists : List (ℕ × Ranks) → Lists
feature_lists es = spread list_key_cmp by_list (λ (g : Ranks). g) (flat es)

-- each list that is held has an element
abbrev pub AreFilled : List (ℕ × Ranks) → Type 0
AreFilled es = (f : ℕ) (g : Ranks) → get (flat es) f ≡ Some g → is_bare g ≡ false

-- a list that is there and has no element
abbrev pub is_emptied : Option Ranks → Bool
is_emptied None = false
is_emptied (Some g) = is_bare g

-- a list that is there, where it has an element
abbrev pub if_filled : Option Ranks → Option Ranks
if_filled None = None
if_filled (Some g) = cond (is_bare g) None (Some g)

-- the values of the attributes of an element
abbrev pub Values : Type 0
Values = FinMap nat_cmp (List Value)

-- the code of those values
abbrev pub values_code : Coded Values
values_code = code coded_ℕ (coded_list value_type.the_row.coded)

-- the references to an element, by source and feature
abbrev pub IncomingRanks : Type 0
IncomingRanks = FinMap attr_cmp ℕ

-- the code of those references
abbrev pub incoming_code : Coded IncomingRanks
incoming_code = code (coded× coded_id coded_ℕ) coded_ℕ

-- a reference to an element, with its rank
abbrev pub incoming_of : AttrKey × ℕ → Incoming
incoming_of e = record { source = e.0.0; feature = e.0.1; rank = e.1 }
