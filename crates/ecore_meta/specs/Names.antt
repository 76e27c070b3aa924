-- Names, and where they stand in a list.
use Rattle.std.specs.Prelude.{◌≡◌, ℕ, suc, Bool, true, false, List, [], ◌∷◌, Option, None, Some, ◌||◌, cond}
use Rattle.std.specs.List.{list_any}
use Rattle.std.specs.Option.{option_map}
use Rattle.std.specs.Str.{bytes_eq}
use Rattle.std.specs.BTreeMap.{BTreeMap, get_by}
use Rattle.std.specs.Cmp.Lexicographic.{slice_cmp}
use Rattle.std.specs.Ordering.{nat_cmp}
use denote.Ref.{Bor}

-- a name, as its bytes
abbrev pub Name : Type 0
Name = List ℕ

-- some name stands twice in the list
abbrev pub has_repeat : List Name → Bool
has_repeat [] = false
has_repeat (x ∷ xs) = list_any (bytes_eq x) xs || has_repeat xs

-- the place of a name in the list, the first if there are several
abbrev pub number_of : Name → List Name → Option ℕ
number_of q [] = None
number_of q (x ∷ xs) = cond (bytes_eq q x) (Some 0) (option_map (λ n. suc n) (number_of q xs))

-- the place that an index of borrowed names has for a name
abbrev pub place_in : BTreeMap (Bor Name) ℕ → Name → Option ℕ
place_in index q = get_by (λ k. slice_cmp nat_cmp q k.now) index

-- no index where a name stands twice, else one that has the place of each name
abbrev pub Indexes : List Name → Option (BTreeMap (Bor Name) ℕ) → Type 0
Indexes names None = has_repeat names ≡ true
Indexes names (Some index) = (has_repeat names ≡ false) × ((q : Name) → place_in index q ≡ number_of q names)
