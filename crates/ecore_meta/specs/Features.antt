-- What the index of features by name holds.
use Rattle.std.specs.Prelude.{◌≡◌, ℕ, List, [], ◌∷◌, Some, map}
use Rattle.std.specs.BTreeMap.{BTreeMap, get}
use Rattle.std.specs.Ordering.{nat_cmp}
use Rattle.ecore_meta.specs.Meta.{first_named}
use Rattle.ecore_meta.specs.Names.{Name, number_of}
use Rattle.ecore_meta.specs.declared.meta.Class.{Class}
use Rattle.ecore_meta.specs.declared.meta.Feature.{Feature}

-- under the number of each name, that of the first feature that has it, stands the first of the numbers whose feature has that name
abbrev pub Listed : List Feature → List ℕ → BTreeMap ℕ ℕ → Type 0
Listed features numbers m = (q : Name) (k : ℕ) → number_of q (map (λ f. f.name) features) ≡ Some k → get nat_cmp m k ≡ first_named features numbers q

-- the same of the features of each class
abbrev pub AllListed : List Feature → List Class → List (BTreeMap ℕ ℕ) → Type 0
AllListed features [] [] = Unit {0}
AllListed features [] (m ∷ ms) = ⊥
AllListed features (c ∷ cs) [] = ⊥
AllListed features (c ∷ cs) (m ∷ ms) = Listed features c.features m × AllListed features cs ms
