-- Tidy, as a function.
use Rattle.std.specs.Prelude.{◌≡◌, ℕ, zero, suc, Bool, true, false, List, [], ◌∷◌, ◌++◌, Option, None, Some, length}
use Rattle.std.specs.Option.{option_map}
use Rattle.ecore_meta.specs.Meta.{Meta}
use Rattle.model_state.specs.declared.operation.Operation.{Operation}
use Rattle.footprint.specs.Interference.{interferes}
use Rattle.merge_laws.specs.Split.{split, EachAlone}
use Rattle.merge_laws.specs.Rules.{met, NoRule}
use Rattle.merge_laws.specs.Equal.{package_eq}

-- the first list, which stands nearest first, put back before the second
abbrev pub onto : List Operation → List Operation → List Operation
onto [] rest = rest
onto (a ∷ before) rest = onto before (a ∷ rest)

-- from what a rule leaves of a and b, or else whether a stops b, or else what comes of b further on
abbrev pub met_or : Option (List Operation) → Bool → Operation → List Operation → Option (List Operation) → Option (List Operation)
met_or (Some left) stops a before further = Some (left ++ before)
met_or None true a before further = None
met_or None false a before further = option_map (λ after. a ∷ after) further

-- the operations before b, nearest first, after a rule for b and the nearest that it applies to
abbrev pub into : Meta → Operation → List Operation → Option (List Operation)
into meta b [] = None
into meta b (a ∷ before) = met_or (met a b) (interferes meta b a) a before (into meta b before)

-- what is left where a rule applied, put back before the rest, or else what comes of the list further on
abbrev pub put_back : Option (List Operation) → List Operation → Option (List Operation) → Option (List Operation)
put_back (Some after) rest further = Some (onto after rest)
put_back None rest further = further

-- the list after one rule, at the first operation that a rule applies to
abbrev pub once : Meta → List Operation → List Operation → Option (List Operation)
once meta before [] = None
once meta before (b ∷ rest) = put_back (into meta b before) rest (once meta (b ∷ before) rest)

-- rules one at a time, at most n of them
abbrev pub settle : Meta → ℕ → List Operation → List Operation
settle meta zero p = p
settle meta (suc n) p = elim (once meta [] p) [ None ↦ p | Some q ↦ settle meta n q ]

-- each rule takes an operation away, so there are no more rules than operations
unfoldable pub tidy : Meta → List Operation → List Operation
tidy meta p = settle meta (length (split p)) (split p)

-- is the package such that tidying leaves it as it is
unfoldable pub is_tidy : Meta → List Operation → Bool
is_tidy meta p = package_eq (tidy meta p) p

-- each simple operation has one step, and no rule applies at any two positions
pub record Normal (meta : Meta) (p : List Operation) : Type 0 where
  pub alone : EachAlone p
  pub settled : NoRule meta p

-- no rule applies to b and one of those before it, nearest first, up to the first that interferes with b
abbrev pub Unmet : Meta → Operation → List Operation → Type 0
Unmet meta b [] = Unit {0}
Unmet meta b (a ∷ before) = (met a b ≡ None) × (interferes meta b a ≡ false → Unmet meta b before)

-- so for each of the operations, which stand nearest first
abbrev pub Settled : Meta → List Operation → Type 0
Settled meta [] = Unit {0}
Settled meta (b ∷ before) = Unmet meta b before × Settled meta before
