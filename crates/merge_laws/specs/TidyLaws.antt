-- What tidy promises.
use Rattle.std.specs.Prelude.{◌≡◌, true, List, [], Some, None}
use Rattle.ecore_meta.specs.Meta.{Meta}
use Rattle.model_state.specs.State.{State}
use Rattle.model_state.specs.Good.{Good, Sound}
use Rattle.model_state.specs.declared.operation.Operation.{Operation}
use Rattle.model_state.specs.Packages.{fold_package}
use Rattle.merge_laws.specs.Split.{split}
use Rattle.merge_laws.specs.Rules.{NoRule, OneRule, Settles}
use Rattle.merge_laws.specs.Tidy.{once, tidy, is_tidy, Normal}

-- it splits, and then takes its rules in order until none applies
abbrev pub TidyFollowsRules : Type 0
TidyFollowsRules = (meta : Meta) (p : List Operation) → Settles meta (split p) (tidy meta p)

-- what it leaves is normal
abbrev pub TidyIsNormal : Type 0
TidyIsNormal = (meta : Meta) (p : List Operation) → Normal meta (tidy meta p)

-- what it leaves, it leaves as it is
abbrev pub TidyIsIdempotent : Type 0
TidyIsIdempotent = (meta : Meta) (p : List Operation) → tidy meta (tidy meta p) ≡ tidy meta p

-- the test whether a package is tidy holds of those that tidying leaves as they are, and of no others
abbrev pub TidyTestIsExact : Type 0
TidyTestIsExact = (meta : Meta) (p : List Operation) → (is_tidy meta p ≡ true → tidy meta p ≡ p) × (tidy meta p ≡ p → is_tidy meta p ≡ true)

-- where the package can be applied, so can the tidied one, with the same result
abbrev pub TidyKeepsEffect : Type 0
TidyKeepsEffect = (meta : Meta) → Sound meta → (m n : State) → Good meta m → (p : List Operation) → fold_package meta m p ≡ Some n
    → fold_package meta m (tidy meta p) ≡ Some n

-- the rules leave one choice: what one rule makes of a list, and what all make of it
abbrev pub RulesLeaveNoChoice : Type 0
RulesLeaveNoChoice = (meta : Meta) (p q : List Operation)
    → (OneRule meta p q → once meta [] p ≡ Some q) × (NoRule meta p → once meta [] p ≡ None) × (Settles meta (split p) q → q ≡ tidy meta p)
