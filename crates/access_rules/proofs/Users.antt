-- The users of grants in a search tree.
use Rattle.std.proofs.Common.{String, ◌≡◌, Bool, true, false, cond, ◌||◌, List, [], ◌∷◌, ◌++◌, refl, sym, subst}
use Rattle.std.specs.Prelude.{Option, Some, IfSome}
use Rattle.std.specs.BTreeSet.{BTreeSet}
use Rattle.access_rules.specs.declared.policy.Grant.{Grant}
use Rattle.access_rules.specs.Reading.{HasUsers}

-- one test or another
pub either : (a b : Bool) → cond a true b ≡ a || b
either true b = refl
either false b = refl

module _ {Y : Type 0} (users more : BTreeSet (String Y)) where
  -- the first set has the users of some grants, and the second has those of these and of the new one
  abbrev Met : Grant → Type 0
  Met new = (earlier : List Grant) → HasUsers users earlier → HasUsers more (earlier ++ new ∷ [])

  -- with a grant that is taken, the second set has the users of all grants so far
  pub users_on : (earlier grants : List Grant) (o : Option Grant) (grant : Grant) → HasUsers users earlier → o ≡ Some grant → IfSome o Met
      → grants ≡ earlier ++ grant ∷ [] → HasUsers more grants
  users_on earlier grants o grant has some met pushed = subst (λ gs. HasUsers more gs) (sym pushed) (subst (λ o. IfSome o Met) some met earlier has)
