-- How a policy is spelled, and what holds of reading it.
use Rattle.std.specs.Prelude.{◌≡◌, ◌≢◌, ℕ, ◌<◌, true, List, [], ◌∷◌, ◌++◌, codes, map, length, None, Some, Ok}
use Rattle.model_state.specs.Names.{is_name}
use Rattle.access_rules.specs.declared.policy.Role.{Role}
use Rattle.access_rules.specs.declared.policy.Role.TheVariants.{Reader, Writer, Admin}
use Rattle.access_rules.specs.declared.policy.Grant.{Grant}
use Rattle.access_rules.specs.Reading.{has_user, grants_of}

-- a role's word
abbrev pub role_word : Role → List ℕ
role_word Reader = codes "reader"
role_word (Writer None) = codes "writer"
role_word (Writer (Some branch)) = codes "writer@" ++ branch
role_word Admin = codes "admin"

-- a user, a colon and a role
abbrev pub spelled : Grant → List ℕ
spelled grant = grant.user ++ (58 ∷ role_word grant.role)

-- texts with a comma between each two
abbrev pub joined : List (List ℕ) → List ℕ
joined [] = []
joined (piece ∷ []) = piece
joined (piece ∷ next ∷ pieces) = piece ++ (44 ∷ joined (next ∷ pieces))

-- a branch that is named has a name of the form
abbrev pub IsRole : Role → Type 0
IsRole Reader = Unit {0}
IsRole (Writer None) = Unit {0}
IsRole (Writer (Some branch)) = is_name branch ≡ true
IsRole Admin = Unit {0}

-- each grant is of a user of the form who has none before
abbrev pub AreGrants : List Grant → List Grant → Type 0
AreGrants earlier [] = Unit {0}
AreGrants earlier (grant ∷ grants) =
    (is_name grant.user ≡ true) × IsRole grant.role × (has_user earlier grant.user ≢ true) × AreGrants (earlier ++ grant ∷ []) grants

-- each list of such grants, one at least, is read from its spelling
abbrev pub PoliciesAreRead : Type 0
PoliciesAreRead = (grants : List Grant) → 0 < length grants → AreGrants [] grants → grants_of (joined (map spelled grants)) ≡ Ok grants

-- and each text that is read spells what it gives
abbrev pub PoliciesAreSpelled : Type 0
PoliciesAreSpelled = (text : List ℕ) (grants : List Grant) → grants_of text ≡ Ok grants
    → (0 < length grants) × AreGrants [] grants × (text ≡ joined (map spelled grants))
