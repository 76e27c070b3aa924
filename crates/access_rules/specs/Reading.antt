-- How a policy is read from its text.
use Rattle.std.specs.Prelude.{String, ◌≡◌, ℕ, ◌+◌, ◌==◌, Bool, List, [], ◌∷◌, ◌++◌, codes, length, Option, None, Some, Result, Ok, Err, if◌then◌else◌}
use Rattle.std.specs.BTreeSet.{BTreeSet, contains_text}
use Rattle.std.specs.List.{list_any, before_first, after_first}
use Rattle.model_state.specs.Names.{is_name}
use Rattle.finite_maps.specs.Equal.{text_eq}
use Rattle.access_rules.specs.declared.policy.Role.{Role}
use Rattle.access_rules.specs.declared.policy.Role.TheVariants.{Reader, Writer, Admin}
use Rattle.access_rules.specs.declared.policy.Grant.{Grant}
use Rattle.access_rules.specs.declared.policy.Policy.{Policy}
use Rattle.access_rules.specs.declared.fault.PolicyFault.{PolicyFault}
use Rattle.access_rules.specs.declared.fault.PolicyFault.TheVariants.{BadPolicy, Memory}

-- a comma
abbrev pub is_comma : ℕ → Bool
is_comma b = b == 44

-- a colon
abbrev pub is_colon : ℕ → Bool
is_colon b = b == 58

-- an at sign
abbrev pub is_at_sign : ℕ → Bool
is_at_sign b = b == 64

-- a byte before the first of some texts
abbrev pub before : ℕ → List (List ℕ) → List (List ℕ)
before b [] = (b ∷ []) ∷ []
before b (piece ∷ pieces) = (b ∷ piece) ∷ pieces

-- what stands between the commas
abbrev pub pieces : List ℕ → List (List ℕ)
pieces [] = [] ∷ []
pieces (b ∷ bs) = if is_comma b then [] ∷ pieces bs else before b (pieces bs)

-- `writer@` and a branch's name
abbrev pub writer_of : List ℕ → List ℕ → Option Role
writer_of first branch = if text_eq first (codes "writer") then (if is_name branch then Some (Writer (Some branch)) else None) else None

-- `reader`, `writer`, `admin`, or a writer of one branch
abbrev pub role_of : List ℕ → Option Role
role_of word =
    if text_eq word (codes "reader") then Some Reader
    else if text_eq word (codes "writer") then Some (Writer None)
    else if text_eq word (codes "admin") then Some Admin
    else writer_of (before_first is_at_sign word) (after_first is_at_sign word)

-- the grant of a role to a user, whose name is of the form
abbrev pub granted : List ℕ → Option Role → Option Grant
granted user None = None
granted user (Some role) = if is_name user then Some (record { user = user; role = role }) else None

-- a user, a colon and a role
abbrev pub grant_of : List ℕ → Option Grant
grant_of piece = granted (before_first is_colon piece) (role_of (after_first is_colon piece))

-- has the user a grant
abbrev pub has_user : List Grant → List ℕ → Bool
has_user grants user = list_any (λ g. text_eq g.user user) grants

-- the set has the users of the grants, and no others
abbrev pub HasUsers : {Y : Type 0} → BTreeSet (String Y) → List Grant → Type 0
HasUsers users grants = (user : List ℕ) → contains_text users user ≡ has_user grants user

-- the grant, where its user has none yet
abbrev pub if_new : List Grant → Option Grant → Option Grant
if_new earlier None = None
if_new earlier (Some grant) = if has_user earlier grant.user then None else Some grant

-- what comes further with the grant; else the offset
abbrev pub with_grant : Option Grant → ℕ → (Grant → Result (List Grant) ℕ) → Result (List Grant) ℕ
with_grant None offset further = Err offset
with_grant (Some grant) offset further = further grant

-- the grants of the pieces after those that were read; else the offset of the first piece that does not fit
abbrev pub grants_from : List Grant → ℕ → List (List ℕ) → Result (List Grant) ℕ
grants_from earlier offset [] = Ok earlier
grants_from earlier offset (piece ∷ pieces) =
    with_grant (if_new earlier (grant_of piece)) offset (λ grant. grants_from (earlier ++ grant ∷ []) (offset + length piece + 1) pieces)

-- the grants of a text: one or more, joined by commas, each of another user; else the offset of the first that does not fit
abbrev pub grants_of : List ℕ → Result (List Grant) ℕ
grants_of text = grants_from [] 0 (pieces text)

-- a call gave the policy that reading gives, or its offset; out of memory says nothing of the text
abbrev pub GivesPolicy : Result Policy PolicyFault → Result (List Grant) ℕ → Type 0
GivesPolicy (Ok policy) read = read ≡ Ok policy.grants
GivesPolicy (Err (BadPolicy at)) read = read ≡ Err at
GivesPolicy (Err Memory) read = Unit {0}
