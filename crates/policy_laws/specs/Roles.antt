-- What each role may change.
use Rattle.std.specs.Prelude.{◌≡◌, ◌⊎◌, ℕ, List, [], Option, None, Some}
use Rattle.host_port.specs.Cut.{Item}
use Rattle.command_runs.specs.Runs.{events}
use Rattle.history_tree.specs.Found.{branch_name}
use Rattle.op_form.specs.declared.event.Event.{Event}
use Rattle.script_lang.specs.declared.command.Command.TheVariants as commands
use Rattle.script_lang.specs.declared.command.Spec.{Spec}
use Rattle.access_rules.specs.declared.policy.Grant.{Grant}
use Rattle.access_rules.specs.declared.policy.Role.{Role}
use Rattle.access_rules.specs.declared.policy.Role.TheVariants.{Reader, Writer, Admin}
use Rattle.access_rules.specs.Laws.{AreGrants}
use Rattle.access_rules.specs.Rule.{role_in, rule}
use Rattle.plain_repository.specs.State.{State}
use Rattle.plain_repository.specs.Repository.{decide}
use Rattle.policy_laws.specs.Tables.{IsCheckout, IsWorkIn}
use Rattle.policy_laws.specs.Behind.{guarded, guarded_answers, guarded_state, IsShort, AreShort}
use Rattle.policy_laws.specs.Keeping.{KeepsCommon, OnlyOpens, OnlyOn}

-- the user has that role in a policy that was read
pub record HasRole (grants : List Grant) (user : List ℕ) (role : Role) : Type 0 where
  pub are : AreGrants [] grants
  pub is : role_in grants user ≡ Some role

-- an item that was read makes that event, behind the guard of a user
pub record MakesBehind (grants : List Grant) (user : List ℕ) (s : State) (item : Item) (event : Event) : Type 0 where
  pub short : IsShort item
  pub makes : (guarded grants user s item).event ≡ Some event

-- ---- a reader
-- each event is a checkout
abbrev pub ReadersCheckOut : Type 0
ReadersCheckOut = (grants : List Grant) (user : List ℕ) → HasRole grants user Reader
    → (s : State) (item : Item) (event : Event) → MakesBehind grants user s item event → IsCheckout event

-- so a script changes nothing, but that workspaces are opened
abbrev pub ReadersOnlyOpen : Type 0
ReadersOnlyOpen = (grants : List Grant) (user : List ℕ) → HasRole grants user Reader
    → (s : State) (items : List Item) → AreShort items → OnlyOpens s (guarded_state grants user s items)

-- ---- a writer of one branch
-- the event is one of a workspace that is there, on the branch of that name
pub record IsWorkOn (name : List ℕ) (s : State) (event : Event) : Type 0 where
  pub ws : ℕ
  pub work : IsWorkIn s ws event
  pub on : branch_name s.history work.workspace.branch ≡ name

-- each event is a checkout, or one of a workspace that is on the branch
abbrev pub WritersOfOneWork : Type 0
WritersOfOneWork = (grants : List Grant) (user name : List ℕ) → HasRole grants user (Writer (Some name))
    → (s : State) (item : Item) (event : Event) → MakesBehind grants user s item event → IsCheckout event ⊎ IsWorkOn name s event

-- so a script leaves all but what concerns the branch
abbrev pub WritersOfOneStay : Type 0
WritersOfOneStay = (grants : List Grant) (user name : List ℕ) → HasRole grants user (Writer (Some name))
    → (s : State) (items : List Item) → AreShort items → OnlyOn name s (guarded_state grants user s items)

-- ---- a writer
-- what all workspaces have in common stays
abbrev pub WritersKeepCommon : Type 0
WritersKeepCommon = (grants : List Grant) (user : List ℕ) (branch : Option (List ℕ)) → HasRole grants user (Writer branch)
    → (s : State) (items : List Item) → AreShort items → KeepsCommon s (guarded_state grants user s items)

-- ---- no grant, and an admin's
-- who has no grant makes no event
abbrev pub StrangersMakeNone : Type 0
StrangersMakeNone = (grants : List Grant) (user : List ℕ) → role_in grants user ≡ None
    → (s : State) (items : List Item) → AreShort items → events (guarded_answers grants user s items) ≡ []

-- an admin is answered as without a guard
abbrev pub AdminsPass : Type 0
AdminsPass = (grants : List Grant) (user : List ℕ) → HasRole grants user Admin
    → (s : State) (item : Item) → guarded grants user s item ≡ decide s item

-- ---- what passes for each role
-- no rule is against a command that looks: `checkout`, `changes`, `show`, `cat`, `package`, `log` and `validate`
pub record LookingPasses (grants : List Grant) (user : List ℕ) : Type 0 where
  pub checkout : (spec : Spec) (branch : Option (List ℕ)) → rule grants user (commands.Checkout spec) branch ≡ None
  pub changes : (ws : ℕ) (branch : Option (List ℕ)) → rule grants user (commands.Changes ws) branch ≡ None
  pub show : (ws : ℕ) (branch : Option (List ℕ)) → rule grants user (commands.Show ws) branch ≡ None
  pub cat : (spec : Spec) (branch : Option (List ℕ)) → rule grants user (commands.Cat spec) branch ≡ None
  pub packages : (spec : Spec) (branch : Option (List ℕ)) → rule grants user (commands.Package spec) branch ≡ None
  pub log : (branch : Option (List ℕ)) → rule grants user commands.Log branch ≡ None
  pub validate : (ws : ℕ) (branch : Option (List ℕ)) → rule grants user (commands.Validate ws) branch ≡ None

-- so it is for every user who has a role
abbrev pub LookingPassesForAll : Type 0
LookingPassesForAll = (grants : List Grant) (user : List ℕ) (role : Role) → HasRole grants user role → LookingPasses grants user

-- ---- what is an admin's
-- rule 3 is against a command that changes what all workspaces have in common: `init`, `evolve`, `tag` and `upgrade`
pub record KeepingIsDenied (grants : List Grant) (user : List ℕ) : Type 0 where
  pub init : (branch : Option (List ℕ)) → rule grants user commands.Init branch ≡ Some 3
  pub evolve : (branch : Option (List ℕ)) → rule grants user commands.Evolve branch ≡ Some 3
  pub tag : (name : List ℕ) (spec : Spec) (branch : Option (List ℕ)) → rule grants user (commands.Tag name spec) branch ≡ Some 3
  pub upgrade : (branch : Option (List ℕ)) → rule grants user commands.Upgrade branch ≡ Some 3

-- so it is for a reader, and for a writer of one branch or of all
pub record KeepingIsAdmins : Type 0 where
  pub readers : (grants : List Grant) (user : List ℕ) → HasRole grants user Reader → KeepingIsDenied grants user
  pub writers : (grants : List Grant) (user : List ℕ) (branch : Option (List ℕ)) → HasRole grants user (Writer branch) → KeepingIsDenied grants user
