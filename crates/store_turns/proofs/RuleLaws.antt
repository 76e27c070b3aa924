-- Rules 5 and 6.
use Rattle.std.proofs.Common.{◌≡◌, ◌≢◌, inl, inr, ℕ, List, [], Bool, true, false, cond, Option, None, Some, refl, sym, ◌∙◌, ap}
use Rattle.std.specs.Prelude.{option_map}
use Rattle.std.specs.Option.{option_and_then}
use Rattle.finite_maps.specs.Equal.{text_eq}
use Rattle.finite_maps.proofs.EqualLaws.{text_equality}
use Rattle.host_port.specs.Cut.{Item}
use Rattle.command_runs.specs.Runs.{Answer}
use Rattle.op_form.specs.declared.event.Event.{Event}
use Rattle.script_lang.specs.declared.command.Command.{Command}
use Rattle.script_lang.specs.declared.command.Command.TheVariants as commands
use Rattle.access_rules.specs.declared.policy.Role.{Role}
use Rattle.access_rules.specs.declared.policy.Role.TheVariants.{Reader, Writer, Admin}
use Rattle.access_rules.specs.declared.policy.Grant.{Grant}
use Rattle.command_facts.specs.declared.table.CommandKind.TheVariants.{Works}
use Rattle.access_rules.specs.Rule.{role_in, rule, rule_of, is_admin}
use Rattle.access_rules.specs.Turns.{is_granted, is_of_one_branch, own_rule, rule_five, rule_six}
use Rattle.plain_repository.specs.Lines.{is_skipped}
use Rattle.plain_repository.specs.State.{State}
use Rattle.store_session.specs.Tasks.{gated_by, telling_one}
use Rattle.tool_requests.specs.Words.{command_in}
use Rattle.tool_requests.specs.Denials.{branch_at, denial}
use Rattle.tool_requests.specs.Turns.{first_of, turn_refusal, turn_rule}
use Rattle.store_turns.specs.Laws.{AuthorsAreUsers, BranchersMay, DeniedMakeNone, OthersPass, MayBranch}

-- ---- a line that is refused
none_made : (s : State) (item : Item) (o : Option (List ℕ)) (reply : List ℕ) → o ≡ Some reply → (gated_by s item o).event ≡ None
none_made s item None reply is = cc
none_made s item (Some other) reply is = by (is_skipped item.line)
  where
    by : (b : Bool) → (cond {A = Answer Event} b (telling_one [] false) (telling_one other true)).event ≡ None
    by true = refl
    by false = refl

pub denied_make_none : DeniedMakeNone
denied_make_none grants user s item reply is = none_made s item (turn_refusal grants user s item.line) reply is

-- ---- what lets a command pass
unmapped : {A B : Type 0} (f : A → B) (o : Option A) → option_map f o ≡ None → o ≡ None
unmapped f None is = refl
unmapped f (Some x) is = cc

first_none : (a b : Option ℕ) → first_of a b ≡ None → (a ≡ None) × (b ≡ None)
first_none (Some n) b is = cc
first_none None b is = (refl, is)

module _ (grants : List Grant) (user : List ℕ) (s : State) (line : List ℕ) (command : Command) (spells : command_in line ≡ Some command)
    (passes : turn_refusal grants user s line ≡ None) where
  pub both_none : (rule grants user command (branch_at s command) ≡ None) × (own_rule grants user command ≡ None)
  both_none =
      first_none (rule grants user command (branch_at s command)) (own_rule grants user command)
      (sym (ap (λ (o : Option Command). option_and_then (λ c. first_of (rule grants user c (branch_at s c)) (own_rule grants user c)) o) spells)
      ∙ unmapped denial (turn_rule grants user s line) passes)

-- ---- rule 5
same_text : (a b : List ℕ) → text_eq a b ≡ true → a ≡ b
same_text a b is = text_equality.exact a b is

other_text : (a b : List ℕ) → a ≡ b → text_eq a b ≡ true
other_text a b is = ap (λ (x : List ℕ). text_eq a x) (sym is) ∙ text_equality.own a

author_is : (user author : List ℕ) → rule_five user author ≡ None → author ≡ user
author_is user author none = by (text_eq author user) refl none
  where
    by : (b : Bool) → text_eq author user ≡ b → cond {A = Option ℕ} b None (Some 5) ≡ None → author ≡ user
    by true is pass = same_text author user is
    by false is pass = cc

pub authors_are_users : AuthorsAreUsers
authors_are_users grants user s line ws author moment message spells passes =
    author_is user author (both_none grants user s line (commands.Signed ws author moment message) spells passes).1

-- ---- rule 6
brancher : (grants : List Grant) (user name : List ℕ) (role : Option Role) (branch : Option (List ℕ)) → role_in grants user ≡ role
    → rule_of role Works branch ≡ None
    → cond {A = Option ℕ} (is_of_one_branch role) (Some 6) (cond (is_admin role) None (cond (is_granted grants name) (Some 6) None)) ≡ None
    → MayBranch grants user name
brancher grants user name None branch is table own = cc
brancher grants user name (Some Reader) branch is table own = cc
brancher grants user name (Some (Writer (Some one))) branch is table own = cc
brancher grants user name (Some Admin) branch is table own = inl is
brancher grants user name (Some (Writer None)) branch is table own = inr (is, by (is_granted grants name) own)
  where
    by : (b : Bool) → cond {A = Option ℕ} b (Some 6) None ≡ None → b ≡ false
    by true pass = cc
    by false pass = refl

pub branchers_may : BranchersMay
branchers_may grants user s line ws name spells passes =
    let none = both_none grants user s line (commands.Branch ws name) spells passes in
    brancher grants user name (role_in grants user) (branch_at s (commands.Branch ws name)) refl none.0 none.1

-- ---- no other command
five : (user author : List ℕ) (n : ℕ) → rule_five user author ≡ Some n → (ws moment : ℕ) (message : Option (List ℕ))
    → (n ≡ 5) × (w : ℕ) × (a : List ℕ) × (m : ℕ) × (t : Option (List ℕ)) × (commands.Signed ws author moment message ≡ commands.Signed w a m t) × (a ≢ user)
five user author n is ws moment message = by (text_eq author user) refl is
  where
    by : (b : Bool) → text_eq author user ≡ b → cond {A = Option ℕ} b None (Some 5) ≡ Some n
        → (n ≡ 5) × (w : ℕ) × (a : List ℕ) × (m : ℕ) × (t : Option (List ℕ)) × (commands.Signed ws author moment message ≡ commands.Signed w a m t) × (a ≢ user)
    by true eq some = absurd cc
    by false eq some = (cc, ws, author, moment, message, refl, λ same. let yes = other_text author user same in cc)

six_is : (role : Option Role) (granted : Bool) (n : ℕ)
    → cond {A = Option ℕ} (is_of_one_branch role) (Some 6) (cond (is_admin role) None (cond granted (Some 6) None)) ≡ Some n → n ≡ 6
six_is None true n is = cc
six_is None false n is = cc
six_is (Some Reader) true n is = cc
six_is (Some Reader) false n is = cc
six_is (Some (Writer None)) true n is = cc
six_is (Some (Writer None)) false n is = cc
six_is (Some (Writer (Some own))) granted n is = cc
six_is (Some Admin) granted n is = cc

no_admin : (granted : Bool) (n : ℕ)
    → cond {A = Option ℕ} (is_of_one_branch (Some Admin)) (Some 6) (cond (is_admin (Some Admin)) None (cond granted (Some 6) None)) ≡ Some n → ⊥
no_admin granted n is = cc

six : (grants : List Grant) (user name : List ℕ) (n : ℕ) → rule_six grants user name ≡ Some n → (ws : ℕ)
    → (n ≡ 6) × (w : ℕ) × (m : List ℕ) × (commands.Branch ws name ≡ commands.Branch w m) × (role_in grants user ≢ Some Admin)
six grants user name n is ws = by (role_in grants user) refl is
  where
    by : (role : Option Role) → role_in grants user ≡ role
        → cond {A = Option ℕ} (is_of_one_branch role) (Some 6) (cond (is_admin role) None (cond (is_granted grants name) (Some 6) None)) ≡ Some n
        → (n ≡ 6) × (w : ℕ) × (m : List ℕ) × (commands.Branch ws name ≡ commands.Branch w m) × (role_in grants user ≢ Some Admin)
    by role eq some =
        let never : role_in grants user ≢ Some Admin = λ admin. no_admin (is_granted grants name) n
        (ap (λ (r : Option Role). cond (is_of_one_branch r) (Some 6) (cond (is_admin r) None (cond (is_granted grants name) (Some 6) None))) (sym admin ∙ eq)
        ∙ some) in
        (six_is role (is_granted grants name) n some, ws, name, refl, never)

pub others_pass : OthersPass
others_pass grants user commands.Init n is = absurd cc
others_pass grants user commands.Evolve n is = absurd cc
others_pass grants user (commands.Import ws) n is = absurd cc
others_pass grants user (commands.Load ws) n is = absurd cc
others_pass grants user (commands.Checkout spec) n is = absurd cc
others_pass grants user (commands.Edit ws edit) n is = absurd cc
others_pass grants user (commands.Begin ws name) n is = absurd cc
others_pass grants user (commands.End ws) n is = absurd cc
others_pass grants user (commands.Undo ws) n is = absurd cc
others_pass grants user (commands.Discard ws) n is = absurd cc
others_pass grants user (commands.Tidy ws) n is = absurd cc
others_pass grants user (commands.Apply ws bytes) n is = absurd cc
others_pass grants user (commands.Changes ws) n is = absurd cc
others_pass grants user (commands.Show ws) n is = absurd cc
others_pass grants user (commands.Cat spec) n is = absurd cc
others_pass grants user (commands.Validate ws) n is = absurd cc
others_pass grants user (commands.Commit ws message) n is = absurd cc
others_pass grants user (commands.Signed ws author moment message) n is = inl (five user author n is ws moment message)
others_pass grants user (commands.Branch ws name) n is = inr (six grants user name n is ws)
others_pass grants user (commands.Tag name spec) n is = absurd cc
others_pass grants user commands.Log n is = absurd cc
others_pass grants user (commands.Package spec) n is = absurd cc
others_pass grants user (commands.Update ws choices) n is = absurd cc
others_pass grants user (commands.Merge ws branch choices) n is = absurd cc
others_pass grants user (commands.Revert ws version) n is = absurd cc
others_pass grants user (commands.Drop ws) n is = absurd cc
others_pass grants user commands.Upgrade n is = absurd cc
