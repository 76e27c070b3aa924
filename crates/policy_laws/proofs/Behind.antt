-- What a rule lets by.
use Rattle.std.proofs.Common.{◌≡◌, ◌⊎◌, inl, inr, ⊎_elim, ℕ, ◌-◌, ◌<◌, ◌^◌, not, ◌&&◌, List, [], length, Bool, true, false, cond, Option, None, Some}
use Rattle.std.proofs.Common.{Result, Ok, Err, refl, sym, ◌∙◌, ap, subst, option_map}
use Rattle.std.specs.Option.{option_and_then}
use Rattle.std.proofs.lemmas.Bool.{lt-ltb}
use Rattle.std.proofs.lemmas.Option.{none-some}
use Rattle.finite_maps.specs.Equal.{text_eq}
use Rattle.finite_maps.proofs.EqualLaws.{text_equality}
use Rattle.history_tree.specs.Found.{branch_name}
use Rattle.host_port.specs.Cut.{Item}
use Rattle.command_runs.specs.Runs.{Answer}
use Rattle.op_form.specs.declared.event.Event.{Event}
use Rattle.script_lang.specs.declared.command.Command.{Command}
use Rattle.script_lang.specs.Command.{command_of}
use Rattle.command_facts.specs.declared.table.CommandKind.{CommandKind}
use Rattle.command_facts.specs.declared.table.CommandKind.TheVariants.{Looks, Works, Keeps}
use Rattle.access_rules.specs.declared.policy.Grant.{Grant}
use Rattle.access_rules.specs.declared.policy.Role.{Role}
use Rattle.access_rules.specs.declared.policy.Role.TheVariants.{Reader, Writer, Admin}
use Rattle.access_rules.specs.Rule.{command_kind, workspace_in, role_in, is_other, rule_of, rule}
use Rattle.plain_repository.specs.Lines.{is_skipped}
use Rattle.plain_repository.specs.State.{State, Workspace, workspace_of}
use Rattle.plain_repository.specs.Repository.{decide, decide_line, decide_command, decide_read, answer_of}
use Rattle.store_session.specs.Tasks.{gated_by, telling_one}
use Rattle.tool_requests.specs.Words.{if_read, command_in}
use Rattle.tool_requests.specs.Denials.{branch_at, rule_against, denial}
use Rattle.policy_laws.specs.Tables.{IsCheckout, IsWorkIn, IsOfKind}
use Rattle.policy_laws.specs.Behind.{guarded}
use Rattle.policy_laws.specs.Roles.{MakesBehind, IsWorkOn, LookingPassesForAll, KeepingIsDenied, KeepingIsAdmins}
use Rattle.policy_laws.proofs.Tables.{tables_are_right}

-- the command of an item that makes an event behind a guard: no rule is against it, and it makes the event
pub record HasCommand (grants : List Grant) (user : List ℕ) (s : State) (item : Item) (event : Event) : Type 0 where
  pub command : Command
  pub passes : rule grants user command (branch_at s command) ≡ None
  pub makes : (decide_command s item.block command).event ≡ Some event

module _ (grants : List Grant) (user : List ℕ) (s : State) (item : Item) (event : Event) where
  -- the answer, by whether the line is skipped, what it reads as, and the rule that is against it
  abbrev answer_by : Bool → Result Command ℕ → Option ℕ → Answer Event
  answer_by skipped r None = cond skipped (telling_one [] false) (answer_of (decide_read s item.block r))
  answer_by skipped r (Some n) = cond skipped (telling_one [] false) (telling_one (denial n) true)

  -- where it makes an event, the line is read as a command, and no rule is against it
  let_by : (skipped : Bool) (r : Result Command ℕ) (o : Option ℕ)
      → option_and_then (λ command. rule grants user command (branch_at s command)) (if_read r) ≡ o
      → (answer_by skipped r o).event ≡ Some event → HasCommand grants user s item event
  let_by true r None against is = absurd cc
  let_by true r (Some n) against is = absurd cc
  let_by false r (Some n) against is = absurd cc
  let_by false (Err column) None against is = absurd cc
  let_by false (Ok command) None against is = record { command = command; passes = against; makes = is }

  -- what a line is read as, where it is short enough
  read_as : length item.line < 2 ^ 32 - 1 → command_in item.line ≡ if_read (command_of item.line)
  read_as short = ap (λ (b : Bool). cond b (if_read (command_of item.line)) None) (lt-ltb (length item.line) (2 ^ 32 - 1) short)

  answered : (o : Option ℕ) → rule_against grants user s item.line ≡ o → guarded grants user s item ≡ answer_by (is_skipped item.line) (command_of item.line) o
  unfolding decide decide_line
  answered None against = ap (λ (o : Option ℕ). gated_by s item (option_map denial o)) against
  answered (Some n) against = ap (λ (o : Option ℕ). gated_by s item (option_map denial o)) against

  pub its_command : MakesBehind grants user s item event → HasCommand grants user s item event
  its_command m =
      let o = rule_against grants user s item.line in
      let same : option_and_then (λ command. rule grants user command (branch_at s command)) (if_read (command_of item.line)) ≡ o =
      ap (λ (c : Option Command). option_and_then (λ command. rule grants user command (branch_at s command)) c) (sym (read_as m.short)) in
      let_by (is_skipped item.line) (command_of item.line) o same (ap (λ (a : Answer Event). a.event) (sym (answered o refl)) ∙ m.makes)

-- ---- what each role's rule lets by
reader_looks : (kind : CommandKind) (branch : Option (List ℕ)) → rule_of (Some Reader) kind branch ≡ None → kind ≡ Looks
reader_looks Looks branch passes = refl
reader_looks Works branch passes = absurd cc
reader_looks Keeps branch passes = absurd cc

-- a writer looks, or works
writer_works : (own : Option (List ℕ)) (kind : CommandKind) (branch : Option (List ℕ)) → rule_of (Some (Writer own)) kind branch ≡ None
    → (kind ≡ Looks) ⊎ (kind ≡ Works)
writer_works own Looks branch passes = inl refl
writer_works own Works branch passes = inr refl
writer_works None Keeps branch passes = absurd cc
writer_works (Some own) Keeps branch passes = absurd cc

-- a writer of one branch works on no other
on_own : (own : List ℕ) (branch : Option (List ℕ)) → rule_of (Some (Writer (Some own))) Works branch ≡ None → is_other own branch ≡ false
on_own own branch passes = by (is_other own branch) 4 passes
  where
    by : (b : Bool) (rule : ℕ) → cond (b && true) (Some rule) None ≡ None → b ≡ false
    by true rule passes = absurd cc
    by false rule passes = refl

same_name : (own branch : List ℕ) → is_other own (Some branch) ≡ false → branch ≡ own
same_name own branch is = by (text_eq own branch) refl is
  where
    by : (b : Bool) → text_eq own branch ≡ b → not b ≡ false → branch ≡ own
    by true eq is = sym (text_equality.exact own branch eq)
    by false eq is = absurd cc

-- an event of some workspace
pub record IsSomeWork (s : State) (named : Option ℕ) (event : Event) : Type 0 where
  pub ws : ℕ
  pub named_is : named ≡ Some ws
  pub work : IsWorkIn s ws event

some_work : (s : State) (named : Option ℕ) (event : Event) → IsOfKind Works named s event → IsSomeWork s named event
some_work s None event is = absurd is
some_work s (Some ws) event is = record { ws = ws; named_is = refl; work = is }

module _ (grants : List Grant) (user : List ℕ) (s : State) (item : Item) (event : Event) (m : MakesBehind grants user s item event) where
  abbrev c : HasCommand grants user s item event
  c = its_command grants user s item event m

  is_of_kind : (kind : CommandKind) → command_kind c.command ≡ kind → IsOfKind kind (workspace_in c.command) s event
  is_of_kind kind is = subst (λ (k : CommandKind). IsOfKind k (workspace_in c.command) s event) is (tables_are_right s item.block c.command event c.makes)

  passes_as : (role : Role) → role_in grants user ≡ Some role → rule_of (Some role) (command_kind c.command) (branch_at s c.command) ≡ None
  passes_as role is = ap (λ (o : Option Role). rule_of o (command_kind c.command) (branch_at s c.command)) (sym is) ∙ c.passes

  pub reader_opens : role_in grants user ≡ Some Reader → IsCheckout event
  reader_opens is = is_of_kind Looks (reader_looks (command_kind c.command) (branch_at s c.command) (passes_as Reader is))

  pub writer_opens_or_works : (own : Option (List ℕ)) → role_in grants user ≡ Some (Writer own) → IsCheckout event ⊎ IsSomeWork s (workspace_in c.command) event
  writer_opens_or_works own is =
      ⊎_elim (λ looks. inl (is_of_kind Looks looks)) (λ works. inr (some_work s (workspace_in c.command) event (is_of_kind Works works)))
      (writer_works own (command_kind c.command) (branch_at s c.command) (passes_as (Writer own) is))

  on_branch : (own : List ℕ) → role_in grants user ≡ Some (Writer (Some own)) → command_kind c.command ≡ Works → IsWorkOn own s event
  on_branch own is works =
      let some = some_work s (workspace_in c.command) event (is_of_kind Works works) in
      let free = on_own own (branch_at s c.command) (subst (λ (k : CommandKind). rule_of (Some (Writer (Some own))) k (branch_at s c.command) ≡ None) works
      (passes_as (Writer (Some own)) is)) in
      let branch : branch_at s c.command ≡ Some (branch_name s.history some.work.workspace.branch) =
      ap (λ (n : Option ℕ). option_map (λ (w : Workspace). branch_name s.history w.branch) (option_and_then (workspace_of s) n)) some.named_is
      ∙ ap (λ (o : Option Workspace). option_map (λ (w : Workspace). branch_name s.history w.branch) o) some.work.there in
      record {
        ws = some.ws;
        work = some.work;
        on = same_name own (branch_name s.history some.work.workspace.branch) (ap (is_other own) (sym branch) ∙ free);
      }

  pub one_branch_opens_or_works : (own : List ℕ) → role_in grants user ≡ Some (Writer (Some own)) → IsCheckout event ⊎ IsWorkOn own s event
  one_branch_opens_or_works own is =
      ⊎_elim (λ looks. inl (is_of_kind Looks looks)) (λ works. inr (on_branch own is works))
      (writer_works (Some own) (command_kind c.command) (branch_at s c.command) (passes_as (Writer (Some own)) is))

  -- no command of who has no grant is let by
  pub stranger_makes_none : role_in grants user ≡ None → ⊥
  stranger_makes_none is =
      let clash : ◌≡◌ {A = Option ℕ} (Some 0) None = ap (λ (o : Option Role). rule_of o (command_kind c.command) (branch_at s c.command)) (sym is) ∙ c.passes
      in none-some 0 (sym clash)

-- ---- what looks passes
looks_pass : (role : Role) (branch : Option (List ℕ)) → rule_of (Some role) Looks branch ≡ None
looks_pass Reader branch = refl
looks_pass (Writer None) branch = refl
looks_pass (Writer (Some own)) branch = by (is_other own branch) 4
  where
    by : (b : Bool) (rule : ℕ) → cond (b && false) (Some rule) None ≡ None
    by true rule = refl
    by false rule = refl
looks_pass Admin branch = refl

pub looking_passes : LookingPassesForAll
looking_passes grants user role has = record {
  checkout = λ spec branch. passes branch;
  changes = λ ws branch. passes branch;
  show = λ ws branch. passes branch;
  cat = λ spec branch. passes branch;
  packages = λ spec branch. passes branch;
  log = λ branch. passes branch;
  validate = λ ws branch. passes branch;
}
  where
    passes : (branch : Option (List ℕ)) → rule_of (role_in grants user) Looks branch ≡ None
    passes branch = ap (λ (o : Option Role). rule_of o Looks branch) has.is ∙ looks_pass role branch

-- ---- what is an admin's
keeping_denied : (grants : List Grant) (user : List ℕ) → ((branch : Option (List ℕ)) → rule_of (role_in grants user) Keeps branch ≡ Some 3)
    → KeepingIsDenied grants user
keeping_denied grants user denies = record {
  init = λ branch. denies branch;
  evolve = λ branch. denies branch;
  tag = λ name spec branch. denies branch;
  upgrade = λ branch. denies branch;
}

pub keeping_is_admins : KeepingIsAdmins
keeping_is_admins = record {
  readers = λ grants user has. keeping_denied grants user (λ branch. ap (λ (o : Option Role). rule_of o Keeps branch) has.is);
  writers = λ grants user own has. keeping_denied grants user (λ branch. ap (λ (o : Option Role). rule_of o Keeps branch) has.is);
}
