-- What each item leaves, a script leaves.
use Rattle.std.proofs.Common.{zero, suc, take, ◌≡◌, ◌≢◌, ⊎_elim, ℕ, List, [], ◌∷◌, ◌++◌, Bool, true, false, cond, Option, None, Some, refl, sym, ◌∙◌, ap}
use Rattle.std.proofs.Common.{subst, option_map}
use Rattle.std.specs.List.{find}
use Rattle.command_runs.specs.Runs.{listed, after, played, events}
use Rattle.finite_maps.specs.Equal.{text_eq}
use Rattle.model_state.specs.Names.{is_name}
use Rattle.history_tree.specs.Found.{branch_name}
use Rattle.host_port.specs.Cut.{Item}
use Rattle.op_form.specs.declared.event.Event.{Event}
use Rattle.access_rules.specs.declared.policy.Grant.{Grant}
use Rattle.access_rules.specs.declared.policy.Role.{Role}
use Rattle.access_rules.specs.declared.policy.Role.TheVariants.{Reader, Writer}
use Rattle.access_rules.specs.Laws.{AreGrants, IsRole}
use Rattle.access_rules.specs.Rule.{role_in}
use Rattle.plain_repository.specs.State.{State}
use Rattle.plain_repository.specs.Events.{play}
use Rattle.policy_laws.specs.Behind.{guarded, guarded_answers, guarded_state, AreShort}
use Rattle.policy_laws.specs.Keeping.{KeepsCommon, OnlyOpens, OnlyOn}
use Rattle.policy_laws.specs.Roles.{HasRole, MakesBehind, ReadersOnlyOpen, WritersOfOneStay, WritersKeepCommon, StrangersMakeNone}
use Rattle.policy_laws.proofs.Behind.{reader_opens, writer_opens_or_works, one_branch_opens_or_works, stranger_makes_none}
use Rattle.policy_laws.proofs.Keeping.{work_stays, checkout_opens, checkout_stays, opens_none, opens_more, common_more, common_same, on_none, on_more}

-- what holds of each event that an item makes, and goes on, holds of a script
module _ (grants : List Grant) (user : List ℕ) (R : State → State → Type 0) (none : (s : State) → R s s) (more : (s t u : State) → R s t → R t u → R s u)
    (step : (s : State) (item : Item) (event : Event) → MakesBehind grants user s item event → R s (play s event)) where
  all_items : (s : State) (items : List Item) → AreShort items → R s (guarded_state grants user s items)
  all_items s [] short = none s
  all_items s (item ∷ items) short = by (guarded grants user s item).event refl (λ t. all_items t items short.1)
    where
      by : (o : Option Event) → (guarded grants user s item).event ≡ o → ((t : State) → R t (guarded_state grants user t items))
          → R s (played play s (listed o ++ events (guarded_answers grants user (after play s o) items)))
      by None is rest = rest s
      by (Some e) is rest = more s (play s e) _ (step s item e (record { short = short.0; makes = is })) (rest (play s e))

  -- and of the first of its events
  some_items : (s : State) (items : List Item) → AreShort items → (count : ℕ) → R s (played play s (take count (events (guarded_answers grants user s items))))
  some_items s [] short zero = none s
  some_items s [] short (suc count) = none s
  some_items s (item ∷ items) short count = by (guarded grants user s item).event refl (λ t n. some_items t items short.1 n) count
    where
      by : (o : Option Event) → (guarded grants user s item).event ≡ o
          → ((t : State) (n : ℕ) → R t (played play t (take n (events (guarded_answers grants user t items))))) → (n : ℕ)
          → R s (played play s (take n (listed o ++ events (guarded_answers grants user (after play s o) items))))
      by None is rest n = rest s n
      by (Some e) is rest zero = none s
      by (Some e) is rest (suc n) = more s (play s e) _ (step s item e (record { short = short.0; makes = is })) (rest (play s e) n)

pub readers_only_open : ReadersOnlyOpen
readers_only_open grants user has =
    all_items grants user OnlyOpens opens_none opens_more (λ s item event m. checkout_opens s event (reader_opens grants user s item event m has.is))

pub readers_open_some : (grants : List Grant) (user : List ℕ) → HasRole grants user Reader → (s : State) (items : List Item) → AreShort items → (count : ℕ)
    → OnlyOpens s (played play s (take count (events (guarded_answers grants user s items))))
readers_open_some grants user has =
    some_items grants user OnlyOpens opens_none opens_more (λ s item event m. checkout_opens s event (reader_opens grants user s item event m has.is))

-- ---- a writer of one branch, whose name is that of a branch
role_is : (user : List ℕ) (role : Role) (earlier grants : List Grant) → AreGrants earlier grants → role_in grants user ≡ Some role → IsRole role
role_is user role earlier [] are is = absurd cc
role_is user role earlier (g ∷ grants) are is = by (text_eq g.user user) is (role_is user role (earlier ++ g ∷ []) grants are.3)
  where
    by : (b : Bool) → option_map (λ (g : Grant). g.role) (cond b (Some g) (find (λ (g : Grant). text_eq g.user user) grants)) ≡ Some role
        → (role_in grants user ≡ Some role → IsRole role) → IsRole role
    by true is rest = let same : g.role ≡ role = cc in subst IsRole same are.1
    by false is rest = rest is

some_name : (name : List ℕ) → is_name name ≡ true → name ≢ []
some_name name is none = let clash : false ≡ true = sym (ap is_name none) ∙ is in cc

-- the name of a writer's branch is not empty
pub own_name : (grants : List Grant) (user name : List ℕ) → HasRole grants user (Writer (Some name)) → name ≢ []
own_name grants user name has = some_name name (role_is user (Writer (Some name)) [] grants has.are has.is)

one_stays : (grants : List Grant) (user name : List ℕ) → HasRole grants user (Writer (Some name)) → (s : State) (item : Item) (event : Event)
    → MakesBehind grants user s item event → OnlyOn name s (play s event)
one_stays grants user name has s item event m =
    ⊎_elim (λ opens. checkout_stays name s event opens) (λ work. work_stays name s work.ws event work.work work.on)
    (one_branch_opens_or_works grants user s item event m name has.is)

pub writers_of_one_stay : WritersOfOneStay
writers_of_one_stay grants user name has =
    all_items grants user (OnlyOn name) (on_none name) (λ s t u a b. on_more name (own_name grants user name has) s t u a b) (one_stays grants user name has)

pub writers_of_one_stay_some : (grants : List Grant) (user name : List ℕ) → HasRole grants user (Writer (Some name))
    → (s : State) (items : List Item) → AreShort items → (count : ℕ)
    → OnlyOn name s (played play s (take count (events (guarded_answers grants user s items))))
writers_of_one_stay_some grants user name has =
    some_items grants user (OnlyOn name) (on_none name) (λ s t u a b. on_more name (own_name grants user name has) s t u a b) (one_stays grants user name has)

pub writers_keep_common : WritersKeepCommon
writers_keep_common grants user branch has =
    all_items grants user KeepsCommon common_same common_more (λ s item event m.
    ⊎_elim (λ opens. (checkout_stays [] s event opens).common)
    (λ some. (work_stays (branch_name s.history some.work.workspace.branch) s some.ws event some.work refl).common)
    (writer_opens_or_works grants user s item event m branch has.is))

-- ---- no grant
pub strangers_make_none : StrangersMakeNone
strangers_make_none grants user is s [] short = refl
strangers_make_none grants user is s (item ∷ items) short = by (guarded grants user s item).event refl (strangers_make_none grants user is s items short.1)
  where
    by : (o : Option Event) → (guarded grants user s item).event ≡ o → events (guarded_answers grants user s items) ≡ []
        → listed o ++ events (guarded_answers grants user (after play s o) items) ≡ []
    by None made rest = rest
    by (Some e) made rest = absurd (stranger_makes_none grants user s item e (record { short = short.0; makes = made }) is)
