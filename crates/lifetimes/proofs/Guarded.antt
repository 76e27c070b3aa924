-- Lives behind guards, by what may come of runs.
use Rattle.std.proofs.Common.{ℕ, List, [], ◌∷◌, take, Option, Some, sym, subst}
use Rattle.std.specs.List.{AllByRecursion}
use Rattle.command_runs.specs.Runs.{played}
use Rattle.command_runs.proofs.RunLaws.{played-append}
use Rattle.op_form.specs.declared.event.Event.{Event}
use Rattle.access_rules.specs.declared.policy.Role.{Role}
use Rattle.access_rules.specs.declared.policy.Role.TheVariants.{Reader, Writer}
use Rattle.plain_repository.specs.State.{State, empty}
use Rattle.plain_repository.specs.Events.{play}
use Rattle.script_items.specs.Items.{script}
use Rattle.tool_requests.specs.declared.tool.Tool.TheVariants.{Guard}
use Rattle.tools_top.specs.Tasks.{task_of}
use Rattle.policy_laws.specs.Keeping.{OnlyOpens, OnlyOn}
use Rattle.policy_laws.proofs.Keeping.{opens_none, opens_more, on_none, on_more}
use Rattle.policy_laws.proofs.Scripts.{own_name, readers_open_some, writers_of_one_stay_some}
use Rattle.policy_laws.proofs.Tools.{guards_answer_so}
use Rattle.lifetimes.specs.Runs.{Asked, Run, made_by}
use Rattle.lifetimes.specs.Lives.{MayCome, latest_first}
use Rattle.lifetimes.specs.Lives.MayCome.{Start, Without, With}
use Rattle.lifetimes.specs.Guarded.{IsBehindGuard, LivesWithin, ReadersLives, WritersLives}
use Rattle.lifetimes.proofs.Lives.{lives_keep_events}

all_latest : (P : Run → Type 0) (runs done : List Run) → AllByRecursion P runs → AllByRecursion P done → AllByRecursion P (latest_first runs done)
all_latest P [] done all others = others
all_latest P (run ∷ runs) done all others = all_latest P runs (run ∷ done) all.1 (all.0, others)

-- the state of some events
at : List Event → State
at events = played play empty events

module _ (role : Role) (R : State → State → Type 0) (none : (s : State) → R s s)
    (more : (run : Run) → IsBehindGuard role run → (s t u : State) → R s t → R t u → R s u)
    (step : (run : Run) → IsBehindGuard role run → (first : List Event) (count : ℕ)
    → R (at first) (played play (at first) (take count (made_by run.asked first run.old)))) where
  come_within : (start : List Event) (runs : List Run) (events : List Event) → AllByRecursion (IsBehindGuard role) runs → MayCome start runs events
      → R (at start) (at events)
  unfolding at
  come_within start _ _ all Start = none (at start)
  come_within start _ _ all (Without run runs events came) = come_within start runs events all.1 came
  come_within start _ _ all (With run runs first stood came count) =
      subst (λ (t : State). R (at start) t) (sym (played-append play empty first (take count (made_by run.asked first run.old))))
      (more run all.0 (at start) (at first) _ (come_within start runs first all.1 came) (step run all.0 first count))

  lives_within : LivesWithin role R
  unfolding at
  lives_within disk end start runs safe life all =
      let k = lives_keep_events disk end start runs safe life in
      record {
        events = k.events;
        stands = k.stands;
        within = come_within start (latest_first runs []) k.events (all_latest (IsBehindGuard role) runs [] all tt) k.comes;
      }

-- a part of what a guarded run makes, by what its words ask for
of_guard : (R : State → State → Type 0) (role : Role) (run : Run) (b : IsBehindGuard role run) (first : List Event) (count : ℕ)
    → R (at first) (played play (at first) (take count (made_by (Some (task_of (Guard b.guard))) first run.old)))
    → R (at first) (played play (at first) (take count (made_by run.asked first run.old)))
of_guard R role run b first count is =
    subst (λ (a : Option Asked). R (at first) (played play (at first) (take count (made_by a first run.old)))) (sym b.asked) is

pub readers_lives : ReadersLives
unfolding at
readers_lives = lives_within Reader OnlyOpens opens_none (λ run b. opens_more) (λ run b first count.
    of_guard OnlyOpens Reader run b first count
    (readers_open_some b.guard.policy.grants b.guard.user b.role_is (at first) (script run.old.left).items (guards_answer_so.short run.old.left) count))

pub writers_lives : WritersLives
unfolding at
writers_lives name = lives_within (Writer (Some name)) (OnlyOn name) (on_none name)
    (λ run b s t u one two. on_more name (own_name b.guard.policy.grants b.guard.user name b.role_is) s t u one two) (λ run b first count.
    of_guard (OnlyOn name) (Writer (Some name)) run b first count
    (writers_of_one_stay_some b.guard.policy.grants b.guard.user name b.role_is (at first) (script run.old.left).items (guards_answer_so.short run.old.left)
    count))
