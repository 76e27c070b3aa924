-- A repository whose metamodel is extended: each model that is kept fits still.
use Rattle.std.proofs.Common.{◌≡◌, ℕ, List, [], ◌∷◌, map, Option, Some, None, true, refl, sym, ◌∙◌, ap, subst}
use Rattle.std.specs.Prelude.{All, option_map}
use Rattle.std.specs.List.{AllByRecursion}
use Rattle.std.proofs.lemmas.List.Elements.{All-from_recursion, recursion_from_All}
use Rattle.std.proofs.lemmas.Option.{same_Some}
use Rattle.ecore_meta.specs.Meta.{Meta}
use Rattle.growth_laws.specs.Growth.{Evolves}
use Rattle.history_tree.specs.History.{History}
use Rattle.op_form.specs.declared.event.Event.TheVariants.{Evolve, Upgrade}
use Rattle.plain_repository.specs.State.{State, Workspace}
use Rattle.plain_repository.specs.Metamodels.{grown}
use Rattle.plain_repository.specs.Events.{effect, playable_with}
use Rattle.plain_repository.specs.Orderly.{IsOrderlyWorkspace, IfThere, IsOrderly, Orderly}
use Rattle.plain_repository.proofs.Evolving.{grown_is, kept_fits}
use Rattle.plain_repository.proofs.Reached.{kept}
use Rattle.repo_state.specs.declared.repo.Begun.{Begun}
use Rattle.repo_state.specs.declared.workspace.Workspace.{Workspace as Kept}
use Rattle.repo_state.specs.Keeping.{AllFit, FitsAny, plain_any, plain_of}
use Rattle.repo_state.proofs.Changing.{held}
use Rattle.repo_state.proofs.Effects.{begun_is, could_with, history_is}

module _ (old new : Meta) (grew : Evolves old new) (h : History) where
  each_fits : (ws : List (Option Kept)) → AllByRecursion (IfThere (IsOrderlyWorkspace old h)) (map plain_any ws) → AllByRecursion (FitsAny old h) ws
      → AllByRecursion (FitsAny new h) ws
  each_fits [] order fits = tt
  each_fits (None ∷ ws) order fits = (tt, each_fits ws order.1 fits.1)
  each_fits (Some w ∷ ws) order fits = (λ m is. kept_fits old new grew h (plain_of w) order.0.runs m (fits.0 m is).0, each_fits ws order.1 fits.1)

module _ (b : Option Begun) (begun : Begun) (ws : List (Option Kept)) (events end : ℕ) (s : State) (view : held b (map plain_any ws) events end ≡ s)
    (is : b ≡ Some begun) (orderly : IsOrderly s) (fit : AllFit b ws) where
  is_begun : s.meta ≡ Some begun.meta
  is_begun = begun_is b begun (map plain_any ws) events end s view is

  -- the metamodel is another
  pub with_meta : (m : Meta) → held (Some (record begun { meta = m })) (map plain_any ws) events end ≡ record s { meta = Some m }
  with_meta m = ap (λ (t : State). record t { meta = Some m }) (ap (λ (o : Option Begun). held o (map plain_any ws) events end) (sym is) ∙ view)

  pub evolve_done : (text : List ℕ) (m : Meta) → option_map (grown text) s.meta ≡ Some m
      → held (Some (record begun { meta = m })) (map plain_any ws) events end ≡ effect s (Evolve text)
  evolve_done text m grew = with_meta m ∙ ap (λ (o : Option Meta). record s { meta = o }) (sym grew)

  order : Orderly begun.meta s
  order = kept s begun.meta (record { orderly = orderly; begun = is_begun })

  hist : s.history ≡ begun.history.history
  hist = history_is b begun (map plain_any ws) events end s view is

  fits : All (FitsAny begun.meta s.history) ws
  fits = subst (λ (h : History). All (FitsAny begun.meta h) ws) (sym hist) (subst (λ (o : Option Begun). AllFit o ws) is fit)

  in_order : AllByRecursion (IfThere (IsOrderlyWorkspace begun.meta s.history)) (map plain_any ws)
  in_order = subst (AllByRecursion (IfThere (IsOrderlyWorkspace begun.meta s.history))) (sym (ap (λ (t : State). t.workspaces) view)) order.workspaces

  pub evolve_fit : (text : List ℕ) (m : Meta) → playable_with s s.meta (Evolve text) ≡ true → option_map (grown text) s.meta ≡ Some m
      → AllFit (Some (record begun { meta = m })) ws
  evolve_fit text m could grew =
      let same : grown text begun.meta ≡ m = same_Some (grown text begun.meta) m (ap (option_map (grown text)) (sym is_begun) ∙ grew) in
      let evolves : Evolves begun.meta m =
      subst (Evolves begun.meta) same (grown_is begun.meta text order.metamodel (could_with s begun.meta (Evolve text) is_begun could)) in
      subst (λ (h : History). All (FitsAny m h) ws) hist
      (All-from_recursion (FitsAny m s.history) ws
      (each_fits begun.meta m evolves s.history ws in_order (recursion_from_All (FitsAny begun.meta s.history) ws fits)))

  pub upgrade_done : held (Some (record begun { upgraded = true })) (map plain_any ws) events end ≡ effect s Upgrade
  upgrade_done = ap (λ (t : State). record t { upgraded = true }) (ap (λ (o : Option Begun). held o (map plain_any ws) events end) (sym is) ∙ view)

  pub upgrade_fit : AllFit (Some (record begun { upgraded = true })) ws
  upgrade_fit = subst (λ (o : Option Begun). AllFit o ws) is fit
