-- The last operation dropped: the repository after it is the plain one's, with a model that took it back or none.
use Rattle.std.proofs.Common.{Some, subst}
use Rattle.plain_repository.specs.Orderly.{IsOrderly}
use Rattle.op_form.specs.declared.event.Event.TheVariants.{Undo}
use Rattle.plain_repository.specs.Local.{without_last}
use Rattle.repo_state.specs.Keeping.{plain_of}
use Rattle.repo_state.specs.Sizes.{sized}
use Rattle.repo_state.proofs.Changing.{fit_set}
use Rattle.repo_state.proofs.Could.{base_good, undo_can}
use Rattle.repo_state.proofs.Effects.{begun_is, changed_view, effect_orderly, fit_before, history_is, keeper_before, placed, placed_there}
use Rattle.repo_state.proofs.Keepers.{keepers_same, keepers_set}
use Rattle.repo_state.proofs.repo.Repo.undo.Goals as goal

pub undo-requires-clause-can : goal.undo-requires-clause-can
undo-requires-clause-can c =
    let s = c.args.self.now in
    let begun = c.in-Some-begun.begun in
    let w = c.in-Some-index_mut.workspace in
    let p = placed c.self.inside.begun c.self.inside.workspaces.items c.self.inside.events c.self.inside.end c.args.self.now c.args.ws c.in-Some.at
    c.index_mut.result.now _ c.in-Some-index_mut.workspace c.self.view_is c.in-Some.ensures.there.0 c.in-Some.ensures.there.1
    c.index_mut.ensures.value c.in-Some-index_mut.is in
    let is_begun = begun_is c.self.inside.begun begun _ c.self.inside.events c.self.inside.end s c.self.view_is c.in-Some-begun.is in
    undo_can s begun.meta c.args.ws (plain_of w) is_begun (placed_there p) c.requires.could

pub undo-requires-clause-base : goal.undo-requires-clause-base
undo-requires-clause-base c =
    let s = c.args.self.now in
    let begun = c.in-Some-begun.begun in
    let w = c.in-Some-index_mut.workspace in
    let p = placed c.self.inside.begun c.self.inside.workspaces.items c.self.inside.events c.self.inside.end c.args.self.now c.args.ws c.in-Some.at
    c.index_mut.result.now _ c.in-Some-index_mut.workspace c.self.view_is c.in-Some.ensures.there.0 c.in-Some.ensures.there.1
    c.index_mut.ensures.value c.in-Some-index_mut.is in
    let is_begun = begun_is c.self.inside.begun begun _ c.self.inside.events c.self.inside.end s c.self.view_is c.in-Some-begun.is in
    base_good s begun.meta begun.history.history c.args.ws (plain_of w) is_begun
    (history_is c.self.inside.begun begun _ c.self.inside.events c.self.inside.end s c.self.view_is c.in-Some-begun.is) (placed_there p)
    (subst IsOrderly c.self.view_is c.self.invariant.2) c.recall_soundness.ensures

pub undo-requires-clause-fits : goal.undo-requires-clause-fits
undo-requires-clause-fits c =
    let s = c.args.self.now in
    let begun = c.in-Some-begun.begun in
    let w = c.in-Some-index_mut.workspace in
    let p = placed c.self.inside.begun c.self.inside.workspaces.items c.self.inside.events c.self.inside.end c.args.self.now c.args.ws c.in-Some.at
    c.index_mut.result.now _ c.in-Some-index_mut.workspace c.self.view_is c.in-Some.ensures.there.0 c.in-Some.ensures.there.1
    c.index_mut.ensures.value c.in-Some-index_mut.is in
    let is_begun = begun_is c.self.inside.begun begun _ c.self.inside.events c.self.inside.end s c.self.view_is c.in-Some-begun.is in
    fit_before p begun c.in-Some-begun.is c.self.invariant.1

pub invariant_of-self : goal.invariant_of-self
invariant_of-self c =
    let s = c.args.self.now in
    let begun = c.in-Some-begun.begun in
    let w = c.in-Some-index_mut.workspace in
    let new = c.undo.new.self in
    let p = placed c.self.inside.begun c.self.inside.workspaces.items c.self.inside.events c.self.inside.end c.args.self.now c.args.ws c.in-Some.at
    c.index_mut.result.now _ c.in-Some-index_mut.workspace c.self.view_is c.in-Some.ensures.there.0 c.in-Some.ensures.there.1
    c.index_mut.ensures.value c.in-Some-index_mut.is in
    let is_begun = begun_is c.self.inside.begun begun _ c.self.inside.events c.self.inside.end s c.self.view_is c.in-Some-begun.is in
    let fits = c.undo.ensures.fits in (
      c.self.invariant.0,
      fit_set c.self.inside.begun begun c.self.inside.workspaces.items c.in-Some.at (Some new) c.in-Some-begun.is fits c.self.invariant.1,
      effect_orderly s _ begun.meta (Undo c.args.ws) is_begun c.requires.could c.requires.spelled (subst IsOrderly c.self.view_is c.self.invariant.2)
          (changed_view p without_last new c.undo.ensures.undone),
      keepers_set c.self.inside.recent c.self.inside.workspaces.items c.in-Some.at (Some new)
          (λ keeps. keeper_before p c.self.inside.recent c.self.invariant.3 (c.undo.ensures.kept keeps)) c.self.invariant.3,
      keepers_same (sized c.self.inside.sizes.sizes.items) (sized c.grow.new.self.sizes.items) _ c.grow.ensures
          (keepers_set (sized c.self.inside.sizes.sizes.items) c.self.inside.workspaces.items c.in-Some.at (Some new)
          (λ keeps. keeper_before p (sized c.self.inside.sizes.sizes.items) c.self.invariant.4 (c.undo.ensures.kept keeps)) c.self.invariant.4),
    )

pub returns : goal.returns
returns c =
    let new = c.undo.new.self in
    let p = placed c.self.inside.begun c.self.inside.workspaces.items c.self.inside.events c.self.inside.end c.args.self.now c.args.ws c.in-Some.at
    c.index_mut.result.now _ c.in-Some-index_mut.workspace c.self.view_is c.in-Some.ensures.there.0 c.in-Some.ensures.there.1
    c.index_mut.ensures.value c.in-Some-index_mut.is in
    record {
      done = changed_view p without_last new c.undo.ensures.undone;
    }
