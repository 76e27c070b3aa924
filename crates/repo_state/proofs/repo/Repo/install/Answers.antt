-- Operations recorded in a workspace, with the model after them: the repository after it is the plain one's.
use Rattle.std.proofs.Common.{Some, subst}
use Rattle.plain_repository.specs.Orderly.{IsOrderly}
use Rattle.op_form.specs.declared.event.Event.TheVariants.{Edit}
use Rattle.plain_repository.specs.Edits.{with_more}
use Rattle.repo_state.specs.Keeping.{plain_of}
use Rattle.repo_state.specs.Sizes.{sized}
use Rattle.repo_state.proofs.Changing.{fit_set, none_fits}
use Rattle.repo_state.proofs.Could.{edit_takes, installed_fits}
use Rattle.repo_state.proofs.Effects.{begun_is, both_ok, changed_view, either, either_orderly, history_is, on_err, on_ok, placed, placed_there, unchanged_view}
use Rattle.repo_state.proofs.Keepers.{fits_if, keepers_same, keepers_set, kept_if, none_keeps}
use Rattle.repo_state.proofs.repo.Repo.install.Goals as goal

pub install-requires : goal.install-requires
install-requires c =
    let s = c.args.self.now in
    let begun = c.in-Some-begun._begun in
    let p = placed c.self.inside.begun c.self.inside.workspaces.items c.self.inside.events c.self.inside.end c.args.self.now c.args.ws c.in-Some.at
    c.index_mut.result.now _ c.in-Some-index_mut.workspace c.self.view_is c.in-Some.ensures.there.0 c.in-Some.ensures.there.1
    c.index_mut.ensures.value c.in-Some-index_mut.is in
    record {
      takes = edit_takes s begun.meta c.args.ws (plain_of c.in-Some-index_mut.workspace) c.args.package
          (begun_is c.self.inside.begun begun _ c.self.inside.events c.self.inside.end s c.self.view_is c.in-Some-begun.is)
          (placed_there p) c.requires.could;
    }

pub invariant_of-self : goal.invariant_of-self
invariant_of-self c =
    let s = c.args.self.now in
    let begun = c.in-Some-begun._begun in
    let w = c.in-Some-index_mut.workspace in
    let new = c.install.new.self in
    let p = placed c.self.inside.begun c.self.inside.workspaces.items c.self.inside.events c.self.inside.end c.args.self.now c.args.ws c.in-Some.at
    c.index_mut.result.now _ c.in-Some-index_mut.workspace c.self.view_is c.in-Some.ensures.there.0 c.in-Some.ensures.there.1
    c.index_mut.ensures.value c.in-Some-index_mut.is in
    let is_begun = begun_is c.self.inside.begun begun _ c.self.inside.events c.self.inside.end s c.self.view_is c.in-Some-begun.is in
    let fits = either c.install.result (both_ok _ _ c.install.result c.install.ensures.more c.install.ensures.kept) c.install.ensures.gone
    (λ is. fits_if begun.meta begun.history.history c.to_keep-kept.result c.args.model new c.to_keep-kept.ensures.same is.1
    (λ kept. installed_fits s begun.meta begun.history.history c.args.ws w new c.args.package c.args.model is_begun
    (history_is c.self.inside.begun begun _ c.self.inside.events c.self.inside.end s c.self.view_is c.in-Some-begun.is) (placed_there p)
    (subst IsOrderly c.self.view_is c.self.invariant.2) c.requires.leads is.0 kept))
    (λ is. none_fits begun.meta begun.history.history new is) in (
      c.self.invariant.0,
      fit_set c.self.inside.begun begun c.self.inside.workspaces.items c.in-Some.at (Some new) c.in-Some-begun.is fits c.self.invariant.1,
      either_orderly c.install.result s _ begun.meta (Edit c.args.ws c.args.package) is_begun c.requires.could c.requires.spelled
          (subst IsOrderly c.self.view_is c.self.invariant.2)
          (on_ok c.install.result (changed_view p (with_more c.args.package) new) c.install.ensures.more)
          (on_err c.install.result (unchanged_view p new) c.install.ensures.same),
      keepers_set c.self.inside.recent c.self.inside.workspaces.items c.in-Some.at (Some new)
          (either c.install.result c.install.ensures.kept c.install.ensures.gone
          (λ is keeps. kept_if c.self.inside.recent c.in-Some.at c.to_keep-kept.result new c.to_keep-kept.ensures.among is keeps)
          (λ is keeps. none_keeps new _ is keeps)) c.self.invariant.3,
      keepers_set (sized c.grow.new.self.sizes.items) c.self.inside.workspaces.items c.in-Some.at (Some new)
          (either c.install.result c.install.ensures.kept c.install.ensures.gone
          (λ is keeps. kept_if (sized c.grow.new.self.sizes.items) c.in-Some.at c.to_keep-kept.result new c.to_keep-kept.ensures.sized is keeps)
          (λ is keeps. none_keeps new _ is keeps))
          (keepers_same (sized c.self.inside.sizes.sizes.items) (sized c.grow.new.self.sizes.items) _ c.grow.ensures c.self.invariant.4),
    )

pub returns : goal.returns
returns c =
    let new = c.install.new.self in
    let p = placed c.self.inside.begun c.self.inside.workspaces.items c.self.inside.events c.self.inside.end c.args.self.now c.args.ws c.in-Some.at
    c.index_mut.result.now _ c.in-Some-index_mut.workspace c.self.view_is c.in-Some.ensures.there.0 c.in-Some.ensures.there.1
    c.index_mut.ensures.value c.in-Some-index_mut.is in
    record {
      done = on_ok c.install.result (changed_view p (with_more c.args.package) new) c.install.ensures.more;
      same = on_err c.install.result (unchanged_view p new) c.install.ensures.same;
    }
