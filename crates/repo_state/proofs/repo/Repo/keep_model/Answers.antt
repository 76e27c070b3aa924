use Rattle.std.proofs.Common.{◌≡◌, ◌∙◌, Option, Some, sym, ap, subst}
use Rattle.ecore_meta.specs.Meta.{Meta}
use Rattle.history_tree.specs.History.{History}
use Rattle.plain_repository.specs.State.{State, workspace_of}
use Rattle.plain_repository.specs.Orderly.{IsOrderly}
use Rattle.plain_repository.specs.Laws.{IsThere}
use Rattle.repo_state.specs.Keeping.{meta_of, history_of, plain_any, plain_of}
use Rattle.repo_state.specs.Sizes.{sized}
use Rattle.repo_state.proofs.Changing.{at_is, below_is, fit_set, kept_fits, order_same, same_at, view_same}
use Rattle.repo_state.proofs.Ordered.{is_there}
use Rattle.repo_state.proofs.Keepers.{fits_if, keepers_set, kept_if}
use Rattle.repo_state.proofs.repo.Repo.keep_model.Goals as goal

abbrev meta_in : State → Option Meta
meta_in s = s.meta

abbrev history_in : State → History
history_in s = s.history

pub invariant_of-self : goal.invariant_of-self
invariant_of-self c =
    let s = c.args.self.now in
    let meta = c.in-Some-begun.begun.meta in
    let w = c.in-Some-index_mut.workspace in
    let begun : s.meta ≡ Some meta = sym (ap meta_in c.self.view_is) ∙ ap meta_of c.in-Some-begun.is in
    let hist : s.history ≡ c.in-Some-begun.begun.history.history = sym (ap history_in c.self.view_is) ∙ ap history_of c.in-Some-begun.is in
    let at : workspace_of s c.args.ws ≡ Some (plain_of w) =
    at_is s c.self.inside.workspaces.items c.args.ws c.in-Some.at c.index_mut.result.now _
    (ap (λ (s : State). s.workspaces) c.self.view_is) c.in-Some.ensures.there.0 c.in-Some.ensures.there.1 c.index_mut.ensures.value
    ∙ ap plain_any c.in-Some-index_mut.is in
    let there : IsThere s meta (plain_of w) = is_there s meta c.args.ws (plain_of w) (subst IsOrderly c.self.view_is c.self.invariant.2) begun at in
    let same = same_at c.self.inside.workspaces.items c.in-Some.at c.index_mut.result.now _ c.in-Some-index_mut.workspace c.keep_model.new.self
    (below_is c.args.self.now c.self.inside.workspaces.items c.in-Some.at
    (ap (λ (s : State). s.workspaces) c.self.view_is) c.in-Some.ensures.there.1) c.index_mut.ensures.value c.in-Some-index_mut.is
    c.keep_model.ensures.same in (
      c.self.invariant.0,
      fit_set c.self.inside.begun c.in-Some-begun.begun c.self.inside.workspaces.items c.in-Some.at (Some c.keep_model.new.self) c.in-Some-begun.is
          (fits_if meta c.in-Some-begun.begun.history.history c.to_keep-kept.result c.args.model c.keep_model.new.self c.to_keep-kept.ensures.same
          c.keep_model.ensures.kept
          (kept_fits s c.args.ws meta c.in-Some-begun.begun.history.history w c.keep_model.new.self c.args.model begun hist there at c.requires.model
          c.keep_model.ensures.same)) c.self.invariant.1,
      order_same c.self.inside.begun c.self.inside.workspaces.items _ c.self.inside.events c.self.inside.end same c.self.invariant.2,
      keepers_set c.self.inside.recent c.self.inside.workspaces.items c.in-Some.at (Some c.keep_model.new.self)
          (kept_if c.self.inside.recent c.in-Some.at c.to_keep-kept.result c.keep_model.new.self c.to_keep-kept.ensures.among
          c.keep_model.ensures.kept) c.self.invariant.3,
      keepers_set (sized c.self.inside.sizes.sizes.items) c.self.inside.workspaces.items c.in-Some.at (Some c.keep_model.new.self)
          (kept_if (sized c.self.inside.sizes.sizes.items) c.in-Some.at c.to_keep-kept.result c.keep_model.new.self c.to_keep-kept.ensures.sized
          c.keep_model.ensures.kept) c.self.invariant.4,
    )

pub returns : goal.returns
returns c =
    let same = same_at c.self.inside.workspaces.items c.in-Some.at c.index_mut.result.now _ c.in-Some-index_mut.workspace c.keep_model.new.self
    (below_is c.args.self.now c.self.inside.workspaces.items c.in-Some.at
    (ap (λ (s : State). s.workspaces) c.self.view_is) c.in-Some.ensures.there.1) c.index_mut.ensures.value c.in-Some-index_mut.is
    c.keep_model.ensures.same in
    record { same = view_same c.self.inside.begun c.self.inside.workspaces.items _ c.self.inside.events c.self.inside.end c.args.self.now same c.self.view_is }
