-- the model that is kept is the working model, and goes
use Rattle.std.proofs.Common.{◌≡◌, ◌∙◌, Option, Some, sym, ap, subst}
use Rattle.ecore_meta.specs.Meta.{Meta}
use Rattle.history_tree.specs.History.{History}
use Rattle.plain_repository.specs.State.{State, workspace_of}
use Rattle.repo_state.specs.Keeping.{FitsAny, meta_of, history_of, plain_any, plain_of}
use Rattle.repo_state.specs.Sizes.{sized}
use Rattle.repo_state.proofs.Changing.{at_is, below_is, fit_at, fit_set, kept_working, none_fits, order_same, same_at, view_same}
use Rattle.repo_state.proofs.Keepers.{keepers_lent, keepers_set, none_keeps}
use Rattle.repo_state.proofs.repo.Repo.take_kept.Goals as goal

abbrev meta_in : State → Option Meta
meta_in s = s.meta

abbrev history_in : State → History
history_in s = s.history

pub invariant_of-self : goal.invariant_of-self
invariant_of-self c =
    let meta = c.in-Some-begun._begun.meta in
    let h = c.in-Some-begun._begun.history.history in
    let ws = c.self.inside.workspaces.items in
    let new = c.give_model-model.new.self in
    let same = same_at ws c.in-Some.at c.index_mut.result.now _ c.in-Some-index_mut.workspace new
    (below_is c.args.self.now ws c.in-Some.at
    (ap (λ (s : State). s.workspaces) c.self.view_is) c.in-Some.ensures.there.1) c.index_mut.ensures.value c.in-Some-index_mut.is
    c.give_model-model.ensures.same in (
      c.self.invariant.0,
      fit_set c.self.inside.begun c.in-Some-begun._begun ws c.in-Some.at (Some new) c.in-Some-begun.is
          (none_fits meta h new c.give_model-model.ensures.taken) c.self.invariant.1,
      order_same c.self.inside.begun ws _ c.self.inside.events c.self.inside.end same c.self.invariant.2,
      keepers_set c.self.inside.recent ws c.in-Some.at (Some new) (none_keeps new _ c.give_model-model.ensures.taken) c.self.invariant.3,
      keepers_lent (sized c.self.inside.sizes.sizes.items) (sized c.hand_over.new.self.sizes.items) ws c.in-Some.at new c.give_model-model.ensures.taken
          c.hand_over.ensures.stays c.self.invariant.4,
    )

pub returns-clause-same : goal.returns-clause-same
returns-clause-same c =
    let same = same_at c.self.inside.workspaces.items c.in-Some.at c.index_mut.result.now _ c.in-Some-index_mut.workspace c.give_model-model.new.self
    (below_is c.args.self.now c.self.inside.workspaces.items c.in-Some.at
    (ap (λ (s : State). s.workspaces) c.self.view_is) c.in-Some.ensures.there.1) c.index_mut.ensures.value c.in-Some-index_mut.is
    c.give_model-model.ensures.same in
    view_same c.self.inside.begun c.self.inside.workspaces.items _ c.self.inside.events c.self.inside.end c.args.self.now same c.self.view_is

pub returns-clause-model : goal.returns-clause-model
returns-clause-model c =
    let s = c.args.self.now in
    let meta = c.in-Some-begun._begun.meta in
    let h = c.in-Some-begun._begun.history.history in
    let w = c.in-Some-index_mut.workspace in
    let begun : s.meta ≡ Some meta = sym (ap meta_in c.self.view_is) ∙ ap meta_of c.in-Some-begun.is in
    let hist : s.history ≡ h = sym (ap history_in c.self.view_is) ∙ ap history_of c.in-Some-begun.is in
    let below = below_is s c.self.inside.workspaces.items c.in-Some.at (ap (λ (s : State). s.workspaces) c.self.view_is) c.in-Some.ensures.there.1 in
    let at : workspace_of s c.args.ws ≡ Some (plain_of w) =
    at_is s c.self.inside.workspaces.items c.args.ws c.in-Some.at c.index_mut.result.now _
    (ap (λ (s : State). s.workspaces) c.self.view_is) c.in-Some.ensures.there.0 c.in-Some.ensures.there.1 c.index_mut.ensures.value
    ∙ ap plain_any c.in-Some-index_mut.is in
    let fits = subst (FitsAny meta h) c.in-Some-index_mut.is
    (fit_at c.self.inside.begun c.in-Some-begun._begun c.self.inside.workspaces.items c.in-Some.at c.index_mut.result.now _ c.in-Some-begun.is below
    c.index_mut.ensures.value c.self.invariant.1) in
    kept_working s c.args.ws meta h w c.give_model-model.result begun hist at fits c.give_model-model.ensures.was
