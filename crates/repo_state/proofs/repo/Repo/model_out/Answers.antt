-- The working model handed out: the kept one, or one made of the version's operations and the local ones.
use Rattle.std.proofs.Common.{◌≡◌, ◌∙◌, Option, Some, true, is_some, sym, ap, subst}
use Rattle.ecore_meta.specs.Meta.{Meta}
use Rattle.history_tree.specs.History.{History}
use Rattle.plain_repository.specs.State.{State, workspace_of, folded}
use Rattle.plain_repository.specs.Orderly.{IsOrderly}
use Rattle.plain_repository.specs.Laws.{IsThere}
use Rattle.repo_state.specs.Keeping.{FitsAny, meta_of, history_of, plain_any, plain_of}
use Rattle.repo_state.specs.Sizes.{sized}
use Rattle.repo_state.proofs.Changing.{at_is, below_is, fit_at, fit_set, none_fits, order_same, same_at, view_same, working}
use Rattle.repo_state.proofs.Ordered.{base_spelled, is_there, model_leads}
use Rattle.repo_state.proofs.Caching.{forms_back, forms_begun}
use Rattle.history_tree.specs.States.{state_of}
use Rattle.state_form.specs.Spelled.{IsSpelled}
use Rattle.state_cache.specs.Entries.{stands}
use Rattle.repo_state.proofs.Keepers.{keepers_set, none_keeps}
use Rattle.repo_state.proofs.repo.Repo.model_out.Goals as goal

abbrev meta_in : State → Option Meta
meta_in s = s.meta

abbrev history_in : State → History
history_in s = s.history

pub take_model-requires-clause-leads : goal.take_model-requires-clause-leads
take_model-requires-clause-leads c =
    let s = c.args.self.now in
    let meta = c.in-Some-begun.begun.meta in
    let w = c.in-Some-index_mut.workspace in
    let begun : s.meta ≡ Some meta = sym (ap meta_in c.self.view_is) ∙ ap meta_of c.in-Some-begun.is in
    let hist : s.history ≡ c.in-Some-begun.begun.history.history = sym (ap history_in c.self.view_is) ∙ ap history_of c.in-Some-begun.is in
    let at : workspace_of s c.args.ws ≡ Some (plain_of w) =
    at_is s c.self.inside.workspaces.items c.args.ws c.in-Some.at c.index_mut.result.now _
    (ap (λ (s : State). s.workspaces) c.self.view_is) c.in-Some.ensures.there.0 c.in-Some.ensures.there.1 c.index_mut.ensures.value
    ∙ ap plain_any c.in-Some-index_mut.is in
    let there : IsThere s meta (plain_of w) = is_there s meta c.args.ws (plain_of w) (subst IsOrderly c.self.view_is c.self.invariant.2) begun at in
    subst (λ (h : History). is_some (folded meta h (plain_of w)) ≡ true) hist (model_leads s meta (plain_of w) there)

pub take_model-requires-clause-fits : goal.take_model-requires-clause-fits
take_model-requires-clause-fits c =
    let below = below_is c.args.self.now c.self.inside.workspaces.items c.in-Some.at
    (ap (λ (s : State). s.workspaces) c.self.view_is) c.in-Some.ensures.there.1 in
    subst (FitsAny c.in-Some-begun.begun.meta c.in-Some-begun.begun.history.history) c.in-Some-index_mut.is
    (fit_at c.self.inside.begun c.in-Some-begun.begun c.self.inside.workspaces.items c.in-Some.at c.index_mut.result.now _ c.in-Some-begun.is below
    c.index_mut.ensures.value c.self.invariant.1)

pub invariant_of-self : goal.invariant_of-self
invariant_of-self c =
    let same = same_at c.self.inside.workspaces.items c.in-Some.at c.index_mut.result.now _ c.in-Some-index_mut.workspace c.take_model.new.self
    (below_is c.args.self.now c.self.inside.workspaces.items c.in-Some.at
    (ap (λ (s : State). s.workspaces) c.self.view_is) c.in-Some.ensures.there.1) c.index_mut.ensures.value c.in-Some-index_mut.is
    c.take_model.ensures.same in (
      c.self.invariant.0,
      fit_set c.self.inside.begun c.in-Some-begun.begun c.self.inside.workspaces.items c.in-Some.at (Some c.take_model.new.self) c.in-Some-begun.is
          (none_fits c.in-Some-begun.begun.meta c.in-Some-begun.begun.history.history c.take_model.new.self c.take_model.ensures.taken)
          c.self.invariant.1,
      order_same c.self.inside.begun c.self.inside.workspaces.items _ c.self.inside.events c.self.inside.end same c.self.invariant.2,
      keepers_set c.self.inside.recent c.self.inside.workspaces.items c.in-Some.at (Some c.take_model.new.self)
          (none_keeps c.take_model.new.self _ c.take_model.ensures.taken) c.self.invariant.3,
      keepers_set (sized c.self.inside.sizes.sizes.items) c.self.inside.workspaces.items c.in-Some.at (Some c.take_model.new.self)
          (none_keeps c.take_model.new.self _ c.take_model.ensures.taken) c.self.invariant.4,
    )

pub returns-clause-same : goal.returns-clause-same
returns-clause-same c =
    let same = same_at c.self.inside.workspaces.items c.in-Some.at c.index_mut.result.now _ c.in-Some-index_mut.workspace c.take_model.new.self
    (below_is c.args.self.now c.self.inside.workspaces.items c.in-Some.at
    (ap (λ (s : State). s.workspaces) c.self.view_is) c.in-Some.ensures.there.1) c.index_mut.ensures.value c.in-Some-index_mut.is
    c.take_model.ensures.same in
    view_same c.self.inside.begun c.self.inside.workspaces.items _ c.self.inside.events c.self.inside.end c.args.self.now same c.self.view_is

pub returns-clause-model : goal.returns-clause-model
returns-clause-model c =
    let s = c.args.self.now in
    let meta = c.in-Some-begun.begun.meta in
    let w = c.in-Some-index_mut.workspace in
    let begun : s.meta ≡ Some meta = sym (ap meta_in c.self.view_is) ∙ ap meta_of c.in-Some-begun.is in
    let hist : s.history ≡ c.in-Some-begun.begun.history.history = sym (ap history_in c.self.view_is) ∙ ap history_of c.in-Some-begun.is in
    let at : workspace_of s c.args.ws ≡ Some (plain_of w) =
    at_is s c.self.inside.workspaces.items c.args.ws c.in-Some.at c.index_mut.result.now _
    (ap (λ (s : State). s.workspaces) c.self.view_is) c.in-Some.ensures.there.0 c.in-Some.ensures.there.1 c.index_mut.ensures.value
    ∙ ap plain_any c.in-Some-index_mut.is in
    let there : IsThere s meta (plain_of w) = is_there s meta c.args.ws (plain_of w) (subst IsOrderly c.self.view_is c.self.invariant.2) begun at in
    working s c.args.ws meta c.in-Some-begun.begun.history.history
    (plain_of w) c.take_model.result begun hist at c.take_model.ensures.model c.take_model.ensures.good

pub take_model-requires-clause-spelled : goal.take_model-requires-clause-spelled
take_model-requires-clause-spelled c =
    let s = c.args.self.now in
    let meta = c.in-Some-begun.begun.meta in
    let w = c.in-Some-index_mut.workspace in
    let begun : s.meta ≡ Some meta = sym (ap meta_in c.self.view_is) ∙ ap meta_of c.in-Some-begun.is in
    let hist : s.history ≡ c.in-Some-begun.begun.history.history = sym (ap history_in c.self.view_is) ∙ ap history_of c.in-Some-begun.is in
    let at : workspace_of s c.args.ws ≡ Some (plain_of w) =
    at_is s c.self.inside.workspaces.items c.args.ws c.in-Some.at c.index_mut.result.now _
    (ap (λ (s : State). s.workspaces) c.self.view_is) c.in-Some.ensures.there.0 c.in-Some.ensures.there.1 c.index_mut.ensures.value
    ∙ ap plain_any c.in-Some-index_mut.is in
    let there : IsThere s meta (plain_of w) = is_there s meta c.args.ws (plain_of w) (subst IsOrderly c.self.view_is c.self.invariant.2) begun at in
    subst (λ (h : History). IsSpelled meta (state_of meta h w.base)) hist (base_spelled s meta (plain_of w) there)

pub take_model-requires-clause-forms : goal.take_model-requires-clause-forms
take_model-requires-clause-forms c =
    let s = c.args.self.now in
    let meta = c.in-Some-begun.begun.meta in
    let w = c.in-Some-index_mut.workspace in
    let begun : s.meta ≡ Some meta = sym (ap meta_in c.self.view_is) ∙ ap meta_of c.in-Some-begun.is in
    let hist : s.history ≡ c.in-Some-begun.begun.history.history = sym (ap history_in c.self.view_is) ∙ ap history_of c.in-Some-begun.is in
    forms_begun s meta c.in-Some-begun.begun.history.history (stands c.args.pool.now c.args.cache.now) begun hist c.requires.forms

pub returns-clause-forms : goal.returns-clause-forms
returns-clause-forms c =
    let s = c.args.self.now in
    let meta = c.in-Some-begun.begun.meta in
    let w = c.in-Some-index_mut.workspace in
    let begun : s.meta ≡ Some meta = sym (ap meta_in c.self.view_is) ∙ ap meta_of c.in-Some-begun.is in
    let hist : s.history ≡ c.in-Some-begun.begun.history.history = sym (ap history_in c.self.view_is) ∙ ap history_of c.in-Some-begun.is in
    forms_back s meta c.in-Some-begun.begun.history.history (stands c.take_model.new.pool c.take_model.new.cache) begun hist c.take_model.ensures.forms
