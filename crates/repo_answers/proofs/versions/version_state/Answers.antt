use Rattle.std.proofs.Common.{◌≡◌, ◌<◌, is_some, length, subst, sym, true}
use Rattle.std.specs.Prelude.{OnOk}
use Rattle.history_tree.specs.History.{History}
use Rattle.history_tree.specs.States.{state_folded, state_of}
use Rattle.state_cache.specs.Entries.{stands}
use Rattle.state_form.specs.Spelled.{IsSpelled}
use Rattle.version_states.specs.Cached.{LeavesFirst}
use Rattle.repo_state.proofs.Caching.{forms_back, forms_begun}
use Rattle.repo_state.proofs.Ordered.{version_leads, version_spelled}
use Rattle.repo_answers.proofs.versions.version_state.Goals as goal

pub state_at-requires-clause-there : goal.state_at-requires-clause-there
state_at-requires-clause-there c = subst (λ (h : History). c.args.v < length h.versions) c.requires.history c.requires.there

pub state_at-requires-clause-leads : goal.state_at-requires-clause-leads
state_at-requires-clause-leads c =
    subst (λ (h : History). is_some (state_folded c.args.begun.now.meta h c.args.v) ≡ true) c.requires.history
    (version_leads c.args.repo.now c.args.begun.now.meta c.recall_order.ensures c.requires.meta c.args.v c.requires.there)

pub state_at-requires-clause-spelled : goal.state_at-requires-clause-spelled
state_at-requires-clause-spelled c =
    subst (λ (h : History). IsSpelled c.args.begun.now.meta (state_of c.args.begun.now.meta h c.args.v)) c.requires.history
    (version_spelled c.args.repo.now c.args.begun.now.meta c.recall_order.ensures c.requires.meta c.args.v c.requires.there)

pub state_at-requires-clause-forms : goal.state_at-requires-clause-forms
state_at-requires-clause-forms c =
    forms_begun c.args.repo.now c.args.begun.now.meta c.args.begun.now.history.history
    (stands c.args.pool.now c.args.cache.now) c.requires.meta c.requires.history c.requires.forms

pub returns-clause-forms : goal.returns-clause-forms
returns-clause-forms c =
    forms_back c.args.repo.now c.args.begun.now.meta c.args.begun.now.history.history
    (stands c.state_at.new.pool c.state_at.new.cache) c.requires.meta c.requires.history c.state_at.ensures.forms

pub returns-clause-first : goal.returns-clause-first
returns-clause-first c =
    subst (λ (h : History). OnOk c.state_at.result (LeavesFirst c.args.begun.now.meta h c.args.v c.state_at.new.cache))
    (sym c.requires.history) c.state_at.ensures.first
