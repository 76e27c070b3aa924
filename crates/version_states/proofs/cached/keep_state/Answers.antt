use Rattle.std.proofs.Common.{List, ℕ, Some, sym, subst}
use Rattle.model_state.specs.State.{State}
use Rattle.history_tree.specs.States.{state_of}
use Rattle.state_form.specs.Form.{IsStateEncoding}
use Rattle.version_states.proofs.Caching.{forms_stored, forms_unstored}
use Rattle.version_states.proofs.cached.keep_state.Goals as goal

pub returns-in_err-_kept-clause-forms : goal.returns-in_err-_kept-clause-forms
returns-in_err-_kept-clause-forms c =
    forms_unstored (Some c.args.meta.now) c.args.history.now.history c.args.pool.now c.store.new.pool c.args.cache.now c.store.new.self
    c.in_err-_kept.ensures.err c.in_err-_kept.ensures.same c.requires.forms

pub returns-clause-forms : goal.returns-clause-forms
returns-clause-forms c =
    forms_stored c.args.meta.now c.args.history.now.history c.args.pool.now c.store.new.pool c.args.v c.deref.result.now c.args.cache.now
    c.store.new.self c.in_ok-_kept._kept c.in_ok-_kept.ensures.stored c.in_ok-_kept.ensures.none (
      c.requires.there,
      subst (λ (l : List ℕ). IsStateEncoding c.args.meta.now (state_of c.args.meta.now c.args.history.now.history c.args.v) l) (sym c.deref.ensures.value)
          (subst (λ (m : State). IsStateEncoding c.args.meta.now m c.in-Some.bytes.items) c.requires.state (rw c.in-Some.is at c.in_ok-bytes.ensures.form)),
    )
    c.requires.forms
