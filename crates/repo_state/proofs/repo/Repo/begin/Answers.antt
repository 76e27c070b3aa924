use Rattle.std.proofs.Common.{◌∙◌, sym, subst}
use Rattle.plain_repository.specs.Orderly.{IsOrderly}
use Rattle.repo_state.proofs.Initial.{begin_fit, begin_orderly}
use Rattle.repo_state.proofs.Initial.{none_of}
use Rattle.repo_state.proofs.repo.Repo.begin.Goals as goal

pub invariant_of-self : goal.invariant_of-self
invariant_of-self c =
    let none = none_of c.self.inside.begun (sym c.is_some.ensures ∙ c.if-is_some.false) in
    let orderly = subst IsOrderly c.self.view_is c.self.invariant.2 in (
      c.self.invariant.0,
      begin_fit c.self.inside.begun c.self.inside.workspaces.items c.self.inside.events c.self.inside.end c.args.self.now c.args.text.now
          c.in_ok-begun.begun c.self.view_is none orderly c.in_ok-begun.ensures.meta c.in_ok-begun.ensures.history c.in_ok-begun.ensures.fresh,
      begin_orderly c.self.inside.begun c.self.inside.workspaces.items c.self.inside.events c.self.inside.end c.args.self.now c.args.text.now
          c.in_ok-begun.begun c.self.view_is none orderly c.in_ok-begun.ensures.meta c.in_ok-begun.ensures.history c.in_ok-begun.ensures.fresh
          c.requires.spelled,
      c.self.invariant.3,
      c.self.invariant.4,
    )
