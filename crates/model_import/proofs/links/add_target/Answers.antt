use Rattle.std.proofs.Common.{◌≡◌, ◌∙◌, ◌++◌, sym, ap, subst, append-nil}
use Rattle.std.specs.Prelude.{Option, OnOk}
use Rattle.model_state.specs.Keys.{IdBytes}
use Rattle.import_laws.specs.Links.{link_to}
use Rattle.model_import.proofs.links.add_target.Goals as goal

pub returns-in-None : goal.returns-in-None
returns-in-None c =
    sym (append-nil _) ∙ ap
    (λ (o : Option IdBytes). c.args.steps.now ++ link_to c.args.meta.now c.args.rows.now c.args.n c.args.e.now c.args.f c.args.k c.args.b o)
    c.in-None.ensures

pub returns-in-Some : goal.returns-in-Some
returns-in-Some c =
    subst (λ (o : Option IdBytes).
    OnOk c.add_link.result
    (c.add_link.new.steps ≡ c.args.steps.now ++ link_to c.args.meta.now c.args.rows.now c.args.n c.args.e.now c.args.f c.args.k c.args.b o))
    c.in-Some.ensures c.add_link.ensures
