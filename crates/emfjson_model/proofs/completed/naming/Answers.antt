use Rattle.std.proofs.Common.{◌≡◌, ◌∙◌, List, ℕ, ap, nat_eq, not, subst, sym}
use Rattle.std.specs.Prelude.{IfOk}
use Rattle.std.specs.List.{filter, list_any}
use Rattle.emfjson_model.proofs.Naming.{naming_filter}
use Rattle.emfjson_model.proofs.completed.naming.Goals as goal

pub returns : goal.returns
returns c =
    subst (λ (due : List ℕ). IfOk c.without.result (λ ns. ns ≡ due))
    (ap (λ (ts : List ℕ). filter (λ n. not (list_any (nat_eq n) ts)) c.naming.result.now) c.in_ok-targets.ensures
    ∙ ap (filter (λ n. not (list_any (nat_eq n) c.args.targets.now))) c.naming.ensures
    ∙ sym (naming_filter c.args.g c.args.row c.args.targets.now 0 c.args.given.now))
    c.without.ensures
