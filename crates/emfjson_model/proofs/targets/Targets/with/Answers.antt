use Rattle.std.proofs.Common.{sym, ap, ◌∙◌, nat_eq}
use Rattle.std.specs.List.{list_any}
use Rattle.std.specs.BTreeSet.{contains}
use Rattle.std.specs.Ordering.{nat_cmp}
use Rattle.emfjson_model.proofs.Among.{one_more}
use Rattle.emfjson_model.proofs.targets.Targets.with.Goals as goal

pub invariant_of-result : goal.invariant_of-result
invariant_of-result c = λ q.
    one_more c.args.n q c.self.inside.list (contains nat_cmp c.self.inside.set q) (contains nat_cmp c.insert.new.self q) (c.self.invariant q)
    (c.in_ok-insert.ensures.updates.0 q)
    ∙ ap (list_any (nat_eq q)) (sym c.in_ok-push.ensures.ok)
