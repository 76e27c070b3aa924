use Rattle.std.proofs.Common.{◌≡◌, ◌+◌, ◌++◌, ◌∷◌, [], List, take, sym, ap, subst, ◌∙◌, append-nil, append_assoc, take_all, arith}
use Rattle.ecore_meta.specs.declared.meta.Value.{Value}
use Rattle.value_counts.specs.Counts.{Counts}
use Rattle.value_counts.proofs.CountLaws.{counts_append, one_more_taken}
use Rattle.value_counts.proofs.counts.ValueCounts.add_all.Goals as goal

pub loop-value-init : goal.loop-value-init
loop-value-init c = λ vs counts. subst (λ l. Counts c.args.self.now l) (sym (append-nil vs)) counts

pub loop-value-preserved : goal.loop-value-preserved
loop-value-preserved c = λ vs counts.
    let xs = c.args.values.now in
    let i = c.loop-value.value-index in
    subst (λ (l : List Value). Counts c.add.new.self l)
    (append_assoc vs (take i xs) (c.value-item.result ∷ [])
    ∙ ap (λ l. vs ++ l) (sym (one_more_taken xs i c.value-item.result c.loop-value-test.true c.value-item.is)))
    (counts_append c.loop-value.self c.add.new.self (vs ++ take i xs) c.value-item.result (c.loop-value.invariant vs counts) c.in_ok-add.ensures.ok)
