use Rattle.std.proofs.Common.{◌≡◌, ◌++◌, ◌∙◌, sym, ap, not, nat_eq, arith}
use Rattle.std.proofs.lemmas.List.{append-nil}
use Rattle.std.specs.List.{filter, list_any, range_with_len}
use Rattle.metamodel_growth.proofs.CodeLaws.{kept_more}
use Rattle.metamodel_growth.proofs.order.begun_by.Goals as goal

pub loop-k-init : goal.loop-k-init
loop-k-init c = sym (append-nil c.args.first.items)

pub loop-k-preserved : goal.loop-k-preserved
loop-k-preserved c =
    c.in_ok-push_if.ensures
    ∙ kept_more (λ j. not (list_any (nat_eq j) c.args.first.items)) c.args.first.items c.loop-k.k-counter c.loop-k.numbers.items
    (not c.contains.result) c.loop-k.invariant
    (ap not (c.contains.ensures ∙ c.in_ok-set.ensures.alike c.loop-k.k-counter ∙ ap (λ xs. list_any (nat_eq c.loop-k.k-counter) xs) c.as_slice.ensures.value))

pub returns : goal.returns
returns c =
    let all : c.loop-k.k-counter ≡ c.args.n = omega (arith, c.loop-k-test.false, c.loop-k.auto.k-counter-end) in
    c.loop-k.invariant ∙ ap (λ m. c.args.first.items ++ filter (λ j. not (list_any (nat_eq j) c.args.first.items)) (range_with_len 0 m)) all
