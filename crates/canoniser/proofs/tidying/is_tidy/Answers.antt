-- by the operations, and then by how many are left
use Rattle.std.proofs.Common.{length, nat_eq, List, sym, ap, ◌∙◌}
use Rattle.std.specs.List.{list_all}
use Rattle.model_state.specs.declared.operation.Operation.{Operation}
use Rattle.merge_laws.specs.Split.{is_single}
use Rattle.canoniser.proofs.Tidied.{not_cut, as_many}
use Rattle.canoniser.proofs.tidying.is_tidy.Goals as goal

pub returns-then-not-are_single : goal.returns-then-not-are_single
returns-then-not-are_single c =
    not_cut c.args.meta.now c.args.package.now
    (sym (c.are_single.ensures ∙ ap (λ (p : List Operation). list_all is_single p) c.as_slice.ensures) ∙ c.if-not-are_single.true)

pub returns : goal.returns
returns c =
    let p : List Operation = c.args.package.now in
    as_many c.args.meta.now p
    (sym (c.are_single.ensures ∙ ap (λ (p : List Operation). list_all is_single p) c.as_slice.ensures) ∙ c.if-not-are_single.false)
    (nat_eq c.len.result c.len-2.result)
    (λ i. nat_eq (sym (c.len.ensures ∙ ap length c.in_ok-tidied.ensures.tidied) i) (sym c.len-2.ensures i))
