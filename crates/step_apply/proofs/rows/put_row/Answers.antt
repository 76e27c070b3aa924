-- A row put into the tree and both indexes, or into none where there is no memory.
use Rattle.std.proofs.Common.{◌≡◌, ℕ, false, refl, sym, ap, subst, ◌∙◌, nat_eq}
use Rattle.std.specs.Prelude.{Some, None}
use Rattle.std.specs.BTreeMap as tree
use Rattle.finite_maps.specs.Equal.{text_eq}
use Rattle.finite_maps.specs.Maps.{set}
use Rattle.finite_maps.proofs.TableLaws.{table_updates}
use Rattle.model_state.specs.Keys.{IdBytes, RowKey, row_cmp}
use Rattle.model_state.proofs.Orders.{row_order}
use Rattle.step_apply.specs.Groups.{members_of, incoming_rows}
use Rattle.step_apply.proofs.IncomingKept.{arrived, into_undone}
use Rattle.step_apply.proofs.Routed.{routed, out_undone, out_kept}
use Rattle.step_apply.proofs.rows.put_row.Goals as goal

pub returns-in-Ok-insert-clause-out : goal.returns-in-Ok-insert-clause-out
returns-in-Ok-insert-clause-out c = λ is.
    routed c.args.tree.now c.insert.new.self c.args.out.now c.put_outgoing.new.out c.args.key
    (Some c.args.rank) is c.in-Ok-insert.ensures.updates.0 c.in-Ok.ensures.here c.in-Ok.ensures.same_element c.in-Ok.ensures.there

pub returns-in-Ok-insert-clause-into : goal.returns-in-Ok-insert-clause-into
returns-in-Ok-insert-clause-into c = λ is.
    arrived c.args.tree.now c.insert.new.self c.args.into.now c.put_incoming.new.into c.args.key
    (Some c.args.rank) is c.in-Ok-insert.ensures.updates.0 c.in_ok-put_incoming.ensures.here c.in_ok-put_incoming.ensures.there

pub returns-in-Ok-insert-clause-ok : goal.returns-in-Ok-insert-clause-ok
returns-in-Ok-insert-clause-ok c = table_updates row_order c.args.tree.now c.insert.new.self c.args.key (Some c.args.rank) c.in-Ok-insert.ensures.updates.0

-- where the source takes no row more, the target gets back what it had
pub returns-in-Err-clause-out : goal.returns-in-Err-clause-out
returns-in-Err-clause-out c =
    λ is. out_kept c.args.tree.now c.args.out.now c.put_outgoing.new.out c.args.key is c.in-Err.ensures.err c.in-Err.ensures.same_element c.in-Err.ensures.there

pub returns-in-Err-clause-into : goal.returns-in-Err-clause-into
returns-in-Err-clause-into c = λ is.
    into_undone c.args.tree.now c.args.tree.now c.args.into.now c.put_incoming.new.into c.rewrite_to.new.into c.args.key c.args.rank c.copied-old.result is refl
    (sym (c.copied-old.ensures ∙ c.get.ensures.value)) c.in_ok-put_incoming.ensures.here c.in_ok-put_incoming.ensures.there c.rewrite_to.ensures.here
    c.rewrite_to.ensures.there

-- where the tree takes no row more, both ends give it back
pub returns-in-Err-insert-clause-out : goal.returns-in-Err-insert-clause-out
returns-in-Err-insert-clause-out c = λ is.
    let k = c.in-Err-insert.back.value.0 in
    let same : k ≡ c.args.key = ap (λ p. p.0) c.in-Err-insert.ensures.value_returned in
    let out = c.args.out.now in
    let put = c.put_outgoing.new.out in
    let absent : tree.get row_cmp c.args.tree.now k ≡ None = ap (tree.get row_cmp c.args.tree.now) same ∙ c.in-Err-insert.ensures.absent in
    out_undone c.args.tree.now c.insert.new.self out put c.drop_in.new.inside k c.args.rank is c.in-Err-insert.ensures.err absent
    (subst (λ (z : RowKey). members_of put z.0 z.1 ≡ set (members_of out z.0 z.1) z.2 (Some c.args.rank)) (sym same) c.in-Ok.ensures.here)
    (subst (λ (z : RowKey). (g : ℕ) → nat_eq z.1 g ≡ false → members_of put z.0 g ≡ members_of out z.0 g) (sym same) c.in-Ok.ensures.same_element)
    (subst (λ (z : RowKey). (b : IdBytes) (g : ℕ) → text_eq z.0 b ≡ false → members_of put b g ≡ members_of out b g) (sym same) c.in-Ok.ensures.there)
    c.drop_in.ensures.here c.drop_in.ensures.same_element c.drop_in.ensures.there

pub returns-in-Err-insert-clause-into : goal.returns-in-Err-insert-clause-into
returns-in-Err-insert-clause-into c = λ is.
    let k = c.in-Err-insert.back.value.0 in
    let same : k ≡ c.args.key = ap (λ p. p.0) c.in-Err-insert.ensures.value_returned in
    let into = c.args.into.now in
    let came = c.put_incoming.new.into in
    let absent : tree.get row_cmp c.args.tree.now k ≡ None = ap (tree.get row_cmp c.args.tree.now) same ∙ c.in-Err-insert.ensures.absent in
    into_undone c.args.tree.now c.insert.new.self into came c.rewrite_to-in-Err-insert.new.into k c.args.rank None is c.in-Err-insert.ensures.err absent
    (subst (λ (z : RowKey). incoming_rows came z.2 ≡ set (incoming_rows into z.2) z (Some c.args.rank)) (sym same) c.in_ok-put_incoming.ensures.here)
    (subst (λ (z : RowKey). (x : IdBytes) → text_eq z.2 x ≡ false → incoming_rows came x ≡ incoming_rows into x) (sym same) c.in_ok-put_incoming.ensures.there)
    c.rewrite_to-in-Err-insert.ensures.here c.rewrite_to-in-Err-insert.ensures.there
