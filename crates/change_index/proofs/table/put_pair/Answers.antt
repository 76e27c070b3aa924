-- the rows of the element have the version now
use Rattle.std.proofs.Common.{◌≡◌, ap, subst, ◌∙◌, refl, cond, nat_eq}
use Rattle.std.specs.Prelude.{IsSome, Some}
use Rattle.std.specs.Map.{lookup}
use Rattle.std.specs.Ordering.{nat_cmp}
use Rattle.std.specs.BTreeMap as tree
use Rattle.std.specs.BTreeMap.{is_at}
use Rattle.finite_maps.specs.Nested.{inner_get}
use Rattle.model_state.specs.Keys.{id_cmp}
use Rattle.change_index.specs.Table.{numbers, pushed}
use Rattle.change_index.proofs.Tables.{on_ok, on_err, pair_done, pair_same}
use Rattle.change_index.proofs.table.put_pair.Goals as goal

pub returns-in-Some-clause-ok : goal.returns-in-Some-clause-ok
returns-in-Some-clause-ok c =
    let wrote = (c.get_mut.follows.holds c.put_row.new.rows).3 (subst (λ o. IsSome o) c.in-Some.ensures.value refl) in
    on_ok c.put_row.result
    (λ put. pair_done c.args.table.now (c.get_mut.follows.lender c.put_row.new.rows) c.args.element.now c.put_row.new.rows wrote.0
    (pushed c.args.version) c.args.feature
    (λ g. put g ∙ ap (λ o.
    cond (nat_eq c.args.feature g) (pushed c.args.version (numbers (inner_get (λ r. tree.get nat_cmp r g) o)))
    (numbers (inner_get (λ r. tree.get nat_cmp r g) o))) c.in-Some.ensures.value))
    c.put_row.ensures.ok

pub returns-in-Some-clause-err : goal.returns-in-Some-clause-err
returns-in-Some-clause-err c =
    let wrote = (c.get_mut.follows.holds c.put_row.new.rows).3 (subst (λ o. IsSome o) c.in-Some.ensures.value refl) in
    on_err c.put_row.result
    (λ same. pair_same c.args.table.now (c.get_mut.follows.lender c.put_row.new.rows) c.args.element.now c.put_row.new.rows wrote.0
    (λ g. same g ∙ ap (λ o. numbers (inner_get (λ r. tree.get nat_cmp r g) o)) c.in-Some.ensures.value))
    c.put_row.ensures.err

pub returns-in_ok-insert-in-None-clause-ok : goal.returns-in_ok-insert-in-None-clause-ok
returns-in_ok-insert-in-None-clause-ok c =
    let still : c.get_mut.follows.lender-at-none ≡ c.args.table.now = c.get_mut.follows.holds-at-none in
    pair_done c.args.table.now c.insert.new.self c.args.element.now c.put_row-in-None.new.rows
    (λ q. c.in_ok-insert-in-None.ensures.updates.0 q
    ∙ (λ i. cond (is_at (id_cmp (c.in_ok-copy-in-None.ensures i)) q) (Some c.put_row-in-None.new.rows) (tree.get id_cmp (still i) q)))
    (pushed c.args.version) c.args.feature
    (λ g. c.in_ok-put_row-in-None.ensures.ok g
    ∙ ap (λ us. cond (nat_eq c.args.feature g) (pushed c.args.version us) us)
    (ap (λ es. numbers (lookup (is_at (nat_cmp g)) es)) c.new-rows.ensures.empty
    ∙ ap (λ o. numbers (inner_get (λ r. tree.get nat_cmp r g) o)) c.in-None.ensures.value))
