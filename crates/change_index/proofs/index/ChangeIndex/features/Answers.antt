-- by the element's rows
use Rattle.std.proofs.Common.{ℕ, List, sym, ap, ◌∙◌, subst}
use Rattle.std.specs.Prelude.{Result, Ok, Err, IfOk}
use Rattle.std.specs.List.{list_any}
use Rattle.std.specs.Ordering.{nat_cmp}
use Rattle.std.specs.BTreeMap as tree
use Rattle.finite_maps.specs.Nested.{inner_get}
use Rattle.history_tree.specs.Laws.{Rises}
use Rattle.history_tree.specs.MergeBase.{is_among}
use Rattle.change_index.specs.Table.{numbers, row}
use Rattle.change_index.proofs.Asking.{any_listed}
use Rattle.change_index.proofs.Picking.{nothing}
use Rattle.change_index.proofs.index.ChangeIndex.features.Goals as goal

both_ok : {E : Type 0} {P Q R : List ℕ → Type 0} (r : Result (List ℕ) E) → ((x : List ℕ) → P x → Q x → R x) → IfOk r P → IfOk r Q → IfOk r R
both_ok (Ok x) f p q = f x p q
both_ok (Err e) f p q = p

pub features_of-requires-clause-rows : goal.features_of-requires-clause-rows
features_of-requires-clause-rows c f =
    subst Rises (sym (ap (λ o. numbers (inner_get (λ r. tree.get nat_cmp r f) o)) c.in-Some.ensures.value)) (c.self.invariant c.args.e.now f).0

pub returns-in-None : goal.returns-in-None
returns-in-None c = record {
  rise = subst Rises (sym c.new.ensures) tt;
  those = λ f. ap (λ l. is_among l f) c.new.ensures ∙ sym (nothing c.args.path.now)
      ∙ ap (λ o. list_any (is_among (numbers (inner_get (λ r. tree.get nat_cmp r f) o))) c.args.path.now) c.in-None.ensures.value
      ∙ any_listed c.self.inside.table c.self.inside.count c.args.self.now c.self.view_is c.args.e.now f c.args.path.now c.requires.low;
}

pub returns-in-Some : goal.returns-in-Some
returns-in-Some c = both_ok c.features_of.result
    (λ features rise those. record {
      rise = rise;
      those = λ f. those f
          ∙ ap (λ p. list_any (is_among (row c.in-Some.rows.now f)) p) c.as_slice.ensures
          ∙ ap (λ o. list_any (is_among (numbers (inner_get (λ r. tree.get nat_cmp r f) o))) c.args.path.now) c.in-Some.ensures.value
          ∙ any_listed c.self.inside.table c.self.inside.count c.args.self.now c.self.view_is c.args.e.now f c.args.path.now c.requires.low;
    })
    c.features_of.ensures.rise c.features_of.ensures.those
