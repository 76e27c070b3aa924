use Rattle.std.proofs.Common.{◌≡◌, ◌+◌, ◌-◌, ◌∙◌, None, Some, refl, sym, ap, subst, arith}
use Rattle.std.specs.Prelude.{IsSome}
use Rattle.std.specs.BTreeMap.{get_by_text}
use Rattle.std.specs.Str.{bytes_eq}
use Rattle.std.proofs.lemmas.Map.Text.{btree_map_updates_text}
use Rattle.finite_maps.proofs.EqualLaws.{text_equality}
use Rattle.value_counts.specs.Counts.{text_count}
use Rattle.value_counts.proofs.TreeLaws.{counted_less}
use Rattle.value_counts.proofs.trees.take_text.Goals as goal

pub returns-then-count-eq1 : goal.returns-then-count-eq1
returns-then-count-eq1 c =
    counted_less bytes_eq text_equality (get_by_text c.args.tree.now) (get_by_text c.remove.new.self) c.args.text.now c.args.text.now None refl
    (btree_map_updates_text _ c.args.tree.now c.remove.new.self None c.remove.ensures.updates)
    (sym c.text_count-count.ensures ∙ c.if-count-eq1.true)

pub returns-in-Some : goal.returns-in-Some
returns-in-Some c =
    let n = c.text_count-count.result - 1 in
    let m = c.get_mut.follows.lender n in
    let wrote = (c.get_mut.follows.holds n).3 (subst (λ o. IsSome o) c.in-Some.ensures.value refl) in
    let some : c.text_count-count.result ≡ n + 1 = omega (arith, c.requires, c.text_count-count.ensures) in
    counted_less bytes_eq text_equality (get_by_text c.args.tree.now) (get_by_text m) c.args.text.now c.args.text.now (Some n) refl
    (btree_map_updates_text _ c.args.tree.now m (Some n) wrote)
    (sym c.text_count-count.ensures ∙ some)
