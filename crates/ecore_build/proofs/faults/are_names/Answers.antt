use Rattle.std.proofs.Common.{◌≡◌, ◌∙◌, ◌++◌, ◌∷◌, [], Bool, true, false, ap, get_or, map, not, refl, sym, take}
use Rattle.std.specs.Str.{bytes_eq}
use Rattle.ecore_meta.specs.Names.{Name}
use Rattle.ecore_meta.proofs.NameLaws.{next_names, same}
use Rattle.ecore_build.proofs.faults.are_names.Goals as goal

-- texts that don't differ
equal : (x y : Name) → false ≡ not (bytes_eq x y) → x ≡ y
equal x y h = same x y (by_test (bytes_eq x y) h)
  where
    by_test : (b : Bool) → false ≡ not b → b ≡ true
    by_test true h = refl
    by_test false h = cc

pub loop-row-preserved : goal.loop-row-preserved
loop-row-preserved c =
    next_names (λ x. x.literal) c.args.literals.now c.loop-row.row-index c.row-item.result c.loop-row-test.true
    ∙ ap (λ ys. ys ++ (get_or c.args.literals.now c.loop-row.row-index c.row-item.result).literal ∷ []) c.loop-row.invariant
    ∙ ap (λ y. map (λ x. x.name) (take c.loop-row.row-index c.args.literals.now) ++ y ∷ [])
    (sym (ap (λ x. x.literal) c.row-item.is) ∙ equal c.row-item.result.literal c.row-item.result.name c.if-ne.ensures ∙ ap (λ x. x.name) c.row-item.is)
    ∙ sym (next_names (λ x. x.name) c.args.literals.now c.loop-row.row-index c.row-item.result c.loop-row-test.true)
