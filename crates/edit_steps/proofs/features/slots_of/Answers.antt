use Rattle.std.proofs.Common.{◌≡◌, ◌+◌, ◌++◌, sym, ap, ◌∙◌, append_assoc, drop, map}
use Rattle.std.specs.FinMap.{get}
use Rattle.edit_steps.specs.Subtree.{features_of}
use Rattle.edit_steps.specs.Deletes.{slots_of}
use Rattle.edit_steps.specs.Sorts.{passes}
use Rattle.edit_steps.proofs.Walks.{drop_more}
use Rattle.edit_steps.proofs.features.slots_of.Goals as goal

pub loop-x-preserved : goal.loop-x-preserved
loop-x-preserved g c =
    let m = g.L.Look.state c.args.look.now in
    let meta = c.args.meta.now in
    let p = passes c.args.sort in
    let xs = c.args.elements.now in
    let i = c.loop-x.x-index in
    let x = c.x-item.result in
    let rest = slots_of meta m p (drop (i + 1) xs) in
    let head : slots_of meta m p (drop i xs) ≡ map (λ f. (x, f)) (features_of meta p (get m.kind x)) ++ rest =
    ap (slots_of meta m p) (drop_more xs i x c.loop-x-test.true c.x-item.is) in
    ap (λ l. l ++ rest) (c.in_ok-push_slots.ensures ∙ ap (λ k. c.loop-x.slots ++ map (λ f. (x, f)) (features_of meta p k)) c.class.ensures)
    ∙ append_assoc c.loop-x.slots (map (λ f. (x, f)) (features_of meta p (get m.kind x))) rest
    ∙ ap (λ l. c.loop-x.slots ++ l) (sym head)
    ∙ c.loop-x.invariant
