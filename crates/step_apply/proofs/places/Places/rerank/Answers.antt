-- the place that is written again is the one that was there
use Rattle.std.proofs.Common.{◌≡◌, sym, ap, ◌∙◌}
use Rattle.std.specs.Prelude.{None, Some, Result, Ok, Err, OnOk, OnErr, is_some}
use Rattle.std.specs.Option.{option_map, option_copied}
use Rattle.std.specs.FinMap.{get}
use Rattle.finite_maps.specs.Maps.{set}
use Rattle.finite_maps.proofs.Cases.{true_false}
use Rattle.finite_maps.proofs.MapLaws.{set_here}
use Rattle.finite_maps.proofs.TableLaws.{get-table_of}
use Rattle.model_state.specs.declared.step.Placed.{Placed}
use Rattle.model_state.proofs.Orders.{id_order}
use Rattle.step_apply.proofs.places.Places.rerank.Goals as goal

by_result : {X E A B P : Type 0} (r : Result X E) → OnOk r A → OnErr r B → (A → P) → (B → P) → P
by_result (Ok x) a b f g = f a
by_result (Err e) a b f g = g b

pub returns-in_default-clause-rank : goal.returns-in_default-clause-rank
returns-in_default-clause-rank c = λ some.
    let none : get c.args.self.now.rank c.args.e.now ≡ None =
    ap (λ m. get m.rank c.args.e.now) (sym c.self.view_is)
    ∙ get-table_of id_order (λ (x : Placed). x.rank) c.self.inside.tree c.args.e.now
    ∙ ap (option_map (λ (x : Placed). x.rank)) (sym c.get.ensures.value ∙ ap option_copied c.in_default.is) in
    absurd (true_false (is_some (get c.args.self.now.rank c.args.e.now)) some (ap is_some none))

pub returns-clause-place : goal.returns-clause-place
returns-clause-place c =
    let old = c.args.self.now in
    let e = c.args.e.now in
    let stood : get old.place e ≡ Some c.in-Some.placed.now.place =
    ap (λ m. get m.place e) (sym c.self.view_is)
    ∙ get-table_of id_order (λ (x : Placed). x.place) c.self.inside.tree e
    ∙ ap (option_map (λ (x : Placed). x.place)) (sym c.in-Some.ensures.value) in
    by_result c.put.result c.put.ensures.place c.put.ensures.err
    (λ wrote. wrote ∙ (λ i. set old.place (c.in_ok-copy.ensures i) (Some (c.in_ok-place.ensures i)))
    ∙ set_here id_order old.place e (Some c.in-Some.placed.now.place) stood)
    (λ same. ap (λ s. s.place) same)
