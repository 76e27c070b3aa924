-- Two steps on one entry are one step: the tests of three kinds, and two writes of one key.
use Rattle.std.proofs.Common.{◌≡◌, ℕ, Bool, true, false, cond, refl, sym, ap, subst, ◌∙◌, ◌&&◌, nat_eq}
use Rattle.std.specs.Prelude.{Option, None, Some}
use Rattle.std.proofs.lemmas.Option.{same_Some}
use Rattle.finite_maps.specs.Equal.{option_eq, text_eq}
use Rattle.finite_maps.proofs.MapLaws.{set_twice, get-set_same}
use Rattle.finite_maps.proofs.EqualLaws.{nat_equality, text_equality}
use Rattle.ecore_meta.specs.Meta.{Meta}
use Rattle.ecore_meta.specs.declared.meta.Value.{Value}
use Rattle.model_state.specs.declared.step.Step.{Step}
use Rattle.model_state.specs.declared.step.Step.TheVariants.{Put, RerankRow, RerankPlace}
use Rattle.model_state.specs.Keys.{IdBytes}
use Rattle.model_state.specs.Typing.{value_eq}
use Rattle.model_state.specs.State.{State}
use Rattle.model_state.specs.Steps.{tests, Can, apply, single}
use Rattle.model_state.proofs.Orders.{id_order, attr_order, row_order}
use Rattle.finite_maps.proofs.Cases.{not_so, true_false, not_false}
use Rattle.model_state.proofs.StepTests.{passed, pass, values_equality, number_equality}
use Rattle.merge_laws.specs.Joins.{step_eq}
use Rattle.merge_laws.specs.PairLaws.{JoinDoesBoth}
use Rattle.merge_laws.proofs.StepEqual.{both, set_value_equality, step_equality}

-- the one step stands for the two
abbrev pub Stands : Meta → State → Step → Step → Step → Type 0
Stands meta m s t u = Can meta m u × (apply meta m u ≡ apply meta (apply meta m s) t)

same_single : (x y : Option Value) → single x ≡ single y → x ≡ y
same_single None None h = refl
same_single None (Some y) h = cc
same_single (Some x) None h = cc
same_single (Some x) (Some y) h = cc

put_joins : (meta : Meta) (m : State) (e : IdBytes) (f : ℕ) (old mid mid' new : Option Value) → Can meta m (Put e f old mid)
    → Can meta (apply meta m (Put e f old mid)) (Put e f mid' new) → step_eq (Put e f mid' new) (Put e f mid old) ≡ false
    → Stands meta m (Put e f old mid) (Put e f mid' new) (Put e f old new)
put_joins meta m e f old mid mid' new can next other =
    let p = passed (tests meta m (Put e f old mid)) can in
    let q = passed (tests meta (apply meta m (Put e f old mid)) (Put e f mid' new)) next in
    let here : single mid ≡ single mid' = sym (get-set_same attr_order m.attr (e, f) (single mid)) ∙ values_equality.exact _ _ q.1.1.1.1.1.1.1.1.0 in
    let is : mid ≡ mid' = same_single mid mid' here in
    let differ : option_eq value_eq old new ≡ false =
    not_so (option_eq value_eq old new) (λ h. let back = set_value_equality.exact old new h in
    true_false _ (ap (λ o. step_eq (Put e f mid' new) (Put e f mid o)) back ∙ ap (λ o. step_eq (Put e f o new) (Put e f mid new)) (sym is)
    ∙ step_equality.own (Put e f mid new)) other) in (
      pass (tests meta m (Put e f old new))
          (p.0, (p.1.0, (p.1.1.0, (p.1.1.1.0, (q.1.1.1.1.0, (not_false _ differ, (p.1.1.1.1.1.1.0, (q.1.1.1.1.1.1.1.0, (p.1.1.1.1.1.1.1.1.0, tt))))))))),
      ap (λ a. record m { attr = a }) (sym (set_twice attr_order m.attr (e, f) (single mid) (single new))),
    )

row_joins : (meta : Meta) (m : State) (a : IdBytes) (f : ℕ) (b : IdBytes) (old mid mid' new : ℕ) → Can meta m (RerankRow a f b old mid)
    → Can meta (apply meta m (RerankRow a f b old mid)) (RerankRow a f b mid' new)
    → step_eq (RerankRow a f b mid' new) (RerankRow a f b mid old) ≡ false
    → Stands meta m (RerankRow a f b old mid) (RerankRow a f b mid' new) (RerankRow a f b old new)
row_joins meta m a f b old mid mid' new can next other =
    let p = passed (tests meta m (RerankRow a f b old mid)) can in
    let q = passed (tests meta (apply meta m (RerankRow a f b old mid)) (RerankRow a f b mid' new)) next in
    let is : mid ≡ mid' = same_Some mid mid' (sym (get-set_same row_order m.row (a, f, b) (Some mid)) ∙ number_equality.exact _ _ q.1.1.1.1.1.0) in
    let differ : nat_eq old new ≡ false =
    not_so (nat_eq old new) (λ h. let back = nat_equality.exact old new h in
    true_false _ (ap (λ o. step_eq (RerankRow a f b mid' new) (RerankRow a f b mid o)) back
    ∙ ap (λ o. step_eq (RerankRow a f b o new) (RerankRow a f b mid new)) (sym is) ∙ step_equality.own (RerankRow a f b mid new)) other) in (
      pass (tests meta m (RerankRow a f b old new)) (p.0, (p.1.0, (p.1.1.0, (p.1.1.1.0, (not_false _ differ, (p.1.1.1.1.1.0, tt)))))),
      ap (λ r. record m { row = r }) (sym (set_twice row_order m.row (a, f, b) (Some mid) (Some new))),
    )

place_joins : (meta : Meta) (m : State) (e : IdBytes) (old mid mid' new : ℕ) → Can meta m (RerankPlace e old mid)
    → Can meta (apply meta m (RerankPlace e old mid)) (RerankPlace e mid' new) → step_eq (RerankPlace e mid' new) (RerankPlace e mid old) ≡ false
    → Stands meta m (RerankPlace e old mid) (RerankPlace e mid' new) (RerankPlace e old new)
place_joins meta m e old mid mid' new can next other =
    let p = passed (tests meta m (RerankPlace e old mid)) can in
    let q = passed (tests meta (apply meta m (RerankPlace e old mid)) (RerankPlace e mid' new)) next in
    let is : mid ≡ mid' = same_Some mid mid' (sym (get-set_same id_order m.prank e (Some mid)) ∙ number_equality.exact _ _ q.1.1.0) in
    let differ : nat_eq old new ≡ false =
    not_so (nat_eq old new) (λ h. let back = nat_equality.exact old new h in
    true_false _ (ap (λ o. step_eq (RerankPlace e mid' new) (RerankPlace e mid o)) back
    ∙ ap (λ o. step_eq (RerankPlace e o new) (RerankPlace e mid new)) (sym is) ∙ step_equality.own (RerankPlace e mid new)) other) in (
      pass (tests meta m (RerankPlace e old new)) (p.0, (not_false _ differ, (p.1.1.0, tt))),
      ap (λ r. record m { prank = r }) (sym (set_twice id_order m.prank e (Some mid) (Some new))),
    )

-- from the test of one entry to the step
chosen : (b : Bool) (u v : Step) → cond b (Some v) None ≡ Some u → (b ≡ true) × (v ≡ u)
chosen true u v h = (refl, cc)
chosen false u v h = cc

pub join_does_both : JoinDoesBoth
join_does_both meta m (Put e f old mid) (Put e' f' mid' new) u can next other h =
    let c = chosen (text_eq e e' && nat_eq f f') u (Put e f old new) h in
    let k = both (text_eq e e') (nat_eq f f') c.0 in
    let pe = sym (text_equality.exact e e' k.0) in
    let pf = sym (nat_equality.exact f f' k.1) in
    let t : Put e' f' mid' new ≡ Put e f mid' new = λ i. Put (pe i) (pf i) mid' new in
    let r = put_joins meta m e f old mid mid' new can (subst (λ x. Can meta (apply meta m (Put e f old mid)) x) t next)
    (subst (λ x. step_eq x (Put e f mid old) ≡ false) t other) in
    subst (λ x. Stands meta m (Put e f old mid) x u) (sym t) (subst (λ x. Stands meta m (Put e f old mid) (Put e f mid' new) x) c.1 r)
join_does_both meta m (RerankRow a f b old mid) (RerankRow a' f' b' mid' new) u can next other h =
    let c = chosen (text_eq a a' && (nat_eq f f' && text_eq b b')) u (RerankRow a f b old new) h in
    let k = both (text_eq a a') (nat_eq f f' && text_eq b b') c.0 in
    let l = both (nat_eq f f') (text_eq b b') k.1 in
    let pa = sym (text_equality.exact a a' k.0) in
    let pf = sym (nat_equality.exact f f' l.0) in
    let pb = sym (text_equality.exact b b' l.1) in
    let t : RerankRow a' f' b' mid' new ≡ RerankRow a f b mid' new = λ i. RerankRow (pa i) (pf i) (pb i) mid' new in
    let r = row_joins meta m a f b old mid mid' new can (subst (λ x. Can meta (apply meta m (RerankRow a f b old mid)) x) t next)
    (subst (λ x. step_eq x (RerankRow a f b mid old) ≡ false) t other) in
    subst (λ x. Stands meta m (RerankRow a f b old mid) x u) (sym t) (subst (λ x. Stands meta m (RerankRow a f b old mid) (RerankRow a f b mid' new) x) c.1 r)
join_does_both meta m (RerankPlace e old mid) (RerankPlace e' mid' new) u can next other h =
    let c = chosen (text_eq e e') u (RerankPlace e old new) h in
    let pe = sym (text_equality.exact e e' c.0) in
    let t : RerankPlace e' mid' new ≡ RerankPlace e mid' new = λ i. RerankPlace (pe i) mid' new in
    let r = place_joins meta m e old mid mid' new can (subst (λ x. Can meta (apply meta m (RerankPlace e old mid)) x) t next)
    (subst (λ x. step_eq x (RerankPlace e mid old) ≡ false) t other) in
    subst (λ x. Stands meta m (RerankPlace e old mid) x u) (sym t) (subst (λ x. Stands meta m (RerankPlace e old mid) (RerankPlace e mid' new) x) c.1 r)
join_does_both meta m s t u can next other h = cc
