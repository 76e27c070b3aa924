-- A joined operation has the cells of the earlier of the two.
use Rattle.std.proofs.Common.{◌≡◌, Bool, true, false, cond, [], ◌∷◌, ◌++◌, refl, sym, ap, ◌∙◌}
use Rattle.std.specs.Prelude.{Option, None, Some}
use Rattle.std.specs.Option.{option_map}
use Rattle.finite_maps.specs.Equal.{text_eq}
use Rattle.std.proofs.Common.{nat_eq, ◌&&◌}
use Rattle.ecore_meta.specs.Meta.{Meta}
use Rattle.model_state.specs.declared.step.Step.{Step}
use Rattle.model_state.specs.declared.step.Step.TheVariants.{Put, RerankRow, RerankPlace}
use Rattle.model_state.specs.declared.operation.OpKind.{OpKind}
use Rattle.model_state.specs.declared.operation.Operation.{Operation}
use Rattle.model_state.specs.declared.operation.Operation.TheVariants.{Simple}
use Rattle.model_laws.specs.Cells.{step_writes, step_reads}
use Rattle.footprint.specs.Interference.{op_writes, op_reads}
use Rattle.merge_laws.specs.Joins.{joined}
use Rattle.merge_laws.specs.Rules.{takes_back, joined_op, met}

chosen : (b : Bool) (u v : Step) → cond b (Some v) None ≡ Some u → v ≡ u
chosen true u v h = cc
chosen false u v h = cc

-- the two write and read the same cells
abbrev pub SameCells : Meta → Step → Step → Type 0
SameCells meta u s = (step_writes meta u ≡ step_writes meta s) × (step_reads u ≡ step_reads s)

joined_cells : (meta : Meta) (s t u : Step) → joined s t ≡ Some u → SameCells meta u s
joined_cells meta (Put e f old mid) (Put e' f' mid' new) u h =
    let is = sym (chosen (text_eq e e' && nat_eq f f') u (Put e f old new) h) in (ap (step_writes meta) is, ap step_reads is)
joined_cells meta (RerankRow a f b old mid) (RerankRow a' f' b' mid' new) u h =
    let is = sym (chosen (text_eq a a' && (nat_eq f f' && text_eq b b')) u (RerankRow a f b old new) h) in (ap (step_writes meta) is, ap step_reads is)
joined_cells meta (RerankPlace e old mid) (RerankPlace e' mid' new) u h =
    let is = sym (chosen (text_eq e e') u (RerankPlace e old new) h) in (ap (step_writes meta) is, ap step_reads is)
joined_cells meta s t u h = cc

abbrev pub SamePrint : Meta → Operation → Operation → Type 0
SamePrint meta c a = (op_writes meta c ≡ op_writes meta a) × (op_reads c ≡ op_reads a)

one_step : (meta : Meta) (kind : OpKind) (s : Step) (o : Option Step) (c : Operation) → ((u : Step) → o ≡ Some u → SameCells meta u s)
    → option_map (λ u. Simple kind (u ∷ [])) o ≡ Some c → SamePrint meta c (Simple kind (s ∷ []))
one_step meta kind s None c same h = cc
one_step meta kind s (Some u) c same h =
    let is : c ≡ Simple kind (u ∷ []) = cc in
    let cells = same u refl in
    (ap (op_writes meta) is ∙ ap (λ l. l ++ []) cells.0, ap op_reads is ∙ ap (λ l. l ++ []) cells.1)

joined_print : (meta : Meta) (a b c : Operation) → joined_op a b ≡ Some c → SamePrint meta c a
joined_print meta (Simple kind (s ∷ [])) (Simple other (t ∷ [])) c h = one_step meta kind s (joined s t) c (λ u is. joined_cells meta s t u is) h
joined_print meta a b c h = cc

left_one : (o : Option Operation) (c : Operation) → option_map (λ x. x ∷ []) o ≡ Some (c ∷ []) → o ≡ Some c
left_one None c h = cc
left_one (Some x) c h = cc

pub met_print : (meta : Meta) (a b c : Operation) → met a b ≡ Some (c ∷ []) → SamePrint meta c a
met_print meta a b c h =
    elim (takes_back b a) as (λ t. cond t (Some []) (option_map (λ x. x ∷ []) (joined_op a b)) ≡ Some (c ∷ []) → SamePrint meta c a) [
      | true ↦ λ g. absurd (nothing_left g)
      | false ↦ λ g. joined_print meta a b c (left_one (joined_op a b) c g)
    ] h
  where
    nothing_left : {c : Operation} → Some [] ≡ Some (c ∷ []) → ⊥
    nothing_left g = cc
