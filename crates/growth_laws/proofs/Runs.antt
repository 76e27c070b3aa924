-- What growth keeps of states, steps and runs.
use Rattle.std.proofs.Common.{◌≡◌, ℕ, true, false, not, refl, sym, ap, subst, ◌∙◌, List, [], ◌∷◌, ◌++◌, length, nat_lt, arith}
use Rattle.std.proofs.lemmas.Bool.Decides.{nat_tests}
use Rattle.std.proofs.lemmas.Grind.{common_steps}
use Rattle.std.specs.Prelude.{None, Some, slice_get}
use Rattle.std.specs.Option.{option_map_or}
use Rattle.ecore_meta.specs.Meta.{Meta, has_feature, is_a}
use Rattle.ecore_meta.specs.Promised.{IsMetamodel}
use Rattle.ecore_meta.specs.Typing.{literal_count}
use Rattle.ecore_meta.specs.declared.meta.Enum.{Enum}
use Rattle.ecore_meta.proofs.DeclaredLaws.{has_declared}
use Rattle.ecore_meta.specs.declared.meta.Class.{Class}
use Rattle.ecore_meta.specs.declared.meta.Feature.{Feature}
use Rattle.ecore_meta.specs.declared.meta.EnumLiteral.{EnumLiteral}
use Rattle.model_state.specs.Typing.{is_concrete}
use Rattle.model_state.specs.Steps.{apply, fold}
use Rattle.model_laws.specs.Cells.{step_writes, writes_all}
use Rattle.model_laws.proofs.Runs.{undoes, fold_more, fold_first}
use Rattle.growth_laws.specs.Growth.{Evolves}
use Rattle.growth_laws.proofs.Keeps.{Keeps}
use Rattle.metamodel_growth.specs.Preserves.{Preserves}
use Rattle.metamodel_growth.proofs.ExtensionLaws.{evolved_is, evolved_preserves}
use Rattle.growth_laws.specs.Laws.{ExtensionEvolves, GrowthKeepsGood, GrowthKeepsSteps, GrowthKeepsRuns}
use Rattle.growth_laws.proofs.States.{good_kept}
use Rattle.growth_laws.proofs.Tests.{can_kept, apply_kept, cells_kept}

module _ (o n : Meta) (preserves : Preserves o n) where
  concrete_kept : (c : ℕ) → is_concrete o c ≡ true → is_concrete n c ≡ true
  concrete_kept c h =
      elim (slice_get o.classes c) as (λ x. slice_get o.classes c ≡ x
      → option_map_or (λ (class : Class). not class.is_abstract) x false ≡ true → is_concrete n c ≡ true) [
        | None ↦ λ is g. cc
        | Some k ↦ λ is g.
            let l = preserves.classes c k is in
            ap (λ x. option_map_or (λ (class : Class). not class.is_abstract) x false) l.1 ∙ ap not l.3 ∙ g
      ] refl h

  module _ (was : IsMetamodel o) (is : IsMetamodel n) where
    -- the owner of a feature is a class that has it, in both
    has_both : (c f : ℕ) → has_feature o c f ≡ true → (has_feature n c f ≡ true) × (slice_get n.features f ≡ slice_get o.features f)
    has_both c f h =
        elim (slice_get o.features f) as (λ x. slice_get o.features f ≡ x
        → option_map_or (λ (feature : Feature). is_a o c feature.owner) x false ≡ true
        → (has_feature n c f ≡ true) × (slice_get n.features f ≡ slice_get o.features f)) [
          | None ↦ λ at g. absurd (none_such g)
          | Some x ↦ λ at g.
              let there = preserves.features f x at in (
                has_declared n is.lists c f ∙ ap (λ y. option_map_or (λ (feature : Feature). is_a n c feature.owner) y false) there
                    ∙ preserves.above c x.owner g,
                there ∙ sym at,
              )
        ] refl (sym (has_declared o was.lists c f) ∙ h)
      where
        none_such : false ≡ true → ⊥
        none_such e = cc

  literals_kept : (e k : ℕ) → nat_lt k (literal_count o e) ≡ true → nat_lt k (literal_count n e) ≡ true
  literals_kept e k h =
      elim (slice_get o.enums e) as (λ x. slice_get o.enums e ≡ x
      → nat_lt k (length (option_map_or (λ (found : Enum). found.literals) x [])) ≡ true → nat_lt k (literal_count n e) ≡ true) [
        | None ↦ λ at g. absurd (none_below k g)
        | Some x ↦ λ at g.
            let more = preserves.enums e x at in
            subst (λ y. nat_lt k (length (option_map_or (λ (found : Enum). found.literals) y [])) ≡ true) (sym more.2)
            (subst (λ ls. nat_lt k (length ls) ≡ true) (sym more.4) (longer x.literals more.1 k g))
      ] refl h
    where
      none_below : (k : ℕ) → nat_lt k 0 ≡ true → ⊥
      none_below k g = grind (arith, nat_tests)

      longer : (ls more : List EnumLiteral) (k : ℕ) → nat_lt k (length ls) ≡ true → nat_lt k (length (ls ++ more)) ≡ true
      longer ls more k g = grind (arith, nat_tests, common_steps)

pub kept : (old new : Meta) → Evolves old new → Keeps old new
kept old new e = record {
  concrete = concrete_kept old new e.preserves;
  has = λ c f h. (has_both old new e.preserves e.was e.is c f h).0;
  feature = λ c f h. (has_both old new e.preserves e.was e.is c f h).1;
  above = e.preserves.above;
  literals = literals_kept old new e.preserves;
}

pub extension_evolves : ExtensionEvolves
extension_evolves old next is_old is_next none = record {
  was = is_old;
  is = evolved_is old next is_old is_next;
  preserves = evolved_preserves old next is_old is_next none;
}

pub growth_keeps_good : GrowthKeepsGood
growth_keeps_good old new e m good = good_kept old new (kept old new e) e.is.sound m good

pub growth_keeps_steps : GrowthKeepsSteps
growth_keeps_steps old new e m good s can = (
  can_kept old new (kept old new e) e.was.sound m s can,
  apply_kept old new (kept old new e) m s can,
  cells_kept old new (kept old new e) e.was.sound m good s can,
)

pub growth_keeps_runs : GrowthKeepsRuns
growth_keeps_runs old new e m n good [] h = (h, refl)
growth_keeps_runs old new e m n good (s ∷ ss) h =
    let p = fold_first old m n s ss h in
    let k = growth_keeps_steps old new e m good s p.0 in
    let r = growth_keeps_runs old new e (apply old m s) n (undoes old e.was.sound m good s p.0).keeps ss p.1 in
    (fold_more new m s ss k.0 ∙ ap (λ x. fold new x ss) k.1 ∙ r.0, ap (λ cs. cs ++ writes_all new ss) k.2 ∙ ap (λ cs. step_writes old s ++ cs) r.1)
