-- The lines of operations stay where the metamodel is extended: what they name has its name still.
use Rattle.std.proofs.Common.{◌≡◌, ℕ, zero, suc, ◌<◌, true, List, [], ◌∷◌, ◌++◌, length, map, Option, None, Some, arith, refl, sym, ap, ◌∙◌, codes}
use Rattle.std.specs.Prelude.{slice_get}
use Rattle.std.specs.List.{AllByRecursion}
use Rattle.std.specs.Fmt.{decimal}
use Rattle.std.specs.Option.{option_map_or}
use Rattle.std.proofs.lemmas.List.Elements.{recursion_from_All}
use Rattle.serde_json.specs.Written.{compact_text}
use Rattle.ecore_meta.specs.Meta.{Meta}
use Rattle.ecore_meta.specs.Typing.{kind_of}
use Rattle.ecore_meta.specs.declared.meta.Class.{Class}
use Rattle.ecore_meta.specs.declared.meta.Feature.{Feature}
use Rattle.ecore_meta.specs.declared.meta.Kind.{Kind}
use Rattle.ecore_meta.specs.declared.meta.Kind.TheVariants.{Attr, AttrMany}
use Rattle.ecore_meta.specs.declared.meta.Value.{Value}
use Rattle.growth_laws.specs.Growth.{Evolves}
use Rattle.growth_laws.proofs.Kept.{Same, same_kind}
use Rattle.growth_laws.proofs.Texts.{data_same}
use Rattle.model_state.specs.Packages.{steps_of}
use Rattle.model_state.specs.declared.operation.Operation.{Operation}
use Rattle.model_state.specs.declared.step.Place.{Place}
use Rattle.model_state.specs.declared.step.Place.TheVariants.{Root, Inside}
use Rattle.model_state.specs.declared.step.Step.{Step}
use Rattle.model_state.specs.declared.step.Step.TheVariants.{Put, Ins, Del, Shift, Link, Unlink, RerankRow, New, Gone, Move, RerankPlace}
use Rattle.shown_lines.specs.Lines.{after_spaces, class_name, feature_name, lines_from, operation_line, operation_lines, optional, place_word}
use Rattle.shown_lines.specs.Lines.{step_line, step_words, shown_text, value_word}
use Rattle.shown_lines.specs.Typed.{AreTyped, IsClass, IsFeature, IsPlace, IsTyped, IsTypedPackage, IsValue, IsValueIfAny, is_value}

there : {X : Type 0} (xs : List X) (k : ℕ) → k < length xs → (x : X) × (slice_get xs k ≡ Some x)
there [] k within = absurd (omega (arith, within))
there (x ∷ xs) zero within = (x, refl)
there (x ∷ xs) (suc k) within = there xs k (omega (arith, within))

module _ (o n : Meta) (evolves : Evolves o n) where
  class_same : (c : ℕ) → IsClass o c → class_name n c ≡ class_name o c
  class_same c within =
      let k = there o.classes c within in
      let l = evolves.preserves.classes c k.0 k.1 in
      let named : Option Class → List ℕ = λ x. option_map_or (λ class. class.name) x [] in
      ap named l.1 ∙ l.2 ∙ sym (ap named k.1)

  same : (f : ℕ) → IsFeature o f → Same o n f
  same f within = let x = there o.features f within in record { is = evolves.preserves.features f x.0 x.1 ∙ sym x.1 }

  feature_same : (f : ℕ) → IsFeature o f → feature_name n f ≡ feature_name o f
  feature_same f within = let s : Same o n f = same f within in ap (λ (x : Option Feature). option_map_or (λ feature. feature.name) x []) s.is

  text_same : (k : Kind) (v : Value) → is_value o k v ≡ true → shown_text n k v ≡ shown_text o k v
  text_same (Attr s default) v h = ap compact_text (data_same o n evolves s v h)
  text_same (AttrMany s unique) v h = ap compact_text (data_same o n evolves s v h)
  text_same k v h = refl

  value_same : (f : ℕ) (v : Value) → IsFeature o f → IsValue o f v → value_word n f v ≡ value_word o f v
  value_same f v within h = ap (λ (k : Kind). shown_text n k v) (same_kind o n f (same f within)) ∙ text_same (kind_of o f) v h

  any_same : (f : ℕ) (v : Option Value) → IsFeature o f → IsValueIfAny o f v → optional (value_word n f) v ≡ optional (value_word o f) v
  any_same f None within h = refl
  any_same f (Some v) within h = value_same f v within h

  place_same : (p : Place) → IsPlace o p → place_word n p ≡ place_word o p
  place_same Root h = refl
  place_same (Inside parent f) h = ap (λ (w : List ℕ). parent ++ (47 ∷ w)) (feature_same f h)

  step_same : (x : Step) → IsTyped o x → step_words n x ≡ step_words o x
  unfolding step_words
  step_same (Put e f old new) t = λ i. codes "put" ∷ e ∷ feature_same f t.0 i ∷ any_same f old t.0 t.1 i ∷ any_same f new t.0 t.2 i ∷ []
  step_same (Ins e f at v) t = λ i. codes "ins" ∷ e ∷ feature_same f t.0 i ∷ decimal at ∷ value_same f v t.0 t.1 i ∷ []
  step_same (Del e f at v) t = λ i. codes "del" ∷ e ∷ feature_same f t.0 i ∷ decimal at ∷ value_same f v t.0 t.1 i ∷ []
  step_same (Shift e f from to) t = λ i. codes "shift" ∷ e ∷ feature_same f t i ∷ decimal from ∷ decimal to ∷ []
  step_same (Link a f ra b rb) t = λ i. codes "link" ∷ a ∷ feature_same f t i ∷ decimal ra ∷ b ∷ optional decimal rb ∷ []
  step_same (Unlink a f ra b rb) t = λ i. codes "unlink" ∷ a ∷ feature_same f t i ∷ decimal ra ∷ b ∷ optional decimal rb ∷ []
  step_same (RerankRow a f b old new) t = λ i. codes "rerank" ∷ a ∷ feature_same f t i ∷ b ∷ decimal old ∷ decimal new ∷ []
  step_same (New e class place rank) t = λ i. codes "new" ∷ e ∷ class_same class t.0 i ∷ place_same place t.1 i ∷ decimal rank ∷ []
  step_same (Gone e class place rank) t = λ i. codes "gone" ∷ e ∷ class_same class t.0 i ∷ place_same place t.1 i ∷ decimal rank ∷ []
  step_same (Move e from from_rank to to_rank above_from above_to) t =
      λ i. codes "move" ∷ e ∷ place_same from t.0 i ∷ decimal from_rank ∷ place_same to t.1 i ∷ decimal to_rank ∷ []
  step_same (RerankPlace e old new) t = refl

  steps_by : (xs : List Step) → AllByRecursion (IsTyped o) xs → map (step_line n) xs ≡ map (step_line o) xs
  steps_by [] all = refl
  steps_by (x ∷ xs) all = λ i. after_spaces (step_same x all.0 i) ∷ steps_by xs all.1 i

  -- the lines of steps that are of the metamodel
  pub steps_shown : (xs : List Step) → AreTyped o xs → map (step_line n) xs ≡ map (step_line o) xs
  steps_shown xs all = steps_by xs (recursion_from_All (IsTyped o) xs all)

  lines_by : (k : ℕ) (os : List Operation) → AllByRecursion (λ x. AreTyped o (steps_of x)) os → lines_from n k os ≡ lines_from o k os
  lines_by k [] all = refl
  lines_by k (x ∷ os) all = λ i. operation_line k x ∷ (steps_shown (steps_of x) all.0 i ++ lines_by (suc k) os all.1 i)

  -- and those of operations
  pub lines_shown : (os : List Operation) → IsTypedPackage o os → operation_lines n os ≡ operation_lines o os
  unfolding operation_lines
  lines_shown os all = lines_by 1 os (recursion_from_All (λ x. AreTyped o (steps_of x)) os all)
