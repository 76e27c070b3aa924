-- What is recorded of an edit of a feature that is found, and of an element whose id is not taken.
use Rattle.std.proofs.Common.{◌≡◌, ℕ, List, Bool, true, false, refl, sym, ap, subst, ◌∙◌, inl, inr}
use Rattle.std.specs.Prelude.{◌⊎◌, Option, Result, Ok, Err, not, if◌then◌else◌}
use Rattle.ecore_meta.specs.Meta.{Meta}
use Rattle.ecore_meta.specs.declared.meta.Kind.{Kind}
use Rattle.model_state.specs.Ident.{is_id}
use Rattle.model_state.specs.Keys.{IdBytes}
use Rattle.model_state.specs.State.{State, is_live}
use Rattle.model_state.specs.Typing.{kind_of}
use Rattle.model_state.specs.declared.step.Place.{Place}
use Rattle.emfjson_values.specs.Values.{value_of}
use Rattle.edit_steps.specs.declared.fault.EditFault.{EditFault}
use Rattle.edit_steps.specs.declared.fault.EditFault.TheVariants.{BadId, IdInUse, Memory}
use Rattle.edits.specs.declared.edit.Edit.{Edit}
use Rattle.edits.specs.declared.edit.Edit.TheVariants.{Set, Unset, Add, Remove, Shift, Link, Unlink, Reorder}
use Rattle.edits.specs.declared.edit.Recorded.{Recorded}
use Rattle.edits.specs.Edits.{Effect, Creates, class_at, effect_of, feature_at, new_effect, of_feature, recorded_of, recording_of}
use Rattle.edits.specs.Answers.{Answers}
use Rattle.recorder.specs.Answers.{unused}
use Rattle.recorder.specs.Features.{effect_on}
use Rattle.edits.specs.Recording.{recorded}

-- ---- edits of a feature
-- what comes of an edit of a feature by its effect on the feature that has the name
abbrev pub found : Meta → State → IdBytes → List ℕ → Edit → Result Recorded EditFault
found meta m id feature edit = recording_of meta m (of_feature meta (feature_at meta (class_at m id) feature) (effect_on (value_of meta) meta m id edit))

of_same : (meta : Meta) (o : Result ℕ EditFault) (first second : ℕ → Kind → Result Effect EditFault)
    → ((f : ℕ) (kind : Kind) → first f kind ≡ second f kind) → of_feature meta o first ≡ of_feature meta o second
of_same meta (Err fault) first second same = refl
of_same meta (Ok f) first second same = same f (kind_of meta f)

module _ (meta : Meta) (m : State) (ws : ℕ) (id : IdBytes) (feature : List ℕ) where
  pub found_set : (value : List ℕ) → found meta m id feature (Set id feature value) ≡ recorded meta m ws (Set id feature value)
  unfolding recorded_of effect_of effect_on
  found_set value = ap (recording_of meta m) (of_same meta (feature_at meta (class_at m id) feature) _ _ (λ f kind. refl))

  pub found_unset : found meta m id feature (Unset id feature) ≡ recorded meta m ws (Unset id feature)
  unfolding recorded_of effect_of effect_on
  found_unset = ap (recording_of meta m) (of_same meta (feature_at meta (class_at m id) feature) _ _ (λ f kind. refl))

  pub found_add : (at : Option ℕ) (value : List ℕ) → found meta m id feature (Add id feature at value) ≡ recorded meta m ws (Add id feature at value)
  unfolding recorded_of effect_of effect_on
  found_add at value = ap (recording_of meta m) (of_same meta (feature_at meta (class_at m id) feature) _ _ (λ f kind. refl))

  pub found_remove : (index : ℕ) → found meta m id feature (Remove id feature index) ≡ recorded meta m ws (Remove id feature index)
  unfolding recorded_of effect_of effect_on
  found_remove index = ap (recording_of meta m) (of_same meta (feature_at meta (class_at m id) feature) _ _ (λ f kind. refl))

  pub found_shift : (from to : ℕ) → found meta m id feature (Shift id feature from to) ≡ recorded meta m ws (Shift id feature from to)
  unfolding recorded_of effect_of effect_on
  found_shift from to = ap (recording_of meta m) (of_same meta (feature_at meta (class_at m id) feature) _ _ (λ f kind. refl))

  pub found_link : (target : List ℕ) (index : Option ℕ)
      → found meta m id feature (Link id feature target index) ≡ recorded meta m ws (Link id feature target index)
  unfolding recorded_of effect_of effect_on
  found_link target index = ap (recording_of meta m) (of_same meta (feature_at meta (class_at m id) feature) _ _ (λ f kind. refl))

  pub found_unlink : (target : List ℕ) → found meta m id feature (Unlink id feature target) ≡ recorded meta m ws (Unlink id feature target)
  unfolding recorded_of effect_of effect_on
  found_unlink target = ap (recording_of meta m) (of_same meta (feature_at meta (class_at m id) feature) _ _ (λ f kind. refl))

  pub found_reorder : (target : List ℕ) (index : ℕ)
      → found meta m id feature (Reorder id feature target index) ≡ recorded meta m ws (Reorder id feature target index)
  unfolding recorded_of effect_of effect_on
  found_reorder target index = ap (recording_of meta m) (of_same meta (feature_at meta (class_at m id) feature) _ _ (λ f kind. refl))

  -- so an answer by the effect on the feature is that of the edit
  pub answers_found : (given edit : Edit) (answer : Result Recorded EditFault) → given ≡ edit → found meta m id feature edit ≡ recorded meta m ws edit
      → Answers answer (found meta m id feature given) → Answers answer (recorded meta m ws given)
  answers_found given edit answer is same h =
      subst (λ (due : Result Recorded EditFault). Answers answer due)
      (ap (λ (e : Edit). found meta m id feature e) is ∙ same ∙ ap (λ (e : Edit). recorded meta m ws e) (sym is)) h

-- ---- a new element
refused_by : (form live : Bool) (id : IdBytes) (effect : Effect) (fault : EditFault)
    → ◌≡◌ {A = Result IdBytes EditFault} (if not form then Err BadId else if live then Err IdInUse else Ok id) (Err fault)
    → ◌≡◌ {A = Result Effect EditFault} (if not form then Err BadId else if live then Err IdInUse else Ok effect) (Err fault)
refused_by true true id effect fault h = cc
refused_by true false id effect fault h = cc
refused_by false live id effect fault h = cc

-- where the id isn't of the form or is taken, that is why there is no new element
pub new_refused : (m : State) (class : ℕ) (place : Place) (id : IdBytes) (fault : EditFault) → (fault ≡ Memory) ⊎ (unused m id ≡ Err fault)
    → (fault ≡ Memory) ⊎ (new_effect m class place id ≡ Err fault)
new_refused m class place id fault (inl full) = inl full
new_refused m class place id fault (inr h) = inr (refused_by (is_id id) (is_live m id) id (Creates id class place) fault h)
