-- The steps that are recorded.
use Rattle.std.proofs.Common.{◌≡◌, ℕ, List, [], ◌∷◌, refl, sym, ap, ◌∙◌}
use Rattle.std.specs.Prelude.{None, Result, Ok, Err, IfOk}
use Rattle.ecore_meta.specs.Meta.{Meta}
use Rattle.model_state.specs.declared.operation.OpKind.{OpKind}
use Rattle.model_state.specs.declared.step.Step.{Step}
use Rattle.model_state.specs.State.{State}
use Rattle.model_state.specs.Steps.{fold}
use Rattle.model_state.specs.Good.{Good, Sound}
use Rattle.emfjson_values.specs.Values.{value_of}
use Rattle.emfjson_values.proofs.Fits.{read_fits}
use Rattle.edits.specs.declared.edit.Edit.{Edit}
use Rattle.edits.specs.declared.edit.Recorded.{Recorded}
use Rattle.edit_steps.specs.declared.fault.EditFault.{EditFault}
use Rattle.edits.specs.Edits.{Effect, effect_of, effect_steps, after_effect, operation_kind, operation_of, recording, recording_of, recorded_of}
use Rattle.edits.proofs.Taken.{edits_meet, edits_keep_good}
use Rattle.edits.proofs.Unchanged.{edits_idle}
use Rattle.edits.specs.Recording.{recorded}
use Rattle.edits.specs.RecordingLaws.{LeadsOn, RecordingLeads, KeepsGood}
use Rattle.edits.specs.Answers.{Answers, steps_in}

steps_in-operation : (kind : OpKind) (ss : List Step) → steps_in (operation_of kind ss) ≡ ss
steps_in-operation kind [] = refl
steps_in-operation kind (s ∷ ss) = refl

none_made : (kind : OpKind) (ss : List Step) → operation_of kind ss ≡ None → ss ≡ []
none_made kind [] h = refl
none_made kind (s ∷ ss) h = cc

same_recorded : (r s : Recorded) → ◌≡◌ {A = Result Recorded EditFault} (Ok r) (Ok s) → r ≡ s
same_recorded r s h = cc

module _ (meta : Meta) (sound : Sound meta) (m : State) (good : Good meta m) (ws : ℕ) (edit : Edit) (r : Recorded) where
  leads_by : (answer : Result Effect EditFault) → effect_of (value_of meta) meta m ws edit ≡ answer → recording_of meta m answer ≡ Ok r
      → LeadsOn meta m ws edit r
  leads_by (Err fault) is h = cc
  leads_by (Ok effect) is h =
      let kind = operation_kind effect in
      let ss = effect_steps meta m effect in
      let operation : operation_of kind ss ≡ r.operation = ap (λ (x : Recorded). x.operation) (same_recorded (recording meta m effect) r h) in
      let idle = edits_idle meta sound m good (value_of meta) (read_fits meta) ws edit effect is in
      record {
        effect = effect;
        is = is;
        run = ap (fold meta m) (ap steps_in (sym operation) ∙ steps_in-operation kind ss)
            ∙ edits_meet meta sound m good (value_of meta) (read_fits meta) ws edit effect is;
        idle = (
          λ none. idle.0 (none_made kind ss (operation ∙ none)),
          λ same. sym operation ∙ ap (operation_of kind) (idle.1 same),
        );
        good = edits_keep_good meta sound m good (value_of meta) (read_fits meta) ws edit effect is;
      }

pub recording_leads : RecordingLeads
unfolding recorded_of
recording_leads meta sound m good ws edit r h = leads_by meta sound m good ws edit r (effect_of (value_of meta) meta m ws edit) refl h

-- so an answer that is what is recorded leaves a good model
pub keeps_good : (meta : Meta) → Sound meta → (m : State) → Good meta m → (ws : ℕ) (edit : Edit) (answer : Result Recorded EditFault)
    → Answers answer (recorded meta m ws edit) → IfOk answer (KeepsGood meta m)
keeps_good meta sound m good ws edit (Ok r) is =
    let leads = recording_leads meta sound m good ws edit r is in
    record { left = after_effect meta m leads.effect; run = leads.run; good = leads.good; paired = leads.good.rows.mirrored }
keeps_good meta sound m good ws edit (Err fault) is = tt
