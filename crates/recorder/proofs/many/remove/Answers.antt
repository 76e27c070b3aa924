use Rattle.std.proofs.Common.{◌≡◌, ℕ, Bool, not, true, [], ◌∷◌, length, nat_lt, sym, ap, ◌∙◌}
use Rattle.std.specs.Prelude.{Option, Some, None, Ok, Err, slice_get, if◌then◌else◌}
use Rattle.std.specs.Option.{option_map_or}
use Rattle.std.proofs.lemmas.Option.{slice_get_within}
use Rattle.ecore_meta.specs.Meta.{Meta}
use Rattle.ecore_meta.specs.declared.meta.Kind.{Kind}
use Rattle.ecore_meta.specs.declared.meta.Kind.TheVariants.{AttrMany}
use Rattle.ecore_meta.specs.declared.meta.Value.{Value}
use Rattle.model_state.specs.Keys.{IdBytes}
use Rattle.model_state.specs.Listing.{values_at}
use Rattle.model_state.specs.State.{State}
use Rattle.model_state.specs.Typing.{is_many, kind_of}
use Rattle.model_state.specs.declared.operation.OpKind.TheVariants.{ManyAttribute}
use Rattle.model_state.specs.declared.step.Step.{Step}
use Rattle.model_state.specs.declared.step.Step.TheVariants.{Del}
use Rattle.edit_steps.specs.declared.fault.EditFault.TheVariants.{NoEntry}
use Rattle.edit_steps.proofs.SpotLaws.{is_less}
use Rattle.edits.specs.Edits.{Removes, operation_of, recording_of, remove_effect}
use Rattle.recorder.proofs.many.remove.Goals as goal

removed : (meta : Meta) (m : State) (e : IdBytes) (f k : ℕ) (kind : Kind) (v : Value) → is_many kind ≡ true → slice_get (values_at m e f) k ≡ Some v
    → recording_of meta m (remove_effect m e f kind k) ≡ Ok (record { operation = operation_of ManyAttribute (Del e f k v ∷ []); id = None })
removed meta m e f k (AttrMany scalar unique) v is here =
    let n = length (values_at m e f) in
    let in_range : nat_lt k n ≡ true = is_less k n (slice_get_within (values_at m e f) k v here) in
    ap (λ (b : Bool). recording_of meta m (if not b then Err NoEntry else Ok (Removes e f k))) in_range
    ∙ ap (λ (o : Option Value). Ok (record { operation = operation_of ManyAttribute (option_map_or (λ w. Del e f k w ∷ []) o []); id = None })) here
removed meta m e f k kind v is here = cc

pub returns : goal.returns
returns g c =
    let meta = c.args.meta.now in
    let m = g.L.Look.state c.args.look.now in
    let e = c.args.named.now.id in
    let f = c.args.named.now.feature in
    let v = c.in-Some.v.now in
    removed meta m e f c.args.index (kind_of meta f) v (sym c.is_many.ensures ∙ c.if-not-is_many.false) (sym c.in-Some.ensures)
    ∙ ap Ok (sym (c.in_ok-one.ensures ∙ ap (λ (s : Step). record { operation = operation_of ManyAttribute (s ∷ []); id = None }) c.in_ok-step.ensures))
