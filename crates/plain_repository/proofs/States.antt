-- No event changes the state of a version.
use Rattle.std.proofs.Common.{◌≡◌, ℕ, ◌<◌, ◌∙◌, List, length, Some, ap, arith, length-append}
use Rattle.std.specs.Prelude.{IsTrue, unwrap_or}
use Rattle.ecore_meta.specs.Meta.{Meta}
use Rattle.model_state.specs.State.{nothing}
use Rattle.model_state.specs.Packages.{fold_package}
use Rattle.model_state.specs.declared.operation.Operation.{Operation}
use Rattle.history_tree.specs.States.{state_of}
use Rattle.op_form.specs.declared.event.Event.{Event}
use Rattle.plain_repository.specs.State.{State, untouched}
use Rattle.plain_repository.specs.Metamodels.{grown}
use Rattle.plain_repository.specs.Orderly.{Orderly}
use Rattle.plain_repository.specs.Events.{change_of, effect, meta_after, play, playable_with}
use Rattle.plain_repository.specs.Laws.{StatesStay}
use Rattle.plain_repository.proofs.Apart.{effect_leaves, asked, meta_now}
use Rattle.plain_repository.proofs.Evolving.{grown_is, version_stays, by_growth}
use Rattle.plain_repository.proofs.Growth as growth
use Rattle.plain_repository.proofs.Reached.{kept}
use Rattle.plain_repository.proofs.Shapes.{is_later}

-- the operations up to it stay, and so does what they lead to, with the metamodel that is there then
pub effect_state_stays : (meta : Meta) (s : State) → Orderly meta s → (e : Event) → IsTrue (playable_with s (Some meta) e) → (v : ℕ)
    → v < length s.history.versions
    → state_of (meta_after meta e) (effect s e).history v ≡ state_of meta s.history v
effect_state_stays meta s order e could v within = by_growth meta
    (λ e. IsTrue (playable_with s (Some meta) e) → state_of (meta_after meta e) (effect s e).history v ≡ state_of meta s.history v)
    (λ text could. version_stays meta (grown text meta) (grown_is meta text order.metamodel could) s.history v (order.versions v within))
    (λ e same could.
    ap (λ (m : Meta). state_of m (effect s e).history v) same
    ∙ ap (λ (os : List Operation). unwrap_or (fold_package meta nothing os) nothing) (effect_leaves meta s (untouched 0 v) within e could))
    e could

-- it is there still
pub effect_versions_stay : (meta : Meta) (s : State) (e : Event) → IsTrue (playable_with s (Some meta) e) → (v : ℕ) → v < length s.history.versions
    → v < length (effect s e).history.versions
effect_versions_stay meta s e could v within =
    let more = (growth.grown s (change_of e) (is_later s meta e could)).versions in
    let longer = ap length more.1 ∙ length-append s.history.versions more.0 in
    omega (arith, within, longer)

pub states_stay : StatesStay
unfolding play
states_stay s meta now has e could is v within =
    ap (λ (m : Meta). state_of m (effect s e).history v) (meta_now s meta now e has.begun could is)
    ∙ effect_state_stays meta s (kept s meta has) e (asked s meta e has.begun could) v within
