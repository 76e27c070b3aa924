-- A package that can follow a workspace's operations is recorded by `load`, where the store has room for its event.
use Rattle.std.proofs.Common.{◌≡◌, ℕ, List, [], ◌∷◌, Bool, true, false, Option, None, Some, is_some, refl, sym, ap, ◌∙◌, if◌then◌else◌}
use Rattle.ecore_meta.specs.Meta.{Meta}
use Rattle.model_state.specs.Steps.{first_stop}
use Rattle.model_state.specs.Packages.{fold_package, steps_all}
use Rattle.model_state.specs.declared.operation.Operation.{Operation}
use Rattle.model_state.specs.declared.step.ApplyFault.{ApplyFault}
use Rattle.model_laws.proofs.Stops.{leads_no_stop}
use Rattle.op_form.specs.declared.event.Event.TheVariants.{Edit}
use Rattle.plain_repository.specs.State.{State, Workspace, model_of}
use Rattle.plain_repository.specs.Answers.{Decision, with_room}
use Rattle.plain_repository.specs.Edits.{takes, can_follow}
use Rattle.plain_repository.specs.Applying.{applied, load_package}
use Rattle.plain_repository.proofs.Encodings.{and_left, and_right}

has_value : {X : Type 0} (o : Option X) → is_some o ≡ true → (x : X) × (o ≡ Some x)
has_value None is = absurd cc
has_value (Some x) is = (x, refl)

first_way : {X : Type 0} (b : Bool) (x y : X) → b ≡ true → (if b then x else y) ≡ x
first_way true x y is = refl
first_way false x y is = absurd cc

pub load_follows : (s : State) (meta : Meta) (ws : ℕ) (w : Workspace) (operations : List Operation)
    → can_follow meta s.history (Some w) operations ≡ true
    → load_package s meta ws w operations ≡ with_room s [] [] (Edit ws operations)
load_follows s meta ws w [] is = absurd cc
load_follows s meta ws w (o ∷ os) is =
    let m = model_of meta s.history w in
    let fits = and_left (takes w.composite (o ∷ os)) (is_some (fold_package meta m (o ∷ os))) is in
    let run = has_value (fold_package meta m (o ∷ os)) (and_right (takes w.composite (o ∷ os)) (is_some (fold_package meta m (o ∷ os))) is) in
    let none : first_stop meta m (steps_all (o ∷ os)) ≡ None = leads_no_stop meta m run.0 (steps_all (o ∷ os)) run.1 in
    first_way (takes w.composite (o ∷ os)) _ _ fits ∙ ap (λ (stop : Option ApplyFault). applied s ws (o ∷ os) stop) none
