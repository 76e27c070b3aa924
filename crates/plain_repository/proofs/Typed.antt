-- What is recorded, and what a version has, is of the metamodel.
use Rattle.std.proofs.Common.{◌≡◌, ℕ, ◌<◌, ◌∷◌, ◌++◌, append-nil, List, [], length, Option, Some, ◌∙◌, ap, subst}
use Rattle.std.specs.Prelude.{slice_get}
use Rattle.std.specs.Option.{option_map_or}
use Rattle.ecore_meta.specs.Meta.{Meta}
use Rattle.ecore_meta.specs.Sound.{Sound}
use Rattle.model_state.specs.State as models
use Rattle.model_state.specs.State.{nothing}
use Rattle.model_state.specs.Good.{Good}
use Rattle.model_state.specs.Packages.{steps_all}
use Rattle.model_state.specs.Steps.{fold}
use Rattle.model_state.specs.declared.step.Step.{Step}
use Rattle.model_state.specs.declared.operation.Operation.{Operation}
use Rattle.model_laws.proofs.Start.{starts_good}
use Rattle.model_laws.proofs.Runs.{steps_keep_good}
use Rattle.history_tree.specs.States.{operations_of, package_of_version}
use Rattle.history_tree.specs.Laws.{path_of_parent}
use Rattle.history_tree.specs.Whole.{ComesBefore}
use Rattle.history_tree.specs.declared.version.Version.{Version}
use Rattle.history_tree.proofs.Paths.{path_by_parent}
use Rattle.history_tree.proofs.Steady.{operations_append}
use Rattle.shown_lines.specs.Typed.{AreTyped, IsTypedPackage}
use Rattle.shown_lines.proofs.Taken.{packages_typed, steps_typed}
use Rattle.plain_repository.specs.State.{State, Workspace, open_steps, recorded_steps}
use Rattle.plain_repository.specs.Orderly.{IsOrderly, steps_to}
use Rattle.plain_repository.specs.Laws.{IsThere}
use Rattle.plain_repository.proofs.Reached.{in_order, kept}
use Rattle.plain_repository.proofs.Recorded.{ByWay, by_way, steps_append}

-- what is recorded, taken after the base's state
record Parts (meta : Meta) (w : Workspace) : Type 0 where
  base : models.State
  model : models.State
  good : Good meta base
  operations : ByWay meta base model (steps_all w.operations) (open_steps w.composite)

parts : (s : State) (meta : Meta) (w : Workspace) → Sound meta → IsThere s meta w → Parts meta w
parts s meta w sound there =
    let runs = (in_order s meta w there).runs in
    let before = steps_to s.history w.base in
    let at : ByWay meta nothing runs.model before (recorded_steps w) = by_way meta nothing runs.model before (recorded_steps w) runs.run in
    record {
      base = at.way;
      model = runs.model;
      good = steps_keep_good meta sound nothing at.way (starts_good meta) before at.first;
      operations = by_way meta at.way runs.model (steps_all w.operations) (open_steps w.composite) at.rest;
    }

-- the operations of a workspace are of the metamodel
pub operations_typed : (s : State) (meta : Meta) (w : Workspace) → Sound meta → IsThere s meta w → IsTypedPackage meta w.operations
operations_typed s meta w sound there =
    let p = parts s meta w sound there in
    packages_typed meta sound p.base p.operations.way p.good w.operations p.operations.first

-- so are the steps of the composite that is open
pub open_typed : (s : State) (meta : Meta) (w : Workspace) → Sound meta → IsThere s meta w → AreTyped meta (open_steps w.composite)
open_typed s meta w sound there =
    let p = parts s meta w sound there in
    let good = steps_keep_good meta sound p.base p.operations.way p.good (steps_all w.operations) p.operations.first in
    steps_typed meta sound p.operations.way p.model good (open_steps w.composite) p.operations.rest

-- the operations of each version are of the metamodel
pub version_typed : (s : State) (meta : Meta) (v : ℕ) (version : Version) → Sound meta → IsOrderly s → s.meta ≡ Some meta
    → slice_get s.history.versions v ≡ Some version → ComesBefore version.parent v → v < length s.history.versions
    → IsTypedPackage meta version.«package»
version_typed s meta v version sound orderly begun at before below =
    let h = s.history in
    let operations = operations_of h.versions (path_of_parent h version.parent) in
    let runs = (kept s meta (record { orderly = orderly; begun = begun })).versions v below in
    let of_version = λ (o : Option Version). option_map_or (λ (x : Version). x.«package») o [] in
    let own : package_of_version h.versions v ++ [] ≡ version.«package» = append-nil (package_of_version h.versions v) ∙ ap of_version at in
    let split : steps_to h v ≡ steps_all operations ++ steps_all version.«package» =
    ap (λ (vs : List ℕ). steps_all (operations_of h.versions vs)) (path_by_parent h v version at before)
    ∙ ap steps_all (operations_append h.versions (path_of_parent h version.parent) (v ∷ []))
    ∙ ap (λ (os : List Operation). steps_all (operations ++ os)) own ∙ steps_append operations version.«package» in
    let run = subst (λ (ss : List Step). fold meta nothing ss ≡ Some runs.model) split runs.run in
    let way : ByWay meta nothing runs.model (steps_all operations) (steps_all version.«package») =
    by_way meta nothing runs.model (steps_all operations) (steps_all version.«package») run in
    let good = steps_keep_good meta sound nothing way.way (starts_good meta) (steps_all operations) way.first in
    packages_typed meta sound way.way runs.model good version.«package» way.rest
