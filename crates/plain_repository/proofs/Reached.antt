-- What holds in every state that events lead to.
use Rattle.std.proofs.Common.{ℕ, List, ◌++◌, Option, Some, sym, ◌∙◌, ap, subst}
use Rattle.std.specs.FinMap.{get}
use Rattle.std.specs.List.{position}
use Rattle.std.proofs.lemmas.Option.{same_Some}
use Rattle.ecore_meta.specs.Meta.{Meta}
use Rattle.ecore_meta.specs.Sound.{Sound}
use Rattle.model_state.specs.Good.{Good}
use Rattle.model_state.specs.State as models
use Rattle.model_state.specs.State.{nothing}
use Rattle.model_laws.proofs.Start.{starts_good}
use Rattle.model_laws.proofs.Runs.{steps_keep_good}
use Rattle.history_tree.specs.Found.{is_tag_named}
use Rattle.history_tree.specs.States.{state_of}
use Rattle.state_form.specs.Spelled.{IsSpelled}
use Rattle.state_form.proofs.Builds.{live_id}
use Rattle.state_form.proofs.Keeps.{nothing_is_spelled, run_keeps}
use Rattle.plain_repository.specs.State.{State, Workspace, empty, recorded_steps, model_of}
use Rattle.plain_repository.specs.Laws.{StaysInOrder, AllIsInOrder, HasMetamodel, IsThere, OfModels, OfVersions, HasIds, ModelsAreDefined}
use Rattle.plain_repository.specs.Laws.{VersionsAreDefined, MetamodelsHold, HistoriesAreWhole, WorkspacesStand, BranchesAreNamed, TagsAreNamed}
use Rattle.plain_repository.specs.Laws.{TagNamesDiffer}
use Rattle.plain_repository.specs.Orderly.{IsRun, RunsTo, Runs, steps_to, IsOrderlyWorkspace, Orderly, AllOrderly, IsOrderly}
use Rattle.plain_repository.proofs.Names.{first_found}
use Rattle.plain_repository.proofs.Places.{at_number}
use Rattle.plain_repository.proofs.Runs.{version_folded, version_model, workspace_folded, workspace_model}
use Rattle.plain_repository.proofs.Kept.{played_keeps, play_keeps, empty_kept}

pub all_is_in_order : AllIsInOrder
all_is_in_order s r = subst IsOrderly r.reached (played_keeps empty r.events r.could empty_kept)

pub stays_in_order : StaysInOrder
stays_in_order s orderly e could = play_keeps s e could orderly

pub kept : (s : State) (meta : Meta) → HasMetamodel s meta → Orderly meta s
kept s meta has = subst (λ (m : Option Meta). AllOrderly m s) has.begun has.orderly

pub in_order : (s : State) (meta : Meta) (w : Workspace) → IsThere s meta w → IsOrderlyWorkspace meta s.history w
in_order s meta w t = at_number (IsOrderlyWorkspace meta s.history) s t.ws w t.there (kept s meta t.in_state).workspaces

-- ---- runs lead to good models of elements with ids
run_good : (meta : Meta) → Sound meta → (steps : List _) (r : IsRun meta steps) → Good meta r.model
run_good meta sound steps r = steps_keep_good meta sound nothing r.model (starts_good meta) steps r.run

run_spelled : (meta : Meta) → Sound meta → (steps : List _) (r : IsRun meta steps) → IsSpelled meta r.model
run_spelled meta sound steps r = run_keeps meta sound nothing r.model steps r.spelled (nothing_is_spelled meta) r.run

-- the elements of a state that is spelled have ids of their form
named : (meta : Meta) (m : models.State) → IsSpelled meta m → HasIds meta m
named meta m is e live = live_id e (get m.kind e) live (is.kinds e)

-- ---- the laws
pub models_are_defined : ModelsAreDefined
models_are_defined s meta w t =
    let r : Runs meta s.history w = (in_order s meta w t).runs in
    workspace_folded meta s.history w r ∙ ap Some (sym (workspace_model meta s.history w r))

pub models_are_good : OfModels Good
models_are_good s meta w t =
    let r : Runs meta s.history w = (in_order s meta w t).runs in
    subst (Good meta) (sym (workspace_model meta s.history w r))
    (run_good meta (kept s meta t.in_state).metamodel.sound (steps_to s.history w.base ++ recorded_steps w) r)

pub models_are_spelled : OfModels IsSpelled
models_are_spelled s meta w t =
    let r : Runs meta s.history w = (in_order s meta w t).runs in
    subst (IsSpelled meta) (sym (workspace_model meta s.history w r))
    (run_spelled meta (kept s meta t.in_state).metamodel.sound (steps_to s.history w.base ++ recorded_steps w) r)

pub models_have_ids : OfModels HasIds
models_have_ids s meta w t = named meta (model_of meta s.history w) (models_are_spelled s meta w t)

pub versions_are_defined : VersionsAreDefined
versions_are_defined s meta has v within =
    let r : RunsTo meta s.history v = (kept s meta has).versions v within in
    version_folded meta s.history v r ∙ ap Some (sym (version_model meta s.history v r))

pub versions_are_good : OfVersions Good
versions_are_good s meta has v within =
    let r : RunsTo meta s.history v = (kept s meta has).versions v within in
    subst (Good meta) (sym (version_model meta s.history v r)) (run_good meta (kept s meta has).metamodel.sound (steps_to s.history v) r)

pub versions_are_spelled : OfVersions IsSpelled
versions_are_spelled s meta has v within =
    let r : RunsTo meta s.history v = (kept s meta has).versions v within in
    subst (IsSpelled meta) (sym (version_model meta s.history v r)) (run_spelled meta (kept s meta has).metamodel.sound (steps_to s.history v) r)

pub versions_have_ids : OfVersions HasIds
versions_have_ids s meta has v within = named meta (state_of meta s.history v) (versions_are_spelled s meta has v within)

pub metamodels_hold : MetamodelsHold
metamodels_hold s r meta begun = (kept s meta (record { orderly = all_is_in_order s r; begun = begun })).metamodel

pub histories_are_whole : HistoriesAreWhole
histories_are_whole s meta has = (kept s meta has).whole

pub workspaces_stand : WorkspacesStand
workspaces_stand s meta w t = (in_order s meta w t).stands

-- ---- names
pub branches_are_named : BranchesAreNamed
branches_are_named s meta has k branch at = (kept s meta has).names.branches k branch at

pub tags_are_named : TagsAreNamed
tags_are_named s meta has k tag at =
    let is = (kept s meta has).names.tags k tag at in
    (is.0, first_found (is_tag_named tag.name) s.history.tags k tag is.1 at)

pub tag_names_differ : TagNamesDiffer
tag_names_differ s meta has k n tag other at there same =
    let named = (kept s meta has).names.tags in
    same_Some k n (sym (named k tag at).1 ∙ ap (λ (name : List ℕ). position (is_tag_named name) s.history.tags) same ∙ (named n other there).1)
