-- What is shown of working models and versions stays where the metamodel is extended.
use Rattle.std.proofs.Common.{◌≡◌, ◌⊎◌, inl, inr, ℕ, ◌+◌, ◌≤◌, nat_lt, Bool, true, false, List, [], ◌∷◌, ◌++◌, length, length-append, Option, None}
use Rattle.std.proofs.Common.{Some, Result, Ok, Err, arith, refl, sym, ap, subst, ◌∙◌, zero, suc}
use Rattle.std.specs.Prelude.{IsTrue, unwrap_or}
use Rattle.std.proofs.lemmas.Bool.{ltb-true, ltb-false}
use Rattle.std.proofs.lemmas.Option.{slice_get_past}
use Rattle.ecore_meta.specs.Meta.{Meta}
use Rattle.ecore_json.proofs.ReadHolds.{read_holds}
use Rattle.metamodel_growth.specs.Evolved.{evolved}
use Rattle.metamodel_growth.specs.EvolvedLaws.{HaveSameParts}
use Rattle.metamodel_growth.specs.Preserves.{Preserves}
use Rattle.metamodel_growth.proofs.EvolvedLaws.{evolved_has_the_new}
use Rattle.model_texts.specs.Tree.{text}
use Rattle.growth_laws.specs.Growth.{Evolves}
use Rattle.growth_laws.proofs.Texts.{growth_keeps_text}
use Rattle.model_state.specs.Packages.{fold_package}
use Rattle.model_state.specs.State.{nothing}
use Rattle.model_state.specs.declared.operation.Operation.{Operation}
use Rattle.model_laws.proofs.Start.{starts_good}
use Rattle.history_tree.specs.declared.found.Found.{Found}
use Rattle.history_tree.specs.declared.found.FindFault.{FindFault}
use Rattle.history_tree.specs.declared.version.Version.{Version}
use Rattle.history_tree.specs.History.{History, path_before, paths_from}
use Rattle.history_tree.specs.States.{operations_of, operations_to, state_of}
use Rattle.op_form.specs.declared.event.Event.TheVariants.{Evolve}
use Rattle.script_lang.specs.declared.command.Command.TheVariants as commands
use Rattle.plain_repository.specs.State.{State, Workspace, workspace_of, model_of}
use Rattle.plain_repository.specs.Answers.{told}
use Rattle.plain_repository.specs.Metamodels.{grown}
use Rattle.plain_repository.specs.Specs.{found_by_spec}
use Rattle.plain_repository.specs.Views.{show_in, cat_found, decide_show, decide_cat}
use Rattle.plain_repository.specs.Events.{meta_after, play, playable}
use Rattle.plain_repository.specs.Repository.{decide_with, decide_command}
use Rattle.plain_repository.specs.Laws.{HasMetamodel, IsThere, TextsStay, MetamodelsGrow, DocumentsBecome}
use Rattle.plain_repository.proofs.Apart.{asked, meta_now}
use Rattle.plain_repository.proofs.Evolving.{extension, grown_is, model_stays, version_stays, by_growth}
use Rattle.plain_repository.proofs.Kept.{meta_left}
use Rattle.plain_repository.proofs.Listed.{changes_stay, packages_stay}
use Rattle.plain_repository.proofs.Reached.{in_order, kept, models_are_good, versions_are_good}

paths_counted : (paths : List (List ℕ)) (vs : List Version) → length (paths_from paths vs) ≡ length paths + length vs
paths_counted paths [] = omega arith
paths_counted paths (v ∷ vs) =
    let p : List ℕ = path_before paths v.parent ++ length paths ∷ [] in
    omega (arith, paths_counted (paths ++ p ∷ []) vs, length-append paths (p ∷ []))

-- no operation leads to a version that is not there
none_past : (h : History) (v : ℕ) → length h.versions ≤ v → operations_to h v ≡ []
none_past h v past =
    ap (λ (o : Option (List ℕ)). operations_of h.versions (unwrap_or o []))
    (slice_get_past (paths_from [] h.versions) v (omega (arith, past, paths_counted [] h.versions)))

module _ (s : State) (old new : Meta) (has : HasMetamodel s old) (grew : Evolves old new) where
  abbrev h : History
  h = s.history

  model_text : (ws : ℕ) (w : Workspace) → workspace_of s ws ≡ Some w → text new (model_of new h w) ≡ text old (model_of old h w)
  model_text ws w there =
      let t : IsThere s old w = record { in_state = has; ws = ws; there = there } in
      ap (text new) (model_stays old new grew h w (in_order s old w t).runs) ∙ growth_keeps_text old new grew (model_of old h w) (models_are_good s old w t)

  shown_same : (ws : ℕ) (o : Option Workspace) → workspace_of s ws ≡ o → show_in new h o ≡ show_in old h o
  shown_same ws None there = refl
  shown_same ws (Some w) there = ap (λ (t : List ℕ). told (t ∷ []) []) (model_text ws w there)

  -- a version that is not there has the empty project as its state
  version_text : (v : ℕ) → text new (state_of new h v) ≡ text old (state_of old h v)
  version_text v = by (nat_lt v (length h.versions)) refl
    where
      empty : (meta : Meta) → length h.versions ≤ v → state_of meta h v ≡ nothing
      empty meta past = ap (λ (os : List Operation). unwrap_or (fold_package meta nothing os) nothing) (none_past h v past)

      by : (b : Bool) → nat_lt v (length h.versions) ≡ b → text new (state_of new h v) ≡ text old (state_of old h v)
      by true is =
          let within = ltb-true v (length h.versions) is in
          ap (text new) (version_stays old new grew h v ((kept s old has).versions v within))
          ∙ growth_keeps_text old new grew (state_of old h v) (versions_are_good s old has v within)
      by false is =
          let past = ltb-false v (length h.versions) is in
          ap (text new) (empty new past) ∙ growth_keeps_text old new grew nothing (starts_good old) ∙ ap (text old) (sym (empty old past))

  text_same : (r : Result Found FindFault) → cat_found new h r ≡ cat_found old h r
  text_same (Err fault) = refl
  text_same (Ok found) = ap (λ (t : List ℕ). told (t ∷ []) []) (version_text found.version)

  shows : (after : State) → after.meta ≡ Some new → after.history ≡ h → ((ws : ℕ) → workspace_of after ws ≡ workspace_of s ws)
      → (block more : Option (List ℕ)) (ws : ℕ)
      → decide_with after after.meta block (commands.Show ws) ≡ decide_with s s.meta more (commands.Show ws)
  unfolding decide_show
  shows after is same stands block more ws =
      ap (λ (m : Option Meta). decide_with after m block (commands.Show ws)) is
      ∙ (λ i. show_in new (same i) (stands ws i))
      ∙ shown_same ws (workspace_of s ws) refl
      ∙ ap (λ (m : Option Meta). decide_with s m more (commands.Show ws)) (sym has.begun)

  cats : (after : State) → after.meta ≡ Some new → after.history ≡ h → (block more : Option (List ℕ)) (spec : _)
      → decide_with after after.meta block (commands.Cat spec) ≡ decide_with s s.meta more (commands.Cat spec)
  unfolding decide_cat
  cats after is same block more spec =
      ap (λ (m : Option Meta). decide_with after m block (commands.Cat spec)) is
      ∙ ap (λ (g : History). cat_found new g (found_by_spec g spec)) same
      ∙ text_same (found_by_spec h spec)
      ∙ ap (λ (m : Option Meta). decide_with s m more (commands.Cat spec)) (sym has.begun)

same_workspaces : (s : State) (text : List ℕ) (ws : ℕ) → workspace_of (play s (Evolve text)) ws ≡ workspace_of s ws
unfolding play
same_workspaces s text zero = refl
same_workspaces s text (suc n) = refl

pub texts_stay : TextsStay
unfolding play decide_command
texts_stay s meta has text could =
    let can = asked s meta (Evolve text) has.begun could in
    let grew = grown_is meta text (kept s meta has).metamodel can in
    let is = meta_left s meta (Evolve text) has.begun can in
    record {
      show = λ block more ws. shows s meta (grown text meta) has grew (play s (Evolve text)) is refl (same_workspaces s text) block more ws;
      cat = λ block more spec. cats s meta (grown text meta) has grew (play s (Evolve text)) is refl block more spec;
      changes = λ block more ws. changes_stay s meta (grown text meta) has grew (play s (Evolve text)) is (same_workspaces s text) block more ws;
      packages = λ block more spec. packages_stay s meta (grown text meta) has grew (play s (Evolve text)) is refl block more spec;
    }

pub documents_become : DocumentsBecome
documents_become s meta now has text could is =
    let x = extension meta text (asked s meta (Evolve text) has.begun could) in
    let is_now : now ≡ evolved meta x.next = meta_now s meta now (Evolve text) has.begun could is ∙ x.is in (
      x.next,
      x.read,
      subst (HaveSameParts x.next) (sym is_now)
          (evolved_has_the_new meta x.next (kept s meta has).metamodel (read_holds text x.next x.read)),
    )

pub metamodels_grow : MetamodelsGrow
metamodels_grow s meta now has e could is =
    elim (by_growth meta (λ e. IsTrue (playable s e) → (meta_after meta e ≡ meta) ⊎ Evolves meta (meta_after meta e))
    (λ text can. inr (grown_is meta text (kept s meta has).metamodel (asked s meta (Evolve text) has.begun can)))
    (λ e same can. inl same) e could) [
      | inl same ↦ inl (meta_now s meta now e has.begun could is ∙ same)
      | inr grew ↦ inr (subst (Preserves meta) (sym (meta_now s meta now e has.begun could is)) grew.preserves)
    ]
