-- What `changes` and `package` answer stays where the metamodel is extended.
use Rattle.std.proofs.Common.{◌≡◌, ℕ, ◌<◌, ◌++◌, length, List, [], ◌∷◌, Option, None, Some, Result, Ok, Err, arith, refl, sym, ap, ◌∙◌, codes, zero, suc}
use Rattle.std.specs.Prelude.{slice_get, if◌then◌else◌}
use Rattle.std.specs.Option.{option_map_or}
use Rattle.std.proofs.lemmas.List.Elements.{All-nil}
use Rattle.hex.specs.Hex.{encode_lower}
use Rattle.ecore_meta.specs.Meta.{Meta}
use Rattle.growth_laws.specs.Growth.{Evolves}
use Rattle.model_state.specs.Packages.{steps_of}
use Rattle.shown_lines.specs.Lines.{after_spaces, open_lines}
use Rattle.shown_lines.specs.Typed.{AreTyped, IsTypedPackage}
use Rattle.shown_lines.specs.Versions.{package_lines}
use Rattle.history_tree.specs.declared.found.Found.{Found}
use Rattle.history_tree.specs.declared.found.FindFault.{FindFault}
use Rattle.history_tree.specs.declared.version.Version.{Version}
use Rattle.history_tree.specs.History.{History}
use Rattle.history_tree.specs.States.{package_of_version}
use Rattle.history_tree.proofs.Paths.{parent_before}
use Rattle.op_form.specs.Formed.{is_package}
use Rattle.op_form.specs.Packages.{package_encoding}
use Rattle.script_lang.specs.declared.command.Command.TheVariants as commands
use Rattle.script_lang.specs.declared.command.Spec.{Spec}
use Rattle.script_lang.specs.declared.reply.Refusal.TheVariants as refusals
use Rattle.plain_repository.specs.State.{State, Workspace, Composite, workspace_of, open_steps}
use Rattle.plain_repository.specs.Answers.{refused, told}
use Rattle.plain_repository.specs.Specs.{found_by_spec}
use Rattle.plain_repository.specs.Views.{changes_in, lines_of_open, package_found, decide_changes, decide_package}
use Rattle.plain_repository.specs.Orderly.{Orderly}
use Rattle.plain_repository.specs.Repository.{decide_with}
use Rattle.plain_repository.specs.Laws.{HasMetamodel, IsThere}
use Rattle.plain_repository.proofs.Printed.{lines_shown, steps_shown}
use Rattle.plain_repository.proofs.Reached.{kept}
use Rattle.plain_repository.proofs.Typed.{operations_typed, open_typed, version_typed}

module _ (s : State) (old new : Meta) (has : HasMetamodel s old) (grew : Evolves old new) where
  order : Orderly old s
  order = kept s old has

  open_same : (o : Option Composite) → AreTyped old (open_steps o) → lines_of_open new o ≡ lines_of_open old o
  unfolding open_lines
  open_same None typed = refl
  open_same (Some c) typed = λ i. (codes "open" ++ after_spaces (c.name ∷ [])) ∷ steps_shown old new grew c.steps typed i

  changes_same : (ws : ℕ) (o : Option Workspace) → workspace_of s ws ≡ o → changes_in new o ≡ changes_in old o
  changes_same ws None there = refl
  changes_same ws (Some w) there =
      let t : IsThere s old w = record { in_state = has; ws = ws; there = there } in
      let operations = lines_shown old new grew w.operations (operations_typed s old w order.metamodel.sound t) in
      let open_ones = open_same w.composite (open_typed s old w order.metamodel.sound t) in
      λ i. told (operations i ++ open_ones i) []

  -- the operations of a version are of the metamodel, and there are none where the version is not
  typed_at : (v : ℕ) → IsTypedPackage old (package_of_version s.history.versions v)
  typed_at v = by (slice_get s.history.versions v) refl
    where
      by : (o : Option Version) → slice_get s.history.versions v ≡ o → IsTypedPackage old (option_map_or (λ (x : Version). x.«package») o [])
      by None at = All-nil (λ x. AreTyped old (steps_of x))
      by (Some version) at =
          let before = parent_before 0 s.history.versions v v version order.whole.parents at (omega arith) in
          version_typed s old v version order.metamodel.sound has.orderly has.begun at before (within s.history.versions v at)
        where
          within : (vs : List Version) (k : ℕ) → slice_get vs k ≡ Some version → k < length vs
          within [] k at = absurd cc
          within (x ∷ vs) zero at = omega arith
          within (x ∷ vs) (suc k) at = omega (arith, within vs k at)

  package_same : (r : Result Found FindFault) → package_found new s.history r ≡ package_found old s.history r
  unfolding package_lines
  package_same (Err fault) = refl
  package_same (Ok found) =
      let os = package_of_version s.history.versions found.version in
      let lines = lines_shown old new grew os (typed_at found.version) in
      let bytes = codes "hex " ++ encode_lower (package_encoding os) in
      ap (λ (ls : List (List ℕ)). if is_package os then told (ls ++ bytes ∷ []) [] else refused refusals.TooLarge) lines

  pub changes_stay : (after : State) → after.meta ≡ Some new → ((ws : ℕ) → workspace_of after ws ≡ workspace_of s ws) → (block more : Option (List ℕ)) (ws : ℕ)
      → decide_with after after.meta block (commands.Changes ws) ≡ decide_with s s.meta more (commands.Changes ws)
  unfolding decide_changes
  changes_stay after is stands block more ws =
      ap (λ (m : Option Meta). decide_with after m block (commands.Changes ws)) is
      ∙ ap (changes_in new) (stands ws)
      ∙ changes_same ws (workspace_of s ws) refl
      ∙ ap (λ (m : Option Meta). decide_with s m more (commands.Changes ws)) (sym has.begun)

  pub packages_stay : (after : State) → after.meta ≡ Some new → after.history ≡ s.history → (block more : Option (List ℕ)) (spec : Spec)
      → decide_with after after.meta block (commands.Package spec) ≡ decide_with s s.meta more (commands.Package spec)
  unfolding decide_package
  packages_stay after is same block more spec =
      ap (λ (m : Option Meta). decide_with after m block (commands.Package spec)) is
      ∙ ap (λ (g : History). package_found new g (found_by_spec g spec)) same
      ∙ package_same (found_by_spec s.history spec)
      ∙ ap (λ (m : Option Meta). decide_with s m more (commands.Package spec)) (sym has.begun)
