-- The steps of a composite that is open are of the metamodel, where it is read from the workspace that is kept.
use Rattle.std.proofs.Common.{◌≡◌, Bor, Option, Some, None, sym, subst}
use Rattle.std.specs.Prelude.{IfSome}
use Rattle.std.specs.Option.{option_copied, option_map}
use Rattle.ecore_meta.specs.Meta.{Meta}
use Rattle.shown_lines.specs.Typed.{AreTyped}
use Rattle.plain_repository.specs.State.{open_steps}
use Rattle.repo_state.specs.declared.workspace.Composite.{Composite as Open}
use Rattle.repo_state.specs.declared.workspace.Workspace.{Workspace as Kept}
use Rattle.repo_state.specs.Keeping.{plain_of, plain_composite}

pub seen_typed : (meta : Meta) (w : Kept) (r : Option (Bor Open)) → AreTyped meta (open_steps (plain_of w).composite) → option_copied r ≡ w.composite
    → IfSome r (λ c. AreTyped meta c.now.steps.items)
seen_typed meta w None typed is = tt
seen_typed meta w (Some c) typed is = subst (λ (o : Option Open). AreTyped meta (open_steps (option_map plain_composite o))) (sym is) typed
