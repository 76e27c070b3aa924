use Rattle.std.proofs.Common.{◌≡◌, ◌∙◌, ◌-◌, List, Option, Some, sym, ap, arith}
use Rattle.std.specs.Prelude.{slice_get}
use Rattle.std.specs.Option.{option_copied, option_map}
use Rattle.plain_repository.specs.State.{State}
use Rattle.repo_state.specs.declared.workspace.Workspace.{Workspace}
use Rattle.repo_state.specs.Keeping.{plain_of}
use Rattle.repo_state.proofs.Changing.{found_is, looked_up}
use Rattle.repo_state.proofs.repo.Repo.workspace.Goals as goal

pub returns-in-Some : goal.returns-in-Some
returns-in-Some c =
    let got : option_copied c.get.result ≡ slice_get c.deref.result.now (c.args.ws - 1) =
    looked_up c.deref.result.now (c.args.ws - 1) c.get.result c.get.ensures.lookup.0 c.get.ensures.lookup.1 in
    let at : slice_get c.self.inside.workspaces.items (c.args.ws - 1) ≡ Some c.in-Some.workspace.now =
    ap (λ (l : List (Option Workspace)). slice_get l (c.args.ws - 1)) (sym c.deref.ensures.value) ∙ sym got ∙ ap option_copied c.in-Some.is in
    record {
      found = ap (option_map plain_of) c.as_ref.ensures.value
          ∙ found_is c.args.self.now c.self.inside.workspaces.items c.args.ws c.in-Some.workspace.now
          (ap (λ (s : State). s.workspaces) c.self.view_is) (omega (arith, c.if-ws-eq0.false)) at;
    }
