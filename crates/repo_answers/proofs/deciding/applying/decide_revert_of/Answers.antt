use Rattle.std.proofs.Common.{Option, sym, ◌∙◌, ap}
use Rattle.history_tree.specs.History.{History}
use Rattle.history_tree.specs.Since.{path_after}
use Rattle.history_tree.specs.States.{package_of_version}
use Rattle.history_tree.specs.declared.version.Version.{Version}
use Rattle.merge_laws.specs.Pairs.{first_interfering, have_pair}
use Rattle.model_state.specs.Packages.{rev_package}
use Rattle.std.specs.Option.{option_map_or}
use Rattle.std.specs.Prelude.{[]}
use Rattle.repo_state.specs.Keeping.{plain_of}
use Rattle.repo_state.proofs.Initial.{none_of}
use Rattle.repo_answers.proofs.Reverted.{revert_could}
use Rattle.repo_answers.proofs.deciding.applying.decide_revert_of.Goals as goal

pub with_operations-requires : goal.with_operations-requires
with_operations-requires c =
    let s = c.args.repo.now in
    let meta = c.args.begun.now.meta in
    let g = c.args.begun.now.history.history in
    let v = c.args.version in
    let w = plain_of c.args.workspace.now in
    let operations = c.in_ok-package.«package» in
    let copied = c.in_ok-package.ensures.copied ∙ c.as_slice.ensures in
    let at = ap (λ (o : Option Version). option_map_or (λ (x : Version). x.«package») o []) c.version.ensures.version ∙ sym copied in
    let here = ap (λ (h : History). package_of_version h.versions v) c.requires.history ∙ at in
    let free = ap (λ (h : History). first_interfering meta h.versions (package_of_version h.versions v) (path_after h v w.base)) c.requires.history
    ∙ ap (λ os. first_interfering meta g.versions os (path_after g v w.base)) at
    ∙ ap (first_interfering meta g.versions operations) (sym (c.as_slice-2.ensures ∙ c.in_ok-later.ensures.path))
    ∙ sym c.in_ok-found.ensures.first ∙ none_of c.in_ok-found.found (sym c.is_some.ensures ∙ c.if-is_some.false) in
    let apart = ap (λ os. have_pair meta os w.operations) here
    ∙ ap (have_pair meta operations) (sym (c.in_ok-local.ensures.copied ∙ c.operations.ensures)) ∙ sym c.in_ok-have_pair.ensures.found
    ∙ c.if-branch.false in
    record {
      could = revert_could s meta c.args.ws v w c.recall_order.ensures c.requires.meta c.requires.there c.requires.closed c.requires.on_path free apart
          c.in_ok-reversal.reversal (c.in_ok-reversal.ensures.reversed ∙ ap rev_package (sym here));
    }
