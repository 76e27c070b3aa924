use Rattle.std.proofs.Common.{◌≡◌, ◌<◌, Some, length, subst, sym, ◌∙◌}
use Rattle.std.specs.Prelude.{slice_get}
use Rattle.history_tree.specs.History.{History}
use Rattle.plain_repository.proofs.Typed.{version_typed}
use Rattle.shown_lines.specs.Typed.{IsTypedPackage}
use Rattle.repo_answers.proofs.deciding.views.decide_package.Goals as goal

pub package_lines-requires-clause-typed : goal.package_lines-requires-clause-typed
package_lines-requires-clause-typed c =
    let v = c.in-Ok.found.version in
    let version = c.version-version.result.now in
    let back = sym c.requires.history in
    let same = c.in_ok-package.ensures.copied ∙ c.as_slice.ensures in
    subst (IsTypedPackage c.args.begun.now.meta) (sym same)
    (version_typed c.args.repo.now c.args.begun.now.meta v version c.recall_soundness.ensures c.recall_order.ensures c.requires.meta
    (subst (λ (h : History). slice_get h.versions v ≡ Some version) back c.version-version.ensures.version)
    c.version-version.ensures.parent (subst (λ (h : History). v < length h.versions) back c.in-Ok.ensures.version))
