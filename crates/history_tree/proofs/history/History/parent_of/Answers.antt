use Rattle.std.proofs.Common.{◌∙◌, ◌++◌, ◌∷◌, [], ap}
use Rattle.history_tree.specs.Laws.{path_of_parent}
use Rattle.history_tree.proofs.Paths.{path_by_parent}
use Rattle.history_tree.proofs.history.History.parent_of.Goals as goal

pub returns-clause-path : goal.returns-clause-path
returns-clause-path c =
    let h = c.args.self.now.history in
    path_by_parent h c.args.v c.version.result.now c.version.ensures.version c.version.ensures.parent
    ∙ ap (λ o. path_of_parent h o ++ c.args.v ∷ []) c.in-Some.is
