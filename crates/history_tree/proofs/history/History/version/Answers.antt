use Rattle.std.proofs.Common.{◌<◌, arith, sym, subst, length, refl}
use Rattle.std.proofs.lemmas.Option.{slice_get_read}
use Rattle.history_tree.specs.Room.{HistoryState}
use Rattle.history_tree.proofs.Paths.{parent_before}
use Rattle.history_tree.proofs.history.History.version.Goals as goal

pub returns-clause-parent : goal.returns-clause-parent
returns-clause-parent c =
    let versions = c.self.inside.versions.items in
    let within : c.args.v < length versions = subst (λ (s : HistoryState). c.args.v < length s.history.versions) (sym c.self.view_is) c.requires.there in
    parent_before 0 versions c.args.v c.args.v c.index.result.now c.self.invariant.0.parents
    (slice_get_read versions (length versions) c.args.v c.index.result.now refl within c.index.ensures) (omega arith)
