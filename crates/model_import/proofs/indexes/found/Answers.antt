use Rattle.std.proofs.Common.{sym, ◌∙◌}
use Rattle.model_import.proofs.indexes.found.Goals as goal

pub returns-in-None : goal.returns-in-None
returns-in-None c = λ rows k told is. cc

pub returns-in-Some : goal.returns-in-Some
returns-in-Some c = λ rows k told is.
    told c.args.b c.args.feature c.in-Some.list.now (sym c.in-Some.ensures.value) c.args.n k (sym c.get-in-Some.ensures.value ∙ sym c.copied.ensures ∙ is)
