use Rattle.std.proofs.Common.{◌∙◌, ap, []}
use Rattle.std.specs.Prelude.{unwrap_or}
use Rattle.model_documents.proofs.Finding.{same_place}
use Rattle.emfjson_drafts.proofs.finder.take_numbers.Goals as goal

pub returns-in-Some-clause-others : goal.returns-in-Some-clause-others
returns-in-Some-clause-others c = λ q apart. ap (λ o. unwrap_or o []) (c.in-Some.ensures.updates.2 (q.row, q.feature) (same_place c.args.place q ∙ apart))
