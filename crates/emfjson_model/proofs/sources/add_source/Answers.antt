use Rattle.std.proofs.Common.{◌∙◌, ap}
use Rattle.emfjson_model.specs.Sources.{push_once}
use Rattle.emfjson_model.proofs.Naming.{source_added}
use Rattle.emfjson_model.proofs.sources.add_source.Goals as goal

pub returns : goal.returns
returns c = λ q.
    source_added c.args.numbers.now c.take_numbers-sources.new.children c.insert.new.self c.args.named q c.args.n c.push_once.new.numbers
    (c.in_ok-push_once.ensures ∙ ap (push_once c.args.n) c.take_numbers-sources.ensures.numbers)
    (c.take_numbers-sources.ensures.others q)
    (c.in_ok-insert.ensures.updates.0 (q.row, q.feature))
