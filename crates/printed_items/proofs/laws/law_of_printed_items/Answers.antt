use Rattle.printed_items.proofs.Cutting.{items_are_cut}
use Rattle.printed_items.proofs.laws.law_of_printed_items.Goals as goal

pub returns : goal.returns
returns c = items_are_cut
