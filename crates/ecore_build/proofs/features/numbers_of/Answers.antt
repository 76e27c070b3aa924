use Rattle.std.proofs.Common.{◌∙◌, ◌++◌, ap}
use Rattle.ecore_build.proofs.features.numbers_of.Goals as goal

pub returns : goal.returns
returns c = c.in_ok-extend_from_slice.ensures.items ∙ ap (λ xs. xs ++ c.own_at.result.now) c.new-numbers.ensures.items ∙ c.own_at.ensures
