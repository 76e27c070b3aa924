use Rattle.ecore_build.proofs.enums.literal.Goals as goal

pub returns : goal.returns
returns c = λ i. record { name = c.in_ok-name.ensures i; text = c.in_ok-text.ensures i }
