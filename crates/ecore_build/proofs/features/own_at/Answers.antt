use Rattle.std.proofs.Common.{◌∙◌}
use Rattle.ecore_build.proofs.OwnLaws.{own_here, own_past}
use Rattle.ecore_build.proofs.features.own_at.Goals as goal

pub returns-in-None : goal.returns-in-None
returns-in-None c = own_past (λ fs. fs.items) c.args.own.now c.args.class c.in-None.ensures.lookup.3

pub returns-in-Some : goal.returns-in-Some
returns-in-Some c =
    c.as_slice.ensures.value
    ∙ own_here (λ fs. fs.items) c.args.own.now c.args.class c.in-Some.numbers.now c.in-Some.ensures.lookup.3.0 c.in-Some.ensures.lookup.1
