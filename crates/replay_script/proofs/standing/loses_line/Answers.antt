use Rattle.std.proofs.Common.{rules, tests}
use Rattle.std.proofs.lemmas.Iterator.Search.{any_from_yields_List}
use Rattle.std.proofs.lemmas.Iterator.Splits.{YieldsList-from_slice_split}
use Rattle.host_port.specs.Cut.{is_lf}
use Rattle.replay_texts.specs.Texts.{is_lost}
use Rattle.replay_script.proofs.standing.loses_line.Goals as goal

-- the parts between line feeds, each tested
pub returns : goal.returns
returns c =
    any_from_yields_List is_lost _ _ _ c.any.ensures.ran
    (YieldsList-from_slice_split _ is_lf c.args.bytes.now c.split.ensures.rest c.split.ensures.done c.split.ensures.closure (λ x r q k. search (rules, tests)))
    (λ x b q k. search (rules, tests))
