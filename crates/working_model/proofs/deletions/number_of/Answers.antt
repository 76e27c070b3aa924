use Rattle.std.proofs.Common.{◌≡◌, ap, ◌∙◌}
use Rattle.std.specs.Fmt.{decimal}
use Rattle.std.specs.Result.{result_ok}
use Rattle.std.proofs.lemmas.Fmt.{parse-decimal}
use Rattle.working_model.proofs.Freed.{behind}
use Rattle.working_model.proofs.deletions.number_of.Goals as goal

pub returns-in-None : goal.returns-in-None
returns-in-None c = λ j small is. absurd (c.in-None.ensures.cases (decimal j) (c.as_str.ensures.bytes ∙ is))

pub returns-in-Some : goal.returns-in-Some
returns-in-Some c = λ j small is.
    let h = c.in-Some.ensures.cases in
    let rest : c.in-Some.number.now ≡ decimal j =
    behind c.args.prefix.now c.as_str.result.now c.in-Some.number.now h.0 h.1.1 h.2 (decimal j) (c.as_str.ensures.bytes ∙ is) in
    c.ok.ensures.value ∙ ap result_ok (parse-decimal 64 j c.in-Some.number.now c.parse.result small small rest c.parse.ensures.value.0)
