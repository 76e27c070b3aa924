-- words of another number
use Rattle.std.proofs.Common.{arith, map, string_bytes}
use Rattle.std.proofs.lemmas.Bool.{ltb-true, ltb-false}
use Rattle.std.proofs.lemmas.List.{length-map}
use Rattle.tool_requests.proofs.Other.{other_words}
use Rattle.tool_requests.proofs.words.tool_of.Goals as goal
use Rattle.tool_requests.proofs.words.tool_of.Goals.{in_default-via-then-words-lt2}
use Rattle.tool_requests.proofs.words.tool_of.Goals.{in_default-via-else-words-lt2+else-words-lt3+else-words-lt4+then-words-lt5}
use Rattle.tool_requests.proofs.words.tool_of.Goals.{in_default-via-else-words-lt2+else-words-lt3+else-words-lt4+else-words-lt5+else-words-lt6}

pub returns-in_default : goal.returns-in_default
returns-in_default c =
    let words = c.args.words.now in
    let number = length-map words string_bytes in
    let other = other_words (map string_bytes words) in
    elim c.in_default.branch [
      | in_default-via-then-words-lt2 w ↦
          other (λ two. omega (arith, two, number, ltb-true)) (λ three. omega (arith, three, number, ltb-true))
          (λ five. omega (arith, five, number, ltb-true))
      | in_default-via-else-words-lt2+else-words-lt3+else-words-lt4+then-words-lt5 w ↦
          other (λ two. omega (arith, two, number, ltb-false)) (λ three. omega (arith, three, number, ltb-false))
          (λ five. omega (arith, five, number, ltb-true))
      | in_default-via-else-words-lt2+else-words-lt3+else-words-lt4+else-words-lt5+else-words-lt6 w ↦
          other (λ two. omega (arith, two, number, ltb-false)) (λ three. omega (arith, three, number, ltb-false))
          (λ five. omega (arith, five, number, ltb-false))
    ]
