use Rattle.std.proofs.Common.{refl, arith, ◌∙◌}
use Rattle.std.proofs.lemmas.List.{get_or-take}
use Rattle.byte_form.proofs.reader.number_of_eight.Goals as goal

pub returns : goal.returns
returns c =
    let bs = c.args.rest.now in
    c.from_be_bytes.ensures
    ∙ (rw (
      get_or-take 8 bs 0 0 (omega arith),
      get_or-take 8 bs 1 0 (omega arith),
      get_or-take 8 bs 2 0 (omega arith),
      get_or-take 8 bs 3 0 (omega arith),
      get_or-take 8 bs 4 0 (omega arith),
      get_or-take 8 bs 5 0 (omega arith),
      get_or-take 8 bs 6 0 (omega arith),
      get_or-take 8 bs 7 0 (omega arith),
    ) refl)
