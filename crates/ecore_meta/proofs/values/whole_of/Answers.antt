use Rattle.std.proofs.Common.{◌∙◌, ap, sym, subst, ℕ, ℤ, List, Bool, FitsSigned}
use Rattle.std.specs.Prelude.{nat_eq, slice_index, Some}
use mir.Syntax.{w64}
use Rattle.ecore_meta.proofs.ParseLaws.{fits_64, parsed, plus_none, read_fits, ok_of}
use Rattle.ecore_meta.proofs.values.whole_of.Goals as goal

-- the first of the bytes is a plus
abbrev begins_with_plus : List ℕ → Bool
begins_with_plus bs = nat_eq (slice_index bs 0) 43

pub returns-in-Ok-clause-whole : goal.returns-in-Ok-clause-whole
unfolding ok_of
returns-in-Ok-clause-whole c =
    ap (λ n. Some n) (read_fits c.args.text.now c.parse.result c.parse.ensures.value.0 c.in-Ok.n c.in-Ok.is)
    ∙ sym (ap ok_of c.in-Ok.is)
    ∙ parsed c.args.text.now c.parse.result c.parse.ensures.value.0
    (c.if-begins_with_plus.ensures ∙ ap begins_with_plus c.as_bytes.ensures.value)

pub returns-in-Err-clause-whole : goal.returns-in-Err-clause-whole
unfolding ok_of
returns-in-Err-clause-whole c =
    sym (ap ok_of c.in-Err.is)
    ∙ parsed c.args.text.now c.parse.result c.parse.ensures.value.0
    (c.if-begins_with_plus.ensures ∙ ap begins_with_plus c.as_bytes.ensures.value)

pub returns-then-begins_with_plus-clause-whole : goal.returns-then-begins_with_plus-clause-whole
returns-then-begins_with_plus-clause-whole c =
    plus_none c.args.text.now (c.if-begins_with_plus.ensures ∙ ap begins_with_plus c.as_bytes.ensures.value)

pub returns-in-Ok-clause-fits : goal.returns-in-Ok-clause-fits
returns-in-Ok-clause-fits c =
    let P : ℤ → Type 0 = λ n. FitsSigned w64 n in
    subst P (sym (read_fits c.args.text.now c.parse.result c.parse.ensures.value.0 c.in-Ok.n c.in-Ok.is))
    (fits_64 c.args.text.now c.parse.result c.parse.ensures.value.0 c.in-Ok.n c.in-Ok.is)
