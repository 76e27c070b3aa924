-- the bytes that were copied are the text
use Rattle.std.proofs.Common.{sym, ap, subst, length, ◌∙◌, IsUtf8, arith}
use Rattle.std.proofs.lemmas.List.{take_at}
use Rattle.texts.proofs.fixed_text.FixedText.new.Goals as goal

pub invariant_of-result : goal.invariant_of-result
invariant_of-result g c =
    let copied = c.copy_from_slice.ensures.after ∙ c.as_bytes.ensures.value in
    (omega arith, ∣ subst IsUtf8 (sym (take_at _ _ _ (ap length copied) ∙ copied)) c.utf8.text ∣₁)

pub returns : goal.returns
returns g c = let copied = c.copy_from_slice.ensures.after ∙ c.as_bytes.ensures.value in take_at _ _ _ (ap length copied) ∙ copied
