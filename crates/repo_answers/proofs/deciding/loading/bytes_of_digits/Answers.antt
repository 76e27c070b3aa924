use Rattle.std.proofs.Common.{◌≡◌, ◌-◌, List, ℕ, Option, Some, Result, Ok, Err, length, refl, take, arith}
use Rattle.std.specs.Prelude.{IfOk, IfSome}
use Rattle.std.specs.List.{slice_split}
use Rattle.host_port.specs.Cut.{is_lf}
use Rattle.hex.specs.Hex.{decode_of}
use Rattle.plain_repository.specs.Applying.{bytes_of_lines}
use Rattle.script_lang.specs.Command.{if_decoded}
use Rattle.repo_answers.proofs.Loaded.{digits_spell}
use Rattle.repo_answers.proofs.deciding.loading.bytes_of_digits.Goals as goal

where_ok : {A E : Type 0} (P Q : A → Type 0) (r : Result A E) → ((x : A) → P x → Q x) → IfOk r P → IfOk r Q
where_ok P Q (Ok x) follows is = follows x is
where_ok P Q (Err e) follows is = tt

pub returns : goal.returns
returns c =
    let text = c.args.block.now in
    let line = take (length c.args.block.now - 1) c.args.block.now in
    where_ok (λ (found : Option (List ℕ)). found ≡ if_decoded (decode_of line))
    (λ (found : Option (List ℕ)). IfSome found (λ bytes. bytes_of_lines (slice_split is_lf text) ≡ Some bytes))
    c.bytes_of_line.result
    (digits_spell text line (omega (arith, c.if-len-eq0.false)) c.if-block-len-ne10.false refl) c.bytes_of_line.ensures
