use Rattle.std.proofs.Common.{List, ◌≡◌, sym, ap, subst, arith, length}
use Rattle.std.specs.Prelude.{[]}
use Rattle.std.specs.Option.{option_map_or}
use Rattle.ecore_meta.specs.Values.{AreShort}
use Rattle.ecore_meta.specs.Typing.{literal_count}
use Rattle.ecore_meta.specs.declared.meta.Enum.{Enum}
use Rattle.metamodel_growth.proofs.CodeLaws.{short_more}
use Rattle.metamodel_growth.proofs.moved.push_enum.Goals as goal

pub returns-in_ok-push-in-Some-clause-short : goal.returns-in_ok-push-in-Some-clause-short
returns-in_ok-push-in-Some-clause-short c =
    let P : List Enum → Type 0 = λ es. AreShort es in
    let copied : length c.in_ok-copy_enum-in-Some.field-0.literals ≡ length c.in-Some.found.now.literals =
    ap (λ (x : Enum). length x.literals) c.in_ok-copy_enum-in-Some.ensures in
    let many : length c.in-Some.found.now.literals ≡ literal_count c.args.next.now c.args.e =
    ap (λ o. length (option_map_or (λ (x : Enum). x.literals) o [])) c.in-Some.ensures in
    subst P (sym c.in_ok-push-in-Some.ensures.items)
    (short_more c.args.moved.now.items c.in_ok-copy_enum-in-Some.field-0 c.requires.short
    (omega (arith, copied, many, c.literal_count-count.ensures, c.literal_count-count.type_inv)))
