use Rattle.std.proofs.Common.{◌≡◌, subst}
use Rattle.std.specs.Prelude.{IfOk}
use Rattle.ecore_meta.specs.Meta.{Meta}
use Rattle.ecore_build.proofs.PromiseLaws.{holds_of}
use Rattle.ecore_build.proofs.building.assemble.Goals as goal

pub of_parts-requires : goal.of_parts-requires
of_parts-requires c = holds_of c.args.rows.now c.requires.few c.requires.none c.requires.fit _ c.in_ok-parts.ensures

pub returns : goal.returns
returns c =
    let P : Meta → Type 0 = λ x. IfOk c.of_parts.result (λ m. m ≡ x) in
    subst P c.in_ok-parts.ensures c.of_parts.ensures
