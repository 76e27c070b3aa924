use Rattle.std.proofs.Common.{◌∙◌, List, subst, ap}
use Rattle.std.specs.Prelude.{slice_get}
use Rattle.std.specs.BTreeMap.{get_by_text}
use Rattle.std.specs.Option.{option_and_then}
use Rattle.ecore_meta.specs.Indexes.{HasLiterals}
use Rattle.ecore_meta.specs.declared.meta.Enum.{Enum}
use Rattle.ecore_meta.proofs.IndexLaws.{known_at}
use Rattle.ecore_meta.proofs.enums.Enums.literal_named.Goals as goal

pub returns : goal.returns
returns c =
    let P : List Enum → Type 0 = λ enums. HasLiterals enums c.self.inside.literals.items in
    let has = subst P c.self.view_is c.self.invariant in
    c.number_at.ensures ∙ ap (λ ms. option_and_then (λ m. get_by_text m c.args.text.now) (slice_get ms c.args.e)) c.as_slice.ensures.value
    ∙ known_at c.args.self.now c.self.inside.literals.items c.args.e c.args.text.now has.known
