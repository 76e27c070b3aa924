use Rattle.std.proofs.Common.{◌∙◌, ap, cond}
use Rattle.std.specs.Prelude.{Some, None}
use Rattle.std.proofs.lemmas.Int.{to_z-of_z}
use mir.Syntax.{w64}
use mir.Val.{to_z, of_z}
use Rattle.ecore_meta.specs.Typing.{half_of, in_width}
use Rattle.ecore_meta.specs.Values.{whole_of}
use Rattle.ecore_meta.specs.declared.meta.Value.TheVariants.{Whole}
use Rattle.ecore_meta.proofs.ParseLaws.{half_small, narrowed}
use Rattle.ecore_meta.proofs.values.whole_in.Goals as goal

pub returns-in-Some : goal.returns-in-Some
returns-in-Some c =
    c.chosen.ensures ∙ ap (λ b. cond b (Some (Whole (to_z w64 (of_z w64 c.in-Some.n)))) None) c.has_whole.ensures
    ∙ ap (λ n. cond (in_width (half_of c.args.scalar.now) n) (Some (Whole n)) None) (to_z-of_z w64 c.in-Some.n c.in-Some.ensures.fits)
    ∙ narrowed (half_of c.args.scalar.now) (half_small c.args.scalar.now) (Some c.in-Some.n) (whole_of c.args.text.now) c.in-Some.ensures.whole

pub returns-in-None : goal.returns-in-None
returns-in-None c = narrowed (half_of c.args.scalar.now) (half_small c.args.scalar.now) None (whole_of c.args.text.now) c.in-None.ensures.whole
