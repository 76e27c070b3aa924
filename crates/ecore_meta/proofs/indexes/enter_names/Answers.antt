use Rattle.std.proofs.Common.{◌≡◌, ◌∙◌, ap, cond, true, map, subst, sym}
use Rattle.std.specs.Prelude.{None, Some, is_some}
use Rattle.std.specs.Str.{bytes_eq}
use Rattle.ecore_meta.specs.Names.{number_of}
use Rattle.ecore_meta.specs.Values.{or_else}
use Rattle.ecore_meta.proofs.IndexLaws.{entered_more, has_more}
use Rattle.ecore_meta.proofs.NameLaws.{number_at, or_none}
use Rattle.ecore_meta.proofs.indexes.enter_names.Goals as goal

pub loop-n-init : goal.loop-n-init
loop-n-init c = λ q. c.requires.texts q ∙ sym (or_none (number_of q (map (λ l. l.text) c.args.literals.now)))

pub enter_name-requires : goal.enter_name-requires
enter_name-requires c =
    ap is_some (c.loop-n.invariant c.index-literals-n.result.text)
    ∙ has_more (number_of c.index-literals-n.result.text (map (λ l. l.text) c.args.literals.now)) _
    (subst (λ t. is_some (number_of t (map (λ l. l.text) c.args.literals.now)) ≡ true) (sym (ap (λ x. x.text) c.index-literals-n.is))
    (number_at (λ l. l.text) c.args.literals.now c.loop-n.n c.index-literals-n.result c.loop-n-test.true))

pub loop-n-preserved : goal.loop-n-preserved
loop-n-preserved c = λ q.
    c.in_ok-enter_name.ensures q
    ∙ ap (λ o. or_else o (cond (bytes_eq q c.index-literals-n.result.name) (Some c.loop-n.n) None)) (c.loop-n.invariant q)
    ∙ entered_more (λ x. x.name) c.args.literals.now c.loop-n.n c.index-literals-n.result c.loop-n-test.true
    (number_of q (map (λ l. l.text) c.args.literals.now)) q c.index-literals-n.result.name (ap (λ x. x.name) c.index-literals-n.is)
