use Rattle.std.proofs.Common.{◌∙◌, ap, arith, get_or, map}
use Rattle.std.specs.List.{list_any}
use Rattle.std.proofs.lemmas.List.{length-map}
use Rattle.ecore_drafts.specs.Supers.{is_cyclic}
use Rattle.ecore_meta.specs.Meta.{is_in}
use Rattle.ecore_drafts.proofs.TableLaws.{cycle_found, cyclic_at, none_more, past_all}
use Rattle.ecore_drafts.proofs.tables.any_cycle.Goals as goal

pub returns-then-any_below : goal.returns-then-any_below
returns-then-any_below c =
    cycle_found (map (λ ups. ups.items) c.args.supers.now) c.loop-class.class (omega (arith, length-map c.args.supers.now (λ ups. ups.items)))
    (c.if-any_below.ensures
    ∙ ap (list_any (λ b. is_in (map (λ s. s.keys) c.args.above.now) b c.loop-class.class))
    (c.as_slice.ensures.value ∙ ap (λ v. v.items) c.index-supers-class.is)
    ∙ ap (λ table. list_any (λ b. is_in table b c.loop-class.class) (get_or c.args.supers.now c.loop-class.class c.index-supers-class.result).items)
    c.requires.above
    ∙ cyclic_at (λ ups. ups.items) c.args.supers.now c.loop-class.class c.index-supers-class.result c.requires.inside c.loop-class-test.true)

pub loop-class-preserved : goal.loop-class-preserved
loop-class-preserved c =
    none_more (is_cyclic (map (λ ups. ups.items) c.args.supers.now)) c.loop-class.class c.loop-class.invariant
    (c.if-any_below.ensures
    ∙ ap (list_any (λ b. is_in (map (λ s. s.keys) c.args.above.now) b c.loop-class.class))
    (c.as_slice.ensures.value ∙ ap (λ v. v.items) c.index-supers-class.is)
    ∙ ap (λ table. list_any (λ b. is_in table b c.loop-class.class) (get_or c.args.supers.now c.loop-class.class c.index-supers-class.result).items)
    c.requires.above
    ∙ cyclic_at (λ ups. ups.items) c.args.supers.now c.loop-class.class c.index-supers-class.result c.requires.inside c.loop-class-test.true)

pub returns : goal.returns
returns c =
    past_all (is_cyclic (map (λ ups. ups.items) c.args.supers.now)) (map (λ ups. ups.items) c.args.supers.now) c.loop-class.class
    (omega (arith, length-map c.args.supers.now (λ ups. ups.items))) c.loop-class.invariant
