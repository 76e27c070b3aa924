use Rattle.std.proofs.Common.{◌∙◌, ap, map, length}
use Rattle.std.specs.List.{filter, range_with_len}
use Rattle.ecore_drafts.specs.Supers.{is_above}
use Rattle.ecore_drafts.proofs.TableLaws.{rising_more}
use Rattle.ecore_drafts.proofs.tables.all_above.Goals as goal

pub loop-class-preserved : goal.loop-class-preserved
loop-class-preserved c =
    ap (map (λ s. s.keys)) c.in_ok-push.ensures.items
    ∙ rising_more c.loop-class.table.items c.in_ok-above.field-0
    (λ k. filter (is_above (map (λ ups. ups.items) c.args.supers.now) k) (range_with_len 0 (length c.args.supers.now))) c.loop-class.class
    c.loop-class.invariant c.in_ok-above.ensures.rising
