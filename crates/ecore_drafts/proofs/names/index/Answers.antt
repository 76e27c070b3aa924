use Rattle.std.proofs.Common.{◌∙◌, ap, refl}
use Rattle.std.specs.Prelude.{is_some}
use Rattle.std.proofs.lemmas.Map.Text.{btree_map_updates_str}
use Rattle.ecore_meta.proofs.NameLaws.{repeat_found, still_apart, still_told}
use Rattle.ecore_drafts.proofs.names.index.Goals as goal

pub returns-then-is_some : goal.returns-then-is_some
returns-then-is_some c =
    repeat_found (λ n. n.now) c.args.names.now c.loop-n.n _ c.loop-n-test.true
    (c.if-is_some.ensures ∙ ap is_some (c.in_ok-insert.ensures.old ∙ c.loop-n.invariant.told _))

pub loop-n-preserved : goal.loop-n-preserved
loop-n-preserved c =
    let stood = c.if-is_some.ensures ∙ ap is_some (c.in_ok-insert.ensures.old ∙ c.loop-n.invariant.told _) in
    record {
      apart = still_apart (λ n. n.now) c.args.names.now c.loop-n.n _ c.loop-n-test.true c.loop-n.invariant.apart stood;
      told = λ q.
          btree_map_updates_str _ c.loop-n.index c.insert.new.self _ c.in_ok-insert.ensures.updates q
          ∙ still_told (λ n. n.now) c.args.names.now c.loop-n.n _ c.loop-n-test.true stood _ refl _ c.loop-n.invariant.told q;
    }
