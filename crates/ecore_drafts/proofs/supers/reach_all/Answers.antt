use Rattle.std.proofs.Common.{ℕ, List, sym, subst, arith}
use Rattle.std.proofs.lemmas.List.{take_more}
use Rattle.ecore_drafts.specs.Supers.{Grown}
use Rattle.ecore_drafts.proofs.SuperLaws.{grown_none, grown_twice, grown_all}
use Rattle.ecore_drafts.proofs.supers.reach_all.Goals as goal

pub loop-up-init : goal.loop-up-init
loop-up-init c = record { kept = c.requires; grown = grown_none c.args.reached.now.items }

pub loop-up-preserved : goal.loop-up-preserved
loop-up-preserved c =
    let P : List ℕ → Type 0 = λ us. Grown us c.args.reached.now.items c.reach.new.reached.items in
    record {
      kept = c.in_ok-reach.ensures.kept;
      grown = subst P (sym (take_more c.args.ups.now c.loop-up.up-index 0 c.loop-up-test.true))
          (grown_twice _ _ _ _ _ c.loop-up.invariant.grown c.in_ok-reach.ensures.grown);
    }

pub returns-clause-grown : goal.returns-clause-grown
returns-clause-grown c = grown_all c.args.ups.now c.loop-up.up-index _ _ (omega arith) c.loop-up.invariant.grown
