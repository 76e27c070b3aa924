use Rattle.std.proofs.Common.{sym, subst, List, ℕ, [], ◌∷◌}
use Rattle.ecore_drafts.specs.Supers.{Reached, Grown}
use Rattle.ecore_drafts.proofs.SuperLaws.{grown_one, reached_more}
use Rattle.ecore_drafts.proofs.supers.reach.Goals as goal

pub returns-clause-kept : goal.returns-clause-kept
returns-clause-kept c =
    let P : List ℕ → Type 0 = λ xs. Reached c.insert.new.self xs in
    subst P (sym c.in_ok-push.ensures.items)
    (reached_more c.args.seen.now c.insert.new.self c.args.reached.now.items c.args.up c.requires c.in_ok-insert.ensures.updates.0
    c.if-contains.ensures c.in_ok-insert.ensures.ordered)

pub returns-clause-grown : goal.returns-clause-grown
returns-clause-grown c =
    let P : List ℕ → Type 0 = λ xs. Grown (c.args.up ∷ []) c.args.reached.now.items xs in
    subst P (sym c.in_ok-push.ensures.items) (grown_one c.args.up c.args.reached.now.items)
