use Rattle.std.proofs.Common.{◌≡◌, ◌<◌, Ok, length, sym, subst}
use Rattle.history_tree.specs.History.{History}
use Rattle.plain_repository.specs.Specs.{found_by_spec}
use Rattle.repo_answers.proofs.Playable.{checkout_could}
use Rattle.repo_answers.proofs.deciding.checkouts.decide_checkout.Goals as goal

pub check_out-requires-clause-could : goal.check_out-requires-clause-could
check_out-requires-clause-could c =
    let found = c.in-Ok.found in
    let back = sym c.requires.history in
    checkout_could c.args.repo.now c.args.begun.now.meta c.args.spec.now found c.requires.meta
    (subst (λ (h : History). found_by_spec h c.args.spec.now ≡ Ok found) back (sym c.in-Ok.ensures.found))
    (subst (λ (h : History). found.version < length h.versions) back c.in-Ok.ensures.version)
    (subst (λ (h : History). found.branch < length h.branches) back c.in-Ok.ensures.branch)

pub text_of-requires-clause-there : goal.text_of-requires-clause-there
text_of-requires-clause-there c = subst (λ (h : History). c.in-Ok.found.version < length h.versions) (sym c.requires.history) c.in-Ok.ensures.version
