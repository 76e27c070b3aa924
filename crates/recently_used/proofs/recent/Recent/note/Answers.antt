use Rattle.std.proofs.Common.{ℕ, List, [], ◌∷◌, ◌++◌, not, nat_eq, ◌∙◌, ap}
use Rattle.std.specs.List.{filter}
use Rattle.recently_used.proofs.Used.{stays}
use Rattle.recently_used.proofs.recent.Recent.note.Goals as goal

pub returns-clause-stays : goal.returns-clause-stays
returns-clause-stays c =
    let others = c.without.ensures.items ∙ ap (filter (λ (n : ℕ). not (nat_eq n c.args.number))) (c.reserve.ensures.items ∙ c.self.view_is) in
    stays c.args.self.now c.shorten.new.numbers.items c.args.number c.shorten.result
    (c.shorten.ensures.rest ∙ c.push_reserved.ensures.items ∙ ap (λ (l : List ℕ). l ++ c.args.number ∷ []) others)
