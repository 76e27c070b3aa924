use Rattle.std.proofs.Common.{sym, ap, ◌∙◌}
use Rattle.std.specs.Prelude.{Some}
use Rattle.ranked_lists.proofs.Places.{place_some, place_none, index_is}
use Rattle.ranked_lists.proofs.few.rank_among.Goals as goal

pub returns-in-None : goal.returns-in-None
returns-in-None c = sym (place_none c.args.entries.now c.args.e.now (sym c.index_of.ensures ∙ c.in-None.is))

pub returns-in-Some : goal.returns-in-Some
returns-in-Some c =
    let at = place_some c.args.entries.now c.args.e.now c.in-Some.at (sym c.index_of.ensures ∙ c.in-Some.is) in
    ap (λ x. Some x.rank) (index_is c.args.entries.now c.in-Some.at c.index-entries-at.result at.0 at.1) ∙ sym at.3
