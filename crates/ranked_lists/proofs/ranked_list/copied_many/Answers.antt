use Rattle.std.proofs.Common.{◌≡◌, subst, ◌∙◌}
use Rattle.std.specs.Prelude.{IfOk}
use Rattle.ranked_lists.proofs.Held.{listed_is}
use Rattle.ranked_lists.proofs.ranked_list.copied_many.Goals as goal

pub many_of-requires : goal.many_of-requires
many_of-requires c = (listed_is c.as_slice.result.now c.args.many.now (c.as_slice.ensures ∙ c.in_ok-entries.ensures)).0

pub returns : goal.returns
returns c =
    subst (λ m. IfOk c.many_of.result (λ r. r ≡ m))
    (listed_is c.as_slice.result.now c.args.many.now (c.as_slice.ensures ∙ c.in_ok-entries.ensures)).1 c.many_of.ensures
