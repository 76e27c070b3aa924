-- one more is reached
use Rattle.std.proofs.Common.{◌≡◌, false, true, inl, inr, subst, get_or}
use Rattle.std.proofs.lemmas.List.Elements.{Contains-get_or}
use Rattle.cell_index.proofs.NoneMeets.{taken_number}
use Rattle.cell_index.proofs.Rows.{whole}
use Rattle.conflict_buckets.proofs.Spreading.{further_on}
use Rattle.conflict_buckets.proofs.labelling.Labels.reach_all.Goals as goal

pub reach_new-requires-clause-there : goal.reach_new-requires-clause-there
reach_new-requires-clause-there c =
    let near = c.args.near.now in
    let i = c.loop-place.place-index in
    c.requires.there (get_or near i 0) (Contains-get_or near i 0 c.loop-place-test.true)

pub loop-place-preserved : goal.loop-place-preserved
loop-place-preserved c =
    let near = c.args.near.now in
    let more = c.reach_new.new.self.reached.items in
    let made = c.in_ok-reach_new.ensures in
    record {
      spread = made.spread;
      all = λ k on. elim (taken_number near c.loop-place.place-index k c.loop-place-test.true on) [
        | inl before ↦ made.further.kept k (c.loop-place.invariant.all k before)
        | inr e ↦ subst (λ n. get_or more n false ≡ true) e made.here
      ];
      further = further_on c.args.self.now.reached.items c.loop-place.self.reached.items more c.args.self.now.order.items
          c.loop-place.self.order.items c.reach_new.new.self.order.items c.loop-place.invariant.further made.further;
    }

pub returns-clause-all : goal.returns-clause-all
returns-clause-all c = λ k on. c.loop-place.invariant.all k (whole c.args.near.now c.loop-place.place-index k c.loop-place-test.false on)
