use Rattle.std.proofs.Common.{◌≡◌, cond, true, subst}
use Rattle.std.specs.BTreeMap.{is_at}
use Rattle.std.specs.BTreeSet.{contains}
use Rattle.model_state.specs.Keys.{AttrKey, attr_cmp}
use Rattle.edit_steps.proofs.Reached.{slots_more}
use Rattle.edit_steps.proofs.rows.add.Goals as goal

pub returns : goal.returns
returns c = λ ss has.
    let old = c.args.slots.now in
    let new = c.insert.new.self in
    let s = c.args.slot.now in
    slots_more old new ss s has
    (subst (λ (k : AttrKey). (q : AttrKey) → contains attr_cmp new q ≡ cond (is_at (attr_cmp k) q) true (contains attr_cmp old q))
    (λ i. (c.in_ok-copy.ensures i, s.1)) c.in_ok-insert.ensures.updates.0)
