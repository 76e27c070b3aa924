use Rattle.std.proofs.Common.{◌≡◌, ◌<◌, ◌≤◌, sym, ap, subst, ◌∙◌, length}
use Rattle.model_state.specs.Listing.{targets}
use Rattle.edit_steps.specs.References.{without_entry}
use Rattle.edit_steps.proofs.RankLaws.{stands_among}
use Rattle.edit_steps.proofs.reorder.reorder_steps.Goals as goal

pub find-requires : goal.find-requires
find-requires g c =
    let row = (g.L.Look.state c.args.look.now).row in
    let a = c.args.a.now in
    let f = c.args.f in
    let b = c.args.b.now in
    let mine : c.in_ok-mine.mine ≡ targets row a f = c.in_ok-mine.ensures in
    let others : c.in_ok-others.others ≡ without_entry b (targets row a f) = c.in_ok-others.ensures ∙ ap (without_entry b) (c.as_slice-2.ensures ∙ mine) in
    subst (λ n. c.args.at ≤ n) (sym (ap length others))
    (stands_among row a f b c.args.at (subst (λ n. c.args.at < n) (c.len.ensures ∙ ap length mine) c.if-index-len.false))
