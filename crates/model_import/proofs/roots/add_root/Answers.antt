use Rattle.std.proofs.Common.{◌≡◌, ◌∙◌, ◌++◌, ◌∷◌, ◌+◌, ◌*◌, ◌<◌, [], List, sym, ap, append_assoc, arith, length}
use Rattle.std.specs.Prelude.{None, Some}
use Rattle.model_state.specs.declared.entry.Entry.{Entry}
use Rattle.model_state.specs.declared.step.Place.TheVariants.{Root}
use Rattle.model_state.specs.declared.step.Step.{Step}
use Rattle.model_state.specs.declared.step.Step.TheVariants.{New}
use Rattle.edit_steps.specs.Places.{rerank_places}
use Rattle.edit_steps.specs.Spot.{evened, rank_for, ranks_of}
use Rattle.import_laws.proofs.Ends.{after_kept, made_kept, after_new, made_new, room_new}
use Rattle.model_import.proofs.roots.add_root.Goals as goal
use Rattle.model_state.specs.Ranks.{most_entries, rank_gap}

pub returns-in-Ok-clause-roots : goal.returns-in-Ok-clause-roots
returns-in-Ok-clause-roots c =
    let is : rank_for (ranks_of c.args.roots.now) (length c.args.roots.now) ≡ Some c.in-Some.rank =
    ap (λ (ys : List Entry). rank_for (ranks_of ys) (length ys)) (sym c.as_slice.ensures) ∙ sym c.rank_after.ensures ∙ c.in-Some.is in
    c.in-Ok.ensures.roots ∙ after_kept c.args.roots.now c.args.e.now c.in-Some.rank is

pub returns-in-Ok-clause-steps : goal.returns-in-Ok-clause-steps
returns-in-Ok-clause-steps c =
    let is : rank_for (ranks_of c.args.roots.now) (length c.args.roots.now) ≡ Some c.in-Some.rank =
    ap (λ (ys : List Entry). rank_for (ranks_of ys) (length ys)) (sym c.as_slice.ensures) ∙ sym c.rank_after.ensures ∙ c.in-Some.is in
    c.in-Ok.ensures.steps ∙ ap (λ (ss : List Step). c.args.steps.now ++ ss) (made_kept c.args.roots.now c.args.e.now c.args.class c.in-Some.rank is)

pub returns-in-Ok-spread_root-clause-room : goal.returns-in-Ok-spread_root-clause-room
returns-in-Ok-spread_root-clause-room c =
    let none : rank_for (ranks_of c.args.roots.now) (length c.args.roots.now) ≡ None =
    ap (λ (ys : List Entry). rank_for (ranks_of ys) (length ys)) (sym c.as_slice.ensures) ∙ sym c.rank_after.ensures ∙ c.in-None.is in
    let small : length c.args.roots.now < most_entries = omega (arith, c.len.ensures, c.if-len-ge-MOST_ENTRIES.false) in
    room_new c.args.roots.now none small

pub returns-in-Ok-spread_root-clause-roots : goal.returns-in-Ok-spread_root-clause-roots
returns-in-Ok-spread_root-clause-roots c =
    let none : rank_for (ranks_of c.args.roots.now) (length c.args.roots.now) ≡ None =
    ap (λ (ys : List Entry). rank_for (ranks_of ys) (length ys)) (sym c.as_slice.ensures) ∙ sym c.rank_after.ensures ∙ c.in-None.is in
    let small : length c.args.roots.now < most_entries = omega (arith, c.len.ensures, c.if-len-ge-MOST_ENTRIES.false) in
    c.in-Ok-spread_root.ensures.roots ∙ after_new c.args.roots.now c.args.e.now none small

pub returns-in-Ok-spread_root-clause-steps : goal.returns-in-Ok-spread_root-clause-steps
returns-in-Ok-spread_root-clause-steps c =
    let xs = c.args.roots.now in
    let none : rank_for (ranks_of xs) (length xs) ≡ None =
    ap (λ (ys : List Entry). rank_for (ranks_of ys) (length ys)) (sym c.as_slice.ensures) ∙ sym c.rank_after.ensures ∙ c.in-None.is in
    let small : length xs < most_entries = omega (arith, c.len.ensures, c.if-len-ge-MOST_ENTRIES.false) in
    c.in-Ok-spread_root.ensures.steps
    ∙ append_assoc c.args.steps.now (rerank_places xs (evened 1 xs)) (New c.args.e.now c.args.class Root ((length xs + 1) * rank_gap) ∷ [])
    ∙ ap (λ (ss : List Step). c.args.steps.now ++ ss) (made_new xs c.args.e.now c.args.class none small)
