-- The containers of the steps and of the refusals are those of the places.
use Rattle.std.proofs.Common.{IfOk, Ok, Err}
use Rattle.std.specs.Prelude.{Result, None, OnOk, IfErr}
use Rattle.edits.proofs.Chains.{move_is, refusal_is, fault_is}
use Rattle.recorder.proofs.place.moved.Goals as goal

if_ok : {A E : Type 0} (r : Result A E) (P Q : A → Type 0) → ((x : A) → P x → Q x) → IfOk r P → IfOk r Q
if_ok (Ok x) P Q h p = h x p
if_ok (Err e) P Q h p = p

if_err : {A E : Type 0} (r : Result A E) (P Q : E → Type 0) → ((e : E) → P e → Q e) → IfErr r P → IfErr r Q
if_err (Ok x) P Q h p = p
if_err (Err e) P Q h p = h e p

on_ok : {A E : Type 0} (r : Result A E) (P Q : Type 0) → (P → Q) → OnOk r P → OnOk r Q
on_ok (Ok x) P Q h p = h p
on_ok (Err e) P Q h p = p

pub returns-clause-made : goal.returns-clause-made
returns-clause-made g c =
    if_ok c.move_steps.result _ _
    (move_is c.args.meta.now (g.L.Look.state c.args.look.now) c.requires.good c.args.e.now c.args.place.now c.args.index) c.move_steps.ensures.made

pub returns-clause-taken : goal.returns-clause-taken
returns-clause-taken g c =
    on_ok c.move_steps.result _ _
    (refusal_is c.args.meta.now (g.L.Look.state c.args.look.now) c.requires.good c.args.e.now c.args.place.now c.args.index None)
    c.move_steps.ensures.taken

pub returns-clause-refused : goal.returns-clause-refused
returns-clause-refused g c =
    if_err c.move_steps.result _ _
    (fault_is c.args.meta.now (g.L.Look.state c.args.look.now) c.requires.good c.args.e.now c.args.place.now c.args.index)
    c.move_steps.ensures.refused
