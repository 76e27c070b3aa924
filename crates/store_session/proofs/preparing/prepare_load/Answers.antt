use Rattle.std.proofs.Common.{◌∙◌, List, ℕ, length, refl, subst, sym}
use Rattle.std.specs.Prelude.{IfSome}
use Rattle.commit_journal.specs.Journal.{HoldsRecord, RecordFits}
use Rattle.repo_answers.specs.Loads.{MakesEventOf}
use Rattle.store_session.proofs.Loading.{load_played, load_prepared}
use Rattle.store_session.proofs.preparing.prepare_load.Goals as goal

pub returns-clause-prepared_answer : goal.returns-clause-prepared_answer
returns-clause-prepared_answer c =
    let played = c.in_ok-prepared-2.ensures.played in
    let known : MakesEventOf c.args.line.now c.args.block.now c.in-Some.form.items × RecordFits c.args.repo.now.end (length c.in-Some.form.items) =
    subst (λ o. IfSome o (λ form. MakesEventOf c.args.line.now c.args.block.now form.items × RecordFits c.args.repo.now.end (length form.items)))
    c.in-Some.is c.in_ok-form.ensures in
    load_prepared c.args.repo.now c.args.line.now c.args.block.now c.in-Some.form.items played.0 known.0 played.1
    (sym c.deref-2.ensures.value ∙ played.2) known.1 c.play_form.new.pool c.in_ok-prepared-2.prepared _ c.in_ok-reply.ensures refl refl
    (subst (λ (form : List ℕ). HoldsRecord c.play_form.new.pool c.in_ok-prepared-2.prepared form) c.deref-2.ensures.value
    c.in_ok-prepared-2.ensures.holds)

pub returns-clause-state : goal.returns-clause-state
returns-clause-state c =
    let played = c.in_ok-prepared-2.ensures.played in
    let known : MakesEventOf c.args.line.now c.args.block.now c.in-Some.form.items × RecordFits c.args.repo.now.end (length c.in-Some.form.items) =
    subst (λ o. IfSome o (λ form. MakesEventOf c.args.line.now c.args.block.now form.items × RecordFits c.args.repo.now.end (length form.items)))
    c.in-Some.is c.in_ok-form.ensures in
    load_played c.args.repo.now c.args.line.now c.args.block.now c.in-Some.form.items played.0 known.0 played.1
    (sym c.deref-2.ensures.value ∙ played.2) known.1 c.play_form.new.repo played.3
