-- What `load` makes is prepared where its event was played by its bytes.
use Rattle.std.proofs.Common.{◌≡◌, ℕ, List, [], length, Option, Some, sym, ap, ◌∙◌, subst}
use Rattle.std.specs.Prelude.{IsTrue}
use Rattle.page_pool.specs.Frames.{Frames}
use Rattle.page_pool.specs.Paged.{PagedState}
use Rattle.commit_journal.specs.Journal.{HoldsRecord, RecordFits}
use Rattle.command_runs.specs.Runs.{after}
use Rattle.op_form.specs.declared.event.Event.{Event}
use Rattle.op_form.specs.Events.{event_encoding}
use Rattle.script_lang.specs.Reply.{printed}
use Rattle.script_lang.specs.declared.reply.Last.TheVariants as last
use Rattle.plain_repository.specs.State.{State}
use Rattle.plain_repository.specs.Answers as plain
use Rattle.plain_repository.specs.Answers.{accepted}
use Rattle.plain_repository.specs.Events.{play, playable}
use Rattle.plain_repository.specs.Repository.{decide_line}
use Rattle.repo_answers.specs.Loads.{MakesEventOf}
use Rattle.store_session.specs.Session.{IsPrepared}
use Rattle.store_session.specs.declared.answered.Answered.TheVariants.{Accepted}
use Rattle.store_session.specs.declared.preparing.PreparedAnswer.{PreparedAnswer}

module _ (s : State) (line : List ℕ) (block : Option (List ℕ)) (form : List ℕ) (event : Event) (makes : MakesEventOf line block form)
    (could : IsTrue (playable s event)) (is : form ≡ event_encoding event) (fits : RecordFits s.end (length form)) where
  decided : decide_line s line block ≡ accepted [] [] event
  decided = makes s event could is fits

  pub load_played : (t : State) → t ≡ play s event → t ≡ after play s (decide_line s line block).event
  load_played t played = played ∙ ap (λ (d : plain.Decision). after play s d.event) (sym decided)

  pub load_prepared : (pool : Frames) (prepared : PagedState) (answer : PreparedAnswer)
      → answer.reply.items ≡ printed (record { lines = []; last = last.Ok [] })
      → answer.answered ≡ Accepted → answer.ready ≡ Some prepared → HoldsRecord pool prepared form
      → IsPrepared pool s (decide_line s line block) answer
  load_prepared pool prepared answer reply answered ready holds =
      let record_is : HoldsRecord pool prepared (event_encoding event) = subst (λ (l : List ℕ). HoldsRecord pool prepared l) is holds in
      let there : RecordFits s.end (length (event_encoding event)) = subst (λ (l : List ℕ). RecordFits s.end (length l)) is fits in
      subst (λ (d : plain.Decision). IsPrepared pool s d answer) (sym decided) (record {
        reply = reply;
        answered = answered;
        ready = (record { prepared = prepared; is = ready; holds = record_is }, could, there);
      })
