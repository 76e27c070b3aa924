-- One reply is printed after all else.
use Rattle.std.proofs.Common.{◌≡◌, ◌∙◌, ℕ, Bool, true, false, List, [], ◌∷◌, ◌++◌, None, append-nil, refl, sym, ap, subst}
use Rattle.std.specs.Prelude.{IsTrue}
use Rattle.host_port.specs.Host.{Told, GoesOn, Throughout, KeepsDisk, AddsPart, disk_now, said_now}
use Rattle.host_port.proofs.Course.{at_last, kept_now, told_next}
use Rattle.command_runs.specs.Runs.{Answer, replies, events, events_due}
use Rattle.command_runs.specs.Crashes.{IsRunning}
use Rattle.command_runs.proofs.Going.{Going, Steps, one_more, stepped_part, stepped_moments, stepped_still, answers_more}
use Rattle.command_runs.proofs.RunLaws.{events-more}
use Rattle.op_form.specs.declared.event.Event.{Event}
use Rattle.plain_repository.specs.State.{State}
use Rattle.plain_repository.specs.Store.{StandsForEvents}
use Rattle.store_session.specs.Session.{IsStoreOf}
use Rattle.store_session.proofs.Entering.{holds_stands, none_added, say_step}
use Rattle.store_session.specs.declared.status.Status.{Status}
use Rattle.store_session.specs.declared.status.Status.TheVariants.{Accepted, Refused, WriteFault}
use Rattle.store_session.specs.Endings.{Ends, IsDone, IsServed, IsUnsaid}
use Rattle.store_session.specs.Tasks.{Task, telling_one}

module _ (entry b d : Told) (made : List Event) (task : Task) (state : State) (line bytes : List ℕ) (bytes_are : bytes ≡ line) (refused : Bool)
    (going : Going StandsForEvents entry b made task.answers (telling_one line refused ∷ []) (λ events. IsStoreOf (disk_now b) state events))
    (course : GoesOn entry b) (on : GoesOn b d) (disk : KeepsDisk b d) (part : Throughout b d (λ disk said. AddsPart (said_now b) bytes said)) where
  line_part : Throughout b d (λ disk said. AddsPart (said_now b) line said)
  line_part = subst (λ (l : List ℕ). Throughout b d (λ disk said. AddsPart (said_now b) l said)) bytes_are part

  steps : Steps StandsForEvents b d (telling_one line refused) (λ events. IsStoreOf (disk_now b) state events)
  steps = record {
    course = on;
    part = line_part;
    moments = λ made holds. say_step b d state made None (said_now b) (none_added (disk_now b) state made holds) disk;
    still = λ none. disk;
  }

  printed_part : Throughout entry d (λ disk said. AddsPart (said_now entry) (replies task.answers) said)
  printed_part = stepped_part StandsForEvents entry made task.answers b d (telling_one line refused ∷ [])
      (λ events. IsStoreOf (disk_now b) state events) going course (telling_one line refused) [] refl steps

  printed_moments : Throughout entry d (IsRunning StandsForEvents made (events task.answers) (events_due task.answers) (said_now entry))
  printed_moments = stepped_moments StandsForEvents entry made task.answers b d (telling_one line refused ∷ [])
      (λ events. IsStoreOf (disk_now b) state events) going course (telling_one line refused) [] refl steps

  printed_still : events task.answers ≡ [] → KeepsDisk entry d
  printed_still = stepped_still StandsForEvents entry made task.answers b d (telling_one line refused ∷ [])
      (λ events. IsStoreOf (disk_now b) state events) going course (telling_one line refused) [] refl steps

  whole : task.answers ≡ (going.done ++ telling_one line refused ∷ []) ++ []
  whole = answers_more StandsForEvents entry made task.answers b d (telling_one line refused ∷ [])
      (λ events. IsStoreOf (disk_now b) state events) going course (telling_one line refused) [] refl steps

  stays : IsTrue b.tells → (events : List Event) → IsStoreOf (disk_now b) state events → IsStoreOf (disk_now d) state events
  stays told events holds = subst (λ x. IsStoreOf x state events) (sym (kept_now b d on disk told)) holds

  -- all of it was printed
  printed : IsTrue b.tells → said_now d ≡ said_now b ++ bytes → IsServed task made entry d
  printed told said =
      let more = one_more StandsForEvents entry made task.answers b d (telling_one line refused ∷ [])
      (λ events. IsStoreOf (disk_now b) state events) going course (telling_one line refused) [] refl steps
      (λ events. IsStoreOf (disk_now d) state events) (said ∙ ap (λ (l : List ℕ). said_now b ++ l) bytes_are)
      (λ made holds. stays told (made ++ []) (none_added (disk_now b) state made holds)) in
      let all : task.answers ≡ more.done = more.whole_is ∙ append-nil more.done in
      record {
        said = more.said ∙ ap (λ (l : List (Answer Event)). said_now entry ++ replies l) (sym all);
        stands = subst (λ (l : List (Answer Event)). StandsForEvents (disk_now d).now (made ++ events l)) (sym all)
            (holds_stands (disk_now d) state (made ++ events more.done) more.rest);
      }

  -- or a part of it
  unprinted : IsTrue b.tells → IsUnsaid task made entry d
  unprinted told = record {
    done = going.done;
    answer = telling_one line refused;
    left = [];
    whole = whole;
    said = subst (λ (l : List ℕ). AddsPart l line (said_now d)) going.said (at_last b d (λ disk said. AddsPart (said_now b) line said) on line_part told);
    stands = subst (λ (l : List Event). StandsForEvents (disk_now d).now (made ++ l))
        (sym (append-nil (events going.done)) ∙ sym (events-more going.done (telling_one line refused)))
        (holds_stands (disk_now d) state (made ++ events going.done) (stays told (made ++ events going.done) going.rest));
  }

module _ (entry b d : Told) (made : List Event) (task : Task) (state : State) (line bytes : List ℕ) (bytes_are : bytes ≡ line) (refused : Bool)
    (going : IsTrue entry.tells
    → Going StandsForEvents entry b made task.answers (telling_one line refused ∷ []) (λ events. IsStoreOf (disk_now b) state events))
    (course : GoesOn entry b) (on : GoesOn b d) (disk : KeepsDisk b d) (part : Throughout b d (λ disk said. AddsPart (said_now b) bytes said)) where
  told_b : IsTrue entry.tells → IsTrue b.tells
  told_b told = told_next entry b course told

  done : (status : Status) → (IsTrue entry.tells → Ends task made entry d status) → IsDone task made entry d status
  done status ends = record {
    ends = ends;
    part = λ told. printed_part entry b d made task state line bytes bytes_are refused (going told) course on disk part told;
    moments = λ told. printed_moments entry b d made task state line bytes bytes_are refused (going told) course on disk part told;
    still = λ none told. printed_still entry b d made task state line bytes bytes_are refused (going told) course on disk part none told;
  }

  -- that was printed, and all is done
  module _ (unread : task.reads ≡ false) (said : IsTrue b.tells → said_now d ≡ said_now b ++ bytes) where
    all_served : IsTrue entry.tells → IsServed task made entry d
    all_served told = printed entry b d made task state line bytes bytes_are refused (going told) course on disk part (told_b told) (said (told_b told))

    nothing_read : IsTrue task.reads → d.left ≡ []
    nothing_read reads = let other : false ≡ true = sym unread ∙ reads in absurd cc

    pub accepted_told : task.end ≡ Accepted → IsDone task made entry d Accepted
    accepted_told end = done Accepted (λ told. (all_served told, end, nothing_read))

    pub refused_told : task.end ≡ Refused → IsDone task made entry d Refused
    refused_told end = done Refused (λ told. (all_served told, end, nothing_read))

  -- or a part of it
  pub untold : IsDone task made entry d WriteFault
  untold = done WriteFault (λ told. unprinted entry b d made task state line bytes bytes_are refused (going told) course on disk part (told_b told))
