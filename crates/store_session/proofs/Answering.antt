-- How a command is answered, at each moment and at the end: it is carried out, and then its reply is printed.
use Rattle.std.proofs.Common.{◌≡◌, ℕ, List, ◌++◌, sym, ◌∙◌, ap, subst}
use Rattle.std.specs.Prelude.{IsTrue}
use Rattle.host_port.specs.Host.{Told, Disk, GoesOn, Throughout, KeepsDisk, KeepsSaid, AddsPart, disk_now, said_now}
use Rattle.host_port.proofs.Course.{carry_on, told_next, adds_none, said_kept_now, kept_now}
use Rattle.command_runs.specs.Runs.{Answer, listed}
use Rattle.command_runs.specs.Crashes.{IsStepping}
use Rattle.op_form.specs.declared.event.Event.{Event}
use Rattle.plain_repository.specs.State.{State}
use Rattle.plain_repository.specs.Store.{StandsForEvents}
use Rattle.store_session.specs.Session.{IsStoreOf, IsEntering}
use Rattle.store_session.proofs.Entering.{entering_step, say_step, say_part}

-- from a to b the command is carried out
module _ (a b : Told) (s : State) (answer : Answer Event) (course : GoesOn a b) (said : KeepsSaid a b)
    (entering : (made : List Event) → IsStoreOf (disk_now a) s made → Throughout a b (λ disk said. IsEntering made answer.event disk)) where
  pub entered_moments : (made : List Event) → IsStoreOf (disk_now a) s made → Throughout a b (IsStepping StandsForEvents made answer.event (said_now a))
  entered_moments made holds = entering_step a b s made answer.event (entering made holds) said

  -- from b to d its reply is printed
  module _ (d : Told) (now : State) (reply : List ℕ) (reply_is : reply ≡ answer.reply) (on : GoesOn b d) (disk : KeepsDisk b d)
      (part : Throughout b d (λ disk said. AddsPart (said_now b) reply said))
      (added : IsTrue a.tells → (made : List Event) → IsStoreOf (disk_now a) s made → IsStoreOf (disk_now b) now (made ++ listed answer.event)) where
    pub said_added : IsTrue a.tells → (made : List Event) → IsStoreOf (disk_now a) s made → IsStoreOf (disk_now d) now (made ++ listed answer.event)
    said_added told made holds =
        subst (λ (x : Disk). IsStoreOf x now (made ++ listed answer.event)) (sym (kept_now b d on disk (told_next a b course told)))
        (added told made holds)

    pub said_moments : (made : List Event) → IsStoreOf (disk_now a) s made → Throughout a d (IsStepping StandsForEvents made answer.event (said_now a))
    said_moments made holds told = carry_on a b d (IsStepping StandsForEvents made answer.event (said_now a)) course on (entered_moments made holds)
        (say_step b d now made answer.event (said_now a) (added told made holds) disk) told

    pub said_part : Throughout a d (λ disk said. AddsPart (said_now a) answer.reply said)
    said_part told = carry_on a b d (λ disk said. AddsPart (said_now a) answer.reply said) course on (adds_none a b answer.reply said)
        (say_part b d (said_now a) reply answer.reply reply_is (λ told_b. said_kept_now a b course said told) part) told

    pub said_whole : (IsTrue b.tells → said_now d ≡ said_now b ++ reply) → IsTrue a.tells → said_now d ≡ said_now a ++ answer.reply
    said_whole whole told =
        whole (told_next a b course told) ∙ ap (λ (l : List ℕ). l ++ reply) (said_kept_now a b course said told)
        ∙ ap (λ (l : List ℕ). said_now a ++ l) reply_is
