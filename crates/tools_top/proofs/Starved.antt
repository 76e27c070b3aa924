-- A run that has no memory for what its words ask for: no call of the host was made.
use Rattle.std.proofs.Common.{◌≡◌, inl, List, refl}
use Rattle.std.specs.Prelude.{IsTrue}
use Rattle.commit_journal.specs.Journal.{IsAtMostSynced}
use Rattle.host_port.specs.Host.{Told, MayLeave, Throughout, AddsPart, disk_now, said_now}
use Rattle.host_port.proofs.Course.{adds_none, course_still, still_disk, still_said, still_input}
use Rattle.command_runs.specs.Runs.{replies, events, events_due}
use Rattle.command_runs.specs.Crashes.{IsOpenedRunning}
use Rattle.op_form.specs.declared.event.Event.{Event}
use Rattle.plain_repository.specs.State.{empty}
use Rattle.plain_repository.specs.Store.{StandsForEvents}
use Rattle.store_session.specs.Opening.{IsMounting}
use Rattle.store_session.specs.Endings.{IsHalted, IsKept}
use Rattle.store_session.specs.Tasks.{Task}
use Rattle.store_session.specs.declared.status.Status.TheVariants.{Memory}
use Rattle.store_replay.specs.Endings.{IsReplay}
use Rattle.store_replay.specs.Printing.{said_of_all}
use Rattle.store_runs.proofs.Headlines.{none_answered, opening_part, opening_moments, stopped}

pub at_most_synced : (entry : Told) → Throughout entry entry (λ disk said. IsAtMostSynced (disk_now entry) disk)
at_most_synced entry told t low high = inl (still_disk entry told t low high)

pub starved_replay : (entry : Told) → IsReplay entry entry Memory
starved_replay entry = record {
  ends = λ told. tt;
  part = λ events stood. adds_none entry entry (said_of_all empty events) (still_said entry);
  moments = λ told t low high. inl (still_disk entry told t low high, still_said entry told t low high);
  long = λ long. at_most_synced entry;
  cause = tt;
  input = still_input entry;
  course = course_still entry;
}

module _ (entry : Told) (first : List Event) (stood : StandsForEvents (disk_now entry).now first) (task : Task) where
  mounting : Throughout entry entry (λ disk said. IsMounting (disk_now entry) disk)
  mounting told t low high = inl (still_disk entry told t low high)

  pub starved : IsHalted task first entry entry
  starved = none_answered task first entry entry (record { said = refl; input = still_input entry; stands = stood })

  pub starved_part : Throughout entry entry (λ disk said. AddsPart (said_now entry) (replies task.answers) said)
  starved_part = opening_part entry entry (course_still entry) (still_said entry) mounting first stood task

  pub starved_moments : Throughout entry entry
      (IsOpenedRunning (disk_now entry) StandsForEvents first (events task.answers) (events_due task.answers) (said_now entry))
  starved_moments = opening_moments entry entry (course_still entry) (still_said entry) mounting first stood task

  pub starved_kept : MayLeave (disk_now entry) (disk_now entry).now → IsTrue entry.tells → IsKept task first entry entry
  starved_kept left told = stopped entry entry first task (course_still entry) starved_moments stood left told
