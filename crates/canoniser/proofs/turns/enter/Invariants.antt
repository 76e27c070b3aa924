-- an operation stands at the position to which alone a rule may apply
use Rattle.std.proofs.Common.{◌≡◌, ◌+◌, length}
use Rattle.footprint.specs.Prints.{shown, printed}
use Rattle.cell_index.specs.Standing.{ListsStanding}
use Rattle.canoniser.specs.Meetings.{standing_of, Ready, Leads}
use Rattle.canoniser.proofs.turns.enter.Given as goal

abbrev pub invariant-loop-place : goal.invariant-loop-place
invariant-loop-place l = record {
  keeps : ListsStanding l.standing l.prints;
  printed : shown l.prints ≡ printed l.meta l.list.items;
  ready : Ready l.meta l.standing.stands.items l.list.items l.at;
  leads : Leads l.meta (standing_of l.fn.standing.stands.items l.fn.list.items) (standing_of l.standing.stands.items l.list.items);
  many : length l.standing.stands.items ≡ length l.fn.standing.stands.items + 1;
  size : length l.list.items ≡ length l.fn.list.items;
}

abbrev pub decreases-loop-place : goal.decreases-loop-place
decreases-loop-place l = l.at
