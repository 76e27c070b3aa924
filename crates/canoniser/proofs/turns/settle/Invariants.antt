-- no rule applies to those that came
use Rattle.std.proofs.Common.{◌≡◌, length}
use Rattle.footprint.specs.Prints.{shown, printed}
use Rattle.cell_index.specs.Standing.{ListsStanding}
use Rattle.canoniser.specs.Meetings.{standing_of, Calm, Leads}
use Rattle.canoniser.proofs.turns.settle.Given as goal

abbrev pub invariant-loop : goal.invariant-loop
invariant-loop l = record {
  keeps : ListsStanding l.standing l.prints;
  printed : shown l.prints ≡ printed l.meta l.list.items;
  calm : Calm l.meta l.standing.stands.items l.list.items;
  leads : Leads l.meta l.fn.list.items (standing_of l.standing.stands.items l.list.items);
  many : length l.standing.stands.items ≡ l.counter;
  size : length l.list.items ≡ length l.fn.list.items;
}
