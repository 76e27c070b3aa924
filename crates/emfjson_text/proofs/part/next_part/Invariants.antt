use Rattle.std.proofs.Common.{◌≡◌}
use Rattle.emfjson_text.specs.Frames.{members_from}
use Rattle.emfjson_text.proofs.part.next_part.Given as goal

abbrev pub invariant-loop-at : goal.invariant-loop-at
invariant-loop-at g l =
    let m = g.L.Look.state l.look in
    record {
      keys : l.keys ≡ l.object.keys;
      same : members_from l.meta m l.object.id l.object.class l.object.keys l.object.next ≡ members_from l.meta m l.object.id l.object.class l.object.keys l.at;
    }
