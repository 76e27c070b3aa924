use Rattle.std.proofs.Common.{◌≡◌, length, ◌++◌}
use Rattle.std.specs.String.{string_bytes}
use Rattle.emfjson_text.specs.Frames.{stack_text}
use Rattle.model_texts.specs.Laws.{IsNested}
use Rattle.model_texts.specs.Tree.{text}
use Rattle.emfjson_text.proofs.write.write_model.Given as goal

abbrev pub invariant-loop-frame : goal.invariant-loop-frame
invariant-loop-frame g l =
    let m = g.L.Look.state l.look in
    record {
      nested : IsNested l.meta m;
      all : string_bytes l.writer.out ++ stack_text l.meta m l.writer.begun.items ≡ text l.meta m;
    }

abbrev pub decreases-loop-frame : goal.decreases-loop-frame
decreases-loop-frame g l = length (stack_text l.meta (g.L.Look.state l.look) l.writer.begun.items)
