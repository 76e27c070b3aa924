-- the pairs so far, and those that are left
use Rattle.std.proofs.Common.{◌≡◌, ℕ, ◌<◌, ◌++◌, List, drop, get_or, length}
use Rattle.ecore_meta.specs.Meta.{Meta}
use Rattle.model_state.specs.declared.operation.Operation.{Operation}
use Rattle.footprint.specs.Prints.{shown, printed}
use Rattle.footprint.specs.declared.cell.Print.{Print}
use Rattle.merge_laws.specs.Pairs.{pairs_with}
use Rattle.conflict_buckets.proofs.pairing.put_pairs.Given as goal

abbrev pub invariant-loop-k : goal.invariant-loop-k
invariant-loop-k l = (meta : Meta) (left : List Print) (ts ms : List Operation) (a : Operation) (rest : List (ℕ × ℕ)) → l.i < length left
    → l.print ≡ get_or left l.i l.print → shown left ≡ printed meta ts → shown l.right ≡ printed meta ms → a ≡ get_or ts l.i a
    → l.found ++ (pairs_with meta l.i a l.k (drop l.k ms) ++ rest) ≡ l.fn.found ++ (pairs_with meta l.i a 0 ms ++ rest)
