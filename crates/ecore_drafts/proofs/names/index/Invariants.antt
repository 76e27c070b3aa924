use Rattle.std.proofs.Common.{◌≡◌, take, map, false}
use Rattle.ecore_meta.specs.Names.{Name, has_repeat, number_of, place_in}
use Rattle.ecore_drafts.proofs.names.index.Given as goal

abbrev pub invariant-loop-n : goal.invariant-loop-n
invariant-loop-n l = record {
  apart : has_repeat (map (λ x. x.now) (take l.n l.names)) ≡ false;
  told : (q : Name) → place_in l.index q ≡ number_of q (map (λ x. x.now) (take l.n l.names));
}
