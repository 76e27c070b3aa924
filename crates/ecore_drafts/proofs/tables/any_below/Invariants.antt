use Rattle.std.proofs.Common.{◌≡◌, false, take, map}
use Rattle.std.specs.List.{list_any}
use Rattle.ecore_meta.specs.Meta.{is_in}
use Rattle.ecore_drafts.proofs.tables.any_below.Given as goal

abbrev pub invariant-loop-up : goal.invariant-loop-up
invariant-loop-up l = list_any (λ b. is_in (map (λ s. s.keys) l.above) b l.class) (take l.up-index l.ups) ≡ false
