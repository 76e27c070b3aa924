use Rattle.std.proofs.Common.{◌≡◌, ◌+◌, length, ap, refl, arith}
use Rattle.std.proofs.lemmas.Grind.{common_steps}
use Rattle.page_pool.specs.Frames.{Frames, free_of, out_of}
use Rattle.page_pool.proofs.Slots.{counted}
use Rattle.page_pool.proofs.pool.Pool.reserve.Goals as goal

-- each frame is out or free, and as many are out as the pool shows
all_counted : {frames shown : Frames} → frames ≡ shown → (out_of frames + free_of frames ≡ length frames) × (out_of frames ≡ out_of shown)
all_counted {frames} is = (counted frames, ap (λ (l : Frames). out_of l) is)

pub lengthen-requires-clause-few : goal.lengthen-requires-clause-few
lengthen-requires-clause-few c = let n = all_counted c.self.view_is in omega (arith, n.0, n.1, c.self.invariant.count)

pub lengthen-requires-clause-free : goal.lengthen-requires-clause-free
lengthen-requires-clause-free c =
    let n = all_counted c.self.view_is in grind (arith, common_steps, n.0, n.1, c.self.invariant.count)

pub returns-then-wanted-out-clause-full : goal.returns-then-wanted-out-clause-full
returns-then-wanted-out-clause-full c = (
  λ _. let n = all_counted c.self.view_is in omega (arith, n.0, n.1, c.self.invariant.count),
  λ _. refl,
)

pub returns-then-wanted-free-clause-full : goal.returns-then-wanted-free-clause-full
returns-then-wanted-free-clause-full c =
    let n = all_counted c.self.view_is in
    (λ is. absurd (cc), λ h. absurd (omega (arith, n.0, n.1, h, c.self.invariant.count)))

pub returns-clause-full : goal.returns-clause-full
returns-clause-full c =
    let n = all_counted c.self.view_is in
    (λ is. absurd (cc), λ h. absurd (omega (arith, n.0, n.1, h, c.self.invariant.count)))

pub returns-then-is_err-clause-full : goal.returns-then-is_err-clause-full
returns-then-is_err-clause-full c =
    let n = all_counted c.self.view_is in
    (λ is. absurd (cc), λ h. absurd (omega (arith, n.0, n.1, h, c.self.invariant.count)))

pub returns-then-is_err-2-clause-full : goal.returns-then-is_err-2-clause-full
returns-then-is_err-2-clause-full c =
    let n = all_counted c.self.view_is in
    (λ is. absurd (cc), λ h. absurd (omega (arith, n.0, n.1, h, c.self.invariant.count)))
