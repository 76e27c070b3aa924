use Rattle.std.proofs.Common.{◌≡◌, ℕ, ◌+◌, ◌-◌, ◌<◌, ◌≤◌, List, length, take, drop, get_or, true, sym, ◌∙◌, ap, arith}
use Rattle.std.proofs.lemmas.Bool.{eqb-true}
use Rattle.std.proofs.lemmas.List.{length-take, length-drop}
use Rattle.std.specs.Bool.{◌==◌}
use Rattle.host_port.proofs.ScriptRuns.{behind}
use Rattle.host_port.proofs.lines.block.next_feed.Goals as goal

-- none stands between the offset and the first behind it
none_between : (bytes : List ℕ) (from at : ℕ) → at ≤ length bytes - from
    → ((k : ℕ) → 0 ≤ k → k < at → (get_or (take (length bytes - from) (drop from bytes)) k 0 == 10) ≡ true → ⊥)
    → (k : ℕ) → from ≤ k → k < from + at → get_or bytes k 0 ≡ 10 → ⊥
none_between bytes from at within none k low below feed =
    let here : from + (k - from) ≡ k = omega arith in
    none (k - from) (omega arith) (omega arith)
    (ap (λ (n : ℕ). n == 10) (behind bytes from (k - from) (omega arith) ∙ ap (λ (n : ℕ). get_or bytes n 0) here ∙ feed))

pub returns-in-Some : goal.returns-in-Some
returns-in-Some c =
    let bytes = c.args.bytes.now in
    let from = c.args.from in
    let found = c.in-Some.ensures in
    let size : length (take (length c.args.bytes.now - c.args.from) (drop c.args.from c.args.bytes.now)) ≡ length c.args.bytes.now - c.args.from =
    omega (arith, length-take (length c.args.bytes.now - c.args.from) (drop c.args.from c.args.bytes.now), length-drop c.args.from c.args.bytes.now) in
    let below : c.in-Some.at < length c.args.bytes.now - c.args.from = omega (arith, size, found.0.high) in (
      omega arith,
      omega (arith, below, c.requires),
      sym (behind bytes from c.in-Some.at below) ∙ eqb-true _ _ found.1,
      none_between bytes from c.in-Some.at (omega (arith, below)) found.0.before,
    )
