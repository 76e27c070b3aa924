use Rattle.std.proofs.Common.{◌≡◌, ℕ, ◌+◌, ◌-◌, ◌<◌, ◌≤◌, List, length, take, drop, get_or, true, sym, ◌∙◌, ap, arith, inl, inr}
use Rattle.std.proofs.lemmas.Bool.{eqb-true, cases_lt}
use Rattle.std.proofs.lemmas.List.{length-take, length-drop}
use Rattle.std.specs.Bool.{◌==◌}
use Rattle.host_port.proofs.ScriptRuns.{behind}
use Rattle.host_port.proofs.lines.unread.line_feed.Goals as goal

module _ (bytes : List ℕ) (from : ℕ) (low : from ≤ length bytes) (before : (k : ℕ) → k < from → get_or bytes k 0 ≡ 10 → ⊥) where
  -- no line feed stands before a place after which none stands up to another
  none_before : (at : ℕ) → at ≤ length bytes - from → ((k : ℕ) → 0 ≤ k → k < at → (get_or (take (length bytes - from) (drop from bytes)) k 0 == 10) ≡ true → ⊥)
      → (k : ℕ) → k < from + at → get_or bytes k 0 ≡ 10 → ⊥
  none_before at within none k below feed =
      elim (cases_lt k from) [
        | inl early ↦ before k early feed
        | inr late ↦
            let here : from + (k - from) ≡ k = omega arith in
            none (k - from) (omega arith) (omega arith)
            (ap (λ (n : ℕ). n == 10) (behind bytes from (k - from) (omega arith) ∙ ap (λ (n : ℕ). get_or bytes n 0) here ∙ feed))
      ]

pub returns-in-Some-clause-found : goal.returns-in-Some-clause-found
returns-in-Some-clause-found c =
    let bytes = c.args.bytes.now in
    let from = c.args.from in
    let found = c.in-Some.ensures in
    let size : length (take (length c.args.bytes.now - c.args.from) (drop c.args.from c.args.bytes.now)) ≡ length c.args.bytes.now - c.args.from =
    omega (arith, length-take (length c.args.bytes.now - c.args.from) (drop c.args.from c.args.bytes.now), length-drop c.args.from c.args.bytes.now) in
    let below : c.in-Some.at < length c.args.bytes.now - c.args.from = omega (arith, size, found.0.high) in (
      omega (arith, below, c.requires.from),
      sym (behind bytes from c.in-Some.at below) ∙ eqb-true _ _ found.1,
      none_before bytes from c.requires.from c.requires.before c.in-Some.at (omega (arith, below)) found.0.before,
    )

pub returns-in-None-clause-none : goal.returns-in-None-clause-none
returns-in-None-clause-none c = λ k below.
    let bytes = c.args.bytes.now in
    let from = c.args.from in
    let size : length (take (length c.args.bytes.now - c.args.from) (drop c.args.from c.args.bytes.now)) ≡ length c.args.bytes.now - c.args.from =
    omega (arith, length-take (length c.args.bytes.now - c.args.from) (drop c.args.from c.args.bytes.now), length-drop c.args.from c.args.bytes.now) in
    none_before bytes from c.requires.from c.requires.before (length bytes - from) (omega arith)
    (λ j low high. c.in-None.ensures j low (omega (arith, size, high))) k (omega (arith, below, c.requires.from))
