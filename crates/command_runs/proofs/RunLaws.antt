-- Answers one after the other.
use Rattle.std.proofs.Common.{◌≡◌, ℕ, ◌+◌, ◌-◌, ◌≤◌, List, [], ◌∷◌, ◌++◌, Bool, false, true, ◌||◌, length, refl, sym, ◌∙◌, ap, append_assoc}
use Rattle.std.proofs.Common.{length-append, arith, inl, inr}
use Rattle.std.proofs.lemmas.List.{append-nil}
use Rattle.std.proofs.lemmas.Bool.{cases_eq}
use Rattle.std.proofs.lemmas.Bool.Decides.{nat_tests}
use Rattle.command_runs.specs.Runs.{Answer, listed, played, replies, events, events_due}

pub or_assoc : (a b c : Bool) → ((a || b) || c) ≡ (a || (b || c))
or_assoc true b c = refl
or_assoc false b c = refl

pub or_false : (b : Bool) → (b || false) ≡ b
or_false true = refl
or_false false = refl

pub played-append : {S E : Type 0} (play : S → E → S) (s : S) (xs ys : List E) → played play s (xs ++ ys) ≡ played play (played play s xs) ys
played-append play s [] ys = refl
played-append play s (x ∷ xs) ys = played-append play (play s x) xs ys

module _ {E : Type 0} where
  pub replies-append : (xs ys : List (Answer E)) → replies (xs ++ ys) ≡ replies xs ++ replies ys
  replies-append [] ys = refl
  replies-append (x ∷ xs) ys = ap (λ (l : List ℕ). x.reply ++ l) (replies-append xs ys) ∙ sym (append_assoc x.reply (replies xs) (replies ys))

  pub events-append : (xs ys : List (Answer E)) → events (xs ++ ys) ≡ events xs ++ events ys
  events-append [] ys = refl
  events-append (x ∷ xs) ys = ap (λ (l : List E). listed x.event ++ l) (events-append xs ys) ∙ sym (append_assoc (listed x.event) (events xs) (events ys))

  -- no more events must be kept than those of the answers whose replies reach so far
  pub events_due-within : (xs ys : List (Answer E)) (n : ℕ) → n ≤ length (replies xs) → events_due (xs ++ ys) n ≤ length (events xs)
  events_due-within [] [] n within = omega arith
  events_due-within [] (y ∷ ys) n within =
      let none : n ≡ 0 = omega arith in
      let zero_is : events_due (y ∷ ys) n ≡ 0 = grind (arith, nat_tests) in
      omega (arith, zero_is)
  events_due-within (x ∷ xs) ys n within = elim (cases_eq n 0) [
    | inl none ↦
        let zero_is : events_due (x ∷ xs ++ ys) n ≡ 0 = grind (arith, nat_tests) in
        omega (arith, zero_is)
    | inr some ↦
        let more_is : events_due (x ∷ xs ++ ys) n ≡ length (listed x.event) + events_due (xs ++ ys) (n - length x.reply) = grind (arith, nat_tests) in
        let rest : n - length x.reply ≤ length (replies xs) = omega (arith, within, length-append x.reply (replies xs)) in
        omega (arith, more_is, events_due-within xs ys (n - length x.reply) rest, length-append (listed x.event) (events xs))
  ]

  -- one answer more
  pub replies-more : (xs : List (Answer E)) (x : Answer E) → replies (xs ++ x ∷ []) ≡ replies xs ++ x.reply
  replies-more xs x = replies-append xs (x ∷ []) ∙ ap (λ (l : List ℕ). replies xs ++ l) (append-nil x.reply)

  pub events-more : (xs : List (Answer E)) (x : Answer E) → events (xs ++ x ∷ []) ≡ events xs ++ listed x.event
  events-more xs x = events-append xs (x ∷ []) ∙ ap (λ (l : List E). events xs ++ l) (append-nil (listed x.event))
