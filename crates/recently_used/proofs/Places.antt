-- No more flags of a list are set than there are numbers, where each place of one is among these.
use Rattle.std.proofs.Common.{◌≡◌, ◌≢◌, ◌⊎◌, ⊎_elim, ℕ, zero, suc, ◌+◌, ◌≤◌, Bool, true, false, cond, List, [], ◌∷◌, refl, sym, ap, arith}
use Rattle.std.specs.Prelude.{count_by}
use Rattle.std.specs.List.{Contains}
use Rattle.std.proofs.Math.ListN.{set, get_or}
use Rattle.std.proofs.lemmas.List.Elements.{Contains-append_cases}
use Rattle.std.proofs.lemmas.List.Sums.{sum_by-cons}
use Rattle.recently_used.specs.Recent.{NoMorePlaces}
use Rattle.recently_used.proofs.Used.{one}

abbrev set_in : List Bool → ℕ
set_in flags = count_by (λ flag. flag) flags

first : (flag : Bool) (flags : List Bool) → set_in (flag ∷ flags) ≡ cond flag 1 0 + set_in flags
first flag flags = sum_by-cons (λ flag. cond flag 1 0) flag flags

none_set : (flags : List Bool) → ((at : ℕ) → get_or flags at false ≡ true → ⊥) → set_in flags ≡ 0
none_set [] none = refl
none_set (true ∷ flags) none = absurd (none 0 refl)
none_set (false ∷ flags) none = let rest = none_set flags (λ at. none (suc at))
    in let same : set_in (false ∷ flags) ≡ 0 + set_in flags = first false flags in omega (arith, same, rest)

first_goes : (m n k : ℕ) → m ≡ 1 + n → k ≡ 0 + n → m ≤ k + 1
first_goes m n k before after = omega (arith, before, after)

none_goes : (m n k : ℕ) → m ≡ 0 + n → k ≡ 0 + n → m ≤ k + 1
none_goes m n k before after = omega (arith, before, after)

later_goes : (a m n j k : ℕ) → j ≡ a + m → k ≡ a + n → m ≤ n + 1 → j ≤ k + 1
later_goes a m n j k before after le = omega (arith, before, after, le)

less_one : (flags : List Bool) (i : ℕ) → set_in flags ≤ set_in (set flags i false) + 1
less_one [] i = omega arith
less_one (true ∷ flags) zero = first_goes (set_in (true ∷ flags)) (set_in flags) (set_in (false ∷ flags)) (first true flags) (first false flags)
less_one (false ∷ flags) zero = none_goes (set_in (false ∷ flags)) (set_in flags) (set_in (false ∷ flags)) (first false flags) (first false flags)
less_one (flag ∷ flags) (suc i) =
    later_goes (cond flag 1 0) (set_in flags) (set_in (set flags i false)) (set_in (flag ∷ flags)) (set_in (flag ∷ set flags i false))
    (first flag flags) (first flag (set flags i false)) (less_one flags i)

others : (flags : List Bool) (i at : ℕ) → get_or (set flags i false) at false ≡ true → (at ≢ i) × (get_or flags at false ≡ true)
others [] i at is = let clash : false ≡ true = is in absurd cc
others (flag ∷ flags) zero zero is = absurd cc
others (flag ∷ flags) zero (suc at) is = (λ same. omega (arith, same), is)
others (flag ∷ flags) (suc i) zero is = (λ same. omega (arith, same), is)
others (flag ∷ flags) (suc i) (suc at) is = let other = others flags i at is in (λ same. other.0 (omega (arith, same)), other.1)

pub no_more : NoMorePlaces
no_more [] flags all = let none = none_set flags (λ at is. let has = all at is in omega (arith, has.1)) in omega (arith, none)
no_more (n ∷ numbers) flags all =
    let rest = no_more numbers (set flags n false) (λ at is. left at (others flags n at is)) in
    omega (arith, rest, less_one flags n)
  where
    left : (at : ℕ) → (at ≢ n) × (get_or flags at false ≡ true) → Contains numbers at
    left at other = ⊎_elim (λ here. absurd (other.0 (sym (one n at here)))) (λ there. there) (Contains-append_cases (n ∷ []) numbers at (all at other.1))
