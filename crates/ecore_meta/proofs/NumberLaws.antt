-- Tests of numbers, and of either of two.
use Rattle.std.proofs.Common.{◌≡◌, ℕ, Bool, true, false, ◌||◌, nat_eq, refl, rules, sym}

pub nat_same : (m n : ℕ) → nat_eq m n ≡ true → m ≡ n
nat_same m n h = search rules

pub nat_itself : (n : ℕ) → nat_eq n n ≡ true
nat_itself n = search rules

pub or_split : {P : Type 0} (a b : Bool) → a || b ≡ true → (a ≡ true → P) → (b ≡ true → P) → P
or_split true b h f g = f refl
or_split false b h f g = g h

-- two tests that hold alike are one
pub same_bool : (a b : Bool) → (a ≡ true → b ≡ true) → (b ≡ true → a ≡ true) → a ≡ b
same_bool true b f g = sym (f refl)
same_bool false true f g = g refl
same_bool false false f g = refl
