-- Goals after a call whose result is only passed on.
use Rattle.std.proofs.Common.{◌≡◌}
use Rattle.std.specs.Prelude.{Result, Ok, Err, OnOk, OnErr, Option, None, Some, IsSome}

-- by cases on the result
pub by_result : {T E A B : Type 0} (P : Type 0) (r : Result T E) → OnOk r A → OnErr r B → (A → P) → (B → P) → P
by_result P (Ok x) a b f g = f a
by_result P (Err x) a b f g = g b

-- what is there isn't missing
pub none_some : {A : Type 0} (o : Option A) → IsSome o → o ≡ None → ⊥
none_some None h is = cc
none_some (Some x) h is = cc

pub on_ok : {T E : Type 0} {A B : Type 0} (r : Result T E) → OnOk r A → (A → B) → OnOk r B
on_ok (Ok x) a f = f a
on_ok (Err x) a f = tt

pub on_err : {T E : Type 0} {A B : Type 0} (r : Result T E) → OnErr r A → (A → B) → OnErr r B
on_err (Ok x) a f = tt
on_err (Err x) a f = f a
