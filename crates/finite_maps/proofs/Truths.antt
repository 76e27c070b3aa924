-- What a test that holds says: of two tests, of an order, and of a key below all entries.
use Rattle.std.proofs.Common.{◌≡◌, Bool, true, false, cond, List, [], ◌∷◌, refl, ap, ◌∙◌, ◌&&◌}
use Rattle.std.specs.Prelude.{None, Some, T}
use Rattle.std.specs.declared.cmp.Ordering.{Ordering}
use Rattle.std.specs.declared.cmp.Ordering.TheVariants.{Less, Equal, Greater}
use Rattle.std.specs.Ordering.{is_eq, is_lt}
use Rattle.std.specs.FinMap.{find}
use Rattle.std.specs.FinMap.Entries.{below_all}

pub first : (a b : Bool) → T (a && b) → T a
first true b p = tt
first false b p = p

pub second : (a b : Bool) → T (a && b) → T b
second true b p = p
second false b p = absurd p

pub both : (a b : Bool) → T a → T b → T (a && b)
both true b p q = q
both false b p q = p

pub is_less : (o : Ordering) → T (is_lt o) → o ≡ Less
is_less Less p = refl
is_less Equal p = absurd p
is_less Greater p = absurd p

pub find_below : {K X : Type 0} (R : K → K → Ordering) (q : K) (es : List (K × X)) → T (below_all R q es) → find R q es ≡ None
find_below R q [] h = refl
find_below R q (e ∷ es) h =
    ap (λ r. cond (is_eq r) (Some e.1) (find R q es)) (is_less (R q e.0) (first _ _ h)) ∙ find_below R q es (second _ _ h)
