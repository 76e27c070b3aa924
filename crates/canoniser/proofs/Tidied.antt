-- Whether a package is tidy, by its operations and by how many are left.
use Rattle.std.proofs.Common.{◌≡◌, Bool, true, false, List, length, nat_eq, refl, sym, ◌∙◌, true≢false}
use Rattle.std.specs.List.{list_all}
use Rattle.std.proofs.lemmas.Bool.{eqb-true, eqb-false}
use Rattle.ecore_meta.specs.Meta.{Meta}
use Rattle.model_state.specs.declared.operation.Operation.{Operation}
use Rattle.merge_laws.specs.Split.{is_single}
use Rattle.merge_laws.specs.Tidy.{tidy, is_tidy}
use Rattle.merge_laws.proofs.Equal.{tidy_test_is_exact, tidy_length, tidy_single}
use Rattle.std.proofs.Common.{ap}

-- a test that can't hold doesn't
not_held : (b : Bool) → (b ≡ true → ⊥) → false ≡ b
not_held true none = absurd (none refl)
not_held false none = refl

-- an operation that isn't cut makes the package untidy
pub not_cut : (meta : Meta) (p : List Operation) → list_all is_single p ≡ false → false ≡ is_tidy meta p
not_cut meta p other = not_held (is_tidy meta p) (λ is. true≢false (sym (tidy_single meta p ((tidy_test_is_exact meta p).0 is)) ∙ other))

-- else it is tidy where none is taken away
pub as_many : (meta : Meta) (p : List Operation) → list_all is_single p ≡ true → (b : Bool) → nat_eq (length (tidy meta p)) (length p) ≡ b → b ≡ is_tidy meta p
as_many meta p single true same = sym ((tidy_test_is_exact meta p).1 (tidy_length meta p single (eqb-true (length (tidy meta p)) (length p) same)))
as_many meta p single false other =
    not_held (is_tidy meta p) (λ is. absurd (eqb-false (length (tidy meta p)) (length p) other (ap length ((tidy_test_is_exact meta p).0 is))))
