-- What stands after a prefix, by the clause of `strip_prefix`.
use Rattle.std.proofs.Common.{◌≡◌, ◌≢◌, ◌==◌, ℕ, ◌+◌, Bool, true, false, cond, [], ◌∷◌, ◌++◌, drop, length, Option, None, Some, option_copied, Bor}
use Rattle.std.proofs.Common.{refl, sym, ap, ◌∙◌, arith}
use Rattle.std.specs.Option.{MatchOption}
use Rattle.std.specs.Str.Pattern.{FindsTextPrefix}
use Rattle.std.proofs.lemmas.Bool.{eqb-true}
use Rattle.ecore_meta.specs.Names.{Name}
use Rattle.ecore_json.specs.References.{after_prefix}

same : (p : ℕ) → (p == p) ≡ true
same p = grind arith

pub behind_append : (p t : Name) → after_prefix p (p ++ t) ≡ Some t
behind_append [] t = refl
behind_append (x ∷ p) t = ap (λ (b : Bool). cond b (after_prefix p (p ++ t)) None) (same x) ∙ behind_append p t

-- a text with nothing after the prefix does not begin with it
at_byte : (b : Bool) (x y : ℕ) (p t : Name) → (b ≡ true → x ≡ y) → ((rest : Name) → y ∷ t ≢ x ∷ (p ++ rest))
    → (((rest : Name) → t ≢ p ++ rest) → after_prefix p t ≡ None) → cond b (after_prefix p t) None ≡ None
at_byte true x y p t e never more = more (λ rest is. never rest (ap (λ z. z ∷ t) (sym (e refl)) ∙ ap (λ z. x ∷ z) is))
at_byte false x y p t e never more = refl

pub behind_none : (p t : Name) → ((rest : Name) → t ≢ p ++ rest) → after_prefix p t ≡ None
behind_none [] t never = absurd (never t refl)
behind_none (x ∷ p) [] never = refl
behind_none (x ∷ p) (y ∷ t) never = at_byte (x == y) x y p t (eqb-true x y) never (behind_none p t)

pub behind_stripped : (p t : Name) (r : Option (Bor Name))
    → MatchOption r (FindsTextPrefix p t None) (λ x. (n : ℕ) × FindsTextPrefix p t (Some n) × (x.now ≡ drop n t) × (length x.now + n ≡ length t))
    → option_copied r ≡ after_prefix p t
behind_stripped p t None h = sym (behind_none p t h)
behind_stripped p t (Some x) h = sym (ap (after_prefix p) (h.1.1 ∙ ap (λ r. p ++ r) (sym h.2)) ∙ behind_append p x.now)
