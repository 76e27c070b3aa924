use Rattle.std.proofs.Common.{◌≡◌, ◌∙◌, ◌&&◌, ℕ, zero, suc, ◌+◌, ◌≤◌, Bool, true, false, List, [], ◌∷◌, ap, arith, cond, drop, length, refl, sym}
use Rattle.std.specs.Prelude.{None, Some}
use Rattle.std.specs.List.{after_first, before_first, position_or_len}
use Rattle.ecore_json.specs.References.{if_names, is_name, is_slash, two_names}
use Rattle.ecore_json.proofs.reference.two_names.Goals as goal

past_end : (k : ℕ) (xs : List ℕ) → length xs ≤ k → drop k xs ≡ []
past_end zero [] h = refl
past_end zero (x ∷ xs) h = absurd (omega arith)
past_end (suc k) [] h = refl
past_end (suc k) (x ∷ xs) h = past_end k xs (omega arith)

not_both : (b : Bool) → b && false ≡ false
not_both true = refl
not_both false = refl

-- a text without a slash holds no two names
whole : (t : List ℕ) → position_or_len is_slash t ≡ length t → None ≡ two_names t
whole t h =
    sym (ap (λ b. cond b (Some (before_first is_slash t, after_first is_slash t)) None)
    (ap (λ a. is_name (before_first is_slash t) && is_name a) (past_end (position_or_len is_slash t + 1) t (omega (arith, h)))
    ∙ not_both (is_name (before_first is_slash t))))

pub returns-in-None : goal.returns-in-None
returns-in-None c = whole c.args.text.now (c.in-None.ensures.byte (omega arith) (λ w o h. h))

pub returns-in-Some : goal.returns-in-Some
returns-in-Some c =
    let cut = c.in-Some.ensures.byte (omega arith) (λ w o h. h) in
    c.if_names.ensures ∙ ap (λ a. if_names a c.in-Some.feature.now) cut.0 ∙ ap (if_names (before_first is_slash c.args.text.now)) cut.1
