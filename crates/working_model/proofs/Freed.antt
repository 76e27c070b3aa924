-- The number of an id behind the prefix that a workspace's ids have.
use Rattle.std.proofs.Common.{◌≡◌, ◌<◌, ◌≤◌, ◌^◌, ℕ, Bool, false, List, [], ◌∷◌, ◌++◌, None, Some, sym, ap, ◌∙◌, arith, append_assoc, drop, take}
use Rattle.std.proofs.Common.{get_or, length, codes, ◌+◌, ◌||◌}
use Rattle.std.specs.Prelude.{Option, IfSome}
use Rattle.std.specs.Fmt.{decimal}
use Rattle.std.specs.List.{list_any}
use Rattle.std.proofs.lemmas.List.{append_cancel_left, take_more}
use Rattle.std.proofs.lemmas.List.Folds.{list_any-append}
use Rattle.finite_maps.specs.Equal.{text_eq}
use Rattle.finite_maps.proofs.Cases.{not_so}
use Rattle.finite_maps.proofs.EqualLaws.{text_equality}
use Rattle.model_state.specs.Keys.{IdBytes}
use Rattle.edits.specs.FreshIds.{numbered}

-- none of the items up to the next
pub none_more : {A : Type 0} (p : A → Bool) (xs : List A) (i : ℕ) (x : A) → i < length xs → x ≡ get_or xs i x → list_any p (take i xs) ≡ false
    → p x ≡ false → list_any p (take (i + 1) xs) ≡ false
none_more p xs i x low is before other =
    ap (list_any p) (take_more xs i x low) ∙ list_any-append p (take i xs) (get_or xs i x ∷ []) ∙ (λ k. before k || ((ap p (sym is) ∙ other) k || false))

-- what stands behind the prefix
pub behind : (prefix text rest : IdBytes) (k : ℕ) → text ≡ prefix ++ drop k text → rest ≡ drop k text → (number : IdBytes) → text ≡ prefix ++ number
    → rest ≡ number
behind prefix text rest k split is number has = is ∙ append_cancel_left prefix (drop k text) number (sym split ∙ has)

-- another id than that of a number below
pub other_id : (prefix e : IdBytes) (number : Option ℕ) (least j : ℕ) → ((j : ℕ) → j < 2 ^ 64 → e ≡ prefix ++ decimal j → number ≡ Some j)
    → IfSome number (λ n. least ≤ n) → j < 2 ^ 64 → j < least → text_eq (prefix ++ decimal j) e ≡ false
other_id prefix e number least j tells under small low =
    not_so (text_eq (prefix ++ decimal j) e) (λ same. too_low number (tells j small (sym (text_equality.exact (prefix ++ decimal j) e same))) under)
  where
    too_low : (o : Option ℕ) → o ≡ Some j → IfSome o (λ n. least ≤ n) → ⊥
    too_low None is under = cc
    too_low (Some n) is under =
        let same : n ≡ j = cc in
        omega (arith, same, under, low)

-- the id of a number is the prefix and the number
pub prefixed : (ws j : ℕ) (prefix : IdBytes) → prefix ≡ codes "w" ++ (decimal ws ++ codes "n") → numbered ws j ≡ prefix ++ decimal j
unfolding numbered
prefixed ws j prefix is =
    sym (ap (λ p. p ++ decimal j) is ∙ append_assoc (codes "w") (decimal ws ++ codes "n") (decimal j)
    ∙ ap (λ t. codes "w" ++ t) (append_assoc (decimal ws) (codes "n") (decimal j)))
