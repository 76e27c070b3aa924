-- Tests of equality: of ids, of features and of both.
use Rattle.std.proofs.Common.{◌≡◌, ℕ, Bool, true, false, ◌&&◌, nat_eq, refl, sym, ap, subst}
use Rattle.std.specs.Ordering.{eq_by_cmp, nat_cmp}
use Rattle.std.specs.BTreeMap.{is_at}
use Rattle.finite_maps.specs.Equal.{text_eq}
use Rattle.finite_maps.proofs.EqualLaws.{text_equality, nat_equality, and_first, and_second, and_both}
use Rattle.finite_maps.proofs.MapLaws.{same_key, own_key}
use Rattle.model_state.specs.Keys.{IdBytes, AttrKey, id_cmp, attr_cmp}
use Rattle.model_state.proofs.Orders.{id_order, nat_order, attr_order}

-- tests that pass together are equal
pub both_ways : (a b : Bool) → (a ≡ true → b ≡ true) → (b ≡ true → a ≡ true) → a ≡ b
both_ways true b there back = sym (there refl)
both_ways false true there back = back refl
both_ways false false there back = refl

pub text_at : (a e : IdBytes) → text_eq a e ≡ is_at (id_cmp a) e
text_at a e = both_ways (text_eq a e) (is_at (id_cmp a) e)
    (λ is. subst (λ x. is_at (id_cmp a) x ≡ true) (text_equality.exact a e is) (own_key id_order a))
    (λ is. subst (λ x. text_eq a x ≡ true) (same_key id_order a e is) (text_equality.own a))

pub nat_at : (f g : ℕ) → nat_eq f g ≡ is_at (nat_cmp f) g
nat_at f g = both_ways (nat_eq f g) (is_at (nat_cmp f) g)
    (λ is. subst (λ x. is_at (nat_cmp f) x ≡ true) (nat_equality.exact f g is) (own_key nat_order f))
    (λ is. subst (λ x. nat_eq f x ≡ true) (same_key nat_order f g is) (nat_equality.own f))

pub pair_at : (a e : IdBytes) (g f : ℕ) → eq_by_cmp attr_cmp (e, f) (a, g) ≡ (text_eq a e && nat_eq g f)
pair_at a e g f = both_ways (eq_by_cmp attr_cmp (e, f) (a, g)) (text_eq a e && nat_eq g f)
    (λ is. let same : ◌≡◌ {A = AttrKey} (e, f) (a, g) = same_key attr_order (e, f) (a, g) is in
    and_both _ _ (subst (λ x. text_eq a x ≡ true) (sym (ap (λ (k : AttrKey). k.0) same)) (text_equality.own a))
    (subst (λ x. nat_eq g x ≡ true) (sym (ap (λ (k : AttrKey). k.1) same)) (nat_equality.own g)))
    (λ is. let here : a ≡ e = text_equality.exact a e (and_first _ _ is) in
    let there : g ≡ f = nat_equality.exact g f (and_second _ _ is) in
    subst (λ (x : AttrKey). eq_by_cmp attr_cmp (e, f) x ≡ true) (λ i. (sym here i, sym there i)) (own_key attr_order (e, f)))
