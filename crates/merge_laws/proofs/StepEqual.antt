-- The test of equal steps is exact.
use Rattle.std.proofs.Common.{◌≡◌, Bool, true, subst, ◌&&◌, nat_eq}
use Rattle.finite_maps.specs.Equal.{option_eq, list_eq, text_eq}
use Rattle.finite_maps.proofs.EqualLaws.{IsEquality, and_first, and_second, and_both, nat_equality, text_equality, option_equality, list_equality}
use Rattle.model_state.specs.declared.step.Step.{Step}
use Rattle.model_state.specs.declared.step.Step.TheVariants.{Put, Ins, Del, Shift, Link, Unlink, RerankRow, New, Gone, Move, RerankPlace}
use Rattle.model_state.specs.Typing.{value_eq}
use Rattle.model_state.specs.State.{place_eq}
use Rattle.model_state.proofs.StepTests.{value_equality, place_equality, number_equality}
use Rattle.merge_laws.specs.Joins.{step_eq}
use Rattle.merge_laws.specs.PairLaws.{StepTestIsExact}

pub both : (a b : Bool) → a && b ≡ true → (a ≡ true) × (b ≡ true)
both a b h = (and_first a b h, and_second a b h)

pub set_value_equality : IsEquality (option_eq value_eq)
set_value_equality = option_equality value_eq value_equality

names_equality : IsEquality (list_eq text_eq)
names_equality = list_equality text_eq text_equality

four : {A B C D : Type 0} (p : A → A → Bool) (q : B → B → Bool) (r : C → C → Bool) (s : D → D → Bool) → IsEquality p → IsEquality q → IsEquality r
    → IsEquality s → (a a' : A) (b b' : B) (c c' : C) (d d' : D) → p a a' && (q b b' && (r c c' && s d d')) ≡ true
    → (a ≡ a') × (b ≡ b') × (c ≡ c') × (d ≡ d')
four p q r s ep eq er es a a' b b' c c' d d' h =
    let x = both (p a a') (q b b' && (r c c' && s d d')) h in
    let y = both (q b b') (r c c' && s d d') x.1 in
    let z = both (r c c') (s d d') y.1 in
    (ep.exact a a' x.0, eq.exact b b' y.0, er.exact c c' z.0, es.exact d d' z.1)

step_exact : (s t : Step) → step_eq s t ≡ true → s ≡ t
step_exact (Put e f old new) (Put e' f' old' new') h = let r =
    four text_eq nat_eq (option_eq value_eq)
    (option_eq value_eq) text_equality nat_equality set_value_equality set_value_equality e e' f f' old old' new new' h
    in λ i. Put (r.0 i) (r.1 i) (r.2 i) (r.3 i)
step_exact (Ins e f at v) (Ins e' f' at' v') h = let r =
    four text_eq nat_eq nat_eq value_eq text_equality nat_equality nat_equality value_equality e e' f f' at at' v v' h
    in λ i. Ins (r.0 i) (r.1 i) (r.2 i) (r.3 i)
step_exact (Del e f at v) (Del e' f' at' v') h = let r =
    four text_eq nat_eq nat_eq value_eq text_equality nat_equality nat_equality value_equality e e' f f' at at' v v' h
    in λ i. Del (r.0 i) (r.1 i) (r.2 i) (r.3 i)
step_exact (Shift e f from to) (Shift e' f' from' to') h = let r =
    four text_eq nat_eq nat_eq nat_eq text_equality nat_equality nat_equality nat_equality e e' f f' from from' to to' h
    in λ i. Shift (r.0 i) (r.1 i) (r.2 i) (r.3 i)
step_exact (Link a f ra b rb) (Link a' f' ra' b' rb') h =
    let x = both (text_eq a a') _ h in
    let r = four nat_eq nat_eq text_eq (option_eq nat_eq) nat_equality nat_equality text_equality number_equality f f' ra ra' b b' rb rb' x.1 in
    let p = text_equality.exact a a' x.0 in
    λ i. Link (p i) (r.0 i) (r.1 i) (r.2 i) (r.3 i)
step_exact (Unlink a f ra b rb) (Unlink a' f' ra' b' rb') h =
    let x = both (text_eq a a') _ h in
    let r = four nat_eq nat_eq text_eq (option_eq nat_eq) nat_equality nat_equality text_equality number_equality f f' ra ra' b b' rb rb' x.1 in
    let p = text_equality.exact a a' x.0 in
    λ i. Unlink (p i) (r.0 i) (r.1 i) (r.2 i) (r.3 i)
step_exact (RerankRow a f b old new) (RerankRow a' f' b' old' new') h =
    let x = both (text_eq a a') _ h in
    let r = four nat_eq text_eq nat_eq nat_eq nat_equality text_equality nat_equality nat_equality f f' b b' old old' new new' x.1 in
    let p = text_equality.exact a a' x.0 in
    λ i. RerankRow (p i) (r.0 i) (r.1 i) (r.2 i) (r.3 i)
step_exact (New e class place rank) (New e' class' place' rank') h = let r =
    four text_eq nat_eq place_eq nat_eq text_equality nat_equality place_equality nat_equality e e' class class' place place' rank rank' h
    in λ i. New (r.0 i) (r.1 i) (r.2 i) (r.3 i)
step_exact (Gone e class place rank) (Gone e' class' place' rank') h = let r =
    four text_eq nat_eq place_eq nat_eq text_equality nat_equality place_equality nat_equality e e' class class' place place' rank rank' h
    in λ i. Gone (r.0 i) (r.1 i) (r.2 i) (r.3 i)
step_exact (Move e from fr to tr xs ys) (Move e' from' fr' to' tr' xs' ys') h =
    let x = both (text_eq e e') _ h in
    let y = both (place_eq from from') _ x.1 in
    let z = both (nat_eq fr fr') _ y.1 in
    let r = four place_eq nat_eq (list_eq text_eq)
    (list_eq text_eq) place_equality nat_equality names_equality names_equality to to' tr tr' xs xs' ys ys' z.1 in
    let p = text_equality.exact e e' x.0 in
    let q = place_equality.exact from from' y.0 in
    let k = nat_equality.exact fr fr' z.0 in
    λ i. Move (p i) (q i) (k i) (r.0 i) (r.1 i) (r.2 i) (r.3 i)
step_exact (RerankPlace e old new) (RerankPlace e' old' new') h =
    let x = both (text_eq e e') _ h in
    let y = both (nat_eq old old') _ x.1 in
    let p = text_equality.exact e e' x.0 in
    let q = nat_equality.exact old old' y.0 in
    let r = nat_equality.exact new new' y.1 in
    λ i. RerankPlace (p i) (q i) (r i)
step_exact s t h = cc

step_own : (s : Step) → step_eq s s ≡ true
step_own (Put e f old new) =
    and_both _ _ (text_equality.own e) (and_both _ _ (nat_equality.own f) (and_both _ _ (set_value_equality.own old) (set_value_equality.own new)))
step_own (Ins e f at v) = and_both _ _ (text_equality.own e) (and_both _ _ (nat_equality.own f) (and_both _ _ (nat_equality.own at) (value_equality.own v)))
step_own (Del e f at v) = and_both _ _ (text_equality.own e) (and_both _ _ (nat_equality.own f) (and_both _ _ (nat_equality.own at) (value_equality.own v)))
step_own (Shift e f from to) =
    and_both _ _ (text_equality.own e) (and_both _ _ (nat_equality.own f) (and_both _ _ (nat_equality.own from) (nat_equality.own to)))
step_own (Link a f ra b rb) =
    and_both _ _ (text_equality.own a)
    (and_both _ _ (nat_equality.own f) (and_both _ _ (nat_equality.own ra) (and_both _ _ (text_equality.own b) (number_equality.own rb))))
step_own (Unlink a f ra b rb) =
    and_both _ _ (text_equality.own a)
    (and_both _ _ (nat_equality.own f) (and_both _ _ (nat_equality.own ra) (and_both _ _ (text_equality.own b) (number_equality.own rb))))
step_own (RerankRow a f b old new) =
    and_both _ _ (text_equality.own a)
    (and_both _ _ (nat_equality.own f) (and_both _ _ (text_equality.own b) (and_both _ _ (nat_equality.own old) (nat_equality.own new))))
step_own (New e class place rank) =
    and_both _ _ (text_equality.own e) (and_both _ _ (nat_equality.own class) (and_both _ _ (place_equality.own place) (nat_equality.own rank)))
step_own (Gone e class place rank) =
    and_both _ _ (text_equality.own e) (and_both _ _ (nat_equality.own class) (and_both _ _ (place_equality.own place) (nat_equality.own rank)))
step_own (Move e from fr to tr xs ys) =
    and_both _ _ (text_equality.own e)
    (and_both _ _ (place_equality.own from)
    (and_both _ _ (nat_equality.own fr)
    (and_both _ _ (place_equality.own to) (and_both _ _ (nat_equality.own tr) (and_both _ _ (names_equality.own xs) (names_equality.own ys))))))
step_own (RerankPlace e old new) = and_both _ _ (text_equality.own e) (and_both _ _ (nat_equality.own old) (nat_equality.own new))

pub step_equality : IsEquality step_eq
step_equality = record { exact = step_exact; own = step_own }

pub step_test_is_exact : StepTestIsExact
step_test_is_exact s t = (step_exact s t, λ e. subst (λ x. step_eq s x ≡ true) e (step_own s))
