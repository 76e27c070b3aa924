-- Paths of supertypes, and the bounded search that finds them.
use Rattle.std.proofs.Common.{◌≡◌, ◌↔◌, IsTrue, ℕ, zero, suc, ◌+◌, ◌<◌, ◌≤◌, Bool, true, false, List, [], ◌∷◌, ◌++◌, ◌||◌, ◌&&◌, cond, refl, sym, ap}
use Rattle.std.proofs.Common.{subst, ◌∙◌, arith, length, length-append, take, take-take, map, get_or, ◌⊎◌, inl, inr, nat_eq, rules}
use Rattle.std.specs.Prelude.{slice_get, is_some}
use Rattle.std.specs.List.{list_any, IsDistinct, AllByRecursion}
use Rattle.std.specs.Cmp.{nat_eq_equiv}
use Rattle.std.specs.List.Sorted.{IsStrictlySortedBy}
use Rattle.std.specs.Ordering.{nat_cmp}
use Rattle.std.specs.BTreeSet.{BTreeSet, contains}
use Rattle.std.specs.BTreeMap.{is_at}
use Rattle.std.proofs.lemmas.Map.Keys.{IsDistinct-cons, IsDistinct-tail, IsDistinct-push}
use Rattle.std.proofs.lemmas.Map.Steps.{length-le_from_distinct_below}
use Rattle.std.proofs.lemmas.List.{get_or-take}
use Rattle.std.proofs.Math.Seq.{take-length, take-append_seam}
use Rattle.std.proofs.lemmas.List.Folds.{list_any-append}
use Rattle.std.proofs.lemmas.Bool.{or_left, or_right}
use Rattle.ecore_meta.proofs.NumberLaws.{nat_itself, nat_same, or_split, same_bool}
use Rattle.ecore_drafts.specs.Supers.{supers_of, IsPath, Leads, within, is_above, Inside, Reached, Grown}

absent : (x : ℕ) (xs : List ℕ) → list_any (nat_eq x) xs ≡ false → AllByRecursion (λ y. nat_eq x y ≡ false) xs
absent x [] h = tt
absent x (y ∷ ys) h = (first (nat_eq x y) _ h, absent x ys (second (nat_eq x y) _ h))
  where
    first : (a b : Bool) → a || b ≡ false → a ≡ false
    first true b h = cc
    first false b h = refl

    second : (a b : Bool) → a || b ≡ false → b ≡ false
    second true b h = cc
    second false b h = h

-- a path on which no class stands twice
abbrev Simple : List (List ℕ) → ℕ → ℕ → Type 0
Simple supers c d = (path : List ℕ) × IsPath supers c path d × IsDistinct nat_eq (c ∷ path)

-- a path through c goes on from c
cut : (supers : List (List ℕ)) (c d : ℕ) (b : ℕ) (path : List ℕ) → IsPath supers b path d → IsDistinct nat_eq (b ∷ path)
    → list_any (nat_eq c) (b ∷ path) ≡ true → Simple supers c d
cut supers c d b [] at apart found = or_split (nat_eq c b) false found
    (λ e. let P : ℕ → Type 0 = λ x. Simple supers x d in subst P (sym (nat_same c b e)) ([], at, apart))
    (λ e. cc)
cut supers c d b (a ∷ path) at apart found = or_split (nat_eq c b) (list_any (nat_eq c) (a ∷ path)) found
    (λ e. let P : ℕ → Type 0 = λ x. Simple supers x d in subst P (sym (nat_same c b e)) (a ∷ path, at, apart))
    (λ e. cut supers c d a path at.1 (IsDistinct-tail nat_eq b (a ∷ path) apart) e)

simple : (supers : List (List ℕ)) (d : ℕ) (c : ℕ) (path : List ℕ) → IsPath supers c path d → Simple supers c d
unfolding IsDistinct
simple supers d c [] at = ([], at, IsDistinct-cons nat_eq c [] tt tt)
simple supers d c (b ∷ path) at =
    let next = simple supers d b path at.1 in
    elim (list_any (nat_eq c) (b ∷ next.0)) as (λ x. list_any (nat_eq c) (b ∷ next.0) ≡ x → Simple supers c d) [
      | true ↦ λ e. cut supers c d b next.0 next.1 next.2 e
      | false ↦ λ e. (b ∷ next.0, (at.0, next.1), IsDistinct-cons nat_eq c (b ∷ next.0) (absent c (b ∷ next.0) e) next.2)
    ] refl

-- every class of a path is one of the package
inside : (supers : List (List ℕ)) → Inside supers → (d c : ℕ) (path : List ℕ) → c < length supers → IsPath supers c path d → (q : ℕ)
    → list_any (nat_eq q) (c ∷ path) ≡ true → q < length supers
inside supers all d c [] below at q found = or_split (nat_eq q c) false found
    (λ e. subst (λ x. x < length supers) (sym (nat_same q c e)) below)
    (λ e. cc)
inside supers all d c (b ∷ path) below at q found = or_split (nat_eq q c) (list_any (nat_eq q) (b ∷ path)) found
    (λ e. subst (λ x. x < length supers) (sym (nat_same q c e)) below)
    (λ e. inside supers all d b path (all c b at.0) at.1 q e)

pub any_at : (p : ℕ → Bool) (b : ℕ) (xs : List ℕ) → list_any (nat_eq b) xs ≡ true → p b ≡ true → list_any p xs ≡ true
any_at p b [] h k = cc
any_at p b (x ∷ xs) h k = or_split (nat_eq b x) (list_any (nat_eq b) xs) h
    (λ e. or_left (p x) _ (subst (λ y. p y ≡ true) (nat_same b x e) k))
    (λ e. or_right (p x) _ (any_at p b xs e k))

-- some element passes, so it is one of the list
some_at : (p : ℕ → Bool) (xs : List ℕ) → list_any p xs ≡ true → (b : ℕ) × (list_any (nat_eq b) xs ≡ true) × (p b ≡ true)
some_at p [] h = cc
some_at p (x ∷ xs) h = or_split (p x) (list_any p xs) h
    (λ e. (x, or_left (nat_eq x x) _ (nat_itself x), e))
    (λ e. let more = some_at p xs e in (more.0, or_right (nat_eq more.0 x) _ more.1, more.2))

short : (supers : List (List ℕ)) (d : ℕ) (n c : ℕ) (path : List ℕ) → IsPath supers c path d → length path ≤ n → within supers n c d ≡ true
unfolding within
short supers d zero c [] at fits = subst (λ x. nat_eq c x ≡ true) at (nat_itself c)
short supers d (suc n) c [] at fits = or_left (nat_eq c d) _ (subst (λ x. nat_eq c x ≡ true) at (nat_itself c))
short supers d zero c (b ∷ path) at fits = absurd (omega arith)
short supers d (suc n) c (b ∷ path) at fits =
    or_right (nat_eq c d) _ (any_at (λ x. within supers n x d) b (supers_of supers c) at.0 (short supers d n b path at.1 (omega arith)))

leads_within : (supers : List (List ℕ)) (d : ℕ) (n c : ℕ) → within supers n c d ≡ true → Leads supers c d
unfolding within
leads_within supers d zero c h = ([], nat_same c d h)
leads_within supers d (suc n) c h = or_split (nat_eq c d) (list_any (λ b. within supers n b d) (supers_of supers c)) h
    (λ e. ([], nat_same c d e))
    (λ e. let step = some_at (λ b. within supers n b d) (supers_of supers c) e in let more = leads_within supers d n step.0 step.2
    in (step.0 ∷ more.0, (step.1, more.1)))

and_right : (a b : Bool) → a && b ≡ true → b ≡ true
and_right true b h = h
and_right false b h = cc

-- what the test finds is led to
pub above_leads : (supers : List (List ℕ)) (c d : ℕ) → is_above supers c d ≡ true → Leads supers c d
unfolding is_above
above_leads supers c d h = leads_within supers d (length supers) c (and_right (is_some (slice_get supers c)) _ h)

is_some_get : (xs : List (List ℕ)) (i : ℕ) → i < length xs → is_some (slice_get xs i) ≡ true
is_some_get [] i h = absurd (omega arith)
is_some_get (x ∷ xs) zero h = refl
is_some_get (x ∷ xs) (suc i) h = is_some_get xs i (omega arith)

-- what is led to, the test finds: a path without repeats has no more steps than there are classes
pub leads_above : (supers : List (List ℕ)) → Inside supers → (c d : ℕ) → c < length supers → Leads supers c d → is_above supers c d ≡ true
unfolding is_above
leads_above supers all c d below led =
    let way = simple supers d c led.0 led.1 in
    let few : length (c ∷ way.0) ≤ length supers = length-le_from_distinct_below (c ∷ way.0) (length supers) way.2 (inside supers all d c way.0 below way.1) in
    both (is_some (slice_get supers c)) _ (is_some_get supers c below) (short supers d (length supers) c way.0 way.1 (omega (arith, few)))
  where
    both : (a b : Bool) → a ≡ true → b ≡ true → a && b ≡ true
    both true b h k = k
    both false b h k = cc

pub chain_is : (supers : List (List ℕ)) → Inside supers → (c d : ℕ) → c < length supers → (b : Bool) → b ≡ is_above supers c d → IsTrue b ↔ Leads supers c d
chain_is supers all c d below b is = ((λ h. above_leads supers c d (sym is ∙ h)), (λ led. is ∙ leads_above supers all c d below led))

-- one step more at the end
pub leads_on : (supers : List (List ℕ)) (d b : ℕ) → list_any (nat_eq b) (supers_of supers d) ≡ true → (c : ℕ) (path : List ℕ) → IsPath supers c path d
    → Leads supers c b
leads_on supers d b up c [] at = (b ∷ [], (subst (λ x. list_any (nat_eq b) (supers_of supers x) ≡ true) (sym at) up, refl))
leads_on supers d b up c (a ∷ path) at = let more = leads_on supers d b up a path at.1 in (a ∷ more.0, (at.0, more.1))

-- a list with c that has the supertypes of each class in it has every class that c leads to
pub closed_has : (supers : List (List ℕ)) (reached : List ℕ)
    → ((d : ℕ) → list_any (nat_eq d) reached ≡ true → (b : ℕ) → list_any (nat_eq b) (supers_of supers d) ≡ true → list_any (nat_eq b) reached ≡ true)
    → (d c : ℕ) (path : List ℕ) → IsPath supers c path d → list_any (nat_eq c) reached ≡ true → list_any (nat_eq d) reached ≡ true
closed_has supers reached closed d c [] at has = subst (λ x. list_any (nat_eq x) reached ≡ true) at has
closed_has supers reached closed d c (b ∷ path) at has = closed_has supers reached closed d b path at.1 (closed c has b at.0)

take-take_short : (m n : ℕ) (zs : List ℕ) → m ≤ n → take m (take n zs) ≡ take m zs
take-take_short m n zs h = take-take m n zs h

-- a list that goes on twice goes on
pub grown_twice : (us vs xs ys zs : List ℕ) → Grown us xs ys → Grown vs ys zs → Grown (us ++ vs) xs zs
grown_twice us vs xs ys zs g h = record {
  longer = omega (arith, g.longer, h.longer);
  kept = prefix g.kept h.kept;
  has = λ d. h.has d ∙ ap (λ b. b || list_any (nat_eq d) vs) (g.has d)
      ∙ or_assoc (list_any (nat_eq d) xs) (list_any (nat_eq d) us) (list_any (nat_eq d) vs)
      ∙ ap (λ b. list_any (nat_eq d) xs || b) (sym (list_any-append (nat_eq d) us vs));
}
  where
    or_assoc : (a b c : Bool) → a || b || c ≡ a || (b || c)
    or_assoc true b c = refl
    or_assoc false b c = refl

    prefix : take (length xs) ys ≡ xs → take (length ys) zs ≡ ys → take (length xs) zs ≡ xs
    prefix e f = sym (take-take_short (length xs) (length ys) zs g.longer) ∙ ap (take (length xs)) f ∙ e

pub grown_none : (xs : List ℕ) → Grown [] xs xs
grown_none xs = record { longer = omega arith; kept = take-length xs; has = λ d. or_false (list_any (nat_eq d) xs) }
  where
    or_false : (b : Bool) → b ≡ b || false
    or_false true = refl
    or_false false = refl

-- what is there already adds nothing
pub grown_there : (u : ℕ) (xs : List ℕ) → list_any (nat_eq u) xs ≡ true → Grown (u ∷ []) xs xs
grown_there u xs there = record {
  longer = omega arith;
  kept = take-length xs;
  has = λ d. same_bool (list_any (nat_eq d) xs) (list_any (nat_eq d) xs || (nat_eq d u || false))
      (λ e. or_left (list_any (nat_eq d) xs) _ e)
      (λ e. or_split (list_any (nat_eq d) xs) (nat_eq d u || false) e (λ f. f)
      (λ f. or_split (nat_eq d u) false f (λ k. subst (λ x. list_any (nat_eq x) xs ≡ true) (sym (nat_same d u k)) there) (λ k. cc)));
}

pub grown_one : (u : ℕ) (xs : List ℕ) → Grown (u ∷ []) xs (xs ++ u ∷ [])
grown_one u xs = record {
  longer = omega (arith, length-append xs (u ∷ []));
  kept = take-append_seam xs (u ∷ []);
  has =
      λ d. list_any-append (nat_eq d) xs (u ∷ []);
}

at_is : (u d : ℕ) → is_at (nat_cmp u) d ≡ nat_eq d u
at_is u d = search rules

-- a class that was not yet seen, now seen and reached
pub reached_more : (seen now : BTreeSet ℕ) (xs : List ℕ) (u : ℕ) → Reached seen xs
    → ((q : ℕ) → contains nat_cmp now q ≡ cond (is_at (nat_cmp u) q) true (contains nat_cmp seen q)) → false ≡ contains nat_cmp seen u
    → IsStrictlySortedBy nat_cmp now.keys → Reached now (xs ++ u ∷ [])
reached_more seen now xs u reached told new sorted = record {
  sorted = sorted;
  alike = λ d.
      told d ∙ ap (λ b. cond b true (contains nat_cmp seen d)) (at_is u d) ∙ ap (λ b. cond (nat_eq d u) true b) (reached.alike d)
      ∙ by_test (nat_eq d u) (list_any (nat_eq d) xs) ∙ sym (list_any-append (nat_eq d) xs (u ∷ []));
  apart = IsDistinct-push nat_eq_equiv xs u reached.apart (sym (reached.alike u) ∙ sym new);
}
  where
    by_test : (a b : Bool) → cond a true b ≡ b || (a || false)
    by_test true true = refl
    by_test true false = refl
    by_test false true = refl
    by_test false false = refl

pub reached_first : (none now : BTreeSet ℕ) (u : ℕ) → ((q : ℕ) → contains nat_cmp none q ≡ false)
    → ((q : ℕ) → contains nat_cmp now q ≡ cond (is_at (nat_cmp u) q) true (contains nat_cmp none q)) → IsStrictlySortedBy nat_cmp none.keys
    → IsStrictlySortedBy nat_cmp now.keys → Reached now (u ∷ [])
unfolding IsDistinct
reached_first none now u empty told sorted rises =
    reached_more none now [] u (record { alike = empty; apart = IsDistinct-none; sorted = sorted }) told (sym (empty u)) rises
  where
    IsDistinct-none : IsDistinct nat_eq []
    IsDistinct-none = tt

-- how far the search up from a class has come
pub record Walked (supers : List (List ℕ)) (c : ℕ) (seen : BTreeSet ℕ) (reached : List ℕ) (next : ℕ) : Type 0 where
  pub kept : Reached seen reached
  pub below : (d : ℕ) → list_any (nat_eq d) reached ≡ true → d < length supers
  pub led : (d : ℕ) → list_any (nat_eq d) reached ≡ true → Leads supers c d
  pub start : list_any (nat_eq c) reached ≡ true
  pub closed : (k : ℕ) → k < next → (b : ℕ) → list_any (nat_eq b) (supers_of supers (get_or reached k 0)) ≡ true → list_any (nat_eq b) reached ≡ true
  pub counted : next ≤ length reached

pub walk_first : (supers : List (List ℕ)) (c : ℕ) (now : BTreeSet ℕ) → c < length supers → Reached now (c ∷ []) → Walked supers c now (c ∷ []) 0
walk_first supers c now below kept = record {
  kept = kept;
  below = λ d h. subst (λ x. x < length supers) (sym (same d h)) below;
  led = λ d h. ([], sym (same d h));
  start = or_left (nat_eq c c) false (nat_itself c);
  closed = λ k h b m. absurd (omega arith);
  counted = omega arith;
}
  where
    same : (d : ℕ) → nat_eq d c || false ≡ true → d ≡ c
    same d h = or_split (nat_eq d c) false h (λ e. nat_same d c e) (λ e. cc)

-- an element of a list is at some place
place_in : (d : ℕ) (xs : List ℕ) → list_any (nat_eq d) xs ≡ true → (k : ℕ) × (k < length xs) × (get_or xs k 0 ≡ d)
place_in d [] h = cc
place_in d (x ∷ xs) h = or_split (nat_eq d x) (list_any (nat_eq d) xs) h
    (λ e. (0, omega arith, sym (nat_same d x e)))
    (λ e. let more = place_in d xs e in (suc more.0, omega (arith, more.1), more.2))

in_at : (xs : List ℕ) (k : ℕ) → k < length xs → list_any (nat_eq (get_or xs k 0)) xs ≡ true
in_at [] k h = absurd (omega arith)
in_at (x ∷ xs) zero h = or_left (nat_eq x x) _ (nat_itself x)
in_at (x ∷ xs) (suc k) h = or_right (nat_eq (get_or xs k 0) x) _ (in_at xs k (omega arith))

kept_at : (xs ys : List ℕ) (k : ℕ) → take (length xs) ys ≡ xs → k < length xs → get_or ys k 0 ≡ get_or xs k 0
kept_at xs ys k e h = sym (get_or-take (length xs) ys k 0 h) ∙ ap (λ zs. get_or zs k 0) e

pub below_or_at : (k n : ℕ) → k < n + 1 → (k < n) ⊎ (k ≡ n)
below_or_at zero zero h = inr refl
below_or_at zero (suc n) h = inl (omega arith)
below_or_at (suc k) zero h = absurd (omega arith)
below_or_at (suc k) (suc n) h = elim (below_or_at k n (omega arith)) [ inl lt ↦ inl (omega arith) | inr e ↦ inr (ap (λ i. suc i) e) ]

pub walk_more : (supers : List (List ℕ)) (c : ℕ) (seen now : BTreeSet ℕ) (old new : List ℕ) (next : ℕ) → Inside supers → Walked supers c seen old next
    → next < length old → Reached now new → Grown (supers_of supers (get_or old next 0)) old new → Walked supers c now new (next + 1)
walk_more supers c seen now old new next all walked more kept grown = record {
  kept = kept;
  below = λ d h. or_split (list_any (nat_eq d) old) (list_any (nat_eq d) (supers_of supers (get_or old next 0))) (sym (grown.has d) ∙ h)
      (λ e. walked.below d e) (λ e. all (get_or old next 0) d e);
  led = λ d h. or_split (list_any (nat_eq d) old) (list_any (nat_eq d) (supers_of supers (get_or old next 0))) (sym (grown.has d) ∙ h) (λ e. walked.led d e)
      (λ e. let way = walked.led (get_or old next 0) (in_at old next more) in leads_on supers (get_or old next 0) d e c way.0 way.1);
  start = grown.has c ∙ or_left _ _ walked.start;
  closed = λ k h b m. by_place k h b m (below_or_at k next (omega arith));
  counted = omega (arith, grown.longer);
}
  where
    by_place : (k : ℕ) → k < next + 1 → (b : ℕ) → list_any (nat_eq b) (supers_of supers (get_or new k 0)) ≡ true → (k < next) ⊎ (k ≡ next)
        → list_any (nat_eq b) new ≡ true
    by_place k h b m (inl lt) =
        grown.has b ∙ or_left _ _
        (walked.closed k lt b (subst (λ x. list_any (nat_eq b) (supers_of supers x) ≡ true) (kept_at old new k grown.kept (omega arith)) m))
    by_place k h b m (inr e) =
        grown.has b ∙ or_right (list_any (nat_eq b) old) _
        (subst (λ x. list_any (nat_eq b) (supers_of supers x) ≡ true) (kept_at old new k grown.kept (omega arith) ∙ ap (λ i. get_or old i 0) e) m)

pub walk_ends : (supers : List (List ℕ)) (c : ℕ) (seen : BTreeSet ℕ) (reached : List ℕ) (next : ℕ) → Inside supers → c < length supers
    → Walked supers c seen reached next → length reached ≤ next → (d : ℕ) → contains nat_cmp seen d ≡ is_above supers c d
walk_ends supers c seen reached next all below walked done d =
    walked.kept.alike d
    ∙ same_bool (list_any (nat_eq d) reached) (is_above supers c d)
    (λ h. leads_above supers all c d below (walked.led d h))
    (λ h. let way = above_leads supers c d h in closed_has supers reached closed d c way.0 way.1 walked.start)
  where
    closed : (d : ℕ) → list_any (nat_eq d) reached ≡ true → (b : ℕ) → list_any (nat_eq b) (supers_of supers d) ≡ true → list_any (nat_eq b) reached ≡ true
    closed d h b m = let at = place_in d reached h
        in walked.closed at.0 (omega (arith, at.1)) b (subst (λ x. list_any (nat_eq b) (supers_of supers x) ≡ true) (sym at.2) m)

pub walk_small : (supers : List (List ℕ)) (c : ℕ) (seen : BTreeSet ℕ) (reached : List ℕ) (next : ℕ) → Walked supers c seen reached next
    → length reached ≤ length supers
walk_small supers c seen reached next walked = length-le_from_distinct_below reached (length supers) walked.kept.apart walked.below

pub walk_at : (supers : List (List ℕ)) (c : ℕ) (seen : BTreeSet ℕ) (reached : List ℕ) (next : ℕ) → Walked supers c seen reached next
    → next < length reached → get_or reached next 0 < length supers
walk_at supers c seen reached next walked more = walked.below _ (in_at reached next more)

pub supers_at : {X : Type 0} (f : X → List ℕ) (xs : List X) (i : ℕ) (d : X) → i < length xs → supers_of (map f xs) i ≡ f (get_or xs i d)
supers_at f [] i d h = absurd (omega arith)
supers_at f (x ∷ xs) zero d h = refl
supers_at f (x ∷ xs) (suc i) d h = supers_at f xs i d (omega arith)

pub same_default : (xs : List ℕ) (i d e : ℕ) → i < length xs → get_or xs i d ≡ get_or xs i e
same_default [] i d e h = absurd (omega arith)
same_default (x ∷ xs) zero d e h = refl
same_default (x ∷ xs) (suc i) d e h = same_default xs i d e (omega arith)

take_whole : (us : List ℕ) (i : ℕ) → length us ≤ i → take i us ≡ us
take_whole [] zero h = refl
take_whole [] (suc i) h = refl
take_whole (u ∷ us) zero h = absurd (omega arith)
take_whole (u ∷ us) (suc i) h = ap (λ vs. u ∷ vs) (take_whole us i (omega arith))

pub grown_all : (us : List ℕ) (i : ℕ) (xs ys : List ℕ) → length us ≤ i → Grown (take i us) xs ys → Grown us xs ys
grown_all us i xs ys long grown = let P : List ℕ → Type 0 = λ vs. Grown vs xs ys in subst P (take_whole us i long) grown
