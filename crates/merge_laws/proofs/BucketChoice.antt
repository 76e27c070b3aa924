-- Buckets are one list: what is promised of them leaves no choice.
use Rattle.std.proofs.Common.{◌≡◌, ℕ, ◌+◌, ◌<◌, true, List, [], ◌∷◌, ◌++◌, refl, sym, ap, subst, ◌∙◌, ◌&&◌, ◌⊎◌, inl, inr, take, length, nat_eq, arith}
use Rattle.std.proofs.lemmas.Bool.{or_left, or_right}
use Rattle.finite_maps.proofs.EqualLaws.{and_first, and_second, and_both, nat_equality}
use Rattle.model_laws.proofs.Exchange.{or_cases}
use Rattle.ecore_meta.specs.Meta.{Meta}
use Rattle.model_state.specs.declared.operation.Operation.{Operation}
use Rattle.footprint.specs.declared.bucket.Bucket.{Bucket}
use Rattle.footprint.specs.Buckets.{buckets}
use Rattle.merge_laws.specs.Grouping.{is_in, SameTheirs, SameMine, shares}
use Rattle.merge_laws.specs.Classes.{AllMixed, AreClasses}
use Rattle.merge_laws.specs.Order.{Above, Rising, AllRising, firsts, InOrder}
use Rattle.merge_laws.specs.BucketLaws.{BucketsLeaveNoChoice}
use Rattle.merge_laws.proofs.Linked.{linked_join, linked_turn}
use Rattle.merge_laws.proofs.Exact.{buckets_are_classes}
use Rattle.merge_laws.proofs.Order.{buckets_in_order}

-- ---- lists whose keys rise are equal where they have the same elements
abbrev In : {A : Type 0} → A → List A → Type 0
In x [] = ⊥
In x (y ∷ ys) = (x ≡ y) ⊎ In x ys

abbrev Ahead : {A : Type 0} → (A → ℕ) → ℕ → List A → Type 0
Ahead key n [] = Unit {0}
Ahead key n (y ∷ ys) = (n < key y) × Ahead key n ys

abbrev Ranked : {A : Type 0} → (A → ℕ) → List A → Type 0
Ranked key [] = Unit {0}
Ranked key (x ∷ xs) = Ahead key (key x) xs × Ranked key xs

ahead_in : {A : Type 0} (key : A → ℕ) (n : ℕ) (x : A) (ys : List A) → Ahead key n ys → In x ys → n < key x
ahead_in key n x [] h i = absurd i
ahead_in key n x (y ∷ ys) h (inl e) = subst (λ z. n < key z) (sym e) h.0
ahead_in key n x (y ∷ ys) h (inr i) = ahead_in key n x ys h.1 i

not_both : (m n : ℕ) → m < n → n < m → ⊥
not_both m n h g = omega (arith, h, g)

same_lists : {A : Type 0} (key : A → ℕ) (xs ys : List A) → Ranked key xs → Ranked key ys → ((z : A) → In z xs → In z ys)
    → ((z : A) → In z ys → In z xs) → xs ≡ ys
same_lists key [] [] p q f g = refl
same_lists key [] (y ∷ ys) p q f g = absurd (g y (inl refl))
same_lists key (x ∷ xs) [] p q f g = absurd (f x (inl refl))
same_lists {A = A} key (x ∷ xs) (y ∷ ys) p q f g =
    let rest = same_lists key xs ys p.1 q.1 (λ z i. later z y ys (f z (inr i)) (λ e. apart x z xs p.0 i (head ∙ sym e)))
    (λ z i. later z x xs (g z (inr i)) (λ e. apart y z ys q.0 i (sym head ∙ sym e))) in
    λ i. head i ∷ rest i
  where
    head : x ≡ y
    head = elim (f x (inl refl)) as (λ _. x ≡ y) [
      | inl e ↦ e
      | inr i ↦ elim (g y (inl refl)) as (λ _. x ≡ y) [
        | inl e ↦ sym e
        | inr j ↦ absurd (not_both (key y) (key x) (ahead_in key (key y) x ys q.0 i) (ahead_in key (key x) y xs p.0 j))
      ]
    ]

    apart : (a z : A) (zs : List A) → Ahead key (key a) zs → In z zs → a ≡ z → ⊥
    apart a z zs h i e = let low = ahead_in key (key a) z zs h i
        in not_both (key a) (key z) low (subst (λ n. n < key a) (ap key e) (subst (λ n. key a < n) (sym (ap key e)) low))

    later : (z w : A) (ws : List A) → In z (w ∷ ws) → (z ≡ w → ⊥) → In z ws
    later z w ws (inl e) out = absurd (out e)
    later z w ws (inr i) out = i

-- ---- positions that rise
ahead_of : (n : ℕ) (xs : List ℕ) → Above n xs → Ahead (λ x. x) n xs
ahead_of n [] h = tt
ahead_of n (x ∷ xs) h = (h.0, ahead_of n xs h.1)

ranked_of : (xs : List ℕ) → Rising xs → Ranked (λ x. x) xs
ranked_of [] h = tt
ranked_of (x ∷ xs) h = (ahead_of x xs h.0, ranked_of xs h.1)

in_of : (i : ℕ) (xs : List ℕ) → is_in i xs ≡ true → In i xs
in_of i [] h = cc
in_of i (x ∷ xs) h = or_cases (nat_eq i x) (is_in i xs) h (λ e. inl (nat_equality.exact i x e)) (λ later. inr (in_of i xs later))

of_in : (i : ℕ) (xs : List ℕ) → In i xs → is_in i xs ≡ true
of_in i [] h = absurd h
of_in i (x ∷ xs) (inl e) = or_left (nat_eq i x) (is_in i xs) (subst (λ y. nat_eq i y ≡ true) e (nat_equality.own i))
of_in i (x ∷ xs) (inr h) = or_right (nat_eq i x) (is_in i xs) (of_in i xs h)

same_places : (xs ys : List ℕ) → Rising xs → Rising ys → ((i : ℕ) → is_in i xs ≡ true → is_in i ys ≡ true)
    → ((i : ℕ) → is_in i ys ≡ true → is_in i xs ≡ true) → xs ≡ ys
same_places xs ys p q f g =
    same_lists (λ x. x) xs ys (ranked_of xs p) (ranked_of ys q) (λ i h. in_of i ys (f i (of_in i xs h))) (λ i h. in_of i xs (g i (of_in i ys h)))

-- ---- buckets in the order of their first positions
first_of : List ℕ → ℕ
first_of [] = 0
first_of (x ∷ xs) = x

first_key : Bucket → ℕ
first_key b = first_of b.theirs

above_first : (n : ℕ) (ts rest : List ℕ) → 0 < length ts → Above n (take 1 ts ++ rest) → (n < first_of ts) × Above n rest
unfolding first_of
above_first n [] rest some h = absurd (omega (arith, some))
above_first n (t ∷ ts) rest some h = h

rising_first : (ts rest : List ℕ) → 0 < length ts → Rising (take 1 ts ++ rest) → Above (first_of ts) rest × Rising rest
unfolding first_of
rising_first [] rest some h = absurd (omega (arith, some))
rising_first (t ∷ ts) rest some h = h

ahead_buckets : (n : ℕ) (bs : List Bucket) → AllMixed bs → Above n (firsts bs) → Ahead first_key n bs
unfolding first_key
ahead_buckets n [] m h = tt
ahead_buckets n (b ∷ bs) m h = let r = above_first n b.theirs (firsts bs) m.0 h in (r.0, ahead_buckets n bs m.2 r.1)

ranked_buckets : (bs : List Bucket) → AllMixed bs → Rising (firsts bs) → Ranked first_key bs
unfolding first_key
ranked_buckets [] m h = tt
ranked_buckets (b ∷ bs) m h = let r = rising_first b.theirs (firsts bs) m.0 h in (ahead_buckets (first_of b.theirs) bs m.2 r.0, ranked_buckets bs m.2 r.1)

-- ---- one bucket of a list
mixed_in : (b : Bucket) (bs : List Bucket) → AllMixed bs → In b bs → (0 < length b.theirs) × (0 < length b.mine)
mixed_in b [] m h = absurd h
mixed_in b (c ∷ bs) m (inl e) = subst (λ (d : Bucket). (0 < length d.theirs) × (0 < length d.mine)) (sym e) (m.0, m.1)
mixed_in b (c ∷ bs) m (inr h) = mixed_in b bs m.2 h

rising_in : (b : Bucket) (bs : List Bucket) → AllRising bs → In b bs → Rising b.theirs × Rising b.mine
rising_in b [] r h = absurd h
rising_in b (c ∷ bs) r (inl e) = subst (λ (d : Bucket). Rising d.theirs × Rising d.mine) (sym e) (r.0, r.1)
rising_in b (c ∷ bs) r (inr h) = rising_in b bs r.2 h

theirs_in : (i j : ℕ) (b : Bucket) (bs : List Bucket) → SameTheirs bs i j → In b bs → is_in i b.theirs ≡ is_in j b.theirs
theirs_in i j b [] s h = absurd h
theirs_in i j b (c ∷ bs) s (inl e) = subst (λ (d : Bucket). is_in i d.theirs ≡ is_in j d.theirs) (sym e) s.0
theirs_in i j b (c ∷ bs) s (inr h) = theirs_in i j b bs s.1 h

mine_in : (i j : ℕ) (b : Bucket) (bs : List Bucket) → SameMine bs i j → In b bs → is_in i b.mine ≡ is_in j b.mine
mine_in i j b [] s h = absurd h
mine_in i j b (c ∷ bs) s (inl e) = subst (λ (d : Bucket). is_in i d.mine ≡ is_in j d.mine) (sym e) s.0
mine_in i j b (c ∷ bs) s (inr h) = mine_in i j b bs s.1 h

share_in : (i k : ℕ) (b : Bucket) (bs : List Bucket) → In b bs → is_in i b.theirs ≡ true → is_in k b.mine ≡ true → shares bs i k ≡ true
share_in i k b [] h t m = absurd h
share_in i k b (c ∷ bs) (inl e) t m =
    or_left (is_in i c.theirs && is_in k c.mine) (shares bs i k)
    (subst (λ (d : Bucket). is_in i d.theirs && is_in k d.mine ≡ true) e (and_both (is_in i b.theirs) (is_in k b.mine) t m))
share_in i k b (c ∷ bs) (inr h) t m = or_right (is_in i c.theirs && is_in k c.mine) (shares bs i k) (share_in i k b bs h t m)

in_share : (i k : ℕ) (bs : List Bucket) → shares bs i k ≡ true → (b : Bucket) × In b bs × (is_in i b.theirs ≡ true) × (is_in k b.mine ≡ true)
in_share i k [] h = cc
in_share i k (c ∷ bs) h = or_cases (is_in i c.theirs && is_in k c.mine) (shares bs i k) h
    (λ here. (c, inl refl, and_first (is_in i c.theirs) (is_in k c.mine) here, and_second (is_in i c.theirs) (is_in k c.mine) here))
    (λ later. let r = in_share i k bs later in (r.0, inr r.1, r.2, r.3))

place_in : (xs : List ℕ) → 0 < length xs → (x : ℕ) × (is_in x xs ≡ true)
place_in [] h = absurd (omega (arith, h))
place_in (x ∷ xs) h = (x, or_left (nat_eq x x) (is_in x xs) (nat_equality.own x))

-- ---- two lists of buckets that are the classes, in order
module _ (meta : Meta) (theirs mine : List Operation) where
  their_place : (bs cs : List Bucket) → AreClasses meta theirs mine bs → AreClasses meta theirs mine cs → (b c : Bucket) → In b bs → In c cs
      → (i k : ℕ) → is_in i b.theirs ≡ true → is_in k b.mine ≡ true → is_in i c.theirs ≡ true
      → (j : ℕ) → is_in j b.theirs ≡ true → is_in j c.theirs ≡ true
  their_place bs cs p q b c at there i k ib kb ic j jb =
      let one = p.linked i k (share_in i k b bs at ib kb) in
      let two = p.linked j k (share_in j k b bs at jb kb) in
      let on = linked_join meta (theirs ++ mine) i (length theirs + k) j one.2 (linked_turn meta (theirs ++ mine) j (length theirs + k) two.2) in
      sym (theirs_in i j c cs (q.whole_theirs i j one.0 two.0 on) there) ∙ ic

  my_place : (bs cs : List Bucket) → AreClasses meta theirs mine bs → AreClasses meta theirs mine cs → (b c : Bucket) → In b bs → In c cs → (i k : ℕ)
      → is_in i b.theirs ≡ true → is_in k b.mine ≡ true → is_in k c.mine ≡ true
      → (j : ℕ) → is_in j b.mine ≡ true → is_in j c.mine ≡ true
  my_place bs cs p q b c at there i k ib kb kc j jb =
      let one = p.linked i k (share_in i k b bs at ib kb) in
      let two = p.linked i j (share_in i j b bs at ib jb) in
      let on = linked_join meta (theirs ++ mine) (length theirs + k) i (length theirs + j)
      (linked_turn meta (theirs ++ mine) i (length theirs + k) one.2) two.2 in
      sym (mine_in k j c cs (q.whole_mine k j one.1 two.1 on) there) ∙ kc

  -- each bucket of the one list is in the other
  bucket_in : (bs cs : List Bucket) → AreClasses meta theirs mine bs → AreClasses meta theirs mine cs → InOrder bs → InOrder cs → (b : Bucket)
      → In b bs → In b cs
  bucket_in bs cs p q m n b at =
      let some = mixed_in b bs p.mixed at in
      let i = place_in b.theirs some.0 in
      let k = place_in b.mine some.1 in
      let on = p.linked i.0 k.0 (share_in i.0 k.0 b bs at i.1 k.1) in
      let c = in_share i.0 k.0 cs (q.shared i.0 k.0 on.0 on.1 on.2) in
      let rb = rising_in b bs m.rising at in
      let rc = rising_in c.0 cs n.rising c.1 in
      let t = same_places b.theirs c.0.theirs rb.0 rc.0 (their_place bs cs p q b c.0 at c.1 i.0 k.0 i.1 k.1 c.2)
      (their_place cs bs q p c.0 b c.1 at i.0 k.0 c.2 c.3 i.1) in
      let u = same_places b.mine c.0.mine rb.1 rc.1 (my_place bs cs p q b c.0 at c.1 i.0 k.0 i.1 k.1 c.3)
      (my_place cs bs q p c.0 b c.1 at i.0 k.0 c.2 c.3 k.1) in
      let same : b ≡ c.0 = λ x. record { theirs = t x; mine = u x } in
      subst (λ d. In d cs) (sym same) c.1

  one_list : (bs cs : List Bucket) → AreClasses meta theirs mine bs → AreClasses meta theirs mine cs → InOrder bs → InOrder cs → bs ≡ cs
  one_list bs cs p q m n =
      same_lists first_key bs cs (ranked_buckets bs p.mixed m.order) (ranked_buckets cs q.mixed n.order) (bucket_in bs cs p q m n)
      (bucket_in cs bs q p n m)

pub buckets_leave_no_choice : BucketsLeaveNoChoice
buckets_leave_no_choice meta theirs mine bs classes order =
    one_list meta theirs mine bs (buckets meta theirs mine) classes (buckets_are_classes meta theirs mine) order (buckets_in_order meta theirs mine)
