-- The positions of labels, as one label more is gone over.
use Rattle.std.proofs.Common.{◌≡◌, ℕ, zero, suc, ◌+◌, ◌<◌, ◌≤◌, Bool, true, false, cond, nat_eq, List, [], ◌∷◌, ◌++◌, refl, sym, ap, ◌∙◌, map, take}
use Rattle.std.proofs.Common.{length, get_or, set, arith, length-set}
use Rattle.std.proofs.Math.Seq.{take-suc}
use Rattle.std.proofs.lemmas.List.{map-append, take_all}
use Rattle.std.specs.declared.vec.Vec.{Vec}
use Rattle.std.specs.declared.alloc.Global.{Global}
use Rattle.finite_maps.proofs.EqualLaws.{nat_equality}
use Rattle.finite_maps.proofs.Cases.{not_so}
use Rattle.footprint.specs.declared.bucket.Bucket.{Bucket}
use Rattle.footprint.specs.Buckets.{places, mixed, buckets_below}
use Rattle.cell_index.specs.Near.{list_at}
use Rattle.cell_index.proofs.Rows.{at_same, at_other, list_here, same_or_not}
use Rattle.conflict_buckets.specs.Tables.{IsPut}

-- ---- one list
put_one : (s l : ℕ) (old new more : List ℕ) → (l ≡ s → new ≡ more) → ((l ≡ s → ⊥) → new ≡ old) → new ≡ cond (nat_eq s l) more old
put_one s l old new more here other = same_or_not l s
    (λ e. here e ∙ ap (λ b. cond b more old) (sym (ap (nat_eq s) e ∙ nat_equality.own s)))
    (λ f. other f ∙ ap (λ b. cond b more old) (sym (not_so (nat_eq s l) (λ yes. f (sym (nat_equality.exact s l yes))))))

pub put_here : (t made : List (Vec ℕ Global)) (s k : ℕ) (v w : Vec ℕ Global) → s < length t → v ≡ get_or t s v → w.items ≡ v.items ++ k ∷ []
    → made ≡ set t s w → IsPut t made s k
put_here t made s k v w low is more out = record {
  size = ap length out ∙ length-set t s w;
  lists = λ l inside. put_one s l (list_at t l) (list_at made l) (list_at t l ++ k ∷ [])
      (λ e. ap (λ m. list_at m l) out ∙ ap (list_at (set t s w)) e ∙ at_same t s w low ∙ more
      ∙ ap (λ x. x ++ k ∷ []) (sym (ap (list_at t) e ∙ list_here t s v low is)))
      (λ f. ap (λ m. list_at m l) out ∙ at_other t s l w f);
}

-- there is no list for a label past the table
pub put_nowhere : (t : List (Vec ℕ Global)) (s k : ℕ) → length t ≤ s → IsPut t t s k
put_nowhere t s k past = record {
  size = refl;
  lists = λ l inside. put_one s l (list_at t l) (list_at t l) (list_at t l ++ k ∷ []) (λ e. absurd (omega (arith, past, inside, e))) (λ f. refl);
}

-- ---- one label more
later : (a b : Bool) (ps : List ℕ) (n : ℕ)
    → cond a (0 ∷ map suc (cond b (ps ++ n ∷ []) ps)) (map suc (cond b (ps ++ n ∷ []) ps)) ≡ cond b
    (cond a (0 ∷ map suc ps) (map suc ps) ++ suc n ∷ []) (cond a (0 ∷ map suc ps) (map suc ps))
later true true ps n = ap (λ l. 0 ∷ l) (map-append suc ps (n ∷ []))
later true false ps n = refl
later false true ps n = map-append suc ps (n ∷ [])
later false false ps n = refl

places_push : (l : ℕ) (ms : List ℕ) (m : ℕ) → places l (ms ++ m ∷ []) ≡ cond (nat_eq m l) (places l ms ++ length ms ∷ []) (places l ms)
places_push l [] m = refl
places_push l (x ∷ ms) m =
    ap (λ p. cond (nat_eq x l) (0 ∷ map suc p) (map suc p)) (places_push l ms m)
    ∙ later (nat_eq x l) (nat_eq m l) (places l ms) (length ms)

pub places_more : (l : ℕ) (ls : List ℕ) (i label : ℕ) (old new : List ℕ) → i < length ls → label ≡ get_or ls i 0 → old ≡ places l (take i ls)
    → new ≡ cond (nat_eq label l) (old ++ i ∷ []) old → new ≡ places l (take (i + 1) ls)
places_more l ls i label old new low is so_far put =
    let e : i + 1 ≡ suc i = omega arith in
    put
    ∙ ap (λ o. cond (nat_eq label l) (o ++ i ∷ []) o) so_far
    ∙ ap (λ x. cond (nat_eq x l) (places l (take i ls) ++ i ∷ []) (places l (take i ls))) is
    ∙ ap (λ n. cond (nat_eq (get_or ls i 0) l) (places l (take i ls) ++ n ∷ []) (places l (take i ls))) (sym (taken ls i low))
    ∙ sym (ap (λ n. places l (take n ls)) e ∙ ap (places l) (take-suc ls i 0 low) ∙ places_push l (take i ls) (get_or ls i 0))
  where
    taken : (xs : List ℕ) (n : ℕ) → n < length xs → length (take n xs) ≡ n
    taken xs zero low = refl
    taken [] (suc n) low = absurd (omega (arith, low))
    taken (x ∷ xs) (suc n) low = ap suc (taken xs n (omega (arith, low)))

pub places_all : (l : ℕ) (ls : List ℕ) (i : ℕ) (found : List ℕ) → length ls ≤ i → found ≡ places l (take i ls) → found ≡ places l ls
places_all l ls i found past is = is ∙ ap (places l) (take_all i ls past)

-- ---- one row more
pub row_on : (ts ms : List ℕ) (n : ℕ) (found made : List Bucket) (left right xs ys : List ℕ) → found ≡ buckets_below ts ms n → made ≡ found ++ mixed left right
    → left ≡ xs → right ≡ ys → xs ≡ places n ts → ys ≡ places n ms → made ≡ buckets_below ts ms (n + 1)
row_on ts ms n found made left right xs ys is put l r x y =
    let e : suc n ≡ n + 1 = omega arith in
    put ∙ (λ i. is i ++ mixed ((l ∙ x) i) ((r ∙ y) i)) ∙ ap (buckets_below ts ms) e
