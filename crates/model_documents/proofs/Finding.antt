-- What finds the elements by their ids and by their places, one element after another.
use Rattle.std.proofs.Common.{◌≡◌, ℕ, zero, suc, ◌+◌, ◌<◌, ◌≤◌, Bool, true, false, cond, List, [], ◌∷◌, ◌++◌, length, take, get_or, refl, sym, ap}
use Rattle.std.proofs.Common.{◌∙◌, ◌&&◌, ◌||◌, arith, nat_eq, append-nil}
use Rattle.std.specs.Prelude.{Option, None, Some, is_some, unwrap_or, slice_get, slice_set}
use Rattle.std.specs.List.{list_any}
use Rattle.std.specs.BTreeMap.{BTreeMap, get, is_at}
use Rattle.std.specs.Ordering.{is_eq, nat_cmp}
use Rattle.std.specs.Cmp.{tied_then, unsigned_tied}
use Rattle.std.proofs.lemmas.List.{length-take-le, take_more}
use Rattle.finite_maps.specs.Equal.{option_eq, text_eq}
use Rattle.finite_maps.proofs.EqualLaws.{and_first, and_second, nat_equality, text_equality, apart}
use Rattle.model_state.specs.Keys.{IdBytes}
use Rattle.model_documents.specs.declared.doc.DocParent.{DocParent}
use Rattle.model_documents.specs.declared.draft.ElementDraft.{ElementDraft}
use Rattle.model_documents.specs.Finder.{first_of, numbers_at, place_cmp}
use Rattle.model_documents.specs.Parts.{ids_of}
use Rattle.model_documents.specs.Places.{has_id, named, numbers_where, parent_eq}

pub parent_exact : (p q : DocParent) → parent_eq p q ≡ true → p ≡ q
parent_exact p q h =
    let rows : p.row ≡ q.row = nat_equality.exact p.row q.row (and_first (nat_eq p.row q.row) (nat_eq p.feature q.feature) h) in
    let features : p.feature ≡ q.feature = nat_equality.exact p.feature q.feature (and_second (nat_eq p.row q.row) (nat_eq p.feature q.feature) h) in
    λ i. record { row = rows i; feature = features i }

-- ---- the numbers of the rows that pass a test
numbers_last : (p : ElementDraft → Bool) (n : ℕ) (rows : List ElementDraft) (r : ElementDraft) (m : ℕ) → n + length rows ≡ m
    → numbers_where p n (rows ++ r ∷ []) ≡ numbers_where p n rows ++ cond {A = List ℕ} (p r) (m ∷ []) []
numbers_last p n [] r m is = ap (λ k. cond {A = List ℕ} (p r) (k ∷ []) []) (same n m is)
  where
    same : (n m : ℕ) → n + 0 ≡ m → n ≡ m
    same n m is = omega (arith, is)
numbers_last p n (x ∷ xs) r m is = by (p x) (numbers_last p (suc n) xs r m (moved n (length xs) m is))
  where
    moved : (n k m : ℕ) → n + suc k ≡ m → suc n + k ≡ m
    moved n k m is = omega (arith, is)

    by : (b : Bool) → numbers_where p (suc n) (xs ++ r ∷ []) ≡ numbers_where p (suc n) xs ++ cond {A = List ℕ} (p r) (m ∷ []) []
        → cond b (n ∷ numbers_where p (suc n) (xs ++ r ∷ [])) (numbers_where p (suc n) (xs ++ r ∷ [])) ≡ cond b (n ∷ numbers_where p (suc n) xs)
        (numbers_where p (suc n) xs) ++ cond {A = List ℕ} (p r) (m ∷ []) []
    by true h = ap (λ l. n ∷ l) h
    by false h = h

pub numbers_more : (p : ElementDraft → Bool) (rows : List ElementDraft) (n : ℕ) (r : ElementDraft) → n < length rows → r ≡ get_or rows n r
    → numbers_where p 0 (take (n + 1) rows) ≡ numbers_where p 0 (take n rows) ++ cond {A = List ℕ} (p r) (n ∷ []) []
numbers_more p rows n r less is =
    ap (numbers_where p 0) (take_more rows n r less)
    ∙ numbers_last p 0 (take n rows) (get_or rows n r) n (ap (λ k. 0 + k) (length-take-le n rows (lower n (length rows) less)) ∙ none n)
    ∙ ap (λ x. numbers_where p 0 (take n rows) ++ cond {A = List ℕ} (p x) (n ∷ []) []) (sym is)
  where
    lower : (n k : ℕ) → n < k → n ≤ k
    lower n k h = omega arith

    none : (n : ℕ) → 0 + n ≡ n
    none n = omega arith

-- ---- by an id
first_more : (xs : List ℕ) (b : Bool) (n : ℕ) → slice_get (xs ++ cond {A = List ℕ} b (n ∷ []) []) 0 ≡ first_of (slice_get xs 0) (cond b (Some n) None)
first_more [] true n = refl
first_more [] false n = refl
first_more (x ∷ xs) b n = refl

pub named_more : (rows : List ElementDraft) (n : ℕ) (r : ElementDraft) (t : IdBytes) → n < length rows → r ≡ get_or rows n r
    → named (take (n + 1) rows) t ≡ first_of (named (take n rows) t) (cond (has_id t r) (Some n) None)
named_more rows n r t less is =
    ap (λ ns. slice_get ns 0) (numbers_more (has_id t) rows n r less is)
    ∙ first_more (numbers_where (has_id t) 0 (take n rows)) (has_id t r) n

pub named_last : (rows : List ElementDraft) (r : ElementDraft) (t : IdBytes)
    → named (rows ++ r ∷ []) t ≡ first_of (named rows t) (cond (has_id t r) (Some (length rows)) None)
named_last rows r t =
    ap (λ ns. slice_get ns 0) (numbers_last (has_id t) 0 rows r (length rows) (none (length rows)))
    ∙ first_more (numbers_where (has_id t) 0 rows) (has_id t r) (length rows)
  where
    none : (n : ℕ) → 0 + n ≡ n
    none n = omega arith

-- a row that keeps its id is found as before
pub named_set : (rows : List ElementDraft) (own : ℕ) (r s : ElementDraft) (t : IdBytes) → r ≡ get_or rows own r → s.id ≡ r.id
    → named (slice_set rows own s) t ≡ named rows t
named_set rows own r s t at same = ap (λ ns. slice_get ns 0) (go 0 rows own at)
  where
    go : (n : ℕ) (rows : List ElementDraft) (own : ℕ) → r ≡ get_or rows own r
        → numbers_where (has_id t) n (slice_set rows own s) ≡ numbers_where (has_id t) n rows
    go n [] own at = refl
    go n (x ∷ xs) zero at =
        ap (λ b. cond b (n ∷ numbers_where (has_id t) (suc n) xs) (numbers_where (has_id t) (suc n) xs))
        (ap (λ o. option_eq text_eq o (Some t)) same ∙ ap (has_id t) at)
    go n (x ∷ xs) (suc k) at = ap (λ ns. cond (has_id t x) (n ∷ ns) ns) (go (suc n) xs k at)

turned : (o : Option IdBytes) (t : IdBytes) → option_eq text_eq o (Some t) ≡ option_eq text_eq (Some t) o
turned None t = refl
turned (Some u) t = by (text_eq u t) refl
  where
    by : (b : Bool) → text_eq u t ≡ b → text_eq u t ≡ text_eq t u
    by true h = h ∙ sym (ap (λ x. text_eq t x) (text_equality.exact u t h) ∙ text_equality.own t)
    by false h = h ∙ sym (apart text_eq text_equality u t h)

-- an id that finds a row is one that a row has
pub named_had : (rows : List ElementDraft) (t : IdBytes) → is_some (named rows t) ≡ list_any (option_eq text_eq (Some t)) (ids_of rows)
named_had rows t = from 0 rows
  where
    step : (b : Bool) (n : ℕ) (ns : List ℕ) (any : Bool) → is_some (slice_get ns 0) ≡ any → is_some (slice_get (cond b (n ∷ ns) ns) 0) ≡ b || any
    step true n ns any h = refl
    step false n ns any h = h

    from : (n : ℕ) (rows : List ElementDraft) → is_some (slice_get (numbers_where (has_id t) n rows) 0) ≡ list_any (option_eq text_eq (Some t)) (ids_of rows)
    from n [] = refl
    from n (r ∷ rs) =
        step (has_id t r) n (numbers_where (has_id t) (suc n) rs) _ (from (suc n) rs)
        ∙ ap (λ b. b || list_any (option_eq text_eq (Some t)) (ids_of rs)) (turned r.id t)

or_none : (o : Option ℕ) → o ≡ first_of o None
or_none None = refl
or_none (Some n) = refl

-- an id that is new has the number of its row
pub name_added : (f : IdBytes → Option ℕ) (o : Option IdBytes) (id x t : IdBytes) (n : ℕ) → o ≡ Some id → x ≡ id → f id ≡ None
    → cond (text_eq x t) (Some n) (f t) ≡ first_of (f t) (cond (option_eq text_eq o (Some t)) (Some n) None)
name_added f o id x t n is same none =
    ap (λ y. cond (text_eq y t) (Some n) (f t)) same
    ∙ by (text_eq id t) refl
    ∙ ap (λ y. first_of (f t) (cond (option_eq text_eq y (Some t)) (Some n) None)) (sym is)
  where
    by : (b : Bool) → text_eq id t ≡ b → cond b (Some n) (f t) ≡ first_of (f t) (cond b (Some n) None)
    by true h = sym (ap (λ v. first_of v (Some n)) (ap f (sym (text_equality.exact id t h)) ∙ none))
    by false h = or_none (f t)

-- an id that is not new keeps its number
pub name_kept : (f : IdBytes → Option ℕ) (o : Option IdBytes) (id t : IdBytes) (n : ℕ) → o ≡ Some id → is_some (f id) ≡ true
    → f t ≡ first_of (f t) (cond (option_eq text_eq o (Some t)) (Some n) None)
name_kept f o id t n is had =
    by (text_eq id t) refl
    ∙ ap (λ y. first_of (f t) (cond (option_eq text_eq y (Some t)) (Some n) None)) (sym is)
  where
    kept : (v : Option ℕ) → is_some v ≡ true → v ≡ first_of v (Some n)
    kept None h = cc
    kept (Some v) h = refl

    by : (b : Bool) → text_eq id t ≡ b → f t ≡ first_of (f t) (cond b (Some n) None)
    by true h = kept (f t) (ap (λ y. is_some (f y)) (sym (text_equality.exact id t h)) ∙ had)
    by false h = or_none (f t)

-- ---- by a place
pub same_place : (p q : DocParent) → is_at (place_cmp (p.row, p.feature)) (q.row, q.feature) ≡ parent_eq p q
same_place p q =
    sym (tied_then (nat_cmp p.row q.row) (nat_cmp p.feature q.feature))
    ∙ ap (λ b. b && is_eq (nat_cmp p.feature q.feature)) (unsigned_tied p.row q.row)
    ∙ ap (λ b. nat_eq p.row q.row && b) (unsigned_tied p.feature q.feature)

pub child_added : (m removed more : BTreeMap (ℕ × ℕ) (List ℕ)) (parent : Option DocParent) (p q : DocParent) (n : ℕ) (v : List ℕ) → parent ≡ Some p
    → v ≡ numbers_at m p ++ n ∷ []
    → (parent_eq p q ≡ false → numbers_at removed q ≡ numbers_at m q)
    → get place_cmp more (q.row, q.feature) ≡ cond (is_at (place_cmp (p.row, p.feature)) (q.row, q.feature)) (Some v) (get place_cmp removed (q.row, q.feature))
    → numbers_at more q ≡ numbers_at m q ++ cond {A = List ℕ} (option_eq parent_eq parent (Some q)) (n ∷ []) []
child_added m removed more parent p q n v is added others h =
    ap (λ o. unwrap_or o []) h
    ∙ ap (λ b. unwrap_or (cond b (Some v) (get place_cmp removed (q.row, q.feature))) []) (same_place p q)
    ∙ by (parent_eq p q) refl
    ∙ ap (λ o. numbers_at m q ++ cond {A = List ℕ} (option_eq parent_eq o (Some q)) (n ∷ []) []) (sym is)
  where
    by : (b : Bool) → parent_eq p q ≡ b
        → unwrap_or (cond b (Some v) (get place_cmp removed (q.row, q.feature))) [] ≡ numbers_at m q ++ cond {A = List ℕ} b (n ∷ []) []
    by true same = added ∙ ap (λ r. numbers_at m r ++ n ∷ []) (parent_exact p q same)
    by false apart = others apart ∙ sym (append-nil (numbers_at m q))
