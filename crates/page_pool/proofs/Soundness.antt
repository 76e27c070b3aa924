-- The list of free frames stays right under each change of a pool.
use Rattle.std.proofs.Common.{◌≡◌, ◌≢◌, ℕ, zero, suc, ◌+◌, ◌<◌, List, [], ◌∷◌, ◌++◌, length, get_or, set, refl, sym, ap, subst, ◌∙◌, arith}
use Rattle.std.specs.Prelude.{None, Some}
use Rattle.std.proofs.lemmas.List.{length-set, length_push, get_or_push}
use Rattle.page_pool.specs.Frames.{Frames, frame_at, out_of, free_of, Changes, pool_limit}
use Rattle.page_pool.specs.Region.{IsSound}
use Rattle.page_pool.proofs.Slots.{is_within, changed, filled, emptied, kept, longer, past_end}

pub sound_none : (capacity : ℕ) → IsSound [] [] capacity
unfolding free_of
sound_none capacity = record {
  few = omega arith;
  room = omega arith;
  within = λ i h. absurd (omega (arith, h));
  empty = λ i h. absurd (omega (arith, h));
  apart = λ i j h g. absurd (omega (arith, g));
  count = refl;
}

-- an item of a list that is one longer
at_push : (P : ℕ → Type 0) (xs : List ℕ) (x : ℕ) → ((i : ℕ) → i < length xs → P (get_or xs i 0)) → P x → (i : ℕ) → i < length (xs ++ x ∷ [])
    → P (get_or (xs ++ x ∷ []) i 0)
at_push P [] x each one zero h = one
at_push P [] x each one (suc i) h = absurd (omega (arith, h))
at_push P (y ∷ ys) x each one zero h = each zero (omega arith)
at_push P (y ∷ ys) x each one (suc i) h = at_push P ys x (λ j g. each (suc j) (omega (arith, g))) one i (omega (arith, h))

apart_push : (xs : List ℕ) (x : ℕ) → ((i j : ℕ) → i < j → j < length xs → get_or xs i 0 ≢ get_or xs j 0)
    → ((i : ℕ) → i < length xs → get_or xs i 0 ≢ x) → (i j : ℕ) → i < j → j < length (xs ++ x ∷ [])
    → get_or (xs ++ x ∷ []) i 0 ≢ get_or (xs ++ x ∷ []) j 0
apart_push [] x all one i j h g = absurd (omega (arith, h, g))
apart_push (y ∷ ys) x all one i zero h g = absurd (omega (arith, h))
apart_push (y ∷ ys) x all one zero (suc j) h g =
    at_push (λ z. y ≢ z) ys x (λ k b. all zero (suc k) (omega arith) (omega (arith, b))) (one zero (omega arith)) j (omega (arith, g))
apart_push (y ∷ ys) x all one (suc i) (suc j) h g =
    apart_push ys x (λ a b c d. all (suc a) (suc b) (omega (arith, c)) (omega (arith, d))) (λ a b. one (suc a) (omega (arith, b))) i j
    (omega (arith, h)) (omega (arith, g))

in_front : (xs : List ℕ) (x i : ℕ) → i < length xs → get_or (xs ++ x ∷ []) i 0 ≡ get_or xs i 0
in_front [] x i h = absurd (omega (arith, h))
in_front (y ∷ ys) x zero h = refl
in_front (y ∷ ys) x (suc i) h = in_front ys x i (omega (arith, h))

module _ (ps : Frames) (free : List ℕ) (capacity : ℕ) (sound : IsSound ps free capacity) where
  pub sound_more : length ps < pool_limit → length ps < capacity → IsSound (ps ++ None ∷ []) (free ++ length ps ∷ []) capacity
  sound_more few room = record {
    few = omega (arith, few, size);
    room = omega (arith, room, size);
    within = at_push (λ k. k < length (ps ++ None ∷ [])) free (length ps) (λ i h. let w = sound.within i h in omega (arith, w, size)) (omega (arith, size));
    empty = at_push (λ k. frame_at (ps ++ None ∷ []) k ≡ None) free (length ps) (λ i h. more.0 (get_or free i 0) ∙ sound.empty i h)
        (more.0 (length ps) ∙ past_end ps (length ps) (omega arith));
    apart = apart_push free (length ps) sound.apart (λ i h is. let w = sound.within i h in omega (arith, w, is));
    count = let c = sound.count in let l = length_push free (length ps) in omega (arith, more.2, c, l);
  }
    where
      size : length (ps ++ None ∷ []) ≡ length ps + 1
      size = length_push ps None

      more : ((k : ℕ) → frame_at (ps ++ None ∷ []) k ≡ frame_at ps k) × (out_of (ps ++ None ∷ []) ≡ out_of ps) × (free_of (ps ++ None ∷ []) ≡ free_of ps + 1)
      more = longer ps

  pub sound_written : (k : ℕ) (b c : List ℕ) → frame_at ps k ≡ Some b → IsSound (set ps k (Some c)) free capacity
  sound_written k b c is = record {
    few = let l = length-set ps k (Some c) in let f = sound.few in omega (arith, l, f);
    room = let l = length-set ps k (Some c) in let f = sound.room in omega (arith, l, f);
    within = λ i h. let l = length-set ps k (Some c) in let w = sound.within i h in omega (arith, l, w);
    empty = λ i h. (changed ps k (Some c) (is_within ps k b is)).others (get_or free i 0) (λ same. clash (get_or free i 0) same (sound.empty i h))
        ∙ sound.empty i h;
    apart = sound.apart;
    count = sound.count ∙ sym (kept ps k b c is).1;
  }
    where
      clash : (j : ℕ) → j ≡ k → frame_at ps j ≡ None → ⊥
      clash j same none = cc

  pub sound_given : (k : ℕ) (b : List ℕ) → frame_at ps k ≡ Some b → IsSound (set ps k None) (free ++ k ∷ []) capacity
  sound_given k b is = record {
    few = let f = sound.few in omega (arith, size, f);
    room = let f = sound.room in omega (arith, size, f);
    within = at_push (λ j. j < length (set ps k None)) free k (λ i h. let w = sound.within i h in omega (arith, size, w))
        (let w = is_within ps k b is in omega (arith, size, w));
    empty = at_push (λ j. frame_at (set ps k None) j ≡ None) free k
        (λ i h. changes.others (get_or free i 0) (λ same. clash (get_or free i 0) same (sound.empty i h)) ∙ sound.empty i h) changes.at;
    apart = apart_push free k sound.apart (λ i h same. clash (get_or free i 0) same (sound.empty i h));
    count = let l = length_push free k in let s = sound.count in let e = (emptied ps k b is).1 in omega (arith, l, s, e);
  }
    where
      size : length (set ps k None) ≡ length ps
      size = length-set ps k None

      changes : Changes ps (set ps k None) k None
      changes = changed ps k None (is_within ps k b is)

      clash : (j : ℕ) → j ≡ k → frame_at ps j ≡ None → ⊥
      clash j same none = cc

-- the last of the list is taken
module _ (ps : Frames) (rest : List ℕ) (k capacity : ℕ) (sound : IsSound ps (rest ++ k ∷ []) capacity) where
  last : get_or (rest ++ k ∷ []) (length rest) 0 ≡ k
  last = get_or_push rest k 0 (length rest) refl

  more : length (rest ++ k ∷ []) ≡ length rest + 1
  more = length_push rest k

  pub last_within : k < length ps
  last_within = subst (λ n. n < length ps) last (sound.within (length rest) (omega (arith, more)))

  pub last_free : frame_at ps k ≡ None
  last_free = subst (λ n. frame_at ps n ≡ None) last (sound.empty (length rest) (omega (arith, more)))

  front_is : (i : ℕ) → i < length rest → get_or (rest ++ k ∷ []) i 0 ≡ get_or rest i 0
  front_is i h = in_front rest k i h

  other : (i : ℕ) → i < length rest → get_or rest i 0 ≢ k
  other i h same = sound.apart i (length rest) h (omega (arith, more)) (front_is i h ∙ same ∙ sym last)

  pub sound_taken : (b : List ℕ) → IsSound (set ps k (Some b)) rest capacity
  sound_taken b = record {
    few = let f = sound.few in omega (arith, size, f);
    room = let f = sound.room in omega (arith, size, f);
    within = λ i h. let w = sound.within i (omega (arith, h, more)) in let e = front_is i h in omega (arith, w, e, size);
    empty = λ i h. changes.others (get_or rest i 0) (other i h) ∙ ap (frame_at ps) (sym (front_is i h)) ∙ sound.empty i (omega (arith, h, more));
    apart = λ i j h g same. sound.apart i j h (omega (arith, g, more)) (front_is i (omega (arith, h, g)) ∙ same ∙ sym (front_is j g));
    count = let c = sound.count in let f = (filled ps k b last_within last_free).1 in omega (arith, c, f, more);
  }
    where
      size : length (set ps k (Some b)) ≡ length ps
      size = length-set ps k (Some b)

      changes : Changes ps (set ps k (Some b)) k (Some b)
      changes = changed ps k (Some b) last_within
