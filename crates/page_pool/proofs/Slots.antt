-- Frames by their numbers: what a write of one changes, and how many are out.
use Rattle.std.proofs.Common.{◌≡◌, ℕ, zero, suc, ◌+◌, ◌<◌, ◌≤◌, List, [], ◌∷◌, ◌++◌, length, set, refl, arith}
use Rattle.std.specs.Prelude.{Option, None, Some}
use Rattle.std.proofs.lemmas.List.{get_or-set_same, get_or-set_other}
use Rattle.page_pool.specs.Frames.{Frames, frame_at, out_of, free_of, Changes, SameFrames}

-- each frame is out or free
pub counted : (ps : Frames) → out_of ps + free_of ps ≡ length ps
unfolding out_of free_of
counted [] = refl
counted (None ∷ ps) = let h = counted ps in omega (arith, h)
counted (Some b ∷ ps) = let h = counted ps in omega (arith, h)

-- a frame that is out is in the region
pub is_within : (ps : Frames) (k : ℕ) (b : List ℕ) → frame_at ps k ≡ Some b → k < length ps
unfolding frame_at
is_within [] k b h = cc
is_within (p ∷ ps) zero b h = omega arith
is_within (p ∷ ps) (suc k) b h = let r = is_within ps k b h in omega (arith, r)

pub changed : (ps : Frames) (k : ℕ) (now : Option (List ℕ)) → k < length ps → Changes ps (set ps k now) k now
unfolding frame_at
changed ps k now h = record {
  at = get_or-set_same ps k now None h;
  others = λ j other. get_or-set_other ps k j now None other;
}

-- the counts after a write of a frame that was free, of one that was out, and of one that stays out
pub filled : (ps : Frames) (k : ℕ) (b : List ℕ) → k < length ps → frame_at ps k ≡ None
    → (out_of (set ps k (Some b)) ≡ out_of ps + 1) × (free_of (set ps k (Some b)) + 1 ≡ free_of ps)
unfolding frame_at out_of free_of
filled [] k b h is = absurd (omega (arith, h))
filled (None ∷ ps) zero b h is = (refl, refl)
filled (Some c ∷ ps) zero b h is = cc
filled (None ∷ ps) (suc k) b h is = let r = filled ps k b (omega (arith, h)) is in (r.0, omega (arith, r.1))
filled (Some c ∷ ps) (suc k) b h is = let r = filled ps k b (omega (arith, h)) is in (omega (arith, r.0), r.1)

pub emptied : (ps : Frames) (k : ℕ) (b : List ℕ) → frame_at ps k ≡ Some b
    → (out_of (set ps k None) + 1 ≡ out_of ps) × (free_of (set ps k None) ≡ free_of ps + 1)
unfolding frame_at out_of free_of
emptied [] k b is = cc
emptied (None ∷ ps) zero b is = cc
emptied (Some c ∷ ps) zero b is = (refl, refl)
emptied (None ∷ ps) (suc k) b is = let r = emptied ps k b is in (r.0, omega (arith, r.1))
emptied (Some c ∷ ps) (suc k) b is = let r = emptied ps k b is in (omega (arith, r.0), r.1)

pub kept : (ps : Frames) (k : ℕ) (b c : List ℕ) → frame_at ps k ≡ Some b → (out_of (set ps k (Some c)) ≡ out_of ps) × (free_of (set ps k (Some c)) ≡ free_of ps)
unfolding frame_at out_of free_of
kept [] k b c is = (refl, refl)
kept (None ∷ ps) zero b c is = cc
kept (Some d ∷ ps) zero b c is = (refl, refl)
kept (None ∷ ps) (suc k) b c is = let r = kept ps k b c is in (r.0, omega (arith, r.1))
kept (Some d ∷ ps) (suc k) b c is = let r = kept ps k b c is in (omega (arith, r.0), r.1)

front_same : (p : Option (List ℕ)) (ps qs : Frames) → SameFrames ps qs → SameFrames (p ∷ ps) (p ∷ qs)
unfolding frame_at
front_same p ps qs h zero = refl
front_same p ps qs h (suc k) = h k

none_same : SameFrames [] (None ∷ [])
unfolding frame_at
none_same zero = refl
none_same (suc k) = refl

-- one more frame, which is free
pub longer : (ps : Frames) → SameFrames ps (ps ++ None ∷ []) × (out_of (ps ++ None ∷ []) ≡ out_of ps) × (free_of (ps ++ None ∷ []) ≡ free_of ps + 1)
unfolding out_of free_of
longer [] = (none_same, refl, refl)
longer (None ∷ ps) = let r = longer ps in (front_same None ps (ps ++ None ∷ []) r.0, r.1, omega (arith, r.2))
longer (Some b ∷ ps) = let r = longer ps in (front_same (Some b) ps (ps ++ None ∷ []) r.0, omega (arith, r.1), r.2)

pub past_end : (ps : Frames) (k : ℕ) → length ps ≤ k → frame_at ps k ≡ None
unfolding frame_at
past_end [] k h = refl
past_end (p ∷ ps) zero h = absurd (omega (arith, h))
past_end (p ∷ ps) (suc k) h = past_end ps k (omega (arith, h))
