-- What each call of a pool does, where the fields are those of the value.
use Rattle.std.proofs.Common.{◌≡◌, ℕ, ◌<◌, List, [], ◌∷◌, ◌++◌, length, get_or, set, refl, sym, ap, subst, ◌∙◌, arith}
use Rattle.std.specs.Prelude.{Option, None, Some, IfSome}
use Rattle.std.proofs.lemmas.List.{get_or_default}
use Rattle.page_pool.specs.Frames.{Frames, frame_at, IsOut, Changes, IsTaken, IsGiven, IsWritten, overwritten, zeros, pool_limit}
use Rattle.page_pool.specs.Region.{IsSound}
use Rattle.page_pool.proofs.Slots.{counted, is_within, changed, filled, emptied, kept}
use Rattle.page_pool.proofs.Soundness.{sound_more, sound_written, sound_given, sound_taken, last_within, last_free}

-- the bytes of a frame that is out
pub bytes_of : (ps : Frames) (k : ℕ) → IsOut ps k → (b : List ℕ) × (frame_at ps k ≡ Some b)
bytes_of ps k out = (out.bytes, out.is)

pub out_within : (ps qs : Frames) (k j : ℕ) → qs ≡ ps → j ≡ k → IsOut ps k → j < length qs
out_within ps qs k j is same out = let b = bytes_of ps k out in let w = is_within ps k b.0 b.1 in let l = ap length is in omega (arith, w, l, same)

-- what a read of the region gives
pub read_at : (ps qs : Frames) (k j : ℕ) (x : Option (List ℕ)) → qs ≡ ps → j ≡ k → IsOut ps k → x ≡ get_or qs j x → frame_at ps k ≡ x
unfolding frame_at
read_at ps qs k j x is same out read =
    ap (λ (l : Frames). get_or l k None) (sym is) ∙ ap (λ (i : ℕ). get_or qs i None) (sym same)
    ∙ get_or_default qs j None x (out_within ps qs k j is same out) ∙ sym read

pub not_none : (ps qs : Frames) (k j : ℕ) (x : Option (List ℕ)) → qs ≡ ps → j ≡ k → IsOut ps k → x ≡ get_or qs j x → x ≡ None → ⊥
not_none ps qs k j x is same out read none = let b = bytes_of ps k out in let r = read_at ps qs k j x is same out read
    in clash (frame_at ps k) b.0 b.1 (r ∙ none)
  where
    clash : (o : Option (List ℕ)) (b : List ℕ) → o ≡ Some b → o ≡ None → ⊥
    clash o b some none = cc

pub taken_sound : (ps : Frames) (free rest : List ℕ) (k cap cap' : ℕ) (b : List ℕ) → IsSound ps free cap → free ≡ rest ++ k ∷ [] → cap' ≡ cap
    → IsSound (set ps k (Some b)) rest cap'
taken_sound ps free rest k cap cap' b sound is same =
    subst (λ (n : ℕ). IsSound (set ps k (Some b)) rest n) (sym same) (sound_taken ps rest k cap (subst (λ (l : List ℕ). IsSound ps l cap) is sound) b)

pub is_taken : (ps qs : Frames) (free rest : List ℕ) (k cap : ℕ) (b : List ℕ) → qs ≡ ps → IsSound qs free cap → free ≡ rest ++ k ∷ [] → b ≡ zeros
    → IsTaken ps (set qs k (Some b)) k
is_taken ps qs free rest k cap b view sound is all_zero = subst (λ (l : Frames). IsTaken l (set qs k (Some b)) k) view (record {
  was_free = none;
  changes = subst (λ (z : List ℕ). Changes qs (set qs k (Some b)) k (Some z)) all_zero (changed qs k (Some b) within);
  out = (filled qs k b within none).0;
  free = (filled qs k b within none).1;
})
  where
    sound' : IsSound qs (rest ++ k ∷ []) cap
    sound' = subst (λ (l : List ℕ). IsSound qs l cap) is sound

    within : k < length qs
    within = last_within qs rest k cap sound'

    none : frame_at qs k ≡ None
    none = last_free qs rest k cap sound'

module _ (ps qs : Frames) (k j : ℕ) (view : qs ≡ ps) (same : j ≡ k) (out : IsOut ps k) where
  there : (b : List ℕ) × (frame_at qs j ≡ Some b)
  there = let b = bytes_of ps k out in (b.0, ap (λ (l : Frames). frame_at l j) view ∙ ap (λ (i : ℕ). frame_at ps i) same ∙ b.1)

  pub given_sound : (free free' : List ℕ) (cap cap' : ℕ) → IsSound qs free cap → free' ≡ free ++ j ∷ [] → cap' ≡ cap → IsSound (set qs j None) free' cap'
  given_sound free free' cap cap' sound is cap_is =
      subst (λ (l : List ℕ). IsSound (set qs j None) l cap') (sym is)
      (subst (λ (n : ℕ). IsSound (set qs j None) (free ++ j ∷ []) n) (sym cap_is) (sound_given qs free cap sound j there.0 there.1))

  pub is_given : IsGiven ps (set qs j None) k
  is_given = subst (λ (l : Frames). IsGiven l (set qs j None) k) view (subst (λ (i : ℕ). IsGiven qs (set qs j None) i) same (record {
    changes = changed qs j None (is_within qs j there.0 there.1);
    out = (emptied qs j there.0 there.1).0;
    free = (emptied qs j there.0 there.1).1;
  }))

  -- a frame that is out stands in no list of free frames
  pub has_room : (free : List ℕ) (cap : ℕ) → IsSound qs free cap → length free < cap
  has_room free cap sound =
      let c = sound.count in
      let r = sound.room in
      let e = (emptied qs j there.0 there.1).0 in
      let n = counted qs in
      omega (arith, c, r, e, n)

  pub written_sound : (free : List ℕ) (cap : ℕ) (c : List ℕ) → IsSound qs free cap → IsSound (set qs j (Some c)) free cap
  written_sound free cap c sound = sound_written qs free cap sound j there.0 c there.1

  pub is_written : (c : List ℕ) → IsWritten ps (set qs j (Some c)) k c
  is_written c = subst (λ (l : Frames). IsWritten l (set qs j (Some c)) k c) view (subst (λ (i : ℕ). IsWritten qs (set qs j (Some c)) i c) same (record {
    changes = changed qs j (Some c) (is_within qs j there.0 there.1);
    out = (kept qs j there.0 c there.1).0;
    free = (kept qs j there.0 c there.1).1;
  }))

  -- the frame's bytes, where a part of them is written over
  pub is_overwritten : (x : Option (List ℕ)) (page new : List ℕ) (at : ℕ) (bytes : List ℕ) → x ≡ get_or qs j x → x ≡ Some page
      → new ≡ overwritten page at bytes → IfSome (frame_at ps k) (λ old. IsWritten ps (set qs j (Some new)) k (overwritten old at bytes))
  is_overwritten x page new at bytes read is over =
      subst (λ (o : Option (List ℕ)). IfSome o (λ old. IsWritten ps (set qs j (Some new)) k (overwritten old at bytes)))
      (sym (read_at ps qs k j x view same out read ∙ is))
      (subst (λ (b : List ℕ). IsWritten ps (set qs j (Some new)) k b) over (is_written new))

  -- what is written where the frame stands
  pub is_changed : (x y : Option (List ℕ)) (at : ℕ) (bytes : List ℕ) → x ≡ get_or qs j x → IfSome x (λ old. y ≡ Some (overwritten old at bytes))
      → (c : List ℕ) × (y ≡ Some c) × IfSome (frame_at ps k) (λ old. IsWritten ps (set qs j (Some c)) k (overwritten old at bytes))
  is_changed x y at bytes read over =
      let b = bytes_of ps k out in
      let is : x ≡ Some b.0 = sym (read_at ps qs k j x view same out read) ∙ b.1 in
      let c : List ℕ = overwritten b.0 at bytes in
      (c, subst (λ (o : Option (List ℕ)). IfSome o (λ old. y ≡ Some (overwritten old at bytes))) is over, is_overwritten x b.0 c at bytes read is refl)

-- one more free frame
pub one_more : (ps ps' : Frames) (free free' : List ℕ) (n cap cap' : ℕ) → IsSound ps free cap → ps' ≡ ps ++ None ∷ [] → free' ≡ free ++ n ∷ []
    → n ≡ length ps → cap' ≡ cap → length ps < pool_limit → length ps < cap → IsSound ps' free' cap'
one_more ps ps' free free' n cap cap' sound is free_is n_is cap_is few room =
    subst (λ (l : Frames). IsSound l free' cap') (sym is)
    (subst (λ (l : List ℕ). IsSound (ps ++ None ∷ []) l cap') (sym (free_is ∙ ap (λ (i : ℕ). free ++ i ∷ []) n_is))
    (subst (λ (i : ℕ). IsSound (ps ++ None ∷ []) (free ++ length ps ∷ []) i) (sym cap_is) (sound_more ps free cap sound few room)))
