-- What a store and a yield leave.
use Rattle.std.proofs.Common.{◌≡◌, ◌⊎◌, inl, inr, ℕ, zero, suc, ◌+◌, ◌-◌, ◌<◌, ◌≤◌, List, [], ◌∷◌, length, take, drop, min, ◌^◌, refl, sym, ap, subst}
use Rattle.std.proofs.Common.{◌∙◌, arith, length-append}
use Rattle.std.specs.Prelude.{nat_eq, Option, None, Some}
use Rattle.std.specs.Map.{remove_entry}
use Rattle.std.proofs.lemmas.List.{length-take}
use Rattle.page_pool.specs.Frames.{Frames, frame_at, out_of, free_of, SameFrames, pool_limit}
use Rattle.page_pool.specs.Paged.{PagedState, IsAmong, AreFree, KeepsOthers, HoldsBytes, frames_for}
use Rattle.page_pool.proofs.Among.{among_split, all_kept, out_append, out_each, out_not_free}
use Rattle.state_cache.specs.Entries.{Entries, held, IsCached, IsFirst, KeepsApart, Released, Keeps, Fits, IsStored, IsYielded, most_entry_bytes}
use Rattle.state_cache.specs.Entries.{most_frames_held, most_held}
use Rattle.state_cache.proofs.Listed.{stands_kept, length-held_remove}
use Rattle.state_cache.proofs.Releasing.{no_more_than_out}
use Rattle.state_cache.proofs.Popping.{length-held_take}

some_none : (o : Option (List ℕ)) (bytes : List ℕ) → o ≡ Some bytes → o ≡ None → ⊥
some_none o bytes is none = cc

-- the place of an entry whose bytes are not written yet
abbrev pub bare : PagedState
bare = record { frames = []; size = 0 }

-- the entries that stay after the first one
pub record Room (others needed version : ℕ) (removed kept : Entries) : Type 0 where
  pub rest : Entries
  pub is : kept ≡ (version, bare) ∷ rest
  pub keeps : Keeps (λ entries frames. Fits most_held most_frames_held others needed (entries + 1) frames) removed rest
  pub fits : Fits most_held most_frames_held others needed (length rest + 1) (length (held rest))

fits_at : (others needed n m f g : ℕ) → n ≡ m → f ≡ g → Fits most_held most_frames_held others needed n f → Fits most_held most_frames_held others needed m g
fits_at others needed n m f g same alike fits =
    subst (λ (k : ℕ). Fits most_held most_frames_held others needed k g) same
    (subst (λ (k : ℕ). Fits most_held most_frames_held others needed n k) alike fits)

pub room_of : (others needed version result : ℕ) (removed kept : Entries) → others ≤ most_frames_held → needed ≤ 2048
    → Keeps (Fits most_held most_frames_held others needed) ((version, bare) ∷ removed) kept → result ≡ length (held kept)
    → Fits most_held most_frames_held others needed (length kept) result ⊎ (kept ≡ []) → Room others needed version removed kept
room_of others needed version result removed kept few small keeps counted fits = at keeps.count keeps.first keeps.no_more
  where
    one : Fits most_held most_frames_held others needed 1 0
    one = record { entries_fit = omega arith; frames_fit = omega (arith, small); out_fits = omega (arith, few, small) }

    not_empty : (xs : Entries) (x : ℕ × PagedState) → kept ≡ x ∷ xs → kept ≡ [] → ⊥
    not_empty xs x is none = cc

    at : (n : ℕ) → kept ≡ take n ((version, bare) ∷ removed)
        → (n < length ((version, bare) ∷ removed)
        → ¬ Fits most_held most_frames_held others needed (suc n) (length (held (take (suc n) ((version, bare) ∷ removed)))))
        → Room others needed version removed kept
    at zero is more = absurd (more (omega arith) one)
    at (suc j) is more = record {
      rest = take j removed;
      is = is;
      keeps = record {
        count = j;
        first = refl;
        no_more = λ h fit. let e : suc j + 1 ≡ suc (suc j) = omega arith
            in more (omega (arith, h))
            (fits_at others needed (suc j + 1) (suc (suc j)) (length (held (take (suc j) removed))) (length (held (take (suc j) removed))) e refl fit);
      };
      fits = elim fits [
        | inl fit ↦ fits_at others needed (length kept) (length (take j removed) + 1) result (length (held (take j removed)))
            (let l = ap (λ (es : Entries). length es) is in omega (arith, l)) (counted ∙ ap (λ (es : Entries). length (held es)) is) fit
        | inr none ↦ absurd (not_empty (take j removed) (version, bare) is none)
      ];
    }

module _ (p0 p1 p2 p3 : Frames) (old kept : Entries) (version needed frames result : ℕ) (cached : IsCached p0 old)
    (few : out_of p0 ≤ most_frames_held + length (held old)) (small : needed ≤ 2048) (same : SameFrames p0 p1) (out1 : out_of p1 ≡ out_of p0)
    (given : Released p1 p2 (held old) (held (remove_entry (nat_eq version) old))) (frames_is : frames ≡ length (held (remove_entry (nat_eq version) old)))
    (evicted : Released p2 p3 (held (remove_entry (nat_eq version) old)) (held kept))
    (keeps : Keeps (Fits most_held most_frames_held (out_of p2 - frames) needed) ((version, bare) ∷ remove_entry (nat_eq version) old) kept)
    (counted : result ≡ length (held kept))
    (fits : Fits most_held most_frames_held (out_of p2 - frames) needed (length kept) result ⊎ (kept ≡ [])) where
  abbrev removed : Entries
  removed = remove_entry (nat_eq version) old

  abbrev others : ℕ
  others = out_of p2 - frames

  others_is : out_of p0 ≡ others + length (held old)
  others_is =
      let n = no_more_than_out p2 (held removed) given.out in
      let o = given.outs in
      omega (arith, n, o, out1, frames_is)

  pub few_others : others ≤ most_frames_held
  few_others = let o = others_is in omega (arith, o, few)

  pub room : Room others needed version removed kept
  room = room_of others needed version result removed kept few_others small keeps counted fits

  held_same : held kept ≡ held room.rest
  held_same = ap (λ (es : Entries). held es) room.is

  evicted' : Released p2 p3 (held removed) (held room.rest)
  evicted' = subst (λ (l : List ℕ). Released p2 p3 (held removed) l) held_same evicted

  out_is : out_of p3 ≡ others + length (held room.rest)
  out_is =
      let e = evicted'.outs in
      let n = no_more_than_out p2 (held removed) given.out in
      omega (arith, e, n, frames_is)

  -- the frames that were reserved are enough
  pub enough : (possible out free : ℕ) → out ≡ out_of p0 → out ≤ pool_limit → possible ≡ min needed (pool_limit - out) → possible ≤ free_of p1
      → needed ≤ free_of p3
  enough possible out free is limit possible_is freed =
      let o = out_is in
      let f = room.fits.out_fits in
      let a = given.total in
      let b = evicted'.total in
      let r = length-held_remove (nat_eq version) old in
      let l = length-held_take room.keeps.count removed in
      let k = ap (λ (es : Entries). length (held es)) room.keeps.first in
      let h = others_is in
      omega (arith, o, f, a, b, is, limit, possible_is, freed, out1, r, l, k, h)

  module _ (p4 : Frames) (bytes : List ℕ) (paged : PagedState) (needed_is : needed ≡ frames_for (length bytes)) (holds : HoldsBytes p4 paged bytes)
      (fresh : AreFree p3 paged.frames) (apart : KeepsOthers p3 p4 paged.frames) (outs : out_of p4 ≡ out_of p3 + frames_for (length bytes)) where
    abbrev new : Entries
    new = (version, paged) ∷ room.rest

    not_fresh : (k : ℕ) → IsAmong k (held room.rest) → IsAmong k paged.frames → ⊥
    not_fresh k h g = out_not_free p3 k (out_each p3 (held room.rest) k evicted'.out h) (fresh k g)

    rest_kept : (k : ℕ) → IsAmong k (held room.rest) → frame_at p4 k ≡ frame_at p3 k
    rest_kept k h = apart k (not_fresh k h)

    pub new_cached : IsCached p4 new
    new_cached = out_append p4 paged.frames (held room.rest) holds.out (all_kept p3 p4 (held room.rest) rest_kept evicted'.out) (λ k h g. not_fresh k g h)

    pub new_apart : KeepsApart p0 p4 old new
    new_apart k now not_old is =
        let there : frame_at p3 k ≡ Some now = evicted'.others k (λ h. not_old (given.within k h)) ∙ given.others k not_old ∙ same k ∙ is in
        let not_fresh_one : ¬ IsAmong k paged.frames = λ h. some_none (frame_at p3 k) now there (fresh k h) in (
          λ h. elim (among_split k paged.frames (held room.rest) h) [
            | inl a ↦ not_fresh_one a
            | inr b ↦ not_old (given.within k (evicted'.within k b))
          ],
          apart k not_fresh_one ∙ there,
        )

    pub new_counted : length (held new) ≡ length (held room.rest) + needed
    new_counted = let a = length-append paged.frames (held room.rest) in let c = holds.count in omega (arith, a, c, needed_is)

    pub new_few : length new ≤ most_held
    new_few = let e = room.fits.entries_fit in omega (arith, e)

    pub new_small : length (held new) ≤ most_frames_held
    new_small = let c = new_counted in let f = room.fits.frames_fit in omega (arith, c, f)

    pub is_stored : IsStored p0 p4 version bytes old new
    is_stored = record {
      paged = paged;
      rest = room.rest;
      is = refl;
      bytes_are = holds.content_is;
      frames = holds.count;
      others = others;
      out_before = others_is;
      out_after = let o = out_is in let c = new_counted in omega (arith, o, c, outs, needed_is);
      kept = subst (λ (n : ℕ). Keeps (λ e f. Fits most_held most_frames_held others n (e + 1) f) removed room.rest) needed_is room.keeps;
      room = subst (λ (n : ℕ). Fits most_held most_frames_held others n (length room.rest + 1) (length (held room.rest))) needed_is room.fits;
      same = stands_kept p0 p4 room.rest (λ k h. rest_kept k h ∙ evicted'.kept k h ∙ given.kept k (evicted'.within k h) ∙ same k);
    }

-- what a yield leaves
module _ (before after : Frames) (old new : Entries) (frames result needed : ℕ) (cached : IsCached before old) (few : length old ≤ most_held)
    (small : frames ≤ most_frames_held) (low : needed < 2 ^ 32) (frames_is : frames ≡ length (held old))
    (released : Released before after (held old) (held new)) (counted : result ≡ length (held new))
    (keeps : Keeps (Fits most_held 8589934592 (out_of before - frames) needed) old new)
    (fits : Fits most_held 8589934592 (out_of before - frames) needed (length new) result ⊎ (new ≡ [])) where
  yields_before : out_of before ≡ (out_of before - frames) + length (held old)
  yields_before = let n = no_more_than_out before (held old) cached in omega (arith, n, frames_is)

  yields_after : out_of after ≡ (out_of before - frames) + length (held new)
  yields_after = let b = yields_before in let o = released.outs in omega (arith, b, o)

  pub is_yielded : IsYielded before after needed old new
  is_yielded = record {
    others = out_of before - frames;
    out_before = yields_before;
    out_after = yields_after;
    kept = record {
      count = keeps.count;
      first = keeps.first;
      no_more = λ h enough. let l = length-held_take (suc keeps.count) old in keeps.no_more h (record {
        entries_fit = omega (arith, h, few);
        frames_fit = omega (arith, l, small, low, frames_is);
        out_fits = enough;
      });
    };
    enough = elim fits [
      | inl fit ↦ inl (let f = fit.out_fits in let a = yields_after in omega (arith, f, a, counted))
      | inr none ↦ inr none
    ];
    same = stands_kept before after new released.kept;
  }

  pub yielded_apart : KeepsApart before after old new
  yielded_apart k now not_old is = (λ h. not_old (released.within k h), released.others k not_old ∙ is)

  pub yielded_few : length new ≤ most_held
  yielded_few = let l = length-take keeps.count old in let f = ap (λ (es : Entries). length es) keeps.first in omega (arith, l, f, few)

  pub yielded_small : result ≤ most_frames_held
  yielded_small = let l = length-held_take keeps.count old in let f = ap (λ (es : Entries). length (held es)) keeps.first
      in omega (arith, l, f, counted, small, frames_is)

-- a store, call by call
module _ (p0 p1 p2 p3 : Frames) (old0 old e2 e3 : Entries) (version needed count given result size : ℕ) (view : old ≡ old0)
    (cached : IsCached p0 old0) (few : out_of p0 ≤ most_frames_held + length (held old0)) (needed_is : needed ≡ frames_for size)
    (short : size ≤ most_entry_bytes) (same : SameFrames p0 p1) (out1 : out_of p1 ≡ out_of p0)
    (counted : count ≡ length (held old)) (released : Released p1 p2 (held old) (held (remove_entry (nat_eq version) old)))
    (given_is : given + length (held (remove_entry (nat_eq version) old)) ≡ length (held old))
    (e2_is : e2 ≡ (version, bare) ∷ remove_entry (nat_eq version) old) (evicted : Released p2 p3 (held e2) (held e3))
    (keeps : Keeps (Fits most_held most_frames_held (out_of p2 - (count - given)) needed) e2 e3) (result_is : result ≡ length (held e3))
    (fits : Fits most_held most_frames_held (out_of p2 - (count - given)) needed (length e3) result ⊎ (e3 ≡ [])) where
  pub cached_old : IsCached p0 old
  cached_old = subst (λ (es : Entries). IsCached p0 es) (sym view) cached

  pub few_old : out_of p0 ≤ most_frames_held + length (held old)
  few_old = let v = ap (λ (es : Entries). length (held es)) view in omega (arith, v, few)

  pub small : needed ≤ 2048
  small = omega (arith, needed_is, short)

  pub left_is : count - given ≡ length (held (remove_entry (nat_eq version) old))
  left_is = omega (arith, counted, given_is)

  pub evicted_old : Released p2 p3 (held (remove_entry (nat_eq version) old)) (held e3)
  evicted_old = subst (λ (es : Entries). Released p2 p3 (held es) (held e3)) e2_is evicted

  pub keeps_old : Keeps (Fits most_held most_frames_held (out_of p2 - (count - given)) needed) ((version, bare) ∷ remove_entry (nat_eq version) old) e3
  keeps_old = subst (λ (es : Entries). Keeps (Fits most_held most_frames_held (out_of p2 - (count - given)) needed) es e3) e2_is keeps

  abbrev pub store_room : Room (out_of p2 - (count - given)) needed version (remove_entry (nat_eq version) old) e3
  store_room = room p0 p1 p2 p3 old e3 version needed
      (count - given) result cached_old few_old small same out1 released left_is evicted_old keeps_old result_is fits

  pub store_enough : (possible out : ℕ) → out ≡ out_of p0 → out ≤ pool_limit → possible ≡ min needed (pool_limit - out) → possible ≤ free_of p1
      → frames_for size ≤ free_of p3
  store_enough possible out is limit possible_is freed =
      let e = enough p0 p1 p2 p3 old e3 version needed
      (count - given) result cached_old few_old small same out1 released left_is evicted_old keeps_old result_is fits possible out 0 is limit
      possible_is freed in
      omega (arith, e, needed_is)

  pub store_first : IsFirst version e3
  store_first = subst (λ (es : Entries). IsFirst version es) (sym store_room.is) refl

  module _ (p4 : Frames) (bytes : List ℕ) (paged : PagedState) (new : Entries) (size_is : size ≡ length bytes) (holds : HoldsBytes p4 paged bytes)
      (fresh : AreFree p3 paged.frames) (apart : KeepsOthers p3 p4 paged.frames) (outs : out_of p4 ≡ out_of p3 + frames_for (length bytes))
      (new_is : new ≡ (version, paged) ∷ drop 1 e3) where
    needs : needed ≡ frames_for (length bytes)
    needs = needed_is ∙ ap (λ (n : ℕ). frames_for n) size_is

    final : new ≡ (version, paged) ∷ store_room.rest
    final = new_is ∙ ap (λ (es : Entries). (version, paged) ∷ drop 1 es) store_room.is

    pub store_stored : IsStored p0 p4 version bytes old0 new
    store_stored = subst (λ (es : Entries). IsStored p0 p4 version bytes es new) view (subst (λ (es : Entries). IsStored p0 p4 version bytes old es) (sym final)
        (is_stored p0 p1 p2 p3 old e3 version needed
        (count - given) result cached_old few_old small same out1 released left_is evicted_old keeps_old result_is fits p4 bytes paged needs holds
        fresh apart outs))

    pub store_cached : IsCached p4 new
    store_cached = subst (λ (es : Entries). IsCached p4 es) (sym final)
        (new_cached p0 p1 p2 p3 old e3 version needed
        (count - given) result cached_old few_old small same out1 released left_is evicted_old keeps_old result_is fits p4 bytes paged needs holds
        fresh apart outs)

    pub store_apart : KeepsApart p0 p4 old0 new
    store_apart = subst (λ (es : Entries). KeepsApart p0 p4 es new) view (subst (λ (es : Entries). KeepsApart p0 p4 old es) (sym final)
        (new_apart p0 p1 p2 p3 old e3 version needed
        (count - given) result cached_old few_old small same out1 released left_is evicted_old keeps_old result_is fits p4 bytes paged needs holds
        fresh apart outs))

    pub store_counted : result + needed ≡ length (held new)
    store_counted =
        let n = new_counted p0 p1 p2 p3 old e3 version needed
        (count - given) result cached_old few_old small same out1 released left_is evicted_old keeps_old result_is fits p4 bytes paged needs holds
        fresh apart outs in
        let f = ap (λ (es : Entries). length (held es)) final in
        let r = ap (λ (es : Entries). length (held es)) store_room.is in
        omega (arith, n, f, r, result_is)

    pub store_few : length new ≤ most_held
    store_few =
        let n = new_few p0 p1 p2 p3 old e3 version needed
        (count - given) result cached_old few_old small same out1 released left_is evicted_old keeps_old result_is fits p4 bytes paged needs holds
        fresh apart outs in
        let f = ap (λ (es : Entries). length es) final in
        omega (arith, n, f)

    pub store_small : result + needed ≤ most_frames_held
    store_small =
        let n = new_small p0 p1 p2 p3 old e3 version needed
        (count - given) result cached_old few_old small same out1 released left_is evicted_old keeps_old result_is fits p4 bytes paged needs holds
        fresh apart outs in
        let f = ap (λ (es : Entries). length (held es)) final in
        let c = store_counted in
        omega (arith, n, f, c)
