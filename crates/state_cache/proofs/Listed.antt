-- Entries, what they stand for, and the frames that they hold.
use Rattle.std.proofs.Common.{◌≡◌, inl, inr, ℕ, ◌+◌, ◌-◌, ◌<◌, ◌≤◌, Bool, true, false, cond, List, [], ◌∷◌, ◌++◌, length, take, refl, sym, ap, subst}
use Rattle.std.proofs.Common.{◌∙◌, arith, length-append}
use Rattle.std.specs.Prelude.{Option, None, Some, option_map, nat_eq}
use Rattle.std.proofs.lemmas.List.{take_all}
use Rattle.std.proofs.lemmas.Bool.{eqb-true}
use Rattle.std.specs.Option.{option_map_or}
use Rattle.std.specs.Map.{lookup, lookup_entry, remove_entry}
use Rattle.lru.specs.LruCache.{LruCache, lru_cache, promoted, put_entries}
use Rattle.page_pool.specs.Frames.{Frames, frame_at}
use Rattle.page_pool.specs.Paged.{PagedState, IsAmong, AreOut, content}
use Rattle.page_pool.proofs.Among.{among_split, among_front, among_back, joined_kept, out_append}
use Rattle.state_cache.specs.Entries.{Entries, held, stands, IsCached}
use Rattle.state_cache.proofs.Releasing.{Parts, parts_front, parts_after}

pub same_some : {X : Type 0} (x y : X) → Some x ≡ Some y → x ≡ y
same_some x y h = cc

module _ (t : ℕ → Bool) where
  pub none_of : (es : Entries) → lookup t es ≡ None → (lookup_entry t es ≡ None) × (remove_entry t es ≡ es)
  none_of [] h = (refl, refl)
  none_of (e ∷ es) h =
      elim (t e.0) as (λ b. cond b (Some e.1) (lookup t es) ≡ None
      → (cond b (Some e) (lookup_entry t es) ≡ None) × (cond b es (e ∷ remove_entry t es) ≡ e ∷ es)) [
        | true ↦ λ is. absurd (cc)
        | false ↦ λ is. let r = none_of es is in (r.0, ap (λ (l : Entries). e ∷ l) r.1)
      ] h

  pub entry_of : (es : Entries) (p : PagedState) → lookup t es ≡ Some p → (k : ℕ) × (lookup_entry t es ≡ Some (k, p)) × (t k ≡ true)
  entry_of [] p h = cc
  entry_of (e ∷ es) p h =
      elim (t e.0) as (λ b. t e.0 ≡ b → cond b (Some e.1) (lookup t es) ≡ Some p
      → (k : ℕ) × (cond b (Some e) (lookup_entry t es) ≡ Some (k, p)) × (t k ≡ true)) [
        | true ↦ λ here is. (e.0, ap (λ (q : PagedState). Some (e.0, q)) (same_some e.1 p is), here)
        | false ↦ λ here is. entry_of es p is
      ] refl h

  pub lookup_stands : (ps : Frames) (es : Entries) → lookup t (stands ps es) ≡ option_map (λ p. content ps p) (lookup t es)
  lookup_stands ps [] = refl
  lookup_stands ps (e ∷ es) =
      elim (t e.0) as (λ b. cond b (Some (content ps e.1)) (lookup t (stands ps es)) ≡ option_map (λ p. content ps p) (cond b (Some e.1) (lookup t es))) [
        | true ↦ refl
        | false ↦ lookup_stands ps es
      ]

  pub lookup_entry_stands : (ps : Frames) (es : Entries) → lookup_entry t (stands ps es) ≡ option_map (λ e. (e.0, content ps e.1)) (lookup_entry t es)
  lookup_entry_stands ps [] = refl
  lookup_entry_stands ps (e ∷ es) =
      elim (t e.0) as (λ b. cond b (Some (e.0, content ps e.1)) (lookup_entry t (stands ps es)) ≡ option_map
      (λ (f : ℕ × PagedState). (f.0, content ps f.1)) (cond b (Some e) (lookup_entry t es))) [
        | true ↦ refl
        | false ↦ lookup_entry_stands ps es
      ]

  pub remove_stands : (ps : Frames) (es : Entries) → remove_entry t (stands ps es) ≡ stands ps (remove_entry t es)
  remove_stands ps [] = refl
  remove_stands ps (e ∷ es) =
      elim (t e.0) as (λ b. cond b (stands ps es) ((e.0, content ps e.1) ∷ remove_entry t (stands ps es)) ≡ stands ps (cond b es (e ∷ remove_entry t es))) [
        | true ↦ refl
        | false ↦ ap (λ (l : List (ℕ × List ℕ)). (e.0, content ps e.1) ∷ l) (remove_stands ps es)
      ]

  pub promoted_stands : (ps : Frames) (es : Entries) → promoted t (stands ps es) ≡ stands ps (promoted t es)
  promoted_stands ps es =
      ap (λ (o : Option (ℕ × List ℕ)). option_map_or (λ e. e ∷ remove_entry t (stands ps es)) o (stands ps es)) (lookup_entry_stands ps es)
      ∙ ap (λ (l : List (ℕ × List ℕ)). option_map_or (λ e. e ∷ l) (option_map (λ e. (e.0, content ps e.1)) (lookup_entry t es)) (stands ps es))
      (remove_stands ps es)
      ∙ split (lookup_entry t es)
    where
      split : (o : Option (ℕ × PagedState))
          → option_map_or (λ e. e ∷ stands ps (remove_entry t es)) (option_map (λ e. (e.0, content ps e.1)) o) (stands ps es) ≡ stands ps
          (option_map_or (λ e. e ∷ remove_entry t es) o es)
      split None = refl
      split (Some e) = refl

  -- the frames of the entry that is found, and those of the others
  pub removed_parts : (ps : Frames) (es : Entries) (p : PagedState) → lookup t es ≡ Some p → IsCached ps es
      → Parts ps (held es) p.frames (held (remove_entry t es))
  removed_parts ps [] p h out = cc
  removed_parts ps (e ∷ es) p h out =
      elim (t e.0) as (λ b. cond b (Some e.1) (lookup t es) ≡ Some p → Parts ps (e.1.frames ++ held es) p.frames (held (cond b es (e ∷ remove_entry t es)))) [
        | true ↦ λ is. subst (λ (q : PagedState). Parts ps (e.1.frames ++ held es) q.frames (held es)) (same_some e.1 p is)
            (parts_front ps e.1.frames (held es) out)
        | false ↦ λ is. parts_after ps e.1.frames (held es) p.frames (held (remove_entry t es)) out
            (removed_parts ps es p is (parts_front ps e.1.frames (held es) out).left_out)
      ] h

pub promoted_some : (t : ℕ → Bool) (es : Entries) (p : PagedState) → lookup t es ≡ Some p → (k : ℕ) × (promoted t es ≡ (k, p) ∷ remove_entry t es)
promoted_some t es p h = let e = entry_of t es p h in (e.0, ap (λ (o : Option (ℕ × PagedState)). option_map_or (λ f. f ∷ remove_entry t es) o es) e.1)

pub promoted_none : (t : ℕ → Bool) (es : Entries) → lookup t es ≡ None → promoted t es ≡ es
promoted_none t es h = ap (λ (o : Option (ℕ × PagedState)). option_map_or (λ f. f ∷ remove_entry t es) o es) (none_of t es h).0

pub length-remove : (t : ℕ → Bool) (es : Entries) (p : PagedState) → lookup t es ≡ Some p → length (remove_entry t es) + 1 ≡ length es
length-remove t [] p h = cc
length-remove t (e ∷ es) p h =
    elim (t e.0) as (λ b. cond b (Some e.1) (lookup t es) ≡ Some p → length (cond b es (e ∷ remove_entry t es)) + 1 ≡ length (e ∷ es)) [
      | true ↦ λ is. omega arith
      | false ↦ λ is. let r = length-remove t es p is in omega (arith, r)
    ] h

-- an entry goes first
pub promoted_out : (t : ℕ → Bool) (ps : Frames) (es : Entries) (p : PagedState) → lookup t es ≡ Some p → IsCached ps es
    → IsCached ps (promoted t es) × (length (held (promoted t es)) ≡ length (held es)) × (length (promoted t es) ≡ length es)
promoted_out t ps es p h out =
    let parts = removed_parts t ps es p h out in
    let is = promoted_some t es p h in
    let n = length-remove t es p h in
    let s = parts.size in
    let l = length-append p.frames (held (remove_entry t es)) in
    let counts : length ((is.0, p) ∷ remove_entry t es) ≡ length es = omega (arith, n) in
    let frames : length (p.frames ++ held (remove_entry t es)) ≡ length (held es) = omega (arith, s, l) in (
      subst (λ (x : Entries). IsCached ps x) (sym is.1) (out_append ps p.frames (held (remove_entry t es)) parts.part_out parts.left_out parts.apart),
      ap (λ (x : Entries). length (held x)) is.1 ∙ frames,
      ap (λ (x : Entries). length x) is.1 ∙ counts,
    )

-- no further frames are held then
pub promoted_within : (t : ℕ → Bool) (ps : Frames) (es : Entries) (o : Option PagedState) → lookup t es ≡ o → IsCached ps es → (k : ℕ)
    → IsAmong k (held (promoted t es)) → IsAmong k (held es)
promoted_within t ps es None is out k h = subst (λ (x : Entries). IsAmong k (held x)) (promoted_none t es is) h
promoted_within t ps es (Some p) is out k h =
    let parts = removed_parts t ps es p is out in
    let same = (promoted_some t es p is).1 in
    elim (among_split k p.frames (held (remove_entry t es)) (subst (λ (x : Entries). IsAmong k (held x)) same h)) [
      | inl a ↦ parts.part_in k a
      | inr b ↦ parts.left_in k b
    ]

pub stands_kept : (ps qs : Frames) (es : Entries) → ((k : ℕ) → IsAmong k (held es) → frame_at qs k ≡ frame_at ps k) → stands qs es ≡ stands ps es
stands_kept ps qs [] same = refl
stands_kept ps qs (e ∷ es) same =
    ap (λ (l : List ℕ). (e.0, take e.1.size l) ∷ stands qs es) (joined_kept ps qs e.1.frames (λ k h. same k (among_front k e.1.frames (held es) h)))
    ∙ ap (λ (l : List (ℕ × List ℕ)). (e.0, content ps e.1) ∷ l) (stands_kept ps qs es (λ k h. same k (among_back k e.1.frames (held es) h)))

-- each entry is out where all are
pub found_out : (t : ℕ → Bool) (ps : Frames) (es : Entries) (p : PagedState) → lookup t es ≡ Some p → IsCached ps es → AreOut ps p.frames
found_out t ps es p h out = (removed_parts t ps es p h out).part_out

-- a new entry goes first, where there is room for one more
pub put_first : (es : Entries) (cap k : ℕ) (p : PagedState) → length es < cap → put_entries nat_eq (lru_cache es cap) k p ≡ (k, p) ∷ remove_entry (nat_eq k) es
put_first es cap k p room =
    elim (lookup (nat_eq k) es) as (λ o. lookup (nat_eq k) es ≡ o → put_entries nat_eq (lru_cache es cap) k p ≡ (k, p) ∷ remove_entry (nat_eq k) es) [
      | None ↦ λ is. let n = none_of (nat_eq k) es is in
          ap (λ (o : Option (ℕ × PagedState)). option_map_or (λ e. (e.0, p) ∷ remove_entry (nat_eq k) es) o ((k, p) ∷ take (cap - 1) es)) n.0
          ∙ ap (λ (l : Entries). (k, p) ∷ l) (take_all (cap - 1) es (omega (arith, room)) ∙ sym n.1)
      | Some q ↦ λ is. let e = entry_of (nat_eq k) es q is in
          ap (λ (o : Option (ℕ × PagedState)). option_map_or (λ f. (f.0, p) ∷ remove_entry (nat_eq k) es) o ((k, p) ∷ take (cap - 1) es)) e.1
          ∙ ap (λ (j : ℕ). (j, p) ∷ remove_entry (nat_eq k) es) (sym (eqb-true k e.0 e.2))
    ] refl

pub put_bare : (c : LruCache ℕ PagedState) (k : ℕ) (p q : PagedState) → length c.entries < c.cap → p ≡ q
    → lru_cache (put_entries nat_eq c k p) c.cap ≡ lru_cache ((k, q) ∷ remove_entry (nat_eq k) c.entries) c.cap
put_bare c k p q room same =
    ap (λ (es : Entries). lru_cache es c.cap)
    (put_first c.entries c.cap k p room ∙ ap (λ (r : PagedState). (k, r) ∷ remove_entry (nat_eq k) c.entries) same)

pub length-held_remove : (t : ℕ → Bool) (es : Entries) → length (held (remove_entry t es)) ≤ length (held es)
length-held_remove t [] = omega arith
length-held_remove t (e ∷ es) =
    let r = length-held_remove t es in
    let a = length-append e.1.frames (held es) in
    let b = length-append e.1.frames (held (remove_entry t es)) in
    elim (t e.0) as (λ b. length (held (cond b es (e ∷ remove_entry t es))) ≤ length (e.1.frames ++ held es)) [
      | true ↦ omega (arith, a)
      | false ↦ omega (arith, a, b, r)
    ]
