-- What holds of each entry of a cache, with the bytes that it stands for, holds of each after a call.
use Rattle.std.proofs.Common.{◌≡◌, ℕ, Bool, true, false, cond, List, [], ◌∷◌, take, refl, sym, ap, subst, ◌∙◌, nat_eq, inl, inr, zero, suc}
use Rattle.std.specs.Prelude.{All, Option, None, Some, option_map}
use Rattle.std.specs.Option.{option_map_or}
use Rattle.std.specs.Map.{lookup, lookup_entry, remove_entry}
use Rattle.std.specs.List.{AllByRecursion}
use Rattle.std.proofs.lemmas.Bool.{eqb-true}
use Rattle.std.proofs.lemmas.List.Elements.{All-from_recursion, recursion_from_All}
use Rattle.lru.specs.LruCache.{promoted}
use Rattle.page_pool.specs.Frames.{Frames, frame_at, SameFrames, IsOut}
use Rattle.page_pool.specs.Paged.{PagedState, IsAmong, AreOut, content}
use Rattle.state_cache.specs.Entries.{Entries, held, stands, IsCached, IsFirst, IsStored, IsYielded}
use Rattle.state_cache.proofs.Listed.{lookup_stands, entry_of, stands_kept}

-- ---- what stays of entries
module _ (P : ℕ × List ℕ → Type 0) where
  removed : (t : ℕ → Bool) (pool : Frames) (es : Entries) → AllByRecursion P (stands pool es) → AllByRecursion P (stands pool (remove_entry t es))
  removed t pool [] all = tt
  removed t pool (e ∷ es) all =
      elim (t e.0) as (λ b. AllByRecursion P (stands pool (cond b es (e ∷ remove_entry t es)))) [
        | true ↦ all.1
        | false ↦ (all.0, removed t pool es all.1)
      ]

  taken : (pool : Frames) (n : ℕ) (es : Entries) → AllByRecursion P (stands pool es) → AllByRecursion P (stands pool (take n es))
  taken pool zero es all = tt
  taken pool (suc n) [] all = tt
  taken pool (suc n) (e ∷ es) all = (all.0, taken pool n es all.1)

  found : (pool : Frames) (version : ℕ) (bytes : List ℕ) (es : Entries) → AllByRecursion P (stands pool es)
      → lookup (nat_eq version) (stands pool es) ≡ Some bytes → P (version, bytes)
  found pool version bytes [] all is = cc
  found pool version bytes (e ∷ es) all is =
      elim (nat_eq version e.0) as (λ b. nat_eq version e.0 ≡ b
      → cond b (Some (content pool e.1)) (lookup (nat_eq version) (stands pool es)) ≡ Some bytes → P (version, bytes)) [
        | true ↦ λ here same.
            let number : e.0 ≡ version = sym (eqb-true version e.0 here) in
            let value : content pool e.1 ≡ bytes = cc in
            subst (λ (x : ℕ × List ℕ). P x) (λ i. (number i, value i)) all.0
        | false ↦ λ here same. found pool version bytes es all.1 same
      ] refl is

  -- it holds of the entry, if there is one
  abbrev OfEntry : Frames → Option (ℕ × PagedState) → Type 0
  OfEntry pool None = Unit {0}
  OfEntry pool (Some e) = P (e.0, content pool e.1)

  entry_found : (t : ℕ → Bool) (pool : Frames) (es : Entries) → AllByRecursion P (stands pool es) → OfEntry pool (lookup_entry t es)
  entry_found t pool [] all = tt
  entry_found t pool (e ∷ es) all =
      elim (t e.0) as (λ b. OfEntry pool (cond b (Some e) (lookup_entry t es))) [
        | true ↦ all.0
        | false ↦ entry_found t pool es all.1
      ]

  goes_first : (t : ℕ → Bool) (pool : Frames) (es : Entries) (o : Option (ℕ × PagedState)) → OfEntry pool o → AllByRecursion P (stands pool es)
      → AllByRecursion P (stands pool (option_map_or (λ e. e ∷ remove_entry t es) o es))
  goes_first t pool es None one all = all
  goes_first t pool es (Some e) one all = (one, removed t pool es all)

  -- a look-up puts an entry first
  pub all_promoted : (t : ℕ → Bool) (pool : Frames) (old new : Entries) → new ≡ promoted t old → All P (stands pool old) → All P (stands pool new)
  all_promoted t pool old new is all =
      let before : AllByRecursion P (stands pool old) = recursion_from_All P (stands pool old) all in
      subst (λ (es : Entries). All P (stands pool es)) (sym is)
      (All-from_recursion P (stands pool (promoted t old)) (goes_first t pool old (lookup_entry t old) (entry_found t pool old before) before))

  -- entries are yielded
  pub all_yielded : (before after : Frames) (needed : ℕ) (old new : Entries) → IsYielded before after needed old new → All P (stands before old)
      → All P (stands after new)
  all_yielded before after needed old new yielded all =
      let left : AllByRecursion P (stands before (take yielded.kept.count old)) =
      taken before yielded.kept.count old (recursion_from_All P (stands before old) all) in
      subst (λ (es : List (ℕ × List ℕ)). All P es) (sym yielded.same)
      (All-from_recursion P (stands before new) (subst (λ (es : Entries). AllByRecursion P (stands before es)) (sym yielded.kept.first) left))

  -- an entry is stored, of which it holds too
  pub all_stored : (before after : Frames) (version : ℕ) (bytes : List ℕ) (old new : Entries) → IsStored before after version bytes old new
      → P (version, bytes) → All P (stands before old) → All P (stands after new)
  all_stored before after version bytes old new stored one all =
      let rest : AllByRecursion P (stands before (remove_entry (nat_eq version) old)) =
      removed (nat_eq version) before old (recursion_from_All P (stands before old) all) in
      let left : AllByRecursion P (stands before stored.rest) =
      subst (λ (es : Entries). AllByRecursion P (stands before es)) (sym stored.kept.first)
      (taken before stored.kept.count (remove_entry (nat_eq version) old) rest) in
      let first : P (version, content after stored.paged) = subst (λ (l : List ℕ). P (version, l)) (sym stored.bytes_are) one in
      subst (λ (es : Entries). All P (stands after es)) (sym stored.is)
      (All-from_recursion P (stands after ((version, stored.paged) ∷ stored.rest))
      (first, subst (λ (es : List (ℕ × List ℕ)). AllByRecursion P es) (sym stored.same) left))

  -- it holds of what is found
  pub all_found : (pool : Frames) (c : Entries) (version : ℕ) (bytes : List ℕ) → lookup (nat_eq version) (stands pool c) ≡ Some bytes
      → All P (stands pool c) → P (version, bytes)
  all_found pool c version bytes is all = found pool version bytes c (recursion_from_All P (stands pool c) all) is

-- ---- frames that are as they were
-- each frame of entries that are out is out
held_out : (p : Frames) (fs : List ℕ) → AreOut p fs → (k : ℕ) → IsAmong k fs → IsOut p k
held_out p [] out k among = absurd among
held_out p (f ∷ fs) out k (inl e) = subst (λ n. IsOut p n) (sym e) out.0
held_out p (f ∷ fs) out k (inr l) = held_out p fs out.2 k l

-- entries stand for what they did, where their frames have the bytes that they had
pub same_stands : (p q : Frames) (c : Entries) → IsCached p c
    → ((k : ℕ) (bytes : List ℕ) → IsAmong k (held c) → frame_at p k ≡ Some bytes → frame_at q k ≡ Some bytes) → stands q c ≡ stands p c
same_stands p q c out keeps = stands_kept p q c (λ k among. let is = held_out p (held c) out k among in keeps k is.bytes among is.is ∙ sym is.is)

pub stands_alike : (p q : Frames) (c : Entries) → SameFrames p q → stands q c ≡ stands p c
stands_alike p q c same = stands_kept p q c (λ k among. same k)

-- ---- the first entry
pub found_first : (pool : Frames) (version : ℕ) (bytes : List ℕ) (old new : Entries) → lookup (nat_eq version) (stands pool old) ≡ Some bytes
    → new ≡ promoted (nat_eq version) old → IsFirst version new
found_first pool version bytes old new found is = subst (λ (es : Entries). IsFirst version es) (sym is) (by (lookup (nat_eq version) old) refl)
  where
    by : (o : Option PagedState) → lookup (nat_eq version) old ≡ o → IsFirst version (promoted (nat_eq version) old)
    by None none = absurd (clash (lookup (nat_eq version) (stands pool old))
        (lookup_stands (nat_eq version) pool old ∙ ap (λ o. option_map (λ p. content pool p) o) none) found)
      where
        clash : (o : Option (List ℕ)) → o ≡ None → o ≡ Some bytes → ⊥
        clash o a b = cc
    by (Some p) some =
        let e = entry_of (nat_eq version) old p some in
        subst (λ (o : Option (ℕ × PagedState)). IsFirst version (option_map_or (λ f. f ∷ remove_entry (nat_eq version) old) o old)) (sym e.1)
        (sym (eqb-true version e.0 e.2))

pub stored_first : (before after : Frames) (version : ℕ) (bytes : List ℕ) (old new : Entries) → IsStored before after version bytes old new
    → IsFirst version new
stored_first before after version bytes old new stored = subst (λ (es : Entries). IsFirst version es) (sym stored.is) refl
