-- What the choices keep does not interfere with what they drop of the same side, nor with what they keep of the other.
use Rattle.std.proofs.Common.{◌≡◌, ℕ, suc, true, false, List, [], ◌∷◌, refl, sym, ◌∙◌, ◌&&◌, ◌||◌, length}
use Rattle.finite_maps.proofs.EqualLaws.{and_first, and_second}
use Rattle.ecore_meta.specs.Meta.{Meta}
use Rattle.finite_maps.proofs.Cases.{not_so, true_false, or_first, or_second}
use Rattle.model_laws.proofs.Exchange.{or_cases}
use Rattle.model_state.specs.declared.operation.Operation.{Operation}
use Rattle.footprint.specs.Interference.{interferes, NoPair}
use Rattle.footprint.specs.declared.bucket.Bucket.{Bucket}
use Rattle.merge_laws.specs.Grouping.{is_in, SameTheirs, SameMine, shares, GroupInterfering}
use Rattle.merge_laws.specs.declared.side.Side.{Side}
use Rattle.merge_laws.specs.declared.side.Side.TheVariants.{Mine, Theirs}
use Rattle.merge_laws.specs.Merge.{drops_theirs, drops_mine, dropped, kept}
use Rattle.merge_laws.proofs.Gather.{kept_dropped, kept_kept}

same_theirs : (bs : List Bucket) (sides : List Side) (i j : ℕ) → SameTheirs bs i j → drops_theirs bs sides i ≡ drops_theirs bs sides j
same_theirs [] sides i j h = refl
same_theirs (b ∷ bs) [] i j h = refl
same_theirs (b ∷ bs) (Mine ∷ sides) i j h = λ t. h.0 t || same_theirs bs sides i j h.1 t
same_theirs (b ∷ bs) (Theirs ∷ sides) i j h = same_theirs bs sides i j h.1

same_mine : (bs : List Bucket) (sides : List Side) (i j : ℕ) → SameMine bs i j → drops_mine bs sides i ≡ drops_mine bs sides j
same_mine [] sides i j h = refl
same_mine (b ∷ bs) [] i j h = refl
same_mine (b ∷ bs) (Theirs ∷ sides) i j h = λ t. h.0 t || same_mine bs sides i j h.1 t
same_mine (b ∷ bs) (Mine ∷ sides) i j h = same_mine bs sides i j h.1

pub suc_same : (a b : ℕ) → suc a ≡ suc b → a ≡ b
suc_same a b h = cc

-- of a pair in one bucket, one is dropped
one_dropped : (bs : List Bucket) (sides : List Side) (i k : ℕ) → length sides ≡ length bs → shares bs i k ≡ true → drops_theirs bs sides i ≡ false
    → drops_mine bs sides k ≡ false → ⊥
one_dropped [] sides i k is both h g = true_false false both refl
one_dropped (b ∷ bs) [] i k is both h g = cc
one_dropped (b ∷ bs) (Mine ∷ sides) i k is both h g =
    or_cases (is_in i b.theirs && is_in k b.mine) (shares bs i k) both
    (λ here. true_false _ (and_first (is_in i b.theirs) (is_in k b.mine) here) (or_first (is_in i b.theirs) (drops_theirs bs sides i) h))
    (λ later. one_dropped bs sides i k (suc_same (length sides) (length bs) is) later (or_second (is_in i b.theirs) (drops_theirs bs sides i) h) g)
one_dropped (b ∷ bs) (Theirs ∷ sides) i k is both h g =
    or_cases (is_in i b.theirs && is_in k b.mine) (shares bs i k) both
    (λ here. true_false _ (and_second (is_in i b.theirs) (is_in k b.mine) here) (or_first (is_in k b.mine) (drops_mine bs sides k) g))
    (λ later. one_dropped bs sides i k (suc_same (length sides) (length bs) is) later h (or_second (is_in k b.mine) (drops_mine bs sides k) g))

module _ (meta : Meta) (theirs mine : List Operation) (bs : List Bucket) (parts : GroupInterfering meta theirs mine bs) (sides : List Side)
    (is : length sides ≡ length bs) where
  pub theirs_apart : NoPair meta (kept (drops_theirs bs sides) theirs) (dropped (drops_theirs bs sides) theirs)
  theirs_apart = kept_dropped meta (drops_theirs bs sides) (drops_theirs bs sides) theirs theirs (λ i k a b at there h g.
      not_so (interferes meta a b) (λ meet. true_false _ g (sym (same_theirs bs sides i k (parts.among_theirs i k a b at there meet)) ∙ h)))

  pub mine_apart : NoPair meta (kept (drops_mine bs sides) mine) (dropped (drops_mine bs sides) mine)
  mine_apart = kept_dropped meta (drops_mine bs sides) (drops_mine bs sides) mine mine (λ i k a b at there h g.
      not_so (interferes meta a b) (λ meet. true_false _ g (sym (same_mine bs sides i k (parts.among_mine i k a b at there meet)) ∙ h)))

  pub kept_apart : NoPair meta (kept (drops_theirs bs sides) theirs) (kept (drops_mine bs sides) mine)
  kept_apart = kept_kept meta (drops_theirs bs sides) (drops_mine bs sides) theirs mine (λ i k a b at there h g.
      not_so (interferes meta a b) (λ meet. one_dropped bs sides i k is (parts.across i k a b at there meet) h g))
