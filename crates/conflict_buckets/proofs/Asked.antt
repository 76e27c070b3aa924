-- Whether one of the indexed operations interferes with one of others, as the others are gone over.
use Rattle.std.proofs.Common.{◌≡◌, ℕ, suc, ◌+◌, ◌<◌, ◌≤◌, ◌||◌, Bool, true, false, List, [], ◌∷◌, refl, sym, ap, ◌∙◌, length, drop, get_or, arith, drop-cons}
use Rattle.std.specs.List.{list_any}
use Rattle.ecore_meta.specs.Meta.{Meta}
use Rattle.model_state.specs.declared.operation.Operation.{Operation}
use Rattle.model_laws.specs.Cells.{Cell}
use Rattle.footprint.specs.declared.cell.Print.{Print}
use Rattle.footprint.specs.Interference.{op_writes, op_reads, interferes}
use Rattle.footprint.specs.Prints.{cells, shown, printed}
use Rattle.footprint.proofs.Held.{prints_tell}
use Rattle.footprint.proofs.Pairs.{interference_is_symmetric}
use Rattle.cell_index.specs.Near.{prints_interfere}
use Rattle.merge_laws.specs.Pairs.{have_pair}
use Rattle.conflict_buckets.proofs.Empty.{drop_past}

-- does one of the operations interfere with that one
abbrev pub meets_one : Meta → List Operation → Operation → Bool
meets_one meta os p = list_any (λ o. interferes meta o p) os

-- or with one of these
abbrev pub meets_some : Meta → List Operation → List Operation → Bool
meets_some meta os ps = list_any (meets_one meta os) ps

-- ---- whichever list is gone over first
turned : (a b c d : Bool) → (a || b) || (c || d) ≡ (a || c) || (b || d)
turned true b c d = refl
turned false true true d = refl
turned false true false d = refl
turned false false c d = refl

any_or : (f g : Operation → Bool) (os : List Operation) → list_any (λ o. f o || g o) os ≡ list_any f os || list_any g os
any_or f g [] = refl
any_or f g (o ∷ os) = ap (λ b. (f o || g o) || b) (any_or f g os) ∙ turned (f o) (g o) (list_any f os) (list_any g os)

any_false : (os : List Operation) → list_any (λ (o : Operation). false) os ≡ false
any_false [] = refl
any_false (o ∷ os) = any_false os

pub others_first : (meta : Meta) (os ps : List Operation) → have_pair meta os ps ≡ meets_some meta os ps
others_first meta os [] = any_false os
others_first meta os (p ∷ ps) =
    any_or (λ o. interferes meta o p) (λ o. list_any (interferes meta o) ps) os ∙ ap (λ b. meets_one meta os p || b) (others_first meta os ps)

-- ---- by the prints
first_same : (x y : List Cell × List Cell) (xs ys : List (List Cell × List Cell)) → x ∷ xs ≡ y ∷ ys → (x.0 ≡ y.0) × (x.1 ≡ y.1)
first_same x y xs ys h = (cc, cc)

rest_same : (x y : List Cell × List Cell) (xs ys : List (List Cell × List Cell)) → x ∷ xs ≡ y ∷ ys → xs ≡ ys
rest_same x y xs ys h = cc

pub prints_meet : (meta : Meta) (prints : List Print) (os : List Operation) (p : Print) (o : Operation) → shown prints ≡ printed meta os
    → cells p.writes ≡ op_writes meta o → cells p.reads ≡ op_reads o → list_any (prints_interfere p) prints ≡ meets_one meta os o
unfolding shown printed
prints_meet meta [] [] p o h w r = refl
prints_meet meta [] (q ∷ os) p o h w r = cc
prints_meet meta (x ∷ prints) [] p o h w r = cc
prints_meet meta (x ∷ prints) (q ∷ os) p o h w r =
    let f = first_same (cells x.writes, cells x.reads) (op_writes meta q, op_reads q) (shown prints) (printed meta os) h in
    let here : prints_interfere p x ≡ interferes meta q o = prints_tell meta o q p x w r f.0 f.1 ∙ interference_is_symmetric meta o q in
    let later = prints_meet meta prints os p o
    (rest_same (cells x.writes, cells x.reads) (op_writes meta q, op_reads q) (shown prints) (printed meta os) h) w r in
    λ i. here i || later i

-- ---- one of the others more
module _ (meta : Meta) (os ps : List Operation) (i : ℕ) (p : Operation) (low : i < length ps) (is : p ≡ get_or ps i p) where
  opened : meets_some meta os (drop i ps) ≡ meets_one meta os p || meets_some meta os (drop (i + 1) ps)
  opened =
      let e : suc i ≡ i + 1 = omega arith in
      ap (meets_some meta os) (drop-cons ps i p low ∙ (λ t. sym is t ∷ drop (e t) ps))

  pub found_here : have_pair meta os ps ≡ meets_some meta os (drop i ps) → meets_one meta os p ≡ true → true ≡ have_pair meta os ps
  found_here so_far on = sym (so_far ∙ opened ∙ ap (λ b. b || meets_some meta os (drop (i + 1) ps)) on)

  pub found_later : have_pair meta os ps ≡ meets_some meta os (drop i ps) → meets_one meta os p ≡ false
      → have_pair meta os ps ≡ meets_some meta os (drop (i + 1) ps)
  found_later so_far off = so_far ∙ opened ∙ ap (λ b. b || meets_some meta os (drop (i + 1) ps)) off

pub found_none : (meta : Meta) (os ps : List Operation) (i : ℕ) → length ps ≤ i → have_pair meta os ps ≡ meets_some meta os (drop i ps)
    → false ≡ have_pair meta os ps
found_none meta os ps i past so_far = sym (so_far ∙ ap (meets_some meta os) (drop_past ps i past))
