-- Giving the frames of a list back, one after another.
use Rattle.std.proofs.Common.{◌≡◌, inl, inr, ℕ, ◌+◌, List, [], ◌∷◌, ◌++◌, length, refl, sym, ap, subst, ◌∙◌, arith, length-append}
use Rattle.std.specs.Prelude.{None}
use Rattle.std.proofs.lemmas.Bool.{cases_eq}
use Rattle.page_pool.specs.Frames.{Frames, frame_at, out_of, free_of, IsGiven}
use Rattle.page_pool.specs.Paged.{IsAmong, AreOut, KeepsOthers}
use Rattle.page_pool.proofs.Among.{among_split, among_front, among_last, all_kept, out_front, out_apart}

-- of all these frames, those left are still out
pub record Giving (start now : Frames) (all left : List ℕ) : Type 0 where
  pub out : AreOut now left
  pub others : KeepsOthers start now all
  pub within : (k : ℕ) → IsAmong k left → IsAmong k all
  pub gone : (k : ℕ) → IsAmong k all → ¬ IsAmong k left → frame_at now k ≡ None
  pub count : out_of now + length all ≡ out_of start + length left
  pub room : free_of now + length left ≡ free_of start + length all

pub all_left : (start : Frames) (all : List ℕ) → AreOut start all → Giving start start all all
all_left start all out = record {
  out = out;
  others = λ k h. refl;
  within = λ k h. h;
  gone = λ k h not. absurd (not h);
  count = refl;
  room = refl;
}

module _ (start now next : Frames) (all left rest : List ℕ) (f : ℕ) (giving : Giving start now all left) (is : left ≡ rest ++ f ∷ [])
    (given : IsGiven now next f) where
  out : AreOut now (rest ++ f ∷ [])
  out = subst (λ (l : List ℕ). AreOut now l) is giving.out

  differs : (k : ℕ) → IsAmong k rest → k ≡ f → ⊥
  differs k h same = out_apart now rest (f ∷ []) out k h (inl same)

  in_left : (k : ℕ) → IsAmong k (rest ++ f ∷ []) → IsAmong k left
  in_left k h = subst (λ (l : List ℕ). IsAmong k l) (sym is) h

  last_in : IsAmong f all
  last_in = giving.within f (in_left f (among_last f rest))

  kept : (k : ℕ) → (IsAmong k all → ⊥) → frame_at next k ≡ frame_at start k
  kept k not = given.changes.others k (λ same. not (subst (λ (j : ℕ). IsAmong j all) (sym same) last_in)) ∙ giving.others k not

  gone : (k : ℕ) → IsAmong k all → (IsAmong k rest → ⊥) → frame_at next k ≡ None
  gone k h not = elim (cases_eq k f) [
    | inl same ↦ ap (frame_at next) same ∙ given.changes.at
    | inr other ↦ given.changes.others k other ∙ giving.gone k h (λ g. elim (among_split k rest (f ∷ []) (subst (λ (l : List ℕ). IsAmong k l) is g)) [
      | inl a ↦ not a
      | inr b ↦ elim b [ inl same ↦ other same | inr none ↦ none ]
    ])
  ]

  pub one_given : Giving start next all rest
  one_given = record {
    out = all_kept now next rest (λ k h. given.changes.others k (differs k h)) (out_front now rest (f ∷ []) out);
    others = kept;
    within = λ k h. giving.within k (in_left k (among_front k rest (f ∷ []) h));
    gone = gone;
    count = let c = giving.count in let l = ap length is in let a = length-append rest (f ∷ []) in let o = given.out in omega (arith, c, l, a, o);
    room = let r = giving.room in let l = ap length is in let a = length-append rest (f ∷ []) in let g = given.free in omega (arith, r, l, a, g);
  }
