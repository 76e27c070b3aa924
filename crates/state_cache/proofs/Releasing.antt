-- Frames that are given back, of a list of frames that are out.
use Rattle.std.proofs.Common.{◌≡◌, ◌⊎◌, inl, inr, ℕ, ◌+◌, ◌≤◌, List, [], ◌∷◌, ◌++◌, length, set, refl, subst, ◌∙◌, arith, length-append}
use Rattle.std.specs.Prelude.{None}
use Rattle.std.proofs.lemmas.Bool.{cases_eq}
use Rattle.page_pool.specs.Frames.{Frames, frame_at, out_of, free_of}
use Rattle.page_pool.specs.Paged.{IsAmong, AreOut, AreFree, KeepsOthers}
use Rattle.page_pool.proofs.Slots.{is_within, changed, emptied}
use Rattle.page_pool.proofs.Among.{among_split, among_front, among_back, all_kept, out_append, out_front, out_back, out_apart}
use Rattle.state_cache.specs.Entries.{Released}

is_among : (k : ℕ) (fs : List ℕ) → IsAmong k fs ⊎ (¬ IsAmong k fs)
is_among k [] = inr (λ h. h)
is_among k (f ∷ fs) = elim (cases_eq k f) [
  | inl same ↦ inl (inl same)
  | inr other ↦ elim (is_among k fs) [
    | inl h ↦ inl (inr h)
    | inr not ↦ inr (λ h. elim h [ inl same ↦ other same | inr g ↦ not g ])
  ]
]

-- frames that are out, each once, are no more than all that are out
pub no_more_than_out : (ps : Frames) (fs : List ℕ) → AreOut ps fs → length fs ≤ out_of ps
no_more_than_out ps [] out = omega arith
no_more_than_out ps (f ∷ fs) out =
    let less = (emptied ps f out.0.bytes out.0.is).0 in
    let change = changed ps f None (is_within ps f out.0.bytes out.0.is) in
    let rest = no_more_than_out (set ps f None) fs
    (all_kept ps (set ps f None) fs (λ k h. change.others k (λ same. out.1 (subst (λ (j : ℕ). IsAmong j fs) same h))) out.2) in
    omega (arith, less, rest)

-- frames that are out, each once, in two parts
pub record Parts (ps : Frames) (all part left : List ℕ) : Type 0 where
  pub part_out : AreOut ps part
  pub left_out : AreOut ps left
  pub apart : (k : ℕ) → IsAmong k part → IsAmong k left → ⊥
  pub either : (k : ℕ) → IsAmong k all → IsAmong k part ⊎ IsAmong k left
  pub part_in : (k : ℕ) → IsAmong k part → IsAmong k all
  pub left_in : (k : ℕ) → IsAmong k left → IsAmong k all
  pub size : length all ≡ length part + length left

pub parts_front : (ps : Frames) (part left : List ℕ) → AreOut ps (part ++ left) → Parts ps (part ++ left) part left
parts_front ps part left out = record {
  part_out = out_front ps part left out;
  left_out = out_back ps part left out;
  apart = out_apart ps part left out;
  either = λ k h. among_split k part left h;
  part_in = λ k h. among_front k part left h;
  left_in = λ k h. among_back k part left h;
  size = length-append part left;
}

pub parts_after : (ps : Frames) (front all part left : List ℕ) → AreOut ps (front ++ all) → Parts ps all part left
    → Parts ps (front ++ all) part (front ++ left)
parts_after ps front all part left out parts = record {
  part_out = parts.part_out;
  left_out = out_append ps front left (out_front ps front all out) parts.left_out (λ k h g. out_apart ps front all out k h (parts.left_in k g));
  apart = λ k h g. elim (among_split k front left g) [
    | inl a ↦ out_apart ps front all out k a (parts.part_in k h)
    | inr b ↦ parts.apart k h b
  ];
  either = λ k h. elim (among_split k front all h) [
    | inl a ↦ inr (among_front k front left a)
    | inr b ↦ elim (parts.either k b) [ inl p ↦ inl p | inr q ↦ inr (among_back k front left q) ]
  ];
  part_in = λ k h. among_back k front all (parts.part_in k h);
  left_in = λ k h. elim (among_split k front left h) [
    | inl a ↦ among_front k front all a
    | inr b ↦ among_back k front all (parts.left_in k b)
  ];
  size = let s = parts.size in let a = length-append front all in let b = length-append front left in omega (arith, s, a, b);
}

-- a part is given back
pub released_part : (ps qs : Frames) (all part left : List ℕ) → Parts ps all part left → AreFree qs part → KeepsOthers ps qs part
    → out_of qs + length part ≡ out_of ps → free_of qs ≡ free_of ps + length part → Released ps qs all left
released_part ps qs all part left parts free others outs room = record {
  out = all_kept ps qs left kept parts.left_out;
  within = parts.left_in;
  kept = kept;
  gone = λ k h not. elim (parts.either k h) [ inl p ↦ free k p | inr q ↦ absurd (not q) ];
  others = λ k not. others k (λ h. not (parts.part_in k h));
  outs = let s = parts.size in omega (arith, outs, s);
  total = omega (arith, outs, room);
}
  where
    kept : (k : ℕ) → IsAmong k left → frame_at qs k ≡ frame_at ps k
    kept k h = others k (λ p. parts.apart k p h)

pub released_none : (ps : Frames) (all : List ℕ) → AreOut ps all → Released ps ps all all
released_none ps all out = record {
  out = out;
  within = λ k h. h;
  kept = λ k h. refl;
  gone = λ k h not. absurd (not h);
  others = λ k not. refl;
  outs = refl;
  total = refl;
}

pub released_then : (ps qs rs : Frames) (all mid left : List ℕ) → Released ps qs all mid → Released qs rs mid left → Released ps rs all left
released_then ps qs rs all mid left one two = record {
  out = two.out;
  within = λ k h. one.within k (two.within k h);
  kept = λ k h. two.kept k h ∙ one.kept k (two.within k h);
  gone = λ k h not. elim (is_among k mid) [
    | inl m ↦ two.gone k m not
    | inr away ↦ two.others k away ∙ one.gone k h away
  ];
  others = λ k not. two.others k (λ h. not (one.within k h)) ∙ one.others k not;
  outs = let a = one.outs in let b = two.outs in omega (arith, a, b);
  total = two.total ∙ one.total;
}
