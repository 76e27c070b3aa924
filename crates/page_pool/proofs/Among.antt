-- Lists of frames that are out of a pool, each once.
use Rattle.std.proofs.Common.{◌≡◌, ◌⊎◌, inl, inr, ℕ, ◌*◌, List, [], ◌∷◌, ◌++◌, length, refl, sym, ap, subst, ◌∙◌, arith, append_assoc, length-append}
use Rattle.std.specs.Prelude.{Option, None, Some, unwrap_or}
use Rattle.page_pool.specs.Frames.{Frames, frame_at, IsOut, frame_size}
use Rattle.page_pool.specs.Paged.{IsAmong, AreOut, joined}

pub among_split : (k : ℕ) (fs gs : List ℕ) → IsAmong k (fs ++ gs) → IsAmong k fs ⊎ IsAmong k gs
among_split k [] gs h = inr h
among_split k (f ∷ fs) gs (inl is) = inl (inl is)
among_split k (f ∷ fs) gs (inr h) = elim (among_split k fs gs h) [
  | inl a ↦ inl (inr a)
  | inr b ↦ inr b
]

pub among_front : (k : ℕ) (fs gs : List ℕ) → IsAmong k fs → IsAmong k (fs ++ gs)
among_front k [] gs h = absurd h
among_front k (f ∷ fs) gs (inl is) = inl is
among_front k (f ∷ fs) gs (inr h) = inr (among_front k fs gs h)

pub among_back : (k : ℕ) (fs gs : List ℕ) → IsAmong k gs → IsAmong k (fs ++ gs)
among_back k [] gs h = h
among_back k (f ∷ fs) gs h = inr (among_back k fs gs h)

pub among_last : (k : ℕ) (fs : List ℕ) → IsAmong k (fs ++ k ∷ [])
among_last k fs = among_back k fs (k ∷ []) (inl refl)

-- a frame that is out is not free
pub out_not_free : (ps : Frames) (k : ℕ) → IsOut ps k → frame_at ps k ≡ None → ⊥
out_not_free ps k out none = clash (frame_at ps k) out.bytes out.is none
  where
    clash : (o : Option (List ℕ)) (b : List ℕ) → o ≡ Some b → o ≡ None → ⊥
    clash o b some none = cc

pub out_kept : (ps qs : Frames) (k : ℕ) → frame_at qs k ≡ frame_at ps k → IsOut ps k → IsOut qs k
out_kept ps qs k same out = record { bytes = out.bytes; is = same ∙ out.is; size = out.size }

pub all_kept : (ps qs : Frames) (fs : List ℕ) → ((k : ℕ) → IsAmong k fs → frame_at qs k ≡ frame_at ps k) → AreOut ps fs → AreOut qs fs
all_kept ps qs [] same out = tt
all_kept ps qs (f ∷ fs) same out = (out_kept ps qs f (same f (inl refl)) out.0, out.1, all_kept ps qs fs (λ k h. same k (inr h)) out.2)

pub joined_kept : (ps qs : Frames) (fs : List ℕ) → ((k : ℕ) → IsAmong k fs → frame_at qs k ≡ frame_at ps k) → joined qs fs ≡ joined ps fs
joined_kept ps qs [] same = refl
joined_kept ps qs (f ∷ fs) same =
    ap (λ (o : Option (List ℕ)). unwrap_or o [] ++ joined qs fs) (same f (inl refl))
    ∙ ap (λ (l : List ℕ). unwrap_or (frame_at ps f) [] ++ l) (joined_kept ps qs fs (λ k h. same k (inr h)))

pub joined_append : (ps : Frames) (fs gs : List ℕ) → joined ps (fs ++ gs) ≡ joined ps fs ++ joined ps gs
joined_append ps [] gs = refl
joined_append ps (f ∷ fs) gs =
    ap (λ (l : List ℕ). unwrap_or (frame_at ps f) [] ++ l) (joined_append ps fs gs)
    ∙ sym (append_assoc (unwrap_or (frame_at ps f) []) (joined ps fs) (joined ps gs))

pub out_each : (ps : Frames) (fs : List ℕ) (k : ℕ) → AreOut ps fs → IsAmong k fs → IsOut ps k
out_each ps [] k out h = absurd h
out_each ps (f ∷ fs) k out (inl is) = subst (λ (i : ℕ). IsOut ps i) (sym is) out.0
out_each ps (f ∷ fs) k out (inr h) = out_each ps fs k out.2 h

pub out_append : (ps : Frames) (fs gs : List ℕ) → AreOut ps fs → AreOut ps gs → ((k : ℕ) → IsAmong k fs → IsAmong k gs → ⊥) → AreOut ps (fs ++ gs)
out_append ps [] gs front back apart = back
out_append ps (f ∷ fs) gs front back apart = (front.0, not_there, out_append ps fs gs front.2 back (λ k h g. apart k (inr h) g))
  where
    not_there : IsAmong f (fs ++ gs) → ⊥
    not_there h = elim (among_split f fs gs h) [
      | inl a ↦ front.1 a
      | inr b ↦ apart f (inl refl) b
    ]

pub out_front : (ps : Frames) (fs gs : List ℕ) → AreOut ps (fs ++ gs) → AreOut ps fs
out_front ps [] gs out = tt
out_front ps (f ∷ fs) gs out = (out.0, (λ h. out.1 (among_front f fs gs h)), out_front ps fs gs out.2)

pub out_back : (ps : Frames) (fs gs : List ℕ) → AreOut ps (fs ++ gs) → AreOut ps gs
out_back ps [] gs out = out
out_back ps (f ∷ fs) gs out = out_back ps fs gs out.2

pub out_apart : (ps : Frames) (fs gs : List ℕ) → AreOut ps (fs ++ gs) → (k : ℕ) → IsAmong k fs → IsAmong k gs → ⊥
out_apart ps [] gs out k h g = h
out_apart ps (f ∷ fs) gs out k (inl is) g = out.1 (among_back f fs gs (subst (λ (i : ℕ). IsAmong i gs) is g))
out_apart ps (f ∷ fs) gs out k (inr h) g = out_apart ps fs gs out.2 k h g

-- the bytes of so many frames
pub length-joined : (ps : Frames) (fs : List ℕ) → AreOut ps fs → length (joined ps fs) ≡ frame_size * length fs
length-joined ps [] out = refl
length-joined ps (f ∷ fs) out =
    let rest = length-joined ps fs out.2 in
    let both = length-append (unwrap_or (frame_at ps f) []) (joined ps fs) in
    let one : length (unwrap_or (frame_at ps f) []) ≡ frame_size = ap (λ (o : Option (List ℕ)). length (unwrap_or o [])) out.0.is ∙ out.0.size in
    omega (arith, rest, both, one)
