-- Each row of a walk is of a class with elements and has attributes that fit. It stands in a containment of its parent's class
-- that takes it.
use Rattle.std.proofs.Common.{◌≡◌, ℕ, zero, suc, ◌+◌, true, List, [], ◌∷◌, ◌++◌, length, refl, sym, ap, subst, ◌∙◌, append-nil, ◌⊎◌, inl, inr, arith}
use Rattle.std.specs.Prelude.{Option, Some, slice_get}
use Rattle.std.specs.List.{AllByRecursion}
use Rattle.ecore_meta.specs.Meta.{Meta}
use Rattle.ecore_meta.specs.declared.meta.Kind.{Kind}
use Rattle.ecore_meta.specs.declared.meta.Kind.TheVariants.{Contains}
use Rattle.ecore_meta.specs.Names.{Name}
use Rattle.model_state.specs.Typing.{contains_to, has_feature, is_concrete, kind_of}
use Rattle.model_documents.specs.declared.doc.DocParent.{DocParent}
use Rattle.model_documents.specs.declared.draft.ElementDraft.{ElementDraft}
use Rattle.model_documents.specs.Classes.{may_stand}
use Rattle.model_documents.specs.Parts.{Part}
use Rattle.model_documents.proofs.Every.{every_append, every_map}
use Rattle.model_documents.proofs.Growing.{Kept, named_has}
use Rattle.model_documents.proofs.ValuesFit.{AttrsFit}

-- among rows from the number n on, the row m has the class c
pub record IsAt (n : ℕ) (rows : List ElementDraft) (m c : ℕ) : Type 0 where
  pub place : ℕ
  pub row : ElementDraft
  pub number : m ≡ n + place
  pub there : slice_get rows place ≡ Some row
  pub class : row.class ≡ c

get_left : (xs ys : List ElementDraft) (k : ℕ) (r : ElementDraft) → slice_get xs k ≡ Some r → slice_get (xs ++ ys) k ≡ Some r
get_left [] ys k r h = cc
get_left (x ∷ xs) ys zero r h = h
get_left (x ∷ xs) ys (suc k) r h = get_left xs ys k r h

get_right : (xs ys : List ElementDraft) (k j : ℕ) → j ≡ length xs + k → slice_get (xs ++ ys) j ≡ slice_get ys k
get_right [] ys k j h = ap (slice_get ys) (same k j h)
  where
    same : (k j : ℕ) → j ≡ 0 + k → j ≡ k
    same k j h = omega (arith, h)
get_right (x ∷ xs) ys k zero h = absurd (omega (arith, h))
get_right (x ∷ xs) ys k (suc j) h = get_right xs ys k j (omega (arith, h))

at_left : (n : ℕ) (xs ys : List ElementDraft) (m c : ℕ) → IsAt n xs m c → IsAt n (xs ++ ys) m c
at_left n xs ys m c at = record { place = at.place; row = at.row; number = at.number; there = get_left xs ys at.place at.row at.there; class = at.class }

at_right : (n : ℕ) (xs ys : List ElementDraft) (m c : ℕ) → IsAt (n + length xs) ys m c → IsAt n (xs ++ ys) m c
at_right n xs ys m c at = record {
  place = length xs + at.place;
  row = at.row;
  number = at.number ∙ moved n (length xs) at.place;
  there = get_right xs ys at.place (length xs + at.place) refl ∙ at.there;
  class = at.class;
}
  where
    moved : (n l k : ℕ) → n + l + k ≡ n + (l + k)
    moved n l k = omega arith

at_behind : (n : ℕ) (x : ElementDraft) (xs : List ElementDraft) (m c : ℕ) → IsAt (suc n) xs m c → IsAt n (x ∷ xs) m c
at_behind n x xs m c at = record { place = suc at.place; row = at.row; number = at.number ∙ moved n at.place; there = at.there; class = at.class }
  where
    moved : (n k : ℕ) → suc n + k ≡ n + suc k
    moved n k = omega arith

-- a containment of a row takes the row
pub record Inside (meta : Meta) (n : ℕ) (rows : List ElementDraft) (r : ElementDraft) : Type 0 where
  pub parent : DocParent
  pub class : ℕ
  pub within : r.parent ≡ Some parent
  pub at : IsAt n rows parent.row class
  pub has : has_feature meta class parent.feature ≡ true
  pub takes : contains_to meta (kind_of meta parent.feature) r.class ≡ true

-- it stands on top, where a class is due
pub record OnTop (meta : Meta) (p : Option DocParent) (t : Option ℕ) (r : ElementDraft) : Type 0 where
  pub parent : r.parent ≡ p
  pub may : may_stand meta t r.class ≡ true

-- it stands in a containment of the object of the class c whose row is own
pub record Within (meta : Meta) (c own : ℕ) (r : ElementDraft) : Type 0 where
  pub feature : ℕ
  pub parent : r.parent ≡ Some (record { row = own; feature = feature })
  pub has : has_feature meta c feature ≡ true
  pub takes : contains_to meta (kind_of meta feature) r.class ≡ true

-- of a class with elements, and with attributes that fit
pub record Typed (meta : Meta) (r : ElementDraft) : Type 0 where
  pub concrete : is_concrete meta r.class ≡ true
  pub attrs : AttrsFit meta r.class r.attrs

abbrev Placed : Meta → ℕ → List ElementDraft → (ElementDraft → Type 0) → ElementDraft → Type 0
Placed meta n rows Top r = Typed meta r × (Top r ⊎ Inside meta n rows r)

pub record Rows (meta : Meta) (n : ℕ) (p : Option DocParent) (t : Option ℕ) (count : ℕ) (rows : List ElementDraft) : Type 0 where
  pub each : AllByRecursion (λ r. Typed meta r × (OnTop meta p t r ⊎ Inside meta n rows r)) rows

pub record Keys (meta : Meta) (c own : ℕ) (last : Option Name) (part : Part) : Type 0 where
  pub attrs : AttrsFit meta c part.attrs
  pub each : AllByRecursion (λ r. Typed meta r × (Within meta c own r ⊎ Inside meta (suc own) part.rows r)) part.rows

module _ (meta : Meta) where
  inside_by : (n l : ℕ) (xs ys : List ElementDraft) → ((m c : ℕ) → IsAt n xs m c → IsAt l ys m c) → (r : ElementDraft) → Inside meta n xs r → Inside meta l ys r
  inside_by n l xs ys f r h = record { parent = h.parent; class = h.class; within = h.within; at = f h.parent.row h.class h.at; has = h.has; takes = h.takes }

  placed_by : (n l : ℕ) (xs ys : List ElementDraft) (P Q : ElementDraft → Type 0) → ((m c : ℕ) → IsAt n xs m c → IsAt l ys m c)
      → ((r : ElementDraft) → P r → Q r ⊎ Inside meta l ys r) → (r : ElementDraft) → Placed meta n xs P r → Placed meta l ys Q r
  placed_by n l xs ys P Q f g r h = (h.0, elim h.1 [ inl top ↦ g r top | inr inside ↦ inr (inside_by n l xs ys f r inside) ])

  -- rows after others
  all_append : (n : ℕ) (P Q R : ElementDraft → Type 0) (xs ys : List ElementDraft) → ((r : ElementDraft) → P r → R r) → ((r : ElementDraft) → Q r → R r)
      → AllByRecursion (Placed meta n xs P) xs → AllByRecursion (Placed meta (n + length xs) ys Q) ys
      → AllByRecursion (Placed meta n (xs ++ ys) R) (xs ++ ys)
  all_append n P Q R xs ys f g h k =
      every_append (Placed meta n (xs ++ ys) R) xs ys
      (every_map (Placed meta n xs P) (Placed meta n (xs ++ ys) R) (placed_by n n xs (xs ++ ys) P R (at_left n xs ys) (λ r p. inl (f r p))) xs h)
      (every_map (Placed meta (n + length xs) ys Q) (Placed meta n (xs ++ ys) R)
      (placed_by (n + length xs) n ys (xs ++ ys) Q R (at_right n xs ys) (λ r p. inl (g r p))) ys k)

  held_here : (c own f target : ℕ) (opposite : Option ℕ) (r : ElementDraft) → has_feature meta c f ≡ true → kind_of meta f ≡ Contains target opposite
      → OnTop meta (Some (record { row = own; feature = f })) (Some target) r → Within meta c own r
  held_here c own f target opposite r has kind top =
      record { feature = f; parent = top.parent; has = has; takes = subst (λ (k : Kind). contains_to meta k r.class ≡ true) (sym kind) top.may }

  own_here : (n c : ℕ) (r : ElementDraft) (rows : List ElementDraft) (s : ElementDraft) → r.class ≡ c → Within meta c n s → Inside meta n (r ∷ rows) s
  own_here n c r rows s is h = record {
    parent = record { row = n; feature = h.feature };
    class = c;
    within = h.parent;
    at = record { place = 0; row = r; number = nothing n; there = refl; class = is };
    has = h.has;
    takes = h.takes;
  }
    where
      nothing : (n : ℕ) → n ≡ n + 0
      nothing n = omega arith

  pub kept : Kept meta (Rows meta) (Keys meta)
  kept = record {
    none = λ n p t. record { each = tt };
    more = λ n p t k l xs ys before h g.
        record { each = all_append n (OnTop meta p t) (OnTop meta p t) (OnTop meta p t) xs ys (λ r a. a) (λ r a. a) h.each g.each };
    begins = λ c own. record { attrs = tt; each = tt };
    bare = λ c own last k part one above so plain.
        record {
          attrs = every_append _ part.attrs one.attrs so.attrs plain.attrs;
          each = subst (λ (rows : List ElementDraft). AllByRecursion (Placed meta (suc own) rows (Within meta c own)) rows)
              (sym (ap (λ (rs : List ElementDraft). part.rows ++ rs) plain.none ∙ append-nil part.rows)) so.each;
        };
    holds = λ c own last k part f target opposite count rows above so named kind within held.
        record {
          attrs = subst (AttrsFit meta c) (sym (append-nil part.attrs)) so.attrs;
          each = all_append (suc own) (Within meta c own) (OnTop meta (Some (record { row = own; feature = f })) (Some target))
              (Within meta c own) part.rows rows (λ r a. a)
              (λ r a. held_here c own f target opposite r (named_has meta c k f named).0 kind a) so.each held.each;
        };
    own = λ n p t id c last part before concrete may so.
        let r : ElementDraft = record { id = id; class = c; parent = p; attrs = part.attrs; links = part.links } in
        record {
          each = (
            (record { concrete = concrete; attrs = so.attrs }, inl (record { parent = refl; may = may })),
            every_map (Placed meta (suc n) part.rows (Within meta c n)) (Placed meta n (r ∷ part.rows) (OnTop meta p t))
                (placed_by (suc n) n part.rows (r ∷ part.rows) (Within meta c n) (OnTop meta p t) (at_behind n r part.rows)
                (λ s a. inr (own_here n c r part.rows s refl a)))
                part.rows so.each,
          );
        };
  }
