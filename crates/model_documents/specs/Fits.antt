-- The elements of a document that fit a metamodel and each other: what holds of each document that is read.
use Rattle.std.specs.Prelude.{◌≡◌, ◌⊎◌, ℕ, Bool, true, false, ◌&&◌, not, List, [], ◌∷◌, Option, None, Some, Ok, length, map, nat_eq, slice_get}
use Rattle.std.specs.List.{count_by, list_any}
use Rattle.finite_maps.specs.Maps.{is_within}
use Rattle.finite_maps.specs.Equal.{option_eq}
use Rattle.ecore_meta.specs.Meta.{Meta, features_of}
use Rattle.ecore_meta.specs.Promised.{IsMetamodel}
use Rattle.model_state.specs.Good.{ValuesOk}
use Rattle.model_state.specs.Typing.{child_upper, contains_to, has_feature, is_concrete, is_plain, kind_of, links, opposite_of, row_upper, upper_of}
use Rattle.model_documents.specs.declared.doc.DocAttr.{DocAttr}
use Rattle.model_documents.specs.declared.doc.DocParent.{DocParent}
use Rattle.model_documents.specs.declared.doc.DocRefs.{DocRefs}
use Rattle.model_documents.specs.declared.doc.DocRow.{DocRow}
use Rattle.model_documents.specs.Document.{doc_of}
use Rattle.model_documents.specs.Laws.{parents_before, ids_repeat}
use Rattle.model_documents.specs.Completed.{targets_at}
use Rattle.model_documents.specs.Places.{parent_eq}

-- no number comes twice
abbrev pub numbers_differ : List ℕ → Bool
numbers_differ [] = true
numbers_differ (n ∷ ns) = not (list_any (nat_eq n) ns) && numbers_differ ns

-- the one list has some of the other's numbers, in its order
abbrev pub Follows : List ℕ → List ℕ → Type 0
Follows xs [] = xs ≡ []
Follows xs (n ∷ ns) = Follows xs ns ⊎ ((rest : List ℕ) × (xs ≡ n ∷ rest) × Follows rest ns)

-- a row of a class stands at the root, or in a containment of its parent's class that takes elements of the class
abbrev pub StandsFit : Meta → List DocRow → ℕ → Option DocParent → Type 0
StandsFit meta rows c None = Unit {0}
StandsFit meta rows c (Some p) =
    (q : DocRow) × (slice_get rows p.row ≡ Some q) × (has_feature meta q.class p.feature ≡ true) × (contains_to meta (kind_of meta p.feature) c ≡ true)

-- values that an attribute of the class may hold
abbrev pub AttrFits : Meta → ℕ → DocAttr → Type 0
AttrFits meta c a = (has_feature meta c a.feature ≡ true) × ValuesOk meta (kind_of meta a.feature) (upper_of meta a.feature) a.values

-- a row that the feature of the class may refer to
abbrev pub TargetFits : Meta → List DocRow → ℕ → ℕ → ℕ → Type 0
TargetFits meta rows c f b = (d : DocRow) × (slice_get rows b ≡ Some d) × (links meta c f d.class ≡ true)

-- targets that a plain reference of the class may have: each once, within its bound
pub record RefsFit (meta : Meta) (rows : List DocRow) (c : ℕ) (q : DocRefs) : Type 0 where
  pub held : has_feature meta c q.feature ≡ true
  pub plain : is_plain (kind_of meta q.feature) ≡ true
  pub apart : numbers_differ q.targets ≡ true
  pub bound : is_within (length q.targets) (row_upper meta q.feature) ≡ true
  pub typed : (b : ℕ) → list_any (nat_eq b) q.targets ≡ true → TargetFits meta rows c q.feature b

-- a row that fits: its class has elements, and each of its features comes once, in the order of the class's features
pub record RowFits (meta : Meta) (rows : List DocRow) (r : DocRow) : Type 0 where
  pub concrete : is_concrete meta r.class ≡ true
  pub stands : StandsFit meta rows r.class r.parent
  pub attrs_apart : numbers_differ (map (λ (a : DocAttr). a.feature) r.attrs) ≡ true
  pub attrs_in_order : Follows (map (λ (a : DocAttr). a.feature) r.attrs) (features_of meta r.class)
  pub attrs : (k : ℕ) (a : DocAttr) → slice_get r.attrs k ≡ Some a → AttrFits meta r.class a
  pub refs_apart : numbers_differ (map (λ (q : DocRefs). q.feature) r.refs) ≡ true
  pub refs_in_order : Follows (map (λ (q : DocRefs). q.feature) r.refs) (features_of meta r.class)
  pub refs : (k : ℕ) (q : DocRefs) → slice_get r.refs k ≡ Some q → RefsFit meta rows r.class q

-- how many of the rows stand where the parent says
abbrev pub standing : Option DocParent → List DocRow → ℕ
standing parent rows = count_by (λ (r : DocRow). option_eq parent_eq r.parent parent) rows

-- Each row fits, after its parent. No id comes twice, and no containment is above its bound. Each link to a reference with an
-- opposite is one of both lists.
pub record DocumentFits (meta : Meta) (rows : List DocRow) : Type 0 where
  pub each : (n : ℕ) (r : DocRow) → slice_get rows n ≡ Some r → RowFits meta rows r
  pub parents : parents_before 0 rows ≡ true
  pub ids_apart : ids_repeat rows ≡ false
  pub bound : (p : DocParent) → is_within (standing (Some p) rows) (child_upper meta p.feature) ≡ true
  pub mirrored : (n : ℕ) (r : DocRow) (f : ℕ) (b : ℕ) (d : DocRow) (g : ℕ) → slice_get rows n ≡ Some r → slice_get rows b ≡ Some d
      → opposite_of meta f ≡ Some g → list_any (nat_eq b) (targets_at f r.refs) ≡ list_any (nat_eq n) (targets_at g d.refs)

-- the elements of each document that is read fit
abbrev pub DocumentsFit : Type 0
DocumentsFit = (meta : Meta) → IsMetamodel meta → (text : List ℕ) (rows : List DocRow) → doc_of meta text ≡ Ok rows → DocumentFits meta rows
