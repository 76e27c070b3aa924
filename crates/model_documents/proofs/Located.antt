-- What a reference finds is a row.
use Rattle.std.proofs.Common.{◌≡◌, ℕ, zero, suc, ◌+◌, Bool, true, false, ◌==◌, cond, List, [], ◌∷◌, codes, refl, sym, ap, ◌∙◌, arith}
use Rattle.std.specs.Prelude.{Option, None, Some, option_and_then, slice_get}
use Rattle.std.specs.List.{slice_split}
use Rattle.ecore_meta.specs.Meta.{Meta, feature_named}
use Rattle.ecore_json.specs.References.{after_prefix}
use Rattle.ecore_meta.specs.Names.{Name}
use Rattle.model_state.specs.Typing.{is_containment, kind_of, upper_of}
use Rattle.model_documents.specs.declared.doc.DocParent.{DocParent}
use Rattle.model_documents.specs.declared.draft.ElementDraft.{ElementDraft}
use Rattle.ecore_meta.specs.Typing.{is_one}
use Rattle.model_documents.specs.References.{along, along_parts, bare, child_by, child_named, index_of, located, located_by, number_of, root_at, step_from}
use Rattle.model_documents.specs.Places.{child_at, class_at, has_id, numbers_where, stands_in}
use Rattle.model_documents.proofs.Keys.{and_then_some}

-- the number is that of a row
abbrev pub IsRow : List ElementDraft → ℕ → Type 0
IsRow rows n = (d : ElementDraft) × (slice_get rows n ≡ Some d)

abbrev Numbered : ℕ → List ElementDraft → ℕ → Type 0
Numbered n rows m = (j : ℕ) × (d : ElementDraft) × (m ≡ n + j) × (slice_get rows j ≡ Some d)

numbers_row : (p : ElementDraft → Bool) (n : ℕ) (rows : List ElementDraft) (k m : ℕ) → slice_get (numbers_where p n rows) k ≡ Some m → Numbered n rows m
numbers_row p n [] k m h = cc
numbers_row p n (r ∷ rows) k m h = by_test (p r) k h (λ i e. behind_it (numbers_row p (suc n) rows i m e))
  where
    behind_it : Numbered (suc n) rows m → Numbered n (r ∷ rows) m
    behind_it at = (suc at.0, at.1, at.2 ∙ moved n at.0, at.3)
      where
        moved : (n j : ℕ) → suc n + j ≡ n + suc j
        moved n j = omega arith

    by_test : (b : Bool) (k : ℕ) → slice_get (cond b (n ∷ numbers_where p (suc n) rows) (numbers_where p (suc n) rows)) k ≡ Some m
        → ((i : ℕ) → slice_get (numbers_where p (suc n) rows) i ≡ Some m → Numbered n (r ∷ rows) m) → Numbered n (r ∷ rows) m
    by_test true zero h later = let e : n ≡ m = cc in (0, r, sym e ∙ nothing n, refl)
      where
        nothing : (n : ℕ) → n ≡ n + 0
        nothing n = omega arith
    by_test true (suc k) h later = later k h
    by_test false k h later = later k h

row_of_numbers : (p : ElementDraft → Bool) (rows : List ElementDraft) (k m : ℕ) → slice_get (numbers_where p 0 rows) k ≡ Some m → IsRow rows m
row_of_numbers p rows k m h =
    let at = numbers_row p 0 rows k m h in
    (at.1, ap (slice_get rows) (at.2 ∙ none at.0) ∙ at.3)
  where
    none : (j : ℕ) → 0 + j ≡ j
    none j = omega arith

module _ (meta : Meta) (rows : List ElementDraft) where
  child_row : (place : Option DocParent) (k m : ℕ) → child_at rows place k ≡ Some m → IsRow rows m
  child_row place k m h = row_of_numbers (stands_in place) rows k m h

  children_row : (place : Option DocParent) (o : Option ℕ) (m : ℕ) → option_and_then (child_at rows place) o ≡ Some m → IsRow rows m
  children_row place o m h = let k = and_then_some (child_at rows place) o m h in child_row place k.0 m k.2

  by_row : (p : ℕ) (f : Option ℕ) (index : Option Name) (m : ℕ) → child_by meta rows p f index ≡ Some m → IsRow rows m
  by_row p None index m h = cc
  by_row p (Some f) index m h = by_test (is_containment (kind_of meta f)) h
    where
      by_test : (b : Bool) → cond b
          (option_and_then (child_at rows (Some (record { row = p; feature = f }))) (index_of (is_one (upper_of meta f)) index)) None ≡ Some m
          → IsRow rows m
      by_test true h = children_row (Some (record { row = p; feature = f })) (index_of (is_one (upper_of meta f)) index) m h
      by_test false h = cc

  named_row : (p : ℕ) (parts : List Name) (m : ℕ) → child_named meta rows p parts ≡ Some m → IsRow rows m
  named_row p [] m h = cc
  named_row p (name ∷ []) m h = by_row p (feature_named meta (class_at rows p) name) None m h
  named_row p (name ∷ index ∷ []) m h = by_row p (feature_named meta (class_at rows p) name) (Some index) m h
  named_row p (name ∷ index ∷ part ∷ parts) m h = cc

  step_row : (step : Name) (p m : ℕ) → step_from meta rows step p ≡ Some m → IsRow rows m
  step_row step p m h =
      let t = and_then_some (λ t. child_named meta rows p (slice_split (λ b. b == 46) t)) (after_prefix (codes "@") step) m h in
      named_row p (slice_split (λ b. b == 46) t.0) m t.2

  along_row : (steps : List Name) (here : Option ℕ) (m : ℕ) → ((n : ℕ) → here ≡ Some n → IsRow rows n) → along meta rows steps here ≡ Some m → IsRow rows m
  along_row [] here m so h = so m h
  along_row (step ∷ steps) here m so h =
      along_row steps (option_and_then (step_from meta rows step) here) m
      (λ n e. let p = and_then_some (step_from meta rows step) here n e in step_row step p.0 n p.2) h

  root_row : (root : Name) (m : ℕ) → root_at rows root ≡ Some m → IsRow rows m
  root_row [] m h = child_row None 0 m h
  root_row (b ∷ bs) m h = children_row None (number_of (b ∷ bs)) m h

  parts_row : (parts : List Name) (m : ℕ) → along_parts meta rows parts ≡ Some m → IsRow rows m
  parts_row [] m h = cc
  parts_row (root ∷ steps) m h = along_row steps (root_at rows root) m (λ n e. root_row root n e) h

  by_path : (t : Name) (o : Option Name) (m : ℕ) → located_by meta rows t o ≡ Some m → IsRow rows m
  by_path t None m h = row_of_numbers (has_id t) rows 0 m h
  by_path t (Some path) m h = parts_row (slice_split (λ b. b == 47) path) m h

  pub located_row : (t : Name) (m : ℕ) → located meta rows t ≡ Some m → IsRow rows m
  located_row t m h = by_path (bare t (after_prefix (codes "#") t)) (after_prefix (codes "/") (bare t (after_prefix (codes "#") t))) m h
