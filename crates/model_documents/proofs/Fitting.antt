-- The elements of each document that is read fit.
use Rattle.std.proofs.Common.{◌≡◌, ℕ, ◌+◌, ◌≤◌, ◌⊎◌, true, cond, List, [], ◌∷◌, map, refl, sym, ap, subst, ◌∙◌, inl, inr, arith}
use Rattle.std.specs.Prelude.{Option, None, Some, Ok, slice_get}
use Rattle.std.specs.List.{count_by}
use Rattle.std.proofs.lemmas.List.Sums.{sum_by-cons}
use Rattle.serde_json.specs.Data.{Data}
use Rattle.serde_json.specs.Read.{read}
use Rattle.finite_maps.specs.Equal.{option_eq}
use Rattle.finite_maps.specs.Maps.{is_within}
use Rattle.ecore_meta.specs.Meta.{Meta, features_of}
use Rattle.ecore_meta.specs.Promised.{IsMetamodel}
use Rattle.model_state.specs.Typing.{child_upper, has_feature, is_concrete}
use Rattle.model_documents.specs.declared.doc.DocAttr.{DocAttr}
use Rattle.model_documents.specs.declared.doc.DocParent.{DocParent}
use Rattle.model_documents.specs.declared.doc.DocRefs.{DocRefs}
use Rattle.model_documents.specs.declared.doc.DocRow.{DocRow}
use Rattle.model_documents.specs.declared.draft.ElementDraft.{ElementDraft}
use Rattle.model_documents.specs.Document.{doc_of, of_json, resolved}
use Rattle.model_documents.specs.Fits.{AttrFits, DocumentsFit, DocumentFits, Follows, RefsFit, RowFits, StandsFit, numbers_differ, standing}
use Rattle.model_documents.specs.Completed.{rows_by}
use Rattle.model_documents.specs.References.{given_by}
use Rattle.model_documents.specs.Places.{parent_eq}
use Rattle.model_documents.specs.Walk.{walked}
use Rattle.model_documents.proofs.Apart.{ids_apart, rows_keep, then_ok}
use Rattle.model_documents.proofs.ParentsFirst.{parents_first}
use Rattle.model_documents.proofs.Bounds as bounds
use Rattle.model_documents.proofs.Every.{every_at}
use Rattle.model_documents.proofs.Growing.{walked_grows}
use Rattle.model_documents.proofs.InOrder.{features_differ}
use Rattle.model_documents.proofs.Keys.{Trim, read_trim}
use Rattle.model_documents.proofs.Made.{Made, list_fits, made, mirrored, refs_apart, refs_in_order, row_at}
use Rattle.model_documents.proofs.SetAttrs.{by_apart, by_in_order, by_keeps}
use Rattle.model_documents.proofs.Standing as standings
use Rattle.model_documents.proofs.Standing.{Inside, OnTop}
use Rattle.model_documents.proofs.ValuesFit.{AttrsFit}

-- ---- how many rows stand at a place, by their parents
parents_count : {A : Type 0} (parent : A → Option DocParent) (p : Option DocParent) (xs : List A)
    → count_by (λ x. option_eq parent_eq (parent x) p) xs ≡ count_by (λ q. option_eq parent_eq q p) (map parent xs)
parents_count parent p [] = refl
parents_count parent p (x ∷ xs) =
    sum_by-cons (λ x. cond (option_eq parent_eq (parent x) p) 1 0) x xs
    ∙ ap (λ n. cond (option_eq parent_eq (parent x) p) 1 0 + n) (parents_count parent p xs)
    ∙ sym (sum_by-cons (λ (q : Option DocParent). cond (option_eq parent_eq q p) 1 0) (parent x) (map parent xs))

module _ (meta : Meta) (promised : IsMetamodel meta) (drafts : List ElementDraft) (given : List (List DocRefs)) (rows : List DocRow)
    (gives : given_by meta drafts ≡ Ok given) (makes : rows_by meta given drafts ≡ Ok rows) where
  same_count : (p : Option DocParent) → standing p rows ≡ count_by (λ (r : ElementDraft). option_eq parent_eq r.parent p) drafts
  same_count p =
      parents_count (λ (r : DocRow). r.parent) p rows
      ∙ ap (λ (ps : List (Option DocParent)). count_by (λ q. option_eq parent_eq q p) ps)
      (rows_keep meta (λ (r : ElementDraft). r.parent) (λ (r : DocRow). r.parent) (λ r refs. refl) given [] drafts rows makes)
      ∙ sym (parents_count (λ (r : ElementDraft). r.parent) p drafts)

  -- no containment is above its bound
  bound_fits : (k : ℕ) → bounds.Rows meta 0 None None k drafts → (p : DocParent) → is_within (standing (Some p) rows) (child_upper meta p.feature) ≡ true
  bound_fits k so p = ap (λ n. is_within n (child_upper meta p.feature)) (same_count (Some p)) ∙ so.within p (none_more p.row)
    where
      none_more : (n : ℕ) → 0 ≤ n
      none_more n = omega arith

  -- ---- each row
  module _ (k : ℕ) (stand : standings.Rows meta 0 None None k drafts) (n : ℕ) (w : DocRow) (m : Made meta drafts given n w) where
    abbrev draft : ElementDraft
    draft = m.draft

    class_is : w.class ≡ draft.class
    class_is = ap (λ (x : DocRow). x.class) (sym m.same)

    stands_in : OnTop meta None None draft ⊎ Inside meta 0 drafts draft → StandsFit meta rows draft.class draft.parent
    stands_in (inl top) = subst (StandsFit meta rows draft.class) (sym top.parent) tt
    stands_in (inr inside) =
        let row = row_at meta promised drafts given rows gives makes inside.at.place inside.at.row inside.at.there in
        let place : inside.parent.row ≡ inside.at.place = inside.at.number ∙ none_less inside.at.place in
        subst (StandsFit meta rows draft.class) (sym inside.within)
        (row.0, ap (slice_get rows) place ∙ row.1, ap (λ c. has_feature meta c inside.parent.feature) (row.2 ∙ inside.at.class) ∙ inside.has, inside.takes)
      where
        none_less : (n : ℕ) → 0 + n ≡ n
        none_less n = omega arith

    row_fits : RowFits meta rows w
    row_fits =
        let placed = every_at (λ (r : ElementDraft). standings.Typed meta r × (OnTop meta None None r ⊎ Inside meta 0 drafts r)) drafts n draft
        stand.each m.drafted in
        let fs = features_of meta draft.class in
        let attrs : AttrsFit meta w.class w.attrs =
        subst (λ (x : DocRow). AttrsFit meta x.class x.attrs) m.same (by_keeps (AttrFits meta draft.class) draft.attrs fs placed.0.attrs) in
        record {
          concrete = ap (is_concrete meta) class_is ∙ placed.0.concrete;
          stands = subst (λ (x : DocRow). StandsFit meta rows x.class x.parent) m.same (stands_in placed.1);
          attrs_apart = subst (λ (x : DocRow). numbers_differ (map (λ (a : DocAttr). a.feature) x.attrs) ≡ true) m.same
              (by_apart draft.attrs fs (features_differ meta promised.lists draft.class));
          attrs_in_order = subst (λ (x : DocRow). Follows (map (λ (a : DocAttr). a.feature) x.attrs) (features_of meta x.class)) m.same
              (by_in_order draft.attrs fs);
          attrs = λ i a at. every_at (AttrFits meta w.class) w.attrs i a attrs at;
          refs_apart = refs_apart meta promised drafts given rows gives makes n w m;
          refs_in_order = subst (λ c. Follows (map (λ (q : DocRefs). q.feature) w.refs) (features_of meta c)) (sym class_is)
              (refs_in_order meta promised drafts given rows gives makes n w m);
          refs = λ i q at. subst (λ c. RefsFit meta rows c q) (sym class_is) (list_fits meta promised drafts given rows gives makes n w m i q at);
        }

-- ---- the document
fits_of : (meta : Meta) → IsMetamodel meta → (text : List ℕ) (rows : List DocRow) → doc_of meta text ≡ Ok rows → (o : Option Data)
    → ((d : Data) → o ≡ Some d → Trim d) → of_json meta o ≡ Ok rows → DocumentFits meta rows
fits_of meta promised text rows read None trim h = cc
fits_of meta promised text rows read (Some d) trim h =
    let drafts = then_ok (walked meta d) (resolved meta) rows h in
    let given = then_ok (given_by meta drafts.0) (λ given. rows_by meta given drafts.0) rows drafts.2 in
    let stands = walked_grows meta (standings.Rows meta) (standings.Keys meta) (standings.kept meta) d drafts.0 (trim d refl) drafts.1 in
    let within = walked_grows meta (bounds.Rows meta) (bounds.Keys meta) (bounds.kept meta) d drafts.0 (trim d refl) drafts.1 in
    record {
      each = λ n w at. row_fits meta promised drafts.0 given.0 rows given.1 given.2 stands.0 stands.1 n w
          (made meta promised drafts.0 given.0 rows given.1 given.2 n w at);
      parents = parents_first meta text rows read;
      ids_apart = ids_apart meta text rows read;
      bound = bound_fits meta promised drafts.0 given.0 rows given.1 given.2 within.0 within.1;
      mirrored = λ n r f b e g here there other. mirrored meta promised drafts.0 given.0 rows given.1 given.2 n r f b e g here there other;
    }

pub documents_fit : DocumentsFit
unfolding doc_of
documents_fit meta promised text rows h = fits_of meta promised text rows h (read text) (λ d is. read_trim text d is) h
