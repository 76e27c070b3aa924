-- The rows that are made of what the walk gives and of the lists that the elements give.
use Rattle.std.proofs.Common.{◌≡◌, ℕ, suc, ◌+◌, true, List, [], ◌∷◌, ◌++◌, length, refl, sym, ap, ap₂, subst, ◌∙◌, ◌⊎◌, inl, inr, arith}
use Rattle.std.specs.Prelude.{Option, None, Some, Ok, slice_get}
use Rattle.std.specs.Option.{option_map_or}
use Rattle.finite_maps.proofs.EqualLaws.{and_both, and_first, and_second}
use Rattle.ecore_meta.specs.Meta.{Meta, features_of}
use Rattle.ecore_meta.specs.Promised.{IsMetamodel}
use Rattle.ecore_meta.specs.declared.meta.Kind.{Kind}
use Rattle.ecore_meta.specs.declared.meta.Kind.TheVariants.{Attr, AttrMany, Bounded, Free, Contains, Container, Skip}
use Rattle.model_state.specs.Typing.{has_feature, is_plain, kind_of, links, opposite_of, plain_to}
use Rattle.model_documents.specs.declared.doc.DocRefs.{DocRefs}
use Rattle.model_documents.specs.declared.doc.DocRow.{DocRow}
use Rattle.model_documents.specs.declared.draft.ElementDraft.{ElementDraft}
use Rattle.model_documents.specs.Fits.{Follows, RefsFit, TargetFits, numbers_differ}
use Rattle.model_documents.specs.Completed.{given_at, completed, completed_all, naming, next_row, others, row_of, rows_by, targets_at}
use Rattle.model_documents.specs.Reads.{Read}
use Rattle.model_documents.specs.References.{given_by}
use Rattle.model_documents.proofs.Apart.{then_ok}
use Rattle.model_documents.proofs.Given.{ListFits, ListsFit, given_fit, given_typed, has_plain, plain_apart, plain_has, plain_in_order, plain_of}
use Rattle.model_documents.proofs.Completing.{IsCompleted, completed_list, completed_pairs, features, features_same, listed}
use Rattle.model_documents.proofs.Completing.{named_in, named_there, others_apart}
use Rattle.model_documents.proofs.Numbers.{has, has_at, has_either, has_left, has_right, is_either, same_bool}
use Rattle.model_documents.proofs.Pairs.{Paired, all_pairs, pair_back, pair_forth}

none_less : (n : ℕ) → 0 + n ≡ n
none_less n = omega arith

plain_kind : (meta : Meta) (k : Kind) (d : ℕ) → plain_to meta k d ≡ true → is_plain k ≡ true
plain_kind meta (Attr s default) d h = cc
plain_kind meta (AttrMany s unique) d h = cc
plain_kind meta (Bounded t o) d h = refl
plain_kind meta (Free t o) d h = refl
plain_kind meta (Contains t o) d h = cc
plain_kind meta (Container t o) d h = cc
plain_kind meta Skip d h = cc

features_are : (meta : Meta) (drafts : List ElementDraft) (n : ℕ) (fs : List ℕ) (refs : List DocRefs) → Paired (λ k f q. ListFits meta drafts f q) n fs refs
    → features refs ≡ fs
features_are meta drafts n [] [] p = refl
features_are meta drafts n [] (q ∷ refs) p = absurd p
features_are meta drafts n (f ∷ fs) [] p = absurd p
features_are meta drafts n (f ∷ fs) (q ∷ refs) p = ap₂ (λ x xs. x ∷ xs) (sym p.0.0) (features_are meta drafts (suc n) fs refs p.1)

-- a row of that number, by its draft and its lists
pub record Made (meta : Meta) (drafts : List ElementDraft) (given : List (List DocRefs)) (n : ℕ) (w : DocRow) : Type 0 where
  pub draft : ElementDraft
  pub drafted : slice_get drafts n ≡ Some draft
  pub lists : List DocRefs
  pub given_there : slice_get given n ≡ Some lists
  pub fit : ListsFit meta drafts draft lists
  pub merged : Paired (λ k q m. IsCompleted meta given n q m) 0 lists w.refs
  pub same : row_of meta draft w.refs ≡ w

module _ (meta : Meta) (promised : IsMetamodel meta) (drafts : List ElementDraft) (given : List (List DocRefs)) (rows : List DocRow)
    (gives : given_by meta drafts ≡ Ok given) (makes : rows_by meta given drafts ≡ Ok rows) where
  abbrev MadeOf : ℕ → ElementDraft → DocRow → Type 0
  MadeOf n r w = (completed_all meta given n (given_at given n) ≡ Ok w.refs) × (row_of meta r w.refs ≡ w)

  row_ok : (x y : DocRow) → ◌≡◌ {A = Read DocRow} (Ok x) (Ok y) → x ≡ y
  row_ok x y h = cc

  one_made : (before : List DocRow) (r : ElementDraft) (w : DocRow) → next_row meta given before r ≡ Ok w → MadeOf (length before) r w
  one_made before r w h =
      let refs = then_ok (completed_all meta given (length before) (given_at given (length before))) (λ refs. Ok (row_of meta r refs)) w h in
      let same : row_of meta r refs.0 ≡ w = row_ok (row_of meta r refs.0) w refs.2 in
      subst (MadeOf (length before) r) same (refs.1, refl)

  pairs : Paired MadeOf 0 drafts rows
  pairs = all_pairs MadeOf (next_row meta given) one_made drafts rows makes

  lists_pairs : Paired (λ k r refs. ListsFit meta drafts r refs) 0 drafts given
  lists_pairs = given_fit meta drafts given gives

  pub made : (n : ℕ) (w : DocRow) → slice_get rows n ≡ Some w → Made meta drafts given n w
  made n w at =
      let from = pair_back MadeOf 0 drafts rows n w pairs at in
      let lists = pair_forth (λ k r refs. ListsFit meta drafts r refs) 0 drafts given n from.0 lists_pairs from.1 in
      let here : given_at given n ≡ lists.0 = ap (λ (o : Option (List DocRefs)). option_map_or (λ refs. refs) o []) lists.1 in
      let of : MadeOf n from.0 w = subst (λ m. MadeOf m from.0 w) (none_less n) from.2 in
      record {
        draft = from.0;
        drafted = from.1;
        lists = lists.0;
        given_there = lists.1;
        fit = lists.2;
        merged = completed_pairs meta given n lists.0 w.refs (ap (completed_all meta given n) (sym here) ∙ of.0);
        same = of.1;
      }

  -- the row of a draft
  pub row_at : (n : ℕ) (d : ElementDraft) → slice_get drafts n ≡ Some d → (w : DocRow) × (slice_get rows n ≡ Some w) × (w.class ≡ d.class)
  row_at n d at =
      let to = pair_forth MadeOf 0 drafts rows n d pairs at in
      (to.0, to.1, ap (λ (w : DocRow). w.class) (sym to.2.1))

  some_draft : (n : ℕ) (d e : ElementDraft) → slice_get drafts n ≡ Some d → slice_get drafts n ≡ Some e → d ≡ e
  some_draft n d e h g = let same : Some d ≡ Some e = sym h ∙ g in cc

  some_lists : (n : ℕ) (xs ys : List DocRefs) → slice_get given n ≡ Some xs → slice_get given n ≡ Some ys → xs ≡ ys
  some_lists n xs ys h g = let same : Some xs ≡ Some ys = sym h ∙ g in cc

  -- an element that gives another as a target by the opposite of f may be a target of it by f
  back : (r b : ElementDraft) (refs : List DocRefs) (n f g : ℕ) → opposite_of meta f ≡ Some g → ListsFit meta drafts b refs → slice_get drafts n ≡ Some r
      → has (targets_at g refs) n ≡ true → links meta r.class f b.class ≡ true
  back r b refs n f g other fit at names =
      let typed = given_typed meta drafts 0 (plain_of meta b.class) refs g n fit names in
      let plain = plain_has meta b.class g typed.0 in
      let same : typed.1.0 ≡ r = some_draft n typed.1.0 r typed.1.1 at in
      let linked : links meta b.class g r.class ≡ true =
      and_both (has_feature meta b.class g) (plain_to meta (kind_of meta g) r.class) plain.1
      (subst (λ (x : ElementDraft). plain_to meta (kind_of meta g) x.class ≡ true) same typed.1.2) in
      promised.sound.mirrors b.class g r.class f (promised.sound.both f g other) linked

  -- ---- the lists of a row
  module _ (n : ℕ) (w : DocRow) (m : Made meta drafts given n w) where
    abbrev c : ℕ
    c = m.draft.class

    lists_are : features m.lists ≡ plain_of meta c
    lists_are = features_are meta drafts 0 (plain_of meta c) m.lists m.fit

    pub features_of_row : features w.refs ≡ plain_of meta c
    features_of_row = features_same meta given n 0 m.lists w.refs m.merged ∙ lists_are

    pub refs_apart : numbers_differ (features w.refs) ≡ true
    refs_apart = ap numbers_differ features_of_row ∙ plain_apart meta promised.lists c

    pub refs_in_order : Follows (features w.refs) (features_of meta c)
    refs_in_order = subst (λ fs. Follows fs (features_of meta c)) (sym features_of_row) (plain_in_order meta c)

    target_at : (f b : ℕ) (d : ElementDraft) → slice_get drafts b ≡ Some d → links meta c f d.class ≡ true → TargetFits meta rows c f b
    target_at f b d at linked =
        let row = row_at b d at in
        (row.0, row.1, ap (links meta c f) row.2 ∙ linked)

    other_at : (f b : ℕ) (o : Option ℕ) (ts : List ℕ) → opposite_of meta f ≡ o → has (others o n ts given) b ≡ true → TargetFits meta rows c f b
    other_at f b None ts other h = cc
    other_at f b (Some g) ts other h =
        let at = named_in g n ts 0 given b h in
        let there : slice_get given b ≡ Some at.lists = ap (slice_get given) (at.number ∙ none_less at.place) ∙ at.there in
        let from = pair_back (λ k r refs. ListsFit meta drafts r refs) 0 drafts given b at.lists lists_pairs there in
        target_at f b from.0 from.1 (back m.draft from.0 at.lists n f g other from.2 m.drafted at.names)

    -- each list fits
    pub list_fits : (k : ℕ) (q : DocRefs) → slice_get w.refs k ≡ Some q → RefsFit meta rows c q
    list_fits k q at =
        let from = pair_back (λ k q m. IsCompleted meta given n q m) 0 m.lists w.refs k q m.merged at in
        let by = pair_back (λ k f q. ListFits meta drafts f q) 0 (plain_of meta c) m.lists k from.0 m.fit from.1 in
        let f = by.0 in
        let own : f ≡ q.feature = by.2.0 ∙ from.2.feature in
        let plain = plain_has meta c f (has_at (plain_of meta c) k f by.1) in
        let ts = from.0.targets in
        let o = opposite_of meta from.0.feature in
        record {
          held = subst (λ x. has_feature meta c x ≡ true) own plain.1;
          plain = subst (λ x. is_plain (kind_of meta x) ≡ true) own plain.0;
          apart = ap numbers_differ from.2.targets ∙ others_apart o n ts given by.2.1.apart;
          bound = from.2.within;
          typed = λ b h.
              subst (λ x. TargetFits meta rows c x b) own
              (elim (has_either ts (others o n ts given) b (sym (ap (λ (xs : List ℕ). has xs b) from.2.targets) ∙ h)) [
                | inl e ↦
                    let d = by.2.1.typed b e in
                    target_at f b d.0 d.1 (and_both (has_feature meta c f) (plain_to meta (kind_of meta f) d.0.class) plain.1 d.2)
                | inr e ↦ other_at f b o ts (ap (opposite_of meta) by.2.0) e
              ]);
        }

    merged_is : (f : ℕ) → has (plain_of meta c) f ≡ true → targets_at f w.refs ≡ completed meta given n (record { feature = f; targets = targets_at f m.lists })
    merged_is f h = completed_list meta given n 0 m.lists w.refs f m.merged (ap (λ (fs : List ℕ). has fs f) lists_are ∙ h)

  -- ---- both sides of an opposite
  -- one of the two gives the other
  abbrev Linked : ℕ → ℕ → List DocRefs → ℕ → ℕ → List DocRefs → Type 0
  Linked n f xs b g ys = (has (targets_at f xs) b ≡ true) ⊎ (has (targets_at g ys) n ≡ true)

  module _ (n b : ℕ) (w x : DocRow) (m : Made meta drafts given n w) (l : Made meta drafts given b x) (f g : ℕ) (other : opposite_of meta f ≡ Some g) where
    mine : List ℕ
    mine = targets_at f m.lists

    all_is : has (plain_of meta m.draft.class) f ≡ true → targets_at f w.refs ≡ targets_at f m.lists ++ naming g n (targets_at f m.lists) 0 given
    all_is h = merged_is n w m f h ∙ ap (λ (o : Option ℕ). targets_at f m.lists ++ others o n (targets_at f m.lists) given) other

    pub forth : has (targets_at f w.refs) b ≡ true → Linked n f m.lists b g l.lists
    forth h =
        let known : has (plain_of meta m.draft.class) f ≡ true = ap (λ (fs : List ℕ). has fs f) (sym (features_of_row n w m)) ∙ listed w.refs f b h in
        elim (has_either (targets_at f m.lists) (naming g n (targets_at f m.lists) 0 given) b (ap (λ (xs : List ℕ). has xs b) (sym (all_is known)) ∙ h)) [
          | inl e ↦ inl e
          | inr e ↦
              let at = named_in g n (targets_at f m.lists) 0 given b e in
              let there : slice_get given b ≡ Some at.lists = ap (slice_get given) (at.number ∙ none_less at.place) ∙ at.there in
              inr (subst (λ (refs : List DocRefs). has (targets_at g refs) n ≡ true) (some_lists b at.lists l.lists there l.given_there) at.names)
        ]

    -- the element has the feature
    known_by : Linked n f m.lists b g l.lists → has (plain_of meta m.draft.class) f ≡ true
    known_by (inl e) = ap (λ (fs : List ℕ). has fs f) (sym (lists_are n w m)) ∙ listed m.lists f b e
    known_by (inr e) =
        let linked = back m.draft l.draft l.lists n f g other l.fit m.drafted e in
        let has_it = and_first (has_feature meta m.draft.class f) (plain_to meta (kind_of meta f) l.draft.class) linked in
        let goes = and_second (has_feature meta m.draft.class f) (plain_to meta (kind_of meta f) l.draft.class) linked in
        has_plain meta m.draft.class f (plain_kind meta (kind_of meta f) l.draft.class goes) has_it

    in_list : Linked n f m.lists b g l.lists → has (targets_at f m.lists ++ naming g n (targets_at f m.lists) 0 given) b ≡ true
    in_list (inl e) = has_left (targets_at f m.lists) (naming g n (targets_at f m.lists) 0 given) b e
    in_list (inr e) =
        elim (is_either (has (targets_at f m.lists) b)) [
          | inl h ↦ has_left (targets_at f m.lists) (naming g n (targets_at f m.lists) 0 given) b h
          | inr h ↦ has_right (targets_at f m.lists) (naming g n (targets_at f m.lists) 0 given) b
              (named_there g n (targets_at f m.lists) 0 given b b l.lists (sym (none_less b)) l.given_there e h)
        ]

    pub come_back : Linked n f m.lists b g l.lists → has (targets_at f w.refs) b ≡ true
    come_back h = ap (λ (xs : List ℕ). has xs b) (all_is (known_by h)) ∙ in_list h

  turned : (n f b g : ℕ) (xs ys : List DocRefs) → Linked n f xs b g ys → Linked b g ys n f xs
  turned n f b g xs ys (inl e) = inr e
  turned n f b g xs ys (inr e) = inl e

  pub mirrored : (n : ℕ) (w : DocRow) (f b : ℕ) (x : DocRow) (g : ℕ) → slice_get rows n ≡ Some w → slice_get rows b ≡ Some x
      → opposite_of meta f ≡ Some g → has (targets_at f w.refs) b ≡ has (targets_at g x.refs) n
  mirrored n w f b x g here there other =
      let m = made n w here in
      let l = made b x there in
      let back = promised.sound.both f g other in
      same_bool (has (targets_at f w.refs) b) (has (targets_at g x.refs) n)
      (λ h. come_back b n x w l m g f back (turned n f b g m.lists l.lists (forth n b w x m l f g other h)))
      (λ h. come_back n b w x m l f g other (turned b g n f l.lists m.lists (forth b n x w l m g f back h)))
