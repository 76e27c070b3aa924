-- References that lead their pairs have no row in common, and every row is one of theirs or the mirror of one.
use Rattle.std.proofs.Common.{◌≡◌, ℕ, Bool, true, false, cond, not, List, [], ◌∷◌, ◌++◌, refl, sym, ap, subst, ◌∙◌, ◌||◌, ◌&&◌, nat_eq, nat_lt, inl, inr, arith}
use Rattle.std.proofs.lemmas.Bool.Decides.{nat_tests}
use Rattle.std.specs.Prelude.{Option, None, Some, is_some}
use Rattle.std.specs.List.{filter}
use Rattle.std.specs.FinMap.{get}
use Rattle.finite_maps.specs.Equal.{text_eq}
use Rattle.finite_maps.proofs.Cases.{not_so, true_false}
use Rattle.finite_maps.proofs.EqualLaws.{text_equality, nat_equality, and_first, and_second, and_both}
use Rattle.ecore_meta.specs.Meta.{Meta}
use Rattle.model_state.specs.declared.entry.Entry.{Entry}
use Rattle.model_state.specs.Keys.{IdBytes, AttrKey, RowKey}
use Rattle.model_state.specs.Listing.{targets}
use Rattle.model_state.specs.State.{State, is_live}
use Rattle.model_state.specs.Typing.{opposite_of, is_plain}
use Rattle.model_state.specs.Good.{Good, Sound, RowOk}
use Rattle.edit_steps.specs.Rows.{Rows, is_row_or_mirror, is_mirror, unlinks}
use Rattle.edit_steps.specs.Deletes.{is_touched, targets_left, outgoing_made, slots_of}
use Rattle.edit_steps.proofs.Members.{In, Distinct, in_either, kept_in}
use Rattle.edit_steps.proofs.Slots.{slot_in, source_plain, touched_by}
use Rattle.edit_steps.proofs.Children.{feature_listed}
use Rattle.state_steps.specs.Whole.{is_less, leads, links_of, unlinked}

abbrev pub AllLead : Meta → List AttrKey → Type 0
AllLead meta [] = Unit {0}
AllLead meta (s ∷ ss) = (leads meta s ≡ true) × AllLead meta ss

all_kept : {A : Type 0} (p : A → Bool) (xs : List A) → ((x : A) → p x ≡ true) → filter p xs ≡ xs
all_kept p [] h = refl
all_kept {A = A} p (x ∷ xs) h = ap (λ b. cond {A = List A} b (x ∷ filter p xs) (filter p xs)) (h x) ∙ ap (λ ys. x ∷ ys) (all_kept p xs h)

not_less_both : (f g : ℕ) → nat_lt f g ≡ true → nat_lt g f ≡ true → ⊥
not_less_both f g h k = grind (arith, nat_tests)

module _ (meta : Meta) (sound : Sound meta) where
  -- no row of one such reference is near another
  apart : (s t : AttrKey) (x : IdBytes) → leads meta s ≡ true → leads meta t ≡ true → (s ≡ t → ⊥)
      → is_row_or_mirror (opposite_of meta t.1) t.0 t.1 (s.0, s.1, x) ≡ false
  apart s t x first second differ =
      either (text_eq t.0 s.0 && nat_eq t.1 s.1) (is_mirror (opposite_of meta t.1) t.0 (s.0, s.1, x))
      (λ same. differ (λ i. (sym (text_equality.exact t.0 s.0 (and_first _ _ same)) i, sym (nat_equality.exact t.1 s.1 (and_second _ _ same)) i)))
      (λ back. mirror (opposite_of meta t.1) refl back)
    where
      either : (a b : Bool) → (a ≡ true → ⊥) → (b ≡ true → ⊥) → a || b ≡ false
      either true b h g = absurd (h refl)
      either false b h g = not_so b g

      mirror : (o : Option ℕ) → opposite_of meta t.1 ≡ o → is_mirror o t.0 (s.0, s.1, x) ≡ true → ⊥
      mirror None is h = cc
      mirror (Some g) is h =
          let other : opposite_of meta t.1 ≡ Some s.1 = is ∙ ap Some (nat_equality.exact g s.1 (and_first _ _ h)) in
          not_less_both t.1 s.1 (sym (ap (is_less t.1) other) ∙ second) (sym (ap (is_less s.1) (sound.both t.1 s.1 other)) ∙ first)

  untouched : (before : List AttrKey) (s : AttrKey) (x : IdBytes) → AllLead meta before → leads meta s ≡ true → (In s before → ⊥)
      → is_touched meta before (s.0, s.1, x) ≡ false
  untouched [] s x all first far = refl
  untouched (t ∷ ts) s x all first far =
      ap (λ b. b || is_touched meta ts (s.0, s.1, x)) (apart s t x first all.0 (λ e. far (inl e))) ∙ untouched ts s x all.1 first (λ h. far (inr h))

  lead_join : (xs ys : List AttrKey) → AllLead meta xs → AllLead meta ys → AllLead meta (xs ++ ys)
  lead_join [] ys h g = g
  lead_join (x ∷ xs) ys h g = (h.0, lead_join xs ys h.1 g)

  -- so each reference is unlinked from all its targets
  pub all_out : (row : Rows) (ss before : List AttrKey) → AllLead meta before → AllLead meta ss → Distinct ss
      → ((s : AttrKey) → In s ss → In s before → ⊥) → outgoing_made meta row before ss ≡ unlinked meta row ss
  all_out row [] before all lead d far = refl
  all_out row (s ∷ ss) before all lead d far =
      let rest : outgoing_made meta row (before ++ s ∷ []) ss ≡ unlinked meta row ss =
      all_out row ss (before ++ s ∷ []) (lead_join before (s ∷ []) all (lead.0, tt)) lead.1 d.1
      (λ t h g. elim (in_either t before (s ∷ []) g) [
        | inl l ↦ far t
            (inr h) l
        | inr r ↦ elim r [ inl e ↦ d.0 (subst (λ (w : AttrKey). In w ss) e h) | inr none ↦ absurd none ]
      ]) in
      let whole : targets_left meta row before s ≡ targets row s.0 s.1 =
      all_kept (λ (x : Entry). not (is_touched meta before (s.0, s.1, x.id))) (targets row s.0 s.1)
      (λ x. ap not (untouched before s x.id all lead.0 (far s (inl refl)))) in
      λ i. unlinks row (opposite_of meta s.1) s.0 s.1 (whole i) ++ rest i

  pub lead_filtered : (ss : List AttrKey) → AllLead meta (filter (leads meta) ss)
  lead_filtered [] = tt
  lead_filtered (s ∷ ss) =
      elim (leads meta s) as (λ b. leads meta s ≡ b → AllLead meta (cond {A = List AttrKey} b (s ∷ filter (leads meta) ss) (filter (leads meta) ss))) [
        | true ↦ λ is. (is, lead_filtered ss)
        | false ↦ λ _. lead_filtered ss
      ] refl

  module _ (m : State) (good : Good meta m) (xs : List IdBytes) (all : (y : IdBytes) → is_live m y ≡ true → In y xs) where
    some_rank : (o : Option ℕ) → is_some o ≡ true → (r : ℕ) × (o ≡ Some r)
    some_rank None h = cc
    some_rank (Some r) h = (r, refl)

    live_source : (c : Option ℕ) (f : ℕ) (d : Option ℕ) (r : ℕ) → RowOk meta c f d (Some r) → is_some c ≡ true
    live_source None f d r ok = cc
    live_source (Some c) f d r ok = refl

    -- a row by a reference that leads its pair
    led : (k : RowKey) (r : ℕ) → get m.row k ≡ Some r → leads meta (k.0, k.1) ≡ true → In {A = AttrKey} (k.0, k.1) (links_of meta m xs)
    led k r is first =
        let ok = subst (λ o. RowOk meta (get m.kind k.0) k.1 (get m.kind k.2) o) is (good.rows.typed k.0 k.1 k.2) in
        let plain = source_plain meta (get m.kind k.0) k.1 (get m.kind k.2) ok in
        kept_in (leads meta) (k.0, k.1) (slots_of meta m is_plain xs)
        (slot_in meta m is_plain k.0 k.1 xs (all k.0 (live_source (get m.kind k.0) k.1 (get m.kind k.2) r ok))
        (feature_listed meta is_plain (get m.kind k.0) k.1 refl plain.0 plain.1)) first

    pub touched_all : (k : RowKey) (r : ℕ) → get m.row k ≡ Some r → is_touched meta (links_of meta m xs) k ≡ true
    touched_all k r is =
        elim (leads meta (k.0, k.1)) as (λ b. leads meta (k.0, k.1) ≡ b → is_touched meta (links_of meta m xs) k ≡ true) [
          | true ↦ λ first. touched_by meta (links_of meta m xs) (k.0, k.1) k (led k r is first)
              (ap (λ b. b || is_mirror (opposite_of meta k.1) k.0 k) (and_both _ _ (text_equality.own k.0) (nat_equality.own k.1)))
          | false ↦ λ second. by_opposite (opposite_of meta k.1) refl second
        ] refl
      where
        or_true : (b : Bool) → b || true ≡ true
        or_true true = refl
        or_true false = refl

        turned : (f g : ℕ) → nat_lt f g ≡ false → nat_eq f g ≡ false → nat_lt g f ≡ true
        turned f g h k = grind (arith, nat_tests)

        by_opposite : (o : Option ℕ) → opposite_of meta k.1 ≡ o → leads meta (k.0, k.1) ≡ false → is_touched meta (links_of meta m xs) k ≡ true
        by_opposite None at second = absurd (true_false (leads meta (k.0, k.1)) (ap (is_less k.1) at) second)
        by_opposite (Some g) at second =
            let back = some_rank (get m.row (k.2, g, k.0)) (sym (good.rows.mirrored k.0 k.1 k.2 g at) ∙ ap is_some is) in
            let other : opposite_of meta g ≡ Some k.1 = sound.both k.1 g at in
            let first : leads meta (k.2, g) ≡ true = ap (is_less g) other ∙ turned k.1 g (sym (ap (is_less k.1) at) ∙ second) (sound.other k.1 g at) in
            touched_by meta (links_of meta m xs) (k.2, g) k (led (k.2, g, k.0) back.0 back.1 first)
            (ap (λ o. is_row_or_mirror o k.2 g k) other
            ∙ ap (λ b. (text_eq k.2 k.0 && nat_eq g k.1) || b) (and_both _ _ (nat_equality.own k.1) (text_equality.own k.2)) ∙ or_true _)
