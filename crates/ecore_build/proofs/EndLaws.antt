-- Opposites of both sorts name each other, where a document has no fault.
use Rattle.std.proofs.Common.{◌≡◌, ℕ, zero, suc, Bool, true, false, List, [], ◌∷◌, ◌&&◌, not, cond, refl, sym, ap, subst, ◌∙◌, map, nat_eq}
use Rattle.std.specs.Prelude.{negsuc, pos, Option, None, Some, slice_get}
use Rattle.std.specs.Ordering.{int_eq}
use Rattle.std.specs.Option.{option_map, option_map_or}
use Rattle.ecore_build.specs.Build.{container, end_number, feature_from, kind_in, meta_of}
use Rattle.ecore_drafts.specs.Drafts.{drafts}
use Rattle.ecore_meta.specs.Ends.{EndsMeet, end_in, is_container, is_containment, owner_of, target_in}
use Rattle.ecore_build.specs.Faults.{answers, any_from, bad_end, contains_back, fault, is_at, is_self, is_unanswered, enums_in}
use Rattle.ecore_meta.specs.Typing.{kind_of}
use Rattle.ecore_drafts.specs.declared.drafts.FeatureDraft.{FeatureDraft}
use Rattle.ecore_drafts.specs.declared.drafts.End.{End}
use Rattle.ecore_drafts.specs.declared.drafts.End.TheVariants.{Open, Nowhere, At}
use Rattle.ecore_drafts.specs.declared.drafts.Target.{Target}
use Rattle.ecore_drafts.specs.declared.drafts.Target.TheVariants.{Skipped, Unsupported, Missing, Elements, Values}
use Rattle.ecore_meta.specs.declared.meta.Enum.{Enum}
use Rattle.ecore_meta.specs.declared.meta.Feature.{Feature}
use Rattle.ecore_meta.specs.declared.meta.Kind.{Kind}
use Rattle.ecore_meta.specs.declared.meta.Kind.TheVariants.{Attr, AttrMany, Bounded, Free, Contains, Container, Skip}
use Rattle.ecore_meta.specs.declared.meta.Scalar.{Scalar}
use Rattle.ecore_meta.specs.declared.meta.Value.{Value}
use Rattle.ecore_drafts.specs.declared.rows.MetaRows.{MetaRows}
use Rattle.ecore_build.proofs.SoundLaws.{all_answer, and_two, at_is, got_of, kind_at, no_self, none_at, not_false, to_is}

-- a reference to class c with the opposite g, by whether it is a containment, whether g is one, and whether it has no bound
abbrev kind_as : Bool → Bool → Bool → ℕ → ℕ → Kind
kind_as k b e c g = cond k (Contains c (Some g)) (cond b (Container c g) (cond e (Free c (Some g)) (Bounded c (Some g))))

as_end : (k b e : Bool) (c g : ℕ) → end_in (kind_as k b e c g) ≡ Some g
as_end true b e c g = refl
as_end false true e c g = refl
as_end false false true c g = refl
as_end false false false c g = refl

as_target : (k b e : Bool) (c g : ℕ) → target_in (kind_as k b e c g) ≡ Some c
as_target true b e c g = refl
as_target false true e c g = refl
as_target false false true c g = refl
as_target false false false c g = refl

as_containment : (k b e : Bool) (c g : ℕ) → is_containment (kind_as k b e c g) ≡ k
as_containment true b e c g = refl
as_containment false true e c g = refl
as_containment false false true c g = refl
as_containment false false false c g = refl

as_container : (k b e : Bool) (c g : ℕ) → is_container (kind_as k b e c g) ≡ not k && b
as_container true b e c g = refl
as_container false true e c g = refl
as_container false false true c g = refl
as_container false false false c g = refl

reference_end : (k b e : Bool) (c : ℕ) (x : End)
    → end_in (cond k (Contains c (end_number x)) (cond b (container c x) (cond e (Free c (end_number x)) (Bounded c (end_number x))))) ≡ end_number x
reference_end true b e c x = refl
reference_end false true e c Open = refl
reference_end false true e c Nowhere = refl
reference_end false true e c (At g) = refl
reference_end false false true c x = refl
reference_end false false false c x = refl

no_end : (b u : Bool) (s : Scalar) (v : Option Value) (g : ℕ) → end_in (cond b (Attr s v) (AttrMany s u)) ≡ Some g → ⊥
no_end true u s v g h = cc
no_end false u s v g h = cc

end_is : (x : End) (g : ℕ) → end_number x ≡ Some g → x ≡ At g
end_is Open g h = cc
end_is Nowhere g h = cc
end_is (At n) g h = let same : n ≡ g = cc in ap (λ n. At n) same

-- a reference to class c with the opposite g
record Ended (d : FeatureDraft) (g c : ℕ) : Type 0 where
  pub ends : d.end ≡ At g
  pub goes : d.target ≡ Elements c

module _ (enums : List Enum) (ds : List FeatureDraft) (d : FeatureDraft) where
  ended : (g : ℕ) → end_in (kind_in enums ds d d.target) ≡ Some g → (c : ℕ) × Ended d g c
  ended g h = by_target d.target refl h
    where
      by_target : (t : Target) → d.target ≡ t → end_in (kind_in enums ds d t) ≡ Some g → (c : ℕ) × Ended d g c
      by_target Skipped is h = cc
      by_target Unsupported is h = cc
      by_target Missing is h = cc
      by_target (Elements c) is h = (
        c,
        record {
          ends = end_is d.end g (sym (reference_end d.containment (contains_back ds d.end) (int_eq d.upper (negsuc 0)) c d.end) ∙ h);
          goes = is;
        },
      )
      by_target (Values s) is h = absurd (no_end (int_eq d.upper (pos 1)) d.unique s _ g h)

  ended_kind : (g c : ℕ) → Ended d g c → kind_in enums ds d d.target ≡ kind_as d.containment (contains_back ds (At g)) (int_eq d.upper (negsuc 0)) c g
  ended_kind g c p =
      ap (kind_in enums ds d) p.goes
      ∙ ap (λ x. cond d.containment (Contains c (end_number x))
      (cond (contains_back ds x) (container c x) (cond (int_eq d.upper (negsuc 0)) (Free c (end_number x)) (Bounded c (end_number x))))) p.ends

-- a reference and its opposite, of which at most one is a containment
record Answered (ds : List FeatureDraft) (f : ℕ) (d : FeatureDraft) (g : ℕ) (other : FeatureDraft) : Type 0 where
  pub there : slice_get ds g ≡ Some other
  pub here : Ended d g other.owner
  pub back : Ended other f d.owner
  pub one : d.containment && other.containment ≡ false

not_true : (b : Bool) → not b ≡ true → b ≡ false
not_true true h = cc
not_true false h = refl

answered : (ds : List FeatureDraft) → any_from (is_unanswered ds) 0 ds ≡ false → (f : ℕ) (d : FeatureDraft) → slice_get ds f ≡ Some d → (g c : ℕ) → Ended d g c
    → (other : FeatureDraft) × Answered ds f d g other
answered ds none f d is g c p =
    by_other (slice_get ds g) refl (not_false _ (subst (λ e. bad_end ds f d e ≡ false) p.ends (none_at (is_unanswered ds) ds none f d is)))
  where
    by_other : (o : Option FeatureDraft) → slice_get ds g ≡ o → answers f d o ≡ true → (other : FeatureDraft) × Answered ds f d g other
    by_other None at h = cc
    by_other (Some other) at h =
        let named = and_two _ _ h in
        let typed = and_two _ _ named.1 in
        let back = and_two _ _ typed.1 in (
          other,
          record {
            there = at;
            here = record { ends = p.ends; goes = to_is other.owner d.target typed.0 };
            back = record { ends = at_is f other.end named.0; goes = to_is d.owner other.target back.0 };
            one = not_true (d.containment && other.containment) back.1;
          },
        )

owner_at : {X Y : Type 0} (h : Y → ℕ) (g : X → Y) (xs : List X) (k : ℕ) → option_map h (slice_get (map g xs) k) ≡ option_map (λ x. h (g x)) (slice_get xs k)
owner_at h g [] k = refl
owner_at h g (x ∷ xs) zero = refl
owner_at h g (x ∷ xs) (suc k) = owner_at h g xs k

at_most_one : (a b : Bool) → a && b ≡ false → a ≡ not b && a
at_most_one true true h = cc
at_most_one true false h = refl
at_most_one false true h = refl
at_most_one false false h = refl

module _ (rows : MetaRows) (none : fault rows.classifiers ≡ None) where
  abbrev ds : List FeatureDraft
  ds = drafts rows.classifiers

  abbrev enums : List Enum
  enums = enums_in rows.classifiers

  -- what an opposite shows
  opposed : (P : Type 0) (f g : ℕ) → end_in (kind_of (meta_of rows) f) ≡ Some g
      → ((d other : FeatureDraft) → slice_get ds f ≡ Some d → Answered ds f d g other → P) → P
  opposed P f g h more = by_draft (slice_get ds f) refl
    where
      by_draft : (o : Option FeatureDraft) → slice_get ds f ≡ o → P
      by_draft None is =
          let e : None ≡ Some g =
          ap end_in (sym (got_of (λ (x : Feature). x.kind) (feature_from enums ds) ds f
          ∙ ap (λ o. option_map_or (λ (x : FeatureDraft). kind_in enums ds x x.target) o Skip) is)) ∙ h in cc
      by_draft (Some d) is =
          let p = ended enums ds d g (ap end_in (sym (kind_at rows none f d is)) ∙ h) in
          let a = answered ds (all_answer rows none) f d is g p.0 p.1 in
          more d a.0 is a.1

  kind_here : (f g : ℕ) (d other : FeatureDraft) → slice_get ds f ≡ Some d → Answered ds f d g other
      → kind_of (meta_of rows) f ≡ kind_as d.containment (contains_back ds (At g)) (int_eq d.upper (negsuc 0)) other.owner g
  kind_here f g d other is a = kind_at rows none f d is ∙ ended_kind enums ds d g other.owner a.here

  kind_back : (f g : ℕ) (d other : FeatureDraft) → Answered ds f d g other
      → kind_of (meta_of rows) g ≡ kind_as other.containment (contains_back ds (At f)) (int_eq other.upper (negsuc 0)) d.owner f
  kind_back f g d other a = kind_at rows none g other a.there ∙ ended_kind enums ds other f d.owner a.back

  pub ends_meet : EndsMeet (meta_of rows)
  ends_meet = record {
    other = λ f g h. opposed (nat_eq f g ≡ false) f g h
        (λ d other is a. subst (λ e. is_at f e ≡ false) a.here.ends (none_at is_self ds (no_self rows none) f d is));
    both = λ f g h. opposed (end_in (kind_of (meta_of rows) g) ≡ Some f) f g h
        (λ d other is a. ap end_in (kind_back f g d other a) ∙ as_end other.containment _ _ d.owner f);
    goes = λ f g h.
        opposed (target_in (kind_of (meta_of rows) f) ≡ owner_of (meta_of rows) g) f g h
        (λ d other is a.
        ap target_in (kind_here f g d other is a) ∙ as_target d.containment _ _ other.owner g
        ∙ sym (owner_at (λ (x : Feature). x.owner) (feature_from enums ds) ds g ∙ ap (option_map (λ (x : FeatureDraft). x.owner)) a.there));
    around = λ f g h.
        opposed (is_containment (kind_of (meta_of rows) f) ≡ is_container (kind_of (meta_of rows) g)) f g h
        (λ d other is a.
        ap is_containment (kind_here f g d other is a) ∙ as_containment d.containment _ _ other.owner g
        ∙ at_most_one d.containment other.containment a.one
        ∙ ap (λ b. not other.containment && b) (sym (ap (λ o. option_map_or (λ (x : FeatureDraft). x.containment) o false) is))
        ∙ sym (ap is_container (kind_back f g d other a) ∙ as_container other.containment _ _ d.owner f));
  }
