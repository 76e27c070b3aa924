-- What follows of the opposites where a document has no fault.
use Rattle.std.proofs.Common.{◌≡◌, ℕ, zero, suc, ◌+◌, Bool, true, false, List, [], ◌∷◌, ◌||◌, ◌&&◌, not, cond, refl, sym, ap, subst, ◌∙◌, arith, map, nat_eq}
use Rattle.std.specs.Prelude.{negsuc, pos, Option, None, Some, slice_get}
use Rattle.std.specs.Ordering.{int_eq}
use Rattle.std.specs.Option.{option_map_or}
use Rattle.ecore_build.specs.Build.{container, end_number, feature_from, kind_in, meta_of, plain}
use Rattle.ecore_drafts.specs.Drafts.{drafts}
use Rattle.ecore_build.specs.Faults.{answers, any_from, bad_end, contains_back, fault, is_at, is_self, is_to, is_unanswered, enums_in}
use Rattle.ecore_meta.specs.Meta.{Meta, has_feature, is_a}
use Rattle.ecore_meta.specs.Sound.{Sound}
use Rattle.ecore_meta.specs.Typing.{kind_of, links, opposite_in, opposite_of, plain_to}
use Rattle.ecore_drafts.specs.declared.drafts.FeatureDraft.{FeatureDraft}
use Rattle.ecore_drafts.specs.declared.drafts.Target.{Target}
use Rattle.ecore_drafts.specs.declared.drafts.Target.TheVariants.{Skipped, Unsupported, Missing, Elements, Values}
use Rattle.ecore_drafts.specs.declared.drafts.End.{End}
use Rattle.ecore_drafts.specs.declared.drafts.End.TheVariants.{Open, Nowhere, At}
use Rattle.ecore_meta.specs.declared.meta.Enum.{Enum}
use Rattle.ecore_meta.specs.declared.meta.Feature.{Feature}
use Rattle.ecore_meta.specs.declared.meta.Kind.{Kind}
use Rattle.ecore_meta.specs.declared.meta.Kind.TheVariants.{Bounded, Contains, Free, Skip}
use Rattle.ecore_drafts.specs.declared.rows.MetaRows.{MetaRows}
use Rattle.ecore_build.proofs.NoFault.{passes}
use Rattle.ecore_build.proofs.OwnerLaws.{has_is}
use Rattle.ecore_meta.proofs.NumberLaws.{nat_same}

or_neither : (a b : Bool) → a || b ≡ false → (a ≡ false) × (b ≡ false)
or_neither true b h = cc
or_neither false b h = (refl, h)

-- a test that no feature passes fails at each
none_from : (p : ℕ → FeatureDraft → Bool) (n : ℕ) (ds : List FeatureDraft) → any_from p n ds ≡ false → (k : ℕ) (d : FeatureDraft)
    → slice_get ds k ≡ Some d → p (n + k) d ≡ false
none_from p n [] h k d is = cc
none_from p n (e ∷ ds) h zero d is = ap (λ i. p i d) (plus_none n) ∙ subst (λ x. p n x ≡ false) (same_some e d is) (or_neither (p n e) _ h).0
  where
    same_some : (x y : FeatureDraft) → Some x ≡ Some y → x ≡ y
    same_some x y h = cc

    plus_none : (n : ℕ) → n + 0 ≡ n
    plus_none n = omega arith
none_from p n (e ∷ ds) h (suc k) d is = ap (λ i. p i d) (plus_one n k) ∙ none_from p (suc n) ds (or_neither (p n e) _ h).1 k d is
  where
    plus_one : (n k : ℕ) → n + suc k ≡ suc n + k
    plus_one n k = omega arith

pub none_at : (p : ℕ → FeatureDraft → Bool) (ds : List FeatureDraft) → any_from p 0 ds ≡ false → (k : ℕ) (d : FeatureDraft) → slice_get ds k ≡ Some d
    → p k d ≡ false
none_at p ds h k d is = ap (λ i. p i d) (plus k) ∙ none_from p 0 ds h k d is
  where
    plus : (k : ℕ) → k ≡ 0 + k
    plus k = omega arith

-- a plain reference to class c with the opposite g
record Paired (ds : List FeatureDraft) (d : FeatureDraft) (g c : ℕ) : Type 0 where
  pub ends : d.end ≡ At g
  pub goes : d.target ≡ Elements c
  pub holds_none : d.containment ≡ false
  pub held_by_none : contains_back ds d.end ≡ false

no_plain : (c : ℕ) (e : End) → opposite_in (container c e) ≡ None
no_plain c Open = refl
no_plain c Nowhere = refl
no_plain c (At g) = refl

no_value : (b : Bool) (x y : Kind) (g : ℕ) → opposite_in x ≡ None → opposite_in y ≡ None → opposite_in (cond b x y) ≡ Some g → false ≡ true
no_value true x y g h k m = let e : None ≡ Some g = sym h ∙ m in cc
no_value false x y g h k m = let e : None ≡ Some g = sym k ∙ m in cc

plain_opposite : (d : FeatureDraft) (c : ℕ) → opposite_in (plain d c) ≡ end_number d.end
plain_opposite d c = by_bound (int_eq d.upper (negsuc 0))
  where
    by_bound : (b : Bool) → opposite_in (cond b (Free c (end_number d.end)) (Bounded c (end_number d.end))) ≡ end_number d.end
    by_bound true = refl
    by_bound false = refl

plain_goes : (meta : Meta) (d : FeatureDraft) (c x : ℕ) → plain_to meta (plain d c) x ≡ is_a meta x c
plain_goes meta d c x = by_bound (int_eq d.upper (negsuc 0))
  where
    by_bound : (b : Bool) → plain_to meta (cond b (Free c (end_number d.end)) (Bounded c (end_number d.end))) x ≡ is_a meta x c
    by_bound true = refl
    by_bound false = refl

module _ (enums : List Enum) (ds : List FeatureDraft) (d : FeatureDraft) where
  paired_kind : (g c : ℕ) → Paired ds d g c → kind_in enums ds d d.target ≡ plain d c
  paired_kind g c p =
      ap (kind_in enums ds d) p.goes
      ∙ ap (λ b. cond b (Contains c (end_number d.end)) (cond (contains_back ds d.end) (container c d.end) (plain d c))) p.holds_none
      ∙ ap (λ b. cond b (container c d.end) (plain d c)) p.held_by_none

  paired : (g : ℕ) → opposite_in (kind_in enums ds d d.target) ≡ Some g → (c : ℕ) × Paired ds d g c
  paired g h = by_target d.target refl h
    where
      by_end : (c : ℕ) → d.target ≡ Elements c → d.containment ≡ false → contains_back ds d.end ≡ false → (e : End) → d.end ≡ e
          → end_number e ≡ Some g → (c : ℕ) × Paired ds d g c
      by_end c t k b Open is h = cc
      by_end c t k b Nowhere is h = cc
      by_end c t k b (At n) is h = let same : n ≡ g = cc in (c, record { ends = is ∙ ap (λ x. At x) same; goes = t; holds_none = k; held_by_none = b })

      by_back : (c : ℕ) → d.target ≡ Elements c → d.containment ≡ false → (b : Bool) → contains_back ds d.end ≡ b
          → opposite_in (cond b (container c d.end) (plain d c)) ≡ Some g → (c : ℕ) × Paired ds d g c
      by_back c t k true is h = let e : None ≡ Some g = sym (no_plain c d.end) ∙ h in cc
      by_back c t k false is h = by_end c t k is d.end refl (sym (plain_opposite d c) ∙ h)

      by_inside : (c : ℕ) → d.target ≡ Elements c → (b : Bool) → d.containment ≡ b
          → opposite_in (cond b (Contains c (end_number d.end)) (cond (contains_back ds d.end) (container c d.end) (plain d c))) ≡ Some g
          → (c : ℕ) × Paired ds d g c
      by_inside c t true is h = cc
      by_inside c t false is h = by_back c t is (contains_back ds d.end) refl h

      by_target : (t : Target) → d.target ≡ t → opposite_in (kind_in enums ds d t) ≡ Some g → (c : ℕ) × Paired ds d g c
      by_target Skipped is h = cc
      by_target Unsupported is h = cc
      by_target Missing is h = cc
      by_target (Elements c) is h = by_inside c is d.containment refl h
      by_target (Values s) is h = let e = no_value (int_eq d.upper (pos 1)) _ _ g refl refl h in cc

pub at_is : (n : ℕ) (e : End) → is_at n e ≡ true → e ≡ At n
at_is n Open h = cc
at_is n Nowhere h = cc
at_is n (At g) h = ap (λ x. At x) (sym (nat_same n g h))

pub to_is : (c : ℕ) (t : Target) → is_to c t ≡ true → t ≡ Elements c
to_is c Skipped h = cc
to_is c Unsupported h = cc
to_is c Missing h = cc
to_is c (Elements d) h = ap (λ x. Elements x) (sym (nat_same c d h))
to_is c (Values s) h = cc

pub not_false : (a : Bool) → not a ≡ false → a ≡ true
not_false true h = refl
not_false false h = cc

pub and_two : (a b : Bool) → a && b ≡ true → (a ≡ true) × (b ≡ true)
and_two true b h = (refl, h)
and_two false b h = cc

-- the opposite of a plain reference, which names it back
record Mirrored (ds : List FeatureDraft) (f : ℕ) (d : FeatureDraft) (g : ℕ) (other : FeatureDraft) : Type 0 where
  pub there : slice_get ds g ≡ Some other
  pub here : Paired ds d g other.owner
  pub back : Paired ds other f d.owner

mirrored : (ds : List FeatureDraft) → any_from (is_unanswered ds) 0 ds ≡ false → (f : ℕ) (d : FeatureDraft) → slice_get ds f ≡ Some d → (g c : ℕ)
    → Paired ds d g c
    → (other : FeatureDraft) × Mirrored ds f d g other
mirrored ds none f d is g c p =
    by_other (slice_get ds g) refl (not_false _ (subst (λ e. bad_end ds f d e ≡ false) p.ends (none_at (is_unanswered ds) ds none f d is)))
  where
    by_other : (o : Option FeatureDraft) → slice_get ds g ≡ o → answers f d o ≡ true → (other : FeatureDraft) × Mirrored ds f d g other
    by_other None at h = cc
    by_other (Some other) at h =
        let named = and_two _ _ h in
        let typed = and_two _ _ named.1 in
        let back = and_two _ _ typed.1 in
        let ends : other.end ≡ At f = at_is f other.end named.0 in (
          other,
          record {
            there = at;
            here = record { ends = p.ends; goes = to_is other.owner d.target typed.0; holds_none = p.holds_none; held_by_none = p.held_by_none };
            back = record {
              ends = ends;
              goes = to_is d.owner other.target back.0;
              holds_none = sym (ap (λ o. option_map_or (λ (x : FeatureDraft). x.containment) o false) at) ∙ sym (ap (contains_back ds) p.ends) ∙ p.held_by_none;
              held_by_none = ap (contains_back ds) ends ∙ ap (λ o. option_map_or (λ (x : FeatureDraft). x.containment) o false) is ∙ p.holds_none;
            };
          },
        )

pub got_of : {X Y : Type 0} (h : Y → Kind) (g : X → Y) (xs : List X) (k : ℕ)
    → option_map_or h (slice_get (map g xs) k) Skip ≡ option_map_or (λ x. h (g x)) (slice_get xs k) Skip
got_of h g [] k = refl
got_of h g (x ∷ xs) zero = refl
got_of h g (x ∷ xs) (suc k) = got_of h g xs k

module _ (rows : MetaRows) (none : fault rows.classifiers ≡ None) where
  abbrev ds : List FeatureDraft
  ds = drafts rows.classifiers

  abbrev enums : List Enum
  enums = enums_in rows.classifiers

  pub no_self : any_from is_self 0 ds ≡ false
  no_self = (passes rows.classifiers none).other

  pub all_answer : any_from (is_unanswered ds) 0 ds ≡ false
  all_answer = (passes rows.classifiers none).answered

  pub kind_at : (f : ℕ) (d : FeatureDraft) → slice_get ds f ≡ Some d → kind_of (meta_of rows) f ≡ kind_in enums ds d d.target
  kind_at f d is = got_of (λ (x : Feature). x.kind) (feature_from enums ds) ds f
      ∙ ap (λ o. option_map_or (λ (x : FeatureDraft). kind_in enums ds x x.target) o Skip) is

  -- what an opposite shows
  opposed : (P : Type 0) (f g : ℕ) → opposite_of (meta_of rows) f ≡ Some g
      → ((d other : FeatureDraft) → slice_get ds f ≡ Some d → Mirrored ds f d g other → P) → P
  opposed P f g h more = by_draft (slice_get ds f) refl
    where
      by_draft : (o : Option FeatureDraft) → slice_get ds f ≡ o → P
      by_draft None is =
          let e : None ≡ Some g =
          ap opposite_in (sym (got_of (λ (x : Feature). x.kind) (feature_from enums ds) ds f
          ∙ ap (λ o. option_map_or (λ (x : FeatureDraft). kind_in enums ds x x.target) o Skip) is)) ∙ h in cc
      by_draft (Some d) is =
          let p = paired enums ds d g (ap opposite_in (sym (kind_at f d is)) ∙ h) in
          let m = mirrored ds all_answer f d is g p.0 p.1 in
          more d m.0 is m.1

  pub sound : Sound (meta_of rows)
  sound = record {
    other = λ f g h. opposed (nat_eq f g ≡ false) f g h (λ d other is m. subst (λ e. is_at f e ≡ false) m.here.ends (none_at is_self ds no_self f d is));
    both = λ f g h.
        opposed (opposite_of (meta_of rows) g ≡ Some f) f g h
        (λ d other is m. ap opposite_in (kind_at g other m.there ∙ paired_kind enums ds other f d.owner m.back) ∙ plain_opposite other d.owner
        ∙ ap end_number m.back.ends);
    mirrors = λ c f x g h linked.
        opposed (links (meta_of rows) x g c ≡ true) f g h
        (λ d other is m. mirror c f x g d other is m (and_two _ _ linked));
  }
    where
      kind_here : (f g : ℕ) (d other : FeatureDraft) → slice_get ds f ≡ Some d → Mirrored ds f d g other → kind_of (meta_of rows) f ≡ plain d other.owner
      kind_here f g d other is m = kind_at f d is ∙ paired_kind enums ds d g other.owner m.here

      kind_back : (f g : ℕ) (d other : FeatureDraft) → Mirrored ds f d g other → kind_of (meta_of rows) g ≡ plain other d.owner
      kind_back f g d other m = kind_at g other m.there ∙ paired_kind enums ds other f d.owner m.back

      both_true : (a b : Bool) → a ≡ true → b ≡ true → a && b ≡ true
      both_true true b h k = k
      both_true false b h k = cc

      mirror : (c f x g : ℕ) (d other : FeatureDraft) → slice_get ds f ≡ Some d → Mirrored ds f d g other
          → (has_feature (meta_of rows) c f ≡ true) × (plain_to (meta_of rows) (kind_of (meta_of rows) f) x ≡ true) → links (meta_of rows) x g c ≡ true
      mirror c f x g d other is m linked =
          both_true _ _
          (has_is rows x g other m.there ∙ sym (plain_goes (meta_of rows) d other.owner x)
          ∙ ap (λ k. plain_to (meta_of rows) k x) (sym (kind_here f g d other is m)) ∙ linked.1)
          (ap (λ k. plain_to (meta_of rows) k c) (kind_back f g d other m) ∙ plain_goes (meta_of rows) other d.owner c ∙ sym (has_is rows c f d is) ∙ linked.0)
