-- What stands above and below an element, and the elements of a subtree.
use Rattle.std.proofs.Common.{◌≡◌, ℕ, ◌+◌, suc, zero, List, [], ◌∷◌, ◌++◌, refl, sym, ap, subst, ◌∙◌, arith, length, inl, inr}
use Rattle.std.specs.Prelude.{None, Some}
use Rattle.std.specs.FinMap.{FinMap, get}
use Rattle.ecore_meta.specs.Meta.{Meta}
use Rattle.model_state.specs.declared.step.Place.{Place}
use Rattle.model_state.specs.declared.step.Place.TheVariants.{Root, Inside}
use Rattle.model_state.specs.Keys.{IdBytes, id_cmp}
use Rattle.model_state.specs.State.{State}
use Rattle.model_state.specs.Good.{Good}
use Rattle.model_state.specs.Chains.{IsChain}
use Rattle.edit_steps.specs.Subtree.{children_of}
use Rattle.edit_steps.proofs.Forests.{IsForest}
use Rattle.edit_steps.proofs.Members.{In, Distinct, in_left, in_right, in_either}
use Rattle.edit_steps.proofs.Containers.{one_chain}

-- n containers up from y is z
abbrev pub Up : FinMap id_cmp Place → ℕ → IdBytes → IdBytes → Type 0
Up place zero y z = y ≡ z
Up place (suc n) y z = (a : IdBytes) × (f : ℕ) × (get place y ≡ Some (Inside a f)) × Up place n a z

same_inside : (a b : IdBytes) (f g : ℕ) → Some (Inside a f) ≡ Some (Inside b g) → a ≡ b
same_inside a b f g h = cc

module _ (place : FinMap id_cmp Place) where
  pub up_more : (n : ℕ) (y a z : IdBytes) (f : ℕ) → Up place n y a → get place a ≡ Some (Inside z f) → Up place (suc n) y z
  up_more zero y a z f up is = (z, f, ap (get place) up ∙ is, refl)
  up_more (suc n) y a z f up is = (up.0, up.1, up.2, up_more n up.0 a z f up.3 is)

  pub up_last : (n : ℕ) (y z : IdBytes) → Up place (suc n) y z → (c : IdBytes) × (f : ℕ) × Up place n y c × (get place c ≡ Some (Inside z f))
  up_last zero y z up = (y, up.1, refl, up.2 ∙ ap (λ a. Some (Inside a up.1)) up.3)
  up_last (suc n) y z up = let rest = up_last n up.0 z up.3 in (rest.0, rest.1, (up.0, up.1, up.2, rest.2), rest.3)

  -- up from a child goes by its parent
  pub up_first : (m : ℕ) (c s t : IdBytes) (f : ℕ) → get place c ≡ Some (Inside s f) → Up place (suc m) c t → Up place m s t
  up_first m c s t f is up = subst (λ a. Up place m a t) (same_inside up.0 s up.1 f (sym up.2 ∙ is)) up.3

  long : (n k r : ℕ) → k ≡ n + r → suc k ≡ suc n + r
  long n k r h = omega arith

  none : (k : ℕ) → k ≡ 0 + k
  none k = omega arith

  pub up_chain : (n : ℕ) (y z : IdBytes) (up : List IdBytes) → IsChain place (get place y) up → Up place n y z
      → (rest : List IdBytes) × IsChain place (get place z) rest × (length up ≡ n + length rest)
  up_chain zero y z up chain h = (up, subst (λ x. IsChain place (get place x) up) h chain, none (length up))
  up_chain (suc n) y z [] chain h = absurd (subst (λ o. IsChain place o []) h.2 chain)
  up_chain (suc n) y z (x ∷ xs) chain h =
      let at = subst (λ o. IsChain place o (x ∷ xs)) h.2 chain in
      let rest = up_chain n h.0 z xs (subst (λ a. IsChain place (get place a) xs) at.0 at.1) h.3 in
      (rest.0, rest.1, long n (length xs) (length rest.0) rest.2)

  one_up : (y z x : IdBytes) (xs : List IdBytes) (q : Place) → get place y ≡ Some q → IsChain place (Some q) (x ∷ xs)
      → (IsChain place (get place x) xs → (n : ℕ) × Up place n x z) → (n : ℕ) × Up place n y z
  one_up y z x xs Root is chain rest = absurd chain
  one_up y z x xs (Inside a f) is chain rest = let above = rest chain.1 in (suc above.0, (a, f, is, subst (λ b. Up place above.0 b z) chain.0 above.1))

  -- what is y or in its chain is up from it
  pub chain_up : (y z : IdBytes) (up : List IdBytes) → IsChain place (get place y) up → In z (y ∷ up) → (n : ℕ) × Up place n y z
  chain_up y z up chain (inl e) = (0, sym e)
  chain_up y z [] chain (inr h) = absurd h
  chain_up y z (x ∷ xs) chain (inr h) =
      elim (get place y) as (λ o. get place y ≡ o → IsChain place o (x ∷ xs) → (n : ℕ) × Up place n y z) [
        | None ↦ λ _ g. absurd g
        | Some q ↦ λ is g. one_up y z x xs q is g (λ above. chain_up x z xs above h)
      ] refl chain

  -- and all that is up from y is y or in its chain
  pub up_in : (n : ℕ) (y z : IdBytes) (up : List IdBytes) → IsChain place (get place y) up → Up place n y z → In z (y ∷ up)
  up_in zero y z up chain h = inl (sym h)
  up_in (suc n) y z [] chain h = absurd (subst (λ o. IsChain place o []) h.2 chain)
  up_in (suc n) y z (x ∷ xs) chain h =
      let at = subst (λ o. IsChain place o (x ∷ xs)) h.2 chain in
      elim (up_in n h.0 z xs (subst (λ a. IsChain place (get place a) xs) at.0 at.1) h.3) [ inl e ↦ inr (inl (e ∙ sym at.0)) | inr l ↦ inr (inr l) ]

-- neither is up from the other
abbrev pub Aside : FinMap id_cmp Place → IdBytes → IdBytes → Type 0
Aside place z t = ((n : ℕ) → Up place n z t → ⊥) × ((n : ℕ) → Up place n t z → ⊥)

abbrev pub AsideAll : FinMap id_cmp Place → IdBytes → List IdBytes → Type 0
AsideAll place z [] = Unit {0}
AsideAll place z (t ∷ ts) = Aside place z t × AsideAll place z ts

-- no element of the list is up from another
abbrev pub Spread : FinMap id_cmp Place → List IdBytes → Type 0
Spread place [] = Unit {0}
Spread place (z ∷ zs) = AsideAll place z zs × Spread place zs

aside_at : (place : FinMap id_cmp Place) (z t : IdBytes) (ts : List IdBytes) → AsideAll place z ts → In t ts → Aside place z t
aside_at place z t [] all h = absurd h
aside_at place z t (x ∷ xs) all (inl e) = subst (λ y. Aside place z y) (sym e) all.0
aside_at place z t (x ∷ xs) all (inr h) = aside_at place z t xs all.1 h

aside_join : (place : FinMap id_cmp Place) (z : IdBytes) (xs ys : List IdBytes) → AsideAll place z xs → AsideAll place z ys → AsideAll place z (xs ++ ys)
aside_join place z [] ys h g = g
aside_join place z (x ∷ xs) ys h g = (h.0, aside_join place z xs ys h.1 g)

-- each stands right inside the element
abbrev pub AllInside : FinMap id_cmp Place → IdBytes → List IdBytes → Type 0
AllInside place s [] = Unit {0}
AllInside place s (c ∷ cs) = ((f : ℕ) × (get place c ≡ Some (Inside s f))) × AllInside place s cs

pub inside_at : (place : FinMap id_cmp Place) (s c : IdBytes) (cs : List IdBytes) → AllInside place s cs → In c cs → (f : ℕ) × (get place c ≡ Some (Inside s f))
inside_at place s c [] all h = absurd h
inside_at place s c (x ∷ xs) all (inl e) = (all.0.0, ap (get place) e ∙ all.0.1)
inside_at place s c (x ∷ xs) all (inr h) = inside_at place s c xs all.1 h

-- the children of each element: all that stand right inside it, each once
pub record HasChildren (meta : Meta) (m : State) : Type 0 where
  pub inside : (s : IdBytes) → AllInside m.place s (children_of meta m s)
  pub distinct : (s : IdBytes) → Distinct (children_of meta m s)
  pub all : (s c : IdBytes) (f : ℕ) → get m.place c ≡ Some (Inside s f) → In c (children_of meta m s)

module _ (meta : Meta) (m : State) (good : Good meta m) where
  -- no element is up from itself
  pub no_loop : (n : ℕ) (y : IdBytes) → Up m.place (suc n) y y → ⊥
  no_loop n y up =
      let chain = good.places.ends y (Inside up.0 up.1) up.2 in
      let own = subst (λ o. IsChain m.place o chain.0) (sym up.2) chain.1 in
      let rest = up_chain m.place (suc n) y y chain.0 own up in
      longer n (length chain.0) (length rest.0) rest.2 (ap length (one_chain m (get m.place y) chain.0 rest.0 own rest.1))
    where
      longer : (n k r : ℕ) → k ≡ suc n + r → k ≡ r → ⊥
      longer n k r h g = omega arith

  siblings : (s c d : IdBytes) (f g : ℕ) → get m.place c ≡ Some (Inside s f) → get m.place d ≡ Some (Inside s g) → (c ≡ d → ⊥) → (n : ℕ) → Up m.place n c d → ⊥
  siblings s c d f g is it differ zero up = differ up
  siblings s c d f g is it differ (suc n) up = no_loop n s (up_more m.place n s d s g (up_first m.place n c s d f is up) it)

  aside_siblings : (s c : IdBytes) (f : ℕ) (ds : List IdBytes) → get m.place c ≡ Some (Inside s f) → AllInside m.place s ds → (In c ds → ⊥)
      → AsideAll m.place c ds
  aside_siblings s c f [] is all apart = tt
  aside_siblings s c f (d ∷ ds) is all apart = (
    (siblings s c d f all.0.0 is all.0.1 (λ e. apart (inl e)), siblings s d c all.0.0 f all.0.1 is (λ e. apart (inl (sym e)))),
    aside_siblings s c f ds is all.1 (λ h. apart (inr h)),
  )

  spread_siblings : (s : IdBytes) (cs : List IdBytes) → AllInside m.place s cs → Distinct cs → Spread m.place cs
  spread_siblings s [] all d = tt
  spread_siblings s (c ∷ cs) all d = (aside_siblings s c all.0.0 cs all.0.1 all.1 d.0, spread_siblings s cs all.1 d.1)

  below : (s c t : IdBytes) (f : ℕ) → get m.place c ≡ Some (Inside s f) → Aside m.place s t → (n : ℕ) → Up m.place n c t → ⊥
  below s c t f is aside zero up = aside.1 1 (s, f, ap (get m.place) (sym up) ∙ is, refl)
  below s c t f is aside (suc n) up = aside.0 n (up_first m.place n c s t f is up)

  aside_below : (s c : IdBytes) (f : ℕ) (ts : List IdBytes) → get m.place c ≡ Some (Inside s f) → AsideAll m.place s ts → AsideAll m.place c ts
  aside_below s c f [] is all = tt
  aside_below s c f (t ∷ ts) is all = ((below s c t f is all.0, λ n up. all.0.1 (suc n) (up_more m.place n t c s f up is)), aside_below s c f ts is all.1)

  spread_on : (s : IdBytes) (cs ts : List IdBytes) → AllInside m.place s cs → Spread m.place cs → AsideAll m.place s ts → Spread m.place ts
      → Spread m.place (cs ++ ts)
  spread_on s [] ts all spread aside rest = rest
  spread_on s (c ∷ cs) ts all spread aside rest =
      (aside_join m.place c cs ts spread.0 (aside_below s c all.0.0 ts all.0.1 aside), spread_on s cs ts all.1 spread.1 aside rest)

  module _ (known : HasChildren meta m) where
    -- each of a forest is at or below one of the roots
    pub forest_below : (rs xs : List IdBytes) → IsForest meta m rs xs → (y : IdBytes) → In y xs → (z : IdBytes) × In z rs × (n : ℕ) × Up m.place n y z
    forest_below [] [] h y is = absurd is
    forest_below [] (x ∷ xs) h y is = absurd h
    forest_below (r ∷ rs) [] h y is = absurd h
    forest_below (r ∷ rs) (x ∷ xs) h y (inl e) = (r, inl refl, 0, e ∙ h.0)
    forest_below (r ∷ rs) (x ∷ xs) h y (inr l) =
        let under = forest_below (children_of meta m r ++ rs) xs h.1 y l in
        elim (in_either under.0 (children_of meta m r) rs under.1) [
          | inl c ↦ let at = inside_at m.place r under.0 (children_of meta m r) (known.inside r) c
              in (r, inl refl, suc under.2, up_more m.place under.2 y under.0 r at.0 under.3 at.1)
          | inr t ↦ (under.0, inr t, under.2, under.3)
        ]

    -- the roots are there
    pub forest_has : (rs xs : List IdBytes) → IsForest meta m rs xs → (z : IdBytes) → In z rs → In z xs
    forest_has [] xs h z is = absurd is
    forest_has (r ∷ rs) [] h z is = absurd h
    forest_has (r ∷ rs) (x ∷ xs) h z (inl e) = inl (e ∙ sym h.0)
    forest_has (r ∷ rs) (x ∷ xs) h z (inr l) = inr (forest_has (children_of meta m r ++ rs) xs h.1 z (in_right z (children_of meta m r) rs l))

    -- the children of each element are after it, and each element is there once
    abbrev pub Ordered : List IdBytes → Type 0
    Ordered [] = Unit {0}
    Ordered (x ∷ xs) = ((c : IdBytes) (f : ℕ) → get m.place c ≡ Some (Inside x f) → In c xs) × (In x xs → ⊥) × Ordered xs

    pub forest_ordered : (rs xs : List IdBytes) → Spread m.place rs → IsForest meta m rs xs → Ordered xs
    forest_ordered rs [] spread h = tt
    forest_ordered [] (x ∷ xs) spread h = absurd h
    forest_ordered (r ∷ rs) (x ∷ xs) spread h = (
      λ c f is. forest_has (children_of meta m r ++ rs) xs h.1 c (in_left c (children_of meta m r) rs (known.all r c f (is ∙ ap (λ z. Some (Inside z f)) h.0))),
      λ again.
          let under = forest_below (children_of meta m r ++ rs) xs h.1 x again in
          elim (in_either under.0 (children_of meta m r) rs under.1) [
            | inl c ↦ let at = inside_at m.place r under.0 (children_of meta m r) (known.inside r) c
                in no_loop under.2 r (up_more m.place under.2 r under.0 r at.0 (subst (λ z. Up m.place under.2 z under.0) h.0 under.3) at.1)
            | inr t ↦ (aside_at m.place r under.0 rs spread.0 t).0 under.2 (subst (λ z. Up m.place under.2 z under.0) h.0 under.3)
          ],
      forest_ordered (children_of meta m r ++ rs) xs
          (spread_on r (children_of meta m r) rs (known.inside r)
          (spread_siblings r (children_of meta m r) (known.inside r) (known.distinct r)) spread.0 spread.1) h.1,
    )

    inner_in : (xs : List IdBytes) → Ordered xs → (z c : IdBytes) (f : ℕ) → In z xs → get m.place c ≡ Some (Inside z f) → In c xs
    inner_in [] h z c f is at = absurd is
    inner_in (x ∷ xs) h z c f (inl e) at = inr (h.0 c f (at ∙ ap (λ w. Some (Inside w f)) e))
    inner_in (x ∷ xs) h z c f (inr l) at = inr (inner_in xs h.2 z c f l at)

    pub all_below : (xs : List IdBytes) → Ordered xs → (n : ℕ) (y z : IdBytes) → In z xs → Up m.place n y z → In y xs
    all_below xs h zero y z is up = subst (λ w. In w xs) (sym up) is
    all_below xs h (suc n) y z is up = let last = up_last m.place n y z up in all_below xs h n y last.0 (inner_in xs h z last.0 last.1 is last.3) last.2
