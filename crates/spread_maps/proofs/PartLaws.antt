-- A finite map that holds a part of another, under keys of its own, has that part's entries.
use Rattle.std.proofs.Common.{◌≡◌, Bool, true, false, cond, List, [], ◌∷◌, refl, sym, ap, subst, ◌∙◌, map}
use Rattle.std.specs.Prelude.{Option, None, Some, T}
use Rattle.std.specs.List.{filter}
use Rattle.std.specs.declared.cmp.Ordering.{Ordering}
use Rattle.std.specs.declared.cmp.Ordering.TheVariants.{Less}
use Rattle.std.specs.Ordering.{eq_by_cmp, is_lt}
use Rattle.std.specs.FinMap.{FinMap, get, entries, from_sorted, entries_sorted, get-entries, get-from_sorted, entries-from_sorted, find, is_sorted}
use Rattle.std.specs.FinMap.Entries.{below_all}
use Rattle.finite_maps.proofs.Cases.{not_so, true_false}
use Rattle.finite_maps.proofs.MapLaws.{IsKeyOrder, same, same_key, own_key}
use Rattle.finite_maps.proofs.Truths.{first, second, both, is_less, find_below}

-- what the part has at its key l, where the whole has this at the key there
abbrev pub part : {K X L Y : Type 0} (p : K × X → Bool) (g : K × X → L × Y) (there : L → K) → L → Option X → Option Y
part p g there l None = None
part p g there l (Some x) = cond (p (there l, x)) (Some (g (there l, x)).1) None

module _ {K X L Y : Type 0} {R : K → K → Ordering} {S : L → L → Ordering} (o : IsKeyOrder R) (s : IsKeyOrder S) (p : K × X → Bool) (g : K × X → L × Y)
    (there : L → K)
    (rises : (e d : K × X) → p e ≡ true → p d ≡ true → R e.0 d.0 ≡ Less → S (g e).0 (g d).0 ≡ Less)
    (back : (e : K × X) → p e ≡ true → there (g e).0 ≡ e.0)
    (forth : (l : L) (x : X) → p (there l, x) ≡ true → (g (there l, x)).0 ≡ l) where
  parts : List (K × X) → List (L × Y)
  parts [] = []
  parts (e ∷ es) = cond (p e) (g e ∷ parts es) (parts es)

  parts_are : (es : List (K × X)) → parts es ≡ map g (filter p es)
  unfolding parts
  parts_are [] = refl
  parts_are (e ∷ es) =
      let rest = parts_are es in
      elim (p e) as (λ b. cond b (g e ∷ parts es) (parts es) ≡ map g (cond {A = List (K × X)} b (e ∷ filter p es) (filter p es))) [
        | true ↦ ap (λ xs. g e ∷ xs) rest
        | false ↦ rest
      ]

  below_parts : (x : K × X) → p x ≡ true → (es : List (K × X)) → T (below_all R x.0 es) → T (below_all S (g x).0 (parts es))
  unfolding parts
  below_parts x px [] h = tt
  below_parts x px (e ∷ es) h =
      let rest = below_parts x px es (second _ _ h) in
      elim (p e) as (λ b. p e ≡ b → T (below_all S (g x).0 (cond b (g e ∷ parts es) (parts es)))) [
        | true ↦ λ is. both (is_lt (S (g x).0 (g e).0)) _ (subst (λ r. T (is_lt r)) (sym (rises x e px is (is_less _ (first _ _ h)))) tt) rest
        | false ↦ λ _. rest
      ] refl

  sorted_parts : (es : List (K × X)) → T (is_sorted R es) → T (is_sorted S (parts es))
  unfolding parts
  sorted_parts [] h = tt
  sorted_parts (e ∷ es) h =
      let rest = sorted_parts es (second _ _ h) in
      elim (p e) as (λ b. p e ≡ b → T (is_sorted S (cond b (g e ∷ parts es) (parts es)))) [
        | true ↦ λ is. both (below_all S (g e).0 (parts es)) _ (below_parts e is es (first _ _ h)) rest
        | false ↦ λ _. rest
      ] refl

  find-parts : (l : L) (es : List (K × X)) → T (is_sorted R es) → find S l (parts es) ≡ part p g there l (find R (there l) es)
  unfolding parts
  find-parts l [] h = refl
  find-parts l (e ∷ es) h =
      let rest = find-parts l es (second _ _ h) in
      elim (p e) as (λ b. p e ≡ b
      → find S l (cond b (g e ∷ parts es) (parts es)) ≡ part p g there l (cond (eq_by_cmp R (there l) e.0) (Some e.1) (find R (there l) es))) [
        | true ↦ λ is.
            elim (eq_by_cmp R (there l) e.0) as (λ t. eq_by_cmp R (there l) e.0 ≡ t
            → cond (eq_by_cmp S l (g e).0) (Some (g e).1) (find S l (parts es)) ≡ part p g there l (cond t (Some e.1) (find R (there l) es))) [
              | true ↦ λ t.
                  let here : there l ≡ e.0 = same_key o (there l) e.0 t in
                  let own : (g e).0 ≡ l = ap (λ k. (g (k, e.1)).0) (sym here) ∙ forth l e.1 (ap (λ k. p (k, e.1)) here ∙ is) in
                  ap (λ b. cond b (Some (g e).1) (find S l (parts es))) (ap (eq_by_cmp S l) own ∙ own_key s l)
                  ∙ sym (ap (λ b. cond b (Some (g (there l, e.1)).1) None) (ap (λ k. p (k, e.1)) here ∙ is) ∙ ap (λ k. Some (g (k, e.1)).1) here)
              | false ↦ λ t.
                  ap (λ b. cond b (Some (g e).1) (find S l (parts es)))
                  (not_so (eq_by_cmp S l (g e).0)
                  (λ q. true_false (eq_by_cmp R (there l) e.0)
                  (subst (λ k. eq_by_cmp R k e.0 ≡ true) (sym (ap there (same_key s l (g e).0 q) ∙ back e is)) (own_key o e.0)) t))
                  ∙ rest
            ] refl
        | false ↦ λ is.
            elim (eq_by_cmp R (there l) e.0) as (λ t. eq_by_cmp R (there l) e.0 ≡ t
            → find S l (parts es) ≡ part p g there l (cond t (Some e.1) (find R (there l) es))) [
              | true ↦ λ t.
                  let here : there l ≡ e.0 = same_key o (there l) e.0 t in
                  let none : find R (there l) es ≡ None = subst (λ k. find R k es ≡ None) (sym here) (find_below R e.0 es (first _ _ h)) in
                  rest ∙ ap (part p g there l) none
                  ∙ sym (ap (λ b. cond b (Some (g (there l, e.1)).1) None) (ap (λ k. p (k, e.1)) here ∙ is))
              | false ↦ λ t. rest
            ] refl
      ] refl

  pub entries-part : (m : FinMap R X) (n : FinMap S Y) → ((l : L) → get n l ≡ part p g there l (get m (there l))) → entries n ≡ map g (filter p (entries m))
  entries-part m n holds =
      let sorted = sorted_parts (entries m) (entries_sorted m) in
      ap entries (same s n (from_sorted (parts (entries m))) (λ l.
      holds l ∙ ap (part p g there l) (get-entries m (there l)) ∙ sym (find-parts l (entries m) (entries_sorted m))
      ∙ sym (get-from_sorted S (parts (entries m)) l sorted)))
      ∙ entries-from_sorted S (parts (entries m)) sorted
      ∙ parts_are (entries m)
