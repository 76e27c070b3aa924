-- What loops over parts of a metamodel find, one part more.
use Rattle.std.proofs.Common.{◌≡◌, ℕ, zero, suc, ◌+◌, ◌<◌, ◌≤◌, Bool, true, false, cond, List, [], ◌∷◌, ◌++◌, ◌&&◌, refl, sym, ap, ◌∙◌, ◌^◌, arith}
use Rattle.std.proofs.Common.{codes, drop, get_or, length, length-take, map, nat_eq, take}
use Rattle.std.specs.Prelude.{Option, None, Some}
use Rattle.std.specs.List.{cons_option, filter, filter_map, range_with_len}
use Rattle.std.specs.Option.{option_to_list}
use Rattle.std.specs.Str.{bytes_eq}
use Rattle.std.proofs.lemmas.Bool.Decides.{nat_tests}
use Rattle.std.proofs.lemmas.List.{append_assoc, drop_all, drop_more, take_all, take_more}
use Rattle.std.proofs.lemmas.List.Elements.{filter-append, filter_map-append}
use Rattle.ecore_meta.specs.Names.{Name}
use Rattle.ecore_meta.specs.declared.meta.EnumLiteral.{EnumLiteral}
use Rattle.ecore_meta.proofs.NumberLaws.{nat_itself, nat_same}
use Rattle.ecore_meta.specs.Meta.{Meta}
use Rattle.ecore_meta.specs.Values.{AreShort}
use Rattle.ecore_meta.specs.declared.meta.Enum.{Enum}
use Rattle.metamodel_growth.specs.Extension.{begins, class_kept, class_name, enum_kept, enum_name, feature_kept, first_lost, full_name, missing}
use Rattle.metamodel_growth.proofs.RenumberLaws.{never, none_some}

-- ---- ranges
pub range_more : (a n : ℕ) → range_with_len a (n + 1) ≡ range_with_len a n ++ (a + n) ∷ []
range_more a zero = by_one (0 + 1) (plus_none a) (omega arith)
  where
    plus_none : (a : ℕ) → a ≡ a + 0
    plus_none a = omega arith

    by_one : (m : ℕ) → a ≡ a + 0 → m ≡ 1 → range_with_len a m ≡ (a + 0) ∷ []
    by_one m e one = ap (range_with_len a) one ∙ ap (λ k. k ∷ []) e
range_more a (suc n) =
    ap (range_with_len a) (up n)
    ∙ ap (λ xs. a ∷ xs) (range_more (a + 1) n ∙ ap (λ k. range_with_len (a + 1) n ++ k ∷ []) (shift a n))
  where
    up : (n : ℕ) → suc n + 1 ≡ suc (n + 1)
    up n = omega arith

    shift : (a n : ℕ) → a + 1 + n ≡ a + suc n
    shift a n = omega arith

pub none_less : (k : ℕ) → 0 + k ≡ k
none_less k = omega arith

-- one number more that is looked up
pub found_more : (h : ℕ → Option ℕ) (k : ℕ) (xs : List ℕ) (o : Option ℕ) → xs ≡ filter_map h (range_with_len 0 k) → o ≡ h k
    → xs ++ option_to_list o ≡ filter_map h (range_with_len 0 (k + 1))
found_more h k xs o is at =
    ap (λ ys. ys ++ option_to_list o) is
    ∙ ap (λ p. filter_map h (range_with_len 0 k) ++ option_to_list p) at
    ∙ ap (λ ys. filter_map h (range_with_len 0 k) ++ ys) (one (h k) ∙ ap (λ j. filter_map h (j ∷ [])) (sym (none_less k)))
    ∙ sym (filter_map-append h (range_with_len 0 k) ((0 + k) ∷ []))
    ∙ ap (filter_map h) (sym (range_more 0 k))
  where
    one : (p : Option ℕ) → option_to_list p ≡ cons_option p []
    one None = refl
    one (Some x) = refl

-- one number more that is tested
pub kept_more : (p : ℕ → Bool) (first : List ℕ) (k : ℕ) (xs : List ℕ) (b : Bool) → xs ≡ first ++ filter p (range_with_len 0 k) → b ≡ p k
    → xs ++ cond b (k ∷ []) [] ≡ first ++ filter p (range_with_len 0 (k + 1))
kept_more p first k xs b is at =
    ap (λ ys. ys ++ cond b (k ∷ []) []) is
    ∙ append_assoc first (filter p (range_with_len 0 k)) (cond b (k ∷ []) [])
    ∙ ap (λ ys. first ++ ys) (ap (λ c. filter p (range_with_len 0 k) ++ cond c (k ∷ []) []) at
    ∙ ap (λ j. filter p (range_with_len 0 k) ++ filter p (j ∷ [])) (sym (none_less k))
    ∙ sym (filter-append p (range_with_len 0 k) ((0 + k) ∷ []))
    ∙ ap (filter p) (sym (range_more 0 k)))

-- ---- the first part that is lost
module _ (name : ℕ → Name) (kept : ℕ → Bool) where
  -- the first that is lost among m parts, counted from a on
  abbrev pub lost_among : ℕ → ℕ → Option Name
  lost_among a m = first_lost (map (λ k. (name k, kept k)) (range_with_len a m))

  pub lost_from : (a m c : ℕ) → ((k : ℕ) → a ≤ k → k < c → kept k ≡ true) → a ≤ c → c < a + m → kept c ≡ false
      → lost_among a m ≡ Some (name c)
  lost_from a zero c all le lt lost = absurd (omega arith)
  lost_from a (suc m) c all le lt lost =
      by_number (nat_eq a c) refl (λ low. lost_from (a + 1) m c (λ k le less. all k (omega arith) less) low (omega arith) lost)
    where
      by_number : (b : Bool) → nat_eq a c ≡ b → (a + 1 ≤ c → lost_among (a + 1) m ≡ Some (name c))
          → cond (kept a) (lost_among (a + 1) m) (Some (name a)) ≡ Some (name c)
      by_number true e more =
          let s : a ≡ c = nat_same a c e in
          ap (λ b. cond b (lost_among (a + 1) m) (Some (name a))) (ap kept s ∙ lost) ∙ ap (λ (k : ℕ). Some (name k)) s
      by_number false e more =
          let low : a + 1 ≤ c = above a c le e in
          ap (λ b. cond b (lost_among (a + 1) m) (Some (name a))) (all a (omega arith) (omega (arith, low))) ∙ more low
        where
          above : (a k : ℕ) → a ≤ k → nat_eq a k ≡ false → a + 1 ≤ k
          above a k low f = grind (arith, nat_tests)

  pub none_from : (a m : ℕ) → ((k : ℕ) → a ≤ k → k < a + m → kept k ≡ true) → lost_among a m ≡ None
  none_from a zero all = refl
  none_from a (suc m) all =
      ap (λ b. cond b (lost_among (a + 1) m) (Some (name a))) (all a (omega arith) (omega arith))
      ∙ none_from (a + 1) m (λ k le less. all k (omega arith) (omega arith))

  -- the first that is lost, after those that are kept
  pub lost_at : (m c : ℕ) → ((k : ℕ) → k < c → kept k ≡ true) → c < m → kept c ≡ false → Some (name c) ≡ lost_among 0 m
  lost_at m c all lt lost = sym (lost_from 0 m c (λ k le less. all k less) (omega arith) (omega arith) lost)

  pub none_lost : (m c : ℕ) → ((k : ℕ) → k < c → kept k ≡ true) → m ≤ c → None ≡ lost_among 0 m
  none_lost m c all le = sym (none_from 0 m (λ k low less. all k (omega arith)))

pub one_more : (kept : ℕ → Bool) (c : ℕ) → ((k : ℕ) → k < c → kept k ≡ true) → kept c ≡ true → (k : ℕ) → k < c + 1 → kept k ≡ true
one_more kept c all here k less = by_test (nat_eq k c) refl
  where
    low : (k c : ℕ) → k < c + 1 → (k ≡ c → ⊥) → k < c
    low k c h f = omega (arith, h, f)

    by_test : (b : Bool) → nat_eq k c ≡ b → kept k ≡ true
    by_test true e = ap kept (nat_same k c e) ∙ here
    by_test false e = all k (low k c less (λ s. never (sym e ∙ ap (λ z. nat_eq z c) s ∙ nat_itself c)))

pub append_some : (xs ys : List (Name × Bool)) (q : Name) → first_lost xs ≡ Some q → first_lost (xs ++ ys) ≡ Some q
append_some [] ys q h = absurd (none_some q h)
append_some (x ∷ xs) ys q h = by_test x.1 h (append_some xs ys q)
  where
    by_test : (b : Bool) → cond b (first_lost xs) (Some x.0) ≡ Some q → (first_lost xs ≡ Some q → first_lost (xs ++ ys) ≡ Some q)
        → cond b (first_lost (xs ++ ys)) (Some x.0) ≡ Some q
    by_test true g more = more g
    by_test false g more = g

pub append_none : (xs ys : List (Name × Bool)) → first_lost xs ≡ None → first_lost (xs ++ ys) ≡ first_lost ys
append_none [] ys h = refl
append_none (x ∷ xs) ys h = by_test x.1 h (append_none xs ys)
  where
    by_test : (b : Bool) → cond b (first_lost xs) (Some x.0) ≡ None → (first_lost xs ≡ None → first_lost (xs ++ ys) ≡ first_lost ys)
        → cond b (first_lost (xs ++ ys)) (Some x.0) ≡ first_lost ys
    by_test true g more = more g
    by_test false g more = absurd (none_some x.0 (sym g))

-- ---- how a list begins
abbrev pub literal_same : EnumLiteral → EnumLiteral → Bool
literal_same l m = bytes_eq l.name m.name && bytes_eq l.text m.text

begin_both : (l m : EnumLiteral) (ls ms : List EnumLiteral) → begins (l ∷ ls) (m ∷ ms) ≡ literal_same l m && begins ls ms
begin_both l m ls ms = refl

pub begins_short : (ls ms : List EnumLiteral) (i : ℕ) (d : EnumLiteral) → i < length ls → length ms ≤ i → false ≡ begins (drop i ls) (drop i ms)
begins_short ls ms i d lt le = sym (ap (λ xs. begins xs (drop i ms)) (drop_more ls i d lt) ∙ ap (begins (get_or ls i d ∷ drop (i + 1) ls)) (drop_all i ms le))

pub begins_step : (ls ms : List EnumLiteral) (i : ℕ) (l m : EnumLiteral) → i < length ls → i < length ms → l ≡ get_or ls i l
    → m ≡ get_or ms i m → begins (drop i ls) (drop i ms) ≡ literal_same l m && begins (drop (i + 1) ls) (drop (i + 1) ms)
begins_step ls ms i l m lt less is at =
    ap (λ xs. begins xs (drop i ms)) (drop_more ls i l lt ∙ ap (λ x. x ∷ drop (i + 1) ls) (sym is))
    ∙ ap (begins (l ∷ drop (i + 1) ls)) (drop_more ms i m less ∙ ap (λ x. x ∷ drop (i + 1) ms) (sym at))

pub begins_end : (ls ms : List EnumLiteral) (i : ℕ) → length ls ≤ i → true ≡ begins (drop i ls) (drop i ms)
begins_end ls ms i le = sym (ap (λ xs. begins xs (drop i ms)) (drop_all i ls le))

-- ---- one item more of a list
pub taken_more : {X : Type 0} (h : ℕ → Option X) (ks : List ℕ) (i k d : ℕ) (xs new : List X) → i < length ks → k ≡ get_or ks i d
    → xs ≡ filter_map h (take i ks) → new ≡ xs ++ filter_map h (k ∷ []) → new ≡ filter_map h (take (i + 1) ks)
taken_more h ks i k d xs new lt at is grown =
    grown ∙ ap (λ ys. ys ++ filter_map h (k ∷ [])) is
    ∙ sym (filter_map-append h (take i ks) (k ∷ []))
    ∙ ap (λ j. filter_map h (take i ks ++ j ∷ [])) at
    ∙ ap (filter_map h) (sym (take_more ks i d lt))

pub taken_all : {X : Type 0} (h : ℕ → Option X) (ks order : List ℕ) (i : ℕ) (xs : List X) → ks ≡ order → xs ≡ filter_map h (take i ks)
    → length ks ≤ i → xs ≡ filter_map h order
taken_all h ks order i xs same is le = is ∙ ap (filter_map h) (take_all i ks le ∙ same)

pub found_short : {X : Type 0} (h : ℕ → Option X) (ks : List ℕ) → length (filter_map h ks) ≤ length ks
found_short h [] = omega arith
found_short {X} h (k ∷ ks) = by_option (h k) (found_short h ks)
  where
    by_option : (o : Option X) → length (filter_map h ks) ≤ length ks → length (cons_option o (filter_map h ks)) ≤ suc (length ks)
    by_option None le = omega (arith, le)
    by_option (Some x) le = omega (arith, le)

pub few_found : {X : Type 0} (h : ℕ → Option X) (ks : List ℕ) (i n : ℕ) (xs : List X) → xs ≡ filter_map h (take i ks) → length ks < n → length xs < n
few_found h ks i n xs is lt =
    let a = found_short h (take i ks) in
    let b = length-take i ks in
    let c = ap length is in
    omega (arith, a, b, c, lt)

pub short_more : (es : List Enum) (x : Enum) → AreShort es → length x.literals < 2 ^ 32 → AreShort (es ++ x ∷ [])
short_more [] x all here = (here, tt)
short_more (e ∷ es) x all here = (all.0, short_more es x all.1 here)

-- ---- what is missing, part by part
module _ (o n : Meta) where
  -- each part of the old metamodel, its name and whether the new one keeps it
  abbrev pub parts_kept : List (Name × Bool)
  parts_kept = map (λ c. (class_name o c, class_kept o n c)) (range_with_len 0 (length o.classes))
      ++ (map (λ e. (enum_name o e, enum_kept o n e)) (range_with_len 0 (length o.enums))
      ++ map (λ f. (full_name o f, feature_kept o n f)) (range_with_len 0 (length o.features)))

  pub after_uri : bytes_eq o.uri n.uri ≡ true → missing o n ≡ first_lost parts_kept
  unfolding missing
  after_uri same = ap (λ b. cond b (first_lost parts_kept) (Some (codes "nsURI"))) same

  pub uri_lost : bytes_eq o.uri n.uri ≡ false → missing o n ≡ Some (codes "nsURI")
  unfolding missing
  uri_lost other = ap (λ b. cond b (first_lost parts_kept) (Some (codes "nsURI"))) other
