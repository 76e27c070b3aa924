-- What the parts of a document are, by number.
use Rattle.std.proofs.Common.{◌≡◌, ℕ, zero, suc, ◌+◌, ◌<◌, ◌≤◌, Bool, true, false, List, [], ◌∷◌, ◌++◌, refl, sym, ap, subst, ◌∙◌, arith, length}
use Rattle.std.proofs.Common.{length-append, map, take, nat_eq, cond, ◌||◌}
use Rattle.std.specs.Prelude.{Option, None, Some, ◌^◌}
use Rattle.std.specs.List.{AllByRecursion, list_any, cons_option, enumerate_from, filter, filter_map, flat_map, range_with_len}
use Rattle.std.specs.BTreeSet.{BTreeSet}
use Rattle.std.proofs.lemmas.List.{length-map}
use Rattle.ecore_meta.specs.Names.{Name}
use Rattle.ecore_meta.specs.declared.meta.Class.{Class as Made}
use Rattle.ecore_drafts.specs.Document.{ClassifierRows, class_number, classes_of, feature_total, has_none, is_empty_at, supers_in}
use Rattle.ecore_drafts.specs.Drafts.{draft, drafts}
use Rattle.ecore_build.specs.Faults.{own_of, inherited, all_inherited, enum_from, literal, enums_in}
use Rattle.ecore_build.specs.Faults.{IsFault, first_true}
use Rattle.ecore_build.specs.declared.fault.MetaFault.{MetaFault}
use Rattle.ecore_build.specs.declared.fault.MetaFault.TheVariants.{DupName, Unsupported, NoType, SuperCycle, Clash, SelfOpposite, BadOpposite}
use Rattle.ecore_build.specs.declared.fault.MetaFault.TheVariants.{BadBound, BadDefault, Memory}
use Rattle.ecore_build.specs.Build.{class_from}
use Rattle.ecore_drafts.specs.Counts.{AreFew}
use Rattle.ecore_drafts.specs.Supers.{Inside, is_above, supers_of, all_above}
use Rattle.ecore_meta.specs.Values.{AreShort, literals_at}
use Rattle.ecore_drafts.specs.declared.rows.ClassRow.{ClassRow}
use Rattle.ecore_drafts.specs.declared.rows.EnumRow.{EnumRow}
use Rattle.ecore_drafts.specs.declared.drafts.FeatureDraft.{FeatureDraft}
use Rattle.ecore_drafts.specs.declared.rows.ClassifierRow.TheVariants.{Class, Enum, Plain}
use Rattle.ecore_drafts.specs.declared.rows.FeatureRow.{FeatureRow}
use Rattle.ecore_drafts.specs.declared.rows.LiteralRow.{LiteralRow}
use Rattle.ecore_meta.proofs.NameLaws.{number_of-below}
use Rattle.ecore_meta.proofs.NumberLaws.{nat_same, or_split}
use Rattle.ecore_drafts.proofs.PlaceLaws.{drafts_counted, drafts_from}

map_map : {X Y Z : Type 0} (g : Y → Z) (f : X → Y) (xs : List X) → map (λ x. g (f x)) xs ≡ map g (map f xs)
map_map g f [] = refl
map_map g f (x ∷ xs) = ap (λ ys. g (f x) ∷ ys) (map_map g f xs)

take_whole : {X : Type 0} (xs : List X) (i : ℕ) → length xs ≤ i → take i xs ≡ xs
take_whole [] zero h = refl
take_whole [] (suc i) h = refl
take_whole (x ∷ xs) zero h = absurd (omega arith)
take_whole (x ∷ xs) (suc i) h = ap (λ ys. x ∷ ys) (take_whole xs i (omega arith))

-- the features of every class, by the classes above each
pub features_is : (sets : List (BTreeSet ℕ)) (i : ℕ) (own supers : List (List ℕ)) → length sets ≤ i → {all : List (List ℕ)}
    → all ≡ map (λ s. flat_map (own_of own) s.keys) (take i sets) → map (λ s. s.keys) sets ≡ all_above supers → all ≡ all_inherited supers own
unfolding inherited
features_is sets i own supers done is rising =
    is ∙ ap (map (λ s. flat_map (own_of own) s.keys)) (take_whole sets i done)
    ∙ map_map (flat_map (own_of own)) (λ s. s.keys) sets ∙ ap (map (flat_map (own_of own))) rising
    ∙ sym (map_map (flat_map (own_of own)) (λ c. filter (is_above supers c) (range_with_len 0 (length supers))) (range_with_len 0 (length supers)))

-- a class's number is a place of the list
pub number_below : (all : ClassifierRows) (q : Name) (n : ℕ) → class_number all q ≡ Some n → n < length (supers_in all all)
unfolding class_number
number_below all q n h =
    let below = number_of-below q (map (λ (c : ClassRow). c.name) (classes_of all)) n h in
    omega (
      arith,
      below,
      length-map (classes_of all) (λ (c : ClassRow). c.name),
      length-map (classes_of all) (λ (c : ClassRow). filter_map (class_number all) c.supers),
    )

-- an enum that isn't empty has a literal
pub filled_enum : (es : List EnumRow) (e : ℕ) → is_empty_at es e ≡ false → 0 < length (literals_at (map enum_from es) e)
filled_enum [] e h = cc
filled_enum (r ∷ es) zero h = filled r.literals h
  where
    filled : (ls : List LiteralRow) → has_none ls ≡ false → 0 < length (map literal ls)
    filled [] h = cc
    filled (l ∷ ls) h = omega arith
filled_enum (r ∷ es) (suc e) h = filled_enum es e h

listed_below : (all : ClassifierRows) (b : ℕ) (names : List Name) → list_any (nat_eq b) (filter_map (class_number all) names) ≡ true
    → b < length (supers_in all all)
listed_below all b [] h = cc
listed_below all b (t ∷ names) h = by_number (class_number all t) refl (λ k. listed_below all b names k) h
  where
    by_number : (o : Option ℕ) → class_number all t ≡ o
        → (list_any (nat_eq b) (filter_map (class_number all) names) ≡ true → b < length (supers_in all all))
        → list_any (nat_eq b) (cons_option o (filter_map (class_number all) names)) ≡ true → b < length (supers_in all all)
    by_number None is more h = more h
    by_number (Some n) is more h = or_split (nat_eq b n) (list_any (nat_eq b) (filter_map (class_number all) names)) h
        (λ e. subst (λ x. x < length (supers_in all all)) (sym (nat_same b n e)) (number_below all t n is))
        more

row_below : (all rows : ClassifierRows) (c b : ℕ) → list_any (nat_eq b) (supers_of (supers_in all rows) c) ≡ true → b < length (supers_in all all)
row_below all [] c b h = cc
row_below all (Class r ∷ rows) zero b h = listed_below all b r.supers h
row_below all (Class r ∷ rows) (suc c) b h = row_below all rows c b h
row_below all (Enum e ∷ rows) c b h = row_below all rows c b h
row_below all (Plain t ∷ rows) c b h = row_below all rows c b h

pub supers_inside : (all : ClassifierRows) (supers : List (List ℕ)) → supers ≡ supers_in all all → Inside supers
supers_inside all supers is c b h =
    subst (λ s. b < length s) (sym is) (row_below all all c b (subst (λ s. list_any (nat_eq b) (supers_of s c) ≡ true) is h))

pub supers_few : (all rows : ClassifierRows) → length (supers_in all rows) ≤ length rows
supers_few all [] = omega arith
supers_few all (Class c ∷ rows) = let more = supers_few all rows in omega (arith, more)
supers_few all (Enum e ∷ rows) = let more = supers_few all rows in omega (arith, more)
supers_few all (Plain t ∷ rows) = let more = supers_few all rows in omega (arith, more)

drafts_count : (all : ClassifierRows) (n : ℕ) (rows : ClassifierRows) → length (drafts_from all n rows) ≡ feature_total rows
drafts_count all n [] = refl
drafts_count all n (Class c ∷ rows) =
    length-append (map (draft all n) c.features) (drafts_from all (suc n) rows)
    ∙ ap (λ k. k + length (drafts_from all (suc n) rows)) (length-map c.features (draft all n))
    ∙ ap (λ k. length c.features + k) (drafts_count all (suc n) rows)
drafts_count all n (Enum e ∷ rows) = drafts_count all n rows ∙ omega arith
drafts_count all n (Plain t ∷ rows) = drafts_count all n rows ∙ omega arith

pub all_append : {A : Type 0} (P : A → Type 0) (xs ys : List A) → AllByRecursion P xs → AllByRecursion P ys → AllByRecursion P (xs ++ ys)
all_append P [] ys p q = q
all_append P (x ∷ xs) ys p q = (p.0, all_append P xs ys p.1 q)

-- what holds of the draft of any feature holds of all drafts of a document
pub all_drafts : (P : FeatureDraft → Type 0) (all : ClassifierRows) → ((n : ℕ) (f : FeatureRow) → P (draft all n f)) → (n : ℕ) (rows : ClassifierRows)
    → AllByRecursion P (drafts_from all n rows)
all_drafts P all each n [] = tt
all_drafts P all each n (Class c ∷ rows) =
    all_append P (map (draft all n) c.features) (drafts_from all (suc n) rows) (own c.features) (all_drafts P all each (suc n) rows)
  where
    own : (fs : List FeatureRow) → AllByRecursion P (map (draft all n) fs)
    own [] = tt
    own (f ∷ fs) = (each n f, own fs)
all_drafts P all each n (Enum e ∷ rows) = all_drafts P all each n rows
all_drafts P all each n (Plain t ∷ rows) = all_drafts P all each n rows

pub drafts_few : (rows : ClassifierRows) → length (drafts rows) ≡ feature_total rows
drafts_few rows = ap length (drafts_counted rows) ∙ drafts_count rows 0 rows

pub enums_short : (rows : ClassifierRows) → AreFew rows → AreShort (enums_in rows)
enums_short [] few = tt
enums_short (Class c ∷ rows) few = enums_short rows few.1
enums_short (Enum e ∷ rows) few = (subst (λ k. k < 2 ^ 32) (sym (length-map e.literals literal)) (omega (arith, few.0)), enums_short rows few.1)
enums_short (Plain t ∷ rows) few = enums_short rows few.1

-- the classes with the features of each, their places from n on
abbrev pub classes_at : ℕ → List (List ℕ) → ClassifierRows → List Made
classes_at n fs rows = map (class_from fs) (enumerate_from n (classes_of rows))

pub classes_count : (n : ℕ) (fs : List (List ℕ)) (rows : ClassifierRows) → length (classes_at n fs rows) ≤ length rows
classes_count n fs [] = omega arith
classes_count n fs (Class c ∷ rows) = let more = classes_count (n + 1) fs rows in omega (arith, more)
classes_count n fs (Enum e ∷ rows) = let more = classes_count n fs rows in omega (arith, more)
classes_count n fs (Plain t ∷ rows) = let more = classes_count n fs rows in omega (arith, more)

pub classes_supers : (all : ClassifierRows) (n : ℕ) (fs : List (List ℕ)) (rows : ClassifierRows) → length (supers_in all rows) ≡ length (classes_at n fs rows)
classes_supers all n fs [] = refl
classes_supers all n fs (Class c ∷ rows) = ap (λ k. suc k) (classes_supers all (n + 1) fs rows)
classes_supers all n fs (Enum e ∷ rows) = classes_supers all n fs rows
classes_supers all n fs (Plain t ∷ rows) = classes_supers all n fs rows

pub enums_count : (rows : ClassifierRows) → length (enums_in rows) ≤ length rows
enums_count [] = omega arith
enums_count (Class c ∷ rows) = let more = enums_count rows in omega (arith, more)
enums_count (Enum e ∷ rows) = let more = enums_count rows in omega (arith, more)
enums_count (Plain t ∷ rows) = let more = enums_count rows in omega (arith, more)

-- the last four faults by their tests
abbrev pub last_of : Bool → Bool → Bool → Bool → Option MetaFault
last_of a b c d = first_true ((a, SelfOpposite) ∷ (b, BadOpposite) ∷ (c, BadBound) ∷ (d, BadDefault) ∷ [])

pub third : (a b c d : Bool) → false ≡ a → false ≡ b → true ≡ c → last_of a b c d ≡ Some BadBound
third true b c d h k l = cc
third false true c d h k l = cc
third false false true d h k l = refl
third false false false d h k l = cc

pub fourth : (a b c d : Bool) → false ≡ a → false ≡ b → false ≡ c → true ≡ d → last_of a b c d ≡ Some BadDefault
fourth true b c d h k l m = cc
fourth false true c d h k l m = cc
fourth false false true d h k l m = cc
fourth false false false true h k l m = refl
fourth false false false false h k l m = cc

pub no_last : (a b c d : Bool) → false ≡ a → false ≡ b → false ≡ c → false ≡ d → last_of a b c d ≡ None
no_last true b c d h k l m = cc
no_last false true c d h k l m = cc
no_last false false true d h k l m = cc
no_last false false false true h k l m = cc
no_last false false false false h k l m = refl

-- a test that fails is not the first that holds
pub past : (b : Bool) (e : MetaFault) (r s : Option MetaFault) → false ≡ b → r ≡ s → cond b (Some e) r ≡ s
past true e r s h k = cc
past false e r s h k = k

pub neither : (a b : Bool) → false ≡ a → false ≡ b → false ≡ (a || b)
neither true b h k = cc
neither false b h k = k

-- the first fault is the one that is named
pub is_fault : (first : Option MetaFault) (e : MetaFault) → first ≡ Some e → IsFault first e
is_fault first Memory h = tt
is_fault first DupName h = h
is_fault first Unsupported h = h
is_fault first NoType h = h
is_fault first SuperCycle h = h
is_fault first Clash h = h
is_fault first SelfOpposite h = h
is_fault first BadOpposite h = h
is_fault first BadBound h = h
is_fault first BadDefault h = h
