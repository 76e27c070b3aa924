-- A table after one of its lists was changed.
use Rattle.std.proofs.Common.{◌≡◌, ℕ, zero, suc, ◌+◌, ◌<◌, ◌≤◌, Bool, true, false, cond, ◌&&◌, ◌||◌, nat_eq, List, [], ◌∷◌, take, length, get_or}
use Rattle.std.proofs.Common.{refl, sym, ◌∙◌, ap, take_all}
use Rattle.std.specs.Prelude.{Some, Result, Ok, Err, OnOk, OnErr}
use Rattle.std.specs.List.{list_any}
use Rattle.std.specs.Ordering.{nat_cmp}
use Rattle.std.specs.BTreeMap as tree
use Rattle.std.specs.BTreeMap.{is_at}
use Rattle.std.proofs.lemmas.List.Folds.{list_any_more}
use Rattle.finite_maps.specs.Equal.{text_eq}
use Rattle.finite_maps.specs.Nested.{inner_get}
use Rattle.finite_maps.proofs.EqualLaws.{text_equality}
use Rattle.model_state.specs.Keys.{IdBytes, id_cmp}
use Rattle.footprint.specs.Prints.{seen, cells, shown}
use Rattle.footprint.specs.declared.cell.Cell.{Cell as Held}
use Rattle.footprint.specs.declared.cell.Print.{Print}
use Rattle.change_index.specs.Written.{is_of, has_of, wrote_by}
use Rattle.change_index.specs.Table.{Table, Rows, Test, numbers, row, listed, below, pushed, Keeps, Puts}
use Rattle.change_index.proofs.Lists.{below_pushed}
use Rattle.change_index.proofs.Tests.{text_at}

pub on_err : {T E : Type 0} {P Q : Type 0} (r : Result T E) → (P → Q) → OnErr r P → OnErr r Q
on_err (Ok x) f p = p
on_err (Err e) f p = f p

pub on_ok : {T E : Type 0} {P Q : Type 0} (r : Result T E) → (P → Q) → OnOk r P → OnOk r Q
on_ok (Ok x) f p = f p
on_ok (Err e) f p = p

-- ---- one list of one element
-- the rows of an element are other rows now
module _ (old new : Table) (e : IdBytes) (rows : Rows)
    (outside : (q : IdBytes) → tree.get id_cmp new q ≡ cond (is_at (id_cmp e) q) (Some rows) (tree.get id_cmp old q)) where
  listed_new : (a : IdBytes) (g : ℕ) → listed new a g ≡ numbers (inner_get (λ r. tree.get nat_cmp r g) (cond (text_eq e a) (Some rows) (tree.get id_cmp old a)))
  listed_new a g = ap (λ o. numbers (inner_get (λ r. tree.get nat_cmp r g) o))
      (outside a ∙ ap (λ b. cond b (Some rows) (tree.get id_cmp old a)) (sym (text_at e a)))

  -- with h applied to the list of a feature, the table has it applied there
  pub pair_done : (h : List ℕ → List ℕ) (f : ℕ) → ((g : ℕ) → row rows g ≡ cond (nat_eq f g) (h (listed old e g)) (listed old e g))
      → (a : IdBytes) (g : ℕ) → listed new a g ≡ cond (text_eq e a && nat_eq f g) (h (listed old a g)) (listed old a g)
  pair_done h f within a g = listed_new a g ∙ by (text_eq e a) refl
    where
      by : (b : Bool) → text_eq e a ≡ b
          → numbers (inner_get (λ r. tree.get nat_cmp r g) (cond b (Some rows) (tree.get id_cmp old a))) ≡ cond (b && nat_eq f g) (h (listed old a g))
          (listed old a g)
      by true is = within g ∙ ap (λ x. cond (nat_eq f g) (h (listed old x g)) (listed old x g)) (text_equality.exact e a is)
      by false is = refl

  -- with the same lists, the table has the same
  pub pair_same : ((g : ℕ) → row rows g ≡ listed old e g) → (a : IdBytes) (g : ℕ) → listed new a g ≡ listed old a g
  pair_same within a g = listed_new a g ∙ by (text_eq e a) refl
    where
      by : (b : Bool) → text_eq e a ≡ b → numbers (inner_get (λ r. tree.get nat_cmp r g) (cond b (Some rows) (tree.get id_cmp old a))) ≡ listed old a g
      by true is = within g ∙ ap (λ x. listed old x g) (text_equality.exact e a is)
      by false is = refl

-- ---- one after another
-- h is applied to the lists of the features that pass the test
abbrev pub Did : (List ℕ → List ℕ) → Table → Table → Test → Type 0
Did h old new test = (e : IdBytes) (f : ℕ) → listed new e f ≡ cond (test e f) (h (listed old e f)) (listed old e f)

-- where h does nothing more to what it did, it is applied to those that pass either test
pub did_more : (h : List ℕ → List ℕ) → ((us : List ℕ) → h (h us) ≡ h us) → (a b c : Table) (s t u : Test) → Did h a b s → Did h b c t
    → ((e : IdBytes) (f : ℕ) → u e f ≡ (s e f || t e f)) → Did h a c u
did_more h twice a b c s t u first second either e f =
    second e f ∙ ap (λ us. cond (t e f) (h us) us) (first e f) ∙ by (s e f) (t e f) ∙ sym (ap (λ x. cond x (h (listed a e f)) (listed a e f)) (either e f))
  where
    by : (x y : Bool) → cond y (h (cond x (h (listed a e f)) (listed a e f))) (cond x (h (listed a e f)) (listed a e f)) ≡ cond (x || y)
        (h (listed a e f)) (listed a e f)
    by true true = twice (listed a e f)
    by true false = refl
    by false true = refl
    by false false = refl

-- to no feature
pub did_none : (h : List ℕ → List ℕ) (a : Table) (s : Test) → ((e : IdBytes) (f : ℕ) → s e f ≡ false) → Did h a a s
did_none h a s none e f = sym (ap (λ x. cond x (h (listed a e f)) (listed a e f)) (none e f))

-- to those of another test that answers alike
pub did_as : (h : List ℕ → List ℕ) (a b : Table) (s t : Test) → ((e : IdBytes) (f : ℕ) → t e f ≡ s e f) → Did h a b s → Did h a b t
did_as h a b s t alike did e f = did e f ∙ sym (ap (λ x. cond x (h (listed a e f)) (listed a e f)) (alike e f))

-- what has a version put into some lists keeps what is below it
pub keeps_put : (v : ℕ) (a b : Table) (s t : Test) → Puts a b v s → ((e : IdBytes) (f : ℕ) → t e f ≡ false → s e f ≡ false) → Keeps a b v t
keeps_put v a b s t put weaker = record {
  below = λ e f. ap (below v) (put e f) ∙ by e f (s e f);
  others = λ e f fails. put e f ∙ ap (λ x. cond x (pushed v (listed a e f)) (listed a e f)) (weaker e f fails);
}
  where
    by : (e : IdBytes) (f : ℕ) (x : Bool) → below v (cond x (pushed v (listed a e f)) (listed a e f)) ≡ below v (listed a e f)
    by e f true = below_pushed v (listed a e f)
    by e f false = refl

pub keeps_more : (v : ℕ) (a b c : Table) (s t : Test) → Keeps a b v s → Keeps b c v t → (u : Test)
    → ((e : IdBytes) (f : ℕ) → u e f ≡ false → (s e f ≡ false) × (t e f ≡ false)) → Keeps a c v u
keeps_more v a b c s t first second u weaker = record {
  below = λ e f. second.below e f ∙ first.below e f;
  others = λ e f fails. let both = weaker e f fails in second.others e f both.1 ∙ first.others e f both.0;
}

pub keeps_same : (v : ℕ) (a b : Table) (s : Test) → ((e : IdBytes) (f : ℕ) → listed b e f ≡ listed a e f) → Keeps a b v s
keeps_same v a b s same = record { below = λ e f. ap (below v) (same e f); others = λ e f fails. same e f }

-- ---- tests of cells and of prints
pub neither : (a b : Bool) → (a || b) ≡ false → (a ≡ false) × (b ≡ false)
neither true b is = absurd cc
neither false b is = (refl, is)

none_taken : {X : Type 0} (p : X → Bool) (xs : List X) (i : ℕ) → list_any p xs ≡ false → list_any p (take i xs) ≡ false
none_taken p [] zero none = refl
none_taken p [] (suc i) none = refl
none_taken p (x ∷ xs) zero none = refl
none_taken p (x ∷ xs) (suc i) none = let both = neither (p x) (list_any p xs) none in (λ k. both.0 k || none_taken p xs i both.1 k)

has_of-cells : (e : IdBytes) (f : ℕ) (hs : List Held) → has_of e f (cells hs) ≡ list_any (λ h. is_of e f (seen h)) hs
unfolding cells
has_of-cells e f [] = refl
has_of-cells e f (h ∷ hs) = ap (λ b. is_of e f (seen h) || b) (has_of-cells e f hs)

pub has_of-none : (e : IdBytes) (f : ℕ) (hs : List Held) → has_of e f (cells (take 0 hs)) ≡ false
has_of-none e f hs = has_of-cells e f (take 0 hs)

pub has_of-more : (e : IdBytes) (f : ℕ) (hs : List Held) (i : ℕ) (h : Held) → i < length hs → h ≡ get_or hs i h
    → has_of e f (cells (take (i + 1) hs)) ≡ (has_of e f (cells (take i hs)) || is_of e f (seen h))
has_of-more e f hs i h within is =
    has_of-cells e f (take (i + 1) hs) ∙ list_any_more (λ h. is_of e f (seen h)) hs i h within
    ∙ (λ k. sym (has_of-cells e f (take i hs)) k || is_of e f (seen (sym is k)))

pub has_of-all : (e : IdBytes) (f : ℕ) (hs : List Held) (i : ℕ) → length hs ≤ i → has_of e f (cells (take i hs)) ≡ has_of e f (cells hs)
has_of-all e f hs i end = ap (λ l. has_of e f (cells l)) (take_all i hs end)

pub has_of-weaker : (e : IdBytes) (f : ℕ) (hs : List Held) (i : ℕ) → has_of e f (cells hs) ≡ false → has_of e f (cells (take i hs)) ≡ false
has_of-weaker e f hs i none = has_of-cells e f (take i hs) ∙ none_taken (λ h. is_of e f (seen h)) hs i (sym (has_of-cells e f hs) ∙ none)

by_prints : (e : IdBytes) (f : ℕ) (ps : List Print) → wrote_by (shown ps) e f ≡ list_any (λ (p : Print). has_of e f (cells p.writes)) ps
unfolding shown
by_prints e f [] = refl
by_prints e f (p ∷ ps) = ap (λ b. has_of e f (cells p.writes) || b) (by_prints e f ps)

pub by-none : (e : IdBytes) (f : ℕ) (ps : List Print) → wrote_by (shown (take 0 ps)) e f ≡ false
by-none e f ps = by_prints e f (take 0 ps)

pub by-more : (e : IdBytes) (f : ℕ) (ps : List Print) (i : ℕ) (p : Print) → i < length ps → p ≡ get_or ps i p
    → wrote_by (shown (take (i + 1) ps)) e f ≡ (wrote_by (shown (take i ps)) e f || has_of e f (cells p.writes))
by-more e f ps i p within is =
    by_prints e f (take (i + 1) ps) ∙ list_any_more (λ (p : Print). has_of e f (cells p.writes)) ps i p within
    ∙ (λ k. sym (by_prints e f (take i ps)) k || has_of e f (cells (sym is k).writes))

pub by-all : (e : IdBytes) (f : ℕ) (ps : List Print) (i : ℕ) → length ps ≤ i → wrote_by (shown (take i ps)) e f ≡ wrote_by (shown ps) e f
by-all e f ps i end = ap (λ l. wrote_by (shown l) e f) (take_all i ps end)

pub by-weaker : (e : IdBytes) (f : ℕ) (ps : List Print) (i : ℕ) → wrote_by (shown ps) e f ≡ false → wrote_by (shown (take i ps)) e f ≡ false
by-weaker e f ps i none = by_prints e f (take i ps) ∙ none_taken (λ (p : Print). has_of e f (cells p.writes)) ps i (sym (by_prints e f ps) ∙ none)

-- an item that is taken is one of all
pub by-item : (e : IdBytes) (f : ℕ) (ps : List Print) (i : ℕ) (p : Print) → i < length ps → p ≡ get_or ps i p → wrote_by (shown ps) e f ≡ false
    → has_of e f (cells p.writes) ≡ false
by-item e f ps i p within is none = (neither _ _ (sym (by-more e f ps i p within is) ∙ by-weaker e f ps (i + 1) none)).1
