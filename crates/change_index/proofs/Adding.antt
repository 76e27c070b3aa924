-- What a version that is added makes of the table, and what is left where there is no memory for it.
use Rattle.std.proofs.Common.{◌≡◌, ℕ, ◌+◌, ◌<◌, Bool, true, false, cond, ◌||◌, nat_eq, List, [], ◌∷◌, ◌++◌, refl, sym, ◌∙◌, ap, subst, arith, add-one}
use Rattle.std.specs.Prelude.{All}
use Rattle.std.proofs.lemmas.List.Elements.{All-weaker, All-contains}
use Rattle.std.proofs.lemmas.List.Folds.{list_any-append}
use Rattle.ecore_meta.specs.Meta.{Meta}
use Rattle.model_state.specs.Keys.{IdBytes}
use Rattle.model_state.specs.declared.operation.Operation.{Operation}
use Rattle.footprint.specs.Interference.{op_writes}
use Rattle.footprint.specs.Prints.{shown, printed}
use Rattle.footprint.specs.declared.cell.Print.{Print}
use Rattle.history_tree.specs.Laws.{Rises}
use Rattle.history_tree.specs.MergeBase.{is_among}
use Rattle.history_tree.proofs.Greatest.{of_among}
use Rattle.change_index.specs.Written.{has_of, wrote, wrote_by, written}
use Rattle.change_index.specs.Table.{Table, listed, below, pushed, pairs_at, pairs_below, AreRows, Keeps, Puts, Cuts}
use Rattle.change_index.proofs.Lists.{below_all, pushed_above, rises_push, all_push}
use Rattle.change_index.proofs.Sets.{contains-pairs_at, same_pairs, pairs_same, contains-written}
use Rattle.change_index.proofs.Tables.{keeps_put}

-- the prints of operations write what the operations do
by_printed : (meta : Meta) (ops : List Operation) (e : IdBytes) (f : ℕ) → wrote_by (printed meta ops) e f ≡ wrote meta ops e f
unfolding printed
by_printed meta [] e f = refl
by_printed meta (o ∷ ops) e f = ap (λ b. has_of e f (op_writes meta o) || b) (by_printed meta ops e f)

as_written : (prints : List Print) (meta : Meta) (ops : List Operation) → shown prints ≡ printed meta ops → (e : IdBytes) (f : ℕ)
    → wrote_by (shown prints) e f ≡ wrote meta ops e f
as_written prints meta ops is e f = ap (λ p. wrote_by p e f) is ∙ by_printed meta ops e f

above_all : (us : List ℕ) (v : ℕ) → All (λ u. u < v) us → is_among us v ≡ false
above_all us v all = by (is_among us v) refl
  where
    by : (b : Bool) → is_among us v ≡ b → b ≡ false
    by false is = refl
    by true is = let low : v < v = All-contains (λ u. u < v) us v all (of_among us v is) in absurd (omega (arith, low))

own : (v : ℕ) → nat_eq v v ≡ true
own v = grind arith

or-true : (b : Bool) → (b || true) ≡ true
or-true true = refl
or-true false = refl

-- the last number is among all
among_pushed : (us : List ℕ) (v : ℕ) → is_among (us ++ v ∷ []) v ≡ true
among_pushed us v = list_any-append (nat_eq v) us (v ∷ []) ∙ ap (λ b. is_among us v || (b || false)) (own v) ∙ or-true (is_among us v)

rows_pushed : (v : ℕ) (us : List ℕ) → Rises us × All (λ u. u < v) us → (b : Bool)
    → Rises (cond b (pushed v us) us) × All (λ u. u < v + 1) (cond b (pushed v us) us)
rows_pushed v us is true =
    let same : pushed v us ≡ us ++ v ∷ [] = pushed_above v us is.1 in
    subst (λ l. Rises l × All (λ u. u < v + 1) l) (sym same) (rises_push us v is.0 is.1, all_push us v is.1)
rows_pushed v us is false = (is.0, All-weaker (λ u. u < v) (λ u. u < v + 1) (λ u low. omega (arith, low)) us is.1)

has_pushed : (v : ℕ) (us : List ℕ) → All (λ u. u < v) us → (b : Bool) → is_among (cond b (pushed v us) us) v ≡ b
has_pushed v us all true = ap (λ l. is_among l v) (pushed_above v us all) ∙ among_pushed us v
has_pushed v us all false = above_all us v all

-- the version was put
module _ (old new : Table) (v : ℕ) (prints : List Print) (meta : Meta) (ops : List Operation) (is : shown prints ≡ printed meta ops)
    (put : Puts old new v (λ e f. wrote_by (shown prints) e f)) (rows : AreRows old v) where
  pub rows_added : AreRows new (v + 1)
  rows_added e f = subst (λ l. Rises l × All (λ u. u < v + 1) l) (sym (put e f)) (rows_pushed v (listed old e f) (rows e f) (wrote_by (shown prints) e f))

  at_added : pairs_at new v ≡ written meta ops
  at_added = same_pairs (pairs_at new v) (written meta ops) (λ e f.
      contains-pairs_at new v e f
      ∙ ap (λ l. is_among l v) (put e f)
      ∙ has_pushed v (listed old e f) (rows e f).1 (wrote_by (shown prints) e f)
      ∙ as_written prints meta ops is e f
      ∙ sym (contains-written meta ops e f))

  pub pairs_added : pairs_below new (v + 1) ≡ pairs_below old v ++ written meta ops ∷ []
  unfolding pairs_below
  pairs_added =
      let kept : pairs_below new v ≡ pairs_below old v =
      pairs_same old new v v (omega arith)
      (keeps_put v old new (λ e f. wrote_by (shown prints) e f) (λ e f. wrote_by (shown prints) e f) put (λ e f none. none)).below in
      ap (λ n. pairs_below new n) (add-one v) ∙ (λ i. kept i ++ at_added i ∷ [])

-- some of it was put, and all of that is cut
module _ (old middle new : Table) (v : ℕ) (test : IdBytes → ℕ → Bool) (keeps : Keeps old middle v test) (cuts : Cuts middle new v test)
    (rows : AreRows old v) where
  lists_left : (e : IdBytes) (f : ℕ) → listed new e f ≡ listed old e f
  lists_left e f = cuts e f ∙ by (test e f) refl
    where
      by : (b : Bool) → test e f ≡ b → cond b (below v (listed middle e f)) (listed middle e f) ≡ listed old e f
      by true is = keeps.below e f ∙ below_all v (listed old e f) (rows e f).1
      by false is = keeps.others e f is

  pub rows_left : AreRows new v
  rows_left e f = subst (λ l. Rises l × All (λ u. u < v) l) (sym (lists_left e f)) (rows e f)

  pub pairs_left : pairs_below new v ≡ pairs_below old v
  pairs_left = pairs_same old new v v (omega arith) (λ e f. ap (below v) (lists_left e f))
