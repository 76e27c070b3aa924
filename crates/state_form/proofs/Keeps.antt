-- Steps that have an encoding lead from a spelled state to one.
use Rattle.std.proofs.Common.{◌≡◌, ℕ, zero, suc, ◌<◌, true, List, [], ◌∷◌, ◌++◌, take, drop, refl, sym, subst, arith, nat_lt}
use Rattle.std.specs.Prelude.{Option, None, Some, slice_get}
use Rattle.std.specs.FinMap.{FinMap, get, empty, get-empty}
use Rattle.std.specs.List.{AllByRecursion, insert, remove}
use Rattle.std.specs.declared.cmp.Ordering.{Ordering}
use Rattle.std.proofs.lemmas.Bool.{ltb-true}
use Rattle.finite_maps.specs.Maps.{set, set_all}
use Rattle.finite_maps.proofs.MapLaws.{IsKeyOrder, by_key, get-set_same, get-set_other}
use Rattle.ecore_meta.specs.Meta.{Meta}
use Rattle.ecore_meta.specs.Sound.{Sound}
use Rattle.ecore_meta.specs.declared.meta.Value.{Value}
use Rattle.model_state.specs.Keys.{IdBytes, AttrKey, id_cmp, attr_cmp, row_cmp}
use Rattle.model_state.specs.Lists.{entry_of, values_of, shifted}
use Rattle.model_state.specs.State.{State, nothing}
use Rattle.model_state.specs.Steps.{apply, fold, single, mirror_write}
use Rattle.model_state.specs.Typing.{opposite_of}
use Rattle.model_state.specs.declared.step.Step.{Step}
use Rattle.model_state.specs.declared.step.Step.TheVariants.{Put, Ins, Del, Shift, Link, Unlink, RerankRow, New, Gone, Move, RerankPlace}
use Rattle.model_state.proofs.Orders.{id_order, attr_order, row_order}
use Rattle.model_laws.proofs.Runs.{fold_first}
use Rattle.op_form.specs.Formed.{IsU32, IsU64, IsIdText, IsGiven, IsValue, IsPlace, IsStep}
use Rattle.state_steps.specs.Whole.{is_less}
use Rattle.state_form.specs.Spelled.{Each, IsClassed, AreValues, LeadsSpelled, IsRow, IsSpelled}

-- ---- lists
pub both : {X : Type 0} (P : X → Type 0) (xs ys : List X) → AllByRecursion P xs → AllByRecursion P ys → AllByRecursion P (xs ++ ys)
both P [] ys first second = second
both P (x ∷ xs) ys first second = (first.0, both P xs ys first.1 second)

-- ---- maps
none_each : {K X : Type 0} (R : K → K → Ordering) (P : K → X → Type 0) → Each P (empty {X = X} {R = R})
none_each R P k = subst (λ o. IsGiven (P k) o) (sym (get-empty R k)) tt

-- an entry that is written has it, and the others have it still
each_set : {K X : Type 0} {R : K → K → Ordering} (o : IsKeyOrder R) (P : K → X → Type 0) (m : FinMap R X) (k : K) (v : Option X) → Each P m
    → IsGiven (P k) v → Each P (set m k v)
each_set o P m k v all one q =
    by_key o (λ q. IsGiven (P q) (get (set m k v) q)) k q
    (subst (λ w. IsGiven (P k) w) (sym (get-set_same o m k v)) one)
    (λ apart. subst (λ w. IsGiven (P q) w) (sym (get-set_other o m k v q apart)) (all q))

-- ---- values
taken : (k : ℕ) (vs : List Value) → AllByRecursion IsValue vs → AllByRecursion IsValue (take k vs)
taken zero vs all = tt
taken (suc k) [] all = tt
taken (suc k) (v ∷ vs) all = (all.0, taken k vs all.1)

dropped : (k : ℕ) (vs : List Value) → AllByRecursion IsValue vs → AllByRecursion IsValue (drop k vs)
dropped zero vs all = all
dropped (suc k) [] all = tt
dropped (suc k) (v ∷ vs) all = dropped k vs all.1

inserted : (vs : List Value) (k : ℕ) (v : Value) → AllByRecursion IsValue vs → IsValue v → AllByRecursion IsValue (insert vs k v)
inserted vs k v all one = both IsValue (take k vs) (v ∷ drop k vs) (taken k vs all) (one, dropped k vs all)

removed : (vs : List Value) (k : ℕ) → AllByRecursion IsValue vs → AllByRecursion IsValue (remove vs k)
removed vs k all = both IsValue (take k vs) (drop (suc k) vs) (taken k vs all) (dropped (suc k) vs all)

at_index : (vs : List Value) (k : ℕ) → AllByRecursion IsValue vs → IsGiven IsValue (slice_get vs k)
at_index [] k all = tt
at_index (w ∷ vs) zero all = all.0
at_index (w ∷ vs) (suc k) all = at_index vs k all.1

moved : (vs : List Value) (from to : ℕ) → AllByRecursion IsValue vs → AllByRecursion IsValue (shifted vs from to)
moved vs from to all = by (slice_get vs from) (at_index vs from all)
  where
    by : (o : Option Value) → IsGiven IsValue o → AllByRecursion IsValue (elim o [ None ↦ vs | Some v ↦ insert (remove vs from) to v ])
    by None one = all
    by (Some v) one = inserted (remove vs from) to v (removed vs from all) one

values_given : (k : AttrKey) (o : Option (List Value)) → IsGiven (AreValues k) o → AllByRecursion IsValue (values_of o)
values_given k None is = tt
values_given k (Some vs) is = is.1.1

entry_given : (k : AttrKey) (vs : List Value) → IsIdText k.0 → IsU32 k.1 → AllByRecursion IsValue vs → IsGiven (AreValues k) (entry_of vs)
entry_given k [] id f all = tt
entry_given k (v ∷ vs) id f all = (id, (f, all))

single_given : (k : AttrKey) (o : Option Value) → IsIdText k.0 → IsU32 k.1 → IsGiven IsValue o → IsGiven (AreValues k) (single o)
single_given k None id f one = tt
single_given k (Some v) id f one = (id, (f, (one, tt)))

-- ---- rows
module _ (meta : Meta) (sound : Sound meta) where
  row_given : (a : IdBytes) (f : ℕ) (b : IdBytes) (o : Option ℕ) → IsIdText a → LeadsSpelled meta f → IsIdText b → IsGiven IsU64 o
      → IsGiven (IsRow meta (a, f, b)) o
  row_given a f b None from feature to one = tt
  row_given a f b (Some rank) from feature to one = (from, (feature, (to, one)))

  -- of two opposites the one that leads has the lesser number
  mirror_leads : (f g : ℕ) → opposite_of meta f ≡ Some g → IsU32 f → LeadsSpelled meta g
  mirror_leads f g is small leads =
      let less : nat_lt g f ≡ true = subst (λ (o : Option ℕ). is_less g o ≡ true) (sound.both f g is) leads in
      let under : g < f = ltb-true g f less in
      omega (arith, under, small)

  mirror_given : (a : IdBytes) (f : ℕ) (b : IdBytes) (w : Option ℕ) (row : FinMap row_cmp ℕ) → Each (IsRow meta) row → IsIdText a → IsU32 f
      → IsIdText b → IsGiven IsU64 w
      → (o : Option ℕ) → opposite_of meta f ≡ o → Each (IsRow meta) (set_all row (mirror_write o a b w))
  mirror_given a f b w row all from small to one None is = all
  mirror_given a f b w row all from small to one (Some g) is =
      each_set row_order (IsRow meta) row (b, g, a) w all (row_given b g a w to (mirror_leads f g is small) from one)

  pair_given : (a : IdBytes) (f : ℕ) (b : IdBytes) (v w : Option ℕ) (row : FinMap row_cmp ℕ) → Each (IsRow meta) row → IsIdText a → IsU32 f
      → IsIdText b → IsGiven IsU64 v → IsGiven IsU64 w
      → Each (IsRow meta) (set_all (set row (a, f, b) v) (mirror_write (opposite_of meta f) a b w))
  pair_given a f b v w row all from small to first second =
      mirror_given a f b w (set row (a, f, b) v)
      (each_set row_order (IsRow meta) row (a, f, b) v all (row_given a f b v from (λ leads. small) to first)) from small to second
      (opposite_of meta f) refl

  -- ---- steps
  values_set : (m : State) (e : IdBytes) (f : ℕ) (o : Option (List Value)) → IsSpelled meta m → IsGiven (AreValues (e, f)) o
      → IsSpelled meta (record m { attr = set m.attr (e, f) o })
  values_set m e f o is one =
      record {
        kinds = is.kinds;
        places = is.places;
        ranks = is.ranks;
        values = each_set attr_order AreValues m.attr (e, f) o is.values one;
        rows =
            is.rows;
      }

  step_keeps : (m : State) (s : Step) → IsStep s → IsSpelled meta m → IsSpelled meta (apply meta m s)
  step_keeps m (Put e f old new) s is = values_set m e f (single new) is (single_given (e, f) new s.0 s.1.0 s.1.1.1)
  step_keeps m (Ins e f at v) s is =
      values_set m e f (entry_of (insert (values_of (get m.attr (e, f))) at v)) is
      (entry_given (e, f) (insert (values_of (get m.attr (e, f))) at v) s.0 s.1.0
      (inserted (values_of (get m.attr (e, f))) at v (values_given (e, f) (get m.attr (e, f)) (is.values (e, f))) s.1.1.1))
  step_keeps m (Del e f at v) s is =
      values_set m e f (entry_of (remove (values_of (get m.attr (e, f))) at)) is
      (entry_given (e, f) (remove (values_of (get m.attr (e, f))) at) s.0 s.1.0
      (removed (values_of (get m.attr (e, f))) at (values_given (e, f) (get m.attr (e, f)) (is.values (e, f)))))
  step_keeps m (Shift e f from to) s is =
      values_set m e f (entry_of (shifted (values_of (get m.attr (e, f))) from to)) is
      (entry_given (e, f) (shifted (values_of (get m.attr (e, f))) from to) s.0 s.1.0
      (moved (values_of (get m.attr (e, f))) from to (values_given (e, f) (get m.attr (e, f)) (is.values (e, f)))))
  step_keeps m (Link a f ra b rb) s is =
      record {
        kinds = is.kinds;
        places = is.places;
        ranks = is.ranks;
        values = is.values;
        rows =
            pair_given a f b (Some ra) rb m.row is.rows s.0 s.1.0 s.1.1.1.0 s.1.1.0 s.1.1.1.1;
      }
  step_keeps m (Unlink a f ra b rb) s is =
      record {
        kinds = is.kinds;
        places = is.places;
        ranks = is.ranks;
        values = is.values;
        rows =
            pair_given a f b None None m.row is.rows s.0 s.1.0 s.1.1.1.0 tt tt;
      }
  step_keeps m (RerankRow a f b old new) s is = record {
    kinds = is.kinds;
    places = is.places;
    ranks = is.ranks;
    values = is.values;
    rows = each_set row_order (IsRow meta) m.row (a, f, b) (Some new) is.rows (s.0, ((λ leads. s.1.0), (s.1.1.0, s.1.1.1.1)));
  }
  step_keeps m (New e class place rank) s is = record {
    kinds = each_set id_order IsClassed m.kind e (Some class) is.kinds (s.0, s.1.0);
    places = each_set id_order (λ e. IsPlace) m.place e (Some place) is.places s.1.1.0;
    ranks = each_set id_order (λ e. IsU64) m.prank e (Some rank) is.ranks s.1.1.1;
    values = is.values;
    rows = is.rows;
  }
  step_keeps m (Gone e class place rank) s is = record {
    kinds = each_set id_order IsClassed m.kind e None is.kinds tt;
    places = each_set id_order (λ e. IsPlace) m.place e None is.places tt;
    ranks = each_set id_order (λ e. IsU64) m.prank e None is.ranks tt;
    values = is.values;
    rows = is.rows;
  }
  step_keeps m (Move e from from_rank to to_rank above_from above_to) s is = record {
    kinds = is.kinds;
    places = each_set id_order (λ e. IsPlace) m.place e (Some to) is.places s.1.1.1.0;
    ranks = each_set id_order (λ e. IsU64) m.prank e (Some to_rank) is.ranks s.1.1.1.1.0;
    values = is.values;
    rows = is.rows;
  }
  step_keeps m (RerankPlace e old new) s is =
      record {
        kinds = is.kinds;
        places = is.places;
        ranks = each_set id_order (λ e. IsU64) m.prank e (Some new) is.ranks s.1.1;
        values =
            is.values;
        rows = is.rows;
      }

  pub run_keeps : (m n : State) (steps : List Step) → AllByRecursion IsStep steps → IsSpelled meta m → fold meta m steps ≡ Some n → IsSpelled meta n
  run_keeps m n [] spelled is led = let same : m ≡ n = cc in subst (λ (x : State). IsSpelled meta x) same is
  run_keeps m n (s ∷ ss) spelled is led =
      let first = fold_first meta m n s ss led in
      run_keeps (apply meta m s) n ss spelled.1 (step_keeps m s spelled.0 is) first.1

-- ---- the empty state
pub nothing_is_spelled : (meta : Meta) → IsSpelled meta nothing
nothing_is_spelled meta = record {
  kinds = none_each id_cmp IsClassed;
  places = none_each id_cmp (λ e. IsPlace);
  ranks = none_each id_cmp (λ e. IsU64);
  values = none_each attr_cmp AreValues;
  rows = none_each row_cmp (IsRow meta);
}
