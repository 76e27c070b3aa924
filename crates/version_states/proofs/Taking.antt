-- Steps that are taken back, and copies of the steps of operations.
use Rattle.std.proofs.Common.{◌≡◌, ℕ, suc, ◌+◌, ◌<◌, List, [], ◌∷◌, ◌++◌, length, take, take-suc, Some, None, Result, Ok, Err, sym, ◌∙◌}
use Rattle.std.proofs.Common.{ap, subst, arith, append_assoc, append-nil}
use Rattle.std.specs.Prelude.{OnOk}
use Rattle.std.proofs.Math.ListN.{get_or}
use Rattle.std.proofs.lemmas.Option.{same_Some}
use Rattle.ecore_meta.specs.Meta.{Meta}
use Rattle.ecore_meta.specs.Sound.{Sound}
use Rattle.model_state.specs.Good.{Good}
use Rattle.model_state.specs.Packages.{fold_package, rev_package, steps_all, steps_of}
use Rattle.model_state.specs.State.{State}
use Rattle.model_state.specs.Steps.{first_stop, fold}
use Rattle.model_state.specs.declared.operation.Operation.{Operation}
use Rattle.model_state.specs.declared.step.Step.{Step}
use Rattle.model_laws.proofs.Packages.{steps_append}
use Rattle.model_laws.proofs.Runs.{fold_append, reversal_undoes, steps_keep_good}
use Rattle.model_laws.proofs.Reversals.{packages_undone}
use Rattle.version_states.specs.Taking.{LedTo, StepsLedTo}
use Rattle.version_states.proofs.Stopping.{first_append}

-- ---- taken back
-- the good state from which steps led to a model is one
pub one_start : (meta : Meta) → Sound meta → (a b m : State) → Good meta a → Good meta b → (ss : List Step) → fold meta a ss ≡ Some m
    → fold meta b ss ≡ Some m → a ≡ b
one_start meta sound a b m first second ss one two =
    same_Some a b (sym (reversal_undoes meta sound a m first ss one) ∙ reversal_undoes meta sound b m second ss two)

-- the model that steps led to is good
pub led_good : (meta : Meta) → Sound meta → (ss : List Step) (m : State) → StepsLedTo meta ss m → Good meta m
led_good meta sound ss m led = steps_keep_good meta sound led.before m led.good ss led.run

-- the reversal of operations leads back from where they led
pub led_back : (meta : Meta) → Sound meta → (os rs : List Operation) (m : State) (led : LedTo meta os m) → rs ≡ rev_package os
    → fold_package meta m rs ≡ Some led.before
led_back meta sound os rs m led is = ap (fold_package meta m) is ∙ packages_undone meta sound led.before m led.good os led.run

-- so that what it leads to is where they began
pub taken_back : (meta : Meta) → Sound meta → (os rs : List Operation) (m n : State) → LedTo meta os m → rs ≡ rev_package os
    → fold_package meta m rs ≡ Some n → fold_package meta n os ≡ Some m
taken_back meta sound os rs m n led is back =
    subst (λ (x : State). fold_package meta x os ≡ Some m) (same_Some led.before n (sym (led_back meta sound os rs m led is) ∙ back)) led.run

pub all_taken_back : {T E : Type 0} (meta : Meta) → Sound meta → (os rs : List Operation) (m n : State) (r : Result T E) → LedTo meta os m
    → rs ≡ rev_package os → OnOk r (fold_package meta m rs ≡ Some n) → OnOk r (fold_package meta n os ≡ Some m)
all_taken_back meta sound os rs m n (Ok x) led is back = taken_back meta sound os rs m n led is back
all_taken_back meta sound os rs m n (Err e) led is back = tt

-- the steps of one operation alone
pub led_pushed : (meta : Meta) (ss : List Step) (m : State) (none all : List Operation) (o : Operation) → none ≡ [] → all ≡ none ++ o ∷ []
    → steps_of o ≡ ss → StepsLedTo meta ss m → StepsLedTo meta (steps_all all) m
led_pushed meta ss m none all o none_is all_are is led =
    subst (λ (l : List Step). StepsLedTo meta l m)
    (sym (ap steps_all (all_are ∙ ap (λ (l : List Operation). l ++ o ∷ []) none_is) ∙ append-nil (steps_of o) ∙ is)) led

-- operations and then steps lead to a model
pub folds_further : (meta : Meta) (a m n : State) (os : List Operation) (ss : List Step) → fold_package meta a os ≡ Some m → fold meta m ss ≡ Some n
    → fold meta a (steps_all os ++ ss) ≡ Some n
folds_further meta a m n os ss first more = fold_append meta a m (steps_all os) ss first ∙ more

pub led_further : (meta : Meta) (a m n : State) (os : List Operation) (ss : List Step) → Good meta a → fold_package meta a os ≡ Some m
    → fold meta m ss ≡ Some n → StepsLedTo meta (steps_all os ++ ss) n
led_further meta a m n os ss good first more = record { before = a; good = good; run = folds_further meta a m n os ss first more }

-- the model is as it was once steps that were taken on it are taken back
pub put_back : (meta : Meta) → Sound meta → (a b m : State) (ss ts : List Step) → Good meta a → Good meta b → fold meta a ss ≡ Some m → ts ≡ ss
    → fold meta b ts ≡ Some m → b ≡ a
put_back meta sound a b m ss ts first second one is two =
    one_start meta sound b a m second first ss (subst (λ (l : List Step). fold meta b l ≡ Some m) is two) one

-- ---- stops
-- steps that can all be taken have none
pub no_stop_in : (meta : Meta) (m n : State) (ss : List Step) → fold meta m ss ≡ Some n → first_stop meta m ss ≡ None
no_stop_in meta m n ss run = ap (first_stop meta m) (sym (append-nil ss)) ∙ first_append meta m n ss [] run

-- ---- copies
one_more : {A : Type 0} (xs : List A) (i : ℕ) (d : A) → i < length xs → take (i + 1) xs ≡ take i xs ++ get_or xs i d ∷ []
one_more xs i d within =
    let next : i + 1 ≡ suc i = omega arith in
    ap (λ n. take n xs) next ∙ take-suc xs i d within

pub copied_more : {A : Type 0} (start out new xs : List A) (i : ℕ) (d x : A) → i < length xs → out ≡ start ++ take i xs → new ≡ out ++ x ∷ []
    → x ≡ get_or xs i d → new ≡ start ++ take (i + 1) xs
copied_more start out new xs i d x within so_far pushed is =
    pushed ∙ ap (λ l. l ++ x ∷ []) so_far ∙ append_assoc start (take i xs) (x ∷ [])
    ∙ ap (λ l. start ++ l) (ap (λ y. take i xs ++ y ∷ []) is ∙ sym (one_more xs i d within))

-- one operation more is taken
pub taken_more : (meta : Meta) (a m n : State) (os : List Operation) (i : ℕ) (d : Operation) → i < length os → fold_package meta a (take i os) ≡ Some m
    → fold meta m (steps_of (get_or os i d)) ≡ Some n → fold_package meta a (take (i + 1) os) ≡ Some n
taken_more meta a m n os i d within first more =
    ap (fold_package meta a) (one_more os i d within) ∙ ap (fold meta a) (steps_append (take i os) (get_or os i d ∷ []))
    ∙ fold_append meta a m (steps_all (take i os)) (steps_of (get_or os i d) ++ []) first
    ∙ ap (fold meta m) (append-nil (steps_of (get_or os i d))) ∙ more

pub steps_more : (os : List Operation) (out new steps : List Step) (i : ℕ) (d : Operation) → i < length os → out ≡ steps_all (take i os)
    → new ≡ out ++ steps → steps ≡ steps_of (get_or os i d) → new ≡ steps_all (take (i + 1) os)
steps_more os out new steps i d within so_far pushed is =
    pushed ∙ ap (λ l. l ++ steps) so_far ∙ ap (λ l. steps_all (take i os) ++ l) (is ∙ sym (append-nil (steps_of (get_or os i d))))
    ∙ sym (steps_append (take i os) (get_or os i d ∷ [])) ∙ ap steps_all (sym (one_more os i d within))
