-- Good models stay good where one more joins them.
use Rattle.std.proofs.Common.{◌≡◌, List, [], ◌∷◌, ◌++◌}
use Rattle.std.proofs.lemmas.List.Elements.{All-push, All-same}
use Rattle.ecore_meta.specs.Meta.{Meta}
use Rattle.model_state.specs.State.{State}
use Rattle.model_state.specs.Good.{Good}
use Rattle.model_times.specs.Models.{AreGood}

pub one_more_good : {M : Type 0} (meta : Meta) (state : M → State) (xs ys : List M) (x : M) → ys ≡ xs ++ x ∷ [] → AreGood meta state xs
    → Good meta (state x) → AreGood meta state ys
one_more_good meta state xs ys x is good one = All-same (λ m. Good meta (state m)) ys (xs ++ x ∷ []) is (All-push (λ m. Good meta (state m)) xs x good one)
