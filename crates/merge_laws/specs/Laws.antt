-- What an update, a merge and a revert promise.
use Rattle.std.specs.Prelude.{◌≡◌, List, ◌++◌, Some, length}
use Rattle.ecore_meta.specs.Meta.{Meta}
use Rattle.model_state.specs.State.{State}
use Rattle.model_state.specs.Good.{Good, Sound}
use Rattle.model_state.specs.declared.operation.Operation.{Operation}
use Rattle.model_state.specs.Packages.{fold_package, rev_package}
use Rattle.footprint.specs.Interference.{NoPair}
use Rattle.merge_laws.specs.Tidy.{tidy}
use Rattle.footprint.specs.Buckets.{buckets}
use Rattle.merge_laws.specs.declared.side.Side.{Side}
use Rattle.merge_laws.specs.Merge.{merged, update_list, merge_list}

-- the update's list leads from the state after theirs to the merged model
abbrev pub UpdateGivesMerged : Type 0
UpdateGivesMerged = (meta : Meta) → Sound meta → (base head work : State) → Good meta base → (theirs mine : List Operation)
    → fold_package meta base theirs ≡ Some head → fold_package meta base mine ≡ Some work
    → (sides : List Side) → length sides ≡ length (buckets meta theirs mine)
    → (n : State) × (fold_package meta head (update_list theirs mine (buckets meta theirs mine) sides) ≡ Some n)
    × (merged meta base theirs mine (buckets meta theirs mine) sides ≡ Some n)

-- the merge's list leads from the state after mine to the merged model
abbrev pub MergeGivesMerged : Type 0
MergeGivesMerged = (meta : Meta) → Sound meta → (base head work : State) → Good meta base → (theirs mine : List Operation)
    → fold_package meta base theirs ≡ Some head → fold_package meta base mine ≡ Some work
    → (sides : List Side) → length sides ≡ length (buckets meta theirs mine)
    → (n : State) × (fold_package meta work (merge_list theirs mine (buckets meta theirs mine) sides) ≡ Some n)
    × (merged meta base theirs mine (buckets meta theirs mine) sides ≡ Some n)

-- where nothing later interferes with a package, its reversal at the end leads to what the others lead to without it
abbrev pub RevertTakesOut : Type 0
RevertTakesOut = (meta : Meta) → Sound meta → (start m : State) → Good meta start → (before taken later : List Operation) → NoPair meta taken later
    → fold_package meta start (before ++ (taken ++ later)) ≡ Some m
    → (n : State) × (fold_package meta m (rev_package taken) ≡ Some n) × (fold_package meta start (before ++ later) ≡ Some n)

-- From the version that both have, over what is merged already. The tidied list of its reversal, what the base has since and the
-- local list leads from the merged version to the working model.
abbrev pub MineLeads : Type 0
MineLeads = (meta : Meta) → Sound meta → (common met base work : State) → Good meta common → (taken since local : List Operation)
    → fold_package meta common taken ≡ Some met → fold_package meta common since ≡ Some base → fold_package meta base local ≡ Some work
    → fold_package meta met (tidy meta (rev_package taken ++ (since ++ local))) ≡ Some work

-- The met version's packages to the head are merged into the working model. Then the merge's list leads from the working model to
-- the merged one.
abbrev pub MergeLeadsToMerged : Type 0
MergeLeadsToMerged = (meta : Meta) → Sound meta → (common met base head work : State) → Good meta common → (taken since local theirs : List Operation)
    → fold_package meta common taken ≡ Some met → fold_package meta common since ≡ Some base → fold_package meta base local ≡ Some work
    → fold_package meta met theirs ≡ Some head
    → let mine = tidy meta (rev_package taken ++ (since ++ local)) in (sides : List Side) → length sides ≡ length (buckets meta theirs mine)
    → (n : State) × (fold_package meta work (merge_list theirs mine (buckets meta theirs mine) sides) ≡ Some n)
    × (merged meta met theirs mine (buckets meta theirs mine) sides ≡ Some n)
