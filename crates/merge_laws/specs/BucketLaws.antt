-- What is promised of buckets.
use Rattle.std.specs.Prelude.{◌≡◌, ℕ, ◌≤◌, List, Some, slice_get}
use Rattle.ecore_meta.specs.Meta.{Meta}
use Rattle.model_state.specs.declared.operation.Operation.{Operation}
use Rattle.footprint.specs.Buckets.{labels, buckets}
use Rattle.footprint.specs.declared.bucket.Bucket.{Bucket}
use Rattle.merge_laws.specs.Grouping.{GroupInterfering, AreSeparate}
use Rattle.merge_laws.specs.Order.{InOrder}
use Rattle.merge_laws.specs.Classes.{Linked, AreClasses}

-- operations that interfere are in the same buckets
abbrev pub BucketsGroupInterfering : Type 0
BucketsGroupInterfering = (meta : Meta) (theirs mine : List Operation) → GroupInterfering meta theirs mine (buckets meta theirs mine)

-- an operation's label is the least position that is linked to it
abbrev pub LabelsAreLeast : Type 0
LabelsAreLeast = (meta : Meta) (os : List Operation) (i : ℕ) (a : Operation) → slice_get os i ≡ Some a
    → (l : ℕ) × (slice_get (labels meta os) i ≡ Some l) × Linked meta os i l × ((j : ℕ) → Linked meta os i j → l ≤ j)

-- the buckets are the components with operations of both sides
abbrev pub BucketsAreClasses : Type 0
BucketsAreClasses = (meta : Meta) (theirs mine : List Operation) → AreClasses meta theirs mine (buckets meta theirs mine)

-- the buckets stand in the order of their first operations, and the positions in each rise
abbrev pub BucketsInOrder : Type 0
BucketsInOrder = (meta : Meta) (theirs mine : List Operation) → InOrder (buckets meta theirs mine)

-- no operation is in two buckets
abbrev pub BucketsAreSeparate : Type 0
BucketsAreSeparate = (meta : Meta) (theirs mine : List Operation) → AreSeparate (buckets meta theirs mine)

-- a list of buckets that are the components with operations of both sides, in order, is the buckets
abbrev pub BucketsLeaveNoChoice : Type 0
BucketsLeaveNoChoice = (meta : Meta) (theirs mine : List Operation) (bs : List Bucket) → AreClasses meta theirs mine bs → InOrder bs
    → bs ≡ buckets meta theirs mine
