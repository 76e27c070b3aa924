-- An index of a package's operations.
use Rattle.std.specs.Prelude.{◌≡◌, List}
use Rattle.ecore_meta.specs.Meta.{Meta}
use Rattle.model_state.specs.declared.operation.Operation.{Operation}
use Rattle.footprint.specs.Prints.{shown, printed}
use Rattle.cell_index.specs.Near.{Indexes}
use Rattle.conflict_buckets.specs.declared.asking.PackageIndex.{PackageIndex}

-- the index has the cells of each of the operations, and lists them
pub record IsIndexOf (meta : Meta) (ops : List Operation) (index : PackageIndex) : Type 0 where
  pub prints : shown index.prints.items ≡ printed meta ops
  pub lists : Indexes index.index index.prints.items
