-- A metamodel with the numbers of the one that it extends.
use Rattle.std.specs.Prelude.{length}
use Rattle.std.specs.List.{filter_map, range_with_len}
use Rattle.ecore_meta.specs.Meta.{Meta}
use Rattle.metamodel_growth.specs.Extension.{class_in, enum_in, feature_in}
use Rattle.metamodel_growth.specs.Order.{begun_by}
use Rattle.metamodel_growth.specs.Renumbered.{renumbered}
use Rattle.metamodel_growth.specs.declared.order.Orders.{Orders}

-- what has its name in the first gets its number there, and the others the next numbers, in their order in the second
abbrev pub orders : Meta → Meta → Orders
orders o n = record {
  classes = begun_by (filter_map (class_in o n) (range_with_len 0 (length o.classes))) (length n.classes);
  features = begun_by (filter_map (feature_in o n) (range_with_len 0 (length o.features))) (length n.features);
  enums = begun_by (filter_map (enum_in o n) (range_with_len 0 (length o.enums))) (length n.enums);
}

-- the second metamodel with the numbers of the first
unfoldable pub evolved : Meta → Meta → Meta
evolved o n = renumbered n (orders o n)
