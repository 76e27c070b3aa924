-- What a compact list holds. No public clause cites this module.
use Rattle.std.specs.Prelude.{List, [], ◌∷◌}
use Rattle.texts.specs.declared.compact_list.Items.{Items}
use Rattle.texts.specs.declared.compact_list.Items.TheVariants.{One, Many}

module _ {T : Type 0} where
  -- the items, one or several
  abbrev pub items_of : Items T → List T
  items_of (One item) = item ∷ []
  items_of (Many items) = items
