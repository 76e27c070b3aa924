-- What the sets of a table of classes say.
use Rattle.std.proofs.Common.{◌≡◌, ℕ, zero, suc, false, List, [], ◌∷◌, ap, ◌∙◌, map}
use Rattle.std.specs.Prelude.{Option, slice_get}
use Rattle.std.specs.BTreeSet.{BTreeSet, contains}
use Rattle.std.specs.Option.{option_map_or}
use Rattle.std.specs.Ordering.{nat_cmp}
use Rattle.ecore_meta.specs.Meta.{is_in}
use Rattle.ecore_meta.proofs.RisingLaws.{keys_any}

-- what a set of the table says
pub in_table : (sets : List (BTreeSet ℕ)) (c d : ℕ) (o : Option (BTreeSet ℕ)) → o ≡ slice_get sets c
    → option_map_or (λ s. contains nat_cmp s d) o false ≡ is_in (map (λ s. s.keys) sets) c d
in_table [] c d o is = ap (λ x. option_map_or (λ s. contains nat_cmp s d) x false) is
in_table (s ∷ sets) zero d o is = ap (λ x. option_map_or (λ s. contains nat_cmp s d) x false) is ∙ keys_any d s.keys
in_table (s ∷ sets) (suc c) d o is = in_table sets c d o is
