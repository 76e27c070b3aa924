-- Counts of the keys of an ordered map.
use Rattle.std.proofs.Common.{◌≡◌, ◌+◌, Bool, cond, List, [], ◌∷◌, refl, sym, ap, ◌∙◌, map, count_by}
use Rattle.std.specs.declared.cmp.Ordering.{Ordering}
use Rattle.std.specs.BTreeMap as tree
use Rattle.std.specs.BTreeMap.{BTreeMap, IsOrdered}
use Rattle.std.proofs.lemmas.List.Sums.{sum_by-cons}
use Rattle.finite_maps.specs.Maps.{count, tally}
use Rattle.finite_maps.specs.Tables.{table}
use Rattle.finite_maps.proofs.MapLaws.{IsKeyOrder}
use Rattle.finite_maps.proofs.TableLaws.{entries-table}

tally_keys : {K X : Type 0} (p : K → Bool) (es : List (K × X)) → tally (λ (e : K × X). p e.0) es ≡ count_by p (map {B = K} (λ e. e.0) es)
tally_keys p [] = refl
tally_keys p (e ∷ es) = ap (λ n. cond (p e.0) 1 0 + n) (tally_keys p es) ∙ sym (sum_by-cons (λ x. cond (p x) 1 0) e.0 (map (λ e. e.0) es))

pub count_keys : {K X : Type 0} {R : K → K → Ordering} (o : IsKeyOrder R) (p : K → Bool) (m : BTreeMap K X) → IsOrdered R m
    → count (λ (e : K × X). p e.0) (table R m) ≡ count_by p (tree.keys m)
count_keys o p m is = ap (tally (λ e. p e.0)) (entries-table o m is) ∙ tally_keys p m.entries
