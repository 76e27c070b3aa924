-- The rows of a package can be numbered, where its text is short.
use Rattle.std.proofs.Common.{◌≡◌, ℕ, ◌+◌, ◌<◌, ◌≤◌, List, [], ◌∷◌, length, map, Option, Some, None, Ordering, Less, Equal, Greater, refl, ap, arith}
use Rattle.std.proofs.Common.{cond, Bool, true, false, codes}
use Rattle.std.proofs.lemmas.List.{length-map}
use Rattle.std.specs.Ordering.{match_ordering, nat_cmp}
use Rattle.std.specs.Cmp.Lexicographic.{slice_cmp}
use Rattle.serde_json.specs.Data.{Data, null, boolean, number, string, array, object, Items, no_items, item, Members, no_members, member}
use Rattle.serde_json.specs.Find.{get, get_member, as_array}
use Rattle.serde_json.specs.Read.{read}
use Rattle.ecore_drafts.specs.Counts.{Numbered, AreFew, Few, too_many}
use Rattle.ecore_drafts.specs.Document.{feature_total, features_in}
use Rattle.ecore_drafts.specs.declared.rows.ClassifierRow.{ClassifierRow}
use Rattle.ecore_drafts.specs.declared.rows.ClassifierRow.TheVariants.{Class, Enum, Plain}
use Rattle.ecore_json.specs.Classes.{ecore_class, ecore_enum, ecore_package}
use Rattle.ecore_meta.specs.Names.{Name}
use Rattle.ecore_json.specs.Walk.{is_a}
use Rattle.ecore_json.specs.Rows.{text_at, list_of, elements, class_row, enum_row, feature_row, literal_row, classifier_row, own_prefix, rows_of}
use Rattle.ecore_json.specs.Metamodel.{sole, root_of, if_package, package_of}
use Rattle.ecore_json.proofs.Sizes.{weight, items_weight, members_weight, read_weight}

weighs : (d : Data) → 1 ≤ weight d
weighs null = omega arith
weighs (boolean b) = omega arith
weighs (number n) = omega arith
weighs (string s) = omega arith
weighs (array ds) = omega arith
weighs (object ms) = omega arith

-- ---- lists of values
abbrev total : List Data → ℕ
total [] = 0
total (d ∷ ds) = weight d + total ds

length_total : (ds : List Data) → length ds ≤ total ds
length_total [] = omega arith
length_total (d ∷ ds) = let a = weighs d in let b = length_total ds in omega arith

total_list : (ds : Items) → total (list_of ds) ≡ items_weight ds
total_list no_items = refl
total_list (item d ds) = ap (λ n. weight d + n) (total_list ds)

abbrev heavy : Option Data → ℕ
heavy None = 0
heavy (Some d) = weight d

total_elements : (o : Option Data) → total (elements o) ≤ heavy o
total_elements None = omega arith
total_elements (Some null) = omega arith
total_elements (Some (boolean b)) = omega arith
total_elements (Some (number n)) = omega arith
total_elements (Some (string s)) = omega arith
total_elements (Some (array ds)) = let a = total_list ds in omega arith
total_elements (Some (object ms)) = omega arith

chosen : (o : Ordering) (a b c : Option Data) (n : ℕ) → heavy a ≤ n → heavy b ≤ n → heavy c ≤ n → heavy (match_ordering o a b c) ≤ n
chosen Less a b c n p q r = p
chosen Equal a b c n p q r = q
chosen Greater a b c n p q r = r

member_weight : (k : Name) (ms : Members) → heavy (get_member k ms) ≤ members_weight ms
member_weight k no_members = omega arith
member_weight k (member l e ms) =
    let a = member_weight k ms in
    chosen (slice_cmp nat_cmp k l) (get_member k ms) (Some e) (get_member k ms) (weight e + members_weight ms) (omega arith) (omega arith) (omega arith)

get_weight : (k : Name) (d : Data) → heavy (get k d) < weight d
get_weight k null = omega arith
get_weight k (boolean b) = omega arith
get_weight k (number n) = omega arith
get_weight k (string s) = omega arith
get_weight k (array ds) = omega arith
get_weight k (object ms) = let a = member_weight k ms in omega arith

within : (k : Name) (d : Data) → total (elements (get k d)) < weight d
within k d = let a = total_elements (get k d) in let b = get_weight k d in omega arith

rows_within : {A : Type 0} (f : Data → A) (k : Name) (d : Data) → length (map f (elements (get k d))) < weight d
rows_within f k d = let a = within k d in let b = length_total (elements (get k d)) in omega (arith, length-map (elements (get k d)) f)

-- ---- the features and literals of a classifier
abbrev row_by : Name → Data → Bool → Bool → ClassifierRow
row_by own d a b = cond a (Class (class_row own d)) (cond b (Enum (enum_row d)) (Plain (text_at (codes "name") d)))

features_by : (own : Name) (d : Data) (a b : Bool) → length (features_in (row_by own d a b)) ≤ weight d
features_by own d true b = let h = rows_within (feature_row own) (codes "eStructuralFeatures") d in omega arith
features_by own d false true = omega arith
features_by own d false false = omega arith

few_by : (own : Name) (d : Data) (a b : Bool) → weight d ≤ too_many → Few (row_by own d a b)
few_by own d true b h = let r = rows_within (feature_row own) (codes "eStructuralFeatures") d in omega arith
few_by own d false true h = let r = rows_within literal_row (codes "eLiterals") d in omega arith
few_by own d false false h = tt

features_within : (own : Name) (ds : List Data) → feature_total (map (classifier_row own) ds) ≤ total ds
features_within own [] = omega arith
features_within own (d ∷ ds) =
    let a = features_by own d (is_a ecore_class d) (is_a ecore_enum d) in
    let b = features_within own ds in omega arith

all_few : (own : Name) (ds : List Data) → total ds ≤ too_many → AreFew (map (classifier_row own) ds)
all_few own [] h = tt
all_few own (d ∷ ds) h = (few_by own d (is_a ecore_class d) (is_a ecore_enum d) (omega arith), all_few own ds (omega arith))

numbered : (d : Data) → weight d ≤ too_many → Numbered (rows_of d).classifiers
unfolding rows_of
numbered d h =
    let t = within (codes "eClassifiers") d in
    record {
      classifiers = let a = rows_within (classifier_row (own_prefix d)) (codes "eClassifiers") d in omega arith;
      features = let a = features_within (own_prefix d) (elements (get (codes "eClassifiers") d)) in omega arith;
      parts = all_few (own_prefix d) (elements (get (codes "eClassifiers") d)) (omega arith);
    }

-- ---- the package of a document
sole_weight : (ds : Items) → heavy (sole ds) ≤ items_weight ds
sole_weight no_items = omega arith
sole_weight (item d no_items) = omega arith
sole_weight (item d (item e ds)) = omega arith

root_weight : (d : Data) → heavy (root_of d (as_array d)) ≤ weight d
root_weight null = omega arith
root_weight (boolean b) = omega arith
root_weight (number n) = omega arith
root_weight (string s) = omega arith
root_weight (array ds) = let a = sole_weight ds in omega arith
root_weight (object ms) = omega arith

kept : (b : Bool) (d : Data) → heavy (cond b (Some d) None) ≤ weight d
kept true d = omega arith
kept false d = omega arith

package_kept : (o : Option Data) → heavy (if_package o) ≤ heavy o
package_kept None = omega arith
package_kept (Some d) = kept (is_a ecore_package d) d

pub package_numbered : (text : Name) (d p : Data) → length text < too_many → read text ≡ Some d → Some p ≡ package_of d → Numbered (rows_of p).classifiers
package_numbered text d p short is package_is =
    let a = read_weight text d is in
    let b = root_weight d in
    let c = package_kept (root_of d (as_array d)) in
    let e : weight p ≡ heavy (package_of d) = ap heavy package_is in
    numbered p (omega arith)
