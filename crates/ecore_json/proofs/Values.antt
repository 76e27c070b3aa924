-- A JSON value seen as its data, level by level, and the next of a list of values.
use Rattle.std.proofs.Common.{◌≡◌, ℕ, Bool, false, Some, None, List, [], ◌∷◌, refl, sym, ap, subst, ◌∙◌, rules, string_bytes, drop, get_or, length}
use Rattle.std.proofs.Common.{add-one, drop-cons, ◌+◌, ◌<◌, ◌≤◌, suc, zero, arith}
use Rattle.serde_json.specs.Data.{Data, null, boolean, number, string, array, object}
use Rattle.serde_json.specs.declared.value.Value.{Value}
use Rattle.serde_json.specs.declared.value.Value as value
use Rattle.serde_json.proofs.Views.{view-Array, view-Object}
use Rattle.serde_json.specs.View.{view, items_view, items_of, members_view, number_view}
use Rattle.ecore_json.specs.Walk.{is_empty_list}
use Rattle.ecore_json.specs.Rows.{list_of}
use Rattle.ecore_json.specs.Metamodel.{sole}

pub view_null : (v : Value) → v ≡ value.Null → view v ≡ null
view_null v is = ap view is ∙ search (rules, value.the_lemmas)

pub view_boolean : (v : Value) (b : Bool) → v ≡ value.Bool b → view v ≡ boolean b
view_boolean v b is = ap view is ∙ search (rules, value.the_lemmas)

pub view_number : (v : Value) (n : _) → v ≡ value.Number n → view v ≡ number (number_view n)
view_number v n is = ap view is ∙ search (rules, value.the_lemmas)

pub view_string : (v : Value) (s : _) → v ≡ value.String s → view v ≡ string (string_bytes s)
view_string v s is = ap view is ∙ search (rules, value.the_lemmas)

pub view_array : (v : Value) (vs : _) → v ≡ value.Array vs → view v ≡ array (items_view vs.items)
view_array v vs is = ap view is ∙ view-Array vs

pub view_object : (v : Value) (m : _) → v ≡ value.Object m → view v ≡ object (members_view m.entries)
view_object v m is = ap view is ∙ view-Object m

-- ---- the next of a list
pub next_item : (ys xs : List Value) (i : ℕ) (x : Value) → ys ≡ xs → i < length ys → x ≡ get_or ys i x → drop i xs ≡ x ∷ drop (i + 1) xs
next_item ys xs i x same less is = subst (λ zs. drop i zs ≡ x ∷ drop (i + 1) zs) same (split ys i x less is)
  where
    split : (xs : List Value) (i : ℕ) (x : Value) → i < length xs → x ≡ get_or xs i x → drop i xs ≡ x ∷ drop (i + 1) xs
    split xs i x less is = rw (add-one, drop-cons xs i x less) (ap (λ y. y ∷ drop (suc i) xs) (sym is))

pub none_left : (ys xs : List Value) (i : ℕ) → ys ≡ xs → length ys ≤ i → drop i xs ≡ []
none_left ys xs i same less = subst (λ zs. drop i zs ≡ []) same (all_gone ys i less)
  where
    all_gone : (xs : List Value) (i : ℕ) → length xs ≤ i → drop i xs ≡ []
    all_gone [] zero h = refl
    all_gone [] (suc i) h = refl
    all_gone (x ∷ xs) zero h = absurd (omega arith)
    all_gone (x ∷ xs) (suc i) h = all_gone xs i (omega arith)

pub filled : (ys xs : List Value) → ys ≡ xs → 1 ≤ length ys → false ≡ is_empty_list (Some (items_view xs))
filled ys xs same less = subst (λ zs. false ≡ is_empty_list (Some (items_view zs))) same (not_empty ys less)
  where
    not_empty : (xs : List Value) → 1 ≤ length xs → false ≡ is_empty_list (Some (items_view xs))
    not_empty [] h = absurd (omega arith)
    not_empty (x ∷ xs) h = refl

pub list_of_items : (ds : List Data) → list_of (items_of ds) ≡ ds
list_of_items [] = refl
list_of_items (d ∷ ds) = ap (λ l. d ∷ l) (list_of_items ds)

pub many_values : (ys xs : List Value) → ys ≡ xs → 2 ≤ length ys → None ≡ sole (items_view xs)
many_values ys xs same less = subst (λ zs. None ≡ sole (items_view zs)) same (not_sole ys less)
  where
    not_sole : (xs : List Value) → 2 ≤ length xs → None ≡ sole (items_view xs)
    not_sole [] h = absurd (omega arith)
    not_sole (x ∷ []) h = absurd (omega arith)
    not_sole (x ∷ y ∷ xs) h = refl
