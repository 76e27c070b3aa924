-- The ids that rows give, one row after another.
use Rattle.std.proofs.Common.{◌≡◌, ℕ, ◌+◌, ◌<◌, Bool, true, false, cond, List, [], ◌∷◌, length, take, get_or, refl, sym, ap, ◌∙◌, ◌||◌}
use Rattle.std.specs.Prelude.{Some}
use Rattle.std.specs.List.{list_any}
use Rattle.std.specs.BTreeMap.{is_at}
use Rattle.std.specs.Cmp.Lexicographic.{nat_list_eq_equiv, texts_ties}
use Rattle.std.proofs.lemmas.List.{take_more}
use Rattle.std.proofs.lemmas.List.Folds.{list_any-append}
use Rattle.finite_maps.specs.Equal.{option_eq, text_eq}
use Rattle.model_state.specs.Keys.{IdBytes, id_cmp}
use Rattle.model_documents.specs.declared.doc.DocRow.{DocRow}
use Rattle.model_documents.specs.Laws.{gives_id}

or_also : (b a : Bool) → cond b true a ≡ (a || b)
or_also true true = refl
or_also true false = refl
or_also false true = refl
or_also false false = refl

or_false : (a : Bool) → a ≡ (a || false)
or_false true = refl
or_false false = refl

-- the id is added to those before
pub one_given : (r : DocRow) (id x e : IdBytes) (had : Bool) → r.id ≡ Some id → x ≡ id → cond (is_at (id_cmp x) e) true had ≡ (had || gives_id e r)
one_given r id x e had is same =
    ap (λ k. cond (is_at (id_cmp k) e) true had) same
    ∙ ap (λ b. cond b true had) (sym (texts_ties id e) ∙ nat_list_eq_equiv.symm id e)
    ∙ or_also (text_eq e id) had
    ∙ ap (λ o. had || option_eq text_eq (Some e) o) (sym is)

-- what the rows up to the next give
pub given_more : (rows : List DocRow) (n : ℕ) (r : DocRow) (e : IdBytes) → n < length rows → r ≡ get_or rows n r
    → list_any (gives_id e) (take (n + 1) rows) ≡ (list_any (gives_id e) (take n rows) || gives_id e r)
given_more rows n r e less is =
    ap (list_any (gives_id e)) (take_more rows n r less)
    ∙ list_any-append (gives_id e) (take n rows) (get_or rows n r ∷ [])
    ∙ ap (λ x. list_any (gives_id e) (take n rows) || (gives_id e x || false)) (sym is)
    ∙ ap (λ b. list_any (gives_id e) (take n rows) || b) (sym (or_false (gives_id e r)))
