-- The next of a list, and the next row whose element is created.
use Rattle.std.proofs.Common.{◌≡◌, ◌∙◌, ℕ, zero, suc, ◌+◌, ◌<◌, ◌≤◌, Bool, true, List, [], ◌∷◌, ◌++◌, length, drop, take, get_or, add-one, drop-cons}
use Rattle.std.proofs.Common.{refl, sym, ap, arith}
use Rattle.std.specs.Prelude.{Err, if◌then◌else◌}
use Rattle.model_state.specs.declared.entry.Entry.{Entry}
use Rattle.model_state.specs.declared.step.Step.{Step}
use Rattle.model_state.specs.Keys.{IdBytes}
use Rattle.edit_steps.specs.declared.fault.EditFault.TheVariants.{Bound}
use Rattle.model_documents.specs.declared.doc.DocRow.{DocRow}
use Rattle.import_laws.specs.Names.{name_at}
use Rattle.model_documents.specs.Fits.{standing}
use Rattle.import_laws.specs.News.{element_made, has_room, news_from, place_of, roots_after}

-- what is left of a list is its item at the place, and what is left after it
pub next : {X : Type 0} (xs : List X) (i : ℕ) (x : X) → i < length xs → x ≡ get_or xs i x → drop i xs ≡ x ∷ drop (i + 1) xs
next xs i x less is = rw (add-one, drop-cons xs i x less) (ap (λ y. y ∷ drop (suc i) xs) (sym is))

pub none_left : {X : Type 0} (xs : List X) (i : ℕ) → length xs ≤ i → drop i xs ≡ []
none_left [] zero h = refl
none_left [] (suc i) h = refl
none_left (x ∷ xs) zero h = absurd (omega arith)
none_left (x ∷ xs) (suc i) h = none_left xs i (omega arith)

-- the element of the next row is created, where there is room
pub news_on : (names : List IdBytes) (rows : List DocRow) (steps : List Step) (n : ℕ) (xs : List Entry) (r : DocRow) (rest : List DocRow)
    (more : List Step) (k : ℕ) (ys : List Entry)
    → has_room xs (place_of names r.parent) ≡ true → ys ≡ roots_after xs (place_of names r.parent) (name_at names n)
    → more ≡ steps ++ element_made xs (place_of names r.parent) (name_at names n) r.class (standing r.parent (take n rows)) → k ≡ suc n
    → news_from names rows steps n xs (r ∷ rest) ≡ news_from names rows more k ys rest
news_on names rows steps n xs r rest more k ys room roots made next =
    ap (λ (b : Bool). if b then news_from names rows
    (steps ++ element_made xs (place_of names r.parent) (name_at names n) r.class (standing r.parent (take n rows))) (suc n)
    (roots_after xs (place_of names r.parent) (name_at names n)) rest else Err Bound) room
    ∙ ap (λ ss. news_from names rows ss (suc n) (roots_after xs (place_of names r.parent) (name_at names n)) rest) (sym made)
    ∙ ap (λ j. news_from names rows more j (roots_after xs (place_of names r.parent) (name_at names n)) rest) (sym next)
    ∙ ap (λ zs. news_from names rows more k zs rest) (sym roots)
