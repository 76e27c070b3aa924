-- An element that is looked for by its place, and lists of names with one more.
use Rattle.std.proofs.Common.{◌≡◌, ◌∙◌, ℕ, ◌+◌, ◌<◌, List, [], ◌∷◌, ◌++◌, ap, get_or, length, map, refl, sym, take}
use Rattle.std.proofs.lemmas.List.{map-append, take_more}
use Rattle.std.specs.Prelude.{Option, None, Some, option_copied, slice_get}
use Rattle.std.specs.Slice.{IsItemAt}
use Rattle.std.proofs.lemmas.Option.{slice_get_past, slice_get_read}
use denote.Ref.{Bor}

pub item_is : {X : Type 0} (xs : List X) (i : ℕ) (o : Option (Bor X)) → IsItemAt xs i o → option_copied o ≡ slice_get xs i
item_is xs i None h = sym (slice_get_past xs i h.3)
item_is xs i (Some x) h = sym (slice_get_read xs (length xs) i x.now refl h.3.0 h.1)

-- what the first elements are called, after one more
pub named_more : {X Y A : Type 0} (f : X → A) (g : Y → A) (xs : List X) (x : X) (ys : List Y) (i : ℕ) (d : Y) → i < length ys
    → map f xs ≡ map g (take i ys) → f x ≡ g d → d ≡ get_or ys i d → map f (xs ++ x ∷ []) ≡ map g (take (i + 1) ys)
named_more f g xs x ys i d h is here at =
    map-append f xs (x ∷ []) ∙ ap (λ names. names ++ f x ∷ []) is ∙ ap (λ name. map g (take i ys) ++ name ∷ []) (here ∙ ap g at)
    ∙ sym (map-append g (take i ys) (get_or ys i d ∷ [])) ∙ ap (map g) (sym (take_more ys i d h))
