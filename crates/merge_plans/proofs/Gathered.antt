-- Lists that grow by one item a turn: copies, what a function makes, and the operations of versions.
use Rattle.std.proofs.Common.{◌≡◌, ℕ, suc, ◌+◌, ◌<◌, List, [], ◌∷◌, ◌++◌, map, length, take, sym, ◌∙◌, ap, arith, append_assoc, append-nil}
use Rattle.std.proofs.Math.ListN.{get_or}
use Rattle.std.proofs.Math.Seq.{take-suc}
use Rattle.std.proofs.lemmas.List.{map-append}
use Rattle.model_state.specs.declared.operation.Operation.{Operation}
use Rattle.history_tree.specs.declared.version.Version.{Version}
use Rattle.history_tree.specs.States.{package_of_version, operations_of}
use Rattle.history_tree.proofs.Steady.{operations_append}

-- one more of what was gone over
pub one_more : {A : Type 0} (xs : List A) (i : ℕ) (d : A) → i < length xs → take (i + 1) xs ≡ take i xs ++ get_or xs i d ∷ []
one_more xs i d within =
    let next : i + 1 ≡ suc i = omega arith in
    ap (λ n. take n xs) next ∙ take-suc xs i d within

pub copied_more : {A : Type 0} (start out new xs : List A) (i : ℕ) (d x : A) → i < length xs → out ≡ start ++ take i xs → new ≡ out ++ x ∷ []
    → x ≡ get_or xs i d → new ≡ start ++ take (i + 1) xs
copied_more start out new xs i d x within so_far pushed is =
    pushed ∙ ap (λ l. l ++ x ∷ []) so_far ∙ append_assoc start (take i xs) (x ∷ [])
    ∙ ap (λ l. start ++ l) (ap (λ y. take i xs ++ y ∷ []) is ∙ sym (one_more xs i d within))

pub mapped_more : {A B : Type 0} (f : A → B) (xs : List A) (out new : List B) (i : ℕ) (d : A) (y : B) → i < length xs → out ≡ map f (take i xs)
    → new ≡ out ++ y ∷ [] → y ≡ f (get_or xs i d) → new ≡ map f (take (i + 1) xs)
mapped_more f xs out new i d y within so_far pushed is =
    pushed ∙ ap (λ l. l ++ y ∷ []) so_far ∙ ap (λ z. map f (take i xs) ++ z ∷ []) is ∙ sym (map-append f (take i xs) (get_or xs i d ∷ []))
    ∙ ap (map f) (sym (one_more xs i d within))

pub operations_more : (vs : List Version) (us : List ℕ) (out new taken : List Operation) (i d : ℕ) → i < length us
    → out ≡ operations_of vs (take i us) → new ≡ out ++ taken → package_of_version vs (get_or us i d) ≡ taken → new ≡ operations_of vs (take (i + 1) us)
operations_more vs us out new taken i d within so_far pushed is =
    pushed ∙ ap (λ l. l ++ taken) so_far ∙ ap (λ l. operations_of vs (take i us) ++ l) (sym is ∙ sym (append-nil (package_of_version vs (get_or us i d))))
    ∙ sym (operations_append vs (take i us) (get_or us i d ∷ [])) ∙ ap (operations_of vs) (sym (one_more us i d within))
