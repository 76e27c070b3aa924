-- Along a chain of containers.
use Rattle.std.proofs.Common.{◌≡◌, List, [], ◌∷◌, ◌++◌, sym, ap, subst, ◌∙◌, append_assoc}
use Rattle.std.specs.Prelude.{Some}
use Rattle.std.specs.FinMap.{FinMap, get}
use Rattle.model_state.specs.declared.step.Place.{Place}
use Rattle.model_state.specs.declared.step.Place.TheVariants.{Root, Inside}
use Rattle.model_state.specs.Keys.{IdBytes, id_cmp}
use Rattle.model_state.specs.Chains.{IsChain, parent_of}

-- one container further
pub go_on : (place : FinMap id_cmp Place) (first q r : Place) (a : IdBytes) (above xs : List IdBytes) → Some a ≡ parent_of q → Some r ≡ get place a
    → IsChain place (Some q) xs → IsChain place (Some first) (above ++ xs)
    → (x : List IdBytes) × IsChain place (Some r) x × IsChain place (Some first) ((above ++ a ∷ []) ++ x)
go_on place first Root r a above xs is there chain whole = cc
go_on place first (Inside b f) r a above [] is there chain whole = absurd chain
go_on place first (Inside b f) r a above (y ∷ ys) is there chain whole =
    let here : a ≡ b = cc in
    let same : y ≡ a = chain.0 ∙ sym here in (
      ys,
      subst (λ o. IsChain place o ys) (ap (get place) same ∙ sym there) chain.1,
      subst (λ l. IsChain place (Some first) l) (ap (λ z. above ++ z ∷ ys) same ∙ sym (append_assoc above (a ∷ []) ys)) whole,
    )
