-- The end of a list: what an entry that is added there finds, and when it is refused.
use Rattle.std.proofs.lemmas.Bool.Decides.{nat_tests}
use Rattle.std.proofs.Common.{◌≡◌, ℕ, Bool, false, true, cond, List, [], ◌∷◌, ◌++◌, refl, sym, ap, ◌∙◌, arith, length, inl, inr}
use Rattle.std.specs.Prelude.{None, Some, Result, Ok, Err, IfErr, is_some, nat_le}
use Rattle.model_state.specs.declared.entry.Entry.{Entry}
use Rattle.model_state.specs.declared.step.Step.{Step}
use Rattle.model_state.specs.Keys.{IdBytes}
use Rattle.model_state.specs.Listing.{targets}
use Rattle.ecore_meta.specs.Meta.{Meta}
use Rattle.edit_steps.specs.Refusals.{first_refusal}
use Rattle.edit_steps.specs.Spot.{end_spot, rank_for, ranks_of, spot_by}
use Rattle.edit_steps.specs.declared.fault.EditFault.TheVariants as faults
use Rattle.edit_steps.specs.declared.link_fault.LinkFault.{LinkFault}
use Rattle.edit_steps.specs.declared.link_fault.LinkFault.TheVariants.{AlreadyThere, Bound, Memory, NoEntry, WrongType}
use Rattle.edit_steps.specs.LinkRefusals.{IsFull, IsLinkRefusal, edit_fault_of_link, enter_refusal}
use Rattle.edit_steps.specs.Rows.{Rows, reranks}
use Rattle.edit_steps.specs.References.{holds_one, others_there}
use Rattle.edit_steps.proofs.SpotLaws.{no_reranks, nothing_added}
use Rattle.model_state.specs.Ranks.{rank_gap}

-- where there is a rank after the last entry, the others keep theirs
pub end_kept : (steps : List Step) (a : IdBytes) (f : ℕ) (xs : List Entry) (r : ℕ) → Some r ≡ rank_for (ranks_of xs) (length xs)
    → steps ≡ steps ++ reranks a f xs (end_spot xs).ranks
end_kept steps a f xs r is =
    nothing_added steps ∙ ap (λ ss. steps ++ ss) (sym (no_reranks a f xs)) ∙ ap (λ o. steps ++ reranks a f xs (spot_by o xs (length xs)).ranks) is

pub end_rank : (xs : List Entry) (r : ℕ) → Some r ≡ rank_for (ranks_of xs) (length xs) → (end_spot xs).rank ≡ Some r
end_rank xs r is = ap (λ o. (spot_by o xs (length xs)).rank) (sym is)

-- ---- the opposite's list
pub alone : (xs : List Entry) → xs ≡ [] → (end_spot xs).rank ≡ Some rank_gap
alone xs none = ap (λ ys. (end_spot ys).rank) none

pub none_reranked : (b : IdBytes) (g : ℕ) (xs : List Entry) → xs ≡ [] → reranks b g xs (end_spot xs).ranks ≡ []
none_reranked b g xs none = ap (λ ys. reranks b g ys (end_spot ys).ranks) none

-- the entry of an opposite that holds one is removed
pub one_goes : (meta : Meta) (row : Rows) (g : ℕ) (b : IdBytes) → holds_one meta g ≡ true → others_there meta row (Some g) b ≡ []
one_goes meta row g b one = ap (λ t. cond {A = List Entry} t [] (targets row b g)) one

-- the entries of another stay
pub others_stay : (meta : Meta) (row : Rows) (g : ℕ) (b : IdBytes) → holds_one meta g ≡ false → others_there meta row (Some g) b ≡ targets row b g
others_stay meta row g b many = ap (λ t. cond {A = List Entry} t [] (targets row b g)) many

-- ---- refusals
pub on_err : {X E : Type 0} {P Q : E → Type 0} (r : Result X E) → ((e : E) → P e → Q e) → IfErr r P → IfErr r Q
on_err (Ok x) h p = p
on_err (Err e) h p = h e p

at_end : (n : ℕ) → nat_le n n ≡ true
at_end n = grind (arith, nat_tests)

only_bound : (e : LinkFault) → Some faults.Bound ≡ Some (edit_fault_of_link e) → e ≡ Bound
only_bound Bound is = refl
only_bound AlreadyThere is = cc
only_bound NoEntry is = cc
only_bound WrongType is = cc
only_bound Memory is = cc

refused_end : (ranked : Bool) (e : LinkFault) → first_refusal ((true, faults.NoEntry) ∷ (ranked, faults.Bound) ∷ []) ≡ Some (edit_fault_of_link e)
    → (e ≡ Bound) × (ranked ≡ false)
refused_end true e is = cc
refused_end false e is = (only_bound e is, refl)

-- at the end of a list there is nothing but a rank to be lacked
pub full_of : (xs : List Entry) (e : LinkFault) → IsLinkRefusal (enter_refusal xs None) e → IsFull (is_some (end_spot xs).rank) e
full_of xs e refused = elim refused [
  | inl memory ↦ inl memory
  | inr is ↦
      inr (refused_end (is_some (end_spot xs).rank) e
      (sym (ap (λ b. first_refusal ((b, faults.NoEntry) ∷ (is_some (end_spot xs).rank, faults.Bound) ∷ [])) (at_end (length xs))) ∙ is))
]
