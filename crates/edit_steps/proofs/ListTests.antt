-- The tests of both lists of a link: they may be done in another order, since all but the first are refused alike.
use Rattle.std.proofs.Common.{◌≡◌, Bool, true, false, [], ◌∷◌, inl, inr}
use Rattle.std.specs.Prelude.{Option, Some}
use Rattle.edit_steps.specs.Refusals.{first_refusal}
use Rattle.edit_steps.specs.declared.fault.EditFault.{EditFault}
use Rattle.edit_steps.specs.declared.fault.EditFault.TheVariants as faults
use Rattle.edit_steps.specs.declared.link_fault.LinkFault.{LinkFault}
use Rattle.edit_steps.specs.LinkRefusals.{IsLinkRefusal, edit_fault_of_link}

-- the index is one, there is room here and there, and a rank here and there
abbrev pub first_of : Bool → Bool → Bool → Bool → Bool → Option EditFault
first_of n h t s r = first_refusal ((n, faults.NoEntry) ∷ (h, faults.Bound) ∷ (t, faults.Bound) ∷ (s, faults.Bound) ∷ (r, faults.Bound) ∷ [])

here_refused : (n h t s r : Bool) (x : EditFault) → first_refusal ((n, faults.NoEntry) ∷ (s, faults.Bound) ∷ []) ≡ Some x → first_of n h t s r ≡ Some x
here_refused false h t s r x is = is
here_refused true h t true r x is = cc
here_refused true false t false r x is = is
here_refused true true false false r x is = is
here_refused true true true false r x is = is

-- the index or the rank here is refused
pub here_fault : (n h t s r : Bool) (e : LinkFault) → IsLinkRefusal (first_refusal ((n, faults.NoEntry) ∷ (s, faults.Bound) ∷ [])) e
    → IsLinkRefusal (first_of n h t s r) e
here_fault n h t s r e refused = elim refused [ inl memory ↦ inl memory | inr is ↦ inr (here_refused n h t s r (edit_fault_of_link e) is) ]
