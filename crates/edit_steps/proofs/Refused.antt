-- Edits of references that no test refuses.
use Rattle.std.proofs.Common.{◌≡◌, ℕ, Bool, true, false, cond, List, [], ◌∷◌, length, refl, ◌||◌, nat_le, nat_lt}
use Rattle.std.specs.Prelude.{Option, None, Some, is_some}
use Rattle.std.specs.FinMap.{get}
use Rattle.finite_maps.proofs.Cases.{no_some, not_true}
use Rattle.ecore_meta.specs.Meta.{Meta}
use Rattle.model_state.specs.Keys.{IdBytes}
use Rattle.model_state.specs.Listing.{targets}
use Rattle.model_state.specs.State.{State}
use Rattle.edit_steps.specs.declared.fault.EditFault.{EditFault}
use Rattle.edit_steps.specs.References.{holds_one, MaySet, MayLink, MayReorder}
use Rattle.edit_steps.specs.Refusals.{first_refusal, set_ref_tests, set_ref_refusal, link_index, link_tests, link_refusal, unlink_tests}
use Rattle.edit_steps.specs.Refusals.{unlink_refusal, reorder_tests, reorder_refusal}

-- all tests pass
abbrev pub AllPass : List (Bool × EditFault) → Type 0
AllPass [] = Unit {0}
AllPass (t ∷ ts) = (t.0 ≡ true) × AllPass ts

pub all_pass : (ts : List (Bool × EditFault)) → first_refusal ts ≡ None → AllPass ts
all_pass [] h = tt
all_pass (t ∷ ts) h =
    elim (t.0) as (λ b. t.0 ≡ b → cond b (first_refusal ts) (Some t.1) ≡ None → (t.0 ≡ true) × AllPass ts) [
      | true ↦ λ e g. (e, all_pass ts g)
      | false ↦ λ e g. cc
    ] refl h

absent_or : (o : Option ℕ) (b : Bool) → is_some o || b ≡ true → o ≡ None → b ≡ true
absent_or None b h is = h
absent_or (Some r) b h is = cc

left_or : (b c : Bool) → b || c ≡ true → b ≡ false → c ≡ true
left_or true c h g = cc
left_or false c h g = h

module _ (meta : Meta) (m : State) (a : IdBytes) (f : ℕ) (b : IdBytes) where
  pub may_set : holds_one meta f ≡ true → set_ref_refusal meta m a f b ≡ None → MaySet meta m a f b
  may_set one open_ =
      let p = all_pass (set_ref_tests meta m a f b) open_ in
      record {
        one = one;
        typed = p.0;
        room = absent_or (get m.row (a, f, b)) _ p.1.0;
        ranked = absent_or (get m.row (a, f, b)) _ p.1.1.0;
      }

  pub may_link : (at : Option ℕ) → link_refusal meta m a f b at ≡ None → MayLink meta m a f b (link_index m a f at)
  may_link at open_ =
      let p = all_pass (link_tests meta m a f b (link_index m a f at)) open_ in
      record {
        typed = p.0;
        absent = no_some _ (not_true _ p.1.0);
        free = p.1.1.1.0;
        room = p.1.1.1.1.0;
        ranked = p.1.1.1.1.1.0;
        ranked_there = p.1.1.1.1.1.1.0;
      }

  pub link_within : (at : Option ℕ) → link_refusal meta m a f b at ≡ None → nat_le (link_index m a f at) (length (targets m.row a f)) ≡ true
  link_within at open_ = (all_pass (link_tests meta m a f b (link_index m a f at)) open_).1.1.0

module _ (m : State) (a : IdBytes) (f : ℕ) (b : IdBytes) where
  pub may_unlink : unlink_refusal m a f b ≡ None → is_some (get m.row (a, f, b)) ≡ true
  may_unlink open_ = (all_pass (unlink_tests m a f b) open_).0

  pub may_reorder : (k : ℕ) → reorder_refusal m a f b k ≡ None → MayReorder m a f b k
  may_reorder k open_ =
      let p = all_pass (reorder_tests m a f b k) open_ in
      record {
        there = p.0;
        ranked = left_or _ _ p.1.1.0;
      }

  pub reorder_within : (k : ℕ) → reorder_refusal m a f b k ≡ None → nat_lt k (length (targets m.row a f)) ≡ true
  reorder_within k open_ = (all_pass (reorder_tests m a f b k) open_).1.0
