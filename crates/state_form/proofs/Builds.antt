-- Each step that builds a spelled state has an encoding.
use Rattle.std.proofs.Common.{◌≡◌, ℕ, ◌+◌, ◌<◌, ◌≤◌, Bool, true, false, cond, List, [], ◌∷◌, ◌++◌, length, refl, sym, subst, arith, nat_lt}
use Rattle.std.specs.Prelude.{Option, None, Some, is_some, unwrap_or}
use Rattle.std.specs.FinMap.{get}
use Rattle.std.specs.List.{AllByRecursion}
use Rattle.std.proofs.lemmas.Bool.{le-ltb, ltb-true}
use Rattle.ecore_meta.specs.Meta.{Meta}
use Rattle.ecore_meta.specs.declared.meta.Kind.{Kind}
use Rattle.ecore_meta.specs.declared.meta.Kind.TheVariants.{Attr, AttrMany, Bounded, Free, Contains, Container, Skip}
use Rattle.ecore_meta.specs.declared.meta.Value.{Value}
use Rattle.model_state.specs.declared.entry.Entry.{Entry}
use Rattle.model_state.specs.declared.step.Place.TheVariants.{Root}
use Rattle.model_state.specs.declared.step.Step.{Step}
use Rattle.model_state.specs.declared.step.Step.TheVariants.{Link}
use Rattle.model_state.specs.Good.{Good, AttrOk, ValuesOk}
use Rattle.model_state.specs.Keys.{IdBytes, AttrKey}
use Rattle.model_state.specs.Listing.{targets, values_at}
use Rattle.model_state.specs.Lists.{values_of}
use Rattle.model_state.specs.State.{State, is_live}
use Rattle.model_state.specs.Typing.{is_plain, is_attr, kind_of, opposite_of, upper_of}
use Rattle.edit_steps.specs.Attributes.{single_value}
use Rattle.edit_steps.specs.Rows.{Rows, link_step, mirror_rank}
use Rattle.edit_steps.proofs.Lists.{targets_held}
use Rattle.edit_steps.specs.Deletes.{slots_of, holds_values}
use Rattle.edit_steps.proofs.ElementsGone.{AllLive}
use Rattle.op_form.specs.Formed.{IsU32, IsU64, IsIdText, IsGiven, IsValue, IsPlace, IsStep}
use Rattle.state_steps.specs.Whole.{birth, births, put_first, inserts, filled, all_filled, is_less, leads, linked, all_linked, elements_of, as_steps}
use Rattle.state_steps.proofs.Everyone.{all_live}
use Rattle.state_form.specs.Spelled.{Each, IsClassed, AreValues, IsRow, IsSpelled}
use Rattle.state_form.proofs.Keeps.{both}
use Rattle.model_state.specs.Ranks.{most_entries}

chosen : (b : Bool) (xs ys : List Step) → (b ≡ true → AllByRecursion IsStep xs) → (b ≡ false → AllByRecursion IsStep ys) → AllByRecursion IsStep (cond b xs ys)
chosen true xs ys first second = first refl
chosen false xs ys first second = second refl

step_chosen : (b : Bool) (x y : Step) → b ≡ false → IsStep y → IsStep (cond b x y)
step_chosen true x y is one = absurd cc
step_chosen false x y is one = one

-- what is given has it, and so has what stands for none
given_or : {X : Type 0} (P : X → Type 0) (o : Option X) (d : X) → IsGiven P o → P d → P (unwrap_or o d)
given_or P None d is other = other
given_or P (Some x) d is other = is

-- ---- elements
pub live_id : (e : IdBytes) (o : Option ℕ) → is_some o ≡ true → IsGiven (IsClassed e) o → IsIdText e
live_id e None live is = absurd cc
live_id e (Some c) live is = is.0

class_given : (e : IdBytes) (o : Option ℕ) → IsGiven (IsClassed e) o → IsU32 (unwrap_or o 0)
class_given e None is = omega arith
class_given e (Some c) is = is.1

-- ---- values
put_given : (s : AttrKey) (o : Option (List Value)) → IsGiven (AreValues s) o → AllByRecursion IsStep (put_first s (single_value o))
put_given s None is = tt
put_given s (Some []) is = tt
put_given s (Some (v ∷ vs)) is = ((is.0, (is.1.0, (tt, is.1.1.0))), tt)

inserts_given : (e : IdBytes) (f n : ℕ) (vs : List Value) → n + length vs ≤ most_entries → IsIdText e → IsU32 f → AllByRecursion IsValue vs
    → AllByRecursion IsStep (inserts e f n vs)
inserts_given e f n [] few id small all = tt
inserts_given e f n (v ∷ vs) few id small all = ((id, (small, (omega (arith, few), all.0))), inserts_given e f (n + 1) vs (omega (arith, few)) id small all.1)

-- an attribute has not too many values for their numbers
few_values : (meta : Meta) (k : Kind) (upper : Option ℕ) (vs : List Value) → ValuesOk meta k upper vs → length vs ≤ most_entries
few_values meta (Attr scalar default) upper [] ok = absurd ok
few_values meta (Attr scalar default) upper (v ∷ []) ok = omega arith
few_values meta (Attr scalar default) upper (v ∷ w ∷ vs) ok = absurd ok
few_values meta (AttrMany scalar unique) upper [] ok = absurd ok
few_values meta (AttrMany scalar unique) upper (v ∷ vs) ok = ok.2
few_values meta (Bounded target opposite) upper vs ok = absurd ok
few_values meta (Free target opposite) upper vs ok = absurd ok
few_values meta (Contains target opposite) upper vs ok = absurd ok
few_values meta (Container target opposite) upper vs ok = absurd ok
few_values meta Skip upper vs ok = absurd ok

few : (meta : Meta) (c : Option ℕ) (f : ℕ) (vs : List Value) → AttrOk meta c f (Some vs) → length vs ≤ most_entries
few meta None f vs ok = absurd ok
few meta (Some c) f vs ok = few_values meta (kind_of meta f) (upper_of meta f) vs ok.1

all_inserts : (meta : Meta) (c : Option ℕ) (s : AttrKey) (o : Option (List Value)) → AttrOk meta c s.1 o → IsGiven (AreValues s) o
    → AllByRecursion IsStep (inserts s.0 s.1 0 (values_of o))
all_inserts meta c s None ok is = tt
all_inserts meta c s (Some vs) ok is = let size = few meta c s.1 vs ok in inserts_given s.0 s.1 0 vs (omega (arith, size)) is.0 is.1.0 is.1.1

-- ---- references
leads_first : (f g : ℕ) → is_less f (Some g) ≡ true → nat_lt g f ≡ false
leads_first f g first = let less : f < g = ltb-true f g first in le-ltb g f (omega (arith, less))

module _ (meta : Meta) (row : Rows) (spelled : Each (IsRow meta) row) where
  mirror_given : (o : Option ℕ) (a b : IdBytes) → IsU64 (mirror_rank row o a b)
  mirror_given None a b = omega arith
  mirror_given (Some g) a b = by (get row (b, g, a)) (spelled (b, g, a))
    where
      by : (o : Option ℕ) → IsGiven (IsRow meta (b, g, a)) o → IsU64 (unwrap_or o 0)
      by None is = omega arith
      by (Some rank) is = is.1.1.1

  link_given : (o : Option ℕ) (a : IdBytes) (f : ℕ) (rank : ℕ) (b : IdBytes) → is_less f o ≡ true → opposite_of meta f ≡ o → IsRow meta (a, f, b) rank
      → IsStep (link_step o a f rank b (mirror_rank row o a b))
  link_given None a f rank b first is of_row =
      (of_row.0, (of_row.1.0 (subst (λ (o : Option ℕ). is_less f o ≡ true) (sym is) first), (of_row.1.1.1, (of_row.1.1.0, tt))))
  link_given (Some g) a f rank b first is of_row =
      step_chosen (nat_lt g f) (Link b g (mirror_rank row (Some g) a b) a (Some rank)) (Link a f rank b (Some (mirror_rank row (Some g) a b)))
      (leads_first f g first)
      (of_row.0, (of_row.1.0 (subst (λ (o : Option ℕ). is_less f o ≡ true) (sym is) first), (of_row.1.1.1, (of_row.1.1.0, mirror_given (Some g) a b))))

  row_at : (a : IdBytes) (f : ℕ) (b : IdBytes) (rank : ℕ) → get row (a, f, b) ≡ Some rank → IsRow meta (a, f, b) rank
  row_at a f b rank is = subst (λ (o : Option ℕ). IsGiven (IsRow meta (a, f, b)) o) is (spelled (a, f, b))

  links_given : (o : Option ℕ) (a : IdBytes) (f : ℕ) (xs : List Entry) → is_less f o ≡ true → opposite_of meta f ≡ o
      → AllByRecursion (λ (x : Entry). get row (a, f, x.id) ≡ Some x.rank) xs → AllByRecursion IsStep (linked row o a f xs)
  links_given o a f [] first is held = tt
  links_given o a f (x ∷ xs) first is held =
      both IsStep (linked row o a f xs) (link_step o a f x.rank x.id (mirror_rank row o a x.id) ∷ []) (links_given o a f xs first is held.1)
      (link_given o a f x.rank x.id first is (row_at a f x.id x.rank held.0), tt)

  all_links_given : (ss : List AttrKey) → AllByRecursion IsStep (all_linked meta row ss)
  all_links_given [] = tt
  all_links_given (s ∷ ss) =
      both IsStep (all_linked meta row ss) (cond (leads meta s) (linked row (opposite_of meta s.1) s.0 s.1 (targets row s.0 s.1)) []) (all_links_given ss)
      (chosen (leads meta s) (linked row (opposite_of meta s.1) s.0 s.1 (targets row s.0 s.1)) []
      (λ is. links_given (opposite_of meta s.1) s.0 s.1 (targets row s.0 s.1) is refl (targets_held row s.0 s.1))
      (λ not. tt))

-- ---- all of them
module _ (meta : Meta) (m : State) (good : Good meta m) (spelled : IsSpelled meta m) where
  birth_given : (x : IdBytes) → is_live m x ≡ true → IsStep (birth m x)
  birth_given x live = (
    live_id x (get m.kind x) live (spelled.kinds x),
    (
      class_given x (get m.kind x) (spelled.kinds x),
      (
        given_or IsPlace (get m.place x) Root (spelled.places x) tt,
        given_or IsU64 (get m.prank x) 0 (spelled.ranks x) (omega arith),
      ),
    ),
  )

  births_given : (xs : List IdBytes) → AllLive m xs → AllByRecursion IsStep (births m xs)
  births_given [] live = tt
  births_given (x ∷ xs) live = (birth_given x live.0, births_given xs live.1)

  filled_given : (s : AttrKey) → AllByRecursion IsStep (filled meta m s)
  filled_given s =
      chosen (is_attr (kind_of meta s.1)) (put_first s (single_value (get m.attr s))) (inserts s.0 s.1 0 (values_at m s.0 s.1))
      (λ is. put_given s (get m.attr s) (spelled.values s))
      (λ not. all_inserts meta (get m.kind s.0) s (get m.attr s) (good.attrs.typed s.0 s.1) (spelled.values s))

  all_filled_given : (ss : List AttrKey) → AllByRecursion IsStep (all_filled meta m ss)
  all_filled_given [] = tt
  all_filled_given (s ∷ ss) = both IsStep (all_filled meta m ss) (filled meta m s) (all_filled_given ss) (filled_given s)

  pub whole_given : AllByRecursion IsStep (as_steps meta m)
  whole_given =
      let xs : List IdBytes = elements_of meta m in
      let values : List Step = all_filled meta m (slots_of meta m holds_values xs) in
      let rows : List Step = all_linked meta m.row (slots_of meta m is_plain xs) in
      both IsStep (births m xs) (values ++ rows) (births_given xs (all_live meta m good xs (λ y h. h)))
      (both IsStep values rows (all_filled_given (slots_of meta m holds_values xs)) (all_links_given meta m.row spelled.rows (slots_of meta m is_plain xs)))
