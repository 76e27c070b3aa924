-- The steps that build a state are the reversals of those that take it apart, in reversed order.
use Rattle.std.proofs.Common.{◌≡◌, ℕ, ◌+◌, Bool, true, false, cond, List, [], ◌∷◌, ◌++◌, refl, sym, ap, ◌∙◌, append_assoc, nat_lt}
use Rattle.std.proofs.lemmas.List.{append-nil}
use Rattle.std.specs.Prelude.{Option, None, Some}
use Rattle.std.specs.List.{filter}
use Rattle.std.specs.FinMap.{get}
use Rattle.ecore_meta.specs.Meta.{Meta}
use Rattle.ecore_meta.specs.declared.meta.Value.{Value}
use Rattle.finite_maps.specs.Equal.{option_eq}
use Rattle.model_state.specs.declared.entry.Entry.{Entry}
use Rattle.model_state.specs.declared.step.Step.{Step}
use Rattle.model_state.specs.declared.step.Step.TheVariants.{Put, Ins, Del}
use Rattle.model_state.specs.Keys.{IdBytes, AttrKey}
use Rattle.model_state.specs.Listing.{targets, values_at}
use Rattle.model_state.specs.State.{State}
use Rattle.model_state.specs.Steps.{rev, rev_all}
use Rattle.model_state.specs.Typing.{opposite_of, is_plain, is_attr, kind_of, value_eq}
use Rattle.edit_steps.specs.Attributes.{single_value, put_made}
use Rattle.edit_steps.specs.ManyValues.{dels}
use Rattle.edit_steps.specs.Rows.{Rows, unlinks, unlink_step, link_step, mirror_rank}
use Rattle.edit_steps.specs.Deletes.{gone_made, gone_step, emptied_made, values_made, slots_of, holds_values}
use Rattle.state_steps.specs.Whole.{birth, births, put_first, inserts, filled, all_filled, linked, all_linked, leads, links_of, unlinked}

pub rev_join : (xs ys : List Step) → rev_all (xs ++ ys) ≡ rev_all ys ++ rev_all xs
rev_join [] ys = sym (append-nil (rev_all ys))
rev_join (x ∷ xs) ys = ap (λ l. l ++ rev x ∷ []) (rev_join xs ys) ∙ append_assoc (rev_all ys) (rev_all xs) (rev x ∷ [])

births_turned : (m : State) (xs : List IdBytes) → rev_all (gone_made m xs) ≡ births m xs
births_turned m [] = refl
births_turned m (x ∷ xs) = rev_join (gone_made m xs) (gone_step m x ∷ []) ∙ ap (λ l. birth m x ∷ l) (births_turned m xs)

inserts_turned : (e : IdBytes) (f n : ℕ) (vs : List Value) → rev_all (dels e f n vs) ≡ inserts e f n vs
inserts_turned e f n [] = refl
inserts_turned e f n (v ∷ vs) = rev_join (dels e f (n + 1) vs) (Del e f n v ∷ []) ∙ ap (λ l. Ins e f n v ∷ l) (inserts_turned e f (n + 1) vs)

put_turned : (s : AttrKey) (o : Option Value) → rev_all (cond (option_eq value_eq o None) [] (Put s.0 s.1 o None ∷ [])) ≡ put_first s o
put_turned s None = refl
put_turned s (Some v) = refl

filled_turned : (meta : Meta) (m : State) (s : AttrKey) → rev_all (emptied_made meta m s) ≡ filled meta m s
filled_turned meta m s =
    elim (is_attr (kind_of meta s.1)) as (λ b.
    rev_all (cond b (put_made m s.0 s.1 None) (dels s.0 s.1 0 (values_at m s.0 s.1))) ≡ cond b (put_first s (single_value (get m.attr s)))
    (inserts s.0 s.1 0 (values_at m s.0 s.1))) [
      | true ↦ put_turned s (single_value (get m.attr s))
      | false ↦ inserts_turned s.0 s.1 0 (values_at m s.0 s.1)
    ]

all_filled_turned : (meta : Meta) (m : State) (ss : List AttrKey) → rev_all (values_made meta m ss) ≡ all_filled meta m ss
all_filled_turned meta m [] = refl
all_filled_turned meta m (s ∷ ss) =
    rev_join (emptied_made meta m s) (values_made meta m ss) ∙ (λ i. all_filled_turned meta m ss i ++ filled_turned meta m s i)

step_turned : (o : Option ℕ) (a : IdBytes) (f ra : ℕ) (b : IdBytes) (rb : ℕ) → rev (unlink_step o a f ra b rb) ≡ link_step o a f ra b rb
step_turned None a f ra b rb = refl
step_turned (Some g) a f ra b rb = by_order (nat_lt g f) _ _
  where
    by_order : (t : Bool) (x y : Step) → rev (cond t x y) ≡ cond t (rev x) (rev y)
    by_order true x y = refl
    by_order false x y = refl

links_turned : (row : Rows) (o : Option ℕ) (a : IdBytes) (f : ℕ) (xs : List Entry) → rev_all (unlinks row o a f xs) ≡ linked row o a f xs
links_turned row o a f [] = refl
links_turned row o a f (x ∷ xs) = (λ i. links_turned row o a f xs i ++ step_turned o a f x.rank x.id (mirror_rank row o a x.id) i ∷ [])

all_links_turned : (meta : Meta) (row : Rows) (ss : List AttrKey) → rev_all (unlinked meta row (filter (leads meta) ss)) ≡ all_linked meta row ss
all_links_turned meta row [] = refl
all_links_turned meta row (s ∷ ss) =
    elim (leads meta s) as (λ b.
    rev_all (unlinked meta row (cond {A = List AttrKey} b (s ∷ filter (leads meta) ss) (filter (leads meta) ss))) ≡ all_linked meta row ss
    ++ cond b (linked row (opposite_of meta s.1) s.0 s.1 (targets row s.0 s.1)) []) [
      | true ↦
          rev_join (unlinks row (opposite_of meta s.1) s.0 s.1 (targets row s.0 s.1)) (unlinked meta row (filter (leads meta) ss))
          ∙ (λ i. all_links_turned meta row ss i ++ links_turned row (opposite_of meta s.1) s.0 s.1 (targets row s.0 s.1) i)
      | false ↦ all_links_turned meta row ss ∙ sym (append-nil (all_linked meta row ss))
    ]

pub all_turned : (meta : Meta) (m : State) (xs : List IdBytes) →
    rev_all (unlinked meta m.row (links_of meta m xs) ++ (values_made meta m (slots_of meta m holds_values xs) ++ gone_made m xs))
    ≡ births m xs ++ (all_filled meta m (slots_of meta m holds_values xs) ++ all_linked meta m.row (slots_of meta m is_plain xs))
all_turned meta m xs =
    let rows = unlinked meta m.row (links_of meta m xs) in
    let values = values_made meta m (slots_of meta m holds_values xs) in
    rev_join rows (values ++ gone_made m xs)
    ∙ ap (λ l. l ++ rev_all rows) (rev_join values (gone_made m xs))
    ∙ append_assoc (rev_all (gone_made m xs)) (rev_all values) (rev_all rows)
    ∙ (λ i. births_turned m xs i
    ++ (all_filled_turned meta m (slots_of meta m holds_values xs) i ++ all_links_turned meta m.row (slots_of meta m is_plain xs) i))
