-- Single steps on rows, written from either side.
use Rattle.std.proofs.lemmas.Bool.Decides.{nat_tests}
use Rattle.std.proofs.Common.{◌≡◌, ℕ, true, false, cond, not, refl, sym, ap, subst, ◌∙◌, arith, nat_eq, nat_lt}
use Rattle.std.specs.Prelude.{Option, None, Some, is_some, unwrap_or}
use Rattle.std.specs.Ordering.{eq_by_cmp}
use Rattle.std.specs.FinMap.{get}
use Rattle.finite_maps.specs.Equal.{option_eq}
use Rattle.finite_maps.specs.Maps.{is_below, set}
use Rattle.finite_maps.proofs.MapLaws.{set_swap, same_key}
use Rattle.finite_maps.proofs.EqualLaws.{and_first, and_second, nat_equality}
use Rattle.ecore_meta.specs.Meta.{Meta, has_feature}
use Rattle.ecore_meta.specs.declared.meta.Kind.{Kind}
use Rattle.ecore_meta.specs.declared.meta.Kind.TheVariants.{Bounded, Free}
use Rattle.model_state.specs.declared.step.Step.{Step}
use Rattle.model_state.specs.declared.step.Step.TheVariants.{Link, Unlink, RerankRow}
use Rattle.model_state.specs.Keys.{IdBytes, RowKey, row_cmp}
use Rattle.model_state.specs.Typing.{opposite_of, row_upper, kind_of, plain_to, is_plain}
use Rattle.model_state.specs.State.{State, row_count}
use Rattle.model_state.specs.Steps.{tests, Can, apply, may_link, class_has, mirror_given, mirror_at, mirror_room}
use Rattle.model_state.specs.Good.{RowOk, Good, Sound}
use Rattle.model_state.proofs.Orders.{row_order}
use Rattle.model_state.proofs.StepTests.{pass, number_equality}
use Rattle.finite_maps.proofs.Cases.{not_false, not_so, true_false, no_some}
use Rattle.edit_steps.specs.Rows.{Rows, set_pair, unlink_step, link_step, mirror_rank}

-- rows of different features
pub rows_apart : (a : IdBytes) (f : ℕ) (b : IdBytes) (x : IdBytes) (g : ℕ) (y : IdBytes) → nat_eq f g ≡ false → eq_by_cmp row_cmp (a, f, b) (x, g, y) ≡ false
rows_apart a f b x g y differ = not_so (eq_by_cmp row_cmp (a, f, b) (x, g, y)) (λ same.
    true_false (nat_eq f g) (ap (λ (q : RowKey). nat_eq f q.1) (sym (same_key row_order (a, f, b) (x, g, y) same)) ∙ nat_equality.own f) differ)

pub some_of : (o : Option ℕ) → is_some o ≡ true → o ≡ Some (unwrap_or o 0)
some_of None h = cc
some_of (Some x) h = refl

source_live : (meta : Meta) (c : Option ℕ) (f : ℕ) (d : Option ℕ) → may_link meta c f d ≡ true → is_some c ≡ true
source_live meta None f d h = cc
source_live meta (Some c) f d h = refl

target_live : (meta : Meta) (c : Option ℕ) (f : ℕ) (d : Option ℕ) → may_link meta c f d ≡ true → is_some d ≡ true
target_live meta None f d h = cc
target_live meta (Some c) f None h = cc
target_live meta (Some c) f (Some d) h = refl

source_has : (meta : Meta) (c : Option ℕ) (f : ℕ) (d : Option ℕ) → may_link meta c f d ≡ true → class_has meta c f ≡ true
source_has meta None f d h = cc
source_has meta (Some c) f None h = cc
source_has meta (Some c) f (Some d) h = and_first _ _ h

plain_kind : (meta : Meta) (k : Kind) (d : ℕ) → plain_to meta k d ≡ true → is_plain k ≡ true
plain_kind meta (Bounded target opposite) d h = refl
plain_kind meta (Free target opposite) d h = refl
plain_kind meta k d h = cc

is_plainly : (meta : Meta) (c : Option ℕ) (f : ℕ) (d : Option ℕ) → may_link meta c f d ≡ true → is_plain (kind_of meta f) ≡ true
is_plainly meta None f d h = cc
is_plainly meta (Some c) f None h = cc
is_plainly meta (Some c) f (Some d) h = plain_kind meta (kind_of meta f) d (and_second (has_feature meta c f) _ h)

row_typed : (meta : Meta) (c : Option ℕ) (f : ℕ) (d : Option ℕ) (o : Option ℕ) (r : ℕ) → o ≡ Some r → RowOk meta c f d o → may_link meta c f d ≡ true
row_typed meta c f d o r is ok = subst (λ o. RowOk meta c f d o) is ok

less_not : (f g : ℕ) → nat_lt g f ≡ true → nat_lt f g ≡ false
less_not f g h = grind (arith, nat_tests)

-- a step can be taken, and leaves the state with these rows
pub record Takes (meta : Meta) (m : State) (s : Step) (row : Rows) : Type 0 where
  pub can : Can meta m s
  pub leaves : apply meta m s ≡ record m { row = row }

-- two writes of rows of different features commute
pub pair_swap : (meta : Meta) → Sound meta → (row : Rows) (a : IdBytes) (f : ℕ) (b : IdBytes) (g : ℕ) (v w : Option ℕ) → opposite_of meta f ≡ Some g
    → set (set row (b, g, a) w) (a, f, b) v ≡ set (set row (a, f, b) v) (b, g, a) w
pair_swap meta sound row a f b g v w is = set_swap row_order row (b, g, a) (a, f, b) w v (rows_apart a f b b g a (sound.other f g is))

module _ (meta : Meta) (sound : Sound meta) (m : State) (good : Good meta m) where
  -- ---- Unlink
  unlink_can : (a : IdBytes) (f : ℕ) (ra : ℕ) (b : IdBytes) (rb : Option ℕ) → get m.row (a, f, b) ≡ Some ra
      → mirror_given (opposite_of meta f) f rb ≡ true → mirror_at m (opposite_of meta f) a b rb ≡ true → Can meta m (Unlink a f ra b rb)
  unlink_can a f ra b rb here given there =
      let typed : may_link meta (get m.kind a) f (get m.kind b) ≡ true =
      row_typed meta (get m.kind a) f (get m.kind b) (get m.row (a, f, b)) ra here (good.rows.typed a f b) in
      pass (tests meta m (Unlink a f ra b rb)) (
        source_live meta _ f _ typed,
        (
          target_live meta _ f _ typed,
          (
            typed,
            (
              given,
              (
                ap is_some here,
                (
                  ap (λ o. option_eq nat_eq o (Some ra)) here ∙ number_equality.own (Some ra),
                  (there, tt),
                ),
              ),
            ),
          ),
        ),
      )

  unlink_by : (a : IdBytes) (f : ℕ) (ra : ℕ) (b : IdBytes) (o : Option ℕ) → opposite_of meta f ≡ o → get m.row (a, f, b) ≡ Some ra
      → Takes meta m (unlink_step o a f ra b (mirror_rank m.row o a b)) (set_pair m.row a f b o None None)
  unlink_by a f ra b None is here = record {
    can = unlink_can a f ra b None here (ap (λ o. mirror_given o f None) is) (ap (λ o. mirror_at m o a b None) is);
    leaves = ap (λ o. record m { row = set_pair m.row a f b o None None }) is;
  }
  unlink_by a f ra b (Some g) is here =
      let rb = unwrap_or (get m.row (b, g, a)) 0 in
      let back : opposite_of meta g ≡ Some f = sound.both f g is in
      let there : get m.row (b, g, a) ≡ Some rb = some_of _ (sym (good.rows.mirrored a f b g is) ∙ ap is_some here) in
      elim (nat_lt g f) as (λ t. nat_lt g f ≡ t
      → Takes meta m (cond t (Unlink b g rb a (Some ra)) (Unlink a f ra b (Some rb))) (set_pair m.row a f b (Some g) None None)) [
        | true ↦ λ less. record {
          can = unlink_can b g rb a (Some ra) there (ap (λ o. mirror_given o g (Some ra)) back ∙ ap not (less_not f g less))
              (ap (λ o. mirror_at m o b a (Some ra)) back ∙ ap (λ o. option_eq nat_eq o (Some ra)) here ∙ number_equality.own (Some ra));
          leaves = ap (λ o. record m { row = set_pair m.row b g a o None None }) back
              ∙ ap (λ r. record m { row = r }) (pair_swap meta sound m.row a f b g None None is);
        }
        | false ↦ λ less. record {
          can = unlink_can a f ra b (Some rb) here (ap (λ o. mirror_given o f (Some rb)) is ∙ ap not less)
              (ap (λ o. mirror_at m o a b (Some rb)) is ∙ ap (λ o. option_eq nat_eq o (Some rb)) there ∙ number_equality.own (Some rb));
          leaves = ap (λ o. record m { row = set_pair m.row a f b o None None }) is;
        }
      ] refl

  pub unlink_takes : (a : IdBytes) (f : ℕ) (ra : ℕ) (b : IdBytes) → get m.row (a, f, b) ≡ Some ra
      → Takes meta m (unlink_step (opposite_of meta f) a f ra b (mirror_rank m.row (opposite_of meta f) a b))
      (set_pair m.row a f b (opposite_of meta f) None None)
  unlink_takes a f ra b here = unlink_by a f ra b (opposite_of meta f) refl here

  -- ---- Link
  link_can : (a : IdBytes) (f : ℕ) (ra : ℕ) (b : IdBytes) (rb : Option ℕ) → may_link meta (get m.kind a) f (get m.kind b) ≡ true
      → mirror_given (opposite_of meta f) f rb ≡ true → get m.row (a, f, b) ≡ None
      → is_below (row_count m a f) (row_upper meta f) ≡ true → mirror_room meta m (opposite_of meta f) b ≡ true → Can meta m (Link a f ra b rb)
  link_can a f ra b rb typed given none room room' =
      pass (tests meta m (Link a f ra b rb)) (
        source_live meta _ f _ typed,
        (
          target_live meta _ f _ typed,
          (
            typed,
            (
              given,
              (
                ap (λ o. not (is_some o)) none,
                (
                  room,
                  (room', tt),
                ),
              ),
            ),
          ),
        ),
      )

  -- what may be linked one way may be linked back
  mirror_may : (c : Option ℕ) (f : ℕ) (d : Option ℕ) (g : ℕ) → opposite_of meta f ≡ Some g → may_link meta c f d ≡ true → may_link meta d g c ≡ true
  mirror_may None f d g is h = cc
  mirror_may (Some c) f None g is h = cc
  mirror_may (Some c) f (Some d) g is h = sound.mirrors c f d g is h

  link_by : (a : IdBytes) (f : ℕ) (ra : ℕ) (b : IdBytes) (rb : ℕ) (o : Option ℕ) → opposite_of meta f ≡ o
      → may_link meta (get m.kind a) f (get m.kind b) ≡ true → get m.row (a, f, b) ≡ None
      → is_below (row_count m a f) (row_upper meta f) ≡ true → mirror_room meta m o b ≡ true
      → Takes meta m (link_step o a f ra b rb) (set_pair m.row a f b o (Some ra) (Some rb))
  link_by a f ra b rb None is typed none room room' = record {
    can = link_can a f ra b None typed (ap (λ o. mirror_given o f None) is) none room (ap (λ o. mirror_room meta m o b) is);
    leaves = ap (λ o. record m { row = set_pair m.row a f b o (Some ra) None }) is;
  }
  link_by a f ra b rb (Some g) is typed none room room' =
      let back : opposite_of meta g ≡ Some f = sound.both f g is in
      let none' : get m.row (b, g, a) ≡ None = no_some _ (sym (good.rows.mirrored a f b g is) ∙ ap is_some none) in
      elim (nat_lt g f) as (λ t. nat_lt g f ≡ t
      → Takes meta m (cond t (Link b g rb a (Some ra)) (Link a f ra b (Some rb))) (set_pair m.row a f b (Some g) (Some ra) (Some rb))) [
        | true ↦ λ less. record {
          can = link_can b g rb a (Some ra) (mirror_may (get m.kind a) f (get m.kind b) g is typed)
              (ap (λ o. mirror_given o g (Some ra)) back ∙ ap not (less_not f g less)) none' room' (ap (λ o. mirror_room meta m o a) back ∙ room);
          leaves = ap (λ o. record m { row = set_pair m.row b g a o (Some rb) (Some ra) }) back
              ∙ ap (λ r. record m { row = r }) (pair_swap meta sound m.row a f b g (Some ra) (Some rb) is);
        }
        | false ↦ λ less. record {
          can = link_can a f ra b (Some rb) typed (ap (λ o. mirror_given o f (Some rb)) is ∙ ap not less) none room
              (ap (λ o. mirror_room meta m o b) is ∙ room');
          leaves = ap (λ o. record m { row = set_pair m.row a f b o (Some ra) (Some rb) }) is;
        }
      ] refl

  pub link_takes : (a : IdBytes) (f : ℕ) (ra : ℕ) (b : IdBytes) (rb : ℕ) → may_link meta (get m.kind a) f (get m.kind b) ≡ true → get m.row (a, f, b) ≡ None
      → is_below (row_count m a f) (row_upper meta f) ≡ true → mirror_room meta m (opposite_of meta f) b ≡ true
      → Takes meta m (link_step (opposite_of meta f) a f ra b rb) (set_pair m.row a f b (opposite_of meta f) (Some ra) (Some rb))
  link_takes a f ra b rb typed none room room' = link_by a f ra b rb (opposite_of meta f) refl typed none room room'

  -- ---- RerankRow
  pub rerank_takes : (a : IdBytes) (f : ℕ) (b : IdBytes) (old new : ℕ) → get m.row (a, f, b) ≡ Some old → nat_eq old new ≡ false
      → Takes meta m (RerankRow a f b old new) (set m.row (a, f, b) (Some new))
  rerank_takes a f b old new here differ =
      let typed : may_link meta (get m.kind a) f (get m.kind b) ≡ true =
      row_typed meta (get m.kind a) f (get m.kind b) (get m.row (a, f, b)) old here (good.rows.typed a f b) in
      record {
        can = pass (tests meta m (RerankRow a f b old new)) (
          source_live meta _ f _ typed,
          (
            source_has meta _ f _ typed,
            (
              is_plainly meta _ f _ typed,
              (
                ap is_some here,
                (
                  not_false _ differ,
                  (ap (λ o. option_eq nat_eq o (Some old)) here ∙ number_equality.own (Some old), tt),
                ),
              ),
            ),
          ),
        );
        leaves = refl;
      }
