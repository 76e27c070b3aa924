-- A step that can be taken can be taken with the metamodel that grew, and does the same.
use Rattle.std.proofs.Common.{◌≡◌, ℕ, true, false, not, refl, sym, ap, subst, ◌∙◌, ◌&&◌, List, [], ◌∷◌, ◌++◌, length}
use Rattle.std.specs.Prelude.{Option, None, Some}
use Rattle.std.specs.List.{list_any}
use Rattle.std.specs.FinMap.{get}
use Rattle.finite_maps.specs.Maps.{is_below}
use Rattle.finite_maps.specs.Equal.{option_eq}
use Rattle.ecore_meta.specs.Meta.{Meta}
use Rattle.ecore_meta.specs.Typing.{opposite_of}
use Rattle.ecore_meta.specs.declared.meta.Value.{Value}
use Rattle.model_state.specs.declared.step.Place.{Place}
use Rattle.model_state.specs.declared.step.Place.TheVariants.{Root, Inside}
use Rattle.model_state.specs.declared.step.Step.{Step}
use Rattle.model_state.specs.declared.step.Step.TheVariants.{Put, Ins, Del, Shift, Link, Unlink, RerankRow, New, Gone, Move, RerankPlace}
use Rattle.model_state.specs.Keys.{IdBytes}
use Rattle.model_state.specs.Lists.{values_of}
use Rattle.model_state.specs.Typing.{is_attr, is_many, is_plain, is_unique, is_default, value_eq}
use Rattle.model_state.specs.State.{State, written, place_eq, child_count, row_count}
use Rattle.model_state.specs.Steps.{tests, Can, apply, may_link, may_stand, may_move, has_room, value_fits, not_default, mirror_given, mirror_room}
use Rattle.model_state.specs.Steps.{mirror_at, mirror_write}
use Rattle.model_state.specs.Good.{Good, PlaceOk, Sound}
use Rattle.model_state.proofs.StepTests.{passed, pass, place_equality}
use Rattle.finite_maps.proofs.EqualLaws.{and_first, and_second, and_both, option_equality}
use Rattle.model_laws.specs.Cells.{Cell, OfKind, OfPlace, OfRank, OfRow, OfWhole, side, mirror_side, place_list, step_writes}
use Rattle.growth_laws.proofs.Keeps.{Keeps}
use Rattle.growth_laws.proofs.Kept.{Same, same_kind, same_upper, same_opposite, same_row_upper, same_child_upper, same_bounded, same_finite, has_kept}
use Rattle.growth_laws.proofs.Kept.{same_had, contains_kept, attr_fits_kept, many_fits_kept, link_same, link_kept, mirror_same}
use Rattle.growth_laws.proofs.States.{stood_has}

module _ (o n : Meta) (keeps : Keeps o n) where
  stand_same : (m : State) (c : ℕ) (a : IdBytes) (f : ℕ) → may_stand o m c (Inside a f) ≡ true → Same o n f
  stand_same m c a f h = same_had o n keeps (get m.kind a) f (and_first _ _ h)

  stand_kept : (m : State) (c : ℕ) (p : Place) → may_stand o m c p ≡ true → may_stand n m c p ≡ true
  stand_kept m c Root h = refl
  stand_kept m c (Inside a f) h = and_both _ _ (has_kept o n keeps (get m.kind a) f (and_first _ _ h))
      (contains_kept o n keeps f (stand_same m c a f h) c (and_second _ _ h))

  room_kept : (m : State) (c : ℕ) (p : Place) → may_stand o m c p ≡ true → has_room o m p ≡ true → has_room n m p ≡ true
  room_kept m c Root may h = refl
  room_kept m c (Inside a f) may h = subst (λ u. is_below (child_count m (Inside a f)) u ≡ true) (sym (same_child_upper o n f (stand_same m c a f may))) h

  move_kept : (m : State) (c : Option ℕ) (p : Place) → may_move o m c p ≡ true → may_move n m c p ≡ true
  move_kept m None p h = cc
  move_kept m (Some c) p h = stand_kept m c p h

  move_room : (m : State) (c : Option ℕ) (p : Place) → may_move o m c p ≡ true → has_room o m p ≡ true → has_room n m p ≡ true
  move_room m None p may h = cc
  move_room m (Some c) p may h = room_kept m c p may h

  value_kept : (f : ℕ) → Same o n f → (v : Option Value) → value_fits o f v ≡ true → value_fits n f v ≡ true
  value_kept f s None h = refl
  value_kept f s (Some v) h = attr_fits_kept o n keeps f s v h

  default_kept : (f : ℕ) → Same o n f → (v : Option Value) → not_default o f v ≡ true → not_default n f v ≡ true
  default_kept f s None h = refl
  default_kept f s (Some v) h = subst (λ k. not (is_default k v) ≡ true) (sym (same_kind o n f s)) h

  -- the opposite's list is bound as it was
  room_there : Sound o → (m : State) (a : IdBytes) (f : ℕ) (b : IdBytes) → may_link o (get m.kind a) f (get m.kind b) ≡ true
      → (g : Option ℕ) → opposite_of o f ≡ g → mirror_room o m g b ≡ true → mirror_room n m g b ≡ true
  room_there sound m a f b may None is h = refl
  room_there sound m a f b may (Some g) is h = subst (λ u. is_below (row_count m b g) u ≡ true)
      (sym (same_row_upper o n g (mirror_same o n keeps sound (get m.kind a) f (get m.kind b) g is may))) h

  pub can_kept : Sound o → (m : State) (s : Step) → Can o m s → Can n m s
  can_kept sound m (Put e f old new) can =
      let p = passed (tests o m (Put e f old new)) can in
      let s = same_had o n keeps (get m.kind e) f p.1.0 in
      pass (tests n m (Put e f old new)) (
        p.0,
        (
          has_kept o n keeps (get m.kind e) f p.1.0,
          (
            subst (λ k. is_attr k ≡ true) (sym (same_kind o n f s)) p.1.1.0,
            (
              value_kept f s old p.1.1.1.0,
              (
                value_kept f s new p.1.1.1.1.0,
                (p.1.1.1.1.1.0, (default_kept f s old p.1.1.1.1.1.1.0, (default_kept f s new p.1.1.1.1.1.1.1.0, (p.1.1.1.1.1.1.1.1.0, tt)))),
              ),
            ),
          ),
        ),
      )
  can_kept sound m (New e class place rank) can =
      let p = passed (tests o m (New e class place rank)) can in
      pass (tests n m (New e class place rank))
      (p.0, (p.1.0, (keeps.concrete class p.1.1.0, (stand_kept m class place p.1.1.1.0, (room_kept m class place p.1.1.1.0 p.1.1.1.1.0, tt)))))
  can_kept sound m (Gone e class place rank) can = can
  can_kept sound m (Link a f ra b rb) can =
      let p = passed (tests o m (Link a f ra b rb)) can in
      let s = link_same o n keeps (get m.kind a) f (get m.kind b) p.1.1.0 in
      pass (tests n m (Link a f ra b rb)) (
        p.0,
        (
          p.1.0,
          (
            link_kept o n keeps (get m.kind a) f (get m.kind b) p.1.1.0,
            (
              subst (λ g. mirror_given g f rb ≡ true) (sym (same_opposite o n f s)) p.1.1.1.0,
              (
                p.1.1.1.1.0,
                (
                  subst (λ u. is_below (row_count m a f) u ≡ true) (sym (same_row_upper o n f s)) p.1.1.1.1.1.0,
                  (
                    subst (λ g. mirror_room n m g b ≡ true) (sym (same_opposite o n f s))
                        (room_there sound m a f b p.1.1.0 (opposite_of o f) refl p.1.1.1.1.1.1.0),
                    tt,
                  ),
                ),
              ),
            ),
          ),
        ),
      )
  can_kept sound m (Unlink a f ra b rb) can =
      let p = passed (tests o m (Unlink a f ra b rb)) can in
      let s = link_same o n keeps (get m.kind a) f (get m.kind b) p.1.1.0 in
      pass (tests n m (Unlink a f ra b rb)) (
        p.0,
        (
          p.1.0,
          (
            link_kept o n keeps (get m.kind a) f (get m.kind b) p.1.1.0,
            (
              subst (λ g. mirror_given g f rb ≡ true) (sym (same_opposite o n f s)) p.1.1.1.0,
              (
                p.1.1.1.1.0,
                (
                  p.1.1.1.1.1.0,
                  (subst (λ g. mirror_at m g a b rb ≡ true) (sym (same_opposite o n f s)) p.1.1.1.1.1.1.0, tt),
                ),
              ),
            ),
          ),
        ),
      )
  can_kept sound m (RerankPlace e old new) can = can
  can_kept sound m (Move e from from_rank to to_rank above_from above_to) can =
      let p = passed (tests o m (Move e from from_rank to to_rank above_from above_to)) can in
      pass (tests n m (Move e from from_rank to to_rank above_from above_to)) (
        p.0,
        (
          p.1.0,
          (
            p.1.1.0,
            (
              p.1.1.1.0,
              (
                p.1.1.1.1.0,
                (
                  move_kept m (get m.kind e) to p.1.1.1.1.1.0,
                  (
                    p.1.1.1.1.1.1.0,
                    (
                      p.1.1.1.1.1.1.1.0,
                      (
                        p.1.1.1.1.1.1.1.1.0,
                        (move_room m (get m.kind e) to p.1.1.1.1.1.0 p.1.1.1.1.1.1.1.1.1.0, tt),
                      ),
                    ),
                  ),
                ),
              ),
            ),
          ),
        ),
      )
  can_kept sound m (Ins e f at v) can =
      let p = passed (tests o m (Ins e f at v)) can in
      let s = same_had o n keeps (get m.kind e) f p.1.0 in
      pass (tests n m (Ins e f at v)) (
        p.0,
        (
          has_kept o n keeps (get m.kind e) f p.1.0,
          (
            subst (λ k. is_many k ≡ true) (sym (same_kind o n f s)) p.1.1.0,
            (
              many_fits_kept o n keeps f s v p.1.1.1.0,
              (
                p.1.1.1.1.0,
                (
                  subst (λ k. not (is_unique k && list_any (value_eq v) (values_of (get m.attr (e, f)))) ≡ true) (sym (same_kind o n f s)) p.1.1.1.1.1.0,
                  (subst (λ u. is_below (length (values_of (get m.attr (e, f)))) u ≡ true) (sym (same_upper o n f s)) p.1.1.1.1.1.1.0, (p.1.1.1.1.1.1.1.0, tt)),
                ),
              ),
            ),
          ),
        ),
      )
  can_kept sound m (Del e f at v) can =
      let p = passed (tests o m (Del e f at v)) can in
      let s = same_had o n keeps (get m.kind e) f p.1.0 in
      pass (tests n m (Del e f at v)) (
        p.0,
        (
          has_kept o n keeps (get m.kind e) f p.1.0,
          (subst (λ k. is_many k ≡ true) (sym (same_kind o n f s)) p.1.1.0, (many_fits_kept o n keeps f s v p.1.1.1.0, p.1.1.1.1)),
        ),
      )
  can_kept sound m (RerankRow a f b old new) can =
      let p = passed (tests o m (RerankRow a f b old new)) can in
      let s = same_had o n keeps (get m.kind a) f p.1.0 in
      pass (tests n m (RerankRow a f b old new))
      (p.0, (has_kept o n keeps (get m.kind a) f p.1.0, (subst (λ k. is_plain k ≡ true) (sym (same_kind o n f s)) p.1.1.0, p.1.1.1)))
  can_kept sound m (Shift e f from to) can =
      let p = passed (tests o m (Shift e f from to)) can in
      let s = same_had o n keeps (get m.kind e) f p.1.0 in
      pass (tests n m (Shift e f from to))
      (p.0, (has_kept o n keeps (get m.kind e) f p.1.0, (subst (λ k. is_many k ≡ true) (sym (same_kind o n f s)) p.1.1.0, p.1.1.1)))

  -- only the mirror of a link asks the metamodel
  pub apply_kept : (m : State) (s : Step) → Can o m s → apply n m s ≡ apply o m s
  apply_kept m (Link a f ra b rb) can =
      let p = passed (tests o m (Link a f ra b rb)) can in
      ap (λ g. written m (record { kind = []; place = []; prank = []; attr = []; row = ((a, f, b), Some ra) ∷ mirror_write g a b rb }))
      (same_opposite o n f (link_same o n keeps (get m.kind a) f (get m.kind b) p.1.1.0))
  apply_kept m (Unlink a f ra b rb) can =
      let p = passed (tests o m (Unlink a f ra b rb)) can in
      ap (λ g. written m (record { kind = []; place = []; prank = []; attr = []; row = ((a, f, b), None) ∷ mirror_write g a b None }))
      (same_opposite o n f (link_same o n keeps (get m.kind a) f (get m.kind b) p.1.1.0))
  apply_kept m s can = refl

  same_side : (a : IdBytes) (f : ℕ) (b : IdBytes) → Same o n f → side n a f b ≡ side o a f b
  same_side a f b s = ap (λ t. elim t as (λ _. Cell) [ true ↦ OfWhole a f | false ↦ OfRow a f b ]) (same_bounded o n f s)

  same_list : (a : IdBytes) (f : ℕ) → Same o n f → place_list n (Inside a f) ≡ place_list o (Inside a f)
  same_list a f s = ap (λ t. elim t as (λ _. List Cell) [ true ↦ OfWhole a f ∷ [] | false ↦ [] ]) (same_finite o n f s)

  list_kept : (m : State) (c : ℕ) (p : Place) → may_stand o m c p ≡ true → place_list n p ≡ place_list o p
  list_kept m c Root may = refl
  list_kept m c (Inside a f) may = same_list a f (stand_same m c a f may)

  list_moved : (m : State) (c : Option ℕ) (p : Place) → may_move o m c p ≡ true → place_list n p ≡ place_list o p
  list_moved m None p may = cc
  list_moved m (Some c) p may = list_kept m c p may

  -- where an element stands it may stand
  list_stood : (m : State) → Good o m → (e : IdBytes) (p : Place) → option_eq place_eq (get m.place e) (Some p) ≡ true → place_list n p ≡ place_list o p
  list_stood m good e Root is = refl
  list_stood m good e (Inside a f) is =
      let here : get m.place e ≡ Some (Inside a f) = (option_equality place_eq place_equality).exact _ _ is in
      same_list a f (same_had o n keeps (get m.kind a) f
      (stood_has o m.kind (get m.kind e) a f (get m.prank e)
      (subst (λ x. PlaceOk o m.kind (get m.kind e) x (get m.prank e)) here (good.places.stands e))))

  mirror_sides : Sound o → (m : State) (a : IdBytes) (f : ℕ) (b : IdBytes) → may_link o (get m.kind a) f (get m.kind b) ≡ true
      → (g : Option ℕ) → opposite_of o f ≡ g → mirror_side n g a b ≡ mirror_side o g a b
  mirror_sides sound m a f b may None is = refl
  mirror_sides sound m a f b may (Some g) is = ap (λ c. c ∷ []) (same_side b g a (mirror_same o n keeps sound (get m.kind a) f (get m.kind b) g is may))

  link_cells : Sound o → (m : State) (a : IdBytes) (f : ℕ) (b : IdBytes) → may_link o (get m.kind a) f (get m.kind b) ≡ true
      → side n a f b ∷ mirror_side n (opposite_of n f) a b ≡ side o a f b ∷ mirror_side o (opposite_of o f) a b
  link_cells sound m a f b may =
      let s = link_same o n keeps (get m.kind a) f (get m.kind b) may in
      ap (λ c. c ∷ mirror_side n (opposite_of n f) a b) (same_side a f b s)
      ∙ ap (λ g. side o a f b ∷ mirror_side n g a b) (same_opposite o n f s)
      ∙ ap (λ cs. side o a f b ∷ cs) (mirror_sides sound m a f b may (opposite_of o f) refl)

  pub cells_kept : Sound o → (m : State) → Good o m → (s : Step) → Can o m s → step_writes n s ≡ step_writes o s
  cells_kept sound m good (Put e f old new) can = refl
  cells_kept sound m good (New e class place rank) can =
      let p = passed (tests o m (New e class place rank)) can in
      ap (λ cs. OfKind e ∷ OfPlace e ∷ OfRank e ∷ cs) (list_kept m class place p.1.1.1.0)
  cells_kept sound m good (Gone e class place rank) can =
      let p = passed (tests o m (Gone e class place rank)) can in
      ap (λ cs. OfKind e ∷ OfPlace e ∷ OfRank e ∷ cs) (list_stood m good e place p.1.1.0)
  cells_kept sound m good (Link a f ra b rb) can =
      let p = passed (tests o m (Link a f ra b rb)) can in
      link_cells sound m a f b p.1.1.0
  cells_kept sound m good (Unlink a f ra b rb) can =
      let p = passed (tests o m (Unlink a f ra b rb)) can in
      link_cells sound m a f b p.1.1.0
  cells_kept sound m good (RerankPlace e old new) can = refl
  cells_kept sound m good (Move e from from_rank to to_rank above_from above_to) can =
      let p = passed (tests o m (Move e from from_rank to to_rank above_from above_to)) can in
      ap (λ cs. OfPlace e ∷ OfRank e ∷ (cs ++ place_list n to)) (list_stood m good e from p.1.0)
      ∙ ap (λ cs. OfPlace e ∷ OfRank e ∷ (place_list o from ++ cs)) (list_moved m (get m.kind e) to p.1.1.1.1.1.0)
  cells_kept sound m good (Ins e f at v) can = refl
  cells_kept sound m good (Del e f at v) can = refl
  cells_kept sound m good (RerankRow a f b old new) can =
      let p = passed (tests o m (RerankRow a f b old new)) can in
      ap (λ c. c ∷ []) (same_side a f b (same_had o n keeps (get m.kind a) f p.1.0))
  cells_kept sound m good (Shift e f from to) can = refl
