-- The invariant of the states that steps make of the empty one, map by map.
use Rattle.std.specs.Prelude.{◌≡◌, ℕ, ◌≤◌, Bool, true, false, List, [], ◌∷◌, Option, None, Some, is_some, nat_eq, not, ◌&&◌, length, cond}
use Rattle.std.specs.FinMap.{FinMap, get}
use Rattle.std.specs.List.{list_all, list_any}
use Rattle.finite_maps.specs.Maps.{is_within, count}
use Rattle.finite_maps.specs.Equal.{text_eq}
use Rattle.ecore_meta.specs.Meta.{Meta}
use Rattle.ecore_meta.specs.declared.meta.Kind.{Kind}
use Rattle.ecore_meta.specs.declared.meta.Kind.TheVariants.{Attr, AttrMany, Bounded, Free, Contains, Container, Skip}
use Rattle.ecore_meta.specs.declared.meta.Value.{Value}
use Rattle.model_state.specs.declared.step.Place.{Place}
use Rattle.model_state.specs.declared.step.Place.TheVariants.{Root, Inside}
use Rattle.model_state.specs.Keys.{IdBytes, id_cmp, attr_cmp, row_cmp}
use Rattle.model_state.specs.Typing.{has_feature, kind_of, upper_of, row_upper, child_upper, opposite_of, is_concrete, contains_to, fits, value_eq, is_default}
use Rattle.model_state.specs.State.{State, place_eq}
use Rattle.model_state.specs.Steps.{class_has, may_link}
use Rattle.model_state.specs.Ranks.{most_entries}
pub use Rattle.model_state.specs.Chains.{IsChain}
pub use Rattle.ecore_meta.specs.Sound.{Sound}

-- each value differs from those after it
abbrev pub is_distinct : List Value → Bool
is_distinct [] = true
is_distinct (v ∷ vs) = not (list_any (value_eq v) vs) && is_distinct vs

-- a list of values that an attribute of the kind may hold
abbrev pub ValuesOk : Meta → Kind → Option ℕ → List Value → Type 0
ValuesOk meta (Attr scalar default) upper (v ∷ []) = (fits meta scalar v ≡ true) × (is_default (Attr scalar default) v ≡ false)
ValuesOk meta (Attr scalar default) upper vs = ⊥
ValuesOk meta (AttrMany scalar unique) upper (v ∷ vs) =
    (list_all (fits meta scalar) (v ∷ vs) ≡ true) × (is_within (length (v ∷ vs)) upper ≡ true) × (length (v ∷ vs) ≤ most_entries)
    × (cond unique (is_distinct (v ∷ vs)) true ≡ true)
ValuesOk meta (AttrMany scalar unique) upper [] = ⊥
ValuesOk meta (Bounded target opposite) upper vs = ⊥
ValuesOk meta (Free target opposite) upper vs = ⊥
ValuesOk meta (Contains target opposite) upper vs = ⊥
ValuesOk meta (Container target opposite) upper vs = ⊥
ValuesOk meta Skip upper vs = ⊥

-- an attribute's entry, by the class of its element
abbrev pub AttrOk : Meta → Option ℕ → ℕ → Option (List Value) → Type 0
AttrOk meta c f None = Unit {0}
AttrOk meta None f (Some vs) = ⊥
AttrOk meta (Some c) f (Some vs) = (has_feature meta c f ≡ true) × ValuesOk meta (kind_of meta f) (upper_of meta f) vs

-- the attributes are those of live elements, with values that they may hold
pub record GoodAttrs (meta : Meta) (kind : FinMap id_cmp ℕ) (attr : FinMap attr_cmp (List Value)) : Type 0 where
  pub typed : (e : IdBytes) (f : ℕ) → AttrOk meta (get kind e) f (get attr (e, f))

-- a row's entry, by the classes of its ends
abbrev pub RowOk : Meta → Option ℕ → ℕ → Option ℕ → Option ℕ → Type 0
RowOk meta c f d None = Unit {0}
RowOk meta c f d (Some rank) = may_link meta c f d ≡ true

-- the rows are of plain features of live elements, each with its mirror, in lists within their bounds
pub record GoodRows (meta : Meta) (kind : FinMap id_cmp ℕ) (row : FinMap row_cmp ℕ) : Type 0 where
  pub typed : (a : IdBytes) (f : ℕ) (b : IdBytes) → RowOk meta (get kind a) f (get kind b) (get row (a, f, b))
  pub mirrored : (a : IdBytes) (f : ℕ) (b : IdBytes) (g : ℕ) → opposite_of meta f ≡ Some g → is_some (get row (a, f, b)) ≡ is_some (get row (b, g, a))
  pub bound : (a : IdBytes) (f : ℕ) → is_within (count (λ e. text_eq a e.0.0 && nat_eq f e.0.1) row) (row_upper meta f) ≡ true

-- where an element of the class may stand
abbrev pub StandsOk : Meta → FinMap id_cmp ℕ → ℕ → Place → Type 0
StandsOk meta kind c Root = Unit {0}
StandsOk meta kind c (Inside a f) = (class_has meta (get kind a) f ≡ true) × (contains_to meta (kind_of meta f) c ≡ true)

-- an element is live exactly where it has a place and a rank
abbrev pub PlaceOk : Meta → FinMap id_cmp ℕ → Option ℕ → Option Place → Option ℕ → Type 0
PlaceOk meta kind None None None = Unit {0}
PlaceOk meta kind (Some c) (Some p) (Some r) = (is_concrete meta c ≡ true) × StandsOk meta kind c p
PlaceOk meta kind c p r = ⊥

-- each live element stands where it may, in chains that end at the root, in places within their bounds
pub record GoodPlaces (meta : Meta) (kind : FinMap id_cmp ℕ) (place : FinMap id_cmp Place) (prank : FinMap id_cmp ℕ) : Type 0 where
  pub stands : (e : IdBytes) → PlaceOk meta kind (get kind e) (get place e) (get prank e)
  pub bound : (a : IdBytes) (f : ℕ) → is_within (count (λ e. place_eq (Inside a f) e.1) place) (child_upper meta f) ≡ true
  pub ends : (e : IdBytes) (p : Place) → get place e ≡ Some p → (xs : List IdBytes) × IsChain place (Some p) xs

-- a good state: its places, its attributes and its rows are good
pub record Good (meta : Meta) (m : State) : Type 0 where
  pub places : GoodPlaces meta m.kind m.place m.prank
  pub attrs : GoodAttrs meta m.kind m.attr
  pub rows : GoodRows meta m.kind m.row
