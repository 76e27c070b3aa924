-- The state of a model: five finite maps.
use Rattle.std.specs.Prelude.{ℕ, Bool, true, false, List, [], Option, is_some, nat_eq, ◌&&◌, ◌||◌}
use Rattle.std.specs.FinMap.{FinMap, get, empty}
use Rattle.finite_maps.specs.Maps.{set_all, count}
use Rattle.finite_maps.specs.Equal.{text_eq}
use Rattle.ecore_meta.specs.declared.meta.Value.{Value}
use Rattle.model_state.specs.declared.step.Place.{Place}
use Rattle.model_state.specs.declared.step.Place.TheVariants.{Root, Inside}
use Rattle.model_state.specs.Keys.{IdBytes, AttrKey, RowKey, id_cmp, attr_cmp, row_cmp}

-- the five maps of a model
pub record State : Type 0 where
  -- the class of each live element
  pub kind : FinMap id_cmp ℕ
  -- where it stands
  pub place : FinMap id_cmp Place
  -- its rank there
  pub prank : FinMap id_cmp ℕ
  -- the values of its attributes that are set
  pub attr : FinMap attr_cmp (List Value)
  -- the rank of each reference
  pub row : FinMap row_cmp ℕ

-- no element
abbrev pub nothing : State
nothing = record { kind = empty; place = empty; prank = empty; attr = empty; row = empty }

-- equal places
abbrev pub place_eq : Place → Place → Bool
place_eq Root Root = true
place_eq Root (Inside b g) = false
place_eq (Inside a f) Root = false
place_eq (Inside a f) (Inside b g) = text_eq a b && nat_eq f g

-- the element is there
abbrev pub is_live : State → IdBytes → Bool
is_live m e = is_some (get m.kind e)

-- the place is inside the element
abbrev pub is_inside : IdBytes → Place → Bool
is_inside e Root = false
is_inside e (Inside a f) = text_eq e a

-- how many elements stand in a place
abbrev pub child_count : State → Place → ℕ
child_count m p = count (λ e. place_eq p e.1) m.place

-- how many targets a feature of an element has
abbrev pub row_count : State → IdBytes → ℕ → ℕ
row_count m a f = count (λ e. text_eq a e.0.0 && nat_eq f e.0.1) m.row

-- how many attributes of an element are set
abbrev pub value_count : State → IdBytes → ℕ
value_count m e = count (λ x. text_eq e x.0.0) m.attr

-- how many references begin at an element or end at it
abbrev pub link_count : State → IdBytes → ℕ
link_count m e = count (λ x. text_eq e x.0.0 || text_eq e x.0.2) m.row

-- how many elements stand inside an element
abbrev pub inner_count : State → IdBytes → ℕ
inner_count m e = count (λ x. is_inside e x.1) m.place

-- the writes of a step, map by map
pub record Writes : Type 0 where
  pub kind : List (IdBytes × Option ℕ)
  pub place : List (IdBytes × Option Place)
  pub prank : List (IdBytes × Option ℕ)
  pub attr : List (AttrKey × Option (List Value))
  pub row : List (RowKey × Option ℕ)

-- nothing is written
abbrev pub no_writes : Writes
no_writes = record { kind = []; place = []; prank = []; attr = []; row = [] }

-- the state once each map has its writes
abbrev pub written : State → Writes → State
written m w = record {
  kind = set_all m.kind w.kind;
  place = set_all m.place w.place;
  prank = set_all m.prank w.prank;
  attr = set_all m.attr w.attr;
  row = set_all m.row w.row;
}
