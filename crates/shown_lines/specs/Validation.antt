-- Which features of which elements hold less than their lower bounds ask, and the lines that say so.
use Rattle.std.specs.Prelude.{ℕ, Bool, false, ◌||◌, List, [], ◌∷◌, ◌++◌, Option, None, Some, cond, is_some, length, nat_eq, nat_lt, slice_get}
use Rattle.std.specs.FinMap.{get}
use Rattle.std.specs.Fmt.{decimal}
use Rattle.std.specs.Option.{option_map_or}
use Rattle.ecore_meta.specs.Meta.{Meta, features_of}
use Rattle.ecore_meta.specs.Typing.{kind_of}
use Rattle.ecore_meta.specs.declared.meta.Kind.{Kind}
use Rattle.ecore_meta.specs.declared.meta.Kind.TheVariants.{Attr, AttrMany, Bounded, Free, Contains, Container, Skip}
use Rattle.model_state.specs.declared.step.Place.{Place}
use Rattle.model_state.specs.declared.step.Place.TheVariants.{Root, Inside}
use Rattle.model_state.specs.Keys.{IdBytes}
use Rattle.model_state.specs.Listing.{children, ids, targets, values_at}
use Rattle.model_state.specs.State.{State}
use Rattle.shown_lines.specs.Lines.{feature_name, after_spaces}

-- the element stands in that feature of its container
abbrev pub stands_in : ℕ → Option Place → Bool
stands_in f None = false
stands_in f (Some Root) = false
stands_in f (Some (Inside a g)) = nat_eq f g

-- 1 where the test holds, else 0
abbrev pub one_if : Bool → ℕ
one_if b = cond b 1 0

-- How much a feature of an element holds. A single attribute holds one value where it is set or has a default. A container holds
-- one where the element stands in its opposite, and the others hold their entries.
abbrev pub held_count : State → IdBytes → ℕ → Kind → ℕ
held_count m e f (Attr scalar default) = one_if (is_some default || nat_lt 0 (length (values_at m e f)))
held_count m e f (AttrMany scalar unique) = length (values_at m e f)
held_count m e f (Bounded target opposite) = length (targets m.row e f)
held_count m e f (Free target opposite) = length (targets m.row e f)
held_count m e f (Contains target opposite) = length (children m.place m.prank (Inside e f))
held_count m e f (Container target opposite) = one_if (stands_in opposite (get m.place e))
held_count m e f Skip = 0

-- how much the feature of that number holds
abbrev pub held_in : Meta → State → IdBytes → ℕ → ℕ
held_in meta m e f = held_count m e f (kind_of meta f)

-- the lower bound of a feature; 0 for those that are skipped, so that they are never short
abbrev pub lower_in : Kind → ℕ → ℕ
lower_in (Attr scalar default) lower = lower
lower_in (AttrMany scalar unique) lower = lower
lower_in (Bounded target opposite) lower = lower
lower_in (Free target opposite) lower = lower
lower_in (Contains target opposite) lower = lower
lower_in (Container target opposite) lower = lower
lower_in Skip lower = 0

-- the lower bound of the feature of that number
abbrev pub lower_of : Meta → ℕ → ℕ
lower_of meta f = lower_in (kind_of meta f) (option_map_or (λ feature. feature.lower) (slice_get meta.features f) 0)

-- the element, its feature, what it holds and what it has to hold
abbrev pub shortage_line : Meta → State → IdBytes → ℕ → List ℕ
shortage_line meta m e f = e ++ after_spaces (feature_name meta f ∷ decimal (held_in meta m e f) ∷ decimal (lower_of meta f) ∷ [])

-- the line of a feature that holds less than it has to, none of another
abbrev pub line_if_short : Meta → State → IdBytes → ℕ → List (List ℕ)
line_if_short meta m e f = cond (nat_lt (held_in meta m e f) (lower_of meta f)) (shortage_line meta m e f ∷ []) []

-- a line for each of the features that is short
abbrev pub feature_lines : Meta → State → IdBytes → List ℕ → List (List ℕ)
feature_lines meta m e [] = []
feature_lines meta m e (f ∷ fs) = line_if_short meta m e f ++ feature_lines meta m e fs

-- the features of an element, by number
abbrev pub features_at : Meta → Option ℕ → List ℕ
features_at meta None = []
features_at meta (Some c) = features_of meta c

-- the lines of each of the elements
abbrev pub element_lines : Meta → State → List IdBytes → List (List ℕ)
element_lines meta m [] = []
element_lines meta m (e ∷ es) = feature_lines meta m e (features_at meta (get m.kind e)) ++ element_lines meta m es

-- the elements in the order of their ids, and the features of each by number
unfoldable pub validate_lines : Meta → State → List (List ℕ)
validate_lines meta m = element_lines meta m (ids m)
