-- The rows that the walk gives for an element: its own, and those of the elements inside.
use Rattle.std.proofs.Common.{◌≡◌, ℕ, zero, suc, ◌+◌, Bool, false, List, [], ◌∷◌, ◌++◌, length, map}
use Rattle.std.specs.Prelude.{Option, None, Some, unwrap_or}
use Rattle.std.specs.FinMap.{get}
use Rattle.std.specs.List.{list_any}
use Rattle.finite_maps.specs.Equal.{option_eq, text_eq}
use Rattle.ecore_meta.specs.Meta.{Meta}
use Rattle.ecore_meta.specs.Typing.{kind_of}
use Rattle.ecore_meta.specs.declared.meta.Kind.{Kind}
use Rattle.ecore_meta.specs.declared.meta.Kind.TheVariants.{Attr, AttrMany, Bounded, Free, Contains, Container, Skip}
use Rattle.ecore_meta.specs.declared.meta.Value.{Value}
use Rattle.model_state.specs.declared.step.Place.TheVariants.{Inside}
use Rattle.model_state.specs.Keys.{IdBytes}
use Rattle.model_state.specs.State.{State}
use Rattle.model_documents.specs.declared.doc.DocAttr.{DocAttr}
use Rattle.model_documents.specs.declared.doc.DocParent.{DocParent}
use Rattle.model_documents.specs.Parts.{Part, Ids}
use Rattle.model_texts.specs.Keys.{key_number, keys_of}
use Rattle.model_state.specs.Listing.{values_at}
use Rattle.model_texts.specs.Tree.{child_ids, target_ids}
use Rattle.round_trip.proofs.KeysTypes.{ElementDraft, Links, Key}

-- ---- what stands under a feature
-- the values of an attribute, where it has some
abbrev pub set_attr : ℕ → List Value → List DocAttr
set_attr f [] = []
set_attr f (v ∷ vs) = record { feature = f; values = v ∷ vs } ∷ []

-- the entries of a reference, where it has some
abbrev pub set_links : ℕ → List IdBytes → List Links
set_links f [] = []
set_links f (b ∷ bs) = record { feature = f; entries = map (λ x. Some x) (b ∷ bs) } ∷ []

-- by the number of a key
abbrev pub by_number : {A : Type 0} → (ℕ → List A) → ℕ → List A
by_number g zero = []
by_number g (suc zero) = []
by_number g (suc (suc f)) = g f

-- the rows of some elements in a place, where below gives those of one after so many rows
abbrev pub forest : (ℕ → Option DocParent → IdBytes → List ElementDraft) → ℕ → Option DocParent → List IdBytes → List ElementDraft
forest below k parent [] = []
forest below k parent (c ∷ cs) = below k parent c ++ forest below (k + length (below k parent c)) parent cs

module _ (m : State) (e : IdBytes) (f : ℕ) where
  -- the values of a feature of the kind
  abbrev pub kind_attrs : Kind → List DocAttr
  kind_attrs (Attr scalar default) = set_attr f (values_at m e f)
  kind_attrs (AttrMany scalar unique) = set_attr f (values_at m e f)
  kind_attrs (Bounded target opposite) = []
  kind_attrs (Free target opposite) = []
  kind_attrs (Contains target opposite) = []
  kind_attrs (Container target opposite) = []
  kind_attrs Skip = []

  -- its entries
  abbrev pub kind_links : Kind → List Links
  kind_links (Attr scalar default) = []
  kind_links (AttrMany scalar unique) = []
  kind_links (Bounded target opposite) = set_links f (target_ids m e f)
  kind_links (Free target opposite) = set_links f (target_ids m e f)
  kind_links (Contains target opposite) = []
  kind_links (Container target opposite) = []
  kind_links Skip = []

  -- the rows of the elements in it, after so many rows
  abbrev pub kind_rows : (ℕ → Option DocParent → IdBytes → List ElementDraft) → ℕ → ℕ → Kind → List ElementDraft
  kind_rows below own k (Attr scalar default) = []
  kind_rows below own k (AttrMany scalar unique) = []
  kind_rows below own k (Bounded target opposite) = []
  kind_rows below own k (Free target opposite) = []
  kind_rows below own k (Contains target opposite) = forest below k (Some (record { row = own; feature = f })) (child_ids m (Inside e f))
  kind_rows below own k (Container target opposite) = []
  kind_rows below own k Skip = []

-- ---- what stands under the keys of an object
module _ (meta : Meta) (m : State) (e : IdBytes) where
  -- the values under a key
  abbrev pub key_attrs : Key → List DocAttr
  key_attrs key = by_number (λ f. kind_attrs m e f (kind_of meta f)) (key_number key)

  -- the entries under a key
  abbrev pub key_links : Key → List Links
  key_links key = by_number (λ f. kind_links m e f (kind_of meta f)) (key_number key)

  -- the values under some keys
  abbrev pub keys_attrs : List Key → List DocAttr
  keys_attrs [] = []
  keys_attrs (key ∷ keys) = key_attrs key ++ keys_attrs keys

  -- the entries under some keys
  abbrev pub keys_links : List Key → List Links
  keys_links [] = []
  keys_links (key ∷ keys) = key_links key ++ keys_links keys

  module _ (below : ℕ → Option DocParent → IdBytes → List ElementDraft) (own : ℕ) where
    -- the rows of the elements under a key, after so many rows
    abbrev pub key_rows : ℕ → Key → List ElementDraft
    key_rows k key = by_number (λ f. kind_rows m e f below own k (kind_of meta f)) (key_number key)

    -- after so many rows
    abbrev pub keys_rows : ℕ → List Key → List ElementDraft
    keys_rows k [] = []
    keys_rows k (key ∷ keys) = key_rows k key ++ keys_rows (k + length (key_rows k key)) keys

    -- what a key gives
    abbrev pub key_part_told : ℕ → Key → Part
    key_part_told k key = record { attrs = key_attrs key; links = key_links key; rows = key_rows k key }

    -- what some keys give
    abbrev pub told : ℕ → List Key → Part
    told k keys = record { attrs = keys_attrs keys; links = keys_links keys; rows = keys_rows k keys }

-- ---- elements
module _ (meta : Meta) (m : State) where
  -- the class of an element
  abbrev pub class_at : IdBytes → ℕ
  class_at e = unwrap_or (get m.kind e) 0

  -- the row of an element
  abbrev pub own_row : Option DocParent → IdBytes → ElementDraft
  own_row parent e = record {
    id = Some e;
    class = class_at e;
    parent = parent;
    attrs = keys_attrs meta m e (keys_of meta (class_at e));
    links = keys_links meta m e (keys_of meta (class_at e));
  }

  -- the rows of an element after so many rows, down to a depth
  unfoldable pub tree_rows : ℕ → ℕ → Option DocParent → IdBytes → List ElementDraft
  tree_rows zero k parent e = []
  tree_rows (suc n) k parent e = own_row parent e ∷ keys_rows meta m e (tree_rows n) k (suc k) (keys_of meta (class_at e))

-- ---- ids
abbrev pub among : Option IdBytes → Ids → Bool
among None ids = false
among (Some id) ids = list_any (option_eq text_eq (Some id)) ids

-- the ids come one by one after others, and none has been there
abbrev pub Come : Ids → Ids → Type 0
Come ids [] = Unit {0}
Come ids (x ∷ xs) = (among x ids ≡ false) × Come (ids ++ x ∷ []) xs
