-- An element is deleted, with all that it contains: the steps, and the model after it, defined without steps.
use Rattle.std.specs.Prelude.{Bool, not, cond, ◌||◌, List, [], ◌∷◌, ◌++◌, map, unwrap_or, None}
use Rattle.std.specs.List.{filter, list_any}
use Rattle.std.specs.FinMap.{get}
use Rattle.finite_maps.specs.Sorts.{without}
use Rattle.ecore_meta.specs.Meta.{Meta}
use Rattle.ecore_meta.specs.declared.meta.Kind.{Kind}
use Rattle.model_state.specs.declared.entry.Entry.{Entry}
use Rattle.model_state.specs.declared.entry.Incoming.{Incoming}
use Rattle.model_state.specs.declared.step.Place.TheVariants.{Root}
use Rattle.model_state.specs.declared.step.Step.{Step}
use Rattle.model_state.specs.declared.step.Step.TheVariants.{Gone}
use Rattle.model_state.specs.Keys.{IdBytes, AttrKey, RowKey}
use Rattle.model_state.specs.Listing.{targets, incoming, rank_at}
use Rattle.model_state.specs.State.{State}
use Rattle.model_state.specs.Typing.{kind_of, opposite_of, is_plain, is_attr, is_many}
use Rattle.edit_steps.specs.Attributes.{put_made}
use Rattle.edit_steps.specs.ManyValues.{clear_made}
use Rattle.edit_steps.specs.Rows.{Rows, is_row_or_mirror, mirror_rank, unlink_step, unlinks}
use Rattle.edit_steps.specs.Subtree.{features_of, is_among, subtree_of}

-- the features of each element whose kind passes a test, by number
abbrev pub slots_of : Meta → State → (Kind → Bool) → List IdBytes → List AttrKey
slots_of meta m p [] = []
slots_of meta m p (x ∷ xs) = map (λ f. (x, f)) (features_of meta p (get m.kind x)) ++ slots_of meta m p xs

-- the row is one of these features of elements, or the mirror of such a row
abbrev pub is_touched : Meta → List AttrKey → RowKey → Bool
is_touched meta slots k = list_any (λ (s : AttrKey). is_row_or_mirror (opposite_of meta s.1) s.0 s.1 k) slots

-- ---- the rows out of the elements
-- the targets of a feature whose rows are still there, once the rows of the features before are removed
abbrev pub targets_left : Meta → Rows → List AttrKey → AttrKey → List Entry
targets_left meta row before s = filter (λ (x : Entry). not (is_touched meta before (s.0, s.1, x.id))) (targets row s.0 s.1)

-- each feature in turn, after those before, is unlinked from the targets that are left
abbrev pub outgoing_made : Meta → Rows → List AttrKey → List AttrKey → List Step
outgoing_made meta row before [] = []
outgoing_made meta row before (s ∷ ss) =
    unlinks row (opposite_of meta s.1) s.0 s.1 (targets_left meta row before s) ++ outgoing_made meta row (before ++ s ∷ []) ss

-- ---- the rows to the elements
-- the unlink of a row to x
abbrev pub incoming_unlink : Meta → Rows → IdBytes → Incoming → Step
incoming_unlink meta row x i = unlink_step (opposite_of meta i.feature) i.source i.feature i.rank x (mirror_rank row (opposite_of meta i.feature) i.source x)

-- the rows to x that are still there, once the rows of these features are removed
abbrev pub incoming_left : Meta → Rows → List AttrKey → IdBytes → List Incoming
incoming_left meta row slots x = filter (λ (i : Incoming). not (is_touched meta slots (i.source, i.feature, x))) (incoming row x)

-- the unlinks of such rows to each of the elements, one element after another
abbrev pub incoming_made : Meta → Rows → List AttrKey → List IdBytes → List Step
incoming_made meta row slots [] = []
incoming_made meta row slots (x ∷ xs) = map (incoming_unlink meta row x) (incoming_left meta row slots x) ++ incoming_made meta row slots xs

-- ---- the values
-- an attribute, single or many-valued
abbrev pub holds_values : Kind → Bool
holds_values k = is_attr k || is_many k

-- a single attribute is unset; of a many-valued one each value is removed, the last first
abbrev pub emptied_made : Meta → State → AttrKey → List Step
emptied_made meta m s = cond (is_attr (kind_of meta s.1)) (put_made m s.0 s.1 None) (clear_made m s.0 s.1)

-- the steps that empty each of these attributes
abbrev pub values_made : Meta → State → List AttrKey → List Step
values_made meta m [] = []
values_made meta m (s ∷ ss) = emptied_made meta m s ++ values_made meta m ss

-- ---- the elements
-- an element is deleted where it stands
abbrev pub gone_step : State → IdBytes → Step
gone_step m x = Gone x (unwrap_or (get m.kind x) 0) (unwrap_or (get m.place x) Root) (rank_at m.prank x)

-- the last element is deleted first
abbrev pub gone_made : State → List IdBytes → List Step
gone_made m [] = []
gone_made m (x ∷ xs) = gone_made m xs ++ gone_step m x ∷ []

-- ---- all of it
-- The rows out of the elements are unlinked, then what is left of those to them. Their values are removed, and then they are
-- deleted themselves.
abbrev pub removal_made : Meta → State → List IdBytes → List Step
removal_made meta m xs =
    let references = slots_of meta m is_plain xs in
    outgoing_made meta m.row [] references
    ++ (incoming_made meta m.row references xs
    ++ (values_made meta m (slots_of meta m holds_values xs)
    ++ gone_made m xs))

-- all maps without the elements; a row stays where both its ends stay
abbrev pub removal_after : State → List IdBytes → State
removal_after m xs = record {
  kind = without (is_among xs) m.kind;
  place = without (is_among xs) m.place;
  prank = without (is_among xs) m.prank;
  attr = without (λ (k : AttrKey). is_among xs k.0) m.attr;
  row = without (λ (k : RowKey). is_among xs k.0 || is_among xs k.2) m.row;
}

-- the steps that delete an element with its subtree
abbrev pub delete_made : Meta → State → IdBytes → List Step
delete_made meta m e = removal_made meta m (subtree_of meta m e)

-- the model without the subtree of the element
abbrev pub delete_after : Meta → State → IdBytes → State
delete_after meta m e = removal_after m (subtree_of meta m e)
