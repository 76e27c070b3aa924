-- The steps in which the elements of a document are created.
use Rattle.std.specs.Prelude.{ℕ, suc, ◌+◌, ◌*◌, Bool, true, List, [], ◌∷◌, ◌++◌, Option, None, Some, Result, Ok, Err, slice_get, take, if◌then◌else◌}
use Rattle.model_state.specs.declared.entry.Entry.{Entry}
use Rattle.model_state.specs.declared.step.Place.{Place}
use Rattle.model_state.specs.declared.step.Place.TheVariants.{Root, Inside}
use Rattle.model_state.specs.declared.step.Step.{Step}
use Rattle.model_state.specs.declared.step.Step.TheVariants.{New}
use Rattle.model_state.specs.Keys.{IdBytes}
use Rattle.edit_steps.specs.declared.fault.EditFault.{EditFault}
use Rattle.edit_steps.specs.declared.fault.EditFault.TheVariants.{Bound}
use Rattle.model_documents.specs.Fits.{standing}
use Rattle.model_documents.specs.declared.doc.DocParent.{DocParent}
use Rattle.model_documents.specs.declared.doc.DocRow.{DocRow}
use Rattle.import_laws.specs.Names.{name_at}
use Rattle.import_laws.specs.Roots.{has_end, root_after, root_made}
use Rattle.model_state.specs.Ranks.{rank_gap}

-- the rank of the k-th entry of a new list, from 0: evenly spread
abbrev pub rank_of : ℕ → ℕ
rank_of k = (k + 1) * rank_gap

-- inside the element of that id, or at the root
abbrev pub inside : Option IdBytes → ℕ → Place
inside None f = Root
inside (Some a) f = Inside a f

-- the place of a row, whose parent is a row
abbrev pub place_of : List IdBytes → Option DocParent → Place
place_of names None = Root
place_of names (Some p) = inside (slice_get names p.row) p.feature

-- a new element at the root is put after the last, where there is a rank
abbrev pub has_room : List Entry → Place → Bool
has_room xs Root = has_end xs
has_room xs (Inside a f) = true

-- the steps for a new element, which is the k-th of a place that is not the root
abbrev pub element_made : List Entry → Place → IdBytes → ℕ → ℕ → List Step
element_made xs Root e c k = root_made xs e c
element_made xs (Inside a f) e c k = New e c (Inside a f) (rank_of k) ∷ []

-- the root's elements after that
abbrev pub roots_after : List Entry → Place → IdBytes → List Entry
roots_after xs Root e = root_after xs e
roots_after xs (Inside a f) e = xs

-- the steps of the rows from the n-th on, after those of the rows before; xs are the root's elements
abbrev pub news_from : List IdBytes → List DocRow → List Step → ℕ → List Entry → List DocRow → Result (List Step) EditFault
news_from names rows steps n xs [] = Ok steps
news_from names rows steps n xs (r ∷ rest) =
    if has_room xs (place_of names r.parent)
    then news_from names rows (steps ++ element_made xs (place_of names r.parent) (name_at names n) r.class (standing r.parent (take n rows))) (suc n)
    (roots_after xs (place_of names r.parent) (name_at names n)) rest
    else Err Bound

-- the steps of all rows
abbrev pub news_made : List Entry → List IdBytes → List DocRow → Result (List Step) EditFault
news_made xs names rows = news_from names rows [] 0 xs rows
