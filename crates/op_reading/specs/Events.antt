-- Events as they are read: a byte for the kind, and the fields in their order.
use Rattle.std.specs.Prelude.{ℕ, ◌==◌, List, [], ◌∷◌, Result, Ok, Err, if◌then◌else◌}
use Rattle.byte_form.specs.Rest.{Rest}
use Rattle.byte_form.specs.Fields.{◌>>=◌, ends_at}
use Rattle.op_reading.specs.declared.fault.FormFault.{FormFault}
use Rattle.op_reading.specs.declared.fault.FormFault.TheVariants.{NotForm}
use Rattle.op_form.specs.declared.event.Event.{Event}
use Rattle.op_form.specs.declared.event.Event.TheVariants.{Init, Checkout, Edit, Begin, End, Undo, Discard, Tidy, Commit, Branch, Tag, Update, Merge}
use Rattle.op_form.specs.declared.event.Event.TheVariants.{Drop, Evolve, Upgrade, Signed}
use Rattle.op_reading.specs.Reading.{Reading, made, ◌⊗◌, field, nothing_at, u8_at, u32_at, u64_at, any_text_at}
use Rattle.op_reading.specs.Packages.{package_at}

-- Init: the text of the metamodel
unfoldable pub init_at : Reading Event
init_at r = made (λ t. Init t) (any_text_at r)

-- Checkout: the version and the branch
unfoldable pub checkout_at : Reading Event
checkout_at r = made (λ t. Checkout t.0 t.1) ((u32_at ⊗ u32_at) r)

-- Edit: the workspace and the package
unfoldable pub edit_at : Reading Event
edit_at r = made (λ t. Edit t.0 t.1) ((u32_at ⊗ package_at) r)

-- Begin: the workspace and the name
unfoldable pub begin_at : Reading Event
begin_at r = made (λ t. Begin t.0 t.1) ((u32_at ⊗ any_text_at) r)

-- Commit: the workspace and the message
unfoldable pub commit_at : Reading Event
commit_at r = made (λ t. Commit t.0 t.1) ((u32_at ⊗ any_text_at) r)

-- Branch: the workspace and the name
unfoldable pub branch_at : Reading Event
branch_at r = made (λ t. Branch t.0 t.1) ((u32_at ⊗ any_text_at) r)

-- Tag: the name and the version
unfoldable pub tag_at : Reading Event
tag_at r = made (λ t. Tag t.0 t.1) ((any_text_at ⊗ u32_at) r)

-- Update: the workspace and the choices
unfoldable pub update_at : Reading Event
update_at r = made (λ t. Update t.0 t.1) ((u32_at ⊗ any_text_at) r)

-- Merge: the workspace, the branch and the choices
unfoldable pub merge_at : Reading Event
merge_at r = made (λ t. Merge t.0 t.1.0 t.1.1) ((u32_at ⊗ u32_at ⊗ any_text_at) r)

-- Evolve: the text of the metamodel
unfoldable pub evolve_at : Reading Event
evolve_at r = made (λ t. Evolve t) (any_text_at r)

-- Upgrade: nothing
unfoldable pub upgrade_at : Reading Event
upgrade_at r = made (λ t. Upgrade) (nothing_at r)

-- Signed: the workspace, the author, the moment and the message
unfoldable pub signed_at : Reading Event
signed_at r = made (λ t. Signed t.0 t.1.0 t.1.1.0 t.1.1.1) ((u32_at ⊗ any_text_at ⊗ u64_at ⊗ any_text_at) r)

-- an event that has a workspace alone
abbrev pub of_workspace : (ℕ → Event) → Reading Event
of_workspace make r = made make (u32_at r)

-- each kind of event: its byte, and how its fields are read
abbrev pub events_by_kind : List (ℕ × Reading Event)
events_by_kind =
    (1, init_at) ∷
    (2, checkout_at) ∷
    (3, edit_at) ∷
    (4, begin_at) ∷
    (5, of_workspace (λ ws. End ws)) ∷
    (6, of_workspace (λ ws. Undo ws)) ∷
    (7, of_workspace (λ ws. Discard ws)) ∷
    (8, of_workspace (λ ws. Tidy ws)) ∷
    (9, commit_at) ∷
    (10, branch_at) ∷
    (11, tag_at) ∷
    (12, update_at) ∷
    (13, merge_at) ∷
    (14, of_workspace (λ ws. Drop ws)) ∷
    (15, evolve_at) ∷
    (16, upgrade_at) ∷
    (17, signed_at) ∷ []

-- the event of that kind, read as its row of these says
abbrev pub event_of_kind : List (ℕ × Reading Event) → ℕ → ℕ × Rest → Result (Event × Rest) FormFault
event_of_kind [] offset kind = Err (NotForm offset)
event_of_kind (row ∷ rows) offset kind = if kind.0 == row.0 then row.1 kind.1 else event_of_kind rows offset kind

-- an event: its kind's byte, and the fields of that kind
unfoldable pub event_at : Reading Event
event_at r = u8_at r >>= event_of_kind events_by_kind r.offset

-- all of some bytes, as one value
unfoldable pub whole_of : {X : Type 0} → Reading X → List ℕ → Result X FormFault
whole_of read bytes = read (record { bytes = bytes; offset = 0 }) >>= λ x. field (ends_at x.1) >>= λ end. Ok x.0
