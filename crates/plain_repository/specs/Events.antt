-- What an event makes of the repository, and which events could be made: one line an event. Some of these come of no command, as
-- a Commit whose message has a line feed.
use Rattle.std.specs.Option.{option_map_or}
use Rattle.std.specs.Prelude.{ℕ, ◌+◌, ◌&&◌, ◌==◌, nat_lt, List, [], ◌∷◌, Bool, true, false, length, Option, Some, None, is_some}
use Rattle.commit_journal.specs.Journal.{next_gate}
use Rattle.ecore_meta.specs.Meta.{Meta}
use Rattle.model_state.specs.Names.{is_name}
use Rattle.op_form.specs.declared.event.Event.{Event}
use Rattle.op_form.specs.declared.event.Event.TheVariants.{Init, Checkout, Edit, Begin, End, Undo, Discard, Tidy, Commit, Branch, Tag, Update, Merge}
use Rattle.op_form.specs.declared.event.Event.TheVariants.{Drop, Evolve, Upgrade, Signed}
use Rattle.history_tree.specs.History.{head}
use Rattle.op_form.specs.Events.{event_encoding}
use Rattle.plain_repository.specs.State.{State, Workspace, workspace_of, is_open, is_closed}
use Rattle.plain_repository.specs.Answers.{most_events, fits_record}
use Rattle.plain_repository.specs.Changes.{Change, Begins, Extends, Upgrades, Opens, Drops, Within, Makes, Branches, Tags, applied, meta_with}
use Rattle.plain_repository.specs.Changes.{workspace_with, signing_of, suits_store, first_text}
use Rattle.plain_repository.specs.Metamodels.{is_metamodel, can_evolve}
use Rattle.plain_repository.specs.Checkouts.{can_check_out}
use Rattle.plain_repository.specs.Commits.{can_commit, is_new_branch, can_tag}
use Rattle.plain_repository.specs.Edits.{with_more, can_follow}
use Rattle.plain_repository.specs.Composites.{with_open, can_begin, with_closed}
use Rattle.plain_repository.specs.Local.{without_last, can_undo, without_any, can_discard}
use Rattle.plain_repository.specs.Tidying.{tidied, can_tidy}
use Rattle.plain_repository.specs.Merging.{updated, can_update, merged_with, can_merge}

-- a change that goes by the metamodel, where there is one
abbrev pub by_meta : Option Meta → (Meta → Workspace → Workspace) → Workspace → Workspace
by_meta None change w = w
by_meta (Some meta) change w = change meta w

-- what each event changes
abbrev pub change_of : Event → Change
change_of (Init text) = Begins text
change_of (Checkout version branch) = Opens version branch
change_of (Edit ws operations) = Within ws (λ s. with_more operations)
change_of (Begin ws name) = Within ws (λ s. with_open name)
change_of (End ws) = Within ws (λ s. with_closed)
change_of (Undo ws) = Within ws (λ s. without_last)
change_of (Discard ws) = Within ws (λ s. without_any)
change_of (Tidy ws) = Within ws (λ s. by_meta s.meta tidied)
change_of (Commit ws message) = Makes ws None message
change_of (Branch ws name) = Branches ws name
change_of (Tag name version) = Tags name version
change_of (Update ws letters) = Within ws (λ s. by_meta s.meta (λ meta. updated meta s.history letters))
change_of (Merge ws branch letters) = Within ws (λ s. by_meta s.meta (λ meta. merged_with meta s.history (head s.history branch) letters))
change_of (Drop ws) = Drops ws
change_of (Evolve text) = Extends text
change_of Upgrade = Upgrades
change_of (Signed ws author moment message) = Makes ws (Some (record { author = author; moment = moment })) message

-- what an event makes of the state beside the numbers that every event raises
abbrev pub effect : State → Event → State
effect s event = applied (change_of event) s

-- the metamodel that an event leaves, where there is one before it
abbrev pub meta_after : Meta → Event → Meta
meta_after meta event = meta_with (change_of event) meta

-- is the event one of that workspace
abbrev pub is_of : ℕ → Event → Bool
is_of ws event = option_map_or (λ k. k == ws) (workspace_with (change_of event)) false

-- the state that an event makes
unfoldable pub play : State → Event → State
play s event = record (effect s event) { events = s.events + 1; end = next_gate s.end (length (event_encoding event)) }

-- what each event asks of the state, once there is a metamodel
abbrev pub could_with : State → Meta → Event → Bool
could_with s meta (Init text) = false
could_with s meta (Checkout version branch) = can_check_out s.history version branch
could_with s meta (Edit ws operations) = can_follow meta s.history (workspace_of s ws) operations
could_with s meta (Begin ws name) = can_begin name (workspace_of s ws)
could_with s meta (End ws) = is_open (workspace_of s ws)
could_with s meta (Undo ws) = can_undo (workspace_of s ws)
could_with s meta (Discard ws) = can_discard (workspace_of s ws)
could_with s meta (Tidy ws) = can_tidy meta (workspace_of s ws)
could_with s meta (Commit ws message) = can_commit s.history (workspace_of s ws)
could_with s meta (Branch ws name) = is_name name && is_new_branch s.history name && is_closed (workspace_of s ws)
could_with s meta (Tag name version) = can_tag s.history name version
could_with s meta (Update ws letters) = can_update meta s.history letters (workspace_of s ws)
could_with s meta (Merge ws branch letters) = can_merge meta s.history branch letters (workspace_of s ws)
could_with s meta (Drop ws) = is_some (workspace_of s ws)
could_with s meta (Evolve text) = can_evolve meta text
could_with s meta Upgrade = true
could_with s meta (Signed ws author moment message) = is_name author && can_commit s.history (workspace_of s ws)

-- the same, by the metamodel: before there is one, the event brings it
abbrev pub playable_with : State → Option Meta → Event → Bool
playable_with s None event = option_map_or is_metamodel (first_text (change_of event)) false
playable_with s (Some meta) event = could_with s meta event

-- Does the event suit a store that is upgraded, or one that is not? A version is signed in the one and not in the other.
abbrev pub suits : Bool → Event → Bool
suits upgraded event = suits_store upgraded (signing_of (change_of event))

-- could the event be made on this state
unfoldable pub playable : State → Event → Bool
playable s event = nat_lt s.events most_events && fits_record event && suits s.upgraded event && playable_with s s.meta event

-- could each event be made on the state that the events before it leave
abbrev pub are_playable : State → List Event → Bool
are_playable s [] = true
are_playable s (event ∷ events) = playable s event && are_playable (play s event) events
