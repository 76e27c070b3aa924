-- A line `load` whose bytes are those of an event that could be made is answered by that event.
use Rattle.std.proofs.Common.{◌≡◌, ◌∙◌, ◌<◌, ◌^◌, ◌+◌, ◌&&◌, ℕ, nat_lt, nat_le, List, [], ◌∷◌, ◌++◌, length, Bool, true, false}
use Rattle.std.proofs.Common.{Option, None, Some, Ok, refl, sym, ap, subst, arith}
use Rattle.std.specs.Prelude.{IsTrue}
use Rattle.std.specs.List.{slice_split}
use Rattle.std.proofs.lemmas.Bool.{ltb-true}
use Rattle.host_port.specs.Cut.{is_lf}
use Rattle.byte_form.specs.Fields.{u32_encoding}
use Rattle.byte_form.specs.Laws.{at}
use Rattle.byte_form.specs.Rest.{Rest}
use Rattle.byte_form.proofs.FieldLemmas.{ok_is}
use Rattle.commit_journal.specs.Journal.{RecordFits, most_bytes}
use Rattle.ecore_meta.specs.Meta.{Meta}
use Rattle.model_state.specs.declared.operation.Operation.{Operation}
use Rattle.op_form.specs.declared.event.Event.{Event}
use Rattle.op_form.specs.declared.event.Event.TheVariants.{Init, Checkout, Edit, Begin, End, Undo, Discard, Tidy, Commit, Branch, Tag, Update, Merge}
use Rattle.op_form.specs.declared.event.Event.TheVariants.{Drop, Evolve, Upgrade, Signed}
use Rattle.op_form.specs.Events.{event_encoding}
use Rattle.op_form.specs.Formed.{IsEvent, IsPackage, IsU32, is_event}
use Rattle.op_form.specs.Packages.{package_encoding}
use Rattle.op_reading.specs.Reading.{u32_at}
use Rattle.op_reading.proofs.Codes.{u32_codes, whole_again}
use Rattle.op_reading.proofs.PackageCodes.{package_codes}
use Rattle.script_lang.specs.Command.{command_of}
use Rattle.script_lang.specs.declared.command.Command.TheVariants as commands
use Rattle.plain_repository.specs.State.{State, Workspace, workspace_of}
use Rattle.plain_repository.specs.Answers.{with_room, accepted, most_events, fits_record}
use Rattle.plain_repository.specs.Applying.{bytes_of_lines, decide_load, load_in}
use Rattle.plain_repository.specs.Edits.{can_follow}
use Rattle.plain_repository.specs.Events.{playable, playable_with, suits}
use Rattle.plain_repository.specs.Repository.{block_text, decide_command, decide_line, decide_read, decide_with}
use Rattle.plain_repository.proofs.Encodings.{and_left, and_right, playable_is_event}
use Rattle.plain_repository.proofs.Loading.{load_follows}

-- ---- the event by its bytes
-- numbers before other bytes: the same bytes are the same number, and the same others
number_and_rest : (n m : ℕ) (rest more : List ℕ) → IsU32 n → IsU32 m → u32_encoding n ++ rest ≡ u32_encoding m ++ more → (n ≡ m) × (rest ≡ more)
number_and_rest n m rest more is_n is_m same =
    let both : ◌≡◌ {A = ℕ × Rest} (n, at rest (0 + length (u32_encoding n))) (m, at more (0 + length (u32_encoding m))) =
    ok_is _ _ (sym (u32_codes.again n is_n rest 0) ∙ ap (λ (bytes : List ℕ). u32_at (at bytes 0)) same ∙ u32_codes.again m is_m more 0) in
    (ap (λ (p : ℕ × Rest). p.0) both, ap (λ (p : ℕ × Rest). p.1.bytes) both)

-- an Edit of the workspace, whose operations have those bytes
record IsEditOf (ws : ℕ) (spelling : List ℕ) (event : Event) : Type 0 where
  operations : List Operation
  is : event ≡ Edit ws operations
  formed : IsPackage operations
  bytes : spelling ≡ package_encoding operations

edit_is : (ws : ℕ) (spelling : List ℕ) (event : Event) → IsU32 ws → IsEvent event → 3 ∷ (u32_encoding ws ++ spelling) ≡ event_encoding event
    → IsEditOf ws spelling event
unfolding event_encoding
edit_is ws spelling (Init text) small is same = absurd cc
edit_is ws spelling (Checkout version branch) small is same = absurd cc
edit_is ws spelling (Edit k operations) small is same =
    let behind : u32_encoding ws ++ spelling ≡ u32_encoding k ++ package_encoding operations = cc in
    let parts = number_and_rest ws k spelling (package_encoding operations) small is.0 behind in
    record { operations = operations; is = ap (λ (n : ℕ). Edit n operations) (sym parts.0); formed = is.1; bytes = parts.1 }
edit_is ws spelling (Begin k name) small is same = absurd cc
edit_is ws spelling (End k) small is same = absurd cc
edit_is ws spelling (Undo k) small is same = absurd cc
edit_is ws spelling (Discard k) small is same = absurd cc
edit_is ws spelling (Tidy k) small is same = absurd cc
edit_is ws spelling (Commit k message) small is same = absurd cc
edit_is ws spelling (Branch k name) small is same = absurd cc
edit_is ws spelling (Tag name version) small is same = absurd cc
edit_is ws spelling (Update k letters) small is same = absurd cc
edit_is ws spelling (Merge k branch letters) small is same = absurd cc
edit_is ws spelling (Drop k) small is same = absurd cc
edit_is ws spelling (Evolve text) small is same = absurd cc
edit_is ws spelling Upgrade small is same = absurd cc
edit_is ws spelling (Signed k author moment message) small is same = absurd cc

-- ---- what playable asks
few : (s : State) (e : Event) → IsTrue (playable s e) → s.events < most_events
unfolding playable
few s e could =
    let room : Bool = nat_lt s.events most_events in
    ltb-true s.events most_events
    (and_left room (fits_record e) (and_left (room && fits_record e) (suits s.upgraded e)
    (and_left (room && fits_record e && suits s.upgraded e) (playable_with s s.meta e) could)))

formed : (s : State) (e : Event) → IsTrue (playable s e) → is_event e ≡ true
unfolding playable
formed s e could =
    let room : Bool = nat_lt s.events most_events in
    and_left (is_event e) (nat_le (length (event_encoding e)) most_bytes)
    (and_right room (fits_record e) (and_left (room && fits_record e) (suits s.upgraded e)
    (and_left (room && fits_record e && suits s.upgraded e) (playable_with s s.meta e) could)))

by_meta : (s : State) (e : Event) → IsTrue (playable s e) → IsTrue (playable_with s s.meta e)
unfolding playable
by_meta s e could = and_right (nat_lt s.events most_events && fits_record e && suits s.upgraded e) (playable_with s s.meta e) could

-- ---- the answer
room_given : (s : State) (event : Event) → IsTrue (playable s event) → RecordFits s.end (length (event_encoding event))
    → with_room s [] [] event ≡ accepted [] [] event
unfolding with_room
room_given s event could fits =
    let some : nat_le most_events s.events ≡ false = let less = few s event could in grind (arith, less) in
    let short : nat_lt most_bytes (length (event_encoding event)) ≡ false = let room = fits.short in grind (arith, room) in
    let within : nat_lt (2 ^ 40) (s.end + length (event_encoding event) + 6) ≡ false = let room = fits.room in grind (arith, room) in
    rw (some, formed s event could, short, within) refl

module _ (s : State) (ws : ℕ) (operations : List Operation) (is : IsPackage operations) where
  followed : (meta : Meta) (o : Option Workspace) (text : List ℕ) → can_follow meta s.history o operations ≡ true
      → bytes_of_lines (slice_split is_lf text) ≡ Some (package_encoding operations)
      → load_in s meta ws o text ≡ with_room s [] [] (Edit ws operations)
  followed meta None text could spelled = absurd cc
  followed meta (Some w) text could spelled =
      rw (spelled, whole_again package_codes operations is) (load_follows s meta ws w operations could)

  begun : (meta : Option Meta) (block : Option (List ℕ)) → IsTrue (playable_with s meta (Edit ws operations))
      → bytes_of_lines (slice_split is_lf (block_text block)) ≡ Some (package_encoding operations)
      → decide_with s meta block (commands.Load ws) ≡ with_room s [] [] (Edit ws operations)
  unfolding decide_load
  begun None block could spelled = absurd cc
  begun (Some meta) block could spelled = followed meta (workspace_of s ws) (block_text block) could spelled

-- the line and its block make the event
pub load_made : (s : State) (ws : ℕ) (line spelling : List ℕ) (block : Option (List ℕ)) (event : Event) → IsU32 ws
    → command_of line ≡ Ok (commands.Load ws)
    → bytes_of_lines (slice_split is_lf (block_text block)) ≡ Some spelling
    → IsTrue (playable s event) → 3 ∷ (u32_encoding ws ++ spelling) ≡ event_encoding event
    → RecordFits s.end (length (event_encoding event))
    → decide_line s line block ≡ accepted [] [] event
unfolding decide_line decide_command
load_made s ws line spelling block event small read spelled could same fits =
    let edit = edit_is ws spelling event small (playable_is_event s event could) same in
    let asked = subst (λ (e : Event). IsTrue (playable_with s s.meta e)) edit.is (by_meta s event could) in
    let bytes = spelled ∙ ap (λ (b : List ℕ). Some b) edit.bytes in
    ap (decide_read s block) read
    ∙ begun s ws edit.operations edit.formed s.meta block asked bytes
    ∙ ap (with_room s [] []) (sym edit.is)
    ∙ room_given s event could fits
