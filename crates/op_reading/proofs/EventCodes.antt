-- Events: read again, and spelled so.
use Rattle.std.proofs.Common.{◌≡◌, inl, inr, ℕ, List, [], ◌∷◌, map, nat_eq, true, Ok, refl}
use Rattle.byte_form.specs.Rest.{Rest}
use Rattle.byte_form.specs.Fields.{byte_at}
use Rattle.byte_form.specs.Laws.{IsReadAgain, IsSpelledSo, StoodThere, AreBytes, IsBelow, byte_encoding}
use Rattle.byte_form.proofs.FieldLemmas.{reached}
use Rattle.op_form.specs.declared.event.Event.{Event}
use Rattle.op_form.specs.declared.event.Event.TheVariants.{Init, Checkout, Edit, Begin, End, Undo, Discard, Tidy, Commit, Branch, Tag, Update, Merge}
use Rattle.op_form.specs.declared.event.Event.TheVariants.{Drop, Evolve, Upgrade, Signed}
use Rattle.op_reading.specs.Reading.{Reading, made, u8_at}
use Rattle.op_reading.specs.Events.{init_at, checkout_at, edit_at, begin_at, commit_at, branch_at, tag_at, update_at, merge_at, evolve_at, upgrade_at}
use Rattle.op_reading.specs.Events.{signed_at, events_by_kind, event_of_kind, event_at}
use Rattle.op_form.specs.Events.{event_encoding}
use Rattle.op_form.specs.Formed.{IsEvent}
use Rattle.op_reading.specs.Laws.{EventsAreTested}
use Rattle.op_form.proofs.FormedLaws.{is_event_is, is_event_holds}
use Rattle.op_reading.proofs.Codes.{Codes, both, either, nothing_codes, u32_codes, u64_codes, text_codes, made_again, made_spelled, byte_stood}
use Rattle.op_reading.proofs.PackageCodes.{package_codes}

event_again : IsReadAgain IsEvent event_encoding event_at
unfolding event_at event_encoding byte_at init_at checkout_at edit_at begin_at commit_at branch_at tag_at update_at merge_at evolve_at upgrade_at signed_at
event_again (Init text) is rest offset = made_again text_codes (λ t. Init t) 1 text is rest offset
event_again (Checkout version branch) is rest offset = made_again (both u32_codes u32_codes) (λ t. Checkout t.0 t.1) 2 (version, branch) is rest offset
event_again (Edit ws operations) is rest offset = made_again (both u32_codes package_codes) (λ t. Edit t.0 t.1) 3 (ws, operations) is rest offset
event_again (Begin ws name) is rest offset = made_again (both u32_codes text_codes) (λ t. Begin t.0 t.1) 4 (ws, name) is rest offset
event_again (End ws) is rest offset = made_again u32_codes (λ ws. End ws) 5 ws is rest offset
event_again (Undo ws) is rest offset = made_again u32_codes (λ ws. Undo ws) 6 ws is rest offset
event_again (Discard ws) is rest offset = made_again u32_codes (λ ws. Discard ws) 7 ws is rest offset
event_again (Tidy ws) is rest offset = made_again u32_codes (λ ws. Tidy ws) 8 ws is rest offset
event_again (Commit ws message) is rest offset = made_again (both u32_codes text_codes) (λ t. Commit t.0 t.1) 9 (ws, message) is rest offset
event_again (Branch ws name) is rest offset = made_again (both u32_codes text_codes) (λ t. Branch t.0 t.1) 10 (ws, name) is rest offset
event_again (Tag name version) is rest offset = made_again (both text_codes u32_codes) (λ t. Tag t.0 t.1) 11 (name, version) is rest offset
event_again (Update ws choices) is rest offset = made_again (both u32_codes text_codes) (λ t. Update t.0 t.1) 12 (ws, choices) is rest offset
event_again (Merge ws branch choices) is rest offset =
    made_again (both u32_codes (both u32_codes text_codes)) (λ t. Merge t.0 t.1.0 t.1.1) 13 (ws, (branch, choices)) is rest offset
event_again (Drop ws) is rest offset = made_again u32_codes (λ ws. Drop ws) 14 ws is rest offset
event_again (Evolve text) is rest offset = made_again text_codes (λ t. Evolve t) 15 text is rest offset
event_again Upgrade is rest offset = made_again nothing_codes (λ t. Upgrade) 16 tt is rest offset
event_again (Signed ws author moment message) is rest offset =
    made_again (both u32_codes (both text_codes (both u64_codes text_codes))) (λ t. Signed t.0 t.1.0 t.1.1.0 t.1.1.1) 17
    (ws, (author, (moment, message))) is rest offset

-- a kind's byte, how its fields are read, and that an event of the kind stood where they are read after that byte
record Row : Type 0 where
  tag : ℕ
  read : Reading Event
  spelled : (before mid after : Rest) (event : Event) → AreBytes before.bytes → StoodThere (IsBelow 256) byte_encoding before mid tag
      → read mid ≡ Ok (event, after)
      → StoodThere IsEvent event_encoding before after event

abbrev known : {X : Type 0} {Is : X → Type 0} {form : X → List ℕ} {read : Reading X} → Codes Is form read → (make : X → Event) (tag : ℕ)
    → ((x : X) → Is x → IsEvent (make x)) → ((x : X) → Is x → event_encoding (make x) ≡ tag ∷ form x) → Row
known {read} codes make tag is_made form_made = record {
  tag = tag;
  read = λ r. made make (read r);
  spelled = λ before mid after event bytes stood e. made_spelled codes make tag IsEvent event_encoding is_made form_made before mid after event bytes stood e;
}

abbrev plain : Row → ℕ × Reading Event
plain row = (row.tag, row.read)

-- an event of the kind that the byte chooses stood there
chosen_spelled : (rows : List Row) (before mid after : Rest) (event : Event) (n : ℕ) → AreBytes before.bytes
    → ((tag : ℕ) → nat_eq n tag ≡ true → StoodThere (IsBelow 256) byte_encoding before mid tag)
    → event_of_kind (map plain rows) before.offset (n, mid) ≡ Ok (event, after) → StoodThere IsEvent event_encoding before after event
chosen_spelled [] before mid after event n bytes stood e = cc
chosen_spelled (row ∷ rows) before mid after event n bytes stood e =
    elim (either (nat_eq n row.tag) (row.read mid) (event_of_kind (map plain rows) before.offset (n, mid)) (Ok (event, after)) e) [
      | inl h ↦ row.spelled before mid after event bytes (stood row.tag h.0) h.1
      | inr h ↦ chosen_spelled rows before mid after event n bytes stood h.1
    ]

event_spelled : IsSpelledSo IsEvent event_encoding event_at
unfolding event_at event_encoding init_at checkout_at edit_at begin_at commit_at branch_at tag_at update_at merge_at evolve_at upgrade_at signed_at
event_spelled before bytes event after e =
    let k = reached (u8_at before) (event_of_kind events_by_kind before.offset) (event, after) e in
    let stood = byte_stood before k.0.0 k.0.1 bytes k.1 in
    chosen_spelled (
    known text_codes (λ t. Init t) 1 (λ t is. is) (λ t is. refl) ∷
    known (both u32_codes u32_codes) (λ t. Checkout t.0 t.1) 2 (λ t is. is) (λ t is. refl) ∷
    known (both u32_codes package_codes) (λ t. Edit t.0 t.1) 3 (λ t is. is) (λ t is. refl) ∷
    known (both u32_codes text_codes) (λ t. Begin t.0 t.1) 4 (λ t is. is) (λ t is. refl) ∷
    known u32_codes (λ t. End t) 5 (λ t is. is) (λ t is. refl) ∷
    known u32_codes (λ t. Undo t) 6 (λ t is. is) (λ t is. refl) ∷
    known u32_codes (λ t. Discard t) 7 (λ t is. is) (λ t is. refl) ∷
    known u32_codes (λ t. Tidy t) 8 (λ t is. is) (λ t is. refl) ∷
    known (both u32_codes text_codes) (λ t. Commit t.0 t.1) 9 (λ t is. is) (λ t is. refl) ∷
    known (both u32_codes text_codes) (λ t. Branch t.0 t.1) 10 (λ t is. is) (λ t is. refl) ∷
    known (both text_codes u32_codes) (λ t. Tag t.0 t.1) 11 (λ t is. is) (λ t is. refl) ∷
    known (both u32_codes text_codes) (λ t. Update t.0 t.1) 12 (λ t is. is) (λ t is. refl) ∷
    known (both u32_codes (both u32_codes text_codes)) (λ t. Merge t.0 t.1.0 t.1.1) 13 (λ t is. is) (λ t is. refl) ∷
    known u32_codes (λ t. Drop t) 14 (λ t is. is) (λ t is. refl) ∷
    known text_codes (λ t. Evolve t) 15 (λ t is. is) (λ t is. refl) ∷
    known nothing_codes (λ t. Upgrade) 16 (λ t is. is) (λ t is. refl) ∷
    known (both u32_codes (both text_codes (both u64_codes text_codes))) (λ t. Signed t.0 t.1.0 t.1.1.0 t.1.1.1) 17 (λ t is. is) (λ t is. refl) ∷ [])
    before k.0.1 after event k.0.0 bytes stood k.2

pub event_codes : Codes IsEvent event_encoding event_at
event_codes = record { again = event_again; spelled = event_spelled }

pub events_tested : EventsAreTested
events_tested e = (is_event_is e, is_event_holds e)
