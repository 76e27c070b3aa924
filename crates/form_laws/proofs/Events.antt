-- Events: their faults. One row a kind.
use Rattle.std.proofs.Common.{◌≡◌, List, [], ◌∷◌, refl, ap}
use Rattle.op_form.specs.declared.event.Event.{Event}
use Rattle.op_form.specs.declared.event.Event.TheVariants.{Init, Checkout, Edit, Begin, End, Undo, Discard, Tidy, Commit, Branch, Tag, Update, Merge}
use Rattle.op_form.specs.declared.event.Event.TheVariants.{Drop, Evolve, Upgrade, Signed}
use Rattle.op_reading.specs.Events.{init_at, checkout_at, edit_at, begin_at, commit_at, branch_at, tag_at, update_at, merge_at, evolve_at, upgrade_at}
use Rattle.op_reading.specs.Events.{signed_at, event_at}
use Rattle.op_form.specs.Events.{event_encoding}
use Rattle.op_form.specs.Formed.{IsEvent}
use Rattle.op_reading.proofs.EventCodes.{event_codes}
use Rattle.form_laws.specs.Fields.{fields_encoding}
use Rattle.form_laws.specs.Events.{event_fields}
use Rattle.form_laws.proofs.Faults.{Exact, nothing_exact, u32_exact, u64_exact}
use Rattle.form_laws.proofs.Texts.{text_exact}
use Rattle.form_laws.proofs.Parts.{both_exact, Row, known, tagged_faults}
use Rattle.form_laws.proofs.Packages.{package_exact}

event_rows : List (Row IsEvent event_fields)
unfolding event_fields
event_rows =
    known text_exact IsEvent event_fields (λ t. Init t) 1 (λ t is. is) (λ t is. refl) ∷
    known (both_exact u32_exact u32_exact) IsEvent event_fields (λ t. Checkout t.0 t.1) 2 (λ t is. is) (λ t is. refl) ∷
    known (both_exact u32_exact package_exact) IsEvent event_fields (λ t. Edit t.0 t.1) 3 (λ t is. is) (λ t is. refl) ∷
    known (both_exact u32_exact text_exact) IsEvent event_fields (λ t. Begin t.0 t.1) 4 (λ t is. is) (λ t is. refl) ∷
    known u32_exact IsEvent event_fields (λ t. End t) 5 (λ t is. is) (λ t is. refl) ∷
    known u32_exact IsEvent event_fields (λ t. Undo t) 6 (λ t is. is) (λ t is. refl) ∷
    known u32_exact IsEvent event_fields (λ t. Discard t) 7 (λ t is. is) (λ t is. refl) ∷
    known u32_exact IsEvent event_fields (λ t. Tidy t) 8 (λ t is. is) (λ t is. refl) ∷
    known (both_exact u32_exact text_exact) IsEvent event_fields (λ t. Commit t.0 t.1) 9 (λ t is. is) (λ t is. refl) ∷
    known (both_exact u32_exact text_exact) IsEvent event_fields (λ t. Branch t.0 t.1) 10 (λ t is. is) (λ t is. refl) ∷
    known (both_exact text_exact u32_exact) IsEvent event_fields (λ t. Tag t.0 t.1) 11 (λ t is. is) (λ t is. refl) ∷
    known (both_exact u32_exact text_exact) IsEvent event_fields (λ t. Update t.0 t.1) 12 (λ t is. is) (λ t is. refl) ∷
    known (both_exact u32_exact (both_exact u32_exact text_exact)) IsEvent event_fields (λ t. Merge t.0 t.1.0 t.1.1) 13 (λ t is. is) (λ t is. refl) ∷
    known u32_exact IsEvent event_fields (λ t. Drop t) 14 (λ t is. is) (λ t is. refl) ∷
    known text_exact IsEvent event_fields (λ t. Evolve t) 15 (λ t is. is) (λ t is. refl) ∷
    known nothing_exact IsEvent event_fields (λ t. Upgrade) 16 (λ t is. is) (λ t is. refl) ∷
    known (both_exact u32_exact (both_exact text_exact (both_exact u64_exact text_exact))) IsEvent event_fields (λ t. Signed t.0 t.1.0 t.1.1.0 t.1.1.1) 17
    (λ t is. is) (λ t is. refl) ∷ []

event_encoded : (event : Event) → event_encoding event ≡ fields_encoding (event_fields event)
unfolding event_encoding event_fields
event_encoded (Init a) = ap (λ bs. 1 ∷ bs) (text_exact.encoded a)
event_encoded (Checkout a b) = ap (λ bs. 2 ∷ bs) ((both_exact u32_exact u32_exact).encoded (a, b))
event_encoded (Edit a b) = ap (λ bs. 3 ∷ bs) ((both_exact u32_exact package_exact).encoded (a, b))
event_encoded (Begin a b) = ap (λ bs. 4 ∷ bs) ((both_exact u32_exact text_exact).encoded (a, b))
event_encoded (End a) = ap (λ bs. 5 ∷ bs) (u32_exact.encoded a)
event_encoded (Undo a) = ap (λ bs. 6 ∷ bs) (u32_exact.encoded a)
event_encoded (Discard a) = ap (λ bs. 7 ∷ bs) (u32_exact.encoded a)
event_encoded (Tidy a) = ap (λ bs. 8 ∷ bs) (u32_exact.encoded a)
event_encoded (Commit a b) = ap (λ bs. 9 ∷ bs) ((both_exact u32_exact text_exact).encoded (a, b))
event_encoded (Branch a b) = ap (λ bs. 10 ∷ bs) ((both_exact u32_exact text_exact).encoded (a, b))
event_encoded (Tag a b) = ap (λ bs. 11 ∷ bs) ((both_exact text_exact u32_exact).encoded (a, b))
event_encoded (Update a b) = ap (λ bs. 12 ∷ bs) ((both_exact u32_exact text_exact).encoded (a, b))
event_encoded (Merge a b c) = ap (λ bs. 13 ∷ bs) ((both_exact u32_exact (both_exact u32_exact text_exact)).encoded (a, (b, c)))
event_encoded (Drop a) = ap (λ bs. 14 ∷ bs) (u32_exact.encoded a)
event_encoded (Evolve a) = ap (λ bs. 15 ∷ bs) (text_exact.encoded a)
event_encoded Upgrade = refl
event_encoded (Signed a b c d) = ap (λ bs. 17 ∷ bs) ((both_exact u32_exact (both_exact text_exact (both_exact u64_exact text_exact))).encoded (a, (b, (c, d))))

pub event_exact : Exact event_codes event_fields
unfolding event_at event_fields event_rows init_at checkout_at edit_at begin_at commit_at branch_at tag_at update_at merge_at evolve_at upgrade_at signed_at
event_exact = record {
  sample = Upgrade;
  has = tt;
  encoded = event_encoded;
  faults = λ bytes offset are fault e. tagged_faults event_rows Upgrade tt 16 [] refl bytes offset are fault e;
}
