-- Runs whose cells are disjoint do not touch what the other needs.
use Rattle.std.proofs.Common.{◌≡◌, ℕ, Bool, true, false, List, [], ◌∷◌, ◌++◌, refl, sym, ap, subst, ◌∙◌, ◌||◌, map}
use Rattle.std.specs.Prelude.{Some}
use Rattle.finite_maps.specs.Equal.{text_eq}
use Rattle.ecore_meta.specs.Meta.{Meta}
use Rattle.model_state.specs.declared.step.Step.{Step}
use Rattle.model_state.specs.declared.step.Step.TheVariants.{Link, Unlink, RerankRow, New, Gone, Move}
use Rattle.model_state.specs.declared.step.Place.{Place}
use Rattle.model_state.specs.declared.step.Place.TheVariants.{Root, Inside}
use Rattle.model_state.specs.Typing.{opposite_of}
use Rattle.std.specs.Prelude.{Option, None}
use Rattle.model_state.specs.Keys.{IdBytes}
use Rattle.model_state.specs.Steps.{fold}
use Rattle.model_laws.specs.Laws.{ExchangeHolds, SideBySide}
use Rattle.model_laws.specs.Cells.{Cell, OfKind, OfPlace, OfRow, OfWhole, About, cell_eq, side, mirror_side, place_list, is_bounded, is_finite}
use Rattle.model_laws.specs.Cells.{parents_of, has, step_writes, step_reads, kinds_read, kinds_written, others_read, needs, may_change, needs_all}
use Rattle.model_laws.specs.Cells.{may_change_all, writes_all, reads_all, AreDisjoint}
use Rattle.finite_maps.proofs.Cases.{not_so, true_false}
use Rattle.model_laws.proofs.Exchange.{IsReal, real_apart, has_append, has_first, has_second, or_cases, exchange, run_leaves, run_goes}
use Rattle.model_laws.proofs.Runs.{steps_keep_good, same_state}
use Rattle.model_laws.proofs.StepNeeds.{goes_by_needs, further}
use Rattle.model_laws.proofs.StepTouches.{leaves_others}

pub in_either : (xs ys : List Cell) (c : Cell) {G : Type 0} → has (xs ++ ys) c ≡ true → (has xs c ≡ true → G) → (has ys c ≡ true → G) → G
in_either xs ys c h = or_cases (has xs c) (has ys c) (sym (has_append xs ys c) ∙ h)

-- a real cell that a run needs is written or read, and one that it touches is written
real_need : (meta : Meta) (ss : List Step) (c : Cell) → IsReal c → {G : Type 0} → has (needs_all meta ss) c ≡ true
    → (has (writes_all meta ss) c ≡ true → G) → (has (reads_all ss) c ≡ true → G) → G
real_need meta [] c r h w k = absurd (true_false false h refl)
real_need meta (s ∷ ss) c r h w k =
    in_either (needs meta s) (needs_all meta ss) c h
    (λ here. in_either (step_reads s) (map About (kinds_written s) ++ step_writes meta s) c here
    (λ read. k (has_first (step_reads s) (reads_all ss) c read))
    (λ rest. in_either (map About (kinds_written s)) (step_writes meta s) c rest
    (λ about. absurd (true_false _ about (real_apart c (kinds_written s) r)))
    (λ wrote. w (has_first (step_writes meta s) (writes_all meta ss) c wrote))))
    (λ later. real_need meta ss c r later
    (λ wrote. w (has_second (step_writes meta s) (writes_all meta ss) c wrote))
    (λ read. k (has_second (step_reads s) (reads_all ss) c read)))

real_touch : (meta : Meta) (ss : List Step) (c : Cell) → IsReal c → has (may_change_all meta ss) c ≡ true → has (writes_all meta ss) c ≡ true
real_touch meta [] c r h = h
real_touch meta (s ∷ ss) c r h =
    in_either (may_change meta s) (may_change_all meta ss) c h
    (λ here. in_either (step_writes meta s) (map About (kinds_read s ++ kinds_written s)) c here
    (λ wrote. has_first (step_writes meta s) (writes_all meta ss) c wrote)
    (λ about. absurd (true_false _ about (real_apart c (kinds_read s ++ kinds_written s) r))))
    (λ later. has_second (step_writes meta s) (writes_all meta ss) c (real_touch meta ss c r later))

-- the class of an element whose all is named
about_kind : (es : List IdBytes) (e : IdBytes) → has (map About es) (About e) ≡ true → has (map OfKind es) (OfKind e) ≡ true
about_kind [] e h = h
about_kind (x ∷ es) e h = or_cases (text_eq e x) (has (map About es) (About e)) h
    (λ here. ap (λ b. b || has (map OfKind es) (OfKind e)) here)
    (λ later. further (OfKind x) (OfKind e) (map OfKind es) (about_kind es e later))

about_either : (es fs : List IdBytes) (e : IdBytes) {G : Type 0} → has (map About (es ++ fs)) (About e) ≡ true
    → (has (map About es) (About e) ≡ true → G) → (has (map About fs) (About e) ≡ true → G) → G
about_either [] fs e h g k = k h
about_either (x ∷ es) fs e h g k = or_cases (text_eq e x) (has (map About (es ++ fs)) (About e)) h
    (λ here. g (ap (λ b. b || has (map About es) (About e)) here))
    (λ later. about_either es fs e later (λ found. g (further (About x) (About e) (map About es) found)) k)

-- no cell that a step writes or reads is an About
no_kind : (xs : List IdBytes) (e : IdBytes) → has (map OfKind xs) (About e) ≡ false
no_kind [] e = refl
no_kind (x ∷ xs) e = no_kind xs e

no_place_cell : (xs : List IdBytes) (e : IdBytes) → has (map OfPlace xs) (About e) ≡ false
no_place_cell [] e = refl
no_place_cell (x ∷ xs) e = no_place_cell xs e

no_about_read : (s : Step) (e : IdBytes) → has (step_reads s) (About e) ≡ false
no_about_read (New x class Root rank) e = refl
no_about_read (New x class (Inside a f) rank) e = refl
no_about_read (Gone x class Root rank) e = refl
no_about_read (Gone x class (Inside a f) rank) e = refl
no_about_read (Move x from from_rank to to_rank above_from above_to) e =
    has_append (map OfKind (x ∷ (parents_of from ++ parents_of to))) (map OfPlace (above_from ++ above_to)) (About e)
    ∙ ap (λ t. t || has (map OfPlace (above_from ++ above_to)) (About e)) (no_kind (x ∷ (parents_of from ++ parents_of to)) e)
    ∙ no_place_cell (above_from ++ above_to) e
no_about_read s e = refl

no_about_side : (meta : Meta) (a : IdBytes) (f : ℕ) (b : IdBytes) (e : IdBytes) → cell_eq (About e) (side meta a f b) ≡ false
no_about_side meta a f b e =
    elim (is_bounded meta f) as (λ t.
    cell_eq (About e) (elim t as (λ _. Cell) [ true ↦ OfWhole a f | false ↦ OfRow a f b ]) ≡ false) [ true ↦ refl | false ↦ refl ]

no_about_mirror : (meta : Meta) (o : Option ℕ) (a b : IdBytes) (e : IdBytes) → has (mirror_side meta o a b) (About e) ≡ false
no_about_mirror meta None a b e = refl
no_about_mirror meta (Some g) a b e = ap (λ t. t || false) (no_about_side meta b g a e)

no_about_rows : (meta : Meta) (a : IdBytes) (f : ℕ) (b : IdBytes) (e : IdBytes)
    → has (side meta a f b ∷ mirror_side meta (opposite_of meta f) a b) (About e) ≡ false
no_about_rows meta a f b e =
    ap (λ t. t || has (mirror_side meta (opposite_of meta f) a b) (About e)) (no_about_side meta a f b e)
    ∙ no_about_mirror meta (opposite_of meta f) a b e

no_about_list : (meta : Meta) (place : Place) (e : IdBytes) → has (place_list meta place) (About e) ≡ false
no_about_list meta Root e = refl
no_about_list meta (Inside a f) e =
    elim (is_finite meta f) as (λ t.
    has (elim t as (λ _. List Cell) [ true ↦ OfWhole a f ∷ [] | false ↦ [] ]) (About e) ≡ false) [ true ↦ refl | false ↦ refl ]

no_about_write : (meta : Meta) (s : Step) (e : IdBytes) → has (step_writes meta s) (About e) ≡ false
no_about_write meta (Link a f ra b rb) e = no_about_rows meta a f b e
no_about_write meta (Unlink a f ra b rb) e = no_about_rows meta a f b e
no_about_write meta (New x class place rank) e = no_about_list meta place e
no_about_write meta (Gone x class place rank) e = no_about_list meta place e
no_about_write meta (Move x from from_rank to to_rank above_from above_to) e =
    has_append (place_list meta from) (place_list meta to) (About e) ∙ ap (λ t. t || has (place_list meta to) (About e)) (no_about_list meta from e)
    ∙ no_about_list meta to e
no_about_write meta (RerankRow a f b old new) e = ap (λ t. t || false) (no_about_side meta a f b e)
no_about_write meta s e = refl

first_of_one : (t : Bool) → t || false ≡ true → t ≡ true
first_of_one true h = refl
first_of_one false h = h

pub writes_kind : (meta : Meta) (s : Step) (e : IdBytes) → has (map About (kinds_written s)) (About e) ≡ true → has (step_writes meta s) (OfKind e) ≡ true
writes_kind meta (New x class place rank) e h = ap (λ t. t || has (place_list meta place) (OfKind e)) (first_of_one (text_eq e x) h)
writes_kind meta (Gone x class place rank) e h = ap (λ t. t || has (place_list meta place) (OfKind e)) (first_of_one (text_eq e x) h)
writes_kind meta s e h = cc

-- what hangs on an element is needed where its class is written, and touched where that is written or read
about_need : (meta : Meta) (ss : List Step) (e : IdBytes) → has (needs_all meta ss) (About e) ≡ true → has (writes_all meta ss) (OfKind e) ≡ true
about_need meta [] e h = cc
about_need meta (s ∷ ss) e h =
    in_either (needs meta s) (needs_all meta ss) (About e) h
    (λ here. in_either (step_reads s) (map About (kinds_written s) ++ step_writes meta s) (About e) here
    (λ read. absurd (true_false _ read (no_about_read s e)))
    (λ rest. in_either (map About (kinds_written s)) (step_writes meta s) (About e) rest
    (λ about. has_first (step_writes meta s) (writes_all meta ss) (OfKind e) (writes_kind meta s e about))
    (λ wrote. absurd (true_false _ wrote (no_about_write meta s e)))))
    (λ later. has_second (step_writes meta s) (writes_all meta ss) (OfKind e) (about_need meta ss e later))

about_touch : (meta : Meta) (ss : List Step) (e : IdBytes) {G : Type 0} → has (may_change_all meta ss) (About e) ≡ true
    → (has (writes_all meta ss) (OfKind e) ≡ true → G) → (has (reads_all ss) (OfKind e) ≡ true → G) → G
about_touch meta [] e h w k = absurd (true_false false h refl)
about_touch meta (s ∷ ss) e h w k =
    in_either (may_change meta s) (may_change_all meta ss) (About e) h
    (λ here. in_either (step_writes meta s) (map About (kinds_read s ++ kinds_written s)) (About e) here
    (λ wrote. absurd (true_false _ wrote (no_about_write meta s e)))
    (λ about. about_either (kinds_read s) (kinds_written s) e about
    (λ read. k (has_first (step_reads s) (reads_all ss) (OfKind e)
    (has_first (map OfKind (kinds_read s)) (others_read s) (OfKind e) (about_kind (kinds_read s) e read))))
    (λ wrote. w (has_first (step_writes meta s) (writes_all meta ss) (OfKind e) (writes_kind meta s e wrote)))))
    (λ later. about_touch meta ss e later
    (λ wrote. w (has_second (step_writes meta s) (writes_all meta ss) (OfKind e) wrote))
    (λ read. k (has_second (step_reads s) (reads_all ss) (OfKind e) read)))

pub turned : (meta : Meta) (ps qs : List Step) → AreDisjoint meta ps qs → AreDisjoint meta qs ps
turned meta ps qs k = record {
  written = λ c h. not_so (has (writes_all meta ps) c) (λ w. true_false _ h (k.written c w));
  first_read = k.second_read;
  second_read = k.first_read;
}

real_out : (meta : Meta) (ps qs : List Step) → AreDisjoint meta ps qs → (c : Cell) → IsReal c → has (needs_all meta qs) c ≡ true
    → has (may_change_all meta ps) c ≡ false
real_out meta ps qs k c r h = not_so (has (may_change_all meta ps) c) (λ t.
    let wrote = real_touch meta ps c r t in
    real_need meta qs c r h (λ w. true_false _ w (k.written c wrote)) (λ read. true_false _ read (k.second_read c wrote)))

pub out : (meta : Meta) (ps qs : List Step) → AreDisjoint meta ps qs → (c : Cell) → has (needs_all meta qs) c ≡ true → has (may_change_all meta ps) c ≡ false
out meta ps qs k (About e) h = not_so (has (may_change_all meta ps) (About e)) (λ t.
    let wrote = about_need meta qs e h in
    about_touch meta ps e t (λ w. true_false _ wrote (k.written (OfKind e) w)) (λ read. true_false _ read (k.first_read (OfKind e) wrote)))
out meta ps qs k c h = real_out meta ps qs k c tt h

pub exchange_holds : ExchangeHolds
exchange_holds meta sound ps qs m n k good apart first second =
    exchange meta sound (leaves_others meta) (goes_by_needs meta) ps qs m n k good first second (out meta ps qs apart)
    (out meta qs ps (turned meta ps qs apart))

pub side_by_side : SideBySide
side_by_side meta sound ps qs m n k good apart first second =
    let good1 = steps_keep_good meta sound m n good ps first in
    let on = run_goes meta sound (leaves_others meta) (goes_by_needs meta) qs m n k good good1
    (λ c h. run_leaves meta sound (leaves_others meta) (goes_by_needs meta) ps m n good first c (out meta ps qs apart c h)) second in
    let back = exchange_holds meta sound ps qs m n on.0 good apart first on.1 in
    let same : back.0 ≡ k = same_state back.0 k (sym back.1 ∙ second) in
    (on.0, on.1, subst (λ x. fold meta x ps ≡ Some on.0) same back.2)
