-- What a step leaves and goes by, in the cells of its operation.
use Rattle.std.proofs.Common.{◌≡◌, ℕ, Bool, true, false, List, [], ◌∷◌, ◌++◌, refl, sym, ap, subst, ◌∙◌, ◌||◌, map, append-nil}
use Rattle.std.specs.Prelude.{Option, None, Some}
use Rattle.finite_maps.specs.Equal.{text_eq}
use Rattle.finite_maps.proofs.Cases.{true_false}
use Rattle.ecore_meta.specs.Meta.{Meta}
use Rattle.model_state.specs.declared.step.Place.{Place}
use Rattle.model_state.specs.declared.step.Place.TheVariants.{Root, Inside}
use Rattle.model_state.specs.declared.step.Step.{Step}
use Rattle.model_state.specs.declared.step.Step.TheVariants.{Link, Unlink, RerankRow, New, Gone, Move}
use Rattle.model_state.specs.Typing.{opposite_of}
use Rattle.model_state.specs.Keys.{IdBytes}
use Rattle.model_state.specs.State.{State, written}
use Rattle.model_state.specs.Good.{Good, Sound}
use Rattle.model_state.specs.Steps.{writes, apply, fold}
use Rattle.model_state.specs.declared.operation.Operation.{Operation}
use Rattle.model_state.specs.Packages.{steps_of, steps_all}
use Rattle.model_laws.specs.Cells.{Cell, OfKind, OfRow, OfWhole, About, cell_eq, has, side, mirror_side, place_list, is_bounded, is_finite, Agree}
use Rattle.model_laws.specs.Cells.{AgreeAt, step_writes, step_reads, kinds_read, kinds_written, needs, may_change, needs_all, may_change_all}
use Rattle.model_laws.specs.Cells.{writes_all, reads_all}
use Rattle.model_laws.proofs.Exchange.{has_append, has_first, has_second, not_first, not_second, IsReal, real_apart, agree_written, agree_everywhere}
use Rattle.model_laws.proofs.Exchange.{run_leaves}
use Rattle.model_laws.proofs.Apart.{in_either, writes_kind, out, turned}
use Rattle.model_laws.proofs.StepNeeds.{goes_by_needs}
use Rattle.model_laws.proofs.StepTouches.{leaves_others}
use Rattle.footprint.specs.Interference.{op_writes}
use Rattle.footprint.specs.Same.{IsCell, Same}
use Rattle.footprint.specs.Laws.{StepLeavesOthers, OperationLeavesOthers, PackageLeavesOthers, StatesAreTheirCells, StepGoesByCells, OthersLeaveSame}
use Rattle.footprint.proofs.Pairs.{keep_apart}

-- ---- a step leaves the cells that it does not write
untouched : (meta : Meta) (s : Step) (c : Cell) → has (map About (kinds_read s ++ kinds_written s)) c ≡ false → has (step_writes meta s) c ≡ false
    → has (may_change meta s) c ≡ false
untouched meta s c about out =
    has_append (step_writes meta s) (map About (kinds_read s ++ kinds_written s)) c
    ∙ ap (λ b. b || has (map About (kinds_read s ++ kinds_written s)) c) out ∙ about

pub step_leaves_others : StepLeavesOthers
step_leaves_others meta m good s can (About e) is out = absurd is
step_leaves_others meta m good s can c is out = leaves_others meta m good s can c (untouched meta s c (real_apart c (kinds_read s ++ kinds_written s) tt) out)

all_untouched : (meta : Meta) (ss : List Step) (c : Cell) → IsReal c → has (writes_all meta ss) c ≡ false → has (may_change_all meta ss) c ≡ false
all_untouched meta [] c real out = refl
all_untouched meta (s ∷ ss) c real out =
    has_append (may_change meta s) (may_change_all meta ss) c
    ∙ ap (λ b. b || has (may_change_all meta ss) c)
    (untouched meta s c (real_apart c (kinds_read s ++ kinds_written s) real) (not_first (step_writes meta s) (writes_all meta ss) c out))
    ∙ all_untouched meta ss c real (not_second (step_writes meta s) (writes_all meta ss) c out)

run_leaves_others : (meta : Meta) → Sound meta → (m n : State) → Good meta m → (ss : List Step) → fold meta m ss ≡ Some n → (c : Cell) → IsReal c
    → has (writes_all meta ss) c ≡ false → Agree meta m n c
run_leaves_others meta sound m n good ss run c real out =
    run_leaves meta sound (leaves_others meta) (goes_by_needs meta) ss m n good run c (all_untouched meta ss c real out)

real_cell : (c : Cell) → IsCell c → IsReal c
real_cell (About e) is = absurd is
real_cell c is = tt

pub operation_leaves_others : OperationLeavesOthers
operation_leaves_others meta sound m n good o h c is out =
    run_leaves_others meta sound m n good (steps_of o) (ap (fold meta m) (sym (append-nil (steps_of o))) ∙ h) c (real_cell c is) out

pub package_leaves_others : PackageLeavesOthers
package_leaves_others meta sound m n good p h c is out = run_leaves_others meta sound m n good (steps_all p) h c (real_cell c is) out

cell_real : (c : Cell) → IsReal c → IsCell c
cell_real (About e) is = absurd is
cell_real c is = tt

pub states_are_their_cells : StatesAreTheirCells
states_are_their_cells meta m n h = agree_everywhere meta m n (λ c real. h c (cell_real c real))

-- ---- a step goes by its operation's cells
in_writes : (meta : Meta) (front back : List Step) (s : Step) (c : Cell) → has (step_writes meta s) c ≡ true
    → has (writes_all meta (front ++ (s ∷ back))) c ≡ true
in_writes meta [] back s c h = has_first (step_writes meta s) (writes_all meta back) c h
in_writes meta (t ∷ front) back s c h = has_second (step_writes meta t) (writes_all meta (front ++ (s ∷ back))) c (in_writes meta front back s c h)

in_reads : (front back : List Step) (s : Step) (c : Cell) → has (step_reads s) c ≡ true → has (reads_all (front ++ (s ∷ back))) c ≡ true
in_reads [] back s c h = has_first (step_reads s) (reads_all back) c h
in_reads (t ∷ front) back s c h = has_second (step_reads t) (reads_all (front ++ (s ∷ back))) c (in_reads front back s c h)

needed_alike : (meta : Meta) (m n : State) (o : Operation) → Same meta m n o → (front back : List Step) (s : Step) → steps_of o ≡ front ++ (s ∷ back)
    → AgreeAt meta m n (needs meta s)
needed_alike meta m n o same front back s is c h =
    in_either (step_reads s) (map About (kinds_written s) ++ step_writes meta s) c h
    (λ read. same.read c (subst (λ ss. has (reads_all ss) c ≡ true) (sym is) (in_reads front back s c read)))
    (λ rest. in_either (map About (kinds_written s)) (step_writes meta s) c rest
    (λ about. hung c about)
    (λ wrote. same.written c (in_op c wrote)))
  where
    in_op : (c : Cell) → has (step_writes meta s) c ≡ true → has (op_writes meta o) c ≡ true
    in_op c wrote = subst (λ ss. has (writes_all meta ss) c ≡ true) (sym is) (in_writes meta front back s c wrote)

    hung : (c : Cell) → has (map About (kinds_written s)) c ≡ true → Agree meta m n c
    hung (About e) about = same.about e (in_op (OfKind e) (writes_kind meta s e about))
    hung c about = absurd (true_false _ about (real_apart c (kinds_written s) tt))

pub step_goes_by_cells : StepGoesByCells
step_goes_by_cells meta m n good goodn o same front back s is =
    let goes = goes_by_needs meta m n good goodn s (needed_alike meta m n o same front back s is) in
    let on : (c : Cell) → Agree meta m n c → Agree meta (apply meta m s) (apply meta n s) c =
    λ c h. subst (λ w. Agree meta (apply meta m s) (written n w) c) goes.1 (agree_written meta m n (writes meta m s) c h) in (
      goes.0,
      goes.1,
      λ can.
          record { written = λ c h. on c (same.written c h); read = λ c h. on c (same.read c h); about = λ e h. on (About e) (same.about e h) },
    )

-- ---- an operation leaves what is the same for another
-- a class that is written is that of an element that is created or deleted
kind_side : (meta : Meta) (a : IdBytes) (f : ℕ) (b : IdBytes) (e : IdBytes) → cell_eq (OfKind e) (side meta a f b) ≡ false
kind_side meta a f b e =
    elim (is_bounded meta f) as (λ t.
    cell_eq (OfKind e) (elim t as (λ _. Cell) [ true ↦ OfWhole a f | false ↦ OfRow a f b ]) ≡ false) [ true ↦ refl | false ↦ refl ]

kind_mirror : (meta : Meta) (o : Option ℕ) (a b : IdBytes) (e : IdBytes) → has (mirror_side meta o a b) (OfKind e) ≡ false
kind_mirror meta None a b e = refl
kind_mirror meta (Some g) a b e = ap (λ t. t || false) (kind_side meta b g a e)

kind_rows : (meta : Meta) (a : IdBytes) (f : ℕ) (b : IdBytes) (e : IdBytes)
    → has (side meta a f b ∷ mirror_side meta (opposite_of meta f) a b) (OfKind e) ≡ false
kind_rows meta a f b e =
    ap (λ t. t || has (mirror_side meta (opposite_of meta f) a b) (OfKind e)) (kind_side meta a f b e) ∙ kind_mirror meta (opposite_of meta f) a b e

kind_list : (meta : Meta) (place : Place) (e : IdBytes) → has (place_list meta place) (OfKind e) ≡ false
kind_list meta Root e = refl
kind_list meta (Inside a f) e =
    elim (is_finite meta f) as (λ t.
    has (elim t as (λ _. List Cell) [ true ↦ OfWhole a f ∷ [] | false ↦ [] ]) (OfKind e) ≡ false) [ true ↦ refl | false ↦ refl ]

first_one : (t u : Bool) → t || u ≡ true → u ≡ false → t || false ≡ true
first_one true u h k = refl
first_one false u h k = absurd (true_false u h k)

kind_about : (meta : Meta) (s : Step) (e : IdBytes) → has (step_writes meta s) (OfKind e) ≡ true → has (map About (kinds_written s)) (About e) ≡ true
kind_about meta (New x class place rank) e h = first_one (text_eq e x) (has (place_list meta place) (OfKind e)) h (kind_list meta place e)
kind_about meta (Gone x class place rank) e h = first_one (text_eq e x) (has (place_list meta place) (OfKind e)) h (kind_list meta place e)
kind_about meta (Link a f ra b rb) e h = absurd (true_false _ h (kind_rows meta a f b e))
kind_about meta (Unlink a f ra b rb) e h = absurd (true_false _ h (kind_rows meta a f b e))
kind_about meta (RerankRow a f b old new) e h = absurd (true_false _ h (ap (λ t. t || false) (kind_side meta a f b e)))
kind_about meta (Move x from from_rank to to_rank above_from above_to) e h =
    absurd (true_false _ h
    (has_append (place_list meta from) (place_list meta to) (OfKind e) ∙ ap (λ t. t || has (place_list meta to) (OfKind e)) (kind_list meta from e)
    ∙ kind_list meta to e))
kind_about meta s e h = cc

about_needed : (meta : Meta) (ss : List Step) (e : IdBytes) → has (writes_all meta ss) (OfKind e) ≡ true → has (needs_all meta ss) (About e) ≡ true
about_needed meta [] e h = cc
about_needed meta (s ∷ ss) e h = in_either (step_writes meta s) (writes_all meta ss) (OfKind e) h
    (λ here. has_first (needs meta s) (needs_all meta ss) (About e)
    (has_second (step_reads s) (map About (kinds_written s) ++ step_writes meta s) (About e)
    (has_first (map About (kinds_written s)) (step_writes meta s) (About e) (kind_about meta s e here))))
    (λ later. has_second (needs meta s) (needs_all meta ss) (About e) (about_needed meta ss e later))

written_needed : (meta : Meta) (ss : List Step) (c : Cell) → has (writes_all meta ss) c ≡ true → has (needs_all meta ss) c ≡ true
written_needed meta [] c h = h
written_needed meta (s ∷ ss) c h = in_either (step_writes meta s) (writes_all meta ss) c h
    (λ here. has_first (needs meta s) (needs_all meta ss) c
    (has_second (step_reads s) (map About (kinds_written s) ++ step_writes meta s) c
    (has_second (map About (kinds_written s)) (step_writes meta s) c here)))
    (λ later. has_second (needs meta s) (needs_all meta ss) c (written_needed meta ss c later))

read_needed : (meta : Meta) (ss : List Step) (c : Cell) → has (reads_all ss) c ≡ true → has (needs_all meta ss) c ≡ true
read_needed meta [] c h = h
read_needed meta (s ∷ ss) c h = in_either (step_reads s) (reads_all ss) c h
    (λ here. has_first (needs meta s) (needs_all meta ss) c (has_first (step_reads s) (map About (kinds_written s) ++ step_writes meta s) c here))
    (λ later. has_second (needs meta s) (needs_all meta ss) c (read_needed meta ss c later))

pub others_leave_same : OthersLeaveSame
others_leave_same meta sound m n good o p free h =
    let apart = turned meta (steps_of o) (steps_of p) (keep_apart meta o p free) in
    let run : fold meta m (steps_of p) ≡ Some n = ap (fold meta m) (sym (append-nil (steps_of p))) ∙ h in
    let left : (c : Cell) → has (needs_all meta (steps_of o)) c ≡ true → Agree meta m n c =
    λ c needed. run_leaves meta sound (leaves_others meta) (goes_by_needs meta) (steps_of p) m n good run c
    (out meta (steps_of p) (steps_of o) apart c needed) in
    record {
      written = λ c w. left c (written_needed meta (steps_of o) c w);
      read = λ c r. left c (read_needed meta (steps_of o) c r);
      about = λ e w. left (About e) (about_needed meta (steps_of o) e w);
    }
