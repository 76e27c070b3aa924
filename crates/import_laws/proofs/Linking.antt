-- A run of links: each is made in its turn where it isn't made yet.
use Rattle.std.proofs.lemmas.Bool.Decides.{nat_tests}
use Rattle.std.proofs.Common.{◌≡◌, ℕ, ◌<◌, Bool, true, false, cond, ◌&&◌, List, [], ◌∷◌, ◌++◌, length, refl, sym, ap, subst, ◌∙◌, arith, nat_eq}
use Rattle.std.specs.Prelude.{Option, None, Some, is_some}
use Rattle.std.specs.Ordering.{eq_by_cmp}
use Rattle.std.specs.FinMap.{get}
use Rattle.finite_maps.specs.Equal.{text_eq}
use Rattle.finite_maps.specs.Maps.{count, is_within, set}
use Rattle.finite_maps.proofs.Cases.{no_some, not_so, true_false}
use Rattle.finite_maps.proofs.EqualLaws.{and_both, nat_equality, text_equality}
use Rattle.finite_maps.proofs.MapLaws.{by_key, get-set_other, get-set_same, same_key}
use Rattle.ecore_meta.specs.Meta.{Meta}
use Rattle.model_state.specs.declared.step.Step.{Step}
use Rattle.model_state.specs.Good.{Good, Sound}
use Rattle.model_state.specs.Keys.{IdBytes, RowKey, row_cmp}
use Rattle.model_state.specs.Listing.{is_of}
use Rattle.model_state.specs.State.{State}
use Rattle.model_state.specs.Steps.{fold, may_link, mirror_room}
use Rattle.model_state.specs.Typing.{opposite_of, row_upper}
use Rattle.model_state.proofs.Orders.{row_order}
use Rattle.model_laws.proofs.Runs.{fold_more}
use Rattle.edit_steps.specs.Rows.{Rows, link_step, set_pair}
use Rattle.edit_steps.proofs.Clears.{good_after}
use Rattle.edit_steps.proofs.Pairs.{Takes, link_takes}
use Rattle.model_documents.specs.declared.doc.DocRow.{DocRow}
use Rattle.import_laws.specs.Laws.{ids_differ}
use Rattle.import_laws.specs.Links.{is_made, link_to, mirror_of}
use Rattle.import_laws.specs.Names.{name_at}
use Rattle.import_laws.specs.News.{rank_of}
use Rattle.import_laws.proofs.Indexed.{named, one_at}
use Rattle.import_laws.proofs.RowCounts.{space, within}
use Rattle.import_laws.proofs.Turns.{Alone, Each, Other, Turn, each_both, each_map, key_of, turn_set, turn_step, turn_steps, turns_set}

-- ---- one entry more
pub set_within : (row whole : Rows) (k : RowKey) (r : ℕ) → within row whole → get whole k ≡ Some r → within (set row k (Some r)) whole
set_within row whole k r inside here q v =
    by_key row_order (λ q. get (set row k (Some r)) q ≡ Some v → get whole q ≡ Some v) k q
    (λ is. here ∙ (sym (get-set_same row_order row k (Some r)) ∙ is))
    (λ other is. inside q v (sym (get-set_other row_order row k (Some r) q other) ∙ is))

pub set_grows : (row : Rows) (k : RowKey) (r : ℕ) (q : RowKey) → is_some (get row q) ≡ true → is_some (get (set row k (Some r)) q) ≡ true
set_grows row k r q there =
    by_key row_order (λ q. is_some (get row q) ≡ true → is_some (get (set row k (Some r)) q) ≡ true) k q
    (λ _. ap is_some (get-set_same row_order row k (Some r)))
    (λ other there. ap is_some (get-set_other row_order row k (Some r) q other) ∙ there) there

pub set_stays : (row : Rows) (k : RowKey) (v : Option ℕ) (q : RowKey) → (q ≡ k → ⊥) → get (set row k v) q ≡ get row q
set_stays row k v q other = get-set_other row_order row k v q (not_so (eq_by_cmp row_cmp q k) (λ same. other (same_key row_order q k same)))

pair_grows : (row : Rows) (a : IdBytes) (f : ℕ) (b : IdBytes) (o : Option ℕ) (v w : ℕ) (q : RowKey) → is_some (get row q) ≡ true
    → is_some (get (set_pair row a f b o (Some v) (Some w)) q) ≡ true
pair_grows row a f b None v w q there = set_grows row (a, f, b) v q there
pair_grows row a f b (Some g) v w q there = set_grows (set row (a, f, b) (Some v)) (b, g, a) w q (set_grows row (a, f, b) v q there)

pair_here : (row : Rows) (a : IdBytes) (f : ℕ) (b : IdBytes) (o : Option ℕ) (v w : ℕ) → is_some (get (set_pair row a f b o (Some v) (Some w)) (a, f, b)) ≡ true
pair_here row a f b None v w = ap is_some (get-set_same row_order row (a, f, b) (Some v))
pair_here row a f b (Some g) v w = set_grows (set row (a, f, b) (Some v)) (b, g, a) w (a, f, b) (ap is_some (get-set_same row_order row (a, f, b) (Some v)))

pair_stays : (row : Rows) (a : IdBytes) (f : ℕ) (b : IdBytes) (o : Option ℕ) (v w : Option ℕ) (q : RowKey) → (q ≡ (a, f, b) → ⊥)
    → ((g : ℕ) → o ≡ Some g → q ≡ (b, g, a) → ⊥) → get (set_pair row a f b o v w) q ≡ get row q
pair_stays row a f b None v w q one other = set_stays row (a, f, b) v q one
pair_stays row a f b (Some g) v w q one other = set_stays (set row (a, f, b) v) (b, g, a) w q (other g refl) ∙ set_stays row (a, f, b) v q one

-- of two mirrors one is made from the other side
pub made_once : (n f b g : ℕ) → nat_eq f g ≡ false → is_made (Some g) n f b ≡ false → is_made (Some f) b g n ≡ false → ⊥
made_once n f b g other here there = grind (arith, nat_tests)

pub made_there : (n f b g : ℕ) → is_made (Some g) n f b ≡ true → is_made (Some f) b g n ≡ false
made_there n f b g here = grind (arith, nat_tests)

module _ (names : List IdBytes) (differ : ids_differ names ≡ true) where
  pub same_row : (i j : ℕ) → i < length names → j < length names → name_at names i ≡ name_at names j → i ≡ j
  same_row i j small small' is = one_at names differ i j small small' (subst (λ x. text_eq (name_at names i) x ≡ true) is (text_equality.own (name_at names i)))

  abbrev pub Small : Turn → Type 0
  Small t = (t.row < length names) × (t.target < length names)

  pub keys_other : (t u : Turn) → Small t → Small u → Other t u → key_of names t ≡ key_of names u → ⊥
  keys_other t u small small' other same =
      let row : t.row ≡ u.row = same_row t.row u.row small.0 small'.0 (ap (λ (q : RowKey). q.0) same) in
      let feature : t.feature ≡ u.feature = ap (λ (q : RowKey). q.1) same in
      let target : t.target ≡ u.target = same_row t.target u.target small.1 small'.1 (ap (λ (q : RowKey). q.2) same) in
      true_false (nat_eq t.row u.row && (nat_eq t.feature u.feature && nat_eq t.target u.target))
      (and_both (nat_eq t.row u.row) _ (equal t.row u.row row)
      (and_both (nat_eq t.feature u.feature) _ (equal t.feature u.feature feature) (equal t.target u.target target))) other
    where
      equal : (a b : ℕ) → a ≡ b → nat_eq a b ≡ true
      equal a b is = subst (λ x. nat_eq a x ≡ true) is (nat_equality.own a)

  -- ---- what the turns leave at a key
  pub turns_other : (ts : List Turn) (row : Rows) (q : RowKey) → Each (λ t. q ≡ key_of names t → ⊥) ts → get (turns_set names row ts) q ≡ get row q
  turns_other [] row q all = refl
  turns_other (t ∷ ts) row q all = turns_other ts (turn_set names row t) q all.1 ∙ set_stays row (key_of names t) (Some (rank_of t.index)) q all.0

  pub turns_held : (ts : List Turn) (row : Rows) → Each Small ts → Alone ts
      → Each (λ t. get (turns_set names row ts) (key_of names t) ≡ Some (rank_of t.index)) ts
  turns_held [] row small alone = tt
  turns_held (t ∷ ts) row small alone = (
    turns_other ts (turn_set names row t) (key_of names t)
        (each_map (λ u. Small u × Other t u) (λ u. key_of names t ≡ key_of names u → ⊥) (λ u h. keys_other t u small.0 h.0 h.1) ts
        (each_both Small (Other t) ts small.1 alone.0))
        ∙ get-set_same row_order row (key_of names t) (Some (rank_of t.index)),
    turns_held ts (turn_set names row t) small.1 alone.1,
  )

  -- each entry is an old one or one of a turn
  pub covered : (last : Rows) (ts : List Turn) (row : Rows) → ((q : RowKey) → is_some (get row q) ≡ true → is_some (get last q) ≡ true)
      → Each (λ t. is_some (get last (key_of names t)) ≡ true) ts
      → (q : RowKey) → is_some (get (turns_set names row ts) q) ≡ true → is_some (get last q) ≡ true
  covered last [] row old all q there = old q there
  covered last (t ∷ ts) row old all q there =
      covered last ts (turn_set names row t)
      (λ q. by_key row_order (λ q. is_some (get (turn_set names row t) q) ≡ true → is_some (get last q) ≡ true) (key_of names t) q
      (λ _. all.0)
      (λ other there. old q (sym (ap is_some (get-set_other row_order row (key_of names t) (Some (rank_of t.index)) q other)) ∙ there)))
      all.1 q there

module _ (meta : Meta) (sound : Sound meta) (s : State) (names : List IdBytes) (rows : List DocRow) (differ : ids_differ names ≡ true) (whole : Rows)
    (bound : (i h : ℕ) → i < length names → is_within (count (λ (e : RowKey × ℕ). is_of (name_at names i) h e.0) whole) (row_upper meta h) ≡ true) where
  abbrev pub linked : Rows → State
  linked row = record s { row = row }

  abbrev Unmade : Turn → Type 0
  Unmade t = is_made (opposite_of meta t.feature) t.row t.feature t.target ≡ false

  -- a turn whose link is due
  pub record Due (t : Turn) : Type 0 where
    pub small : (t.row < length names) × (t.target < length names)
    pub typed : may_link meta (get s.kind (name_at names t.row)) t.feature (get s.kind (name_at names t.target)) ≡ true
    pub due : get whole (key_of names t) ≡ Some (rank_of t.index)
    pub mirror : (g : ℕ) → opposite_of meta t.feature ≡ Some g
        → get whole (name_at names t.target, g, name_at names t.row) ≡ Some (mirror_of rows (Some g) t.row t.target)

  -- the links that are due have been made
  pub record Linked (row : Rows) (ts : List Turn) : Type 0 where
    pub last : Rows
    pub run : fold meta (record s { row = row }) (turn_steps meta names rows ts) ≡ Some (record s { row = last })
    pub good : Good meta (record s { row = last })
    pub inside : within last whole
    pub grows : (q : RowKey) → is_some (get row q) ≡ true → is_some (get last q) ≡ true
    pub made : Each (λ t. is_made (opposite_of meta t.feature) t.row t.feature t.target ≡ false → is_some (get last (key_of names t)) ≡ true) ts

  abbrev Absent : Rows → Turn → Type 0
  Absent row t = is_made (opposite_of meta t.feature) t.row t.feature t.target ≡ false → get row (key_of names t) ≡ None

  module _ (t : Turn) (due : Due t) (row : Rows) (inside : within row whole) where
    abbrev e : IdBytes
    e = name_at names t.row

    abbrev x : IdBytes
    x = name_at names t.target

    abbrev f : ℕ
    f = t.feature

    abbrev o : Option ℕ
    o = opposite_of meta t.feature

    abbrev ra : ℕ
    ra = rank_of t.index

    abbrev step : Step
    step = link_step (opposite_of meta t.feature) (name_at names t.row) t.feature (rank_of t.index) (name_at names t.target)
        (mirror_of rows (opposite_of meta t.feature) t.row t.target)

    abbrev next : Rows
    next = set_pair row (name_at names t.row) t.feature (name_at names t.target) (opposite_of meta t.feature) (Some (rank_of t.index))
        (Some (mirror_of rows (opposite_of meta t.feature) t.row t.target))

    step_is : (b : Bool) → is_made o t.row f t.target ≡ b → turn_step meta names rows t ≡ cond b [] (step ∷ [])
    step_is b is = ap (link_to meta rows t.row e f t.index t.target) (named names t.target due.small.1) ∙ ap (λ c. cond c [] (step ∷ [])) is

    pair_within : (o : Option ℕ) → opposite_of meta t.feature ≡ o → within (set_pair row e f x o (Some ra) (Some (mirror_of rows o t.row t.target))) whole
    pair_within None is = set_within row whole (e, f, x) ra inside due.due
    pair_within (Some g) is =
        set_within (set row (e, f, x) (Some ra)) whole (x, g, e) (mirror_of rows (Some g) t.row t.target)
        (set_within row whole (e, f, x) ra inside due.due) (due.mirror g is)

    module _ (good : Good meta (linked row)) (none : get row (key_of names t) ≡ None) where
      mirror_free : (o : Option ℕ) → opposite_of meta t.feature ≡ o → mirror_room meta (linked row) o x ≡ true
      mirror_free None is = refl
      mirror_free (Some g) is =
          space row whole inside x g e (mirror_of rows (Some g) t.row t.target)
          (no_some (get row (x, g, e)) (sym (good.rows.mirrored e f x g is) ∙ ap is_some none)) (due.mirror g is) (row_upper meta g)
          (bound t.target g due.small.1)

      takes : Takes meta (linked row) step next
      takes = link_takes meta sound (linked row) good e f ra x (mirror_of rows o t.row t.target) due.typed none
          (space row whole inside e f x ra none due.due (row_upper meta f) (bound t.row f due.small.0)) (mirror_free o refl)

    -- the links that are still due are not there yet
    still : (u : Turn) → Due u → Other t u → Unmade t → Absent row u → Absent next u
    still u due' other unmade absent unmade' =
        pair_stays row e f x o (Some ra) (Some (mirror_of rows o t.row t.target)) (key_of names u)
        (λ same. keys_other names differ t u due.small due'.small other (sym same))
        (λ g is same.
        let source : u.row ≡ t.target = same_row names differ u.row t.target due'.small.0 due.small.1 (ap (λ (q : RowKey). q.0) same) in
        let feature : u.feature ≡ g = ap (λ (q : RowKey). q.1) same in
        let target : u.target ≡ t.row = same_row names differ u.target t.row due'.small.1 due.small.0 (ap (λ (q : RowKey). q.2) same) in
        let back : opposite_of meta u.feature ≡ Some f = ap (opposite_of meta) feature ∙ sound.both f g is in
        made_once t.row f t.target g (sound.other f g is) (sym (ap (λ p. is_made p t.row f t.target) is) ∙ unmade)
        (sym (ap (λ p. is_made p u.row u.feature u.target) back ∙ (λ i. is_made (Some f) (source i) (feature i) (target i))) ∙ unmade'))
        ∙ absent unmade'

  pub links_lead : (ts : List Turn) (row : Rows) → Good meta (record s { row = row }) → within row whole → Each Due ts → Alone ts
      → Each (λ t. is_made (opposite_of meta t.feature) t.row t.feature t.target ≡ false → get row (key_of names t) ≡ None) ts → Linked row ts
  links_lead [] row good inside due alone absent = record { last = row; run = refl; good = good; inside = inside; grows = λ q there. there; made = tt }
  links_lead (t ∷ ts) row good inside due alone absent =
      let more = turn_steps meta names rows ts in
      elim (is_made (opposite_of meta t.feature) t.row t.feature t.target) as (λ b. is_made (opposite_of meta t.feature) t.row t.feature t.target ≡ b
      → Linked row (t ∷ ts)) [
        | true ↦ λ made.
            let rest = links_lead ts row good inside due.1 alone.1 absent.1 in
            record {
              last = rest.last;
              run = ap (λ ss. fold meta (linked row) (ss ++ more)) (step_is t due.0 row inside true made) ∙ rest.run;
              good = rest.good;
              inside = rest.inside;
              grows = rest.grows;
              made = (λ unmade. absurd (true_false _ made unmade), rest.made);
            }
        | false ↦ λ unmade.
            let rb = mirror_of rows (opposite_of meta t.feature) t.row t.target in
            let now = next t due.0 row inside in
            let took = takes t due.0 row inside good (absent.0 unmade) in
            let absent' = each_map (λ u. (Due u × Other t u) × Absent row u) (Absent now)
            (λ u h. still t due.0 row inside u h.0.0 h.0.1 unmade h.1) ts
            (each_both (λ u. Due u × Other t u) (Absent row) ts (each_both Due (Other t) ts due.1 alone.0) absent.1) in
            let rest = links_lead ts now (good_after meta sound (linked row) good (step t due.0 row inside) now took)
            (pair_within t due.0 row inside (opposite_of meta t.feature) refl) due.1 alone.1 absent' in
            record {
              last = rest.last;
              run = ap (λ ss. fold meta (linked row) (ss ++ more)) (step_is t due.0 row inside false unmade)
                  ∙ fold_more meta (linked row) (step t due.0 row inside) more took.can ∙ ap (λ n. fold meta n more) took.leaves ∙ rest.run;
              good = rest.good;
              inside = rest.inside;
              grows = λ q there. rest.grows q
                  (pair_grows row (name_at names t.row) t.feature (name_at names t.target) (opposite_of meta t.feature) (rank_of t.index) rb q there);
              made = (
                λ _. rest.grows (key_of names t)
                    (pair_here row (name_at names t.row) t.feature (name_at names t.target) (opposite_of meta t.feature) (rank_of t.index) rb),
                rest.made,
              );
            }
      ] refl
