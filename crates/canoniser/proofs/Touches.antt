-- Operations to which a rule applies have the same cells, and touch.
use Rattle.std.proofs.Common.{◌≡◌, Bool, true, false, cond, ◌||◌, ◌&&◌, List, [], ◌∷◌, ◌++◌, refl, sym, ap, ◌∙◌, map, nat_eq}
use Rattle.std.specs.Prelude.{Option, None, Some}
use Rattle.std.specs.Option.{option_map}
use Rattle.std.proofs.Math.Bool.{or_comm}
use Rattle.std.proofs.lemmas.List.{map-append}
use Rattle.finite_maps.specs.Equal.{text_eq}
use Rattle.finite_maps.proofs.EqualLaws.{and_first, and_second, and_both, nat_equality, text_equality, list_equality}
use Rattle.finite_maps.proofs.Cases.{true_false, not_so, some_none, or_first, or_second}
use Rattle.ecore_meta.specs.Meta.{Meta}
use Rattle.model_state.specs.declared.step.Step.{Step}
use Rattle.model_state.specs.declared.step.Step.TheVariants.{Put, Ins, Del, Shift, Link, Unlink, RerankRow, New, Gone, Move, RerankPlace}
use Rattle.model_state.specs.declared.operation.Operation.{Operation}
use Rattle.model_state.specs.declared.operation.Operation.TheVariants.{Simple}
use Rattle.model_state.specs.Packages.{steps_of}
use Rattle.model_state.specs.Steps.{rev, rev_all}
use Rattle.model_laws.specs.Cells.{Cell, OfKind, OfPlace, OfRank, OfAttr, OfRow, OfWhole, About, cell_eq, has, side, place_list, parents_of}
use Rattle.model_laws.specs.Cells.{step_writes, step_reads, writes_all, reads_all}
use Rattle.model_laws.proofs.Exchange.{has_append}
use Rattle.footprint.specs.Interference.{op_writes, op_reads, interferes}
use Rattle.footprint.proofs.Pairs.{keep_apart, interferes_not}
use Rattle.cell_index.specs.Standing.{is_none}
use Rattle.merge_laws.specs.Joins.{step_eq, steps_eq, joined}
use Rattle.merge_laws.proofs.StepEqual.{step_equality}
use Rattle.merge_laws.specs.Rules.{takes_back, joined_op, met}
use Rattle.canoniser.specs.Meetings.{touches}
use Rattle.canoniser.proofs.Leaving.{back_left}

-- ---- the same cells
pub record Alike (meta : Meta) (a b : Operation) : Type 0 where
  pub writes : (c : Cell) → has (op_writes meta a) c ≡ has (op_writes meta b) c
  pub reads : (c : Cell) → has (op_reads a) c ≡ has (op_reads b) c

cell_own : (c : Cell) → cell_eq c c ≡ true
cell_own (OfKind a) = text_equality.own a
cell_own (OfPlace a) = text_equality.own a
cell_own (OfRank a) = text_equality.own a
cell_own (OfAttr a f) = and_both _ _ (text_equality.own a) (nat_equality.own f)
cell_own (OfRow a f x) = and_both _ _ (and_both _ _ (text_equality.own a) (nat_equality.own f)) (text_equality.own x)
cell_own (OfWhole a f) = and_both _ _ (text_equality.own a) (nat_equality.own f)
cell_own (About a) = text_equality.own a

has_first : (c : Cell) (cs : List Cell) → has (c ∷ cs) c ≡ true
has_first c cs = ap (λ b. b || has cs c) (cell_own c)

none_same : (xs ys : List Cell) → ((c : Cell) → has xs c ≡ has ys c) → is_none xs ≡ is_none ys
none_same [] [] h = refl
none_same [] (y ∷ ys) h = absurd (true_false (has (y ∷ ys) y) (has_first y ys) (sym (h y)))
none_same (x ∷ xs) [] h = absurd (true_false (has (x ∷ xs) x) (has_first x xs) (h x))
none_same (x ∷ xs) (y ∷ ys) h = refl

pub no_clash : (meta : Meta) (a b : Operation) → touches meta a b ≡ false → interferes meta a b ≡ false
unfolding interferes
no_clash meta a b h = or_first (interferes meta a b) (is_none (op_writes meta a) && is_none (op_writes meta b)) h

touches_not : (meta : Meta) (a b : Operation) → interferes meta a b ≡ false → is_none (op_writes meta a) && is_none (op_writes meta b) ≡ false
    → touches meta a b ≡ false
unfolding interferes
touches_not meta a b h g = ap (λ t. t || (is_none (op_writes meta a) && is_none (op_writes meta b))) h ∙ g

idle_not : (meta : Meta) (a b : Operation) → touches meta a b ≡ false → is_none (op_writes meta a) && is_none (op_writes meta b) ≡ false
unfolding interferes
idle_not meta a b h = or_second (interferes meta a b) (is_none (op_writes meta a) && is_none (op_writes meta b)) h

-- what touches the one touches the other
pub alike_apart : (meta : Meta) (a b y : Operation) → Alike meta a b → touches meta b y ≡ false → touches meta a y ≡ false
alike_apart meta a b y al h =
    let k = keep_apart meta b y (no_clash meta b y h) in
    touches_not meta a y
    (interferes_not meta a y (record {
      written = λ c g. k.written c (sym (al.writes c) ∙ g);
      first_read = λ c g. al.reads c ∙ k.first_read c g;
      second_read = λ c g. k.second_read c (sym (al.writes c) ∙ g);
    }))
    (ap (λ t. t && is_none (op_writes meta y)) (none_same (op_writes meta a) (op_writes meta b) al.writes) ∙ idle_not meta b y h)

-- ---- steps and their reversals
or_third : (a b c : Bool) → a || (b || c) ≡ (a || b) || c
or_third true b c = refl
or_third false b c = refl

all_writes : (meta : Meta) (ss ts : List Step) (c : Cell) → has (writes_all meta (ss ++ ts)) c ≡ has (writes_all meta ss) c || has (writes_all meta ts) c
all_writes meta [] ts c = refl
all_writes meta (s ∷ ss) ts c =
    has_append (step_writes meta s) (writes_all meta (ss ++ ts)) c
    ∙ ap (λ b. has (step_writes meta s) c || b) (all_writes meta ss ts c)
    ∙ or_third (has (step_writes meta s) c) (has (writes_all meta ss) c) (has (writes_all meta ts) c)
    ∙ ap (λ b. b || has (writes_all meta ts) c) (sym (has_append (step_writes meta s) (writes_all meta ss) c))

all_reads : (ss ts : List Step) (c : Cell) → has (reads_all (ss ++ ts)) c ≡ has (reads_all ss) c || has (reads_all ts) c
all_reads [] ts c = refl
all_reads (s ∷ ss) ts c =
    has_append (step_reads s) (reads_all (ss ++ ts)) c
    ∙ ap (λ b. has (step_reads s) c || b) (all_reads ss ts c)
    ∙ or_third (has (step_reads s) c) (has (reads_all ss) c) (has (reads_all ts) c)
    ∙ ap (λ b. b || has (reads_all ts) c) (sym (has_append (step_reads s) (reads_all ss) c))

either_way : (xs ys : List Cell) (c : Cell) → has (xs ++ ys) c ≡ has (ys ++ xs) c
either_way xs ys c = has_append xs ys c ∙ or_comm (has xs c) (has ys c) ∙ sym (has_append ys xs c)

rev_writes : (meta : Meta) (s : Step) (c : Cell) → has (step_writes meta (rev s)) c ≡ has (step_writes meta s) c
rev_writes meta (Put e f old new) c = refl
rev_writes meta (Ins e f at v) c = refl
rev_writes meta (Del e f at v) c = refl
rev_writes meta (Shift e f from to) c = refl
rev_writes meta (Link a f ra b rb) c = refl
rev_writes meta (Unlink a f ra b rb) c = refl
rev_writes meta (RerankRow a f b old new) c = refl
rev_writes meta (New e class place rank) c = refl
rev_writes meta (Gone e class place rank) c = refl
rev_writes meta (Move e from from_rank to to_rank above_from above_to) c =
    ap (λ b. cell_eq c (OfPlace e) || (cell_eq c (OfRank e) || b)) (either_way (place_list meta to) (place_list meta from) c)
rev_writes meta (RerankPlace e old new) c = refl

maps_either : {A : Type 0} (f : A → Cell) (xs ys : List A) (c : Cell) → has (map f (xs ++ ys)) c ≡ has (map f (ys ++ xs)) c
maps_either f xs ys c = ap (λ l. has l c) (map-append f xs ys) ∙ either_way (map f xs) (map f ys) c ∙ ap (λ l. has l c) (sym (map-append f ys xs))

rev_reads : (s : Step) (c : Cell) → has (step_reads (rev s)) c ≡ has (step_reads s) c
rev_reads (Put e f old new) c = refl
rev_reads (Ins e f at v) c = refl
rev_reads (Del e f at v) c = refl
rev_reads (Shift e f from to) c = refl
rev_reads (Link a f ra b rb) c = refl
rev_reads (Unlink a f ra b rb) c = refl
rev_reads (RerankRow a f b old new) c = refl
rev_reads (New e class place rank) c = refl
rev_reads (Gone e class place rank) c = refl
rev_reads (Move e from from_rank to to_rank above_from above_to) c =
    has_append (map OfKind (e ∷ (parents_of to ++ parents_of from))) (map OfPlace (above_to ++ above_from)) c
    ∙ (λ i. (cell_eq c (OfKind e) || maps_either OfKind (parents_of to) (parents_of from) c i) || maps_either OfPlace above_to above_from c i)
    ∙ sym (has_append (map OfKind (e ∷ (parents_of from ++ parents_of to))) (map OfPlace (above_from ++ above_to)) c)
rev_reads (RerankPlace e old new) c = refl

last_writes : (meta : Meta) (s : Step) (c : Cell) → has (writes_all meta (s ∷ [])) c ≡ has (step_writes meta s) c
last_writes meta s c = has_append (step_writes meta s) [] c ∙ or_comm (has (step_writes meta s) c) false

last_reads : (s : Step) (c : Cell) → has (reads_all (s ∷ [])) c ≡ has (step_reads s) c
last_reads s c = has_append (step_reads s) [] c ∙ or_comm (has (step_reads s) c) false

back_writes : (meta : Meta) (ss : List Step) (c : Cell) → has (writes_all meta (rev_all ss)) c ≡ has (writes_all meta ss) c
back_writes meta [] c = refl
back_writes meta (s ∷ ss) c =
    all_writes meta (rev_all ss) (rev s ∷ []) c
    ∙ (λ i. back_writes meta ss c i || (last_writes meta (rev s) c ∙ rev_writes meta s c) i)
    ∙ or_comm (has (writes_all meta ss) c) (has (step_writes meta s) c)
    ∙ sym (has_append (step_writes meta s) (writes_all meta ss) c)

back_reads : (ss : List Step) (c : Cell) → has (reads_all (rev_all ss)) c ≡ has (reads_all ss) c
back_reads [] c = refl
back_reads (s ∷ ss) c =
    all_reads (rev_all ss) (rev s ∷ []) c
    ∙ (λ i. back_reads ss c i || (last_reads (rev s) c ∙ rev_reads s c) i)
    ∙ or_comm (has (reads_all ss) c) (has (step_reads s) c)
    ∙ sym (has_append (step_reads s) (reads_all ss) c)

-- ---- where a rule applies
held : {B : Type 0} (t : Bool) (v u : B) → cond t (Some v) None ≡ Some u → t ≡ true
held true v u h = refl
held false v u h = cc

joined_writes : (meta : Meta) (s t u : Step) → joined s t ≡ Some u → step_writes meta s ≡ step_writes meta t
joined_writes meta (Put e f old mid) (Put e' f' mid' new) u h =
    let all = held (text_eq e e' && nat_eq f f') (Put e f old new) u h in
    let p = text_equality.exact e e' (and_first (text_eq e e') (nat_eq f f') all) in
    let q = nat_equality.exact f f' (and_second (text_eq e e') (nat_eq f f') all) in
    λ i. OfAttr (p i) (q i) ∷ []
joined_writes meta (RerankRow a f b old mid) (RerankRow a' f' b' mid' new) u h =
    let all = held (text_eq a a' && (nat_eq f f' && text_eq b b')) (RerankRow a f b old new) u h in
    let rest = and_second (text_eq a a') (nat_eq f f' && text_eq b b') all in
    let p = text_equality.exact a a' (and_first (text_eq a a') (nat_eq f f' && text_eq b b') all) in
    let q = nat_equality.exact f f' (and_first (nat_eq f f') (text_eq b b') rest) in
    let r = text_equality.exact b b' (and_second (nat_eq f f') (text_eq b b') rest) in
    λ i. side meta (p i) (q i) (r i) ∷ []
joined_writes meta (RerankPlace e old mid) (RerankPlace e' mid' new) u h =
    let p = text_equality.exact e e' (held (text_eq e e') (RerankPlace e old new) u h) in
    λ i. OfRank (p i) ∷ []
joined_writes meta s t u h = cc

joined_reads : (s t u : Step) → joined s t ≡ Some u → step_reads s ≡ step_reads t
joined_reads (Put e f old mid) (Put e' f' mid' new) u h =
    let all = held (text_eq e e' && nat_eq f f') (Put e f old new) u h in
    let p = text_equality.exact e e' (and_first (text_eq e e') (nat_eq f f') all) in
    λ i. OfKind (p i) ∷ []
joined_reads (RerankRow a f b old mid) (RerankRow a' f' b' mid' new) u h =
    let all = held (text_eq a a' && (nat_eq f f' && text_eq b b')) (RerankRow a f b old new) u h in
    let rest = and_second (text_eq a a') (nat_eq f f' && text_eq b b') all in
    let p = text_equality.exact a a' (and_first (text_eq a a') (nat_eq f f' && text_eq b b') all) in
    let r = text_equality.exact b b' (and_second (nat_eq f f') (text_eq b b') rest) in
    λ i. OfKind (p i) ∷ OfKind (r i) ∷ []
joined_reads (RerankPlace e old mid) (RerankPlace e' mid' new) u h =
    let p = text_equality.exact e e' (held (text_eq e e') (RerankPlace e old new) u h) in
    λ i. OfPlace (p i) ∷ []
joined_reads s t u h = cc

some_of : {A B : Type 0} (f : A → B) (o : Option A) (v : B) → option_map f o ≡ Some v → (u : A) × (o ≡ Some u)
some_of f None v h = cc
some_of f (Some u) v h = (u, refl)

join_alike : (meta : Meta) (a b c : Operation) → joined_op a b ≡ Some c → Alike meta a b
join_alike meta (Simple kind (s ∷ [])) (Simple other (t ∷ [])) c h =
    let u = some_of (λ u. Simple kind (u ∷ [])) (joined s t) c h in
    record {
      writes = λ x. ap (λ l. has (l ++ []) x) (joined_writes meta s t u.0 u.1);
      reads = λ x. ap (λ l. has (l ++ []) x) (joined_reads s t u.0 u.1);
    }
join_alike meta a b c h = cc

back_alike : (meta : Meta) (a b : Operation) → takes_back b a ≡ true → Alike meta a b
back_alike meta a b h =
    let is = (list_equality step_eq step_equality).exact (steps_of b) (rev_all (steps_of a)) h in
    record {
      writes = λ c. sym (ap (λ l. has (writes_all meta l) c) is ∙ back_writes meta (steps_of a) c);
      reads = λ c. sym (ap (λ l. has (reads_all l) c) is ∙ back_reads (steps_of a) c);
    }

pub met_alike : (meta : Meta) (a b : Operation) (left : List Operation) → met a b ≡ Some left → Alike meta a b
met_alike meta a b left h =
    elim (takes_back b a) as (λ t. takes_back b a ≡ t → cond t (Some []) (option_map (λ c. c ∷ []) (joined_op a b)) ≡ Some left → Alike meta a b) [
      | true ↦ λ is g. back_alike meta a b is
      | false ↦ λ is g. let c = some_of (λ c. c ∷ []) (joined_op a b) left g in join_alike meta a b c.0 c.1
    ] refl h

pub alike_turned : (meta : Meta) (a b : Operation) → Alike meta a b → Alike meta b a
alike_turned meta a b al = record { writes = λ c. sym (al.writes c); reads = λ c. sym (al.reads c) }

pub alike_print : (meta : Meta) (a b : Operation) → op_writes meta a ≡ op_writes meta b → op_reads a ≡ op_reads b → Alike meta a b
alike_print meta a b w r = record { writes = λ c. ap (λ l. has l c) w; reads = λ c. ap (λ l. has l c) r }

-- alike operations touch
self_apart : (ws vs : List Cell) → ((c : Cell) → has ws c ≡ has vs c) → ((c : Cell) → has ws c ≡ true → has vs c ≡ false) → is_none ws && is_none vs ≡ false → ⊥
self_apart [] [] same apart idle = true_false true refl idle
self_apart [] (v ∷ vs) same apart idle = true_false (has (v ∷ vs) v) (has_first v vs) (sym (same v))
self_apart (w ∷ ws) vs same apart idle = true_false (has vs w) (sym (same w) ∙ has_first w ws) (apart w (has_first w ws))

alike_touch : (meta : Meta) (a b : Operation) → Alike meta a b → touches meta a b ≡ false → ⊥
alike_touch meta a b al h = let k = keep_apart meta a b (no_clash meta a b h)
    in self_apart (op_writes meta a) (op_writes meta b) al.writes k.written (idle_not meta a b h)

no_left : (o : Option (List Operation)) → ((left : List Operation) → o ≡ Some left → ⊥) → o ≡ None
no_left None h = refl
no_left (Some left) h = absurd (h left refl)

-- no rule applies to operations that do not touch
pub apart_none : (meta : Meta) (a b : Operation) → touches meta a b ≡ false → met a b ≡ None
apart_none meta a b h = no_left (met a b) (λ left rule. alike_touch meta a b (met_alike meta a b left rule) h)

pub apart_none_back : (meta : Meta) (a b : Operation) → touches meta b a ≡ false → met a b ≡ None
apart_none_back meta a b h = no_left (met a b) (λ left rule. alike_touch meta b a (alike_turned meta a b (met_alike meta a b left rule)) h)

-- ---- operations that write nothing
writes_some : (meta : Meta) (s : Step) (cs : List Cell) → is_none (step_writes meta s ++ cs) ≡ false
writes_some meta (Put e f old new) cs = refl
writes_some meta (Ins e f at v) cs = refl
writes_some meta (Del e f at v) cs = refl
writes_some meta (Shift e f from to) cs = refl
writes_some meta (Link a f ra b rb) cs = refl
writes_some meta (Unlink a f ra b rb) cs = refl
writes_some meta (RerankRow a f b old new) cs = refl
writes_some meta (New e class place rank) cs = refl
writes_some meta (Gone e class place rank) cs = refl
writes_some meta (Move e from from_rank to to_rank above_from above_to) cs = refl
writes_some meta (RerankPlace e old new) cs = refl

no_steps : (meta : Meta) (ss : List Step) → is_none (writes_all meta ss) ≡ true → ss ≡ []
no_steps meta [] h = refl
no_steps meta (s ∷ ss) h = absurd (true_false (is_none (writes_all meta (s ∷ ss))) h (writes_some meta s (writes_all meta ss)))

-- they take each other back
idle_met : (meta : Meta) (a b : Operation) → is_none (op_writes meta b) && is_none (op_writes meta a) ≡ true → met a b ≡ None → ⊥
idle_met meta a b idle none =
    let bs = no_steps meta (steps_of b) (and_first (is_none (op_writes meta b)) (is_none (op_writes meta a)) idle) in
    let as' = no_steps meta (steps_of a) (and_second (is_none (op_writes meta b)) (is_none (op_writes meta a)) idle) in
    let back : takes_back b a ≡ true = (λ i. steps_eq (bs i) (rev_all (as' i))) in
    some_none (met a b) [] (back_left a b back) none

-- what touches, and to which no rule applies, interferes
pub touch_stops : (meta : Meta) (a b : Operation) → touches meta b a ≡ true → met a b ≡ None → interferes meta b a ≡ true
touch_stops meta a b h none =
    elim (interferes meta b a) as (λ t. interferes meta b a ≡ t → t ≡ true) [
      | true ↦ λ _. refl
      | false ↦ λ out. absurd
          (true_false (touches meta b a) h
          (touches_not meta b a out (not_so (is_none (op_writes meta b) && is_none (op_writes meta a)) (λ idle. idle_met meta a b idle none))))
    ] refl
