-- Operations by their positions, as they come, stand and go.
use Rattle.std.proofs.Common.{◌≡◌, ℕ, zero, suc, ◌+◌, ◌<◌, ◌≤◌, Bool, true, false, List, [], ◌∷◌, ◌++◌, refl, sym, ap, subst, ◌∙◌, length, get_or}
use Rattle.std.proofs.Common.{set, arith, append_assoc, append-nil, length-append}
use Rattle.std.specs.Prelude.{Option, None, Some, MatchOption, IfSome}
use Rattle.std.proofs.lemmas.List.{get_or-append-add, get_or_append_left}
use Rattle.std.proofs.Math.Seq.{get_or-append_seam, set-append_seam}
use Rattle.finite_maps.proofs.Cases.{not_so}
use Rattle.ecore_meta.specs.Meta.{Meta}
use Rattle.model_state.specs.declared.operation.Operation.{Operation}
use Rattle.footprint.specs.declared.cell.Print.{Print}
use Rattle.footprint.specs.Interference.{op_writes, op_reads}
use Rattle.footprint.specs.Prints.{shown, printed}
use Rattle.footprint.proofs.Printed.{as_many, print_at}
use Rattle.cell_index.specs.Standing.{touch, prints_touch, Hit, LastHit, IsLast}
use Rattle.cell_index.proofs.Touching.{print_same}
use Rattle.merge_laws.specs.Rules.{met, NoRule, Settles, more, done}
use Rattle.merge_laws.specs.Tidy.{onto, Unmet, Settled}
use Rattle.canoniser.specs.Meetings.{list_of, standing_of, touches, Apart, RuleAt, NoRuleAt, Calm, Ready, Leads, stands_out, ops_out, place_left}
use Rattle.canoniser.proofs.Cells.{met_print}
use Rattle.canoniser.proofs.Moves.{settled_rule, stays, passes_all, passes_stop, others_settled, left_apart, rule_taken}

-- ---- what stands
pub kept_append : (fs gs : List Bool) (xs ys : List Operation) → length fs ≡ length xs
    → standing_of (fs ++ gs) (xs ++ ys) ≡ standing_of fs xs ++ standing_of gs ys
kept_append [] gs [] ys h = refl
kept_append [] gs (x ∷ xs) ys h = absurd (omega (arith, h))
kept_append (true ∷ fs) gs [] ys h = absurd (omega (arith, h))
kept_append (false ∷ fs) gs [] ys h = absurd (omega (arith, h))
kept_append (true ∷ fs) gs (x ∷ xs) ys h = ap (λ l. x ∷ l) (kept_append fs gs xs ys (omega (arith, h)))
kept_append (false ∷ fs) gs (x ∷ xs) ys h = kept_append fs gs xs ys (omega (arith, h))

-- those that have not come all stand
pub kept_rest : (fs : List Bool) (xs ys : List Operation) → length fs ≡ length xs → standing_of fs (xs ++ ys) ≡ standing_of fs xs ++ ys
kept_rest fs xs ys h = ap (λ l. standing_of l (xs ++ ys)) (sym (append-nil fs)) ∙ kept_append fs [] xs ys h

-- none of those that stand in a part touches b
pub part_apart : (meta : Meta) (b : Operation) (gs : List Bool) (ys : List Operation) → length gs ≡ length ys
    → ((j : ℕ) (y : Operation) → j < length ys → get_or gs j false ≡ true → y ≡ get_or ys j y → touches meta b y ≡ false) → Apart meta b (standing_of gs ys)
part_apart meta b [] [] h out = tt
part_apart meta b [] (y ∷ ys) h out = absurd (omega (arith, h))
part_apart meta b (true ∷ gs) [] h out = absurd (omega (arith, h))
part_apart meta b (false ∷ gs) [] h out = absurd (omega (arith, h))
part_apart meta b (true ∷ gs) (y ∷ ys) h out =
    (out 0 y (omega arith) refl refl, part_apart meta b gs ys (omega (arith, h)) (λ j z low on is. out (suc j) z (omega (arith, low)) on is))
part_apart meta b (false ∷ gs) (y ∷ ys) h out = part_apart meta b gs ys (omega (arith, h)) (λ j z low on is. out (suc j) z (omega (arith, low)) on is)

-- flags and operations, cut at a position where one stands
pub record Cut (fs : List Bool) (xs : List Operation) (i : ℕ) : Type 0 where
  pub first : List Bool
  pub second : List Bool
  pub front : List Operation
  pub a : Operation
  pub mid : List Operation
  pub flags : fs ≡ first ++ (true ∷ second)
  pub ops : xs ≡ front ++ (a ∷ mid)
  pub place : length front ≡ i
  pub many : length first ≡ length front
  pub more : length second ≡ length mid

pub cut_at : (fs : List Bool) (xs : List Operation) (i : ℕ) → length fs ≡ length xs → i < length xs → get_or fs i false ≡ true → Cut fs xs i
cut_at [] [] i same low on = absurd (omega (arith, low))
cut_at [] (x ∷ xs) i same low on = absurd (omega (arith, same))
cut_at (f ∷ fs) [] i same low on = absurd (omega (arith, same))
cut_at (f ∷ fs) (x ∷ xs) zero same low on =
    record {
      first = [];
      second = fs;
      front = [];
      a = x;
      mid = xs;
      flags = ap (λ g. g ∷ fs) on;
      ops = refl;
      place = refl;
      many = refl;
      more =
          omega (arith, same);
    }
cut_at (f ∷ fs) (x ∷ xs) (suc i) same low on =
    let c = cut_at fs xs i (omega (arith, same)) (omega (arith, low)) on in
    record {
      first = f ∷ c.first;
      second = c.second;
      front = x ∷ c.front;
      a = c.a;
      mid = c.mid;
      flags = ap (λ l. f ∷ l) c.flags;
      ops =
          ap (λ l. x ∷ l) c.ops;
      place = ap suc c.place;
      many = ap suc c.many;
      more = c.more;
    }

-- ---- prints show which operations touch
module _ (meta : Meta) (prints : List Print) (ops : List Operation) (is : shown prints ≡ printed meta ops) where
  touch_tells : (at k : ℕ) (p : Print) (b y : Operation) → at < length ops → k < length ops → p ≡ get_or prints at p → b ≡ get_or ops at b
      → y ≡ get_or ops k y → prints_touch p (get_or prints k p) ≡ touches meta b y
  touch_tells at k p b y low high p_is b_is y_is =
      let q : Print = get_or prints k p in
      let many = as_many meta prints ops is in
      let q_is : q ≡ get_or prints k q = print_same prints k p q (omega (arith, high, many)) in
      let first = print_at meta prints ops at p b is low p_is b_is in
      let second = print_at meta prints ops k q y is high q_is y_is in
      λ i. touch (first.0 i) (first.1 i) (second.0 i) (second.1 i)

  -- where there is no hit, what stands doesn't touch
  no_hit : (stands : List Bool) (at k : ℕ) (p : Print) (b y : Operation) → at < length ops → k < at → p ≡ get_or prints at p → b ≡ get_or ops at b
      → y ≡ get_or ops k y → get_or stands k false ≡ true → (Hit stands prints p at k → ⊥) → touches meta b y ≡ false
  no_hit stands at k p b y low below p_is b_is y_is on none =
      not_so (touches meta b y)
      (λ yes. none (record { low = below; there = on; near = touch_tells at k p b y low (omega (arith, low, below)) p_is b_is y_is ∙ yes }))

  some_hit : (stands : List Bool) (at k : ℕ) (p : Print) (b y : Operation) → at < length ops → p ≡ get_or prints at p → b ≡ get_or ops at b
      → y ≡ get_or ops k y → Hit stands prints p at k → touches meta b y ≡ true
  some_hit stands at k p b y low p_is b_is y_is hit =
      sym (touch_tells at k p b y low (let below = hit.low in omega (arith, low, below)) p_is b_is y_is) ∙ hit.near

-- ---- positions
seam : {A : Type 0} (xs ys : List A) (a : A) (i : ℕ) → length xs ≡ i → a ≡ get_or (xs ++ (a ∷ ys)) i a
seam xs ys a i e = sym (ap (λ n. get_or (xs ++ (a ∷ ys)) n a) (sym e) ∙ get_or-append_seam xs a ys a)

behind : {A : Type 0} (xs ys zs : List A) (a d : A) (j n : ℕ) → j < length ys → length xs ≡ n → get_or (xs ++ (a ∷ (ys ++ zs))) (n + suc j) d ≡ get_or ys j d
behind xs ys zs a d j n low e =
    ap (λ m. get_or (xs ++ (a ∷ (ys ++ zs))) (m + suc j) d) (sym e) ∙ get_or-append-add xs (a ∷ (ys ++ zs)) (suc j) d ∙ get_or_append_left ys zs d j low

set_seam : {A : Type 0} (xs ys : List A) (a b : A) (i : ℕ) → length xs ≡ i → set (xs ++ (a ∷ ys)) i b ≡ xs ++ (b ∷ ys)
set_seam xs ys a b i e = ap (λ n. set (xs ++ (a ∷ ys)) n b) (sym e) ∙ set-append_seam xs a ys b

same_place : (meta : Meta) (front back : List Operation) (a c : Operation) → op_writes meta c ≡ op_writes meta a → op_reads c ≡ op_reads a
    → printed meta (front ++ (c ∷ back)) ≡ printed meta (front ++ (a ∷ back))
unfolding printed
same_place meta [] back a c w r = λ t. (w t, r t) ∷ printed meta back
same_place meta (x ∷ front) back a c w r = ap (λ l. (op_writes meta x, op_reads x) ∷ l) (same_place meta front back a c w r)

-- what a turn makes of the flags and operations, where it gives a position or none
pub record Turned (meta : Meta) (stands made : List Bool) (prints : List Print) (ops new : List Operation) (at : ℕ) (o : Option ℕ) : Type 0 where
  pub printed : shown prints ≡ printed meta new
  pub leads : Leads meta (standing_of stands ops) (standing_of made new)
  pub turned : MatchOption o (Calm meta made new) (Ready meta made new)
  pub lower : IfSome o (λ j. j < at)

-- ---- one turn
module _ (meta : Meta) (stands : List Bool) (prints : List Print) (ops : List Operation) (at : ℕ) (is : shown prints ≡ printed meta ops)
    (r : Ready meta stands ops at) where
  many_come : length stands ≡ suc (length r.front + length r.back)
  many_come =
      let all = ap length r.stands_is ∙ length-append r.first (true ∷ r.second) in
      let m = r.many in let n = r.more in omega (arith, all, m, n)

  pub within_ops : at < length ops
  within_ops = let all = ap length r.ops_is ∙ length-append r.front (r.b ∷ (r.back ++ r.rest)) in let p = r.place in omega (arith, all, p)

  b_is : r.b ≡ get_or ops at r.b
  b_is = seam r.front (r.back ++ r.rest) r.b at r.place ∙ ap (λ l. get_or l at r.b) (sym r.ops_is)

  at_prints : at < length prints
  at_prints = let m = as_many meta prints ops is in let low = within_ops in omega (arith, m, low)

  pub p_there : (p : Print) × (p ≡ get_or prints at p)
  p_there = one_at prints at at_prints
    where
      one_at : (ps : List Print) (n : ℕ) → n < length ps → (p : Print) × (p ≡ get_or ps n p)
      one_at [] n low = absurd (omega (arith, low))
      one_at (p ∷ ps) zero low = (p, refl)
      one_at (p ∷ ps) (suc n) low = one_at ps n (omega (arith, low))

  whole : standing_of stands ops ≡ standing_of r.first r.front ++ (r.b ∷ (standing_of r.second r.back ++ r.rest))
  whole =
      (λ i. standing_of (r.stands_is i) (r.ops_is i))
      ∙ kept_append r.first (true ∷ r.second) r.front (r.b ∷ (r.back ++ r.rest)) r.many
      ∙ ap (λ l. standing_of r.first r.front ++ (r.b ∷ l)) (kept_rest r.second r.back r.rest r.more)

  -- what stands before the position
  front_flag : (k : ℕ) → k < length r.front → get_or stands k false ≡ get_or r.first k false
  front_flag k low = ap (λ l. get_or l k false) r.stands_is ∙ get_or_append_left r.first (true ∷ r.second) false k (let m = r.many in omega (arith, low, m))

  front_op : (k : ℕ) (y : Operation) → k < length r.front → get_or ops k y ≡ get_or r.front k y
  front_op k y low = ap (λ l. get_or l k y) r.ops_is ∙ get_or_append_left r.front (r.b ∷ (r.back ++ r.rest)) y k low

  -- ---- no rule
  -- all come to stand
  calm_stays : Unmet meta r.b (onto (standing_of r.first r.front) []) → Calm meta stands ops
  calm_stays unmet = record {
    come = r.front ++ (r.b ∷ r.back);
    rest = r.rest;
    is = r.ops_is ∙ sym (append_assoc r.front (r.b ∷ r.back) r.rest);
    many = let m = many_come in let l = length-append r.front (r.b ∷ r.back) in omega (arith, m, l);
    settled =
        subst (λ l. Settled meta (onto l []))
        (sym (ap (λ l. standing_of l (r.front ++ (r.b ∷ r.back))) r.stands_is ∙ kept_append r.first (true ∷ r.second) r.front (r.b ∷ r.back) r.many))
        (stays meta r.b (standing_of r.first r.front) (standing_of r.second r.back) unmet r.apart r.settled);
  }

  -- nothing touches it
  calm_free : ((k : ℕ) → Hit stands prints p_there.0 at k → ⊥) → Calm meta stands ops
  calm_free none = calm_stays (passes_all meta r.b (standing_of r.first r.front) (part_apart meta r.b r.first r.front r.many
      (λ k y low on y_is. no_hit meta prints ops is stands at k p_there.0 r.b y within_ops (let p = r.place in omega (arith, low, p)) p_there.1 b_is
      (y_is ∙ sym (front_op k y low)) (front_flag k low ∙ on) (none k))))

  -- the last that touches it, at a position before it
  module _ (i : ℕ) (last : LastHit stands prints p_there.0 at i) where
    low : i < length r.front
    low = let below = last.hit.low in let p = r.place in omega (arith, below, p)

    pub cut : Cut r.first r.front i
    cut = cut_at r.first r.front i r.many low (sym (front_flag i low) ∙ last.hit.there)

    a_front : cut.a ≡ get_or r.front i cut.a
    a_front = seam cut.front cut.mid cut.a i cut.place ∙ ap (λ l. get_or l i cut.a) (sym cut.ops)

    pub a_is : cut.a ≡ get_or ops i cut.a
    a_is = a_front ∙ sym (front_op i cut.a low)

    front_is : standing_of r.first r.front ≡ standing_of cut.first cut.front ++ (cut.a ∷ standing_of cut.second cut.mid)
    front_is = (λ t. standing_of (cut.flags t) (cut.ops t)) ∙ kept_append cut.first (true ∷ cut.second) cut.front (cut.a ∷ cut.mid) cut.many

    -- none between touches it
    between : Apart meta r.b (standing_of cut.second cut.mid)
    between = part_apart meta r.b cut.second cut.mid cut.more (λ j y inside on y_is.
        let p = cut.place in
        let all = ap length cut.ops ∙ length-append cut.front (cut.a ∷ cut.mid) in
        let few : i + suc j < length r.front = omega (arith, inside, p, all) in
        let m = cut.more in
        let y_here : y ≡ get_or r.front (i + suc j) y =
        y_is ∙ sym (ap (λ l. get_or l (i + suc j) y) (cut.ops ∙ ap (λ l. cut.front ++ (cut.a ∷ l)) (sym (append-nil cut.mid)))
        ∙ behind cut.front cut.mid [] cut.a y j i inside p) in
        let on_here : get_or r.first (i + suc j) false ≡ true =
        ap (λ l. get_or l (i + suc j) false) (cut.flags ∙ ap (λ l. cut.first ++ (true ∷ l)) (sym (append-nil cut.second)))
        ∙ behind cut.first cut.second [] true false j i (omega (arith, inside, m)) (cut.many ∙ p) ∙ on in
        let place = r.place in
        no_hit meta prints ops is stands at (i + suc j) p_there.0 r.b y within_ops (omega (arith, few, place)) p_there.1 b_is
        (y_here ∙ sym (front_op (i + suc j) y few)) (front_flag (i + suc j) few ∙ on_here) (last.last (i + suc j) (omega arith)))

    calm_stop : met cut.a r.b ≡ None → Calm meta stands ops
    calm_stop none = calm_stays (subst (λ l. Unmet meta r.b (onto l [])) (sym front_is)
        (passes_stop meta r.b cut.a (standing_of cut.first cut.front) (standing_of cut.second cut.mid) between none
        (some_hit meta prints ops is stands at i p_there.0 r.b cut.a within_ops p_there.1 b_is a_is last.hit)))

    module _ (left : Option Operation) (rule : met cut.a r.b ≡ Some (list_of left)) where
      settled : Settled meta (onto ((standing_of cut.first cut.front ++ (cut.a ∷ standing_of cut.second cut.mid)) ++ standing_of r.second r.back) [])
      settled = subst (λ l. Settled meta (onto (l ++ standing_of r.second r.back) [])) front_is r.settled

      -- the flags and operations around both positions
      flags_around : stands ≡ (cut.first ++ (true ∷ cut.second)) ++ (true ∷ r.second)
      flags_around = r.stands_is ∙ ap (λ l. l ++ (true ∷ r.second)) cut.flags

      ops_around : ops ≡ cut.front ++ (cut.a ∷ (cut.mid ++ (r.b ∷ (r.back ++ r.rest))))
      ops_around = r.ops_is ∙ ap (λ l. l ++ (r.b ∷ (r.back ++ r.rest))) cut.ops ∙ append_assoc cut.front (cut.a ∷ cut.mid) (r.b ∷ (r.back ++ r.rest))

      flags_long : length (cut.first ++ (true ∷ cut.second)) ≡ at
      flags_long = ap length (sym cut.flags) ∙ r.many ∙ r.place

      flags_gone : set stands at false ≡ cut.first ++ (true ∷ (cut.second ++ (false ∷ r.second)))
      flags_gone = ap (λ l. set l at false) flags_around ∙ set_seam (cut.first ++ (true ∷ cut.second)) r.second true false at flags_long
          ∙ append_assoc cut.first (true ∷ cut.second) (false ∷ r.second)

      flags_both : set (set stands at false) i false ≡ cut.first ++ (false ∷ (cut.second ++ (false ∷ r.second)))
      flags_both = ap (λ l. set l i false) flags_gone ∙ set_seam cut.first (cut.second ++ (false ∷ r.second)) true false i (cut.many ∙ cut.place)

      ops_set : (c : Operation) → set ops i c ≡ cut.front ++ (c ∷ (cut.mid ++ (r.b ∷ (r.back ++ r.rest))))
      ops_set c = ap (λ l. set l i c) ops_around ∙ set_seam cut.front (cut.mid ++ (r.b ∷ (r.back ++ r.rest))) cut.a c i cut.place

      tail_more : length (cut.second ++ (false ∷ r.second)) ≡ length (cut.mid ++ (r.b ∷ r.back))
      tail_more =
          let x = length-append cut.second (false ∷ r.second) in let y = length-append cut.mid (r.b ∷ r.back) in
          let m = cut.more in let n = r.more in omega (arith, x, y, m, n)

      tail_kept : standing_of (cut.second ++ (false ∷ r.second)) (cut.mid ++ (r.b ∷ r.back)) ≡ standing_of cut.second cut.mid ++ standing_of r.second r.back
      tail_kept = kept_append cut.second (false ∷ r.second) cut.mid (r.b ∷ r.back) cut.more

      -- where nothing is left
      gone_calm : left ≡ None → Calm meta (set (set stands at false) i false) ops
      gone_calm nothing = record {
        come = cut.front ++ (cut.a ∷ (cut.mid ++ (r.b ∷ r.back)));
        rest = r.rest;
        is = ops_around ∙ sym (append_assoc cut.front (cut.a ∷ (cut.mid ++ (r.b ∷ r.back))) r.rest
            ∙ ap (λ l. cut.front ++ (cut.a ∷ l)) (append_assoc cut.mid (r.b ∷ r.back) r.rest));
        many =
            let x = ap length flags_both ∙ length-append cut.first (false ∷ (cut.second ++ (false ∷ r.second))) in
            let y = length-append cut.front (cut.a ∷ (cut.mid ++ (r.b ∷ r.back))) in
            let t = tail_more in let m = cut.many in omega (arith, x, y, t, m);
        settled =
            subst (λ l. Settled meta (onto l []))
            (sym (ap (λ l. standing_of l (cut.front ++ (cut.a ∷ (cut.mid ++ (r.b ∷ r.back))))) flags_both
            ∙ kept_append cut.first (false ∷ (cut.second ++ (false ∷ r.second))) cut.front (cut.a ∷ (cut.mid ++ (r.b ∷ r.back))) cut.many
            ∙ ap (λ l. standing_of cut.first cut.front ++ l) tail_kept))
            (others_settled meta cut.a r.b (standing_of cut.first cut.front) (standing_of cut.second cut.mid)
            (standing_of r.second r.back) left between r.apart settled rule);
      }

      -- where one operation is left
      left_ready : (c : Operation) → left ≡ Some c → Ready meta (set stands at false) (set ops i c) i
      left_ready c one = record {
        first = cut.first;
        second = cut.second ++ (false ∷ r.second);
        front = cut.front;
        b = c;
        back = cut.mid ++ (r.b ∷ r.back);
        rest = r.rest;
        stands_is = flags_gone;
        ops_is = ops_set c ∙ ap (λ l. cut.front ++ (c ∷ l)) (sym (append_assoc cut.mid (r.b ∷ r.back) r.rest));
        many = cut.many;
        more = tail_more;
        place = cut.place;
        settled = subst (λ l. Settled meta (onto (standing_of cut.first cut.front ++ l) [])) (sym tail_kept)
            (others_settled meta cut.a r.b (standing_of cut.first cut.front) (standing_of cut.second cut.mid)
            (standing_of r.second r.back) left between r.apart settled rule);
        apart = subst (Apart meta c) (sym tail_kept)
            (left_apart meta cut.a r.b (standing_of cut.first cut.front) (standing_of cut.second cut.mid)
            (standing_of r.second r.back) left between r.apart settled rule c one);
      }

      -- what the rule leaves of all
      rule_whole : standing_of stands ops ≡ (standing_of cut.first cut.front ++ (cut.a ∷ standing_of cut.second cut.mid))
          ++ (r.b ∷ (standing_of r.second r.back ++ r.rest))
      rule_whole = whole ∙ ap (λ l. l ++ (r.b ∷ (standing_of r.second r.back ++ r.rest))) front_is

      leads_by : (q : List Operation)
          → q ≡ standing_of cut.first cut.front ++ (list_of left ++ (standing_of cut.second cut.mid ++ (standing_of r.second r.back ++ r.rest)))
          → Leads meta (standing_of stands ops) q
      leads_by q e r' h = subst (λ l. Settles meta l r') (sym rule_whole)
          (more (rule_taken meta cut.a r.b (standing_of cut.first cut.front) (standing_of cut.second cut.mid)
          (standing_of r.second r.back) left between r.apart settled rule r.rest) (subst (λ l. Settles meta l r') e h))

      rest_kept : standing_of (cut.second ++ (false ∷ r.second)) (cut.mid ++ (r.b ∷ (r.back ++ r.rest))) ≡ standing_of cut.second cut.mid
          ++ (standing_of r.second r.back ++ r.rest)
      rest_kept = kept_append cut.second (false ∷ r.second) cut.mid (r.b ∷ (r.back ++ r.rest)) cut.more
          ∙ ap (λ l. standing_of cut.second cut.mid ++ l) (kept_rest r.second r.back r.rest r.more)

      gone_leads : left ≡ None → Leads meta (standing_of stands ops) (standing_of (set (set stands at false) i false) ops)
      gone_leads nothing = leads_by (standing_of (set (set stands at false) i false) ops)
          ((λ t. standing_of (flags_both t) (ops_around t))
          ∙ kept_append cut.first (false ∷ (cut.second ++ (false ∷ r.second))) cut.front (cut.a ∷ (cut.mid ++ (r.b ∷ (r.back ++ r.rest)))) cut.many
          ∙ ap (λ l. standing_of cut.first cut.front ++ l) rest_kept
          ∙ ap (λ o. standing_of cut.first cut.front ++ (list_of o ++ (standing_of cut.second cut.mid ++ (standing_of r.second r.back ++ r.rest))))
          (sym nothing))

      left_leads : (c : Operation) → left ≡ Some c → Leads meta (standing_of stands ops) (standing_of (set stands at false) (set ops i c))
      left_leads c one = leads_by (standing_of (set stands at false) (set ops i c))
          ((λ t. standing_of (flags_gone t) (ops_set c t))
          ∙ kept_append cut.first (true ∷ (cut.second ++ (false ∷ r.second))) cut.front (c ∷ (cut.mid ++ (r.b ∷ (r.back ++ r.rest)))) cut.many
          ∙ ap (λ l. standing_of cut.first cut.front ++ (c ∷ l)) rest_kept
          ∙ ap (λ o. standing_of cut.first cut.front ++ (list_of o ++ (standing_of cut.second cut.mid ++ (standing_of r.second r.back ++ r.rest)))) (sym one))

      -- what is left has the cells of the operation whose position it takes
      left_printed : (c : Operation) → left ≡ Some c → shown prints ≡ printed meta (set ops i c)
      left_printed c one =
          let same = met_print meta cut.a r.b c (rule ∙ ap (λ o. Some (list_of o)) one) in
          is ∙ ap (printed meta) ops_around ∙ sym (same_place meta cut.front (cut.mid ++ (r.b ∷ (r.back ++ r.rest))) cut.a c same.0 same.1)
          ∙ ap (printed meta) (sym (ops_set c))

  -- ---- what the search finds
  pub none_calm : NoRuleAt stands prints ops at → Calm meta stands ops
  none_calm n =
      elim n.o as (λ o. n.o ≡ o → IsLast stands prints p_there.0 at o → Calm meta stands ops) [
        | None ↦ λ _ none. calm_free none
        | Some i ↦ λ e last. calm_stop i last (n.none i (cut i last).a r.b e (a_is i last) b_is)
      ] refl (n.last p_there.0 p_there.1)

  module _ (i : ℕ) (left : Option Operation) (f : RuleAt stands prints ops at i left) where
    last : LastHit stands prints p_there.0 at i
    last = f.last p_there.0 p_there.1

    rule : met (cut i last).a r.b ≡ Some (list_of left)
    rule = f.rule (cut i last).a r.b (a_is i last) b_is

    pub place_low : i < at
    place_low = last.hit.low

    -- with what is left
    turned_as : (o : Option Operation) → left ≡ o → Turned meta stands (stands_out stands i at o) prints ops (ops_out ops i o) at (place_left i o)
    turned_as None e = record { printed = is; leads = gone_leads i last left rule e; turned = gone_calm i last left rule e; lower = tt }
    turned_as (Some c) e =
        record {
          printed = left_printed i last left rule c e;
          leads = left_leads i last left rule c e;
          turned =
              left_ready i last left rule c e;
          lower = place_low;
        }

    pub turned_by : (made : List Bool) (new : List Operation) (o : Option ℕ) → made ≡ stands_out stands i at left → new ≡ ops_out ops i left
        → o ≡ place_left i left → Turned meta stands made prints ops new at o
    turned_by made new o made_is new_is o_is =
        subst (λ q. Turned meta stands made prints ops new at q) (sym o_is)
        (subst (λ l. Turned meta stands made prints ops l at (place_left i left)) (sym new_is)
        (subst (λ m. Turned meta stands m prints ops (ops_out ops i left) at (place_left i left)) (sym made_is) (turned_as left refl)))

-- ---- one operation more
pub calm_none : (meta : Meta) (stands : List Bool) (ops : List Operation) → stands ≡ [] → Calm meta stands ops
calm_none meta stands ops e =
    record { come = []; rest = ops; is = refl; many = ap length e; settled = subst (λ l. Settled meta (onto (standing_of l []) [])) (sym e) tt }

first_rest : (xs : List Operation) → 0 < length xs → (b : Operation) × (ys : List Operation) × (xs ≡ b ∷ ys)
first_rest [] h = absurd (omega (arith, h))
first_rest (b ∷ ys) h = (b, ys, refl)

pub calm_ready : (meta : Meta) (stands made : List Bool) (ops : List Operation) (at : ℕ) → Calm meta stands ops → length stands < length ops
    → made ≡ stands ++ true ∷ [] → at ≡ length stands → Ready meta made ops at
calm_ready meta stands made ops at c few out at_is =
    let all = ap length c.is ∙ length-append c.come c.rest in
    let m = c.many in
    let n = first_rest c.rest (omega (arith, all, m, few)) in
    record {
      first = stands;
      second = [];
      front = c.come;
      b = n.0;
      back = [];
      rest = n.1;
      stands_is = out;
      ops_is = c.is ∙ ap (λ l. c.come ++ l) n.2;
      many = c.many;
      more = refl;
      place = sym c.many ∙ sym at_is;
      settled = subst (λ l. Settled meta (onto l [])) (sym (append-nil (standing_of stands c.come))) c.settled;
      apart = tt;
    }

-- it stands from the first
pub kept_more : (stands : List Bool) (ops : List Operation) → length stands < length ops → standing_of (stands ++ true ∷ []) ops ≡ standing_of stands ops
kept_more [] [] h = absurd (omega (arith, h))
kept_more [] (o ∷ ops) h = refl
kept_more (true ∷ stands) [] h = absurd (omega (arith, h))
kept_more (false ∷ stands) [] h = absurd (omega (arith, h))
kept_more (true ∷ stands) (o ∷ ops) h = ap (λ l. o ∷ l) (kept_more stands ops (omega (arith, h)))
kept_more (false ∷ stands) (o ∷ ops) h = kept_more stands ops (omega (arith, h))

-- ---- all have come
pub calm_settles : (meta : Meta) (stands : List Bool) (ops : List Operation) → Calm meta stands ops → length ops ≤ length stands
    → Settles meta (standing_of stands ops) (standing_of stands ops)
calm_settles meta stands ops c all = done (subst (NoRule meta) same (settled_rule meta (standing_of stands c.come) c.settled))
  where
    no_rest : (xs : List Operation) → length xs ≤ 0 → xs ≡ []
    no_rest [] h = refl
    no_rest (x ∷ xs) h = absurd (omega (arith, h))

    same : standing_of stands c.come ≡ standing_of stands ops
    same =
        let long = ap length c.is ∙ length-append c.come c.rest in
        let m = c.many in
        ap (standing_of stands) (sym (append-nil c.come) ∙ ap (λ l. c.come ++ l) (sym (no_rest c.rest (omega (arith, long, m, all)))) ∙ sym c.is)
