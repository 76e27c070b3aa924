-- A line of a block, as a step of the script.
use Rattle.std.proofs.Common.{◌≡◌, ◌⊎◌, ℕ, ◌+◌, ◌-◌, ◌^◌, ◌<◌, ◌≤◌, ◌++◌, ◌&&◌, List, [], ◌∷◌, Bool, true, false, nat_lt, nat_le, get_or, length}
use Rattle.std.proofs.Common.{take, drop, refl, ap, sym, ◌∙◌, arith, Result, Ok, Err, Some, length-append, length-drop, inl, inr, OnOk, if◌then◌else◌}
use Rattle.std.proofs.Common.{subst}
use Rattle.std.proofs.lemmas.Bool.{false_from_ne_true, lt-ltb, le-ltb, le-leb}
use Rattle.std.proofs.lemmas.List.{get_or_append_left}
use Rattle.std.proofs.lemmas.Grind.{common_steps}
use Rattle.std.specs.List.{position_or_len, after_first, slice_split}
use Rattle.host_port.specs.declared.lines.LineFault.{LineFault}
use Rattle.host_port.specs.declared.lines.LineFault.TheVariants as faults
use Rattle.host_port.specs.declared.lines.unread.Stop.{Stop}
use Rattle.host_port.specs.declared.lines.unread.Stop.TheVariants.{Feed, Close, Far}
use Rattle.host_port.specs.Limits.{block_limit, input_limit}
use Rattle.host_port.specs.Cut.{is_lf, raw_line, is_ended, Script, cut_block, script_from, ends_by, after_block, ends_block, block_line, past_line}
use Rattle.host_port.specs.Cut.{line_bytes, is_dot, without_cr}
use Rattle.host_port.specs.Reads.{BlockLine, BlockFault, FarFault, EndsScript, GotBlockLine, is_feed}
use Rattle.host_port.proofs.ScriptCuts.{first_at, raw_is, ended_is, after_is, position_long, length-raw_line}
use Rattle.host_port.proofs.ScriptItems.{block_goes, block_ends, ended_splits, unended_splits, cut_block_ended, cut_block_last, split_cons}

and_false : (b : Bool) → (b && false) ≡ false
and_false true = refl
and_false false = refl

-- a fault of a line ends the script
pub block_err : (takes : List ℕ → Bool) (line : List ℕ) (start offset : ℕ) (text : Result (List ℕ) LineFault) (unread : List ℕ) (e : LineFault)
    → ends_block offset (is_ended unread) (raw_line unread) ≡ false → block_line start offset (is_ended unread) text (raw_line unread) ≡ Err e
    → cut_block takes line start offset text (slice_split is_lf unread) ≡ ends_by (Some e)
block_err takes line start offset text unread e dot is = go (is_ended unread) refl
  where
    go : (b : Bool) → is_ended unread ≡ b → cut_block takes line start offset text (slice_split is_lf unread) ≡ ends_by (Some e)
    go true b =
        let s = ended_splits unread b in
        let dot : ends_block offset true (raw_line unread) ≡ false = subst (λ (x : Bool). ends_block offset x (raw_line unread) ≡ false) b dot in
        let is : block_line start offset true text (raw_line unread) ≡ Err e =
        subst (λ (x : Bool). block_line start offset x text (raw_line unread) ≡ Err e) b is in
        rw s.split (cut_block_ended takes line start offset text (raw_line unread) (slice_split is_lf (after_first is_lf unread))
        (split_cons (after_first is_lf unread)) ∙ rw (dot, is) refl)
    go false b =
        let s = unended_splits unread b in
        let dot : ends_block offset false (raw_line unread) ≡ false = subst (λ (x : Bool). ends_block offset x (raw_line unread) ≡ false) b dot in
        let is : block_line start offset false text (raw_line unread) ≡ Err e =
        subst (λ (x : Bool). block_line start offset x text (raw_line unread) ≡ Err e) b is in
        rw s.split (cut_block_last takes line start offset text (raw_line unread) ∙ rw (dot, is) refl)

-- the input ends within the block
pub block_unended : (takes : List ℕ → Bool) (line : List ℕ) (start offset : ℕ) (text more : Result (List ℕ) LineFault) (unread : List ℕ)
    → is_ended unread ≡ false
    → ends_block offset false (raw_line unread) ≡ false → block_line start offset false text (raw_line unread) ≡ Ok more
    → cut_block takes line start offset text (slice_split is_lf unread) ≡ ends_by (Some (faults.UnendedBlock (offset + length (raw_line unread))))
block_unended takes line start offset text more unread b dot is =
    let s = unended_splits unread b in
    rw s.split (cut_block_last takes line start offset text (raw_line unread) ∙ rw (dot, is) refl)

is_dot_len : (xs : List ℕ) → is_dot xs ≡ true → length xs ≡ 1
is_dot_len [] e = absurd cc
is_dot_len (b ∷ []) e = refl
is_dot_len (b ∷ c ∷ bs) e = absurd cc

cr_len : (raw : List ℕ) → length raw ≤ length (without_cr raw) + 1
cr_len raw = grind (arith, common_steps)

line_len : (ended : Bool) (raw : List ℕ) → length raw ≤ length (line_bytes ended raw) + 1
line_len true raw = cr_len raw
line_len false raw = omega arith

pub long_is_no_dot : (ended : Bool) (raw : List ℕ) → 2 < length raw → is_dot (line_bytes ended raw) ≡ false
long_is_no_dot ended raw long = false_from_ne_true (is_dot (line_bytes ended raw)) (λ e. omega (arith, is_dot_len (line_bytes ended raw) e, line_len ended raw))

far_no_end : (offset len : ℕ) (ended : Bool) (raw : List ℕ) → len ≤ length raw → (2 < len) ⊎ (offset + len ≡ 2 ^ 40) → ends_block offset ended raw ≡ false
far_no_end offset len ended raw long (inl h) = rw (long_is_no_dot ended raw (omega arith)) refl
far_no_end offset len ended raw long (inr h) = let far : nat_lt (offset + length raw) input_limit ≡ false = grind arith
    in rw far (and_false (is_dot (line_bytes ended raw)))

behind_raw : (offset : ℕ) (ended : Bool) (raw : List ℕ) → offset + length raw ≤ past_line offset ended raw
behind_raw offset true raw = omega arith
behind_raw offset false raw = omega arith

far_line : (start offset len : ℕ) (ended : Bool) (text : Result (List ℕ) LineFault) (raw : List ℕ) (e : LineFault) → start ≤ offset → len ≤ length raw
    → offset + len ≤ 2 ^ 40
    → (block_limit < offset + len - start) ⊎ (offset + len ≡ 2 ^ 40) → FarFault start e → block_line start offset ended text raw ≡ Err e
far_line start offset len ended text raw e h long within d (inl f) =
    let l : nat_lt block_limit (past_line offset ended raw - start) ≡ true = lt-ltb _ _ (over d) in
    let n : nat_lt (start + block_limit) input_limit ≡ true = lt-ltb _ _ f.1 in
    rw (l, n) (ap (λ (x : LineFault). Err x) (sym f.0))
  where
    over : (block_limit < offset + len - start) ⊎ (offset + len ≡ 2 ^ 40) → block_limit < past_line offset ended raw - start
    over (inl x) = omega (arith, behind_raw offset ended raw)
    over (inr x) = omega (arith, f.1, behind_raw offset ended raw)
far_line start offset len ended text raw e h long within d (inr f) =
    let n : nat_lt (start + block_limit) input_limit ≡ false = le-ltb _ _ f.1 in
    let i : nat_le input_limit (offset + length raw) ≡ true = le-leb _ _ (over d) in
    rw (n, and_false (nat_lt block_limit (past_line offset ended raw - start)), i) (ap (λ (x : LineFault). Err x) (sym f.0))
  where
    over : (block_limit < offset + len - start) ⊎ (offset + len ≡ 2 ^ 40) → input_limit ≤ offset + length raw
    over (inl x) = omega (arith, f.1)
    over (inr x) = omega arith

or_far : (offset len start : ℕ) → ((2 < len) × (block_limit < offset + len - start)) ⊎ (offset + len ≡ 2 ^ 40)
    → ((2 < len) ⊎ (offset + len ≡ 2 ^ 40)) × ((block_limit < offset + len - start) ⊎ (offset + len ≡ 2 ^ 40))
or_far offset len start (inl x) = (inl x.0, inl x.1)
or_far offset len start (inr x) = (inr x, inr x)

-- a line that was not read to its end ends the script
pub block_far : (takes : List ℕ → Bool) (line : List ℕ) (start offset len : ℕ) (text : Result (List ℕ) LineFault) (unread : List ℕ) (e : LineFault)
    → start ≤ offset → len ≤ length (raw_line unread) → offset + len ≤ 2 ^ 40
    → ((2 < len) × (block_limit < offset + len - start)) ⊎ (offset + len ≡ 2 ^ 40) → FarFault start e
    → cut_block takes line start offset text (slice_split is_lf unread) ≡ ends_by (Some e)
block_far takes line start offset len text unread e h long within d fault =
    let b = or_far offset len start d in
    block_err takes line start offset text unread e (far_no_end offset len (is_ended unread) (raw_line unread) long b.0)
    (far_line start offset len (is_ended unread) text (raw_line unread) e h long within b.1 fault)

-- ---- a line of a block that was found

place_at : (n offset place' : ℕ) (unread pending left after : List ℕ) → unread ≡ pending ++ left → after ≡ drop n pending ++ left → n ≤ length pending
    → place' ≡ offset + n
    → place' + length after ≡ offset + length unread
place_at n offset place' unread pending left after u a h p =
    rw (u, a) (omega (arith, length-append pending left, length-append (drop n pending) left, length-drop n pending))

past_len : (ended : Bool) (len : ℕ) (pending : List ℕ) → len ≤ length pending → (ended ≡ true → len < length pending)
    → (if ended then len + 1 else len) ≤ length pending
past_len true len pending h f = omega (arith, f refl)
past_len false len pending h f = h

pub block_found : (takes : List ℕ → Bool) (line : List ℕ) (start offset place' len : ℕ) (ended : Bool) (old new : Result (List ℕ) LineFault)
    (pending left pending' : List ℕ)
    → len ≤ length pending → position_or_len is_lf (pending ++ left) ≡ len
    → (ended ≡ true → len < length pending) → (ended ≡ false → len ≡ length pending) → (ended ≡ false → left ≡ []) → offset + len < 2 ^ 40
    → pending' ≡ drop (if ended then len + 1 else len) pending → place' ≡ offset + (if ended then len + 1 else len)
    → ((ends_block offset ended (take len pending) ≡ true) → (new ≡ old)
    → cut_block takes line start offset old (slice_split is_lf (pending ++ left)) ≡ after_block line new (script_from takes place' (pending' ++ left)))
    × (ended ≡ true → (ends_block offset true (take len pending) ≡ false) → (block_line start offset true old (take len pending) ≡ Ok new)
    → cut_block takes line start offset old (slice_split is_lf (pending ++ left)) ≡ cut_block takes line start place' new
    (slice_split is_lf (pending' ++ left)))
block_found takes line start offset place' len ended old new pending left pending' h at some none end within moved there =
    let raw : raw_line (pending ++ left) ≡ take len pending = raw_is len pending left h at in
    let e : is_ended (pending ++ left) ≡ ended = ended_is len ended pending left h some none end at in
    let after : after_first is_lf (pending ++ left) ≡ drop (if ended then len + 1 else len) pending ++ left =
    after_is len ended pending left some none end at in
    let rest : pending' ++ left ≡ after_first is_lf (pending ++ left) = rw moved (sym after) in
    let place_ok : place' + length (after_first is_lf (pending ++ left)) ≡ offset + length (pending ++ left) =
    place_at (if ended then len + 1 else len) offset place' (pending ++ left) pending left (after_first is_lf (pending ++ left)) refl after
    (past_len ended len pending h some) there in
    let size : length (raw_line (pending ++ left)) ≡ len = length-raw_line (pending ++ left) ∙ at in (
      (λ dot same. block_ends takes line start offset place' old (pending ++ left)
          (ap (λ (b : Bool). ends_block offset b (raw_line (pending ++ left))) e ∙ (ap (λ (r : List ℕ). ends_block offset ended r) raw ∙ dot))
          (omega arith) place_ok
          ∙ (ap (λ (b : Result (List ℕ) LineFault). after_block line b (script_from takes place' (after_first is_lf (pending ++ left)))) (sym same)
          ∙ ap (λ (u : List ℕ). after_block line new (script_from takes place' u)) (sym rest))),
      (λ t dot is. block_goes takes line start offset place' old new (pending ++ left) (e ∙ t) (ap (λ (r : List ℕ). ends_block offset true r) raw ∙ dot)
          (ap (λ (r : List ℕ). block_line start offset true old r) raw ∙ is) place_ok
          ∙ ap (λ (u : List ℕ). cut_block takes line start place' new (slice_split is_lf u)) (sym rest)),
    )

ends_all : (e : LineFault) (whole : Script) → whole ≡ ends_by (Some e) → EndsScript e whole
ends_all (faults.LineTooLong at) whole h = h
ends_all (faults.BlockTooLong at) whole h = h
ends_all (faults.NotText at) whole h = h
ends_all (faults.UnendedBlock at) whole h = h
ends_all (faults.InputTooLong at) whole h = h
ends_all faults.Failed whole h = tt
ends_all faults.Memory whole h = tt

-- what piece_end found
pub record Found (start offset len : ℕ) (pending left : List ℕ) (stop : Stop) : Type 0 where
  pub within_pending : len ≤ length pending
  pub clear : (k : ℕ) → k < len → get_or pending k 0 ≡ 10 → ⊥
  pub feed : stop ≡ Feed → (len < length pending) × (get_or pending len 0 ≡ 10)
  pub all : (stop ≡ Feed → ⊥) → len ≡ length pending
  pub end : stop ≡ Close → left ≡ []
  pub near : (stop ≡ Far → ⊥) → offset + len < 2 ^ 40
  pub started : start ≤ offset
  pub limit : offset + len ≤ 2 ^ 40
  pub far : stop ≡ Far → ((2 < len) × (block_limit < offset + len - start)) ⊎ (offset + len ≡ 2 ^ 40)

no_close : Close ≡ Feed → ⊥
no_close h = cc

no_close_far : Close ≡ Far → ⊥
no_close_far h = cc

no_feed_far : Feed ≡ Far → ⊥
no_feed_far h = cc

no_far : Far ≡ Feed → ⊥
no_far h = cc

at_feed : (start offset len : ℕ) (pending left : List ℕ) → Found start offset len pending left Feed → position_or_len is_lf (pending ++ left) ≡ len
at_feed start offset len pending left f = first_at len true pending left (λ _. ((f.feed refl).0, (f.feed refl).1, f.clear)) (λ h. absurd cc) (λ h. absurd cc)

at_close : (start offset len : ℕ) (pending left : List ℕ) → Found start offset len pending left Close → position_or_len is_lf (pending ++ left) ≡ len
at_close start offset len pending left f = first_at len false pending left (λ h. absurd cc) (λ _. (f.all no_close, f.clear)) (λ _. f.end refl)

fault_ends : (takes : List ℕ → Bool) (line : List ℕ) (start offset len : ℕ) (old : Result (List ℕ) LineFault) (pending left : List ℕ) (stop : Stop)
    (e : LineFault)
    → Found start offset len pending left stop → BlockFault stop start offset old (take len pending) e
    → cut_block takes line start offset old (slice_split is_lf (pending ++ left)) ≡ ends_by (Some e)
fault_ends takes line start offset len old pending left Feed e f d =
    let at = at_feed start offset len pending left f in
    let raw : raw_line (pending ++ left) ≡ take len pending = raw_is len pending left f.within_pending at in
    let e_is : is_ended (pending ++ left) ≡ true =
    ended_is len true pending left f.within_pending (λ _. (f.feed refl).0) (λ h. absurd cc) (λ h. absurd cc) at in
    block_err takes line start offset old (pending ++ left) e
    (ap (λ (b : Bool). ends_block offset b (raw_line (pending ++ left))) e_is ∙ (ap (λ (r : List ℕ). ends_block offset true r) raw ∙ d.0))
    (ap (λ (b : Bool). block_line start offset b old (raw_line (pending ++ left))) e_is ∙ (ap (λ (r : List ℕ). block_line start offset true old r) raw ∙ d.1))
fault_ends takes line start offset len old pending left Far e f d =
    let front : (k : ℕ) → k < len → get_or (pending ++ left) k 0 ≡ 10
    → ⊥ = λ k lt is. f.clear k lt (sym (get_or_append_left pending left 0 k (omega (arith, f.within_pending))) ∙ is) in
    let long : len ≤ length (raw_line (pending ++ left)) =
    omega (
      arith,
      length-raw_line (pending ++ left),
      position_long (pending ++ left) len (omega (arith, length-append pending left, f.within_pending)) front,
    ) in
    block_far takes line start offset len old (pending ++ left) e f.started long f.limit (f.far refl) d
fault_ends takes line start offset len old pending left Close e f d =
    let at = at_close start offset len pending left f in
    let raw : raw_line (pending ++ left) ≡ take len pending = raw_is len pending left f.within_pending at in
    let e_is : is_ended (pending ++ left) ≡ false =
    ended_is len false pending left f.within_pending (λ h. absurd cc) (λ _. f.all no_close) (λ _. f.end refl) at in
    let dot : ends_block offset false (raw_line (pending ++ left)) ≡ false = ap (λ (r : List ℕ). ends_block offset false r) raw ∙ d.0 in
    elim d.1 [
      | inl x ↦ block_err takes line start offset old (pending ++ left) e (ap (λ (b : Bool). ends_block offset b (raw_line (pending ++ left))) e_is ∙ dot)
          (ap (λ (b : Bool). block_line start offset b old (raw_line (pending ++ left))) e_is
          ∙ (ap (λ (r : List ℕ). block_line start offset false old r) raw ∙ x))
      | inr x ↦ block_unended takes line start offset old x.1.0 (pending ++ left) e_is dot
          (ap (λ (r : List ℕ). block_line start offset false old r) raw ∙ x.1.1)
          ∙ ap (λ (f : LineFault). ends_by (Some f)) (ap (λ (r : List ℕ). faults.UnendedBlock (offset + length r)) raw ∙ sym x.0)
    ]

-- a line of a block is a step of the script
pub block_step_is : (takes : List ℕ → Bool) (line : List ℕ) (start offset place' len : ℕ) (old new : Result (List ℕ) LineFault)
    (pending left pending' : List ℕ) (stop : Stop) (r : Result Bool LineFault)
    → Found start offset len pending left stop → BlockLine stop start offset old new (take len pending) r
    → OnOk r (pending' ≡ drop (if is_feed stop then len + 1 else len) pending) → OnOk r (place' ≡ offset + (if is_feed stop then len + 1 else len))
    → GotBlockLine r (cut_block takes line start offset old (slice_split is_lf (pending ++ left)))
    (cut_block takes line start place' new (slice_split is_lf (pending' ++ left)))
    (after_block line new (script_from takes place' (pending' ++ left)))
block_step_is takes line start offset place' len old new pending left pending' stop (Err (faults.LineTooLong at)) f d m p =
    ends_all _ _ (fault_ends takes line start offset len old pending left stop _ f d)
block_step_is takes line start offset place' len old new pending left pending' stop (Err (faults.BlockTooLong at)) f d m p =
    ends_all _ _ (fault_ends takes line start offset len old pending left stop _ f d)
block_step_is takes line start offset place' len old new pending left pending' stop (Err (faults.NotText at)) f d m p =
    ends_all _ _ (fault_ends takes line start offset len old pending left stop _ f d)
block_step_is takes line start offset place' len old new pending left pending' stop (Err (faults.UnendedBlock at)) f d m p =
    ends_all _ _ (fault_ends takes line start offset len old pending left stop _ f d)
block_step_is takes line start offset place' len old new pending left pending' stop (Err (faults.InputTooLong at)) f d m p =
    ends_all _ _ (fault_ends takes line start offset len old pending left stop _ f d)
block_step_is takes line start offset place' len old new pending left pending' stop (Err faults.Failed) f d m p = tt
block_step_is takes line start offset place' len old new pending left pending' stop (Err faults.Memory) f d m p = tt
block_step_is takes line start offset place' len old new pending left pending' Far (Ok true) f d m p = absurd (d.2 refl)
block_step_is takes line start offset place' len old new pending left pending' Far (Ok false) f d m p = absurd (no_far d.2)
block_step_is takes line start offset place' len old new pending left pending' Close (Ok false) f d m p = absurd (no_close d.2)
block_step_is takes line start offset place' len old new pending left pending' Close (Ok true) f d m p =
    (block_found takes line start offset place' len false old new pending left pending' f.within_pending (at_close start offset len pending left f)
    (λ h. absurd cc) (λ _. f.all no_close) (λ _. f.end refl) (f.near no_close_far) m p).0 d.0 d.1
block_step_is takes line start offset place' len old new pending left pending' Feed (Ok true) f d m p =
    (block_found takes line start offset place' len true old new pending left pending' f.within_pending (at_feed start offset len pending left f)
    (λ _. (f.feed refl).0) (λ h. absurd cc) (λ h. absurd cc) (f.near no_feed_far) m p).0 d.0 d.1
block_step_is takes line start offset place' len old new pending left pending' Feed (Ok false) f d m p =
    (block_found takes line start offset place' len true old new pending left pending' f.within_pending (at_feed start offset len pending left f)
    (λ _. (f.feed refl).0) (λ h. absurd cc) (λ h. absurd cc) (f.near no_feed_far) m p).1 refl d.0 d.1

pub near_of : (stop : Stop) (offset len n : ℕ) → (stop ≡ Feed → len < n) → (stop ≡ Close → offset + len < 2 ^ 40) → offset + n ≤ 2 ^ 40
    → (stop ≡ Far → ⊥) → offset + len < 2 ^ 40
near_of Feed offset len n f c w no_ = omega (arith, f refl)
near_of Close offset len n f c w no_ = c refl
near_of Far offset len n f c w no_ = absurd (no_ refl)

pub far_of : (start offset len longest : ℕ)
    → ((longest ≡ 2) × (block_limit ≤ (offset - start) + 2)) ⊎ ((longest ≡ block_limit - (offset - start)) × ((offset - start) + 2 < block_limit))
    → (longest < len) ⊎ (offset + len ≡ 2 ^ 40) → start ≤ offset → ((2 < len) × (block_limit < offset + len - start)) ⊎ (offset + len ≡ 2 ^ 40)
far_of start offset len longest d (inr x) s = inr x
far_of start offset len longest (inl a) (inl x) s = inl (omega (arith, a.0, a.1), omega (arith, a.0, a.1))
far_of start offset len longest (inr a) (inl x) s = inl (omega (arith, a.0, a.1), omega (arith, a.0, a.1))
