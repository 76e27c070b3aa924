-- What the script is whose first line takes a block.
use Rattle.std.proofs.Common.{◌≡◌, ℕ, ◌+◌, ◌-◌, ◌<◌, List, [], ◌∷◌, Bool, true, false, nat_le, nat_lt, length, refl, ap, sym, ◌∙◌, arith, Ok, Some, subst}
use Rattle.std.specs.List.{after_first, slice_split}
use Rattle.host_port.specs.declared.lines.LineFault.TheVariants.{UnendedBlock}
use Rattle.host_port.specs.Cut.{is_lf, raw_line, is_ended, line_of, next_line_of, cut_block, script_from, ends_by}
use Rattle.host_port.specs.Limits.{input_limit, block_limit}
use Rattle.host_port.proofs.ScriptItems.{cut_ended, cut_last, cut_block_last, split_cons, line_some_within, ended_splits, unended_splits}

-- a block of no line at the input's end is not ended
cut_block_nothing : (takes : List ℕ → Bool) (line : List ℕ) (offset : ℕ) → offset < input_limit
    → cut_block takes line offset offset (Ok []) ([] ∷ []) ≡ ends_by (Some (UnendedBlock offset))
cut_block_nothing takes line offset low =
    let far : nat_lt block_limit (offset + 0 - offset) ≡ false = grind arith in
    let near : nat_le input_limit (offset + 0) ≡ false = grind arith in
    let none : offset + 0 ≡ offset = grind arith in
    cut_block_last takes line offset offset (Ok []) [] ∙ rw (far, near) (ap (λ (n : ℕ). ends_by (Some (UnendedBlock n))) none)

-- the script is that of the block of its first line
pub script_block : (takes : List ℕ → Bool) (offset place' : ℕ) (unread line : List ℕ) → next_line_of offset unread ≡ Ok (Some line) → takes line ≡ true
    → place' + length (after_first is_lf unread) ≡ offset + length unread
    → script_from takes offset unread ≡ cut_block takes line place' place' (Ok []) (slice_split is_lf (after_first is_lf unread))
script_block takes offset place' unread line is takes_it at = go (is_ended unread) refl
  where
    go : (e : Bool) → is_ended unread ≡ e
        → script_from takes offset unread ≡ cut_block takes line place' place' (Ok []) (slice_split is_lf (after_first is_lf unread))
    go true e =
        let s = ended_splits unread e in
        let of : line_of offset (raw_line unread) true ≡ Ok (Some line) = subst (λ (b : Bool). line_of offset (raw_line unread) b ≡ Ok (Some line)) e is in
        let there : place' ≡ offset + length (raw_line unread) + 1 = omega (arith, s.total) in
        rw s.split (rw there (cut_ended takes offset (raw_line unread) (slice_split is_lf (after_first is_lf unread))
        (split_cons (after_first is_lf unread)) ∙ rw (of, takes_it) refl))
    go false e =
        let s = unended_splits unread e in
        let of : line_of offset (raw_line unread) false ≡ Ok (Some line) = subst (λ (b : Bool). line_of offset (raw_line unread) b ≡ Ok (Some line)) e is in
        let within = line_some_within offset (raw_line unread) false (Some line) of in
        let there : place' ≡ offset + length (raw_line unread) =
        rw s.raw (let at' : place' + 0 ≡ offset + length unread = rw (sym (ap length s.after)) at in omega arith) in
        rw s.split (cut_last takes offset (raw_line unread)
        ∙ rw (of, takes_it) (rw s.after
        (ap (λ (n : ℕ). ends_by (Some (UnendedBlock n))) (sym there) ∙ sym (cut_block_nothing takes line place' (omega arith)))))
