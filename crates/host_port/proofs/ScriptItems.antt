-- What the script is whose first line is this.
use Rattle.std.proofs.Common.{◌≡◌, ℕ, ◌+◌, ◌<◌, List, [], ◌∷◌, Bool, true, false, nat_le, length, refl, ap, sym, ◌∙◌, arith, Result, Ok, Err, Option}
use Rattle.std.proofs.Common.{Some, None, cond, subst, length-drop, if◌then◌else◌}
use Rattle.std.proofs.lemmas.Grind.{common_steps}
use Rattle.std.proofs.lemmas.List.Splits.{slice_split_first, slice_split_none}
use Rattle.std.specs.List.{position_or_len, after_first, slice_split, onto_first, All}
use Rattle.host_port.specs.declared.lines.LineFault.{LineFault}
use Rattle.host_port.specs.declared.lines.LineFault.TheVariants.{UnendedBlock}
use Rattle.host_port.specs.Cut.{is_lf, raw_line, is_ended, line_of, next_line_of, Script, cut, cut_block, script_from, with_item, ends_by, after_line}
use Rattle.host_port.specs.Cut.{after_block, ends_block, block_line, in_block_by}
use Rattle.host_port.specs.Limits.{input_limit}
use Rattle.std.proofs.lemmas.List.Sums.{fails_before_first}
use Rattle.std.proofs.lemmas.List.Elements.{All-from_get_or}
use Rattle.host_port.proofs.ScriptCuts.{length-raw_line}

pub data IsCons (parts : List (List ℕ)) : Type 0 where
  is_cons : (a : List ℕ) (as_ : List (List ℕ)) → parts ≡ a ∷ as_ → IsCons parts

pub cons_onto : (x : ℕ) (parts : List (List ℕ)) → IsCons (onto_first x parts)
cons_onto x [] = is_cons (x ∷ []) [] refl
cons_onto x (p ∷ ps) = is_cons (x ∷ p) ps refl

pub cons_if : (b : Bool) (x y : List (List ℕ)) → IsCons x → IsCons y → IsCons (cond b x y)
cons_if true x y hx hy = hx
cons_if false x y hx hy = hy

pub split_cons : (xs : List ℕ) → IsCons (slice_split is_lf xs)
split_cons [] = is_cons [] [] refl
split_cons (x ∷ xs) = cons_if (is_lf x) ([] ∷ slice_split is_lf xs) (onto_first x (slice_split is_lf xs)) (is_cons [] (slice_split is_lf xs) refl)
    (cons_onto x (slice_split is_lf xs))

-- after the line feed of raw the script goes on
pub cut_ended : (takes : List ℕ → Bool) (offset : ℕ) (raw : List ℕ) (parts : List (List ℕ)) → IsCons parts
    → cut takes offset (raw ∷ parts) ≡ after_line takes (line_of offset raw true)
    (λ line. cut_block takes line (offset + length raw + 1) (offset + length raw + 1) (Ok []) parts)
    (cut takes (offset + length raw + 1) parts)
unfolding cut
cut_ended takes offset raw parts (is_cons a rest e) = subst (λ (ps : List (List ℕ)). cut takes offset (raw ∷ ps) ≡ after_line takes (line_of offset raw true)
    (λ line. cut_block takes line (offset + length raw + 1) (offset + length raw + 1) (Ok []) ps)
    (cut takes (offset + length raw + 1) ps)) (sym e) refl

pub cut_last : (takes : List ℕ → Bool) (offset : ℕ) (raw : List ℕ)
    → cut takes offset (raw ∷ []) ≡ after_line takes (line_of offset raw false) (λ line. ends_by (Some (UnendedBlock (offset + length raw)))) (ends_by None)
unfolding cut
cut_last takes offset raw = refl

pub cut_block_last : (takes : List ℕ → Bool) (line : List ℕ) (start offset : ℕ) (text : Result (List ℕ) LineFault) (raw : List ℕ)
    → cut_block takes line start offset text (raw ∷ []) ≡
    (if ends_block offset false raw then after_block line text (ends_by None)
    else in_block_by (block_line start offset false text raw) (λ _. ends_by (Some (UnendedBlock (offset + length raw)))))
unfolding cut_block
cut_block_last takes line start offset text raw = refl

pub cut_nothing : (takes : List ℕ → Bool) (offset : ℕ) → offset < input_limit → script_from takes offset [] ≡ ends_by None
unfolding cut line_of
cut_nothing takes offset h = let far : nat_le input_limit (offset + 0) ≡ false = grind arith in rw far refl

pub line_some_within : (offset : ℕ) (raw : List ℕ) (e : Bool) (o : Option (List ℕ)) → line_of offset raw e ≡ Ok o → offset + length raw < input_limit
unfolding line_of
line_some_within offset raw e o is = grind (arith, common_steps)

-- what ended says of the unread bytes
pub record Ended (unread : List ℕ) : Type 0 where
  pub split : slice_split is_lf unread ≡ raw_line unread ∷ slice_split is_lf (after_first is_lf unread)
  pub total : length unread ≡ length (raw_line unread) + 1 + length (after_first is_lf unread)

pub ended_splits : (unread : List ℕ) → is_ended unread ≡ true → Ended unread
ended_splits unread e =
    let lt : position_or_len is_lf unread < length unread = grind (arith, length-raw_line unread) in
    record { split = slice_split_first is_lf unread 0 lt; total = grind (arith, length-raw_line unread, length-drop {A = ℕ}) }

pub record Unended (unread : List ℕ) : Type 0 where
  pub split : slice_split is_lf unread ≡ raw_line unread ∷ []
  pub raw : raw_line unread ≡ unread
  pub after : after_first is_lf unread ≡ []

pub all_before : (xs : List ℕ) → position_or_len is_lf xs ≡ length xs → All (λ x. is_lf x ≡ false) xs
all_before xs e = All-from_get_or (λ x. is_lf x ≡ false) xs 0 (λ k h. fails_before_first is_lf xs k 0 (omega arith))

pub unended_splits : (unread : List ℕ) → is_ended unread ≡ false → Unended unread
unended_splits unread e =
    let at : position_or_len is_lf unread ≡ length unread = grind (arith, common_steps, length-raw_line unread) in
    let raw : raw_line unread ≡ unread = rw at (grind (arith, common_steps)) in
    record { split = slice_split_none is_lf unread (all_before unread at) ∙ ap (λ r. r ∷ []) (sym raw); raw = raw; after = rw at (grind (arith, common_steps)) }

abbrev next_place : ℕ → List ℕ → ℕ → Type 0
next_place offset unread place' = place' + length (after_first is_lf unread) ≡ offset + length unread

-- the script after a line that takes no block
pub script_line : (takes : List ℕ → Bool) (offset place' : ℕ) (unread line : List ℕ) → next_line_of offset unread ≡ Ok (Some line) → takes line ≡ false
    → place' + length (after_first is_lf unread) ≡ offset + length unread
    → script_from takes offset unread ≡ with_item line None (script_from takes place' (after_first is_lf unread))
script_line takes offset place' unread line is plain at = go (is_ended unread) refl
  where
    go : (e : Bool) → is_ended unread ≡ e → script_from takes offset unread ≡ with_item line None (script_from takes place' (after_first is_lf unread))
    go true e =
        let s = ended_splits unread e in
        let of : line_of offset (raw_line unread) true ≡ Ok (Some line) = subst (λ (b : Bool). line_of offset (raw_line unread) b ≡ Ok (Some line)) e is in
        let there : place' ≡ offset + length (raw_line unread) + 1 = omega (arith, s.total) in
        rw s.split (rw there (cut_ended takes offset (raw_line unread) (slice_split is_lf (after_first is_lf unread))
        (split_cons (after_first is_lf unread)) ∙ rw (of, plain) refl))
    go false e =
        let s = unended_splits unread e in
        let of : line_of offset (raw_line unread) false ≡ Ok (Some line) = subst (λ (b : Bool). line_of offset (raw_line unread) b ≡ Ok (Some line)) e is in
        let within = line_some_within offset (raw_line unread) false (Some line) of in
        let there : place' ≡ offset + length (raw_line unread) =
        rw s.raw (let at' : place' + 0 ≡ offset + length unread = rw (sym (ap length s.after)) at in omega arith) in
        rw s.split (cut_last takes offset (raw_line unread)
        ∙ rw (of, plain) (ap (λ x. with_item line None x) (rw s.after (sym (cut_nothing takes place' (omega arith))))))

script_ends : (takes : List ℕ → Bool) (offset : ℕ) (unread : List ℕ) (next : Result (Option (List ℕ)) LineFault) (end : Script)
    → next_line_of offset unread ≡ next
    → ((block : List ℕ → Script) (rest : Script) → after_line takes next block rest ≡ end) → script_from takes offset unread ≡ end
script_ends takes offset unread next end is gives = go (is_ended unread) refl
  where
    go : (e : Bool) → is_ended unread ≡ e → script_from takes offset unread ≡ end
    go true e =
        let s = ended_splits unread e in
        let of : line_of offset (raw_line unread) true ≡ next = subst (λ (b : Bool). line_of offset (raw_line unread) b ≡ next) e is in
        rw s.split (cut_ended takes offset (raw_line unread) (slice_split is_lf (after_first is_lf unread)) (split_cons (after_first is_lf unread))
        ∙ rw of (gives _ _))
    go false e =
        let s = unended_splits unread e in
        let of : line_of offset (raw_line unread) false ≡ next = subst (λ (b : Bool). line_of offset (raw_line unread) b ≡ next) e is in
        rw s.split (cut_last takes offset (raw_line unread) ∙ rw of (gives _ _))

pub script_end : (takes : List ℕ → Bool) (offset : ℕ) (unread : List ℕ) → next_line_of offset unread ≡ Ok None → script_from takes offset unread ≡ ends_by None
script_end takes offset unread is = script_ends takes offset unread (Ok None) (ends_by None) is (λ block rest. refl)

pub script_fault : (takes : List ℕ → Bool) (offset : ℕ) (unread : List ℕ) (fault : LineFault) → next_line_of offset unread ≡ Err fault
    → script_from takes offset unread ≡ ends_by (Some fault)
script_fault takes offset unread fault is = script_ends takes offset unread (Err fault) (ends_by (Some fault)) is (λ block rest. refl)

-- ---- blocks

pub cut_block_ended : (takes : List ℕ → Bool) (line : List ℕ) (start offset : ℕ) (text : Result (List ℕ) LineFault) (raw : List ℕ)
    (parts : List (List ℕ)) → IsCons parts
    → cut_block takes line start offset text (raw ∷ parts) ≡
    (if ends_block offset true raw then after_block line text (cut takes (offset + length raw + 1) parts)
    else in_block_by (block_line start offset true text raw) (λ more. cut_block takes line start (offset + length raw + 1) more parts))
unfolding cut_block
cut_block_ended takes line start offset text raw parts (is_cons a rest e) =
    subst (λ (ps : List (List ℕ)). cut_block takes line start offset text (raw ∷ ps) ≡
    (if ends_block offset true raw then after_block line text (cut takes (offset + length raw + 1) ps)
    else in_block_by (block_line start offset true text raw) (λ more. cut_block takes line start (offset + length raw + 1) more ps))) (sym e) refl

-- a block goes on after a line of it
pub block_goes : (takes : List ℕ → Bool) (line : List ℕ) (start offset place' : ℕ) (text more : Result (List ℕ) LineFault) (unread : List ℕ)
    → is_ended unread ≡ true
    → ends_block offset true (raw_line unread) ≡ false → block_line start offset true text (raw_line unread) ≡ Ok more
    → place' + length (after_first is_lf unread) ≡ offset + length unread
    → cut_block takes line start offset text (slice_split is_lf unread) ≡ cut_block takes line start place' more (slice_split is_lf (after_first is_lf unread))
block_goes takes line start offset place' text more unread e dot is at =
    let s = ended_splits unread e in
    let there : place' ≡ offset + length (raw_line unread) + 1 = omega (arith, s.total) in
    rw s.split (rw there (cut_block_ended takes line start offset text (raw_line unread) (slice_split is_lf (after_first is_lf unread))
    (split_cons (after_first is_lf unread)) ∙ rw (dot, is) refl))

-- a block ends at its dot
pub block_ends : (takes : List ℕ → Bool) (line : List ℕ) (start offset place' : ℕ) (text : Result (List ℕ) LineFault) (unread : List ℕ)
    → ends_block offset (is_ended unread) (raw_line unread) ≡ true → offset + length (raw_line unread) < input_limit
    → place' + length (after_first is_lf unread) ≡ offset + length unread
    → cut_block takes line start offset text (slice_split is_lf unread) ≡ after_block line text (script_from takes place' (after_first is_lf unread))
block_ends takes line start offset place' text unread dot within at = go (is_ended unread) refl
  where
    go : (e : Bool) → is_ended unread ≡ e
        → cut_block takes line start offset text (slice_split is_lf unread) ≡ after_block line text (script_from takes place' (after_first is_lf unread))
    go true e =
        let s = ended_splits unread e in
        let dot : ends_block offset true (raw_line unread) ≡ true = subst (λ (b : Bool). ends_block offset b (raw_line unread) ≡ true) e dot in
        let there : place' ≡ offset + length (raw_line unread) + 1 = omega (arith, s.total) in
        rw s.split (rw there (cut_block_ended takes line start offset text (raw_line unread) (slice_split is_lf (after_first is_lf unread))
        (split_cons (after_first is_lf unread)) ∙ rw dot refl))
    go false e =
        let s = unended_splits unread e in
        let there : place' ≡ offset + length (raw_line unread) =
        rw s.raw (let at' : place' + 0 ≡ offset + length unread = rw (sym (ap length s.after)) at in omega arith) in
        let dot : ends_block offset false (raw_line unread) ≡ true = subst (λ (b : Bool). ends_block offset b (raw_line unread) ≡ true) e dot in
        rw s.split (cut_block_last takes line start offset text (raw_line unread)
        ∙ rw dot (ap (λ x. after_block line text x) (rw s.after (sym (cut_nothing takes place' (omega arith))))))
