-- An input is cut into the items that it was printed of, from the first on.
use Rattle.std.proofs.Common.{◌≡◌, ℕ, ◌+◌, ◌<◌, ◌≤◌, ◌++◌, List, [], ◌∷◌, Bool, true, nat_lt, length, take, drop, refl, ap, sym, ◌∙◌, arith, Option}
use Rattle.std.proofs.Common.{Some, None, Ok, length-append, append_assoc, subst}
use Rattle.std.proofs.lemmas.Bool.{lt-ltb}
use Rattle.std.proofs.lemmas.Grind.{common_steps}
use Rattle.std.proofs.lemmas.List.{take_all}
use Rattle.std.proofs.lemmas.List.Splits.{slice_split_at}
use Rattle.std.proofs.lemmas.Str.{utf8_valid_len-IsUtf8}
use Rattle.std.specs.List.{AllByRecursion, slice_split}
use Rattle.std.specs.Str.{IsUtf8}
use Rattle.host_port.specs.Limits.{input_limit}
use Rattle.host_port.specs.Cut.{is_lf, line_of, text_at, Item, Script, cut_block, script_from, with_item, ends_block}
use Rattle.host_port.specs.Reads.{ArePlain, AddsRun}
use Rattle.host_port.proofs.ScriptCuts.{line_within}
use Rattle.host_port.proofs.ScriptItems.{cut_ended, cut_nothing, cut_block_ended, split_cons}
use Rattle.host_port.proofs.ScriptRuns.{run_goes}
use Rattle.printed_items.specs.Printed.{printed_block, printed_item, printed_items, IsWholeLine, IsWholeBlock, HasItsBlock, MayStand, PrintedItemsAreCut}

text_is : (offset : ℕ) (raw : List ℕ) → IsUtf8 raw → text_at offset raw ≡ Ok raw
text_is offset raw u = grind (arith, common_steps, utf8_valid_len-IsUtf8 raw u)

line_is : (offset : ℕ) (line : List ℕ) → IsWholeLine line → offset + length line < input_limit → line_of offset line true ≡ Ok (Some line)
line_is offset line is within = line_within offset line true is.short within ∙ rw (is.whole, text_is offset line is.utf8) refl

-- the line feed after a line cuts it off
cut_off : (line more rest : List ℕ) → IsWholeLine line → slice_split is_lf ((line ++ (10 ∷ more)) ++ rest) ≡ line ∷ slice_split is_lf (more ++ rest)
cut_off line more rest is =
    ap (λ (xs : List ℕ). slice_split is_lf xs) (append_assoc line (10 ∷ more) rest) ∙ slice_split_at is_lf line 10 (more ++ rest) is.no_feed refl

-- the text of a block is taken whole
block_run : (takes : List ℕ → Bool) (line text rest : List ℕ) (start : ℕ) → IsWholeBlock text → start + length text ≤ input_limit
    → cut_block takes line start start (Ok []) (slice_split is_lf (text ++ rest))
    ≡ cut_block takes line start (start + length text) (Ok text) (slice_split is_lf rest)
block_run takes line text rest start is within =
    let all : take (length text) text ≡ text = take_all (length text) text (omega arith) in
    let plain : ArePlain (take (length text) text) = subst ArePlain (sym all) is.plain in
    let adds : AddsRun (Ok []) (take (length text) text) (Ok text) = subst (λ (xs : List ℕ). AddsRun (Ok []) xs (Ok text)) (sym all) (is.utf8, refl) in
    run_goes takes line start start (start + length text) (length text) (Ok []) (Ok text) text [] rest (omega arith) plain adds
    (omega (arith, is.short)) within (sym (drop_all text)) refl
  where
    drop_all : (xs : List ℕ) → drop (length xs) xs ≡ []
    drop_all xs = grind (arith, common_steps)

-- and the line `.` ends it
block_end : (takes : List ℕ → Bool) (line text rest : List ℕ) (start offset : ℕ) → offset + 2 ≤ input_limit
    → cut_block takes line start offset (Ok text) (slice_split is_lf (46 ∷ 10 ∷ rest)) ≡ with_item line (Some text) (script_from takes (offset + 2) rest)
block_end takes line text rest start offset within =
    let n : nat_lt (offset + 1) input_limit ≡ true = lt-ltb _ _ (omega arith) in
    let ends : ends_block offset true (46 ∷ []) ≡ true = rw n refl in
    let next : offset + 1 + 1 ≡ offset + 2 = omega arith in
    cut_block_ended takes line start offset (Ok text) (46 ∷ []) (slice_split is_lf rest) (split_cons rest) ∙ rw (ends, next) refl

-- an item is cut off
item_goes : (takes : List ℕ → Bool) (offset : ℕ) (line : List ℕ) (block : Option (List ℕ)) (rest : List ℕ) → IsWholeLine line → HasItsBlock takes line block
    → offset + length (line ++ (10 ∷ printed_block block)) ≤ input_limit
    → script_from takes offset ((line ++ (10 ∷ printed_block block)) ++ rest)
    ≡ with_item line block (script_from takes (offset + length (line ++ (10 ∷ printed_block block))) rest)
item_goes takes offset line None rest is none within =
    let size : length (line ++ (10 ∷ [])) ≡ length line + 1 = length-append line (10 ∷ []) in
    let there : line_of offset line true ≡ Ok (Some line) = line_is offset line is (omega arith) in
    let at : offset + length line + 1 ≡ offset + length (line ++ (10 ∷ [])) = omega arith in
    rw (cut_off line [] rest is) (cut_ended takes offset line (slice_split is_lf rest) (split_cons rest) ∙ rw (there, none)
    (ap (λ (k : ℕ). with_item line None (script_from takes k rest)) at))
item_goes takes offset line (Some text) rest is block within =
    let size : length (line ++ (10 ∷ (text ++ (46 ∷ 10 ∷ [])))) ≡ length line + (1 + (length text + 2)) = omega
    (arith, length-append line (10 ∷ (text ++ (46 ∷ 10 ∷ []))), length-append text (46 ∷ 10 ∷ [])) in
    let there : line_of offset line true ≡ Ok (Some line) = line_is offset line is (omega arith) in
    let start = offset + length line + 1 in
    let parts : (text ++ (46 ∷ 10 ∷ [])) ++ rest ≡ text ++ (46 ∷ 10 ∷ rest) = append_assoc text (46 ∷ 10 ∷ []) rest in
    let at : offset + length line + 1 + length text + 2 ≡ offset + length (line ++ (10 ∷ (text ++ (46 ∷ 10 ∷ [])))) = omega arith in
    rw (cut_off line (text ++ (46 ∷ 10 ∷ [])) rest is)
    (cut_ended takes offset line (slice_split is_lf ((text ++ (46 ∷ 10 ∷ [])) ++ rest)) (split_cons ((text ++ (46 ∷ 10 ∷ [])) ++ rest))
    ∙ rw (there, block.0, parts) (block_run takes line text (46 ∷ 10 ∷ rest) start block.1 (omega arith) ∙
    (block_end takes line text rest start (start + length text) (omega arith)
    ∙ ap (λ (k : ℕ). with_item line (Some text) (script_from takes k rest)) at)))

items_go : (takes : List ℕ → Bool) (offset : ℕ) (items : List Item) → AllByRecursion (MayStand takes) items
    → offset + length (printed_items items) < input_limit
    → script_from takes offset (printed_items items) ≡ record { items = items; fault = None }
items_go takes offset [] all within = cut_nothing takes offset (omega arith)
items_go takes offset (item ∷ items) all within =
    let size = length-append (printed_item item) (printed_items items) in
    item_goes takes offset item.line item.block (printed_items items) all.0.line all.0.block (omega (arith, within, size))
    ∙ ap (λ (script : Script). with_item item.line item.block script)
    (items_go takes (offset + length (printed_item item)) items all.1 (omega (arith, within, size)))

pub items_are_cut : PrintedItemsAreCut
items_are_cut takes items all within = items_go takes 0 items all (omega (arith, within))
