-- The items of the generated script, as they are pushed.
use Rattle.std.proofs.Common.{◌≡◌, ℕ, suc, ◌+◌, ◌<◌, List, [], ◌∷◌, ◌++◌, map, length, drop, get_or, sym, ap, ◌∙◌, append_assoc, add-one, ◌≤◌}
use Rattle.std.proofs.Math.Seq.{drop-cons}
use Rattle.std.proofs.lemmas.List.{map-append, append-nil, drop_all}
use Rattle.host_port.specs.Cut.{Item}
use Rattle.script_items.specs.Generator.{without_block, opening, workspace_in, pages_in, create_text, title_text, pages_text, edits, round, rounds}
use Rattle.script_items.specs.Generator.{block_bytes, script_bytes}

pub three_more : (l0 l1 l2 l3 : List Item) (a b c : Item) → l1 ≡ l0 ++ a ∷ [] → l2 ≡ l1 ++ b ∷ [] → l3 ≡ l2 ++ c ∷ [] → l3 ≡ l0 ++ a ∷ b ∷ c ∷ []
three_more l0 l1 l2 l3 a b c e1 e2 e3 = rw (e3, e2, e1) (simp append_assoc)

pub four_more : (l0 l1 l2 l3 l4 : List Item) (a b c d : Item) → l1 ≡ l0 ++ a ∷ [] → l2 ≡ l1 ++ b ∷ [] → l3 ≡ l2 ++ c ∷ [] → l4 ≡ l3 ++ d ∷ []
    → l4 ≡ l0 ++ a ∷ b ∷ c ∷ d ∷ []
four_more l0 l1 l2 l3 l4 a b c d e1 e2 e3 e4 = rw (e4, e3, e2, e1) (simp append_assoc)

-- the three lines of a round
pub edits_more : (l0 l1 l2 l3 : List Item) (create title number : List ℕ) (seed k ws pages : ℕ) → ws ≡ workspace_in seed k → pages ≡ pages_in seed k
    → create ≡ create_text ws k → title ≡ title_text ws k → number ≡ pages_text ws k pages
    → l1 ≡ l0 ++ without_block create ∷ [] → l2 ≡ l1 ++ without_block title ∷ [] → l3 ≡ l2 ++ without_block number ∷ []
    → l3 ≡ l0 ++ map without_block (edits seed k)
edits_more l0 l1 l2 l3 create title number seed k ws pages ws_is pages_is first second third e1 e2 e3 =
    three_more l0 l1 l2 l3 (without_block create) (without_block title) (without_block number) e1 e2 e3
    ∙ ap (λ (l : List ℕ). l0 ++ without_block l ∷ without_block title ∷ without_block number ∷ []) first
    ∙ ap (λ (l : List ℕ). l0 ++ without_block (create_text ws k) ∷ without_block l ∷ without_block number ∷ []) second
    ∙ ap (λ (l : List ℕ). l0 ++ without_block (create_text ws k) ∷ without_block (title_text ws k) ∷ without_block l ∷ []) third
    ∙ ap (λ (n : ℕ). l0 ++ without_block (create_text ws k) ∷ without_block (title_text ws k) ∷ without_block (pages_text ws k n) ∷ []) pages_is
    ∙ ap (λ (n : ℕ). l0 ++ without_block (create_text n k) ∷ without_block (title_text n k) ∷ without_block (pages_text n k (pages_in seed k)) ∷ []) ws_is

-- one round more
pub round_more : (l0 l1 : List Item) (seed k : ℕ) → l0 ≡ opening ++ map without_block (rounds seed k)
    → l1 ≡ l0 ++ map without_block (round seed (k + 1)) → l1 ≡ opening ++ map without_block (rounds seed (k + 1))
round_more l0 l1 seed k e0 e1 =
    e1 ∙ ap (λ (l : List Item). l ++ map without_block (round seed (k + 1))) e0
    ∙ append_assoc opening (map without_block (rounds seed k)) (map without_block (round seed (k + 1)))
    ∙ ap (λ (l : List Item). opening ++ l) (sym (map-append without_block (rounds seed k) (round seed (k + 1))))
    ∙ ap (λ (n : ℕ). opening ++ map without_block (rounds seed k ++ round seed n)) (add-one k)
    ∙ ap (λ (n : ℕ). opening ++ map without_block (rounds seed n)) (sym (add-one k))

-- one item more
pub bytes_more : (bytes next : List ℕ) (items : List Item) (item : Item) (i : ℕ) → i < length items → item ≡ get_or items i item
    → bytes ++ script_bytes (drop i items) ≡ script_bytes items → next ≡ bytes ++ ((item.line ++ 10 ∷ []) ++ block_bytes item.block)
    → next ++ script_bytes (drop (i + 1) items) ≡ script_bytes items
bytes_more bytes next items item i low is so_far next_is =
    let cut : drop i items ≡ item ∷ drop (i + 1) items = rw (add-one, drop-cons items i item) (ap (λ (x : Item). x ∷ drop (suc i) items) (sym is)) in
    ap (λ (l : List ℕ). l ++ script_bytes (drop (i + 1) items)) next_is
    ∙ append_assoc bytes ((item.line ++ 10 ∷ []) ++ block_bytes item.block) (script_bytes (drop (i + 1) items))
    ∙ ap (λ (l : List ℕ). bytes ++ l) (append_assoc (item.line ++ 10 ∷ []) (block_bytes item.block) (script_bytes (drop (i + 1) items)))
    ∙ ap (λ (l : List Item). bytes ++ script_bytes l) (sym cut) ∙ so_far

-- all items are in
pub all_bytes : (bytes : List ℕ) (items whole : List Item) (i : ℕ) → length items ≤ i → bytes ++ script_bytes (drop i items) ≡ script_bytes items
    → items ≡ whole → bytes ≡ script_bytes whole
all_bytes bytes items whole i past is same =
    sym (append-nil bytes) ∙ ap (λ (l : List Item). bytes ++ script_bytes l) (sym (drop_all i items past)) ∙ is ∙ ap script_bytes same
