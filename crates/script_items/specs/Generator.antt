-- The script that is generated, line by line.
use Rattle.std.specs.Prelude.{ℕ, zero, suc, ◌+◌, ◌*◌, ◌%◌, ◌==◌, List, [], ◌∷◌, ◌++◌, map, codes, Option, None, Some, if◌then◌else◌}
use Rattle.std.specs.Fmt.{decimal}
use Rattle.host_port.specs.Cut.{Item}
use Rattle.script_items.specs.Library.{library}

-- a line that takes no block
abbrev pub without_block : List ℕ → Item
without_block line = record { line = line; block = None }

-- the lines before the first round: a metamodel, two workspaces, and an element that the second has from the first
abbrev pub opening : List Item
opening = record { line = codes "init"; block = Some library }
    ∷ without_block (codes "checkout trunk") ∷ without_block (codes "checkout trunk") ∷ without_block (codes "create 1 Library / lib")
    ∷ without_block (codes "commit 1 start") ∷ without_block (codes "update 2") ∷ []

-- the workspace of a round, 1 or 2
abbrev pub workspace_in : ℕ → ℕ → ℕ
workspace_in seed k = 1 + (k + seed % 2) % 2

-- the most pages of a book
abbrev pub most_pages : ℕ
most_pages = 1000

-- the number of pages of a round's book
abbrev pub pages_in : ℕ → ℕ → ℕ
pages_in seed k = 1 + (seed % most_pages * k) % most_pages

-- the line that makes a round's book
abbrev pub create_text : ℕ → ℕ → List ℕ
create_text ws k = codes "create " ++ (decimal ws ++ (codes " Book lib books b" ++ decimal k))

-- the line that gives it a title
abbrev pub title_text : ℕ → ℕ → List ℕ
title_text ws k = codes "set " ++ (decimal ws ++ (codes " b" ++ (decimal k ++ (codes " title " ++ (34 ∷ 116 ∷ decimal k ++ 34 ∷ [])))))

-- the line that gives it pages
abbrev pub pages_text : ℕ → ℕ → ℕ → List ℕ
pages_text ws k pages = codes "set " ++ (decimal ws ++ (codes " b" ++ (decimal k ++ (codes " pages " ++ decimal pages))))

-- the lines of each round
abbrev pub edits : ℕ → ℕ → List (List ℕ)
edits seed k = let ws = workspace_in seed k in create_text ws k ∷ title_text ws k ∷ pages_text ws k (pages_in seed k) ∷ []

-- the lines after each fourth round: each workspace takes what the other committed, and commits its own
abbrev pub exchange : ℕ → List (List ℕ)
exchange k =
    let number = decimal k in
    codes "update 1" ∷ (codes "commit 1 round " ++ number) ∷ codes "update 2" ∷ (codes "commit 2 round " ++ number) ∷ []

-- all lines of a round
abbrev pub round : ℕ → ℕ → List (List ℕ)
round seed k = edits seed k ++ (if k % 4 == 0 then exchange k else [])

-- the lines of the rounds from 1 to count
abbrev pub rounds : ℕ → ℕ → List (List ℕ)
rounds seed zero = []
rounds seed (suc n) = rounds seed n ++ round seed (suc n)

-- the items of the script
abbrev pub generated : ℕ → ℕ → List Item
generated seed count = opening ++ map without_block (rounds seed count)

-- the bytes of a block: its text, and a line that is just `.`
abbrev pub block_bytes : Option (List ℕ) → List ℕ
block_bytes None = []
block_bytes (Some text) = text ++ 46 ∷ 10 ∷ []

-- the bytes of items: each line with a line feed, and its block
abbrev pub script_bytes : List Item → List ℕ
script_bytes [] = []
script_bytes (item ∷ items) = (item.line ++ 10 ∷ []) ++ (block_bytes item.block ++ script_bytes items)
