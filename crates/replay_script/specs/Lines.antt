-- The line by which an event is made again, and its block where it takes one.
use Rattle.std.specs.Prelude.{ℕ, ◌==◌, List, [], ◌∷◌, ◌++◌, codes, Bool, false, Option, Some, None, slice_get, if◌then◌else◌}
use Rattle.std.specs.Fmt.{decimal}
use Rattle.std.specs.Option.{option_map_or}
use Rattle.host_port.specs.Cut.{Item}
use Rattle.hex.specs.Hex.{encode_lower}
use Rattle.op_form.specs.declared.event.Event.{Event}
use Rattle.op_form.specs.declared.event.Event.TheVariants.{Init, Checkout, Edit, Begin, End, Undo, Discard, Tidy, Commit, Branch, Tag, Update, Merge}
use Rattle.op_form.specs.declared.event.Event.TheVariants.{Drop, Evolve, Upgrade, Signed}
use Rattle.op_form.specs.Packages.{package_encoding}
use Rattle.history_tree.specs.History.{History}
use Rattle.history_tree.specs.Found.{branch_name}
use Rattle.script_lang.specs.Spelling.{spaced}

-- the version is there, and is of that branch
abbrev pub is_of_branch : History → ℕ → ℕ → Bool
is_of_branch h version branch = option_map_or (λ v. v.branch == branch) (slice_get h.versions version) false

-- what names a version on a branch: the version where the branch is its own, else the branch, whose head it is
abbrev pub place_word : History → ℕ → ℕ → List ℕ
place_word h version branch = if is_of_branch h version branch then decimal version else branch_name h branch

-- a last word, and none where it is empty
abbrev pub last_word : List ℕ → List (List ℕ)
last_word [] = []
last_word (b ∷ bs) = (b ∷ bs) ∷ []

-- a last word after a space, and nothing where it is empty
abbrev pub last_part : List ℕ → List ℕ
last_part [] = []
last_part (b ∷ bs) = 32 ∷ b ∷ bs

-- the words of the line, on the history that the events before it leave
abbrev pub words_again : History → Event → List (List ℕ)
words_again h (Init text) = codes "init" ∷ []
words_again h (Checkout version branch) = codes "checkout" ∷ place_word h version branch ∷ []
words_again h (Edit ws operations) = codes "load" ∷ decimal ws ∷ []
words_again h (Begin ws name) = codes "begin" ∷ decimal ws ∷ name ∷ []
words_again h (End ws) = codes "end" ∷ decimal ws ∷ []
words_again h (Undo ws) = codes "undo" ∷ decimal ws ∷ []
words_again h (Discard ws) = codes "discard" ∷ decimal ws ∷ []
words_again h (Tidy ws) = codes "tidy" ∷ decimal ws ∷ []
words_again h (Commit ws message) = codes "commit" ∷ decimal ws ∷ last_word message
words_again h (Branch ws name) = codes "branch" ∷ decimal ws ∷ name ∷ []
words_again h (Tag name version) = codes "tag" ∷ name ∷ decimal version ∷ []
words_again h (Update ws letters) = codes "update" ∷ decimal ws ∷ last_word letters
words_again h (Merge ws branch letters) = codes "merge" ∷ decimal ws ∷ branch_name h branch ∷ last_word letters
words_again h (Drop ws) = codes "drop" ∷ decimal ws ∷ []
words_again h (Evolve text) = codes "evolve" ∷ []
words_again h Upgrade = codes "upgrade" ∷ []
words_again h (Signed ws author moment message) = codes "signed" ∷ decimal ws ∷ author ∷ decimal moment ∷ last_word message

-- the text of its block: the metamodel as it was given, or the package's bytes in hexadecimal digits of lower case, as one line
abbrev pub block_again : Event → Option (List ℕ)
block_again (Init text) = Some text
block_again (Checkout version branch) = None
block_again (Edit ws operations) = Some (encode_lower (package_encoding operations) ++ (10 ∷ []))
block_again (Begin ws name) = None
block_again (End ws) = None
block_again (Undo ws) = None
block_again (Discard ws) = None
block_again (Tidy ws) = None
block_again (Commit ws message) = None
block_again (Branch ws name) = None
block_again (Tag name version) = None
block_again (Update ws letters) = None
block_again (Merge ws branch letters) = None
block_again (Drop ws) = None
block_again (Evolve text) = Some text
block_again Upgrade = None
block_again (Signed ws author moment message) = None

-- the line and its block
abbrev pub item_again : History → Event → Item
item_again h event = record { line = spaced (words_again h event); block = block_again event }
