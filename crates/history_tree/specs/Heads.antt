-- The heads of a history's branches as a list beside it.
use Rattle.std.specs.Prelude.{◌≡◌, ℕ, ◌<◌, List, length, slice_index}
use Rattle.history_tree.specs.History.{History, head}

-- the list has the head of each branch at the branch's number, and no more
abbrev pub AreHeads : History → List ℕ → Type 0
AreHeads h heads = (length heads ≡ length h.branches) × ((branch : ℕ) → branch < length h.branches → slice_index heads branch ≡ head h branch)
