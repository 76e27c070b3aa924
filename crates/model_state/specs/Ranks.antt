-- The rank of an entry between two others, or after the last.
use Rattle.std.specs.Prelude.{ℕ, ◌+◌, ◌-◌, ◌/◌, Option, None, Some, cond, nat_lt, ◌^◌}

-- how far a rank stands from the one before it, where a list is renumbered or an entry comes last: 2^32
abbrev pub rank_gap : ℕ
rank_gap = 4294967296

-- the most values of an attribute; a list of references or a place with so many other entries isn't renumbered
abbrev pub most_entries : ℕ
most_entries = 4294967295

-- midway, None where no number lies strictly between; without a next one rank_gap further, None where that passes 64 bits
abbrev pub rank_between : ℕ → Option ℕ → Option ℕ
rank_between lo None = cond (nat_lt (lo + rank_gap) (2 ^ 64)) (Some (lo + rank_gap)) None
rank_between lo (Some hi) = cond (nat_lt (hi - lo) 2) None (Some (lo + (hi - lo) / 2))
