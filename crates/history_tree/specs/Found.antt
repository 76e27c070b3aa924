-- What a number, a branch's name and a tag's name name.
use Rattle.std.specs.Prelude.{ℕ, nat_eq, Bool, List, [], Option, None, Some, Result, Ok, Err, map, slice_get}
use Rattle.std.specs.Cmp.Lexicographic.{pointwise}
use Rattle.std.specs.List.{filter, find, list_any, position}
use Rattle.std.specs.Option.{option_map_or}
use Rattle.history_tree.specs.declared.version.Version.{Version}
use Rattle.history_tree.specs.declared.version.Branch.{Branch}
use Rattle.history_tree.specs.declared.version.Tag.{Tag}
use Rattle.history_tree.specs.declared.found.Found.{Found}
use Rattle.history_tree.specs.declared.found.FindFault.{FindFault}
use Rattle.history_tree.specs.declared.found.FindFault.TheVariants.{NoVersion, NoBranch}
use Rattle.history_tree.specs.History.{History, head}

-- is it the branch of that name
abbrev pub is_branch_named : List ℕ → Branch → Bool
is_branch_named name b = pointwise nat_eq b.name name

-- is it the tag of that name
abbrev pub is_tag_named : List ℕ → Tag → Bool
is_tag_named name t = pointwise nat_eq t.name name

-- the number of the branch of that name
abbrev pub branch_named : History → List ℕ → Option ℕ
branch_named h name = position (is_branch_named name) h.branches

-- the name of a branch
abbrev pub branch_name : History → ℕ → List ℕ
branch_name h branch = option_map_or (λ b. b.name) (slice_get h.branches branch) []

-- the tag of that name
abbrev pub tag_named : History → List ℕ → Option Tag
tag_named h name = find (is_tag_named name) h.tags

-- is there a tag of that name
abbrev pub has_tag : History → List ℕ → Bool
has_tag h name = list_any (is_tag_named name) h.tags

-- the names of a version's tags, in the order made
abbrev pub tags_of : History → ℕ → List (List ℕ)
tags_of h v = map (λ t. t.name) (filter (λ t. nat_eq t.version v) h.tags)

-- a version that is there, with the branch that it is on
abbrev pub on_its_branch : ℕ → Option Version → Result Found FindFault
on_its_branch v None = Err NoVersion
on_its_branch v (Some version) = Ok (record { version = v; branch = version.branch })

-- what a number names
abbrev pub found_by_number : History → ℕ → Result Found FindFault
found_by_number h v = on_its_branch v (slice_get h.versions v)

-- the head of a branch that is there
abbrev pub at_its_head : History → Option ℕ → Result Found FindFault
at_its_head h None = Err NoBranch
at_its_head h (Some branch) = Ok (record { version = head h branch; branch = branch })

-- what a branch's name names
abbrev pub found_by_branch : History → List ℕ → Result Found FindFault
found_by_branch h name = at_its_head h (branch_named h name)

-- the version of a tag that is there
abbrev pub of_its_version : History → Option Tag → Result Found FindFault
of_its_version h None = Err NoVersion
of_its_version h (Some tag) = found_by_number h tag.version

-- what a tag's name names
abbrev pub found_by_tag : History → List ℕ → Result Found FindFault
found_by_tag h name = of_its_version h (tag_named h name)

-- what the first of these that is given names
abbrev pub found_by : History → Option ℕ → Option (List ℕ) → Option (List ℕ) → Result Found FindFault
found_by h (Some v) branch tag = found_by_number h v
found_by h None (Some name) tag = found_by_branch h name
found_by h None None (Some name) = found_by_tag h name
found_by h None None None = Err NoVersion
