-- How many elements the models have that are kept.
use Rattle.std.specs.Prelude.{◌≡◌, ℕ, ◌+◌, ◌≤◌, List, [], ◌∷◌, ◌⊎◌, map, sum}
use Rattle.repo_state.specs.declared.sizes.Size.{Size}

-- the positions of the workspaces whose models have a size
abbrev pub sized : List Size → List ℕ
sized sizes = map (λ s. s.at) sizes

-- how many elements models have together, by their sizes
abbrev pub together : List Size → ℕ
together sizes = sum (map (λ s. s.counted + s.added) sizes)

-- the models have together at most so many elements, or the one used longest ago is of the workspace at that position
abbrev pub HasRoom : List Size → ℕ → ℕ → Type 0
HasRoom [] at most = Unit {0}
HasRoom (size ∷ sizes) at most = (size.at ≡ at) ⊎ (together (size ∷ sizes) ≤ most)
