-- What a cache has of a history: states of its versions, each as a package that leads to it.
use Rattle.std.specs.Prelude.{◌≡◌, ℕ, ◌+◌, ◌<◌, ◌≤◌, List, [], length, All, Option, Some, None}
use Rattle.ecore_meta.specs.Meta.{Meta}
use Rattle.state_form.specs.Form.{IsStateEncoding, state_size}
use Rattle.history_tree.specs.History.{History}
use Rattle.history_tree.specs.States.{state_of}
use Rattle.page_pool.specs.Frames.{Frames, out_of}
use Rattle.state_cache.specs.Entries.{Entries, IsCached, IsFirst, KeepsApart, held, most_entry_bytes, most_frames_held}

-- ---- what entries are
-- the entry is of a version that is there, and has its state
abbrev pub IsVersionEncoding : Meta → History → ℕ × List ℕ → Type 0
IsVersionEncoding meta h e = (e.0 < length h.versions) × IsStateEncoding meta (state_of meta h e.0) e.1

-- each entry is; before there is a metamodel there is none
abbrev pub AreEncodings : Option Meta → History → List (ℕ × List ℕ) → Type 0
AreEncodings None h entries = entries ≡ []
AreEncodings (Some meta) h entries = All (IsVersionEncoding meta h) entries

-- ---- what calls ask and leave
-- the frames that the cache holds are out of the pool, each once, and not too many others are
pub record MayUse (pool : Frames) (cache : Entries) : Type 0 where
  pub out : IsCached pool cache
  pub room : out_of pool ≤ most_frames_held + length (held cache)

-- What a call leaves of a pool and a cache. The frames that the cache holds are out, each once. Each frame that is out elsewhere
-- stays so, with its bytes, and their number stays.
pub record Uses (before after : Frames) (old new : Entries) : Type 0 where
  pub out : IsCached after new
  pub apart : KeepsApart before after old new
  pub count : out_of after + length (held old) ≡ out_of before + length (held new)

-- the version's entry stands first, where its state has not too many bytes
abbrev pub LeavesFirst : Meta → History → ℕ → Entries → Type 0
LeavesFirst meta h v cache = state_size meta (state_of meta h v) ≤ most_entry_bytes → IsFirst v cache
