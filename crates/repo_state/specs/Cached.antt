-- What a cache has of a repository.
use Rattle.page_pool.specs.Frames.{Frames}
use Rattle.state_cache.specs.Entries.{Entries, stands}
use Rattle.version_states.specs.Cached.{AreEncodings}
use Rattle.plain_repository.specs.State.{State}

-- the cache holds states of the repository's versions
abbrev pub HasEncodings : State → Frames → Entries → Type 0
HasEncodings s pool cache = AreEncodings s.meta s.history (stands pool cache)
