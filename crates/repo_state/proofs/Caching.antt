-- A cache holds states of the versions of a repository, said of a metamodel and a history; and it may be used once more.
use Rattle.std.proofs.Common.{◌≡◌, ℕ, List, Option, Some, sym, subst, arith}
use Rattle.ecore_meta.specs.Meta.{Meta}
use Rattle.history_tree.specs.History.{History}
use Rattle.page_pool.specs.Frames.{Frames}
use Rattle.state_cache.specs.Entries.{Entries}
use Rattle.version_states.specs.Cached.{AreEncodings, MayUse, Uses}
use Rattle.plain_repository.specs.State.{State}

-- the same, said of a metamodel and a history
pub forms_begun : (s : State) (meta : Meta) (h : History) (entries : List (ℕ × List ℕ)) → s.meta ≡ Some meta → s.history ≡ h
    → AreEncodings s.meta s.history entries → AreEncodings (Some meta) h entries
forms_begun s meta h entries begun is forms =
    subst (λ (g : History). AreEncodings (Some meta) g entries) is (subst (λ (m : Option Meta). AreEncodings m s.history entries) begun forms)

pub forms_back : (s : State) (meta : Meta) (h : History) (entries : List (ℕ × List ℕ)) → s.meta ≡ Some meta → s.history ≡ h
    → AreEncodings (Some meta) h entries → AreEncodings s.meta s.history entries
forms_back s meta h entries begun is forms =
    subst (λ (m : Option Meta). AreEncodings m s.history entries) (sym begun) (subst (λ (g : History). AreEncodings (Some meta) g entries) (sym is) forms)

-- what may be used may be used after a call too
pub may_again : (p q : Frames) (a b : Entries) → MayUse p a → Uses p q a b → MayUse q b
may_again p q a b may uses = record { out = uses.out; room = omega (arith, may.room, uses.count) }
