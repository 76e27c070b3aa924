use Rattle.std.proofs.Common.{◌≡◌, ℕ, List, Some, nat_eq, sym, subst}
use Rattle.std.specs.Map.{lookup}
use Rattle.state_cache.specs.Entries.{stands}
use Rattle.state_cache.proofs.Standing.{all_found, all_promoted, found_first}
use Rattle.version_states.specs.Cached.{IsVersionEncoding}
use Rattle.version_states.proofs.Caching.{absent_same, uses_found}
use Rattle.version_states.proofs.cached.cached_state.Goals as goal

pub read_state-requires-clause-form : goal.read_state-requires-clause-form
read_state-requires-clause-form c =
    let found : lookup (nat_eq c.args.v) (stands c.args.pool.now c.args.cache.now) ≡ Some c.in-Some.bytes.items =
    sym (rw c.in-Some.is at c.in_ok-lookup.ensures.found) in
    subst (λ (l : List ℕ). IsVersionEncoding c.args.meta.now c.args.history.now.history (c.args.v, l)) (sym c.deref.ensures.value)
    (all_found (IsVersionEncoding c.args.meta.now c.args.history.now.history) c.args.pool.now c.args.cache.now c.args.v c.in-Some.bytes.items found
    c.requires.forms)

pub returns-in_err-model-in-Some-clause-uses : goal.returns-in_err-model-in-Some-clause-uses
returns-in_err-model-in-Some-clause-uses c =
    uses_found c.args.pool.now c.args.v c.args.cache.now c.lookup.new.self c.in_ok-lookup.ensures.first c.requires.usable.out c.lookup.ensures.out
    c.lookup.ensures.frames

pub returns-in_err-model-in-Some-clause-forms : goal.returns-in_err-model-in-Some-clause-forms
returns-in_err-model-in-Some-clause-forms c =
    all_promoted (IsVersionEncoding c.args.meta.now c.args.history.now.history)
    (nat_eq c.args.v) c.args.pool.now c.args.cache.now c.lookup.new.self c.in_ok-lookup.ensures.first c.requires.forms

pub returns-in-None-clause-uses : goal.returns-in-None-clause-uses
returns-in-None-clause-uses c =
    uses_found c.args.pool.now c.args.v c.args.cache.now c.lookup.new.self c.in_ok-lookup.ensures.first c.requires.usable.out c.lookup.ensures.out
    c.lookup.ensures.frames

pub returns-in-None-clause-forms : goal.returns-in-None-clause-forms
returns-in-None-clause-forms c =
    all_promoted (IsVersionEncoding c.args.meta.now c.args.history.now.history)
    (nat_eq c.args.v) c.args.pool.now c.args.cache.now c.lookup.new.self c.in_ok-lookup.ensures.first c.requires.forms

pub returns-in-None-clause-none : goal.returns-in-None-clause-none
returns-in-None-clause-none c = sym (rw c.in-None.is at c.in_ok-lookup.ensures.found)

pub returns-in-None-clause-same : goal.returns-in-None-clause-same
returns-in-None-clause-same c =
    absent_same c.args.pool.now c.args.v c.args.cache.now c.lookup.new.self
    (sym (rw c.in-None.is at c.in_ok-lookup.ensures.found)) c.in_ok-lookup.ensures.first

pub returns-in_ok-model-in-Some-clause-first : goal.returns-in_ok-model-in-Some-clause-first
returns-in_ok-model-in-Some-clause-first c =
    let found : lookup (nat_eq c.args.v) (stands c.args.pool.now c.args.cache.now) ≡ Some c.in-Some.bytes.items =
    sym (rw c.in-Some.is at c.in_ok-lookup.ensures.found) in
    found_first c.args.pool.now c.args.v c.in-Some.bytes.items c.args.cache.now c.lookup.new.self found c.in_ok-lookup.ensures.first

pub returns-in_ok-model-in-Some-clause-uses : goal.returns-in_ok-model-in-Some-clause-uses
returns-in_ok-model-in-Some-clause-uses c =
    uses_found c.args.pool.now c.args.v c.args.cache.now c.lookup.new.self c.in_ok-lookup.ensures.first c.requires.usable.out c.lookup.ensures.out
    c.lookup.ensures.frames

pub returns-in_ok-model-in-Some-clause-forms : goal.returns-in_ok-model-in-Some-clause-forms
returns-in_ok-model-in-Some-clause-forms c =
    all_promoted (IsVersionEncoding c.args.meta.now c.args.history.now.history)
    (nat_eq c.args.v) c.args.pool.now c.args.cache.now c.lookup.new.self c.in_ok-lookup.ensures.first c.requires.forms
