use Rattle.std.proofs.Common.{[], length, ap, sym, ◌∙◌, subst, arith}
use Rattle.std.specs.Prelude.{nat_eq}
use Rattle.std.specs.Map.{remove_entry}
use Rattle.state_cache.specs.Entries.{Entries, held, Released}
use Rattle.state_cache.proofs.Listed.{found_out, removed_parts, put_bare, none_of}
use Rattle.state_cache.proofs.Releasing.{released_part, released_none}
use Rattle.state_cache.proofs.cache.put_empty.Goals as goal

pub give_up-requires : goal.give_up-requires
give_up-requires c = record {
  out =
      found_out (nat_eq c.args.version) c.args.pool.now c.args.entries.now.entries c.in-Ok-Some.paged
      (cc (c.in-Ok-Some.ensures.old, c.in-Ok-Some.field-0-is)) c.requires.out;
}

pub returns-in-Ok-Some-clause-entries : goal.returns-in-Ok-Some-clause-entries
returns-in-Ok-Some-clause-entries c =
    c.in-Ok-Some.ensures.entries
    ∙ put_bare c.args.entries.now c.args.version c.empty.result (record { frames = []; size = 0 }) c.requires.room c.empty.ensures

pub returns-in-Ok-Some-clause-released : goal.returns-in-Ok-Some-clause-released
returns-in-Ok-Some-clause-released c =
    released_part c.args.pool.now c.give_up.new.pool (held c.args.entries.now.entries) c.in-Ok-Some.paged.frames
    (held (remove_entry (nat_eq c.args.version) c.args.entries.now.entries))
    (removed_parts (nat_eq c.args.version) c.args.pool.now c.args.entries.now.entries c.in-Ok-Some.paged
    (cc (c.in-Ok-Some.ensures.old, c.in-Ok-Some.field-0-is)) c.requires.out) c.give_up.ensures.free c.give_up.ensures.others c.give_up.ensures.out
    c.give_up.ensures.room

pub returns-in-Ok-Some-clause-given : goal.returns-in-Ok-Some-clause-given
returns-in-Ok-Some-clause-given c =
    let parts = removed_parts (nat_eq c.args.version) c.args.pool.now c.args.entries.now.entries c.in-Ok-Some.paged
    (cc (c.in-Ok-Some.ensures.old, c.in-Ok-Some.field-0-is)) c.requires.out in
    let s = parts.size in
    omega (arith, s, c.frames-given.ensures.frames)

pub returns-in-Ok-None-clause-entries : goal.returns-in-Ok-None-clause-entries
returns-in-Ok-None-clause-entries c =
    c.in-Ok-None.ensures.entries
    ∙ put_bare c.args.entries.now c.args.version c.empty.result (record { frames = []; size = 0 }) c.requires.room c.empty.ensures

pub returns-in-Ok-None-clause-released : goal.returns-in-Ok-None-clause-released
returns-in-Ok-None-clause-released c =
    subst (λ (es : Entries). Released c.args.pool.now c.args.pool.now (held c.args.entries.now.entries) (held es))
    (sym (none_of (nat_eq c.args.version) c.args.entries.now.entries (cc (c.in-Ok-None.ensures.old, c.in-Ok-None.field-0-is))).1)
    (released_none c.args.pool.now (held c.args.entries.now.entries) c.requires.out)

pub returns-in-Ok-None-clause-given : goal.returns-in-Ok-None-clause-given
returns-in-Ok-None-clause-given c =
    let e = ap (λ (es : Entries). length (held es))
    (none_of (nat_eq c.args.version) c.args.entries.now.entries (cc (c.in-Ok-None.ensures.old, c.in-Ok-None.field-0-is))).1 in
    omega (arith, e)
