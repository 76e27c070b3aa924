-- A state stored: room is made, its frames are filled, and the other states are as they were. Each clause is a lemma of `Storing`.
use Rattle.std.proofs.Common.{◌≡◌, ◌≤◌, ℕ, length, refl, sym, subst, ◌∙◌, ap, arith}
use Rattle.std.specs.Prelude.{Result, Ok, Err, OnOk, true}
use Rattle.std.specs.Result.{is_ok}
use Rattle.lru.specs.LruCache.{LruCache}
use Rattle.page_pool.specs.Frames.{Frames, free_of}
use Rattle.page_pool.specs.Paged.{PagedState}
use Rattle.page_pool.proofs.Among.{all_kept}
use Rattle.state_cache.specs.Entries.{Entries, IsCached, held, most_entry_bytes}
use Rattle.state_cache.proofs.Storing.{store_enough, store_stored, store_cached, store_apart}
use Rattle.state_cache.proofs.cache.Cache.store.Goals as goal

on_ok : {A E : Type 0} (r : Result A E) (P : Type 0) → is_ok r ≡ true → OnOk r P → P
on_ok (Ok x) P is h = h
on_ok (Err e) P is h = cc

pub put_empty-requires-clause-out : goal.put_empty-requires-clause-out
put_empty-requires-clause-out c =
    subst (λ (es : Entries). IsCached c.reserve.new.self es) (sym c.self.view_is)
    (all_kept c.args.pool.now c.reserve.new.self (held c.args.self.now) (λ k h. c.reserve.ensures.same k) c.requires.out)

pub returns-in_err-given-clause-out : goal.returns-in_err-given-clause-out
returns-in_err-given-clause-out c =
    let before = all_kept c.args.pool.now c.reserve.new.self (held c.args.self.now) (λ k h. c.reserve.ensures.same k) c.requires.out in
    subst (λ (ps : Frames). IsCached ps c.put_empty.new.entries.entries) (sym c.in_err-given.ensures.same)
    (subst (λ (es : Entries). IsCached c.reserve.new.self es)
    (sym (ap (λ (l : LruCache ℕ PagedState). l.entries) c.in_err-given.ensures.err ∙ c.self.view_is)) before)

pub fill-paged-requires-clause-free : goal.fill-paged-requires-clause-free
fill-paged-requires-clause-free c =
    let short : length c.args.bytes.now ≤ most_entry_bytes = omega (arith, c.if-bytes-gt-MOST_ENTRY_BYTES.false) in
    let freed : c.min-possible.result ≤ free_of c.reserve.new.self = let f =
    on_ok c.reserve.result _ c.if-is_err.ensures.negation c.reserve.ensures.free in omega (arith, f) in
    store_enough c.args.pool.now c.reserve.new.self c.put_empty.new.pool c.evict-left.new.pool c.args.self.now c.self.inside.entries.entries
    c.put_empty.new.entries.entries c.evict-left.new.entries.entries c.args.version c.count_frames-needed.result c.self.inside.count
    c.in_ok-given.given c.evict-left.result
    (length c.args.bytes.now) c.self.view_is c.requires.out c.requires.others c.count_frames-needed.ensures short c.reserve.ensures.same
    c.reserve.ensures.out c.self.invariant.counted c.in_ok-given.ensures.released c.in_ok-given.ensures.given
    (ap (λ (l : LruCache ℕ PagedState). l.entries) c.in_ok-given.ensures.entries) c.evict-left.ensures.released c.evict-left.ensures.kept
    c.evict-left.ensures.counted c.evict-left.ensures.room c.min-possible.result c.out.result c.out.ensures.out c.out.ensures.limit
    c.min-possible.ensures freed

pub returns-clause-stored : goal.returns-clause-stored
returns-clause-stored c =
    let short : length c.args.bytes.now ≤ most_entry_bytes = omega (arith, c.if-bytes-gt-MOST_ENTRY_BYTES.false) in
    store_stored c.args.pool.now c.reserve.new.self c.put_empty.new.pool c.evict-left.new.pool c.args.self.now c.self.inside.entries.entries
    c.put_empty.new.entries.entries c.evict-left.new.entries.entries c.args.version c.count_frames-needed.result c.self.inside.count
    c.in_ok-given.given c.evict-left.result
    (length c.args.bytes.now) c.self.view_is c.requires.out c.requires.others c.count_frames-needed.ensures short c.reserve.ensures.same
    c.reserve.ensures.out c.self.invariant.counted c.in_ok-given.ensures.released c.in_ok-given.ensures.given
    (ap (λ (l : LruCache ℕ PagedState). l.entries) c.in_ok-given.ensures.entries) c.evict-left.ensures.released c.evict-left.ensures.kept
    c.evict-left.ensures.counted c.evict-left.ensures.room c.fill-paged.new.pool c.args.bytes.now c.fill-paged.result
    c.replace_first.new.entries.entries refl c.fill-paged.ensures.holds c.fill-paged.ensures.fresh c.fill-paged.ensures.others
    c.fill-paged.ensures.out (ap (λ (l : LruCache ℕ PagedState). l.entries) c.replace_first.ensures)

pub returns-clause-out : goal.returns-clause-out
returns-clause-out c =
    let short : length c.args.bytes.now ≤ most_entry_bytes = omega (arith, c.if-bytes-gt-MOST_ENTRY_BYTES.false) in
    store_cached c.args.pool.now c.reserve.new.self c.put_empty.new.pool c.evict-left.new.pool c.args.self.now c.self.inside.entries.entries
    c.put_empty.new.entries.entries c.evict-left.new.entries.entries c.args.version c.count_frames-needed.result c.self.inside.count
    c.in_ok-given.given c.evict-left.result
    (length c.args.bytes.now) c.self.view_is c.requires.out c.requires.others c.count_frames-needed.ensures short c.reserve.ensures.same
    c.reserve.ensures.out c.self.invariant.counted c.in_ok-given.ensures.released c.in_ok-given.ensures.given
    (ap (λ (l : LruCache ℕ PagedState). l.entries) c.in_ok-given.ensures.entries) c.evict-left.ensures.released c.evict-left.ensures.kept
    c.evict-left.ensures.counted c.evict-left.ensures.room c.fill-paged.new.pool c.args.bytes.now c.fill-paged.result
    c.replace_first.new.entries.entries refl c.fill-paged.ensures.holds c.fill-paged.ensures.fresh c.fill-paged.ensures.others
    c.fill-paged.ensures.out (ap (λ (l : LruCache ℕ PagedState). l.entries) c.replace_first.ensures)

pub returns-clause-apart : goal.returns-clause-apart
returns-clause-apart c =
    let short : length c.args.bytes.now ≤ most_entry_bytes = omega (arith, c.if-bytes-gt-MOST_ENTRY_BYTES.false) in
    store_apart c.args.pool.now c.reserve.new.self c.put_empty.new.pool c.evict-left.new.pool c.args.self.now c.self.inside.entries.entries
    c.put_empty.new.entries.entries c.evict-left.new.entries.entries c.args.version c.count_frames-needed.result c.self.inside.count
    c.in_ok-given.given c.evict-left.result
    (length c.args.bytes.now) c.self.view_is c.requires.out c.requires.others c.count_frames-needed.ensures short c.reserve.ensures.same
    c.reserve.ensures.out c.self.invariant.counted c.in_ok-given.ensures.released c.in_ok-given.ensures.given
    (ap (λ (l : LruCache ℕ PagedState). l.entries) c.in_ok-given.ensures.entries) c.evict-left.ensures.released c.evict-left.ensures.kept
    c.evict-left.ensures.counted c.evict-left.ensures.room c.fill-paged.new.pool c.args.bytes.now c.fill-paged.result
    c.replace_first.new.entries.entries refl c.fill-paged.ensures.holds c.fill-paged.ensures.fresh c.fill-paged.ensures.others
    c.fill-paged.ensures.out (ap (λ (l : LruCache ℕ PagedState). l.entries) c.replace_first.ensures)
