-- The states that were used longest ago are given up until the others and the new one fit.
use Rattle.std.proofs.Common.{◌≡◌, ◌-◌, inl, inr, ℕ, length, ◌≤◌, ap, sym, ◌∙◌, subst, arith}
use Rattle.lru.specs.LruCache.{LruCache}
use Rattle.page_pool.specs.Frames.{Frames, out_of}
use Rattle.page_pool.specs.Paged.{PagedState}
use Rattle.state_cache.specs.declared.cache.Limits.{Limits}
use Rattle.state_cache.specs.Entries.{Entries, held, Released, Keeps, Fits}
use Rattle.state_cache.proofs.Popping.{Popping, parts, enough, one_popped, none_same, none_left, not_fits, fits_now, few_held, keeps}
use Rattle.state_cache.proofs.cache.evict.Goals as goal

-- so many entries and frames of theirs are within the limits, beside what is out of the pool and not held
abbrev fits_in : Frames → ℕ → Limits → ℕ → ℕ → Type 0
fits_in pool held_frames limits = Fits limits.entries limits.frames (out_of pool - held_frames) limits.needed

pub is_within-requires : goal.is_within-requires
is_within-requires c =
    let few = few_held c.args.pool.now c.loop-limits.pool c.args.entries.now.entries c.loop-limits.entries.entries c.args.held_frames
    c.loop-limits.count c.args.limits.entries c.args.limits.frames c.args.limits.needed c.out.result c.requires.out c.requires.counted
    c.loop-limits.invariant.popping c.out.ensures.out c.out.ensures.limit in
    record { small = omega (arith, few, c.requires.needed) }

pub overflow_sub-count : goal.overflow_sub-count
overflow_sub-count c =
    let e = enough c.args.pool.now c.loop-limits.pool c.loop-limits.pool c.args.entries.now.entries c.loop-limits.entries.entries c.loop-limits.count
    c.loop-limits.count (fits_in c.args.pool.now c.args.held_frames c.args.limits)
    (c.in-Some.field-0-0, c.in-Some.evicted) c.loop-limits.invariant.popping (sym c.in-Some.ensures.value) in
    omega (arith, e, c.frames-count.ensures.frames)

pub give_up-requires : goal.give_up-requires
give_up-requires c = record {
  out =
      (parts c.args.pool.now c.loop-limits.pool c.loop-limits.pool c.args.entries.now.entries c.loop-limits.entries.entries c.loop-limits.count
      c.loop-limits.count (fits_in c.args.pool.now c.args.held_frames c.args.limits)
      (c.in-Some.field-0-0, c.in-Some.evicted) c.loop-limits.invariant.popping (sym c.in-Some.ensures.value)).part_out;
}

pub loop-limits-preserved : goal.loop-limits-preserved
loop-limits-preserved c =
    let not = not_fits c.args.pool.now c.loop-limits.pool c.args.entries.now.entries c.loop-limits.entries.entries c.args.held_frames
    c.loop-limits.count c.args.limits.entries c.args.limits.frames c.args.limits.needed c.out.result c.requires.out c.requires.counted
    c.loop-limits.invariant.popping c.out.ensures.out
    (λ few small. c.loop-limits-test.ensures.no (subst (λ (n : ℕ). n ≤ c.args.limits.entries) (sym c.len.ensures.len) few) small) in
    let count_is : c.loop-limits.count - c.frames-count.result ≡ c.loop-limits.count - length c.in-Some.evicted.frames =
    ap (λ (n : ℕ). c.loop-limits.count - n) c.frames-count.ensures.frames in
    record {
      popping = subst (λ (es : Entries).
          Popping c.args.pool.now c.give_up.new.pool c.args.entries.now.entries es (c.loop-limits.count - c.frames-count.result)
          (fits_in c.args.pool.now c.args.held_frames c.args.limits))
          (sym (ap (λ (l : LruCache ℕ PagedState). l.entries) c.pop_lru.ensures.entries))
          (one_popped c.args.pool.now c.loop-limits.pool c.give_up.new.pool c.args.entries.now.entries c.loop-limits.entries.entries
          c.loop-limits.count (c.loop-limits.count - c.frames-count.result)
          (fits_in c.args.pool.now c.args.held_frames c.args.limits)
          (c.in-Some.field-0-0, c.in-Some.evicted) c.loop-limits.invariant.popping (sym c.in-Some.ensures.value)
          c.give_up.ensures.free c.give_up.ensures.others c.give_up.ensures.out c.give_up.ensures.room not count_is);
      cap = ap (λ (l : LruCache ℕ PagedState). l.cap) c.pop_lru.ensures.entries ∙ c.loop-limits.invariant.cap;
    }

pub returns-in-None-clause-released : goal.returns-in-None-clause-released
returns-in-None-clause-released c =
    let same = ap (λ (l : LruCache ℕ PagedState). l.entries) c.pop_lru.ensures.entries
    ∙ none_same c.loop-limits.entries.entries (none_left c.loop-limits.entries.entries (sym c.in-None.ensures.value)) in
    subst (λ (es : Entries). Released c.args.pool.now c.loop-limits.pool (held c.args.entries.now.entries) (held es))
    (sym same) c.loop-limits.invariant.popping.released

pub returns-in-None-clause-counted : goal.returns-in-None-clause-counted
returns-in-None-clause-counted c =
    let same = ap (λ (l : LruCache ℕ PagedState). l.entries) c.pop_lru.ensures.entries
    ∙ none_same c.loop-limits.entries.entries (none_left c.loop-limits.entries.entries (sym c.in-None.ensures.value)) in
    c.loop-limits.invariant.popping.counted ∙ ap (λ (es : Entries). length (held es)) (sym same)

pub returns-in-None-clause-kept : goal.returns-in-None-clause-kept
returns-in-None-clause-kept c =
    let same = ap (λ (l : LruCache ℕ PagedState). l.entries) c.pop_lru.ensures.entries
    ∙ none_same c.loop-limits.entries.entries (none_left c.loop-limits.entries.entries (sym c.in-None.ensures.value)) in
    subst (λ (es : Entries).
    Keeps (fits_in c.args.pool.now c.args.held_frames c.args.limits)
    c.args.entries.now.entries es) (sym same)
    (keeps c.args.pool.now c.loop-limits.pool c.args.entries.now.entries c.loop-limits.entries.entries c.loop-limits.count
    (fits_in c.args.pool.now c.args.held_frames c.args.limits)
    c.loop-limits.invariant.popping)

pub returns-in-None-clause-room : goal.returns-in-None-clause-room
returns-in-None-clause-room c =
    let gone = none_left c.loop-limits.entries.entries (sym c.in-None.ensures.value) in
    inr (ap (λ (l : LruCache ℕ PagedState). l.entries) c.pop_lru.ensures.entries ∙ none_same c.loop-limits.entries.entries gone ∙ gone)

pub returns-clause-room : goal.returns-clause-room
returns-clause-room c =
    let yes = c.loop-limits-test.ensures.yes in
    inl (fits_now c.args.pool.now c.loop-limits.pool c.args.entries.now.entries c.loop-limits.entries.entries c.args.held_frames c.loop-limits.count
    c.args.limits.entries c.args.limits.frames c.args.limits.needed c.out.result c.requires.out c.requires.counted c.loop-limits.invariant.popping
    c.out.ensures.out
    (subst (λ (n : ℕ). n ≤ c.args.limits.entries) c.len.ensures.len yes.0) yes.1 yes.2)
