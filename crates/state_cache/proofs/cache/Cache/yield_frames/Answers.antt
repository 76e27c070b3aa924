use Rattle.std.proofs.Common.{sym, subst, ◌∙◌}
use Rattle.state_cache.specs.Entries.{Entries, IsCached, IsYielded, KeepsApart}
use Rattle.state_cache.proofs.Storing.{is_yielded, yielded_apart, yielded_few, yielded_small}
use Rattle.state_cache.proofs.cache.Cache.yield_frames.Goals as goal

pub invariant_of-self : goal.invariant_of-self
invariant_of-self c =
    let cached = subst (λ (es : Entries). IsCached c.args.pool.now es) (sym c.self.view_is) c.requires.out in
    record {
      most_is = c.evict-self-inside.ensures.cap ∙ c.self.invariant.most_is;
      counted = c.evict-self-inside.ensures.counted;
      few = yielded_few c.args.pool.now c.evict-self-inside.new.pool c.self.inside.entries.entries c.evict-self-inside.new.entries.entries
          c.self.inside.count c.evict-self-inside.result c.args.count cached c.self.invariant.few c.self.invariant.small c.ranges.count.fits
          c.self.invariant.counted c.evict-self-inside.ensures.released c.evict-self-inside.ensures.counted c.evict-self-inside.ensures.kept
          c.evict-self-inside.ensures.room;
      small = yielded_small c.args.pool.now c.evict-self-inside.new.pool c.self.inside.entries.entries c.evict-self-inside.new.entries.entries
          c.self.inside.count c.evict-self-inside.result c.args.count cached c.self.invariant.few c.self.invariant.small c.ranges.count.fits
          c.self.invariant.counted c.evict-self-inside.ensures.released c.evict-self-inside.ensures.counted c.evict-self-inside.ensures.kept
          c.evict-self-inside.ensures.room;
    }

pub returns-clause-yielded : goal.returns-clause-yielded
returns-clause-yielded c =
    let cached = subst (λ (es : Entries). IsCached c.args.pool.now es) (sym c.self.view_is) c.requires.out in
    subst (λ (es : Entries). IsYielded c.args.pool.now c.evict-self-inside.new.pool c.args.count es c.evict-self-inside.new.entries.entries) c.self.view_is
    (is_yielded c.args.pool.now c.evict-self-inside.new.pool c.self.inside.entries.entries c.evict-self-inside.new.entries.entries c.self.inside.count
    c.evict-self-inside.result c.args.count cached c.self.invariant.few c.self.invariant.small c.ranges.count.fits c.self.invariant.counted
    c.evict-self-inside.ensures.released c.evict-self-inside.ensures.counted c.evict-self-inside.ensures.kept c.evict-self-inside.ensures.room)

pub returns-clause-apart : goal.returns-clause-apart
returns-clause-apart c =
    let cached = subst (λ (es : Entries). IsCached c.args.pool.now es) (sym c.self.view_is) c.requires.out in
    subst (λ (es : Entries). KeepsApart c.args.pool.now c.evict-self-inside.new.pool es c.evict-self-inside.new.entries.entries) c.self.view_is
    (yielded_apart c.args.pool.now c.evict-self-inside.new.pool c.self.inside.entries.entries c.evict-self-inside.new.entries.entries
    c.self.inside.count c.evict-self-inside.result c.args.count cached c.self.invariant.few c.self.invariant.small c.ranges.count.fits
    c.self.invariant.counted c.evict-self-inside.ensures.released c.evict-self-inside.ensures.counted c.evict-self-inside.ensures.kept
    c.evict-self-inside.ensures.room)
