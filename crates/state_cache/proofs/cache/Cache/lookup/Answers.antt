-- A state looked up, found or not: the order of use changes with it, and no frame does.
use Rattle.std.proofs.Common.{◌≡◌, ℕ, List, length, ap, sym, ◌∙◌, subst, arith}
use Rattle.std.specs.Prelude.{nat_eq, option_map, Some, Option}
use Rattle.std.specs.Map.{lookup}
use Rattle.lru.specs.LruCache.{LruCache, promoted}
use Rattle.page_pool.specs.Paged.{PagedState, content}
use Rattle.state_cache.specs.Entries.{Entries, held, stands, IsCached}
use Rattle.state_cache.proofs.Listed.{found_out, lookup_stands, promoted_stands, promoted_out, promoted_none}
use Rattle.state_cache.proofs.cache.Cache.lookup.Goals as goal

-- what a look-up in the list gave is what the state has
looked_up : (version : ℕ) {inside view : Entries} {o : Option PagedState} → inside ≡ view → o ≡ lookup (nat_eq version) inside
    → lookup (nat_eq version) view ≡ o
looked_up version same is = ap (λ (es : Entries). lookup (nat_eq version) es) (sym same) ∙ sym is

pub read-requires : goal.read-requires
read-requires c = record {
  out =
      found_out (nat_eq c.args.version) c.args.pool.now c.args.self.now c.in-Some.paged.now
      (looked_up c.args.version c.self.view_is c.in-Some.ensures) c.requires.out;
}

pub returns-in-None-clause-found : goal.returns-in-None-clause-found
returns-in-None-clause-found c =
    sym (lookup_stands (nat_eq c.args.version) c.args.pool.now c.args.self.now
    ∙ ap (λ (o : Option PagedState). option_map (λ p. content c.args.pool.now p) o)
    (looked_up c.args.version c.self.view_is c.in-None.ensures))

pub returns-in-None-clause-first : goal.returns-in-None-clause-first
returns-in-None-clause-first c =
    sym (promoted_none (nat_eq c.args.version) c.args.self.now
    (looked_up c.args.version c.self.view_is c.in-None.ensures))

pub returns-in-None-clause-order : goal.returns-in-None-clause-order
returns-in-None-clause-order c =
    sym (promoted_stands (nat_eq c.args.version) c.args.pool.now c.args.self.now
    ∙ ap (λ (es : Entries). stands c.args.pool.now es)
    (promoted_none (nat_eq c.args.version) c.args.self.now
    (looked_up c.args.version c.self.view_is c.in-None.ensures)))

pub invariant_of-self : goal.invariant_of-self
invariant_of-self c =
    let out = subst (λ (es : Entries). IsCached c.args.pool.now es) (sym c.self.view_is) c.requires.out in
    let moved = promoted_out (nat_eq c.args.version) c.args.pool.now c.self.inside.entries.entries c.in-Some.paged.now (sym c.in-Some.ensures) out in
    let is = ap (λ (l : LruCache ℕ PagedState). l.entries) c.promote.ensures.entries in
    let frames : length (held c.promote.new.self.entries) ≡ length (held c.self.inside.entries.entries) =
    ap (λ (es : Entries). length (held es)) is ∙ moved.1 in
    let count : length c.promote.new.self.entries ≡ length c.self.inside.entries.entries = ap (λ (es : Entries). length es) is ∙ moved.2 in
    record {
      most_is = ap (λ (l : LruCache ℕ PagedState). l.cap) c.promote.ensures.entries ∙ c.self.invariant.most_is;
      counted = c.self.invariant.counted ∙ sym frames;
      few = omega (arith, count, c.self.invariant.few);
      small = c.self.invariant.small;
    }

pub returns-clause-found : goal.returns-clause-found
returns-clause-found c =
    ap (λ (l : List ℕ). Some l) c.in_ok-bytes-in-Some.ensures.read
    ∙ sym (lookup_stands (nat_eq c.args.version) c.args.pool.now c.args.self.now
    ∙ ap (λ (o : Option PagedState). option_map (λ p. content c.args.pool.now p) o)
    (looked_up c.args.version c.self.view_is c.in-Some.ensures))

pub returns-clause-order : goal.returns-clause-order
returns-clause-order c =
    ap (λ (l : LruCache ℕ PagedState). stands c.args.pool.now l.entries) c.promote.ensures.entries
    ∙ sym (promoted_stands (nat_eq c.args.version) c.args.pool.now c.self.inside.entries.entries)
    ∙ ap (λ (es : Entries). promoted (nat_eq c.args.version) (stands c.args.pool.now es)) c.self.view_is

pub returns-clause-frames : goal.returns-clause-frames
returns-clause-frames c =
    let out = subst (λ (es : Entries). IsCached c.args.pool.now es) (sym c.self.view_is) c.requires.out in
    ap (λ (l : LruCache ℕ PagedState). length (held l.entries)) c.promote.ensures.entries
    ∙ (promoted_out (nat_eq c.args.version) c.args.pool.now c.self.inside.entries.entries c.in-Some.paged.now (sym c.in-Some.ensures) out).1
    ∙ ap (λ (es : Entries). length (held es)) c.self.view_is

pub returns-clause-out : goal.returns-clause-out
returns-clause-out c =
    let out = subst (λ (es : Entries). IsCached c.args.pool.now es) (sym c.self.view_is) c.requires.out in
    subst (λ (l : LruCache ℕ PagedState). IsCached c.args.pool.now l.entries) (sym c.promote.ensures.entries)
    (promoted_out (nat_eq c.args.version) c.args.pool.now c.self.inside.entries.entries c.in-Some.paged.now (sym c.in-Some.ensures) out).0
