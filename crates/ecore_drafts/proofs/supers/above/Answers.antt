-- The class and all those above it: a walk that enters each once, and reaches no other.
use Rattle.std.proofs.Common.{◌∙◌, ℕ, List, [], ◌∷◌, ◌++◌, ◌<◌, length, map, sym, ap, subst, arith}
use Rattle.std.proofs.lemmas.List.{length-map}
use Rattle.std.specs.List.{list_any}
use Rattle.std.specs.Ordering.{nat_cmp}
use Rattle.std.specs.BTreeMap.{is_at}
use Rattle.ecore_drafts.specs.Supers.{Grown, is_above, supers_of}
use Rattle.ecore_meta.proofs.RisingLaws.{keys_are}
use Rattle.ecore_drafts.proofs.SuperLaws.{Walked, walk_first, walk_more, walk_ends, walk_small, walk_at, supers_at, reached_first, same_default}
use Rattle.ecore_drafts.proofs.supers.above.Goals as goal

pub loop-next-init : goal.loop-next-init
loop-next-init c =
    let P : List ℕ → Type 0 = λ xs. Walked (map (λ ups. ups.items) c.args.supers.now) c.args.class c.insert.new.self xs 0 in
    subst P (sym (c.in_ok-push.ensures.items ∙ ap (λ xs. xs ++ c.args.class ∷ []) c.new-reached.ensures.items))
    (walk_first (map (λ ups. ups.items) c.args.supers.now) c.args.class c.insert.new.self (omega (arith, length-map c.args.supers.now (λ ups. ups.items)))
    (reached_first c.new-seen.result c.insert.new.self c.args.class
    (λ q. ap (list_any (is_at (nat_cmp q))) c.new-seen.ensures.empty) c.in_ok-insert.ensures.updates.0 c.new-seen.ensures.ordered
    c.in_ok-insert.ensures.ordered))

pub bounds-supers-index : goal.bounds-supers-index
bounds-supers-index c =
    let m : c.loop-next.next < length c.loop-next.reached.items = omega (arith, c.len.ensures) in
    let h = walk_at _ _ _ _ _ c.loop-next.invariant m in
    let idx = c.index.ensures ∙ same_default c.loop-next.reached.items c.loop-next.next _ 0 m in
    omega (arith, h, idx, length-map c.args.supers.now (λ ups. ups.items))

pub loop-next-smaller : goal.loop-next-smaller
loop-next-smaller c =
    let m : c.loop-next.next < length c.loop-next.reached.items = omega (arith, c.len.ensures) in
    let h = walk_small _ _ _ _ _ c.loop-next.invariant in
    omega (arith, h, length-map c.args.supers.now (λ ups. ups.items))

pub loop-next-preserved : goal.loop-next-preserved
loop-next-preserved c =
    let m : c.loop-next.next < length c.loop-next.reached.items = omega (arith, c.len.ensures) in
    let h = walk_at _ _ _ _ _ c.loop-next.invariant m in
    let idx = c.index.ensures ∙ same_default c.loop-next.reached.items c.loop-next.next _ 0 m in
    let P : List ℕ → Type 0 = λ us. Grown us c.loop-next.reached.items c.reach_all.new.reached.items in
    walk_more _ _ _ _ _ _ _ c.requires.inside c.loop-next.invariant m c.in_ok-reach_all.ensures.kept
    (subst P
    (c.as_slice-ups.ensures.value ∙ ap (λ v. v.items) c.index-supers-index.is
    ∙ sym (supers_at (λ ups. ups.items) c.args.supers.now c.index.result.now c.index-supers-index.result
    (omega (arith, h, idx, length-map c.args.supers.now (λ ups. ups.items))))
    ∙ ap (supers_of (map (λ ups. ups.items) c.args.supers.now)) idx)
    c.in_ok-reach_all.ensures.grown)

pub returns-clause-has : goal.returns-clause-has
returns-clause-has c = walk_ends _ _ _ _ _ c.requires.inside (omega (arith, length-map c.args.supers.now (λ ups. ups.items))) c.loop-next.invariant
    (omega (arith, c.len.ensures))

pub returns-clause-rising : goal.returns-clause-rising
returns-clause-rising c =
    let has = walk_ends _ _ _ _ _ c.requires.inside (omega (arith, length-map c.args.supers.now (λ ups. ups.items))) c.loop-next.invariant
    (omega (arith, c.len.ensures)) in
    keys_are c.loop-next.seen (is_above (map (λ ups. ups.items) c.args.supers.now) c.args.class)
    (length c.args.supers.now) c.loop-next.invariant.kept.sorted has
    (λ d h. omega (
      arith,
      length-map c.args.supers.now (λ ups. ups.items),
      c.loop-next.invariant.below d (sym (c.loop-next.invariant.kept.alike d) ∙ has d ∙ h),
    ))
