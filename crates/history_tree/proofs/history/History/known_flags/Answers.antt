use Rattle.std.proofs.Common.{ℕ, ◌<◌, ◌∙◌, false, List, length, get_or, ap, sym, subst}
use Rattle.std.specs.Prelude.{All}
use Rattle.std.proofs.lemmas.List.{length-replicate}
use Rattle.history_tree.specs.declared.version.Version.{Version}
use Rattle.history_tree.specs.Marks.{Flagged}
use Rattle.history_tree.proofs.Flags.{have_flags, merged_there, flags_first, flags_more, flags_all}
use Rattle.history_tree.proofs.history.History.known_flags.Goals as goal

pub flag_all-requires : goal.flag_all-requires
flag_all-requires c =
    let n : ℕ = length c.args.self.now.history.versions in
    have_flags c.in_ok-flags.flags.items n c.as_slice.result.now
    (ap length (c.in_ok-flags.ensures.items_if_clones_equal (λ y same. same)) ∙ length-replicate c.version_count.result false ∙ c.version_count.ensures.count)
    (subst (λ (l : List ℕ). All (λ v. v < n) l) (sym c.as_slice.ensures) c.in_ok-path.ensures.there)

pub flag_all-requires-2 : goal.flag_all-requires-2
flag_all-requires-2 c =
    have_flags c.flag_all.new.flags.items (length c.args.self.now.history.versions) c.args.pending.now
    (c.flag_all.ensures.size ∙ ap length (c.in_ok-flags.ensures.items_if_clones_equal (λ y same. same))
    ∙ length-replicate c.version_count.result false ∙ c.version_count.ensures.count)
    c.requires.pending

pub loop-v-init : goal.loop-v-init
loop-v-init c =
    flags_first c.args.self.now.history c.as_slice-v-items.result.now c.args.pending.now c.version_count.result c.in_ok-flags.flags.items
    c.flag_all.new.flags.items c.flag_all-2.new.flags.items
    c.version_count.ensures.count (c.in_ok-flags.ensures.items_if_clones_equal (λ y same. same))
    (subst (λ (l : List ℕ). Flagged c.in_ok-flags.flags.items c.flag_all.new.flags.items l)
    (c.as_slice.ensures ∙ sym c.as_slice-v-items.ensures) c.flag_all.ensures)
    c.flag_all-2.ensures

pub flag_all-requires-in-loop-v : goal.flag_all-requires-in-loop-v
flag_all-requires-in-loop-v c =
    let h = c.args.self.now.history in
    let version : Version = c.version-version.result.now in
    have_flags c.loop-v.flags.items (length h.versions) c.as_slice-in-loop-v.result.now c.loop-v.invariant.size
    (subst (λ (l : List ℕ). All (λ v. v < length h.versions) l) (sym c.as_slice-in-loop-v.ensures)
    (merged_there h (get_or c.as_slice-v-items.result.now c.loop-v.v-index 0) version c.recall_wholeness.ensures c.version-version.ensures.version))

pub loop-v-preserved : goal.loop-v-preserved
loop-v-preserved c =
    let h = c.args.self.now.history in
    let flags = c.loop-v.flags.items in
    let more = c.flag_all-in-loop-v.new.flags.items in
    flags_more h c.as_slice-v-items.result.now c.args.pending.now c.as_slice-v-items.result.now c.loop-v.v-index c.version-version.result.now flags more
    c.loop-v-test.true c.version-version.ensures.version c.loop-v.invariant
    (subst (λ (l : List ℕ). Flagged flags more l) c.as_slice-in-loop-v.ensures c.flag_all-in-loop-v.ensures)

pub returns : goal.returns
returns c =
    flags_all c.args.self.now.history c.args.base c.args.pending.now c.as_slice-v-items.result.now c.loop-v.v-index c.loop-v.flags.items
    (c.as_slice-v-items.ensures ∙ c.in_ok-path.ensures.path) c.loop-v-test.false c.loop-v.invariant
