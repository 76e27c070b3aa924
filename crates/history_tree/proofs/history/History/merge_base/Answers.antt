use Rattle.std.proofs.Common.{◌≡◌, ◌∙◌, ℕ, Bool, List, sym, subst, ap}
use Rattle.std.specs.List.{filter}
use Rattle.history_tree.specs.History.{path}
use Rattle.history_tree.specs.Marks.{is_flagged}
use Rattle.history_tree.specs.MergeBase.{greatest, merge_base, IsMergeBase}
use Rattle.history_tree.proofs.Bases.{known_first, base_last}
use Rattle.history_tree.proofs.Flags.{base_by_flags}
use Rattle.history_tree.proofs.history.History.merge_base.Goals as goal

pub last_flagged-requires-clause-first : goal.last_flagged-requires-clause-first
last_flagged-requires-clause-first c =
    let h = c.args.self.now.history in
    let pending : List ℕ = c.as_slice.result.now in
    ap (λ (f : List Bool). is_flagged f 0) c.deref.ensures.value ∙ c.in_ok-flags.ensures.known 0 c.recall_wholeness.ensures.some_version
    ∙ known_first h c.recall_wholeness.ensures c.args.base pending c.requires.base

found : (c : goal.After-drop-flags) → c.last_flagged.result ≡ merge_base c.args.self.now.history c.args.base c.args.pending.now c.args.other
found c =
    let h = c.args.self.now.history in
    c.last_flagged.ensures.last
    ∙ ap (λ (f : List Bool). greatest (filter (is_flagged f) (path h c.args.other))) c.deref.ensures.value
    ∙ base_by_flags h c.args.base c.as_slice.result.now c.args.other c.in_ok-flags.flags.items c.in_ok-flags.ensures
    ∙ ap (λ (us : List ℕ). merge_base h c.args.base us c.args.other) c.as_slice.ensures

pub returns-clause-base : goal.returns-clause-base
returns-clause-base = found

pub returns-clause-last : goal.returns-clause-last
returns-clause-last c =
    let h = c.args.self.now.history in
    subst (λ v. IsMergeBase h c.args.base c.args.pending.now c.args.other v) (sym (found c))
    (base_last h c.recall_wholeness.ensures c.args.base c.args.pending.now c.args.other c.requires.base c.requires.other)
