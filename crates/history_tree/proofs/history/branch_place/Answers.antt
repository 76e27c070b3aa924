use Rattle.std.proofs.Common.{◌≡◌, ◌∙◌, sym}
use Rattle.std.specs.Prelude.{None, Some}
use Rattle.std.specs.List.{position}
use Rattle.history_tree.specs.declared.version.Branch.{Branch}
use Rattle.history_tree.proofs.Named.{among_first, among_later, is_named, place_below}
use Rattle.history_tree.proofs.history.branch_place.Goals as goal

found : (c : goal.In-Some) → Some c.in-Some.number ≡ position (is_named (λ (x : Branch). x.name) c.args.name.now) c.args.branches.now
found c = among_first (λ (x : Branch). x.name) c.args.name.now c.args.branches.now c.args.index.now.entered c.requires.0 c.in-Some.number
    (c.in-Some.ensures ∙ c.requires.1 c.args.name.now)

pub returns-in-Some-clause-place : goal.returns-in-Some-clause-place
returns-in-Some-clause-place c = found c

pub returns-in-Some-clause-there : goal.returns-in-Some-clause-there
returns-in-Some-clause-there c = place_below (λ (x : Branch). x.name) c.args.name.now c.args.branches.now c.in-Some.number (found c)

pub returns-in-None-clause-place : goal.returns-in-None-clause-place
returns-in-None-clause-place c =
    among_later (λ (x : Branch). x.name) c.args.name.now c.args.branches.now c.args.index.now.entered c.requires.0 None
    (sym c.in_default.is ∙ c.number.ensures ∙ c.requires.1 c.args.name.now) c.in-None.ensures.place

pub returns-in-Some-branch_among-clause-place : goal.returns-in-Some-branch_among-clause-place
returns-in-Some-branch_among-clause-place c =
    among_later (λ (x : Branch). x.name) c.args.name.now c.args.branches.now c.args.index.now.entered c.requires.0 (Some c.in-Some-branch_among.later)
    (sym c.in_default.is ∙ c.number.ensures ∙ c.requires.1 c.args.name.now) c.in-Some-branch_among.ensures.place
