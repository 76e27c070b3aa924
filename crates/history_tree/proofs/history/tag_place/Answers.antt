use Rattle.std.proofs.Common.{◌≡◌, ◌∙◌, sym}
use Rattle.std.specs.Prelude.{None, Some}
use Rattle.std.specs.List.{position}
use Rattle.history_tree.specs.declared.version.Tag.{Tag}
use Rattle.history_tree.proofs.Named.{among_first, among_later, is_named, place_below}
use Rattle.history_tree.proofs.history.tag_place.Goals as goal

found : (c : goal.In-Some) → Some c.in-Some.number ≡ position (is_named (λ (x : Tag). x.name) c.args.name.now) c.args.tags.now
found c = among_first (λ (x : Tag). x.name) c.args.name.now c.args.tags.now c.args.index.now.entered c.requires.0 c.in-Some.number
    (c.in-Some.ensures ∙ c.requires.1 c.args.name.now)

pub returns-in-Some-clause-place : goal.returns-in-Some-clause-place
returns-in-Some-clause-place c = found c

pub returns-in-Some-clause-there : goal.returns-in-Some-clause-there
returns-in-Some-clause-there c = place_below (λ (x : Tag). x.name) c.args.name.now c.args.tags.now c.in-Some.number (found c)

pub returns-in-None-clause-place : goal.returns-in-None-clause-place
returns-in-None-clause-place c =
    among_later (λ (x : Tag). x.name) c.args.name.now c.args.tags.now c.args.index.now.entered c.requires.0 None
    (sym c.in_default.is ∙ c.number.ensures ∙ c.requires.1 c.args.name.now) c.in-None.ensures.place

pub returns-in-Some-tag_among-clause-place : goal.returns-in-Some-tag_among-clause-place
returns-in-Some-tag_among-clause-place c =
    among_later (λ (x : Tag). x.name) c.args.name.now c.args.tags.now c.args.index.now.entered c.requires.0 (Some c.in-Some-tag_among.later)
    (sym c.in_default.is ∙ c.number.ensures ∙ c.requires.1 c.args.name.now) c.in-Some-tag_among.ensures.place
