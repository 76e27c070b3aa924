-- what is found is the node of the slot
use Rattle.std.proofs.Common.{sym, ap, ◌∙◌}
use Rattle.std.specs.Prelude.{None, Some}
use Rattle.std.specs.Option.{option_map, option_copied}
use Rattle.std.specs.FinMap.{get}
use Rattle.nodes.specs.Tied.{named}
use Rattle.nodes.proofs.Named.{lookup-text}
use Rattle.nodes.proofs.Slots.{found}
use Rattle.nodes.proofs.arena.Nodes.find.Goals as goal

pub returns-in-Some-get : goal.returns-in-Some-get
returns-in-Some-get g c =
    let a = c.self.inside in
    let es = named a.ids.entries in
    let is = lookup-text a.ids.entries c.args.e.now c.as_str.result.now c.as_str.ensures.bytes _ c.get.ensures.value ∙ ap option_copied c.in-Some.is in
    let slot = sym c.get-in-Some.ensures ∙ ap option_copied c.in-Some-get.is in
    sym (ap (λ m. get m c.args.e.now) (sym c.self.view_is) ∙ found es a.slots c.args.e.now (Some c.in-Some.at.now) is ∙ ap (option_map (λ x. x.1)) slot)

pub returns-in-None-get : goal.returns-in-None-get
returns-in-None-get g c =
    let a = c.self.inside in
    let es = named a.ids.entries in
    let is = lookup-text a.ids.entries c.args.e.now c.as_str.result.now c.as_str.ensures.bytes _ c.get.ensures.value ∙ ap option_copied c.in-Some.is in
    let slot = sym c.get-in-Some.ensures ∙ ap option_copied c.in-None-get.is in
    sym (ap (λ m. get m c.args.e.now) (sym c.self.view_is) ∙ found es a.slots c.args.e.now (Some c.in-Some.at.now) is ∙ ap (option_map (λ x. x.1)) slot)

pub returns-in-None : goal.returns-in-None
returns-in-None g c =
    let a = c.self.inside in
    let es = named a.ids.entries in
    let is = lookup-text a.ids.entries c.args.e.now c.as_str.result.now c.as_str.ensures.bytes _ c.get.ensures.value ∙ ap option_copied c.in-None.is in
    sym (ap (λ m. get m c.args.e.now) (sym c.self.view_is) ∙ found es a.slots c.args.e.now None is)
