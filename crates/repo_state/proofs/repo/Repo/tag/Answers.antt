use Rattle.std.proofs.Common.{subst}
use Rattle.op_form.specs.declared.event.Event.TheVariants.{Tag}
use Rattle.plain_repository.specs.Orderly.{IsOrderly}
use Rattle.repo_state.proofs.Effects.{begun_is, either, either_orderly, history_is, on_err, on_ok}
use Rattle.repo_state.proofs.Grown.{same_fit, tag_done, tag_fit, tag_new, tag_same, tag_version}
use Rattle.repo_state.proofs.repo.Repo.tag.Goals as goal

pub tag-requires-clause-new : goal.tag-requires-clause-new
tag-requires-clause-new c =
    let s = c.args.self.now in
    let begun = c.in-Some.begun in
    let is_begun = begun_is c.self.inside.begun begun _ c.self.inside.events c.self.inside.end s c.self.view_is c.in-Some.is in
    tag_new s begun.meta begun.history.history c.args.name c.args.version is_begun
    (history_is c.self.inside.begun begun _ c.self.inside.events c.self.inside.end s c.self.view_is c.in-Some.is) c.requires.could

pub tag-requires-clause-version : goal.tag-requires-clause-version
tag-requires-clause-version c =
    let s = c.args.self.now in
    let begun = c.in-Some.begun in
    let is_begun = begun_is c.self.inside.begun begun _ c.self.inside.events c.self.inside.end s c.self.view_is c.in-Some.is in
    tag_version s begun.meta begun.history.history c.args.name c.args.version is_begun
    (history_is c.self.inside.begun begun _ c.self.inside.events c.self.inside.end s c.self.view_is c.in-Some.is) c.requires.could

pub invariant_of-self : goal.invariant_of-self
invariant_of-self c =
    let s = c.args.self.now in
    let begun = c.in-Some.begun in
    let is_begun = begun_is c.self.inside.begun begun _ c.self.inside.events c.self.inside.end s c.self.view_is c.in-Some.is in
    let new = c.tag.new.self in
    let orderly = subst IsOrderly c.self.view_is c.self.invariant.2 in
    let r = c.tag.result in
    let done = on_ok r (tag_done c.self.inside.begun begun new c.self.inside.workspaces.items c.self.inside.events c.self.inside.end s c.self.view_is
    c.in-Some.is c.tag.ensures.meta c.tag.ensures.upgraded orderly c.self.invariant.1 c.args.name c.args.version) c.tag.ensures.tag in
    let same = on_err r (tag_same c.self.inside.begun begun new c.self.inside.workspaces.items c.self.inside.events c.self.inside.end s c.self.view_is
    c.in-Some.is c.tag.ensures.meta c.tag.ensures.upgraded orderly c.self.invariant.1) c.tag.ensures.same in (
      c.self.invariant.0,
      either r c.tag.ensures.tag c.tag.ensures.same
          (tag_fit c.self.inside.begun begun new c.self.inside.workspaces.items c.self.inside.events c.self.inside.end s c.self.view_is c.in-Some.is
          c.tag.ensures.meta c.tag.ensures.upgraded orderly c.self.invariant.1 c.args.name c.args.version)
          (same_fit c.self.inside.begun begun new c.self.inside.workspaces.items c.self.inside.events c.self.inside.end s c.self.view_is c.in-Some.is
          c.tag.ensures.meta c.tag.ensures.upgraded orderly c.self.invariant.1),
      either_orderly r s _ begun.meta (Tag c.args.name c.args.version) is_begun c.requires.could c.requires.spelled orderly done same,
      c.self.invariant.3,
      c.self.invariant.4,
    )

pub returns : goal.returns
returns c =
    let s = c.args.self.now in
    let begun = c.in-Some.begun in
    let is_begun = begun_is c.self.inside.begun begun _ c.self.inside.events c.self.inside.end s c.self.view_is c.in-Some.is in
    let new = c.tag.new.self in
    let orderly = subst IsOrderly c.self.view_is c.self.invariant.2 in
    let r = c.tag.result in
    let done = on_ok r (tag_done c.self.inside.begun begun new c.self.inside.workspaces.items c.self.inside.events c.self.inside.end s c.self.view_is
    c.in-Some.is c.tag.ensures.meta c.tag.ensures.upgraded orderly c.self.invariant.1 c.args.name c.args.version) c.tag.ensures.tag in
    let same = on_err r (tag_same c.self.inside.begun begun new c.self.inside.workspaces.items c.self.inside.events c.self.inside.end s c.self.view_is
    c.in-Some.is c.tag.ensures.meta c.tag.ensures.upgraded orderly c.self.invariant.1) c.tag.ensures.same in
    record { done = done; same = same }
