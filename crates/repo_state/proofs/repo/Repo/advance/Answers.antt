-- What is known of the event of operations once all of them were taken, or one could not be.
use Rattle.std.proofs.Common.{◌≡◌, List, None, Some, subst}
use Rattle.model_state.specs.declared.operation.Operation.{Operation}
use Rattle.model_state.specs.Packages.{fold_package}
use Rattle.repo_state.specs.declared.fault.PlayFault.TheVariants.{NotPlayable}
use Rattle.repo_state.proofs.Effects.{begun_is}
use Rattle.repo_state.proofs.Taking.{model_good, taken_cannot, taken_could, taken_lead, taker}
use Rattle.repo_state.proofs.repo.Repo.advance.Goals as goal

pub take_all-requires : goal.take_all-requires
take_all-requires c =
    let s = c.args.self.now in
    let meta = c.in-Some.begun.meta in
    let begun = begun_is c.self.inside.begun c.in-Some.begun _ c.self.inside.events c.self.inside.end s c.self.view_is c.in-Some.is in
    record {
      good = model_good s meta c.args.ws c.args.package.now begun (taker s meta c.args.ws c.args.package.now begun c.requires.takes) c.args.model.now
          c.requires.model;
    }

pub returns-in-Ok-clause-could : goal.returns-in-Ok-clause-could
returns-in-Ok-clause-could c =
    let s = c.args.self.now in
    let meta = c.in-Some.begun.meta in
    let begun = begun_is c.self.inside.begun c.in-Some.begun _ c.self.inside.events c.self.inside.end s c.self.view_is c.in-Some.is in
    let os = c.args.package.now in
    let t = taker s meta c.args.ws os begun c.requires.takes in
    λ all. taken_could s meta c.args.ws os begun t c.args.model.now c.requires.model c.take_all.new.model
    (subst (λ (l : List Operation). fold_package meta c.args.model.now l ≡ Some c.take_all.new.model) c.as_slice.ensures
    (c.in-Ok.ensures.done all))

pub returns-in-Ok-clause-leads : goal.returns-in-Ok-clause-leads
returns-in-Ok-clause-leads c =
    let s = c.args.self.now in
    let meta = c.in-Some.begun.meta in
    let begun = begun_is c.self.inside.begun c.in-Some.begun _ c.self.inside.events c.self.inside.end s c.self.view_is c.in-Some.is in
    let os = c.args.package.now in
    let t = taker s meta c.args.ws os begun c.requires.takes in
    λ all. taken_lead s meta c.args.ws os begun t c.args.model.now c.requires.model c.take_all.new.model
    (subst (λ (l : List Operation). fold_package meta c.args.model.now l ≡ Some c.take_all.new.model) c.as_slice.ensures
    (c.in-Ok.ensures.done all)) c.in-Ok.ensures.good

pub returns-in-Ok-clause-cannot : goal.returns-in-Ok-clause-cannot
returns-in-Ok-clause-cannot c =
    let s = c.args.self.now in
    let meta = c.in-Some.begun.meta in
    let begun = begun_is c.self.inside.begun c.in-Some.begun _ c.self.inside.events c.self.inside.end s c.self.view_is c.in-Some.is in
    let os = c.args.package.now in
    let t = taker s meta c.args.ws os begun c.requires.takes in
    λ none. taken_cannot s meta c.args.ws os begun t c.args.model.now c.requires.model
    (subst (λ (l : List Operation). fold_package meta c.args.model.now l ≡ None) c.as_slice.ensures (c.in-Ok.ensures.cannot none))

pub returns-in-Ok-clause-same : goal.returns-in-Ok-clause-same
returns-in-Ok-clause-same c = c.in-Ok.ensures.same

pub returns-in-Err-clause-fault : goal.returns-in-Err-clause-fault
returns-in-Err-clause-fault c =
    let s = c.args.self.now in
    let meta = c.in-Some.begun.meta in
    let begun = begun_is c.self.inside.begun c.in-Some.begun _ c.self.inside.events c.self.inside.end s c.self.view_is c.in-Some.is in
    let t = taker s meta c.args.ws c.args.package.now begun c.requires.takes in
    λ is. let same : c.package_fault.result ≡ NotPlayable = cc in
    taken_cannot s meta c.args.ws c.args.package.now begun t c.args.model.now c.requires.model
    (subst (λ (os : List Operation). fold_package meta c.args.model.now os ≡ None) c.as_slice.ensures
    (c.in-Err.ensures.fault (c.package_fault.ensures.other same)))
