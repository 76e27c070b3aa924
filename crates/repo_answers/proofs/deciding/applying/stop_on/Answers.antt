use Rattle.repo_answers.proofs.Applied.{model_good, stops_by}
use Rattle.repo_answers.proofs.deciding.applying.stop_on.Goals as goal

pub stop_in-requires : goal.stop_in-requires
stop_in-requires c = record {
  good = model_good c.args.repo.now c.args._ws c.in-Some.begun.now.meta c.args.model.now c.in-Some.ensures.meta c.requires.there c.requires.model;
}

pub returns-clause-stop : goal.returns-clause-stop
returns-clause-stop c =
    stops_by c.args.repo.now c.args._ws c.in-Some.begun.now.meta c.args.model.now c.args.«package».now c.as_slice.result.now c.stop_in.result
    c.in-Some.ensures.meta c.requires.model c.as_slice.ensures c.stop_in.ensures.stop
