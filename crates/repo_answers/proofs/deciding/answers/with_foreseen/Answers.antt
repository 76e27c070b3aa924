use Rattle.repo_answers.proofs.deciding.answers.with_foreseen.Goals as goal

pub returns-in-Err-clause-decision : goal.returns-in-Err-clause-decision
returns-in-Err-clause-decision c = c.refuse_or_fail.ensures.decision _ (c.in-Err.ensures.refused c.args.lines c.args.words)
