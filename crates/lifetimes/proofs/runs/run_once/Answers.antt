-- The clauses of `run`.
use Rattle.lifetimes.proofs.runs.run_once.Goals as goal

pub returns : goal.returns
returns g c = record {
  asked = λ request asks first stood. c.run.ensures.moments request first stood asks;
  bad = λ bad. c.run.ensures.untouched (c.run.ensures.words.1 bad);
  course = c.run.ensures.course;
  reads = λ t tells low. g.met.H.Host.now_is_left c.run.new.host t tells low;
}
