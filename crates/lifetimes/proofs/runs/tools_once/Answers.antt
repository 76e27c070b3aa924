-- The clauses of `tools`.
use Rattle.lifetimes.proofs.runs.tools_once.Goals as goal

pub returns : goal.returns
returns g c = record {
  asked = λ tool asks first stood. c.tools.ensures.moments tool first stood asks;
  replay = λ asks. (c.tools.ensures.replay asks).moments;
  bad = c.tools.ensures.unasked;
  course = c.tools.ensures.course;
  reads = λ t tells low. g.met.H.Host.now_is_left c.tools.new.host t tells low;
}
