use Rattle.emf_top.proofs.Texts.{outcome_text}
use Rattle.emf_top.proofs.filling.outcome_line.Goals as goal

pub returns-clause-line : goal.returns-clause-line
returns-clause-line c =
    outcome_text c.args.session.now.state c.args.accepted c.args.refused c.counts-versions.result.versions c.in_ok-elements.elements
    c.counts-versions.ensures.versions c.in_ok-elements.ensures.elements _ _ _ _ _ _
    c.new-line.ensures.bytes c.in_ok-push_count.ensures c.in_ok-push_count-2.ensures c.in_ok-push_count-3.ensures c.in_ok-push_count-4.ensures
    c.in_ok-push_str.ensures.bytes
