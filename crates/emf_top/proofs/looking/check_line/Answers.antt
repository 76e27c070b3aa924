use Rattle.emf_top.proofs.Texts.{check_text}
use Rattle.emf_top.proofs.looking.check_line.Goals as goal

pub returns : goal.returns
returns c = λ few. check_text c.args.session.now.state c.counts-counts.result c.counts-counts.ensures few _ _ _ _ _ _ _
    c.new-line.ensures.bytes c.in_ok-push_count.ensures c.in_ok-push_count-2.ensures c.in_ok-push_count-3.ensures c.in_ok-push_count-4.ensures
    c.in_ok-push_count-5.ensures c.in_ok-push_str.ensures.bytes
