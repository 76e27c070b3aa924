use Rattle.script_items.proofs.Rounds.{four_more}
use Rattle.script_items.proofs.generator.push_exchange.Goals as goal

pub returns : goal.returns
returns c = four_more c.args.items.now c.push.new.items c.push_numbered.new.items c.push-2.new.items c.push_numbered-2.new.items _ _ _ _
    c.in_ok-push.ensures c.in_ok-push_numbered.ensures c.in_ok-push-2.ensures c.in_ok-push_numbered-2.ensures
