use Rattle.script_items.proofs.Rounds.{edits_more}
use Rattle.script_items.proofs.generator.push_edits.Goals as goal

pub returns : goal.returns
returns c = edits_more c.args.items.now c.push_line.new.items c.push_line-2.new.items c.push_line-3.new.items _ _ _ c.args.seed c.args.k
    c.workspace_in-ws.result c.pages_in-pages.result
    c.workspace_in-ws.ensures.workspace c.pages_in-pages.ensures c.in_ok-create.ensures c.in_ok-title.ensures c.in_ok-number.ensures
    c.in_ok-push_line.ensures c.in_ok-push_line-2.ensures c.in_ok-push_line-3.ensures
