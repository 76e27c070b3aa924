use Rattle.std.proofs.Common.{refl}
use Rattle.history_tree.proofs.Tagged.{put_name}
use Rattle.history_tree.proofs.history.put_name.Goals as goal

pub returns-clause-names : goal.returns-clause-names
returns-clause-names c =
    put_name c.args.lists.now.items _ c.args.at c.args.name c.index_mut.result.now c.push.new.self c.requires c.index_mut.ensures.value
    c.in_ok-push.ensures.ok refl
