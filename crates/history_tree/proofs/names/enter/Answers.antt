use Rattle.std.proofs.lemmas.Map.Text.{btree_map_updates_text}
use Rattle.std.proofs.Common.{◌∙◌}
use Rattle.std.specs.BTreeMap.{get_by_text}
use Rattle.ecore_meta.proofs.IndexLaws.{entered_new, entered_there}
use Rattle.history_tree.proofs.names.enter.Goals as goal

pub returns-then-contains_key : goal.returns-then-contains_key
returns-then-contains_key c = record {
  numbers = λ q. entered_there (get_by_text c.args.numbers.now) c.args.name.now q c.args.number c.if-contains_key.ensures;
  same = tt;
}

pub returns : goal.returns
returns c = record {
  numbers = λ q.
      btree_map_updates_text _ c.args.numbers.now c.insert.new.self _ c.in_ok-insert.ensures.updates q
      ∙ entered_new (get_by_text c.args.numbers.now) c.args.name.now q _ c.args.number c.in_ok-key.ensures.ok c.if-contains_key.ensures;
  same = tt;
}
