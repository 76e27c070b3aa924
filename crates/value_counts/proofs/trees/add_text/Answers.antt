use Rattle.std.proofs.Common.{◌≡◌, ◌+◌, ◌∙◌, Some, sym, ap}
use Rattle.std.specs.BTreeMap.{get_by_text}
use Rattle.std.specs.Str.{bytes_eq}
use Rattle.std.proofs.lemmas.Map.Text.{btree_map_updates_text}
use Rattle.finite_maps.proofs.EqualLaws.{text_equality}
use Rattle.value_counts.proofs.TreeLaws.{counted_more}
use Rattle.value_counts.proofs.trees.add_text.Goals as goal

pub returns-clause-ok : goal.returns-clause-ok
returns-clause-ok c =
    counted_more bytes_eq text_equality (get_by_text c.args.tree.now) (get_by_text c.insert.new.self) c.args.text.now _ (Some c.in_ok-more.more)
    c.in_ok-key.ensures.ok
    (btree_map_updates_text _ c.args.tree.now c.insert.new.self (Some c.in_ok-more.more) c.in_ok-insert.ensures.updates)
    (c.in_ok-more.ensures ∙ ap (λ n. n + 1) c.text_count.ensures)
