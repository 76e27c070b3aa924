use Rattle.std.proofs.Common.{◌∙◌, refl}
use Rattle.std.proofs.lemmas.Map.Text.{btree_map_updates_str}
use Rattle.ecore_meta.specs.Names.{place_in}
use Rattle.ecore_meta.proofs.IndexLaws.{entered_new, entered_there}
use Rattle.ecore_drafts.proofs.classifiers.place.Goals as goal

pub returns-then-contains_key : goal.returns-then-contains_key
returns-then-contains_key c = λ q. entered_there (place_in c.args.index.now) c.args.name.now q c.args.at c.if-contains_key.ensures

pub returns : goal.returns
returns c = λ q.
    btree_map_updates_str _ c.args.index.now c.insert.new.self _ c.in_ok-insert.ensures.updates q
    ∙ entered_new (place_in c.args.index.now) c.args.name.now q _ c.args.at refl c.if-contains_key.ensures
