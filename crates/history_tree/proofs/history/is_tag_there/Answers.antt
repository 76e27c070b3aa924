use Rattle.std.proofs.Common.{◌∙◌, ap}
use Rattle.std.specs.Prelude.{is_some}
use Rattle.history_tree.specs.Found.{is_tag_named}
use Rattle.history_tree.proofs.Named.{any_by_place}
use Rattle.history_tree.proofs.history.is_tag_there.Goals as goal

pub returns : goal.returns
returns c = c.is_some.ensures ∙ ap is_some c.tag_place.ensures.place ∙ any_by_place (is_tag_named c.args.name.now) c.args.tags.now
