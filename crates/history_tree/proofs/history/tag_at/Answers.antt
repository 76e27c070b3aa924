use Rattle.std.proofs.Common.{◌∙◌, sym, ap, refl, length}
use Rattle.std.specs.Prelude.{slice_get}
use Rattle.std.specs.Option.{option_and_then}
use Rattle.std.proofs.lemmas.Option.{slice_get_read}
use Rattle.history_tree.specs.Found.{is_tag_named}
use Rattle.history_tree.proofs.Named.{find_by_place}
use Rattle.history_tree.proofs.history.tag_at.Goals as goal

pub returns-in-None : goal.returns-in-None
returns-in-None c = ap (option_and_then (slice_get c.args.tags.now)) c.in-None.ensures.place ∙ find_by_place (is_tag_named c.args.name.now) c.args.tags.now

pub returns-in-Some : goal.returns-in-Some
returns-in-Some c =
    let tags = c.args.tags.now in
    sym (slice_get_read tags (length tags) c.in-Some.place c.index-tags-place.result refl c.in-Some.ensures.there c.index-tags-place.is)
    ∙ ap (option_and_then (slice_get tags)) c.in-Some.ensures.place
    ∙ find_by_place (is_tag_named c.args.name.now) tags
