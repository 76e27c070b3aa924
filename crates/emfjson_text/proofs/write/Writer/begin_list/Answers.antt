use Rattle.std.proofs.Common.{◌∷◌, [], ap, ◌∙◌, arith}
use Rattle.serde_json.specs.Written.{compact_text}
use Rattle.emfjson_text.specs.Frames.{only}
use Rattle.model_texts.specs.Tree.{whole}
use Rattle.emfjson_text.specs.declared.frame.Frame.TheVariants.{Array as ArrayFrame}
use Rattle.emfjson_text.proofs.Stacks.{writes_push}
use Rattle.emfjson_text.proofs.Listing.{not_one}
use Rattle.emfjson_text.proofs.write.Writer.begin_list.Goals as goal

pub returns-in_ok-push-in-None : goal.returns-in_ok-push-in-None
returns-in_ok-push-in-None g c =
    let meta = c.args.meta.now in
    let m = g.L.Look.state c.args.look.now in
    writes_push meta m _ (91 ∷ []) (ArrayFrame c.args.entries 0) _ _ _ _ c.in_ok-push_str-in-None.ensures.bytes (omega arith) c.in_ok-push-in-None.ensures.items
    (ap compact_text (not_one (whole meta m) c.args.single c.args.entries (c.in-None.ensures ∙ ap (only c.args.single) c.as_slice.ensures)))
