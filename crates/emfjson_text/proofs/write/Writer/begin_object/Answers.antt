use Rattle.std.proofs.Common.{◌∷◌, [], arith, false}
use Rattle.emfjson_text.specs.declared.frame.Frame.TheVariants.{Object as ObjectFrame}
use Rattle.emfjson_text.proofs.Stacks.{writes_push}
use Rattle.emfjson_text.proofs.Listing.{opened}
use Rattle.emfjson_text.proofs.write.Writer.begin_object.Goals as goal

pub returns-in_ok-push-in-Some : goal.returns-in_ok-push-in-Some
returns-in_ok-push-in-Some g c =
    let meta = c.args.meta.now in
    let m = g.L.Look.state c.args.look.now in
    writes_push meta m _ (123 ∷ [])
    (ObjectFrame (record { id = c.args.id; class = c.in-Some.class; keys = c.in_ok-keys-in-Some.keys; next = 0; later = false })) _ _ _ _
    c.in_ok-push_str-in-Some.ensures.bytes (omega arith) c.in_ok-push-in-Some.ensures.items
    (opened meta m c.requires.nested c.args.id c.in-Some.class c.in_ok-keys-in-Some.keys c.in_ok-keys-in-Some.ensures c.in-Some.ensures)
