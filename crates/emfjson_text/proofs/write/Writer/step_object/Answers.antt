use Rattle.std.proofs.Common.{List, ◌∷◌, [], ◌++◌, ap, subst, ◌∙◌, true}
use Rattle.std.specs.Prelude.{Some}
use Rattle.std.specs.String.{string_bytes}
use Rattle.emfjson_text.specs.Frames.{Finds, key_text}
use Rattle.model_texts.specs.Keys.{key_name}
use Rattle.emfjson_text.specs.declared.frame.Frame.{Frame}
use Rattle.emfjson_text.specs.declared.frame.Frame.TheVariants.{Object as ObjectFrame}
use Rattle.emfjson_text.proofs.Stacks.{writes_over}
use Rattle.emfjson_text.proofs.Listing.{key_some, member_begun}
use Rattle.emfjson_text.proofs.write.Writer.step_object.Goals as goal

pub returns-in_ok-push-in-Some : goal.returns-in_ok-push-in-Some
returns-in_ok-push-in-Some g c =
    let meta = c.args.meta.now in
    let m = g.L.Look.state c.args.look.now in
    let o = c.args.object in
    let found : Finds meta m o.id o.class o.keys o.next (Some c.in-Some.found) =
    subst (Finds meta m o.id o.class o.keys o.next) c.in-Some.is c.in_ok-next_part.ensures in
    writes_over meta m 1 0 c.write_part.result _ (key_text o.later (key_name meta c.in-Some.found.key)) _
    (ObjectFrame (record { id = o.id; class = o.class; keys = o.keys; next = c.in-Some.found.after; later = true })) _ _ _ _ _ _
    c.write_part.ensures (key_some o.later (key_name meta c.in-Some.found.key))
    (c.in_ok-write_key-in-Some.ensures.out ∙ ap (λ k. string_bytes c.args.self.now.out ++ key_text o.later k) c.key_name.ensures)
    (c.in_ok-push-in-Some.ensures.items
    ∙ ap (λ (l : List Frame). l
    ++ ObjectFrame (record { id = o.id; class = o.class; keys = o.keys; next = c.in-Some.found.after; later = true }) ∷ [])
    c.in_ok-write_key-in-Some.ensures.begun)
    (member_begun meta m o.id o.class o.keys o.next o.later c.in-Some.found found)
