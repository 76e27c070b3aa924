use Rattle.std.proofs.Common.{ℕ, ◌+◌, ◌≤◌, ◌∷◌, [], ◌++◌, List, length, sym, ap, subst, ◌∙◌, arith, nat_lt, append-nil}
use Rattle.std.specs.String.{string_bytes}
use Rattle.serde_json.specs.Written.{comma_if, compact_text}
use Rattle.emfjson_text.specs.Frames.{frame_text}
use Rattle.model_texts.specs.Tree.{whole}
use Rattle.emfjson_text.specs.declared.frame.Frame.{Frame}
use Rattle.emfjson_text.specs.declared.frame.Frame.TheVariants.{Array as ArrayFrame}
use Rattle.emfjson_text.proofs.Stacks.{writes_all, writes_over}
use Rattle.emfjson_text.proofs.Listing.{below_length, comma_no, comma_yes, item_begun, items_ended}
use Rattle.emfjson_text.proofs.write.Writer.step_array.Goals as goal
use Rattle.emfjson_text.proofs.write.Writer.step_array.Goals.{then-next-gt0+in_ok-push_str-2, else-next-gt0}

pub returns-in_default : goal.returns-in_default
returns-in_default g c =
    let meta = c.args.meta.now in
    let m = g.L.Look.state c.args.look.now in
    let ended = items_ended meta m c.args.entries c.args.next c.in_default.ensures in
    writes_all meta m 1 _ _ _ _ (c.in_ok-push_str.ensures.bytes ∙ ap (λ t. string_bytes c.args.self.now.out ++ t) (sym ended))
    (subst (λ (t : List ℕ). 1 ≤ length t) (sym ended) (omega arith))

pub overflow_add-next : goal.overflow_add-next
overflow_add-next g c =
    let less = below_length c.args.entries c.args.next c.in-Some.entry.now c.in-Some.ensures in
    let same = ap length c.entries.view_is in
    let ok = c.entries.inside.items.ok in
    let small = c.entries.inside.items.small in
    omega (arith, less, same, ok.0, ok.1, small)

pub returns : goal.returns
returns g c =
    let meta = c.args.meta.now in
    let m = g.L.Look.state c.args.look.now in
    let next = c.args.next in
    let self = c.args.self.now in
    writes_over meta m 1 1 c.begin_object.result _ (comma_if (nat_lt 0 next)) _
    (ArrayFrame c.args.entries (next + 1)) _ _ _ _ _ _ c.begin_object.ensures (omega arith)
    (elim c.if-next-gt0.branch [
      | then-next-gt0+in_ok-push_str-2 w ↦ ap (λ v. string_bytes v.out) w.self-is ∙ w.in_ok-push_str-2.ensures.bytes
          ∙ ap (λ t. string_bytes self.out ++ t) (sym (comma_yes next w.if-next-gt0.true))
      | else-next-gt0 w ↦ ap (λ v. string_bytes v.out) w.self-is ∙ sym (append-nil _)
          ∙ ap (λ t. string_bytes self.out ++ t) (sym (comma_no next w.if-next-gt0.false))
    ])
    (c.in_ok-push.ensures.items ∙ ap (λ (l : List Frame). l ++ ArrayFrame c.args.entries (next + 1) ∷ []) (elim c.if-next-gt0.branch [
      | then-next-gt0+in_ok-push_str-2 w ↦ ap (λ v. v.begun.items) w.self-is
      | else-next-gt0 w ↦ ap (λ v. v.begun.items) w.self-is
    ]))
    (item_begun meta m c.args.entries next c.in-Some.entry.now c.in-Some.ensures
    ∙ ap (λ x. comma_if (nat_lt 0 next) ++ (compact_text (whole meta m x) ++ frame_text meta m (ArrayFrame c.args.entries (next + 1))))
    (sym c.in_ok-id.ensures))
