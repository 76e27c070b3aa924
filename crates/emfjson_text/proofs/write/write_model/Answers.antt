use Rattle.std.proofs.Common.{◌≡◌, ◌++◌, sym, ap, ap₂, subst, ◌∙◌, true, append-nil, map, List, ℕ, IfOk}
use Rattle.std.specs.String.{string_bytes}
use Rattle.serde_json.specs.Written.{compact_text}
use Rattle.emfjson_text.specs.Frames.{stack_text}
use Rattle.model_texts.specs.Tree.{entry_ids, one_or_list, text, whole}
use Rattle.model_texts.proofs.Nested.{text_is_whole}
use Rattle.emfjson_text.proofs.Stacks.{all_written, step_all, step_less}
use Rattle.emfjson_text.proofs.write.write_model.Goals as goal

pub begin_list-requires : goal.begin_list-requires
begin_list-requires g c = record { nested = text_is_whole c.args.meta.now (g.L.Look.state c.args.look.now) c.requires.good }

pub loop-frame-init : goal.loop-frame-init
unfolding stack_text
loop-frame-init g c =
    let meta = c.args.meta.now in
    let m = g.L.Look.state c.args.look.now in
    record {
      nested = text_is_whole meta m c.requires.good;
      all = c.in_ok-begin_list.ensures.all
          ∙ ap₂ (λ out stack. out
          ++ (compact_text (one_or_list true (map (whole meta m) (entry_ids c.in_ok-roots.roots))) ++ stack_text meta m stack))
          c.new-writer.ensures.out c.new-writer.ensures.begun
          ∙ append-nil _ ∙ ap (λ roots. compact_text (one_or_list true (map (whole meta m) (entry_ids roots)))) c.in_ok-roots.ensures;
    }

pub loop-frame-smaller : goal.loop-frame-smaller
loop-frame-smaller g c =
    let meta = c.args.meta.now in
    let m = g.L.Look.state c.args.look.now in
    step_less meta m c.in-Some.frame _ _ _ _ _ c.in_ok-step.ensures c.in-Some.ensures.items

pub loop-frame-preserved : goal.loop-frame-preserved
loop-frame-preserved g c =
    let meta = c.args.meta.now in
    let m = g.L.Look.state c.args.look.now in
    record {
      nested = c.loop-frame.invariant.nested;
      all = step_all meta m c.in-Some.frame _ _ _ _ _ _ c.in_ok-step.ensures c.in-Some.ensures.items c.loop-frame.invariant.all;
    }

pub returns : goal.returns
unfolding stack_text
returns g c =
    let meta = c.args.meta.now in
    let m = g.L.Look.state c.args.look.now in
    let all : IfOk c.new.result (λ (t : List ℕ). t ≡ text meta m) = subst (λ (s : List ℕ). IfOk c.new.result (λ (t : List ℕ). t ≡ s))
    (c.as_str.ensures.value
    ∙ all_written meta m c.loop-frame.writer.begun.items (string_bytes c.loop-frame.writer.out) (text meta m)
    (sym c.loop-frame.writer.begun.ok.0 ∙ c.in_default.ensures.cases.0) c.loop-frame.invariant.all)
    c.new.ensures in
    record { text = all }
