use Rattle.std.proofs.Common.{◌≤◌, sym, ap, subst, ◌∙◌, arith, length}
use Rattle.std.specs.Prelude.{slice_get}
use Rattle.model_texts.specs.Tree.{whole}
use Rattle.model_texts.specs.declared.key.Key.TheVariants.{Ident}
use Rattle.emfjson_text.proofs.Listing.{entry_at, key_absent, key_found, no_more}
use Rattle.emfjson_text.proofs.part.next_part.Goals as goal

pub returns-then-not-is_absent : goal.returns-then-not-is_absent
returns-then-not-is_absent g c =
    let meta = c.args.meta.now in
    let m = g.L.Look.state c.args.look.now in
    let o = c.args.object.now in
    let here = entry_at _ c.loop-at.at Ident c.loop-at-test.true ∙ ap (λ ks. slice_get ks c.loop-at.at) c.loop-at.invariant.keys in (
      c.loop-at.invariant.same ∙ key_found meta m o.id o.class o.keys c.loop-at.at _ here,
      c.in_ok-part.ensures (whole meta m),
      sym c.is_absent.ensures
          ∙ c.if-not-is_absent.true,
    )

pub loop-at-preserved : goal.loop-at-preserved
loop-at-preserved g c =
    let meta = c.args.meta.now in
    let m = g.L.Look.state c.args.look.now in
    let o = c.args.object.now in
    let here = entry_at _ c.loop-at.at Ident c.loop-at-test.true ∙ ap (λ ks. slice_get ks c.loop-at.at) c.loop-at.invariant.keys in
    record {
      keys = c.loop-at.invariant.keys;
      same = c.loop-at.invariant.same
          ∙ key_absent meta m o.id o.class o.keys c.loop-at.at _ c.in_ok-part.part here (c.in_ok-part.ensures (whole meta m))
          (sym c.is_absent.ensures ∙ c.if-not-is_absent.false);
    }

pub returns : goal.returns
returns g c =
    let meta = c.args.meta.now in
    let m = g.L.Look.state c.args.look.now in
    let o = c.args.object.now in
    c.loop-at.invariant.same ∙ no_more meta m o.id o.class o.keys c.loop-at.at (subst (λ ks. length ks ≤ c.loop-at.at) c.loop-at.invariant.keys (omega arith))
