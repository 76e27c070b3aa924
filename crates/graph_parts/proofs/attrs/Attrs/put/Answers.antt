use Rattle.std.proofs.Common.{ℕ, List, nat_eq, sym, ap, ◌∙◌}
use Rattle.std.specs.Prelude.{Some, position}
use Rattle.std.proofs.lemmas.Result.{on_ok_weaker, on_err_weaker}
use Rattle.finite_maps.specs.Maps.{set}
use Rattle.ecore_meta.specs.declared.meta.Value.{Value}
use Rattle.graph_parts.specs.Parts.{flat}
use Rattle.graph_parts.proofs.attrs.Attrs.put.Goals as goal

pub add-requires : goal.add-requires
add-requires c =
    ap (position (λ (e : ℕ × List Value). nat_eq e.0 c.args.f)) (sym c.as_slice.ensures.value) ∙ sym c.index_of.ensures ∙ c.in-None.is

pub write_at-requires : goal.write_at-requires
write_at-requires c =
    ap (position (λ (e : ℕ × List Value). nat_eq e.0 c.args.f)) (sym c.as_slice.ensures.value) ∙ sym c.index_of.ensures ∙ c.in-Some.is

pub returns-in-None-clause-ok : goal.returns-in-None-clause-ok
returns-in-None-clause-ok c =
    on_ok_weaker c.add.result (λ is. is ∙ (λ i. set (c.self.view_is i) c.args.f (Some (c.from_list.ensures i)))) c.add.ensures.ok

pub returns-in-None-clause-err : goal.returns-in-None-clause-err
returns-in-None-clause-err c = on_err_weaker c.add.result (λ is. ap flat is ∙ c.self.view_is) c.add.ensures.err

pub returns-in-Some-clause-ok : goal.returns-in-Some-clause-ok
returns-in-Some-clause-ok c = c.write_at.ensures ∙ ap (λ m. set m c.args.f (Some c.args.values)) c.self.view_is
