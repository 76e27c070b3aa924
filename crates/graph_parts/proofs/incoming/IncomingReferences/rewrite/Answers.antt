-- the rank is written where there is one
use Rattle.std.proofs.Common.{refl, sym, ap, subst, ◌∙◌}
use Rattle.std.specs.Prelude.{Some, IsSome, is_some}
use Rattle.std.specs.Option.{option_copied_mut}
use Rattle.std.specs.FinMap.{get}
use Rattle.finite_maps.specs.Maps.{set}
use Rattle.finite_maps.specs.Tables.{table}
use Rattle.finite_maps.proofs.Cases.{true_false}
use Rattle.finite_maps.proofs.TableLaws.{table_updates, get-table}
use Rattle.model_state.specs.Keys.{attr_cmp}
use Rattle.model_state.proofs.Orders.{attr_order}
use Rattle.graph_parts.proofs.incoming.IncomingReferences.rewrite.Goals as goal
use Rattle.graph_parts.proofs.incoming.IncomingReferences.rewrite.Goals.{in-Some, in_default}

pub returns : goal.returns
returns c =
    elim c.match-get_mut.branch [
      | in-Some w ↦
          let wrote = (c.get_mut.follows.holds c.args.rank).3 (subst (λ o. IsSome o) w.in-Some.ensures.value refl) in
          ap (λ s. table attr_cmp s.tree) w.self-inside-is
          ∙ table_updates attr_order c.self.inside.tree (c.get_mut.follows.lender c.args.rank) c.args.key.now (Some c.args.rank) wrote.0
          ∙ ap (λ m. set m c.args.key.now (Some c.args.rank)) c.self.view_is
      | in_default w ↦
          let none = sym c.get_mut.ensures.value ∙ ap option_copied_mut w.in_default.is in
          absurd (true_false (is_some (get c.args.self.now c.args.key.now)) c.requires
          (ap (λ m. is_some (get m c.args.key.now)) (sym c.self.view_is) ∙ ap is_some (get-table attr_order c.self.inside.tree c.args.key.now ∙ none)))
    ]
