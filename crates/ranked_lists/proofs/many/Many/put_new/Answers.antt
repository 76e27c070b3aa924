-- a new element, in the table and in the set
use Rattle.std.proofs.Common.{cond, sym, ap, subst, ◌∙◌}
use Rattle.std.specs.Prelude.{None, Some}
use Rattle.std.specs.Map.{lookup}
use Rattle.std.specs.FinMap.{get}
use Rattle.finite_maps.specs.Equal.{text_eq}
use Rattle.finite_maps.specs.Maps.{set}
use Rattle.finite_maps.proofs.MapLaws.{set_back}
use Rattle.model_state.specs.declared.entry.Entry.{Entry}
use Rattle.model_state.proofs.Orders.{id_order}
use Rattle.ranked_lists.specs.Ranked.{rank_map, named, entry_with, AreRanked, IsTableOf}
use Rattle.ranked_lists.proofs.Keyed.{updates-text, table_set, set_came}
use Rattle.ranked_lists.proofs.many.Many.put_new.Goals as goal

pub invariant_of-self-in-Ok : goal.invariant_of-self-in-Ok
invariant_of-self-in-Ok c =
    let a = c.self.inside in
    let e = c.args.e in
    let rank = c.args.rank in
    let keys = a.by_rank.keys in
    let es = named a.by_id.entries in
    let none = ap (λ m. get m e) c.self.view_is ∙ c.requires in
    let after = set_came keys c.self.invariant.0 e c.insert-2.new.self.keys rank none c.in-Ok.ensures.keys c.insert-2.ensures.ordered in (
      after.0,
      subst (IsTableOf (named c.insert.new.self.entries)) (sym after.1)
          (table_set es (named c.insert.new.self.entries) (rank_map keys) e (Some rank) c.self.invariant.1
          (λ q. updates-text a.by_id c.insert.new.self e _ (c.in_ok-text.ensures.ok ∙ c.as_str.ensures.bytes) _ c.in_ok-insert.ensures.updates q
          ∙ ap (λ z. cond (text_eq e q) (Some (entry_with z rank)) (lookup (text_eq q) es)) c.in_ok-id.ensures)),
    )

pub invariant_of-self-in-Err : goal.invariant_of-self-in-Err
invariant_of-self-in-Err c =
    let a = c.self.inside in
    let e = c.args.e in
    let rank = c.args.rank in
    let keys = a.by_rank.keys in
    let m = rank_map keys in
    let es = named a.by_id.entries in
    let fs = named c.insert.new.self.entries in
    let gs = named c.swap_remove.new.self.entries in
    let none = ap (λ m. get m e) c.self.view_is ∙ c.requires in
    let still = c.in-Err.ensures.err in
    let wrote = table_set es fs m e (Some rank) c.self.invariant.1
    (λ q. updates-text a.by_id c.insert.new.self e _ (c.in_ok-text.ensures.ok ∙ c.as_str.ensures.bytes) _ c.in_ok-insert.ensures.updates q
    ∙ ap (λ z. cond (text_eq e q) (Some (entry_with z rank)) (lookup (text_eq q) es)) c.in_ok-id.ensures) in
    let text = c.as_str-in-Err.ensures.bytes ∙ ap (λ (x : Entry). x.id) c.in-Err.ensures.value_returned in
    let back = table_set fs gs (set m e (Some rank)) e None wrote
    (updates-text c.insert.new.self c.swap_remove.new.self e c.as_str-in-Err.result.now text None c.swap_remove.ensures.updates) in
    let same = set_back id_order m e None (Some rank) none in
    (subst AreRanked (sym still) c.self.invariant.0, subst (IsTableOf gs) (same ∙ ap rank_map (sym still)) back)

pub returns-in-Ok-clause-ok : goal.returns-in-Ok-clause-ok
returns-in-Ok-clause-ok c =
    let a = c.self.inside in
    let e = c.args.e in
    let none = ap (λ m. get m e) c.self.view_is ∙ c.requires in
    let after = set_came a.by_rank.keys c.self.invariant.0 e c.insert-2.new.self.keys c.args.rank none c.in-Ok.ensures.keys c.insert-2.ensures.ordered in
    after.1 ∙ ap (λ m. set m e (Some c.args.rank)) c.self.view_is
