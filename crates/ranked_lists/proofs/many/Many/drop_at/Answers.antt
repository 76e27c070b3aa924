-- an element taken out of the table and of the set
use Rattle.std.proofs.Common.{sym, ap, subst, ◌∙◌}
use Rattle.std.specs.Prelude.{None}
use Rattle.std.specs.BTreeMap.{is_at}
use Rattle.std.specs.Set.{remove_key}
use Rattle.finite_maps.specs.Maps.{set}
use Rattle.finite_maps.proofs.MapLaws.{set_here}
use Rattle.model_state.specs.declared.entry.Entry.{Entry}
use Rattle.model_state.specs.Listing.{entry_cmp}
use Rattle.model_state.proofs.Orders.{id_order}
use Rattle.ranked_lists.specs.Ranked.{rank_map, named, IsTableOf}
use Rattle.ranked_lists.proofs.Keyed.{lookup-text, updates-text, table_rank, table_entry, table_set, set_went}
use Rattle.ranked_lists.proofs.many.Many.drop_at.Goals as goal

pub invariant_of-self : goal.invariant_of-self
invariant_of-self c =
    let a = c.self.inside in
    let e = c.args.e.now in
    let keys = a.by_rank.keys in
    let es = named a.by_id.entries in
    let is = lookup-text a.by_id.entries e c.as_str.result.now c.as_str.ensures.bytes _ c.swap_remove.ensures.value ∙ c.in-Some.is in
    let entry = table_entry es (rank_map keys) c.self.invariant.1 e c.in-Some.entry is in
    let after = set_went keys c.self.invariant.0 e c.remove.new.self.keys c.in-Some.entry.rank entry.1
    (c.remove.ensures.keys ∙ ap (λ (y : Entry). remove_key (is_at (entry_cmp y)) keys) entry.0) c.remove.ensures.ordered in (
      after.0,
      subst (IsTableOf (named c.swap_remove.new.self.entries)) (sym after.1)
          (table_set es (named c.swap_remove.new.self.entries) (rank_map keys) e None c.self.invariant.1
          (updates-text a.by_id c.swap_remove.new.self e c.as_str.result.now c.as_str.ensures.bytes None c.swap_remove.ensures.updates)),
    )

pub returns-in-Some : goal.returns-in-Some
returns-in-Some c =
    let a = c.self.inside in
    let e = c.args.e.now in
    let keys = a.by_rank.keys in
    let es = named a.by_id.entries in
    let is = lookup-text a.by_id.entries e c.as_str.result.now c.as_str.ensures.bytes _ c.swap_remove.ensures.value ∙ c.in-Some.is in
    let entry = table_entry es (rank_map keys) c.self.invariant.1 e c.in-Some.entry is in
    let after = set_went keys c.self.invariant.0 e c.remove.new.self.keys c.in-Some.entry.rank entry.1
    (c.remove.ensures.keys ∙ ap (λ (y : Entry). remove_key (is_at (entry_cmp y)) keys) entry.0) c.remove.ensures.ordered in
    after.1 ∙ ap (λ m. set m e None) c.self.view_is

pub returns-in_default : goal.returns-in_default
returns-in_default c =
    let a = c.self.inside in
    let e = c.args.e.now in
    let is = lookup-text a.by_id.entries e c.as_str.result.now c.as_str.ensures.bytes _ c.swap_remove.ensures.value ∙ c.in_default.is in
    let none = sym (table_rank (named a.by_id.entries) (rank_map a.by_rank.keys) c.self.invariant.1 e None is) in
    sym (set_here id_order (rank_map a.by_rank.keys) e None none) ∙ ap (λ m. set m e None) c.self.view_is
