-- the rank is written where there is an entry
use Rattle.std.proofs.Common.{◌≡◌, cond, refl, sym, ap, subst, ◌∙◌}
use Rattle.std.specs.Prelude.{Option, Some, None, IsSome, is_some}
use Rattle.std.specs.Option.{option_copied_mut}
use Rattle.std.specs.Map.{lookup}
use Rattle.std.specs.FinMap.{get}
use Rattle.finite_maps.specs.Equal.{text_eq}
use Rattle.finite_maps.proofs.Cases.{true_false}
use Rattle.model_state.specs.declared.entry.Entry.{Entry}
use Rattle.ranked_lists.specs.Ranked.{named, entry_with}
use Rattle.ranked_lists.proofs.Keyed.{lookup-text, updates-text, table_entry, table_rank, table_set}
use Rattle.ranked_lists.proofs.many.write_rank.Goals as goal

not_some : {A : Type 0} (o : Option A) → IsSome o → o ≡ None → ⊥
not_some o some none = true_false (is_some o) some (ap is_some none)

pub returns-in-Some : goal.returns-in-Some
returns-in-Some c = λ m table some.
    let old = c.args.by_id.now in
    let e = c.args.e.now in
    let here = c.in-Some.here.now in
    let value : Entry = record { rank = c.args.rank; id = here.id } in
    let is = lookup-text old.entries e c.as_str.result.now c.as_str.ensures.bytes _ c.get_mut.ensures.value ∙ ap option_copied_mut c.in-Some.is in
    let entry = table_entry (named old.entries) m table e here is in
    let wrote = (c.get_mut.follows.holds value).3 (subst (λ o. IsSome o) c.in-Some.ensures.value refl) in
    table_set (named old.entries) (named (c.get_mut.follows.lender value).entries) m e (Some c.args.rank) table
    (λ q. updates-text old (c.get_mut.follows.lender value) e c.as_str.result.now c.as_str.ensures.bytes (Some value) wrote q
    ∙ ap (λ z. cond (text_eq e q) (Some (entry_with z c.args.rank)) (lookup (text_eq q) (named old.entries))) (ap (λ (y : Entry). y.id) entry.0))

pub returns-in_default : goal.returns-in_default
returns-in_default c = λ m table some.
    let old = c.args.by_id.now in
    let e = c.args.e.now in
    let is = lookup-text old.entries e c.as_str.result.now c.as_str.ensures.bytes _ c.get_mut.ensures.value ∙ ap option_copied_mut c.in_default.is in
    absurd (not_some (get m e) some (sym (table_rank (named old.entries) m table e None is)))
