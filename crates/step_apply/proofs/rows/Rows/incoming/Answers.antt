use Rattle.std.proofs.Common.{◌≡◌, sym, ap, subst, ◌∙◌, map}
use Rattle.std.specs.Prelude.{IfOk}
use Rattle.std.specs.FinMap.{entries}
use Rattle.finite_maps.proofs.TableLaws.{entries-table}
use Rattle.model_state.specs.Keys.{row_cmp}
use Rattle.model_state.specs.Listing.{row_incoming, incoming}
use Rattle.model_state.proofs.Orders.{row_order}
use Rattle.step_apply.specs.Groups.{rows_of}
use Rattle.step_apply.proofs.IncomingKept.{incoming_are}
use Rattle.step_apply.proofs.Grouped.{no_entries}
use Rattle.step_apply.proofs.rows.Rows.incoming.Goals as goal

pub returns-in-None : goal.returns-in-None
returns-in-None c =
    c.new.ensures
    ∙ ap (map row_incoming) (sym (no_entries row_cmp) ∙ ap (λ o. entries (rows_of o)) c.in-None.ensures.value)
    ∙ incoming_are c.self.inside.tree c.self.inside.into c.self.invariant.1 c.args.b.now
    ∙ ap (λ m. incoming m c.args.b.now) c.self.view_is

pub returns-in-Some : goal.returns-in-Some
returns-in-Some c =
    subst (λ rows. IfOk c.listed.result (λ l. l ≡ rows))
    (ap (map row_incoming) (sym (entries-table row_order c.in-Some.rows.now c.listed.ensures.ordered) ∙ ap (λ o. entries (rows_of o)) c.in-Some.ensures.value)
    ∙ incoming_are c.self.inside.tree c.self.inside.into c.self.invariant.1 c.args.b.now
    ∙ ap (λ m. incoming m c.args.b.now) c.self.view_is)
    c.listed.ensures.rows
