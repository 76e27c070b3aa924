use Rattle.std.proofs.Common.{◌≡◌, drop, ◌++◌, List, []}
use Rattle.serde_json.specs.View.{items_view, members_view}
use Rattle.model_documents.specs.declared.draft.ElementDraft.{ElementDraft}
use Rattle.model_documents.specs.Parts.{Part, ids_of, no_part}
use Rattle.model_documents.specs.Walk.{items_rows, members_rows}
use Rattle.emfjson_drafts.proofs.walker.+element.Given as goal

abbrev pub invariant-items_of-loop-item : goal.invariant-items_of-loop-item
invariant-items_of-loop-item l =
    let ids = ids_of l.fn.rows in
    (done : List ElementDraft) × (l.rows ≡ l.fn.rows ++ done)
    × (items_rows l.meta ids l.parent l.default [] (items_view l.items.items) ≡ items_rows l.meta ids l.parent l.default done
    (items_view (drop l.item-index l.items.items)))

abbrev pub invariant-members_of-loop-key : goal.invariant-members_of-loop-key
invariant-members_of-loop-key l =
    let ids = ids_of l.fn.rows in
    (done : Part) × (l.rows ≡ l.fn.rows ++ done.rows) × (l.held.attrs ≡ done.attrs) × (l.held.links ≡ done.links)
    × (members_rows l.meta l.class l.own ids no_part (members_view l.members.entries) ≡ members_rows l.meta l.class l.own ids done
    (members_view l.key-iterator))
