-- An element and those inside it: its own values, then a call for each one inside, which is shorter in the JSON tree.
use Rattle.std.proofs.Common.{◌+◌, [], List, ℕ, refl, sym, ap, ap₂, subst, ◌∙◌, drop, append-nil, true, false, string_bytes}
use Rattle.std.specs.Borrow.{Bor}
use Rattle.std.specs.Prelude.{Ok, Option}
use Rattle.std.specs.Option.{option_map, option_map_or}
use Rattle.serde_json.specs.declared.value.Value.{Value}
use Rattle.serde_json.specs.View.{view, items_view, members_view}
use Rattle.ecore_json.proofs.Values.{view_null, view_boolean, view_number, view_string, view_array, view_object}
use Rattle.ecore_meta.specs.declared.meta.Feature.{Feature}
use Rattle.ecore_meta.specs.declared.meta.Kind.{Kind}
use Rattle.ecore_meta.specs.declared.meta.Kind.TheVariants.{Skip}
use Rattle.model_documents.specs.declared.key.Key.{Key}
use Rattle.model_documents.specs.declared.draft.ElementDraft.{ElementDraft}
use Rattle.emfjson_drafts.specs.Answers.{IsFault, AppendsPart}
use Rattle.finite_maps.specs.Maps.{is_within}
use Rattle.ecore_meta.specs.Typing.{is_one}
use Rattle.model_documents.specs.Parts.{ids_of, no_part}
use Rattle.model_documents.specs.Reads.{Read}
use Rattle.model_documents.specs.Walk.{element_rows, feature_part, items_rows, members_rows, key_part, key_named}
use Rattle.emfjson_drafts.proofs.Lists.{next_of, none_left_of}
use Rattle.emfjson_drafts.proofs.Walking.{class_fault, id_fault, object_is, other_rows, null_rows, boolean_rows, number_rows, string_rows, array_rows}
use Rattle.emfjson_drafts.proofs.Walking.{walks_is, held_null, held_array, held_object, held_boolean, held_number, held_string, count_items}
use Rattle.emfjson_drafts.proofs.Walking.{rows_held, items_step, items_fault, items_end, members_step, members_fault, members_end}
use Rattle.emfjson_drafts.proofs.walker.+element.Goals as goal

pub element-returns-in-Err : goal.element-returns-in-Err
element-returns-in-Err t c =
    class_fault c.args.meta.now (ids_of c.args.rows.now) c.args.parent c.args.default (view c.args.value.now) _ _ c.in-Err.fault
    (view_object c.args.value.now c.in-Object.members c.in-Object.is) c.get.ensures c.in-Err.ensures

pub element-returns-in-Err-id_of : goal.element-returns-in-Err-id_of
element-returns-in-Err-id_of t c =
    let q = option_map (λ (v : Bor Value). view v.now) c.get-in-Ok.result in
    id_fault c.args.meta.now (ids_of c.args.rows.now) c.args.parent c.args.default (view c.args.value.now) _ _ _ c.in-Ok.class c.in-Err-id_of.fault
    (view_object c.args.value.now c.in-Object.members c.in-Object.is) c.get.ensures c.in-Ok.ensures c.get-in-Ok.ensures
    c.in-Err-id_of.ensures

pub element-returns-in-Ok-id_of : goal.element-returns-in-Ok-id_of
element-returns-in-Ok-id_of t c =
    let q = option_map (λ (v : Bor Value). view v.now) c.get-in-Ok.result in
    walks_is _ _ c.object.result _ _ c.object.ensures
    (object_is c.args.meta.now (ids_of c.args.rows.now) c.args.parent c.args.default (view c.args.value.now) _ _ _ c.in-Ok.class c.in-Ok-id_of.id
    (view_object c.args.value.now c.in-Object.members c.in-Object.is) c.get.ensures c.in-Ok.ensures c.get-in-Ok.ensures
    c.in-Ok-id_of.ensures)

pub held_of-returns-in-Null : goal.held_of-returns-in-Null
held_of-returns-in-Null t c = (
  [],
  held_null c.args.meta.now (ids_of c.args.rows.now) c.args.parent c.args.target (view c.args.value.now)
      (view_null c.args.value.now c.in-Null.is),
  sym (append-nil _),
)

pub held_of-returns-then-not-is_within-2 : goal.held_of-returns-then-not-is_within-2
held_of-returns-then-not-is_within-2 t c =
    held_object c.args.meta.now (ids_of c.args.rows.now) c.args.parent c.args.target (view c.args.value.now) _ false
    (view_object c.args.value.now _ c.in-Object.is)
    (ap (is_within 1) (sym c.upper_of.ensures) ∙ sym c.is_within-in-Object.ensures ∙ c.if-not-is_within-2.true)

pub held_of-returns-else-not-is_within-2 : goal.held_of-returns-else-not-is_within-2
held_of-returns-else-not-is_within-2 t c =
    walks_is _ _ c.element.result _ _ c.element.ensures
    (sym (held_object c.args.meta.now (ids_of c.args.rows.now) c.args.parent c.args.target (view c.args.value.now) _ true
    (view_object c.args.value.now _ c.in-Object.is)
    (ap (is_within 1) (sym c.upper_of.ensures) ∙ sym c.is_within-in-Object.ensures ∙ c.if-not-is_within-2.false)))

pub items_of-returns-in-Err : goal.items_of-returns-in-Err
items_of-returns-in-Err t c =
    let meta = c.args.meta.now in
    let first = c.args.rows.now in
    let items = c.args.items.now.items in
    let i = c.loop-item.item-index in
    let so = c.loop-item.invariant in
    items_fault meta first c.args.parent c.args.default c.loop-item.rows c.in-Err.fault (items_view items) (view c.item-item.result)
    (items_view (drop (i + 1) items)) (
      so.0,
      so.1,
      so.2 ∙ ap (λ xs. items_rows meta (ids_of first) c.args.parent c.args.default so.0 (items_view xs))
          (next_of _ items i c.item-item.result c.deref-item-items.ensures.value c.loop-item-test.true c.item-item.is),
    )
    c.in-Err.ensures

pub items_of-loop-item-preserved : goal.items_of-loop-item-preserved
items_of-loop-item-preserved t c =
    let meta = c.args.meta.now in
    let first = c.args.rows.now in
    let items = c.args.items.now.items in
    let i = c.loop-item.item-index in
    let so = c.loop-item.invariant in
    items_step meta first c.args.parent c.args.default c.loop-item.rows c.element.new.rows c.in-Ok.field-0 (items_view items)
    (view c.item-item.result) (items_view (drop (i + 1) items)) (
      so.0,
      so.1,
      so.2 ∙ ap (λ xs. items_rows meta (ids_of first) c.args.parent c.args.default so.0 (items_view xs))
          (next_of _ items i c.item-item.result c.deref-item-items.ensures.value c.loop-item-test.true c.item-item.is),
    )
    c.in-Ok.ensures

pub items_of-returns : goal.items_of-returns
items_of-returns t c =
    let meta = c.args.meta.now in
    let first = c.args.rows.now in
    let items = c.args.items.now.items in
    let i = c.loop-item.item-index in
    let so = c.loop-item.invariant in
    items_end meta first c.args.parent c.args.default c.loop-item.rows (items_view items) (
      so.0,
      so.1,
      so.2 ∙ ap (λ xs. items_rows meta (ids_of first) c.args.parent c.args.default so.0 (items_view xs))
          (none_left_of _ items i c.deref-item-items.ensures.value c.loop-item-test.false),
    )

pub members_of-loop-key-init : goal.members_of-loop-key-init
members_of-loop-key-init t c = (
  no_part,
  sym (append-nil _),
  c.new.ensures,
  c.new-2.ensures,
  ap (λ es. members_rows c.args.meta.now c.args.class c.args.own (ids_of c.args.rows.now) no_part (members_view es))
      (sym (c.into_iter-key-iterator.ensures.into_iter_gives ∙ c.iter-key-items.ensures.rest)),
)

pub members_of-returns : goal.members_of-returns
members_of-returns t c =
    let meta = c.args.meta.now in
    let first = c.args.rows.now in
    let so = c.loop-key.invariant in
    members_end meta c.args.class c.args.own first c.loop-key.rows c.loop-key.held.attrs c.loop-key.held.links (members_view c.args.members.now.entries)
    (so.0, so.1, so.2, so.3, so.4 ∙ ap (λ es. members_rows meta c.args.class c.args.own (ids_of first) so.0 (members_view es)) c.in-None.ensures.steps.0)

pub element-returns-in-Null : goal.element-returns-in-Null
element-returns-in-Null t c =
    let r = element_rows c.args.meta.now (ids_of c.args.rows.now) c.args.parent c.args.default (view c.args.value.now) in
    subst (λ e. IsFault e r) (sym c.not_object-other.ensures)
    (other_rows c.args.meta.now (ids_of c.args.rows.now) c.args.parent c.args.default (view c.args.value.now) _
    (view_null c.args.value.now c.in-Null.is) (null_rows c.args.meta.now (ids_of c.args.rows.now) c.args.parent c.args.default))

pub element-returns-in-Bool : goal.element-returns-in-Bool
element-returns-in-Bool t c =
    let r = element_rows c.args.meta.now (ids_of c.args.rows.now) c.args.parent c.args.default (view c.args.value.now) in
    subst (λ e. IsFault e r) (sym c.not_object-other.ensures)
    (other_rows c.args.meta.now (ids_of c.args.rows.now) c.args.parent c.args.default (view c.args.value.now) _
    (view_boolean c.args.value.now _ c.in-Bool.is) (boolean_rows c.args.meta.now (ids_of c.args.rows.now) c.args.parent c.args.default _))

pub element-returns-in-Number : goal.element-returns-in-Number
element-returns-in-Number t c =
    let r = element_rows c.args.meta.now (ids_of c.args.rows.now) c.args.parent c.args.default (view c.args.value.now) in
    subst (λ e. IsFault e r) (sym c.not_object-other.ensures)
    (other_rows c.args.meta.now (ids_of c.args.rows.now) c.args.parent c.args.default (view c.args.value.now) _
    (view_number c.args.value.now _ c.in-Number.is) (number_rows c.args.meta.now (ids_of c.args.rows.now) c.args.parent c.args.default _))

pub element-returns-in-String : goal.element-returns-in-String
element-returns-in-String t c =
    let r = element_rows c.args.meta.now (ids_of c.args.rows.now) c.args.parent c.args.default (view c.args.value.now) in
    subst (λ e. IsFault e r) (sym c.not_object-other.ensures)
    (other_rows c.args.meta.now (ids_of c.args.rows.now) c.args.parent c.args.default (view c.args.value.now) _
    (view_string c.args.value.now _ c.in-String.is) (string_rows c.args.meta.now (ids_of c.args.rows.now) c.args.parent c.args.default _))

pub element-returns-in-Array : goal.element-returns-in-Array
element-returns-in-Array t c =
    let r = element_rows c.args.meta.now (ids_of c.args.rows.now) c.args.parent c.args.default (view c.args.value.now) in
    subst (λ e. IsFault e r) (sym c.not_object-other.ensures)
    (other_rows c.args.meta.now (ids_of c.args.rows.now) c.args.parent c.args.default (view c.args.value.now) _
    (view_array c.args.value.now _ c.in-Array.is) (array_rows c.args.meta.now (ids_of c.args.rows.now) c.args.parent c.args.default _))

pub held_of-returns-in-Bool : goal.held_of-returns-in-Bool
held_of-returns-in-Bool t c =
    held_boolean c.args.meta.now (ids_of c.args.rows.now) c.args.parent c.args.target (view c.args.value.now) _
    (view_boolean c.args.value.now _ c.in-Bool.is)

pub held_of-returns-in-Number : goal.held_of-returns-in-Number
held_of-returns-in-Number t c =
    held_number c.args.meta.now (ids_of c.args.rows.now) c.args.parent c.args.target (view c.args.value.now) _
    (view_number c.args.value.now _ c.in-Number.is)

pub held_of-returns-in-String : goal.held_of-returns-in-String
held_of-returns-in-String t c =
    held_string c.args.meta.now (ids_of c.args.rows.now) c.args.parent c.args.target (view c.args.value.now) _
    (view_string c.args.value.now _ c.in-String.is)

pub members_of-returns-in-Err : goal.members_of-returns-in-Err
members_of-returns-in-Err t c =
    let meta = c.args.meta.now in
    let first = c.args.rows.now in
    let so = c.loop-key.invariant in
    let now = c.loop-key.rows in
    let d = view c.in-Some.value.now in
    members_fault meta c.args.class c.args.own first now c.loop-key.held.attrs c.loop-key.held.links c.in-Err.fault
    (members_view c.args.members.now.entries) (string_bytes c.in-Some.key.now) d (members_view c.next.new.self)
    (so.0, so.1, so.2, so.3, so.4 ∙ ap (λ es. members_rows meta c.args.class c.args.own (ids_of first) so.0 (members_view es)) c.in-Some.ensures.steps)
    (subst (λ (k : Key). IsFault c.in-Err.fault
    (key_part meta k d (rows_held meta (ids_of now) c.args.own d)))
    (c.key_named-key.ensures ∙ ap (key_named meta c.args.class) c.as_str.ensures.value) c.in-Err.ensures)

pub members_of-loop-key-preserved : goal.members_of-loop-key-preserved
members_of-loop-key-preserved t c =
    let meta = c.args.meta.now in
    let first = c.args.rows.now in
    let so = c.loop-key.invariant in
    let now = c.loop-key.rows in
    let d = view c.in-Some.value.now in
    members_step meta c.args.class c.args.own first now c.part_of.new.rows c.loop-key.held.attrs c.part_of.new.held.attrs c.loop-key.held.links
    c.part_of.new.held.links c.in-Ok.field-0 (members_view c.args.members.now.entries) (string_bytes c.in-Some.key.now) d
    (members_view c.next.new.self)
    (so.0, so.1, so.2, so.3, so.4 ∙ ap (λ es. members_rows meta c.args.class c.args.own (ids_of first) so.0 (members_view es)) c.in-Some.ensures.steps)
    (subst (λ (k : Key). AppendsPart c.loop-key.held.attrs c.part_of.new.held.attrs c.loop-key.held.links c.part_of.new.held.links now
    c.part_of.new.rows (Ok c.in-Ok.field-0)
    (key_part meta k d (rows_held meta (ids_of now) c.args.own d)))
    (c.key_named-key.ensures ∙ ap (key_named meta c.args.class) c.as_str.ensures.value) c.in-Ok.ensures)

pub feature_part-returns-in-Container : goal.feature_part-returns-in-Container
feature_part-returns-in-Container t c =
    let ids = ids_of c.args.rows.now in
    let d = view c.args.value.now in (
      no_part,
      ap (λ (k : Kind). feature_part c.args.meta.now c.args.f k d
          (rows_held c.args.meta.now ids c.args.own d)) c.in-Container.is,
      sym (append-nil _),
      sym (append-nil _),
      sym (append-nil _),
    )

pub feature_part-returns-in-Skip : goal.feature_part-returns-in-Skip
feature_part-returns-in-Skip t c =
    let ids = ids_of c.args.rows.now in
    let d = view c.args.value.now in (
      no_part,
      ap (λ (k : Kind). feature_part c.args.meta.now c.args.f k d
          (rows_held c.args.meta.now ids c.args.own d)) c.in-Skip.is,
      sym (append-nil _),
      sym (append-nil _),
      sym (append-nil _),
    )

pub part_of-returns-in-Own : goal.part_of-returns-in-Own
part_of-returns-in-Own t c =
    let ids = ids_of c.args.rows.now in
    let d = view c.args.value.now in (
      no_part,
      ap (λ (k : Key). key_part c.args.meta.now k d (rows_held c.args.meta.now ids c.args.own d))
          c.in-Own.is,
      sym (append-nil _),
      sym (append-nil _),
      sym (append-nil _),
    )

pub part_of-returns-in-None : goal.part_of-returns-in-None
part_of-returns-in-None t c =
    let meta = c.args.meta.now in
    let ids = ids_of c.args.rows.now in
    let d = view c.args.value.now in
    let held : ℕ → ℕ → Read (List ElementDraft) = rows_held meta ids c.args.own d in (
      no_part,
      ap (λ (k : Key). key_part meta k d held) c.in-Of.is
          ∙ ap (λ (o : Option Feature). feature_part meta c.in-Of.f (option_map_or (λ x. x.kind) o Skip) d held) (sym c.in-None.ensures),
      sym (append-nil _),
      sym (append-nil _),
      sym (append-nil _),
    )

pub held_of-returns-then-is_one : goal.held_of-returns-then-is_one
held_of-returns-then-is_one t c =
    held_array c.args.meta.now (ids_of c.args.rows.now) c.args.parent c.args.target (view c.args.value.now) (items_view c.in-Array.items.items) true _
    (view_array c.args.value.now _ c.in-Array.is)
    (ap is_one (sym c.upper_of-upper.ensures) ∙ sym c.is_one.ensures ∙ c.if-is_one.true) refl

pub held_of-returns-then-not-is_within : goal.held_of-returns-then-not-is_within
held_of-returns-then-not-is_within t c =
    let v = c.in-Array.items in
    held_array c.args.meta.now (ids_of c.args.rows.now) c.args.parent c.args.target (view c.args.value.now) (items_view v.items) false false
    (view_array c.args.value.now _ c.in-Array.is)
    (ap is_one (sym c.upper_of-upper.ensures) ∙ sym c.is_one.ensures ∙ c.if-is_one.false)
    (ap₂ is_within (count_items v.items ∙ sym v.ok.0 ∙ sym c.len.ensures) (sym c.upper_of-upper.ensures) ∙ sym c.is_within.ensures ∙ c.if-not-is_within.true)

pub held_of-returns-else-not-is_within : goal.held_of-returns-else-not-is_within
held_of-returns-else-not-is_within t c =
    let v = c.in-Array.items in
    walks_is _ _ c.items_of.result _ _ c.items_of.ensures
    (sym (held_array c.args.meta.now (ids_of c.args.rows.now) c.args.parent c.args.target (view c.args.value.now) (items_view v.items) false true
    (view_array c.args.value.now _ c.in-Array.is)
    (ap is_one (sym c.upper_of-upper.ensures) ∙ sym c.is_one.ensures ∙ c.if-is_one.false)
    (ap₂ is_within (count_items v.items ∙ sym v.ok.0 ∙ sym c.len.ensures) (sym c.upper_of-upper.ensures) ∙ sym c.is_within.ensures ∙ c.if-not-is_within.false)))
