-- An object, a list of objects and what stands under a key: for each kind of JSON value, the fault that it is left with.
use Rattle.std.proofs.Common.{◌∙◌, ◌+◌, true, false, sym, ap, drop, string_bytes, option_map}
use Rattle.serde_json.specs.View.{view, items_view, members_view}
use Rattle.ecore_json.specs.Walk.{is_before, first_lacking, value_fault, object_fault, array_fault, keys_fault}
use Rattle.serde_json.specs.Find.{as_array}
use Rattle.ecore_json.specs.Table.{wants}
use Rattle.ecore_json.proofs.Values.{view_null, view_boolean, view_number, view_string, view_array, view_object, next_item, none_left}
use Rattle.ecore_json.proofs.Walking.{object_null, object_boolean, object_number, object_string, object_array, object_unknown, object_left_out}
use Rattle.ecore_json.proofs.Walking.{object_keys, objects_array, objects_one, items_found, items_on, items_end, keys_end, keys_before, keys_found}
use Rattle.ecore_json.proofs.Walking.{keys_on, some_now}
use Rattle.ecore_json.proofs.walk.+walk.Goals as goal

pub object_fault-returns-in-Null : goal.object_fault-returns-in-Null
object_fault-returns-in-Null t c = object_null c.args.own.now c.args.place _ (view_null c.args.value.now c.in-Null.is)

pub object_fault-returns-in-Bool : goal.object_fault-returns-in-Bool
object_fault-returns-in-Bool t c = object_boolean c.args.own.now c.args.place _ _ (view_boolean c.args.value.now _ c.in-Bool.is)

pub object_fault-returns-in-Number : goal.object_fault-returns-in-Number
object_fault-returns-in-Number t c = object_number c.args.own.now c.args.place _ _ (view_number c.args.value.now _ c.in-Number.is)

pub object_fault-returns-in-String : goal.object_fault-returns-in-String
object_fault-returns-in-String t c = object_string c.args.own.now c.args.place _ _ (view_string c.args.value.now _ c.in-String.is)

pub object_fault-returns-in-Array : goal.object_fault-returns-in-Array
object_fault-returns-in-Array t c = object_array c.args.own.now c.args.place _ _ (view_array c.args.value.now _ c.in-Array.is)

pub object_fault-returns-in-None : goal.object_fault-returns-in-None
object_fault-returns-in-None t c = object_unknown c.args.own.now c.args.place _ _ (view_object c.args.value.now _ c.in-Object.is) (sym c.in-None.ensures)

pub object_fault-returns-then-left_out : goal.object_fault-returns-then-left_out
object_fault-returns-then-left_out t c =
    object_left_out c.args.own.now c.args.place _ _ c.in-Some.shape (view_object c.args.value.now _ c.in-Object.is) (sym c.in-Some.ensures)
    (sym c.left_out.ensures ∙ c.if-left_out.true)

pub object_fault-returns-else-left_out : goal.object_fault-returns-else-left_out
object_fault-returns-else-left_out t c =
    let own = c.args.own.now in
    let s = c.in-Some.shape in
    let ms = members_view c.in-Object.members.entries in
    c.keys_fault.ensures ∙ ap (λ lacking. keys_fault own s lacking ms)
    (c.first_lacking-lacking.ensures ∙ ap (λ ks. first_lacking ks (view c.args.value.now)) c.required.ensures)
    ∙ object_keys own c.args.place _ _ s (view_object c.args.value.now _ c.in-Object.is) (sym c.in-Some.ensures) (sym c.left_out.ensures ∙ c.if-left_out.false)

pub objects_fault-returns-in-Array : goal.objects_fault-returns-in-Array
objects_fault-returns-in-Array t c = c.items_fault.ensures ∙ objects_array c.args.own.now c.args.place _ _ (view_array c.args.value.now _ c.in-Array.is)

pub objects_fault-returns-in-Object : goal.objects_fault-returns-in-Object
objects_fault-returns-in-Object t c =
    objects_one c.args.own.now c.args.place _ _ (ap as_array (view_object c.args.value.now _ c.in-Object.is)) c.object_fault.ensures

pub objects_fault-returns-in-Null : goal.objects_fault-returns-in-Null
objects_fault-returns-in-Null t c =
    let is = view_null c.args.value.now c.in-Null.is in
    objects_one c.args.own.now c.args.place _ _ (ap as_array is) (object_null c.args.own.now c.args.place _ is)

pub objects_fault-returns-in-Bool : goal.objects_fault-returns-in-Bool
objects_fault-returns-in-Bool t c =
    let is = view_boolean c.args.value.now _ c.in-Bool.is in
    objects_one c.args.own.now c.args.place _ _ (ap as_array is) (object_boolean c.args.own.now c.args.place _ _ is)

pub objects_fault-returns-in-Number : goal.objects_fault-returns-in-Number
objects_fault-returns-in-Number t c =
    let is = view_number c.args.value.now _ c.in-Number.is in
    objects_one c.args.own.now c.args.place _ _ (ap as_array is) (object_number c.args.own.now c.args.place _ _ is)

pub objects_fault-returns-in-String : goal.objects_fault-returns-in-String
objects_fault-returns-in-String t c =
    let is = view_string c.args.value.now _ c.in-String.is in
    objects_one c.args.own.now c.args.place _ _ (ap as_array is) (object_string c.args.own.now c.args.place _ _ is)

pub items_fault-returns-in-Some : goal.items_fault-returns-in-Some
items_fault-returns-in-Some t c =
    let items = c.args.items.now.items in
    let i = c.loop-item.item-index in
    items_found c.args.own.now c.args.place (items_view items) (items_view (drop i items)) (view c.item-item.result)
    (items_view (drop (i + 1) items)) c.in-Some.fault c.loop-item.invariant
    (ap items_view (next_item _ items i c.item-item.result c.deref-item-items.ensures.value c.loop-item-test.true c.item-item.is)) (sym c.in-Some.ensures)

pub items_fault-loop-item-preserved : goal.items_fault-loop-item-preserved
items_fault-loop-item-preserved t c =
    let items = c.args.items.now.items in
    let i = c.loop-item.item-index in
    items_on c.args.own.now c.args.place (items_view items) (items_view (drop i items)) (view c.item-item.result)
    (items_view (drop (i + 1) items)) c.loop-item.invariant
    (ap items_view (next_item _ items i c.item-item.result c.deref-item-items.ensures.value c.loop-item-test.true c.item-item.is)) (sym c.in-None.ensures)

pub items_fault-returns : goal.items_fault-returns
items_fault-returns t c =
    let items = c.args.items.now.items in
    let i = c.loop-item.item-index in
    items_end c.args.own.now c.args.place (items_view items) (items_view (drop i items)) c.loop-item.invariant
    (ap items_view (none_left _ items i c.deref-item-items.ensures.value c.loop-item-test.false))

pub keys_fault-returns-then-is_before : goal.keys_fault-returns-then-is_before
keys_fault-returns-then-is_before t c =
    let lacking = option_map (λ k. k.now) c.args.lacking in
    keys_before c.args.own.now c.args.shape lacking _ _ c.loop-key.invariant (string_bytes c.in-Some.key.now) (view c.in-Some.value.now)
    (members_view c.next.new.self)
    (ap members_view c.in-Some.ensures.steps) (ap (is_before lacking) (sym c.as_str.ensures.value) ∙ sym c.is_before.ensures ∙ c.if-is_before.true)

pub keys_fault-returns-in-Some-value_fault : goal.keys_fault-returns-in-Some-value_fault
keys_fault-returns-in-Some-value_fault t c =
    let own = c.args.own.now in
    let lacking = option_map (λ k. k.now) c.args.lacking in
    let d = view c.in-Some.value.now in
    keys_found own c.args.shape lacking _ _ c.loop-key.invariant (string_bytes c.in-Some.key.now) d (members_view c.next.new.self)
    (ap members_view c.in-Some.ensures.steps) c.in-Some-value_fault.fault
    (ap (is_before lacking) (sym c.as_str.ensures.value) ∙ sym c.is_before.ensures ∙ c.if-is_before.false)
    (ap (λ w. value_fault own w d (λ p. object_fault own p d) (λ p. array_fault own p d))
    (ap (wants c.args.shape) (sym c.as_str-in-loop-key.ensures.value) ∙ sym c.wants.ensures) ∙ sym c.in-Some-value_fault.ensures)

pub keys_fault-loop-key-preserved : goal.keys_fault-loop-key-preserved
keys_fault-loop-key-preserved t c =
    let own = c.args.own.now in
    let lacking = option_map (λ k. k.now) c.args.lacking in
    let d = view c.in-Some.value.now in
    keys_on own c.args.shape lacking _ _ c.loop-key.invariant (string_bytes c.in-Some.key.now) d (members_view c.next.new.self)
    (ap members_view c.in-Some.ensures.steps) (ap (is_before lacking) (sym c.as_str.ensures.value) ∙ sym c.is_before.ensures ∙ c.if-is_before.false)
    (ap (λ w. value_fault own w d (λ p. object_fault own p d) (λ p. array_fault own p d))
    (ap (wants c.args.shape) (sym c.as_str-in-loop-key.ensures.value) ∙ sym c.wants.ensures) ∙ sym c.in-None-value_fault.ensures)

pub keys_fault-returns-then-is_some : goal.keys_fault-returns-then-is_some
keys_fault-returns-then-is_some t c =
    keys_end c.args.own.now c.args.shape (option_map (λ k. k.now) c.args.lacking) _ _ c.loop-key.invariant true
    (ap members_view c.in-None.ensures.steps.0) (some_now c.args.lacking ∙ sym c.is_some.ensures ∙ c.if-is_some.true)

pub keys_fault-returns-else-is_some : goal.keys_fault-returns-else-is_some
keys_fault-returns-else-is_some t c =
    keys_end c.args.own.now c.args.shape (option_map (λ k. k.now) c.args.lacking) _ _ c.loop-key.invariant false
    (ap members_view c.in-None.ensures.steps.0) (some_now c.args.lacking ∙ sym c.is_some.ensures ∙ c.if-is_some.false)
