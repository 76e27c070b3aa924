use Rattle.std.proofs.Common.{◌≡◌, drop, option_map}
use Rattle.serde_json.specs.View.{items_view, members_view}
use Rattle.ecore_json.specs.Walk.{items_fault, keys_fault}
use Rattle.ecore_json.proofs.walk.+walk.Given as goal

abbrev pub invariant-items_fault-loop-item : goal.invariant-items_fault-loop-item
invariant-items_fault-loop-item l =
    items_fault l.own l.place (items_view l.items.items) ≡ items_fault l.own l.place (items_view (drop l.item-index l.items.items))

abbrev pub invariant-keys_fault-loop-key : goal.invariant-keys_fault-loop-key
invariant-keys_fault-loop-key l =
    keys_fault l.own l.shape (option_map (λ k. k.now) l.lacking) (members_view l.members.entries) ≡ keys_fault l.own l.shape
    (option_map (λ k. k.now) l.lacking) (members_view l.key-iterator)
