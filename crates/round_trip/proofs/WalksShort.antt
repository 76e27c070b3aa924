-- A text has at least as many bytes as elements: each element is an object of its own.
use Rattle.std.proofs.Common.{◌≡◌, ℕ, suc, ◌+◌, ◌≤◌, Bool, true, false, not, List, [], ◌∷◌, ◌++◌, length, ap, codes, arith, length-append, inl, inr}
use Rattle.std.specs.Prelude.{Option, None, Some, Ok}
use Rattle.json.specs.Print.{quoted}
use Rattle.serde_json.specs.Data.{Data, null, boolean, number, string, array, object, Items, no_items, item, Members, no_members, member}
use Rattle.serde_json.specs.Find.{get_member}
use Rattle.serde_json.specs.Written.{compact_text, items_text, members_text, comma_if}
use Rattle.ecore_json.specs.Rows.{list_of}
use Rattle.ecore_meta.specs.Meta.{Meta}
use Rattle.model_state.specs.Typing.{upper_of}
use Rattle.model_documents.specs.declared.doc.DocParent.{DocParent}
use Rattle.model_documents.specs.declared.fault.ModelFault.TheVariants.{Bound, WrongType}
use Rattle.finite_maps.specs.Maps.{is_within}
use Rattle.model_documents.specs.Classes.{class_of, id_of}
use Rattle.ecore_meta.specs.Typing.{is_one}
use Rattle.model_documents.specs.Parts.{Part, no_part, joined, Ids, ids_of}
use Rattle.model_documents.specs.Reads.{Read, «then», unless}
use Rattle.model_documents.specs.Walk.{element_rows, held_rows, items_rows, key_named, key_part, members_rows, object_rows, own_rows, walked}
use Rattle.model_documents.proofs.Apart.{key_gives, of_ok, then_ok, unless_ok}
use Rattle.round_trip.proofs.KeysTypes.{ElementDraft}

rows_ok : (xs ys : List ElementDraft) → ◌≡◌ {A = Read (List ElementDraft)} (Ok xs) (Ok ys) → xs ≡ ys
rows_ok xs ys h = cc

-- the text of a member is as long as its value's and that of the rest
member_length : (later : Bool) (k : List ℕ) (d : Data) (ms : Members)
    → length (compact_text d) + length (members_text true ms) ≤ length (members_text later (member k d ms))
member_length later k d ms =
    let a = length-append (comma_if later) (quoted k ++ 58 ∷ (compact_text d ++ members_text true ms)) in
    let b = length-append (quoted k) (58 ∷ (compact_text d ++ members_text true ms)) in
    let c = length-append (compact_text d) (members_text true ms) in
    omega arith

item_length : (later : Bool) (d : Data) (ds : Items) → length (compact_text d) + length (items_text true ds) ≤ length (items_text later (item d ds))
item_length later d ds =
    let a = length-append (comma_if later) (compact_text d ++ items_text true ds) in
    let c = length-append (compact_text d) (items_text true ds) in
    omega arith

-- so many rows more
bare_more : (xs ys : List ElementDraft) (n : ℕ) → ys ≡ [] → length (xs ++ ys) ≤ length xs + n
bare_more xs ys n h = let a = length-append xs ys in let b = ap length h in omega arith

grown_more : (xs ys : List ElementDraft) (n : ℕ) → length ys ≤ n → length (xs ++ ys) ≤ length xs + n
grown_more xs ys n h = let a = length-append xs ys in omega arith

none_more : (later : Bool) (rows more : List ElementDraft) → rows ≡ more → length more ≤ length rows + length (items_text later no_items)
none_more later rows more is = let e = ap length is in omega arith

no_key_more : (later : Bool) (part more : Part) → part ≡ more → length more.rows ≤ length part.rows + length (members_text later no_members)
no_key_more later part more is = let e = ap (λ (p : Part). length p.rows) is in omega arith

nothing_more : (more : List ElementDraft) (n : ℕ) → [] ≡ more → length more ≤ n
nothing_more more n is = let e = ap length is in omega arith

more_steps : (a b n c d t : ℕ) → a ≤ b + c → n ≤ a + d → c + d ≤ t → n ≤ b + t
more_steps a b n c d t h g k = omega arith

array_more : (ds : Items) (more : List ElementDraft) → length more ≤ length {A = ElementDraft} [] + length (items_text false ds)
    → length more ≤ length (compact_text (array ds))
array_more ds more h = omega arith

module _ (meta : Meta) where
  object_short : (ids : Ids) (parent : Option DocParent) (default : Option ℕ) (ms : Members) (inside : ℕ → Ids → Read Part)
      → ((c : ℕ) (below : Ids) (part : Part) → inside c below ≡ Ok part → length part.rows ≤ length {A = ElementDraft} [] + length (members_text false ms))
      → (more : List ElementDraft) → object_rows meta ids parent default ms inside ≡ Ok more → length more ≤ length (compact_text (object ms))
  object_short ids parent default ms inside short more h =
      let class = then_ok (class_of meta default (get_member (codes "eClass") ms))
      (λ c. «then» (id_of ids (get_member (codes "_id") ms)) (λ id. own_rows parent id c (inside c (ids ++ id ∷ [])))) more h in
      let name = then_ok (id_of ids (get_member (codes "_id") ms)) (λ id. own_rows parent id class.0 (inside class.0 (ids ++ id ∷ []))) more class.2 in
      let part = then_ok (inside class.0 (ids ++ name.0 ∷ []))
      (λ (p : Part). Ok (record { id = name.0; class = class.0; parent = parent; attrs = p.attrs; links = p.links } ∷ p.rows)) more name.2 in
      let own : ElementDraft = record { id = name.0; class = class.0; parent = parent; attrs = part.0.attrs; links = part.0.links } in
      let is : suc (length part.0.rows) ≡ length more = ap length {x = own ∷ part.0.rows} (rows_ok (own ∷ part.0.rows) more part.2) in
      let l = short class.0 (ids ++ name.0 ∷ []) part.0 part.1 in
      omega arith

  mutual
    unfolding element_rows items_rows members_rows held_rows

    element_short : (ids : Ids) (parent : Option DocParent) (default : Option ℕ) (d : Data) (more : List ElementDraft)
        → element_rows meta ids parent default d ≡ Ok more → length more ≤ length (compact_text d)
    element_short ids parent default (object ms) more h =
        object_short ids parent default ms (λ c below. members_rows meta c (length ids) below no_part ms)
        (λ c below part e. members_short c (length ids) below no_part false ms part e) more h
    element_short ids parent default null more h = cc
    element_short ids parent default (boolean b) more h = cc
    element_short ids parent default (number n) more h = cc
    element_short ids parent default (string s) more h = cc
    element_short ids parent default (array ds) more h = cc

    items_short : (ids : Ids) (parent : Option DocParent) (default : Option ℕ) (rows : List ElementDraft) (later : Bool) (ds : Items) (more : List ElementDraft)
        → items_rows meta ids parent default rows ds ≡ Ok more → length more ≤ length rows + length (items_text later ds)
    items_short ids parent default rows later no_items more h = none_more later rows more (rows_ok rows more h)
    items_short ids parent default rows later (item d ds) more h =
        let one = then_ok (element_rows meta (ids ++ ids_of rows) parent default d) (λ more. items_rows meta ids parent default (rows ++ more) ds) more h in
        more_steps (length (rows ++ one.0)) (length rows) (length more) (length (compact_text d)) (length (items_text true ds))
        (length (items_text later (item d ds)))
        (grown_more rows one.0 (length (compact_text d)) (element_short (ids ++ ids_of rows) parent default d one.0 one.1))
        (items_short ids parent default (rows ++ one.0) true ds more one.2) (item_length later d ds)

    members_short : (c own : ℕ) (ids : Ids) (part : Part) (later : Bool) (ms : Members) (more : Part) → members_rows meta c own ids part ms ≡ Ok more
        → length more.rows ≤ length part.rows + length (members_text later ms)
    members_short c own ids part later no_members more h = no_key_more later part more (of_ok part more h)
    members_short c own ids part later (member k d ms) more h =
        let held : ℕ → ℕ → Read (List ElementDraft) = λ f target. held_rows meta (ids ++ ids_of part.rows) (record { row = own; feature = f }) target d in
        let one = then_ok (key_part meta (key_named meta c k) d held) (λ more. members_rows meta c own ids (joined part more) ms) more h in
        more_steps (length (part.rows ++ one.0.rows)) (length part.rows) (length more.rows) (length (compact_text d)) (length (members_text true ms))
        (length (members_text later (member k d ms)))
        (elim (key_gives meta (key_named meta c k) d held one.0 one.1) [
          | inl none ↦ bare_more part.rows one.0.rows (length (compact_text d)) none
          | inr some ↦ grown_more part.rows one.0.rows (length (compact_text d))
              (held_short (ids ++ ids_of part.rows) (record { row = own; feature = some.0 }) some.1 d one.0.rows some.2)
        ])
        (members_short c own ids (joined part one.0) true ms more one.2) (member_length later k d ms)

    held_short : (ids : Ids) (parent : DocParent) (target : ℕ) (d : Data) (more : List ElementDraft) → held_rows meta ids parent target d ≡ Ok more
        → length more ≤ length (compact_text d)
    held_short ids parent target null more h = nothing_more more (length (compact_text null)) (rows_ok [] more h)
    held_short ids parent target (object ms) more h =
        object_short ids (Some parent) (Some target) ms (λ c below. members_rows meta c (length ids) below no_part ms)
        (λ c below part e. members_short c (length ids) below no_part false ms part e) more
        (unless_ok (is_within 1 (upper_of meta parent.feature)) Bound
        (object_rows meta ids (Some parent) (Some target) ms (λ c below. members_rows meta c (length ids) below no_part ms)) more h)
    held_short ids parent target (array ds) more h =
        array_more ds more (items_short ids (Some parent) (Some target) [] false ds more
        (unless_ok (is_within (length (list_of ds)) (upper_of meta parent.feature)) Bound (items_rows meta ids (Some parent) (Some target) [] ds) more
        (unless_ok (not (is_one (upper_of meta parent.feature))) WrongType
        (unless (is_within (length (list_of ds)) (upper_of meta parent.feature)) Bound (items_rows meta ids (Some parent) (Some target) [] ds))
        more h)))
    held_short ids parent target (boolean b) more h = cc
    held_short ids parent target (number n) more h = cc
    held_short ids parent target (string s) more h = cc

  pub walked_short : (d : Data) (more : List ElementDraft) → walked meta d ≡ Ok more → length more ≤ length (compact_text d)
  walked_short (array ds) more h = array_more ds more (items_short [] None None [] false ds more h)
  walked_short (object ms) more h = element_short [] None None (object ms) more h
  walked_short null more h = cc
  walked_short (boolean b) more h = cc
  walked_short (number n) more h = cc
  walked_short (string s) more h = cc
