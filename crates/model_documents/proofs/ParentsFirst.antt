-- Each element of a document stands after the one that contains it.
use Rattle.std.proofs.lemmas.Bool.Decides.{nat_tests}
use Rattle.std.proofs.Common.{◌≡◌, ℕ, ◌+◌, suc, Bool, true, false, ◌&&◌, List, [], ◌∷◌, ◌++◌, map, length, codes, nat_lt, refl, sym, ap, subst, ◌∙◌}
use Rattle.std.proofs.Common.{append-nil, inl, inr, arith}
use Rattle.std.specs.Prelude.{Option, None, Some, Ok, not}
use Rattle.serde_json.specs.Data.{Data, null, boolean, number, string, array, object, Items, no_items, item, Members, no_members, member}
use Rattle.serde_json.specs.Find.{get_member}
use Rattle.serde_json.specs.Read.{read}
use Rattle.ecore_json.specs.Rows.{list_of}
use Rattle.ecore_meta.specs.Meta.{Meta}
use Rattle.model_state.specs.Keys.{IdBytes}
use Rattle.model_state.specs.Typing.{upper_of}
use Rattle.model_documents.specs.declared.doc.DocParent.{DocParent}
use Rattle.model_documents.specs.declared.doc.DocRow.{DocRow}
use Rattle.model_documents.specs.declared.draft.ElementDraft.{ElementDraft}
use Rattle.model_documents.specs.declared.fault.ModelFault.TheVariants.{Bound, WrongType}
use Rattle.finite_maps.specs.Maps.{is_within}
use Rattle.model_documents.specs.Classes.{class_of, id_of}
use Rattle.model_documents.specs.Document.{doc_of, of_json, resolved}
use Rattle.model_documents.specs.Laws.{ParentsComeFirst, parents_before, parent_before}
use Rattle.ecore_meta.specs.Typing.{is_one}
use Rattle.model_documents.specs.Completed.{rows_by}
use Rattle.model_documents.specs.Parts.{Part, no_part, joined, Ids, ids_of}
use Rattle.model_documents.specs.Reads.{Read, «then», unless}
use Rattle.model_documents.specs.References.{given_by}
use Rattle.model_documents.specs.Walk.{element_rows, held_rows, items_rows, key_named, key_part, members_rows, object_rows, own_rows, walked}
use Rattle.model_documents.proofs.Apart.{then_ok, unless_ok, of_ok, key_gives, rows_keep}

abbrev parents : List ElementDraft → List (Option DocParent)
parents rows = map (λ (r : ElementDraft). r.parent) rows

-- parents of rows from the number n on
abbrev behind : ℕ → List (Option DocParent) → Bool
behind n [] = true
behind n (p ∷ ps) = parent_before n p && behind (suc n) ps

and_first : (a b : Bool) → a && b ≡ true → a ≡ true
and_first true b h = refl
and_first false b h = cc

and_second : (a b : Bool) → a && b ≡ true → b ≡ true
and_second true b h = h
and_second false b h = cc

both : (a b : Bool) → a ≡ true → b ≡ true → a && b ≡ true
both a b p q = ap (λ c. c && b) p ∙ q

less_more : (i n k : ℕ) → nat_lt i n ≡ true → nat_lt i (n + k) ≡ true
less_more i n k h = grind (arith, nat_tests)

before_more : (p : Option DocParent) (n k : ℕ) → parent_before n p ≡ true → parent_before (n + k) p ≡ true
before_more None n k h = refl
before_more (Some p) n k h = less_more p.row n k h

moved : (n k : ℕ) → suc n + k ≡ n + suc k
moved n k = omega arith

nothing : (n : ℕ) → n ≡ n + 0
nothing n = omega arith

behind_append : (n : ℕ) (xs ys : List (Option DocParent)) → behind n xs ≡ true → behind (n + length xs) ys ≡ true → behind n (xs ++ ys) ≡ true
behind_append n [] ys h g = ap (λ k. behind k ys) (nothing n) ∙ g
behind_append n (x ∷ xs) ys h g =
    both (parent_before n x) (behind (suc n) (xs ++ ys)) (and_first (parent_before n x) (behind (suc n) xs) h)
    (behind_append (suc n) xs ys (and_second (parent_before n x) (behind (suc n) xs) h) (ap (λ k. behind k ys) (moved n (length xs)) ∙ g))

length_ids : (ids : Ids) (rows : List ElementDraft) → length (ids ++ ids_of rows) ≡ length ids + length (parents rows)
length_ids [] rows = count rows
  where
    count : (rows : List ElementDraft) → length (ids_of rows) ≡ 0 + length (parents rows)
    count [] = refl
    count (r ∷ rows) = ap (λ n. suc n) (count rows) ∙ plain (length (parents rows))
      where
        plain : (n : ℕ) → suc (0 + n) ≡ 0 + suc n
        plain n = omega arith
length_ids (x ∷ ids) rows = ap (λ n. suc n) (length_ids ids rows) ∙ turned (length ids) (length (parents rows))
  where
    turned : (m n : ℕ) → suc (m + n) ≡ suc m + n
    turned m n = omega arith

parents_append : (xs ys : List ElementDraft) → parents (xs ++ ys) ≡ parents xs ++ parents ys
parents_append [] ys = refl
parents_append (x ∷ xs) ys = ap (λ l. x.parent ∷ l) (parents_append xs ys)

length_last : (ids : Ids) (id : Option IdBytes) → length (ids ++ id ∷ []) ≡ suc (length ids)
length_last [] id = refl
length_last (x ∷ ids) id = ap (λ n. suc n) (length_last ids id)

own_less : (n : ℕ) → nat_lt n (suc n) ≡ true
own_less n = grind (arith, nat_tests)

pub rows_ok : (xs ys : List ElementDraft) → ◌≡◌ {A = Read (List ElementDraft)} (Ok xs) (Ok ys) → xs ≡ ys
rows_ok xs ys h = cc

-- rows after those that are there
more_behind : (ids : Ids) (rows more : List ElementDraft) → behind (length ids) (parents rows) ≡ true
    → behind (length (ids ++ ids_of rows)) (parents more) ≡ true → behind (length ids) (parents (rows ++ more)) ≡ true
more_behind ids rows more h g =
    ap (behind (length ids)) (parents_append rows more)
    ∙ behind_append (length ids) (parents rows) (parents more) h (ap (λ n. behind n (parents more)) (sym (length_ids ids rows)) ∙ g)

none_behind : (ids : Ids) (rows more : List ElementDraft) → more ≡ [] → behind (length ids) (parents rows) ≡ true
    → behind (length ids) (parents (rows ++ more)) ≡ true
none_behind ids rows more none h = ap (λ m. behind (length ids) (parents (rows ++ m))) none ∙ ap (λ rs. behind (length ids) (parents rs)) (append-nil rows) ∙ h

pub still_before : (ids : Ids) (rows : List ElementDraft) (p : Option DocParent) → parent_before (length ids) p ≡ true
    → parent_before (length (ids ++ ids_of rows)) p ≡ true
still_before ids rows p h = ap (λ n. parent_before n p) (length_ids ids rows) ∙ before_more p (length ids) (length (parents rows)) h

module _ (meta : Meta) where
  -- an object whose keys keep to this
  object_behind : (ids : Ids) (parent : Option DocParent) (default : Option ℕ) (ms : Members) (inside : ℕ → Ids → Read Part)
      → ((c : ℕ) (id : Option IdBytes) (part : Part) → nat_lt (length ids) (length (ids ++ id ∷ [])) ≡ true → inside c (ids ++ id ∷ []) ≡ Ok part
      → behind (length (ids ++ id ∷ [])) (parents part.rows) ≡ true)
      → (more : List ElementDraft) → parent_before (length ids) parent ≡ true → object_rows meta ids parent default ms inside ≡ Ok more
      → behind (length ids) (parents more) ≡ true
  object_behind ids parent default ms inside keeps more before h =
      let class = then_ok (class_of meta default (get_member (codes "eClass") ms))
      (λ c. «then» (id_of ids (get_member (codes "_id") ms)) (λ id. own_rows parent id c (inside c (ids ++ id ∷ [])))) more h in
      let name = then_ok (id_of ids (get_member (codes "_id") ms)) (λ id. own_rows parent id class.0 (inside class.0 (ids ++ id ∷ []))) more class.2 in
      let part = then_ok (inside class.0 (ids ++ name.0 ∷ []))
      (λ (p : Part). Ok (record { id = name.0; class = class.0; parent = parent; attrs = p.attrs; links = p.links } ∷ p.rows)) more name.2 in
      let longer = length_last ids name.0 in
      let kept = keeps class.0 name.0 part.0 (ap (nat_lt (length ids)) longer ∙ own_less (length ids)) part.1 in
      let same : record { id = name.0; class = class.0; parent = parent; attrs = part.0.attrs; links = part.0.links } ∷ part.0.rows ≡ more =
      rows_ok _ more part.2 in
      subst (λ (rows : List ElementDraft). behind (length ids) (parents rows) ≡ true) same
      (both (parent_before (length ids) parent) (behind (suc (length ids)) (parents part.0.rows)) before
      (ap (λ n. behind n (parents part.0.rows)) (sym longer) ∙ kept))

  mutual
    unfolding element_rows items_rows members_rows held_rows

    element_behind : (ids : Ids) (parent : Option DocParent) (default : Option ℕ) (d : Data) (more : List ElementDraft)
        → parent_before (length ids) parent ≡ true → element_rows meta ids parent default d ≡ Ok more
        → behind (length ids) (parents more) ≡ true
    element_behind ids parent default (object ms) more before h =
        object_behind ids parent default ms (λ c below. members_rows meta c (length ids) below no_part ms)
        (λ c id part less e. members_behind c (length ids) (ids ++ id ∷ []) no_part ms part less refl e) more before h
    element_behind ids parent default null more before h = cc
    element_behind ids parent default (boolean b) more before h = cc
    element_behind ids parent default (number n) more before h = cc
    element_behind ids parent default (string s) more before h = cc
    element_behind ids parent default (array ds) more before h = cc

    items_behind : (ids : Ids) (parent : Option DocParent) (default : Option ℕ) (rows : List ElementDraft) (ds : Items) (more : List ElementDraft)
        → parent_before (length ids) parent ≡ true → behind (length ids) (parents rows) ≡ true
        → items_rows meta ids parent default rows ds ≡ Ok more → behind (length ids) (parents more) ≡ true
    items_behind ids parent default rows no_items more before so h =
        subst (λ (rs : List ElementDraft). behind (length ids) (parents rs) ≡ true) (rows_ok rows more h) so
    items_behind ids parent default rows (item d ds) more before so h =
        let one = then_ok (element_rows meta (ids ++ ids_of rows) parent default d) (λ more. items_rows meta ids parent default (rows ++ more) ds) more h in
        items_behind ids parent default (rows ++ one.0) ds more before
        (more_behind ids rows one.0 so (element_behind (ids ++ ids_of rows) parent default d one.0 (still_before ids rows parent before) one.1)) one.2

    members_behind : (c own : ℕ) (ids : Ids) (part : Part) (ms : Members) (more : Part) → nat_lt own (length ids) ≡ true
        → behind (length ids) (parents part.rows) ≡ true → members_rows meta c own ids part ms ≡ Ok more
        → behind (length ids) (parents more.rows) ≡ true
    members_behind c own ids part no_members more less so h = subst (λ (p : Part). behind (length ids) (parents p.rows) ≡ true) (of_ok part more h) so
    members_behind c own ids part (member k d ms) more less so h =
        let held : ℕ → ℕ → Read (List ElementDraft) = λ f target. held_rows meta (ids ++ ids_of part.rows) (record { row = own; feature = f }) target d in
        let one = then_ok (key_part meta (key_named meta c k) d held) (λ more. members_rows meta c own ids (joined part more) ms) more h in
        members_behind c own ids (joined part one.0) ms more less
        (elim (key_gives meta (key_named meta c k) d held one.0 one.1) [
          | inl none ↦ none_behind ids part.rows one.0.rows none so
          | inr some ↦
              more_behind ids part.rows one.0.rows so
              (held_behind (ids ++ ids_of part.rows) (record { row = own; feature = some.0 }) some.1 d one.0.rows
              (still_before ids part.rows (Some (record { row = own; feature = some.0 })) less) some.2)
        ]) one.2

    held_behind : (ids : Ids) (parent : DocParent) (target : ℕ) (d : Data) (more : List ElementDraft) → parent_before (length ids) (Some parent) ≡ true
        → held_rows meta ids parent target d ≡ Ok more → behind (length ids) (parents more) ≡ true
    held_behind ids parent target null more before h = subst (λ (rs : List ElementDraft). behind (length ids) (parents rs) ≡ true) (rows_ok [] more h) refl
    held_behind ids parent target (object ms) more before h =
        object_behind ids (Some parent) (Some target) ms (λ c below. members_rows meta c (length ids) below no_part ms)
        (λ c id part less e. members_behind c (length ids) (ids ++ id ∷ []) no_part ms part less refl e) more before
        (unless_ok (is_within 1 (upper_of meta parent.feature)) Bound
        (object_rows meta ids (Some parent) (Some target) ms (λ c below. members_rows meta c (length ids) below no_part ms)) more h)
    held_behind ids parent target (array ds) more before h =
        items_behind ids (Some parent) (Some target) [] ds more before refl
        (unless_ok (is_within (length (list_of ds)) (upper_of meta parent.feature)) Bound (items_rows meta ids (Some parent) (Some target) [] ds) more
        (unless_ok (not (is_one (upper_of meta parent.feature))) WrongType
        (unless (is_within (length (list_of ds)) (upper_of meta parent.feature)) Bound (items_rows meta ids (Some parent) (Some target) [] ds))
        more h))
    held_behind ids parent target (boolean b) more before h = cc
    held_behind ids parent target (number n) more before h = cc
    held_behind ids parent target (string s) more before h = cc

  walked_behind : (d : Data) (more : List ElementDraft) → walked meta d ≡ Ok more → behind 0 (parents more) ≡ true
  walked_behind (array ds) more h = items_behind [] None None [] ds more refl refl h
  walked_behind (object ms) more h = element_behind [] None None (object ms) more refl h
  walked_behind null more h = cc
  walked_behind (boolean b) more h = cc
  walked_behind (number n) more h = cc
  walked_behind (string s) more h = cc

rows_behind : (n : ℕ) (rows : List DocRow) → parents_before n rows ≡ behind n (map (λ (r : DocRow). r.parent) rows)
rows_behind n [] = refl
rows_behind n (r ∷ rows) = ap (λ b. parent_before n r.parent && b) (rows_behind (suc n) rows)

of_data : (meta : Meta) (o : Option Data) (rows : List DocRow) → of_json meta o ≡ Ok rows → parents_before 0 rows ≡ true
of_data meta None rows h = cc
of_data meta (Some d) rows h =
    let drafts = then_ok (walked meta d) (resolved meta) rows h in
    let given = then_ok (given_by meta drafts.0) (λ given. rows_by meta given drafts.0) rows drafts.2 in
    rows_behind 0 rows ∙ ap (behind 0)
    (rows_keep meta (λ (r : ElementDraft). r.parent) (λ (r : DocRow). r.parent) (λ r refs. refl) given.0 [] drafts.0 rows given.2)
    ∙ walked_behind meta d drafts.0 drafts.1

pub parents_first : ParentsComeFirst
unfolding doc_of
parents_first meta text rows h = of_data meta (read text) rows h
