-- The walk over a list of elements and over the keys of an object, from what it gives at each.
use Rattle.std.proofs.Common.{◌≡◌, ℕ, ◌+◌, List, [], ◌∷◌, ◌++◌, length, map, sym, ap, subst, ◌∙◌, arith, append_assoc, append-nil, length-append}
use Rattle.std.specs.Prelude.{Option, None, Some, Ok}
use Rattle.std.specs.List.{AllByRecursion}
use Rattle.std.proofs.lemmas.List.{length-map}
use Rattle.serde_json.specs.Data.{Data}
use Rattle.serde_json.specs.View.{items_of}
use Rattle.ecore_meta.specs.Meta.{Meta}
use Rattle.model_state.specs.Keys.{IdBytes}
use Rattle.model_state.specs.State.{State}
use Rattle.model_documents.specs.declared.doc.DocParent.{DocParent}
use Rattle.model_documents.specs.Parts.{Part, no_part, joined, Ids, ids_of}
use Rattle.model_documents.specs.Reads.{Read, «then»}
use Rattle.model_documents.specs.Walk.{element_rows, held_rows, items_rows, key_named, key_part, members_rows}
use Rattle.model_documents.proofs.IdLists.{ids_append}
use Rattle.model_texts.specs.Keys.{key_name}
use Rattle.model_texts.specs.Tree.{members, with_member}
use Rattle.round_trip.proofs.KeysTypes.{ElementDraft, Key}
use Rattle.round_trip.proofs.WalksRows.{Come, forest, key_attrs, key_links, key_part_told, key_rows, keys_attrs, keys_links, keys_rows, told}

-- ids that come are some and then others
pub come_first : (ids xs ys : Ids) → Come ids (xs ++ ys) → Come ids xs
come_first ids [] ys h = tt
come_first ids (x ∷ xs) ys h = (h.0, come_first (ids ++ x ∷ []) xs ys h.1)

pub come_second : (ids xs ys : Ids) → Come ids (xs ++ ys) → Come (ids ++ xs) ys
come_second ids [] ys h = subst (λ zs. Come zs ys) (sym (append-nil ids)) h
come_second ids (x ∷ xs) ys h = subst (λ zs. Come zs ys) (append_assoc ids (x ∷ []) xs) (come_second (ids ++ x ∷ []) xs ys h.1)

pub ids_length : (ids : Ids) (rows : List ElementDraft) → length (ids ++ ids_of rows) ≡ length ids + length rows
ids_length ids rows = length-append ids (ids_of rows) ∙ ap (λ n. length ids + n) (length-map rows (λ (r : ElementDraft). r.id))

-- after the rows so far
pub behind_rows : (ids : Ids) (rows more : List ElementDraft) → (ids ++ ids_of rows) ++ ids_of more ≡ ids ++ ids_of (rows ++ more)
behind_rows ids rows more = append_assoc ids (ids_of rows) (ids_of more) ∙ ap (λ xs. ids ++ xs) (sym (ids_append rows more))

come_parts : (ids : Ids) (xs ys : List ElementDraft) → Come ids (ids_of (xs ++ ys)) → Come ids (ids_of xs) × Come (ids ++ ids_of xs) (ids_of ys)
come_parts ids xs ys h =
    let h' : Come ids (ids_of xs ++ ids_of ys) = subst (Come ids) (ids_append xs ys) h in
    (come_first ids (ids_of xs) (ids_of ys) h', come_second ids (ids_of xs) (ids_of ys) h')

counted : (ids : Ids) (rows here : List ElementDraft) → length (ids ++ ids_of rows) + length here ≡ length (ids ++ ids_of (rows ++ here))
counted ids rows here = sym (ids_length (ids ++ ids_of rows) here) ∙ ap length (behind_rows ids rows here)

-- ---- elements in a list
module _ (meta : Meta) (below : ℕ → Option DocParent → IdBytes → List ElementDraft) (whole : IdBytes → Data) (parent : Option DocParent)
    (default : Option ℕ) where
  -- the walk of an element gives its rows, after whatever ids have come
  abbrev pub Walked : IdBytes → Type 0
  Walked c = (ids : Ids) → Come ids (ids_of (below (length ids) parent c)) → element_rows meta ids parent default (whole c) ≡ Ok (below (length ids) parent c)

  pub items_walk : (ids : Ids) (cs : List IdBytes) (rows : List ElementDraft) (k : ℕ) → k ≡ length (ids ++ ids_of rows) → AllByRecursion Walked cs
      → Come (ids ++ ids_of rows) (ids_of (forest below k parent cs))
      → items_rows meta ids parent default rows (items_of (map whole cs)) ≡ Ok (rows ++ forest below k parent cs)
  unfolding items_rows
  items_walk ids [] rows k at all come = ap (λ rs. Ok rs) (sym (append-nil rows))
  items_walk ids (c ∷ cs) rows k at all come =
      let here = below k parent c in
      let rest = forest below (k + length here) parent cs in
      let parts = come_parts (ids ++ ids_of rows) here rest come in
      let first : element_rows meta (ids ++ ids_of rows) parent default (whole c) ≡ Ok here =
      subst (λ n. Come (ids ++ ids_of rows) (ids_of (below n parent c))
      → element_rows meta (ids ++ ids_of rows) parent default (whole c) ≡ Ok (below n parent c)) (sym at) (all.0 (ids ++ ids_of rows)) parts.0 in
      ap (λ r. «then» r (λ more. items_rows meta ids parent default (rows ++ more) (items_of (map whole cs)))) first
      ∙ items_walk ids cs (rows ++ here) (k + length here) (ap (λ n. n + length here) at ∙ counted ids rows here) all.1
      (subst (λ zs. Come zs (ids_of rest)) (behind_rows ids rows here) parts.1)
      ∙ ap (λ rs. Ok rs) (append_assoc rows here rest)

-- ---- the keys of an object
no_part_joined : (part : Part) → joined part no_part ≡ part
no_part_joined part = λ i. record { attrs = append-nil part.attrs i; links = append-nil part.links i; rows = append-nil part.rows i }

joined_assoc : (p q r : Part) → joined (joined p q) r ≡ joined p (joined q r)
joined_assoc p q r = λ i.
    record { attrs = append_assoc p.attrs q.attrs r.attrs i; links = append_assoc p.links q.links r.links i; rows = append_assoc p.rows q.rows r.rows i }

module _ (meta : Meta) (m : State) (e : IdBytes) (below : ℕ → Option DocParent → IdBytes → List ElementDraft) (own c : ℕ) (p : Key → Option Data) where
  -- what the value at a key gives
  abbrev at_key : Ids → List ℕ → Data → Read Part
  at_key ids name d = key_part meta (key_named meta c name) d (λ f target. held_rows meta ids (record { row = own; feature = f }) target d)

  -- what stands under a key gives what it is to give, after whatever ids have come
  abbrev pub KeyOk : Key → Option Data → Type 0
  KeyOk key None = (key_attrs meta m e key ≡ []) × (key_links meta m e key ≡ []) × ((k : ℕ) → key_rows meta m e below own k key ≡ [])
  KeyOk key (Some d) = (ids : Ids) → Come ids (ids_of (key_rows meta m e below own (length ids) key))
      → at_key ids (key_name meta key) d ≡ Ok (key_part_told meta m e below own (length ids) key)

  none_told : (key : Key) (keys : List Key) (k : ℕ) → KeyOk key None → told meta m e below own k keys ≡ told meta m e below own k (key ∷ keys)
  none_told key keys k ok = λ i. record {
    attrs = ap (λ xs. xs ++ keys_attrs meta m e keys) (sym ok.0) i;
    links = ap (λ xs. xs ++ keys_links meta m e keys) (sym ok.1) i;
    rows = (ap (λ (n : ℕ). keys_rows meta m e below own n keys) (none_more k (key_rows meta m e below own k key) (ok.2 k))
        ∙ ap (λ xs. xs ++ keys_rows meta m e below own (k + length (key_rows meta m e below own k key)) keys) (sym (ok.2 k))) i;
  }
    where
      none_more : (k : ℕ) (xs : List ElementDraft) → xs ≡ [] → k ≡ k + length xs
      none_more k xs h = let l = ap length h in omega arith

  -- the walk over the keys, after what the keys before gave
  abbrev Goes : Ids → List Key → Type 0
  Goes ids keys =
      (sofar : Part) (k : ℕ) → k ≡ length (ids ++ ids_of sofar.rows) → Come (ids ++ ids_of sofar.rows) (ids_of (keys_rows meta m e below own k keys))
      → members_rows meta c own ids sofar (members (key_name meta) p keys) ≡ Ok (joined sofar (told meta m e below own k keys))

  one_key : (ids : Ids) (key : Key) (keys : List Key) (o : Option Data) → KeyOk key o → Goes ids keys
      → (sofar : Part) (k : ℕ) → k ≡ length (ids ++ ids_of sofar.rows) → Come (ids ++ ids_of sofar.rows) (ids_of (keys_rows meta m e below own k (key ∷ keys)))
      → members_rows meta c own ids sofar (with_member (key_name meta key) o (members (key_name meta) p keys)) ≡ Ok
      (joined sofar (told meta m e below own k (key ∷ keys)))
  unfolding members_rows
  one_key ids key keys None ok goes sofar k at come =
      goes sofar k at (subst (λ (q : Part). Come (ids ++ ids_of sofar.rows) (ids_of q.rows)) (sym (none_told key keys k ok)) come)
      ∙ ap (λ (q : Part). Ok (joined sofar q)) (none_told key keys k ok)
  one_key ids key keys (Some d) ok goes sofar k at come =
      let here = key_rows meta m e below own k key in
      let rest = keys_rows meta m e below own (k + length here) keys in
      let parts = come_parts (ids ++ ids_of sofar.rows) here rest come in
      let first : at_key (ids ++ ids_of sofar.rows) (key_name meta key) d ≡ Ok (key_part_told meta m e below own k key) =
      subst (λ n. Come (ids ++ ids_of sofar.rows) (ids_of (key_rows meta m e below own n key))
      → at_key (ids ++ ids_of sofar.rows) (key_name meta key) d ≡ Ok (key_part_told meta m e below own n key)) (sym at)
      (ok (ids ++ ids_of sofar.rows)) parts.0 in
      ap (λ r. «then» r (λ more. members_rows meta c own ids (joined sofar more) (members (key_name meta) p keys))) first
      ∙ goes (joined sofar (key_part_told meta m e below own k key)) (k + length here) (ap (λ n. n + length here) at ∙ counted ids sofar.rows here)
      (subst (λ zs. Come zs (ids_of rest)) (behind_rows ids sofar.rows here) parts.1)
      ∙ ap (λ (q : Part). Ok q) (joined_assoc sofar (key_part_told meta m e below own k key) (told meta m e below own (k + length here) keys))

  pub members_walk : (ids : Ids) (keys : List Key) → AllByRecursion (λ key. KeyOk key (p key)) keys → Goes ids keys
  unfolding members_rows
  members_walk ids [] all sofar k at come = ap (λ (q : Part). Ok q) (sym (no_part_joined sofar))
  members_walk ids (key ∷ keys) all sofar k at come = one_key ids key keys (p key) all.0 (members_walk ids keys all.1) sofar k at come
