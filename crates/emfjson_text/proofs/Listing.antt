-- How the text of an object, or of a list of elements, begins and goes on.
use Rattle.std.proofs.Common.{◌≡◌, ℕ, ◌+◌, zero, suc, ◌<◌, ◌≤◌, nat_eq, nat_lt, Bool, true, false, List, [], ◌∷◌, ◌++◌, length, refl, sym, ap, ◌∙◌}
use Rattle.std.proofs.Common.{arith, map, drop, append_assoc, get_or}
use Rattle.std.specs.Prelude.{Option, None, Some, slice_get, unwrap_or}
use Rattle.std.proofs.lemmas.Bool.Decides.{nat_tests}
use Rattle.std.specs.FinMap.{get}
use Rattle.json.specs.Print.{quoted}
use Rattle.serde_json.specs.Data.{Data, array, Members, no_members}
use Rattle.serde_json.specs.View.{items_of}
use Rattle.serde_json.specs.Written.{compact_text, items_text, members_text, comma_if}
use Rattle.ecore_meta.specs.Meta.{Meta}
use Rattle.model_state.specs.declared.entry.Entry.{Entry}
use Rattle.model_state.specs.Keys.{IdBytes}
use Rattle.model_state.specs.State.{State}
use Rattle.emfjson_text.specs.declared.frame.Frame.TheVariants.{Array as ArrayFrame}
use Rattle.model_texts.specs.declared.key.Key.{Key}
use Rattle.emfjson_text.specs.declared.part.Found.{Found}
use Rattle.emfjson_text.specs.declared.part.Part.{Part}
use Rattle.emfjson_text.specs.declared.part.Part.TheVariants.{Absent, Leaf, Elements}
use Rattle.emfjson_text.specs.Frames.{Finds, frame_text, is_absent, key_text, members_from, only, part_text, shown, text_if}
use Rattle.model_texts.specs.Keys.{key_name, keys_of}
use Rattle.model_texts.specs.Laws.{IsNested}
use Rattle.model_texts.specs.Tree.{entry_ids, members, object_of, one_or_list, part, whole, with_member}

cc_some : {A : Type 0} (x y : A) → Some x ≡ Some y → x ≡ y
cc_some x y h = cc

-- a list that is not written as one object is an array
pub not_one : (f : IdBytes → Data) (single : Bool) (es : List Entry) → None ≡ only single es
    → one_or_list single (map f (entry_ids es)) ≡ array (items_of (map f (entry_ids es)))
not_one f single [] is = refl
not_one f false (x ∷ []) is = refl
not_one f true (x ∷ []) is = cc
not_one f false (x ∷ y ∷ es) is = refl
not_one f true (x ∷ y ∷ es) is = refl

-- a key has a byte
pub key_some : (later : Bool) (k : List ℕ) → 1 ≤ length (key_text later k) + 0
key_some true k = omega arith
key_some false k = omega arith

pub below_length : {A : Type 0} (xs : List A) (n : ℕ) (x : A) → Some x ≡ slice_get xs n → n < length xs
below_length [] n x is = cc
below_length (y ∷ ys) zero x is = omega arith
below_length (y ∷ ys) (suc n) x is = let l = below_length ys n x is in omega arith

-- the entry at a place, and those after it
pub split_at : {A : Type 0} (xs : List A) (n : ℕ) (x : A) → Some x ≡ slice_get xs n → drop n xs ≡ x ∷ drop (n + 1) xs
split_at [] zero x is = cc
split_at [] (suc n) x is = cc
split_at (y ∷ ys) zero x is = ap (λ z. z ∷ ys) (cc_some y x (sym is))
split_at (y ∷ ys) (suc n) x is = split_at ys n x is ∙ ap (λ k. x ∷ drop k (y ∷ ys)) (next_is n)
  where
    next_is : (n : ℕ) → suc (n + 1) ≡ suc n + 1
    next_is n = omega arith

pub dropped : {A : Type 0} (xs : List A) (n : ℕ) → length xs ≤ n → drop n xs ≡ []
dropped [] zero h = refl
dropped [] (suc n) h = refl
dropped (x ∷ xs) zero h = absurd (none_of _ h)
  where
    none_of : (n : ℕ) → suc n ≤ 0 → ⊥
    none_of n h = omega arith
dropped (x ∷ xs) (suc n) h = dropped xs n (omega arith)

-- what is not there has no place
pub past_end : {A : Type 0} (xs : List A) (n : ℕ) → None ≡ slice_get xs n → drop n xs ≡ []
past_end [] zero h = refl
past_end [] (suc n) h = refl
past_end (x ∷ xs) zero h = cc
past_end (x ∷ xs) (suc n) h = past_end xs n h

pub entry_at : {A : Type 0} (xs : List A) (n : ℕ) (d : A) → n < length xs → Some (get_or xs n d) ≡ slice_get xs n
entry_at [] n d h = absurd (omega arith)
entry_at (x ∷ xs) zero d h = refl
entry_at (x ∷ xs) (suc n) d h = entry_at xs n d (omega arith)

shuffle : (a b : List ℕ) → a ++ 58 ∷ b ≡ (a ++ 58 ∷ []) ++ b
shuffle a b = sym (append_assoc a (58 ∷ []) b)

not_zero : (n : ℕ) → nat_eq (suc n) 0 ≡ true → ⊥
not_zero n h = grind (arith, nat_tests)

pub comma_yes : (n : ℕ) → 0 < n → comma_if (nat_lt 0 n) ≡ 44 ∷ []
comma_yes n h = ap comma_if (less n h)
  where
    less : (n : ℕ) → 0 < n → nat_lt 0 n ≡ true
    less n h = grind (arith, nat_tests)

pub comma_no : (n : ℕ) → n ≤ 0 → comma_if (nat_lt 0 n) ≡ []
comma_no n h = ap comma_if (less n h)
  where
    less : (n : ℕ) → n ≤ 0 → nat_lt 0 n ≡ false
    less n h = grind (arith, nat_tests)

later_is : (n : ℕ) → nat_lt 0 (n + 1) ≡ true
later_is n = grind (arith, nat_tests)

-- a part that is not absent has its text, which is that of some data
text_of : (o : Option Data) (t : List ℕ) → text_if o ≡ Some t → (d : Data) × (o ≡ Some d) × (compact_text d ≡ t)
text_of None t h = cc
text_of (Some d) t h = (d, refl, cc_some _ _ h)

nothing_of : (o : Option Data) → text_if o ≡ None → o ≡ None
nothing_of None h = refl
nothing_of (Some d) h = cc

nothing_shown : (below : IdBytes → Data) (p : Part) → is_absent p ≡ true → shown below p ≡ None
nothing_shown below Absent h = refl
nothing_shown below (Leaf t) h = cc
nothing_shown below (Elements single []) h = refl
nothing_shown below (Elements single (x ∷ xs)) h = absurd (not_zero (length xs) h)

something_shown : (below : IdBytes → Data) (p : Part) → is_absent p ≡ false → shown below p ≡ Some (unwrap_or (shown below p) [])
something_shown below Absent h = cc
something_shown below (Leaf t) h = refl
something_shown below (Elements single []) h = cc
something_shown below (Elements single (x ∷ xs)) h = refl

module _ (meta : Meta) (m : State) where
  pub opened : IsNested meta m → (e : IdBytes) (c : ℕ) (keys : List Key) → keys ≡ keys_of meta c → Some c ≡ get m.kind e
      → compact_text (whole meta m e) ≡ 123 ∷ members_text false (members_from meta m e c keys 0)
  unfolding members_from
  opened nested e c keys are is =
      ap compact_text (nested e ∙ ap (object_of meta m (whole meta m) e) (sym is))
      ∙ ap (λ ks. 123 ∷ members_text false (members (key_name meta) (part meta m (whole meta m) e c) ks)) (sym are)

  pub item_begun : (entries : List Entry) (next : ℕ) (x : Entry) → Some x ≡ slice_get entries next
      → frame_text meta m (ArrayFrame entries next) ≡ comma_if (nat_lt 0 next)
      ++ (compact_text (whole meta m x.id) ++ frame_text meta m (ArrayFrame entries (next + 1)))
  item_begun entries next x is =
      ap (λ xs. items_text (nat_lt 0 next) (items_of (map (whole meta m) (entry_ids xs)))) (split_at entries next x is)
      ∙ ap (λ later. comma_if (nat_lt 0 next)
      ++ (compact_text (whole meta m x.id) ++ items_text later (items_of (map (whole meta m) (entry_ids (drop (next + 1) entries))))))
      (sym (later_is next))

  pub items_ended : (entries : List Entry) (next : ℕ) → None ≡ slice_get entries next → frame_text meta m (ArrayFrame entries next) ≡ 93 ∷ []
  items_ended entries next is = ap (λ xs. items_text (nat_lt 0 next) (items_of (map (whole meta m) (entry_ids xs)))) (past_end entries next is)

  module _ (e : IdBytes) (c : ℕ) (keys : List Key) where
    pub key_found : (at : ℕ) (k : Key) → Some k ≡ slice_get keys at
        → members_from meta m e c keys at ≡ with_member (key_name meta k) (part meta m (whole meta m) e c k) (members_from meta m e c keys (at + 1))
    unfolding members_from
    key_found at k is = ap (members (key_name meta) (part meta m (whole meta m) e c)) (split_at keys at k is)

    pub key_absent : (at : ℕ) (k : Key) (p : Part) → Some k ≡ slice_get keys at → shown (whole meta m) p ≡ text_if (part meta m (whole meta m) e c k)
        → is_absent p ≡ true → members_from meta m e c keys at ≡ members_from meta m e c keys (at + 1)
    key_absent at k p is holds none =
        key_found at k is ∙ ap (λ o. with_member (key_name meta k) o (members_from meta m e c keys (at + 1)))
        (nothing_of _ (sym holds ∙ nothing_shown (whole meta m) p none))

    pub no_more : (at : ℕ) → length keys ≤ at → members_from meta m e c keys at ≡ no_members
    unfolding members_from
    no_more at is = ap (members (key_name meta) (part meta m (whole meta m) e c)) (dropped keys at is)

    pub member_begun : (next : ℕ) (later : Bool) (found : Found) → Finds meta m e c keys next (Some found)
        → members_text later (members_from meta m e c keys next) ≡ key_text later (key_name meta found.key)
        ++ (part_text meta m found.part ++ members_text true (members_from meta m e c keys found.after))
    member_begun next later found is =
        let held = text_of (part meta m (whole meta m) e c found.key) (part_text meta m found.part)
        (sym is.1 ∙ something_shown (whole meta m) found.part is.2) in
        ap (members_text later) is.0
        ∙ begun (key_name meta found.key) later (part meta m (whole meta m) e c found.key) held.0 held.1 (members_from meta m e c keys found.after)
        ∙ ap (λ t. key_text later (key_name meta found.key) ++ (t ++ members_text true (members_from meta m e c keys found.after))) held.2
      where
        begun : (name : List ℕ) (later : Bool) (o : Option Data) (d : Data) → o ≡ Some d → (ms : Members)
            → members_text later (with_member name o ms) ≡ key_text later name ++ (compact_text d ++ members_text true ms)
        begun name later None d is ms = cc
        begun name true (Some x) d is ms =
            ap (λ t. 44 ∷ t) (shuffle (quoted name) (compact_text x ++ members_text true ms))
            ∙ ap (λ z. key_text true name ++ (compact_text z ++ members_text true ms)) (cc_some x d is)
        begun name false (Some x) d is ms =
            shuffle (quoted name) (compact_text x ++ members_text true ms)
            ∙ ap (λ z. key_text false name ++ (compact_text z ++ members_text true ms)) (cc_some x d is)
