-- Values that are put together from others: their faults.
use Rattle.std.proofs.Common.{◌≡◌, ◌⊎◌, inl, inr, ℕ, zero, suc, ◌+◌, ◌<◌, ◌≤◌, ◌^◌, List, [], ◌∷◌, ◌++◌, All, map, length, drop, Bool, true, false}
use Rattle.std.proofs.Common.{cond, nat_eq, Option, Some, None, Result, Ok, Err, refl, sym, ap, subst, ◌∙◌, append-nil, arith}
use Rattle.std.specs.Int.{w32}
use Rattle.std.proofs.lemmas.Bool.{eqb-true}
use Rattle.std.proofs.lemmas.List.Elements.{All-cons}
use Rattle.byte_form.specs.Rest.{Rest}
use Rattle.byte_form.specs.Fields.{◌>>=◌, byte_at, u32_encoding}
use Rattle.byte_form.specs.Laws.{at, AreBytes}
use Rattle.op_reading.specs.declared.fault.FormFault.{FormFault}
use Rattle.op_reading.specs.declared.fault.FormFault.TheVariants.{NotForm}
use Rattle.op_reading.specs.Reading.{Reading, made, ◌⊗◌, u8_at, u32_at, option_at, items_at, list_at, some_at}
use Rattle.op_form.specs.Lists.{option_encoding, items_encoding, list_encoding}
use Rattle.op_form.specs.Formed.{IsGiven, IsList, IsSomeList}
use Rattle.op_reading.proofs.Codes.{Codes, are_bytes_behind, both, u32_codes, option_codes, list_codes, some_codes}
use Rattle.form_laws.specs.Fields.{Field, Byte, Number, fields_encoding, IsSameUpTo}
use Rattle.form_laws.specs.Events.{option_fields, items_fields, list_fields}
use Rattle.form_laws.proofs.Ends.{same_all, same_past, fields_joined}
use Rattle.form_laws.proofs.Faults.{Fault, Exact, err_is, behind, at_first, number_fails}
use Rattle.form_laws.proofs.Texts.{number_length}

pub made_fails : {X Y : Type 0} (make : X → Y) (r : Result (X × Rest) FormFault) (fault : FormFault) → made make r ≡ Err fault → r ≡ Err fault
made_fails make (Ok x) fault e = cc
made_fails make (Err f) fault e = ap Err (sym (err_is f fault e))

-- one after another
module _ {A B : Type 0} {IsA : A → Type 0} {IsB : B → Type 0} {form_a : A → List ℕ} {form_b : B → List ℕ} {read_a : Reading A} {read_b : Reading B}
    {a : Codes IsA form_a read_a} {b : Codes IsB form_b read_b} {fields_a : A → List Field} {fields_b : B
    → List Field} (exact_a : Exact a fields_a) (exact_b : Exact b fields_b) where
  abbrev pair_fault : List ℕ → ℕ → FormFault → Type 0
  pair_fault bytes offset fault = Fault (λ p. IsA p.0 × IsB p.1) (λ p. fields_a p.0 ++ fields_b p.1) (read_a ⊗ read_b) bytes offset fault

  -- what stands behind the first
  abbrev pair_from : A × Rest → Result ((A × B) × Rest) FormFault
  pair_from x = made (λ y. (x.0, y)) (read_b x.1)

  both_faults : (bytes : List ℕ) (offset : ℕ) → AreBytes bytes → (fault : FormFault) → (r : Result (A × Rest) FormFault) → read_a (at bytes offset) ≡ r
      → (r >>= pair_from) ≡ Err fault → pair_fault bytes offset fault
  both_faults bytes offset are fault (Err f) read e =
      let same : fault ≡ f = err_is f fault e in
      subst (pair_fault bytes offset) (sym same)
      (behind [] [] bytes offset offset f refl (omega arith) (λ x is. ((x, exact_b.sample), (is, exact_b.has), fields_b exact_b.sample, refl))
      (λ other err. ap (λ r. r >>= pair_from) err) (exact_a.faults bytes offset are f read))
  both_faults bytes offset are fault (Ok x) read e =
      let s = a.spelled (at bytes offset) are x.0 x.1 read in
      let are_behind = are_bytes_behind (form_a x.0) x.1.bytes (subst AreBytes s.bytes are) in
      let f = exact_b.faults x.1.bytes x.1.offset are_behind fault (made_fails (λ y. (x.0, y)) (read_b x.1) fault e) in
      subst (λ bs. pair_fault bs offset fault) (sym s.bytes)
      (behind (fields_a x.0) (form_a x.0) x.1.bytes offset x.1.offset fault (sym (exact_a.encoded x.0)) s.offset
      (λ y is. ((x.0, y), (s.is, is), [], ap (λ fs. fields_a x.0 ++ fs) (sym (append-nil (fields_b y)))))
      (λ other err. ap (λ r. r >>= pair_from) (a.again x.0 s.is other offset) ∙ ap (λ k. pair_from (x.0, at other k)) (sym s.offset)
      ∙ ap (made (λ y. (x.0, y))) err) f)

  pub both_exact : Exact (both a b) (λ p. fields_a p.0 ++ fields_b p.1)
  both_exact = record {
    sample = (exact_a.sample, exact_b.sample);
    has = (exact_a.has, exact_b.has);
    encoded = λ p. (λ i. exact_a.encoded p.0 i ++ exact_b.encoded p.1 i) ∙ sym (fields_joined (fields_a p.0) (fields_b p.1));
    faults = λ bytes offset are fault e. both_faults bytes offset are fault (read_a (at bytes offset)) refl e;
  }

-- a value whose first field is a kind's byte
abbrev pub IsTagged : {Y : Type 0} → (Y → Type 0) → (Y → List Field) → ℕ → Y → Type 0
IsTagged IsY fields_y tag y = IsY y × (fields_y y ≡ Byte tag ∷ drop 1 (fields_y y))

-- a kind's byte, how what stands behind it is read, and that its faults are at such places
pub record Row {Y : Type 0} (IsY : Y → Type 0) (fields_y : Y → List Field) : Type 0 where
  pub tag : ℕ
  pub read : Reading Y
  pub faults : (bytes : List ℕ) (offset : ℕ) → AreBytes bytes → (fault : FormFault) → read (at bytes offset) ≡ Err fault
      → Fault (IsTagged IsY fields_y tag) (λ y. drop 1 (fields_y y)) read bytes offset fault

-- a kind of values that is made of others
abbrev pub known : {X Y : Type 0} {Is : X → Type 0} {form : X → List ℕ} {read : Reading X} {codes : Codes Is form read} {fields : X → List Field}
    → Exact codes fields
    → (IsY : Y → Type 0) (fields_y : Y → List Field) (make : X → Y) (tag : ℕ) → ((x : X) → Is x → IsY (make x))
    → ((x : X) → Is x → fields_y (make x) ≡ Byte tag ∷ fields x) → Row IsY fields_y
known {read} {fields} exact IsY fields_y make tag is_made fields_made = record {
  tag = tag;
  read = λ r. made make (read r);
  faults = λ bytes offset are fault e.
      behind [] [] bytes offset offset fault refl (omega arith)
      (λ x is. (
        make x,
        (is_made x is, fields_made x is ∙ ap (λ fs. Byte tag ∷ drop 1 fs) (sym (fields_made x is))),
        [],
        ap (drop 1) (fields_made x is) ∙ sym (append-nil (fields x)),
      ))
      (λ other err. ap (made make) err) (exact.faults bytes offset are fault (made_fails make (read (at bytes offset)) fault e));
}

pub never : {Y : Type 0} {G : Type 0} (y : Y × Rest) (fault : FormFault) → ◌≡◌ {A = Result (Y × Rest) FormFault} (Ok y) (Err fault) → G
never y fault e = cc

-- a value of its byte alone
abbrev pub lone : {Y : Type 0} (IsY : Y → Type 0) (fields_y : Y → List Field) (tag : ℕ) (y : Y) → Row IsY fields_y
lone IsY fields_y tag y = record { tag = tag; read = λ r. Ok (y, r); faults = λ bytes offset are fault e. never (y, at bytes offset) fault e }

abbrev pub plain : {Y : Type 0} {IsY : Y → Type 0} {fields_y : Y → List Field} → Row IsY fields_y → ℕ × Reading Y
plain row = (row.tag, row.read)

-- what the byte chooses of these
abbrev pub chosen_in : {Y : Type 0} → List (ℕ × Reading Y) → ℕ → ℕ × Rest → Result (Y × Rest) FormFault
chosen_in [] offset kind = Err (NotForm offset)
chosen_in (row ∷ rows) offset kind = cond (nat_eq kind.0 row.0) (row.1 kind.1) (chosen_in rows offset kind)

module _ {Y : Type 0} {IsY : Y → Type 0} {fields_y : Y → List Field} where
  -- the byte is a row's, and chooses its reading
  abbrev Chosen : List (Row IsY fields_y) → ℕ → Type 0
  Chosen rows n = (row : Row IsY fields_y) × (n ≡ row.tag) × ((offset : ℕ) (mid : Rest) → chosen_in (map plain rows) offset (n, mid) ≡ row.read mid)

  -- the byte is no row's
  abbrev NotChosen : List (Row IsY fields_y) → ℕ → Type 0
  NotChosen rows n = (offset : ℕ) (mid : Rest) → chosen_in (map plain rows) offset (n, mid) ≡ Err (NotForm offset)

  outcome : (rows : List (Row IsY fields_y)) (n : ℕ) → Chosen rows n ⊎ NotChosen rows n
  outcome [] n = inr (λ offset mid. refl)
  outcome (row ∷ rows) n = by (nat_eq n row.tag) refl (outcome rows n)
    where
      by : (b : Bool) → nat_eq n row.tag ≡ b → Chosen rows n ⊎ NotChosen rows n → Chosen (row ∷ rows) n ⊎ NotChosen (row ∷ rows) n
      by true e found = inl (row, eqb-true n row.tag e, λ offset mid. ap (λ b. cond b (row.read mid) (chosen_in (map plain rows) offset (n, mid))) e)
      by false e (inl found) =
          inl (found.0, found.1, λ offset mid. ap (λ b. cond b (row.read mid) (chosen_in (map plain rows) offset (n, mid))) e ∙ found.2 offset mid)
      by false e (inr none) = inr (λ offset mid. ap (λ b. cond b (row.read mid) (chosen_in (map plain rows) offset (n, mid))) e ∙ none offset mid)

  module _ (rows : List (Row IsY fields_y)) (sample : Y) (has : IsY sample) (n : ℕ) (more : List Field) (first : fields_y sample ≡ Byte n ∷ more) where
    abbrev tagged : Reading Y
    tagged r = u8_at r >>= chosen_in (map plain rows) r.offset

    pub tagged_faults : (bytes : List ℕ) (offset : ℕ) → AreBytes bytes → (fault : FormFault) → tagged (at bytes offset) ≡ Err fault
        → Fault IsY fields_y tagged bytes offset fault
    unfolding byte_at
    tagged_faults [] offset are fault e =
        at_first IsY fields_y tagged sample has [] offset fault (Byte n) more first (err_is (NotForm offset) fault e)
        (λ other same. ap (λ bs. tagged (at bs offset)) (same_all 1 [] other (omega arith) same) ∙ e)
    tagged_faults (b ∷ bytes) offset are fault e = elim (outcome rows b) [
      | inl o ↦
          behind (Byte b ∷ []) (b ∷ []) bytes offset (offset + 1) fault refl (omega arith)
          (λ y is. (y, is.0, [], is.1 ∙ ap (λ k. Byte k ∷ drop 1 (fields_y y)) (sym o.1) ∙ ap (λ fs. Byte b ∷ fs) (sym (append-nil (drop 1 (fields_y y))))))
          (λ other err. o.2 offset (at other (offset + 1)) ∙ err)
          (o.0.faults bytes (offset + 1) (are_bytes_behind (b ∷ []) bytes are) fault (sym (o.2 offset (at bytes (offset + 1))) ∙ e))
      | inr none ↦
          let is : fault ≡ NotForm offset = err_is (NotForm offset) fault (sym (none offset (at bytes (offset + 1))) ∙ e) in
          at_first IsY fields_y tagged sample has (b ∷ bytes) offset fault (Byte n) more first is
          (λ other same.
          let m = same_past (b ∷ []) 0 1 bytes other (omega arith) same in
          ap (λ bs. tagged (at bs offset)) m.1 ∙ none offset (at m.0 (offset + 1)) ∙ ap Err (sym is))
    ]

module _ {X : Type 0} {Is : X → Type 0} {form : X → List ℕ} {read : Reading X} {codes : Codes Is form read} {fields : X → List Field}
    (exact : Exact codes fields) where
  option_rows : List (Row (IsGiven Is) (option_fields fields))
  option_rows =
      lone (IsGiven Is) (option_fields fields) 0 None ∷ known exact (IsGiven Is) (option_fields fields) (λ x. Some x) 1 (λ x is. is) (λ x is. refl) ∷ []

  option_encoded : (o : Option X) → option_encoding form o ≡ fields_encoding (option_fields fields o)
  option_encoded None = refl
  option_encoded (Some x) = ap (λ bs. 1 ∷ bs) (exact.encoded x)

  pub option_exact : Exact (option_codes codes) (option_fields fields)
  unfolding option_at option_rows
  option_exact = record {
    sample = None;
    has = tt;
    encoded = option_encoded;
    faults = λ bytes offset are fault e. tagged_faults option_rows None tt 0 [] refl bytes offset are fault e;
  }

  items_encoded : (xs : List X) → items_encoding form xs ≡ fields_encoding (items_fields fields xs)
  items_encoded [] = refl
  items_encoded (x ∷ xs) = (λ i. exact.encoded x i ++ items_encoded xs i) ∙ sym (fields_joined (fields x) (items_fields fields xs))

  list_encoded : (xs : List X) → list_encoding form xs ≡ fields_encoding (list_fields fields xs)
  list_encoded xs = ap (λ bs. u32_encoding (length xs) ++ bs) (items_encoded xs)

  -- so many items
  abbrev IsItems : ℕ → List X → Type 0
  IsItems n xs = (length xs ≡ n) × All Is xs

  samples : (n : ℕ) → (xs : List X) × IsItems n xs
  samples zero = ([], (refl, λ k d lt. absurd (omega (arith, lt))))
  samples (suc n) = let more = samples n in (exact.sample ∷ more.0, (ap suc more.1.0, All-cons Is exact.sample more.0 exact.has more.1.1))

  -- what stands behind the first item
  abbrev items_from : ℕ → X × Rest → Result (List X × Rest) FormFault
  items_from n x = made (λ xs. x.0 ∷ xs) (items_at read n x.1)

  items_step : (n : ℕ) → ((bytes : List ℕ) (offset : ℕ) → AreBytes bytes → (fault : FormFault) → items_at read n (at bytes offset) ≡ Err fault
      → Fault (IsItems n) (items_fields fields) (items_at read n) bytes offset fault)
      → (bytes : List ℕ) (offset : ℕ) → AreBytes bytes → (fault : FormFault) → (r : Result (X × Rest) FormFault) → read (at bytes offset) ≡ r
      → (r >>= items_from n) ≡ Err fault
      → Fault (IsItems (suc n)) (items_fields fields) (items_at read (suc n)) bytes offset fault
  items_step n more_faults bytes offset are fault (Err f) read_is e =
      let same : fault ≡ f = err_is f fault e in
      let more = samples n in
      subst (Fault (IsItems (suc n)) (items_fields fields) (items_at read (suc n)) bytes offset) (sym same)
      (behind [] [] bytes offset offset f refl (omega arith)
      (λ x is. (x ∷ more.0, (ap suc more.1.0, All-cons Is x more.0 is more.1.1), items_fields fields more.0, refl))
      (λ other err. ap (λ r. r >>= items_from n) err) (exact.faults bytes offset are f read_is))
  items_step n more_faults bytes offset are fault (Ok x) read_is e =
      let s = codes.spelled (at bytes offset) are x.0 x.1 read_is in
      let f = more_faults x.1.bytes x.1.offset (are_bytes_behind (form x.0) x.1.bytes (subst AreBytes s.bytes are)) fault
      (made_fails (λ xs. x.0 ∷ xs) (items_at read n x.1) fault e) in
      subst (λ bs. Fault (IsItems (suc n)) (items_fields fields) (items_at read (suc n)) bs offset fault) (sym s.bytes)
      (behind (fields x.0) (form x.0) x.1.bytes offset x.1.offset fault (sym (exact.encoded x.0)) s.offset
      (λ xs is. (x.0 ∷ xs, (ap suc is.0, All-cons Is x.0 xs s.is is.1), [], ap (λ fs. fields x.0 ++ fs) (sym (append-nil (items_fields fields xs)))))
      (λ other err. ap (λ r. r >>= items_from n) (codes.again x.0 s.is other offset) ∙ ap (λ k. items_from n (x.0, at other k)) (sym s.offset)
      ∙ ap (made (λ xs. x.0 ∷ xs)) err) f)

  items_faults : (n : ℕ) (bytes : List ℕ) (offset : ℕ) → AreBytes bytes → (fault : FormFault) → items_at read n (at bytes offset) ≡ Err fault
      → Fault (IsItems n) (items_fields fields) (items_at read n) bytes offset fault
  items_faults zero bytes offset are fault e = cc
  items_faults (suc n) bytes offset are fault e = items_step n (items_faults n) bytes offset are fault (read (at bytes offset)) refl e

  -- behind a list's count
  counted : (IsL : List X → Type 0) (read_l : Reading (List X)) (n : ℕ) (mid : Rest) (bytes : List ℕ) (offset : ℕ) → AreBytes bytes → (fault : FormFault)
      → u32_at (at bytes offset) ≡ Ok (n, mid)
      → (n < 2 ^ 32 → (xs : List X) → IsItems n xs → IsL xs)
      → ((other : List ℕ) (after : Rest) → u32_at (at other offset) ≡ Ok (n, after) → read_l (at other offset) ≡ items_at read n after)
      → items_at read n mid ≡ Err fault → Fault IsL (list_fields fields) read_l bytes offset fault
  counted IsL read_l n mid bytes offset are fault read_is is_list goes_on e =
      let s = u32_codes.spelled (at bytes offset) are n mid read_is in
      let f = items_faults n mid.bytes mid.offset (are_bytes_behind (u32_encoding n) mid.bytes (subst AreBytes s.bytes are)) fault e in
      subst (λ bs. Fault IsL (list_fields fields) read_l bs offset fault) (sym s.bytes)
      (behind (Number n ∷ []) (u32_encoding n) mid.bytes offset mid.offset fault (append-nil (u32_encoding n)) s.offset
      (λ xs is. (
        xs,
        is_list s.is xs is,
        [],
        ap (λ m. Number m ∷ items_fields fields xs) is.0 ∙ ap (λ fs. Number n ∷ fs) (sym (append-nil (items_fields fields xs))),
      ))
      (λ other err.
      goes_on (u32_encoding n ++ other) (at other (offset + length (u32_encoding n))) (u32_codes.again n s.is other offset)
      ∙ ap (λ k. items_at read n (at other k)) (sym s.offset) ∙ err) f)

  list_faults : (bytes : List ℕ) (offset : ℕ) → AreBytes bytes → (fault : FormFault) → (r : Result (ℕ × Rest) FormFault) → u32_at (at bytes offset) ≡ r
      → (r >>= λ count. items_at read count.0 count.1) ≡ Err fault → Fault (IsList Is) (list_fields fields) (list_at read) bytes offset fault
  unfolding list_at
  list_faults bytes offset are fault (Err f) read_is e =
      let same : fault ≡ f = err_is f fault e in
      let k = number_fails w32 (Number 0) (λ bs. refl) bytes offset f read_is in
      at_first (IsList Is) (list_fields fields) (list_at read) [] (omega arith, λ k d lt. absurd (omega (arith, lt))) bytes offset fault (Number 0) [] refl
      (same ∙ k.0)
      (λ other alike. ap (λ r. r >>= λ count. items_at read count.0 count.1) (k.1 other alike) ∙ ap Err (sym same))
  list_faults bytes offset are fault (Ok count) read_is e =
      counted (IsList Is) (list_at read) count.0 count.1 bytes offset are fault read_is (λ lt xs is. (omega (arith, is.0, lt), is.1))
      (λ other after read_other. ap (λ r. r >>= λ count. items_at read count.0 count.1) read_other) e

  pub list_exact : Exact (list_codes codes) (list_fields fields)
  unfolding list_at
  list_exact = record {
    sample = [];
    has = (omega arith, λ k d lt. absurd (omega (arith, lt)));
    encoded = list_encoded;
    faults = λ bytes offset are fault e. list_faults bytes offset are fault (u32_at (at bytes offset)) refl e;
  }

  one_item : IsSomeList Is (exact.sample ∷ [])
  one_item = (omega arith, omega arith, All-cons Is exact.sample [] exact.has (λ k d lt. absurd (omega (arith, lt))))

  at_least_one : (n : ℕ) → nat_eq n 0 ≡ false → 1 ≤ n
  at_least_one n e = grind (arith, e)

  -- the items behind a count that was read, of which there is one at least
  abbrev items_behind : ℕ → Result (ℕ × Rest) FormFault → Result (List X × Rest) FormFault
  items_behind offset r = r >>= λ count. cond (nat_eq count.0 0) (Err (NotForm offset)) (items_at read count.0 count.1)

  some_counted : (bytes : List ℕ) (offset : ℕ) → AreBytes bytes → (fault : FormFault) (n : ℕ) (mid : Rest) → u32_at (at bytes offset) ≡ Ok (n, mid)
      → (b : Bool) → nat_eq n 0 ≡ b
      → cond b (Err (NotForm offset)) (items_at read n mid) ≡ Err fault → Fault (IsSomeList Is) (list_fields fields) (some_at read) bytes offset fault
  unfolding some_at
  some_counted bytes offset are fault n mid read_is true none e =
      let is : fault ≡ NotForm offset = err_is (NotForm offset) fault e in
      let s = u32_codes.spelled (at bytes offset) are n mid read_is in
      at_first (IsSomeList Is) (list_fields fields) (some_at read) (exact.sample ∷ []) one_item bytes offset fault (Number 1)
      (items_fields fields (exact.sample ∷ [])) refl is
      (λ other same.
      let m = same_past (u32_encoding n) 0 4 mid.bytes other (omega (arith, number_length n)) (subst (λ bs. IsSameUpTo 4 bs other) s.bytes same) in
      ap (λ bs. some_at read (at bs offset)) m.1
      ∙ ap (items_behind offset) (u32_codes.again n s.is m.0 offset)
      ∙ ap (λ b. cond b (Err (NotForm offset)) (items_at read n (at m.0 (offset + length (u32_encoding n))))) none ∙ ap Err (sym is))
  some_counted bytes offset are fault n mid read_is false some e =
      counted (IsSomeList Is) (some_at read) n mid bytes offset are fault read_is
      (λ lt xs is. (omega (arith, is.0, at_least_one n some), omega (arith, is.0, lt), is.1))
      (λ other after read_other.
      ap (items_behind offset) read_other ∙ ap (λ b. cond b (Err (NotForm offset)) (items_at read n after)) some) e

  some_faults : (bytes : List ℕ) (offset : ℕ) → AreBytes bytes → (fault : FormFault) → (r : Result (ℕ × Rest) FormFault) → u32_at (at bytes offset) ≡ r
      → items_behind offset r ≡ Err fault → Fault (IsSomeList Is) (list_fields fields) (some_at read) bytes offset fault
  unfolding some_at
  some_faults bytes offset are fault (Err f) read_is e =
      let same : fault ≡ f = err_is f fault e in
      let k = number_fails w32 (Number 0) (λ bs. refl) bytes offset f read_is in
      at_first (IsSomeList Is) (list_fields fields) (some_at read) (exact.sample ∷ []) one_item bytes offset fault (Number 1)
      (items_fields fields (exact.sample ∷ [])) refl (same ∙ k.0)
      (λ other alike. ap (items_behind offset) (k.1 other alike) ∙ ap Err (sym same))
  some_faults bytes offset are fault (Ok count) read_is e = some_counted bytes offset are fault count.0 count.1 read_is (nat_eq count.0 0) refl e

  pub some_exact : Exact (some_codes codes) (list_fields fields)
  unfolding some_at
  some_exact = record {
    sample = exact.sample ∷ [];
    has = one_item;
    encoded = list_encoded;
    faults = λ bytes offset are fault e. some_faults bytes offset are fault
        (u32_at (at bytes offset)) refl e;
  }
