-- What a walk reads at a gate.
use Rattle.std.proofs.Common.{◌≡◌, ℕ, ◌+◌, ◌-◌, ◌^◌, ◌<◌, ◌≤◌, List, [], ◌∷◌, ◌++◌, length, take, drop, get_or, refl, sym, ◌∙◌, ap, arith}
use Rattle.std.proofs.Common.{length-append, append_assoc, take-add, take-take, w32}
use Rattle.std.proofs.lemmas.List.{length-take, length-drop, drop-drop, take_at, drop_at, get_or-drop, get_or-take, drop_more}
use Rattle.std.proofs.lemmas.List.Elements.{All-push}
use Rattle.std.specs.Int.{from_be_bytes}
use Rattle.std.proofs.lemmas.Nat.{from_be_bytes-to_be_bytes_4, be_bytes_4}
use Rattle.commit_journal.specs.Journal.{header, four_bytes, record_of, records, IsShort, ReadsTo, IsOpen, IsStuck, IsNoHeader, most_bytes, open_gate}
use Rattle.commit_journal.proofs.Ends.{records-push, length-record_of, length-four_bytes}

pub value_of-four_bytes : (n : ℕ) → n < 2 ^ 32 → from_be_bytes w32 (four_bytes n) ≡ n
unfolding four_bytes
value_of-four_bytes n small = from_be_bytes-to_be_bytes_4 n small

pub four_bytes-value_of : (field : List ℕ) (n : ℕ) → length field ≡ 4 → ((i : ℕ) → get_or field i 0 < 256) → n ≡ from_be_bytes w32 field → four_bytes n ≡ field
unfolding four_bytes
four_bytes-value_of field n long bytes is = be_bytes_4 field n long bytes is

-- the second to the fifth of a list
four_behind : (l : List ℕ) → 5 ≤ length l
    → get_or (take 5 l) 1 0 ∷ get_or (take 5 l) 2 0 ∷ get_or (take 5 l) 3 0 ∷ get_or (take 5 l) 4 0 ∷ [] ≡ take 4 (drop 1 l)
four_behind (a ∷ b ∷ c ∷ d ∷ e ∷ l) long = refl
four_behind (a ∷ b ∷ c ∷ d ∷ []) long = absurd (omega (arith, long))
four_behind (a ∷ b ∷ c ∷ []) long = absurd (omega (arith, long))
four_behind (a ∷ b ∷ []) long = absurd (omega (arith, long))
four_behind (a ∷ []) long = absurd (omega (arith, long))
four_behind [] long = absurd (omega (arith, long))

module _ (file : List ℕ) (gate : ℕ) where
  -- the three parts of a record at a gate
  pub parts : (size : ℕ) → take (5 + size) (drop gate file) ≡ take 1 (drop gate file) ++ (take 4 (drop (gate + 1) file) ++ take size (drop (gate + 5) file))
  parts size =
      let five : 5 + size ≡ 1 + (4 + size) = omega arith in
      let after : drop 1 (drop gate file) ≡ drop (gate + 1) file = drop-drop 1 gate file in
      let behind : drop 4 (drop (gate + 1) file) ≡ drop (gate + 5) file =
      drop-drop 4 (gate + 1) file ∙ ap (λ (k : ℕ). drop k file) (let e : gate + 1 + 4 ≡ gate + 5 = omega arith in e) in
      ap (λ (k : ℕ). take k (drop gate file)) five ∙ take-add 1 (4 + size) (drop gate file)
      ∙ ap (λ (l : List ℕ). take 1 (drop gate file) ++ take (4 + size) l) after
      ∙ ap (λ (l : List ℕ). take 1 (drop gate file) ++ l)
      (take-add 4 size (drop (gate + 1) file) ∙ ap (λ (l : List ℕ). take 4 (drop (gate + 1) file) ++ take size l) behind)

  -- the byte at the gate is the first of those that are read from there on
  pub gate_is : (n : ℕ) (head : List ℕ) → head ≡ take n (drop gate file) → 0 < n → get_or file gate 0 ≡ get_or head 0 0
  gate_is n head is some =
      sym (ap (λ (l : List ℕ). get_or l 0 0) is ∙ get_or-take n (drop gate file) 0 0 some ∙ get_or-drop gate file 0 0
      ∙ ap (λ (k : ℕ). get_or file k 0) (let e : gate + 0 ≡ gate = omega arith in e))

  -- and the four after it are the next four
  pub length_is : (head : List ℕ) → head ≡ take 5 (drop gate file) → gate + 5 ≤ length file
      → get_or head 1 0 ∷ get_or head 2 0 ∷ get_or head 3 0 ∷ get_or head 4 0 ∷ [] ≡ take 4 (drop (gate + 1) file)
  length_is head is long =
      ap (λ (l : List ℕ). get_or l 1 0 ∷ get_or l 2 0 ∷ get_or l 3 0 ∷ get_or l 4 0 ∷ []) is
      ∙ four_behind (drop gate file) (omega (arith, length-drop gate file, long))
      ∙ ap (λ (l : List ℕ). take 4 l) (drop-drop 1 gate file)

  -- a record at the gate ends within the file
  within_file : (form : List ℕ) → take (5 + length form) (drop gate file) ≡ record_of form → 5 + length form ≤ length file - gate
  within_file form is = omega (arith, ap length is, length-record_of form, length-take (5 + length form) (drop gate file), length-drop gate file)

  pub past_end : length file ≤ gate → IsStuck file gate
  past_end past = record {
    not_closed = λ below. absurd (omega (arith, past, below));
    no_record = λ form small below is. absurd (omega (arith, within_file form is));
  }

  pub too_short : gate < length file → get_or file gate 0 ≡ open_gate → length file - gate < 5 → IsStuck file gate
  too_short low is_open short = record {
    not_closed = λ below. is_open;
    no_record = λ form small below is. absurd (omega (arith, within_file form is));
  }

  field_is : (form : List ℕ) → take (5 + length form) (drop gate file) ≡ record_of form → take 4 (drop (gate + 1) file) ≡ four_bytes (length form)
  field_is form is =
      let n = length form in
      let long = within_file form is in
      let one : length (take 1 (drop gate file)) ≡ 1 = omega (arith, length-take 1 (drop gate file), length-drop gate file, long) in
      let four : length (take 4 (drop (gate + 1) file)) ≡ 4 = omega (arith, length-take 4 (drop (gate + 1) file), length-drop (gate + 1) file, long) in
      sym (take_at (take 4 (drop (gate + 1) file)) (take n (drop (gate + 5) file)) 4 four)
      ∙ ap (λ (l : List ℕ). take 4 l) (sym (drop_at (take 1 (drop gate file)) (take 4 (drop (gate + 1) file) ++ take n (drop (gate + 5) file)) 1 one))
      ∙ ap (λ (l : List ℕ). take 4 (drop 1 l)) (sym (parts n) ∙ is)
      ∙ take_at (four_bytes n) form 4 (length-four_bytes n)

  pub no_room : (size : ℕ) → get_or file gate 0 ≡ open_gate → take 4 (drop (gate + 1) file) ≡ four_bytes size → size < 2 ^ 32
      → ((size ≤ most_bytes) → (gate + 5 + size < 2 ^ 40) → length file < gate + 5 + size) → IsStuck file gate
  no_room size is_open spelled low none = record {
    not_closed = λ below. is_open;
    no_record = λ form small below is.
        let long = within_file form is in
        let size_same : size ≡ length form =
        sym (value_of-four_bytes size low) ∙ ap (from_be_bytes w32) (sym spelled ∙ field_is form is)
        ∙ value_of-four_bytes (length form) (omega arith) in
        let past : length file < gate + 5 + size = none (omega (arith, size_same)) (omega (arith, size_same)) in
        absurd (omega (arith, size_same, long, past));
  }

  pub one_record : (forms : List (List ℕ)) (form : List ℕ) (size : ℕ) → ReadsTo file forms gate → IsOpen file gate size → size ≤ most_bytes
      → form ≡ take size (drop (gate + 5) file)
      → ReadsTo file (forms ++ form ∷ []) (gate + 5 + size)
  one_record forms form size reads at_gate small form_is =
      let room = at_gate.whole in
      let low : gate < length file = omega (arith, room) in
      let long : length form ≡ size = omega (arith, ap length form_is, length-take size (drop (gate + 5) file), length-drop (gate + 5) file, room) in
      let one : take 1 (drop gate file) ≡ open_gate ∷ [] = ap (λ (l : List ℕ). take 1 l) (drop_more file gate 0 low) ∙ ap (λ (n : ℕ). n ∷ []) at_gate.opened in
      let field_same : take 4 (drop (gate + 1) file) ≡ four_bytes (length form) = at_gate.length_is ∙ sym (ap four_bytes long) in
      let piece : take (5 + size) (drop gate file) ≡ record_of form =
      parts size ∙ ap (λ (l : List ℕ). l ++ (take 4 (drop (gate + 1) file) ++ take size (drop (gate + 5) file))) one
      ∙ ap (λ (l : List ℕ). open_gate ∷ l ++ take size (drop (gate + 5) file)) field_same
      ∙ ap (λ (l : List ℕ). open_gate ∷ four_bytes (length form) ++ l) (sym form_is) in
      let offset : gate + 5 + size ≡ gate + (5 + size) = omega arith in
      record {
        prefix = ap (λ (k : ℕ). take k file) offset ∙ take-add gate (5 + size) file ∙ ap (λ (l : List ℕ). l ++ take (5 + size) (drop gate file)) reads.prefix
            ∙ ap (λ (l : List ℕ). (header ++ records forms) ++ l) piece ∙ append_assoc header (records forms) (record_of form)
            ∙ ap (λ (l : List ℕ). header ++ l) (sym (records-push forms form));
        offset_is = omega (
          arith,
          reads.offset_is,
          ap length (records-push forms form),
          length-append (records forms) (record_of form),
          length-record_of form,
          long,
        );
        sizes = All-push IsShort forms form reads.sizes (omega (arith, long));
      }

pub no_header : (file head : List ℕ) (at : ℕ) → head ≡ take 16 file → IsNoHeader head at → IsNoHeader file at
no_header file head at is none =
    let within = none.within in
    record {
      within = none.within;
      same = sym (ap (λ (l : List ℕ). take at l) is ∙ take-take at 16 file (omega arith)) ∙ none.same;
      differs = λ e. none.differs (ap (λ (l : List ℕ). get_or l at 0) is ∙ get_or-take 16 file at 0 (omega arith) ∙ e);
    }
