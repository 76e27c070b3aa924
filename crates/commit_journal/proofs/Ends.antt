-- Where a journal's records end.
use Rattle.std.proofs.Common.{◌≡◌, ◌≢◌, inl, inr, ℕ, ◌+◌, ◌^◌, ◌<◌, ◌≤◌, List, [], ◌∷◌, ◌++◌, length, take, drop, get_or, refl, sym, ◌∙◌, ap, arith}
use Rattle.std.proofs.Common.{length-append, append_assoc, take-append-drop, take-take}
use Rattle.std.proofs.lemmas.List.{append-nil, get_or-take, get_or_at, take_at, drop_more}
use Rattle.std.proofs.lemmas.List.Elements.{All-push}
use Rattle.std.proofs.lemmas.Bool.{cases_lt}
use Rattle.commit_journal.specs.Journal.{header, four_bytes, record_of, records, after_gate, IsShort, EndsAt, StandsFor, open_gate}

pub length-header : length header ≡ 16
unfolding header
length-header = refl

pub length-four_bytes : (n : ℕ) → length (four_bytes n) ≡ 4
unfolding four_bytes
length-four_bytes n = refl

pub records-push : (forms : List (List ℕ)) (form : List ℕ) → records (forms ++ form ∷ []) ≡ records forms ++ record_of form
records-push [] form = append-nil (record_of form)
records-push (f ∷ forms) form =
    ap (λ (l : List ℕ). record_of f ++ l) (records-push forms form) ∙ sym (append_assoc (record_of f) (records forms) (record_of form))

pub length-record_of : (form : List ℕ) → length (record_of form) ≡ 5 + length form
length-record_of form = omega (arith, length-append (four_bytes (length form)) form, length-four_bytes (length form))

pub length-after_gate : (form : List ℕ) → length (after_gate form) ≡ 5 + length form
length-after_gate form =
    omega (
      arith,
      length-append (four_bytes (length form) ++ form) (0 ∷ []),
      length-append (four_bytes (length form)) form,
      length-four_bytes (length form),
    )

pub no_records : (forms : List (List ℕ)) → length (records forms) ≡ 0 → forms ≡ []
no_records [] none = refl
no_records (f ∷ forms) none = absurd (omega (arith, none, length-append (record_of f) (records forms), length-record_of f))

module _ (file : List ℕ) (forms : List (List ℕ)) (offset : ℕ) (ends : EndsAt file forms offset) where
  pub stands : StandsFor file forms
  stands = elim (cases_lt 17 (length file)) [
    | inl longer ↦ inr (longer, (offset, ends))
    | inr shorter ↦ inl (shorter, no_records forms (omega (arith, shorter, ends.in_file, ends.reads.offset_is)))
  ]

  -- another file that is the same up to its closed gate
  pub same_end : (x : List ℕ) → take (offset + 1) x ≡ take (offset + 1) file → offset < length x → EndsAt x forms offset
  same_end x same long = record {
    reads = record {
      prefix = sym (take-take offset (offset + 1) x (omega arith)) ∙ ap (λ (l : List ℕ). take offset l) same
          ∙ take-take offset (offset + 1) file (omega arith) ∙ ends.reads.prefix;
      offset_is = ends.reads.offset_is;
      sizes = ends.reads.sizes;
    };
    in_file = long;
    closed = λ open_gate. ends.closed
        (sym (get_or-take (offset + 1) file offset 0 (omega arith)) ∙ ap (λ (l : List ℕ). get_or l offset 0) (sym same)
        ∙ get_or-take (offset + 1) x offset 0 (omega arith) ∙ open_gate);
    low = ends.low;
  }

  -- a whole record after any gate counts or it doesn't
  module _ (form rest x : List ℕ) (prefix : take offset x ≡ take offset file) (behind : drop (offset + 1) x ≡ after_gate form ++ rest)
      (short : IsShort form) (fits : offset + length form + 6 ≤ 2 ^ 40) (long : offset < length x) where
    whole : get_or x offset 0 ≡ open_gate → x ≡ (header ++ records (forms ++ form ∷ [])) ++ 0 ∷ rest
    whole is_open =
        let back : drop offset x ≡ open_gate ∷ after_gate form ++ rest =
        drop_more x offset 0 long ∙ ap (λ (g : ℕ). g ∷ drop (offset + 1) x) is_open ∙ ap (λ (l : List ℕ). open_gate ∷ l) behind in
        sym (take-append-drop offset x) ∙ ap (λ (l : List ℕ). l ++ drop offset x) (prefix ∙ ends.reads.prefix)
        ∙ ap (λ (l : List ℕ). (header ++ records forms) ++ l) back
        ∙ sym (ap (λ (l : List ℕ). (header ++ l) ++ 0 ∷ rest) (records-push forms form) ∙ simp append_assoc)

    pub opened : get_or x offset 0 ≡ open_gate → EndsAt x (forms ++ form ∷ []) (offset + 5 + length form)
    opened is_open =
        let size : length (header ++ records (forms ++ form ∷ [])) ≡ offset + 5 + length form =
        omega (
          arith,
          length-append header (records (forms ++ form ∷ [])),
          ap length (records-push forms form),
          length-append (records forms) (record_of form),
          length-record_of form,
          length-header,
          ends.reads.offset_is,
        ) in
        let is = whole is_open in
        let gate : get_or x (offset + 5 + length form) 0 ≡ 0 =
        ap (λ (l : List ℕ). get_or l (offset + 5 + length form) 0) is
        ∙ get_or_at (header ++ records (forms ++ form ∷ [])) 0 rest 0 (offset + 5 + length form) size in
        record {
          reads = record {
            prefix = ap (λ (l : List ℕ). take (offset + 5 + length form) l) is
                ∙ take_at (header ++ records (forms ++ form ∷ [])) (0 ∷ rest) (offset + 5 + length form) size;
            offset_is = omega (arith, size, length-append header (records (forms ++ form ∷ [])), length-header);
            sizes = All-push IsShort forms form ends.reads.sizes short;
          };
          in_file = omega (arith, ap length is, length-append (header ++ records (forms ++ form ∷ [])) (0 ∷ rest), size);
          closed = λ e. absurd (omega (arith, e, gate));
          low = omega arith;
        }

    pub shut : get_or x offset 0 ≢ open_gate → EndsAt x forms offset
    shut closed = record {
      reads = record { prefix = prefix ∙ ends.reads.prefix; offset_is = ends.reads.offset_is; sizes = ends.reads.sizes };
      in_file = long;
      closed = closed;
      low = ends.low;
    }
