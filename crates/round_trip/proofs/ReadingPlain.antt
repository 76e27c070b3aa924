-- The compact text of data whose keys rise and whose numbers are whole reads as that data.
use Rattle.std.proofs.Common.{◌≡◌, ℕ, pos, negsuc, ◌^◌, ◌<◌, ◌≤◌, suc, max, List, [], refl, sym, ap, ap₂, ◌∙◌, arith, append-nil}
use Rattle.std.specs.Prelude.{Some, option_map, option_and_then}
use Rattle.std.specs.declared.cmp.Ordering.TheVariants.{Greater}
use Rattle.std.specs.Ordering.{nat_cmp, match_ordering}
use Rattle.std.specs.Cmp.Lexicographic.{slice_cmp}
use Rattle.json.specs.Lex.{tokens}
use Rattle.json.specs.Json as json
use Rattle.json.specs.Tree as tree
use Rattle.json.specs.Tree.{HasNumbers, ItemsHaveNumbers, MembersHaveNumbers}
use Rattle.json.proofs.Printed.Decimals.{IsNumber-decimal, IsNumber-signed_decimal}
use Rattle.json.proofs.Printed.Tokens.{tokens-print}
use Rattle.json.proofs.Printed.Trees.{ArePrintable-json_tokens, value-json_tokens}
use Rattle.serde_json.specs.Data.{Num, unsigned, negative, float, Data, null, boolean, number, string, array, object, Items, no_items, item, Members}
use Rattle.serde_json.specs.Data.{no_members, member, put, depth, items_depth, members_depth}
use Rattle.serde_json.specs.Read.{read, number_of, of_json, of_items, of_members, max_depth}
use Rattle.serde_json.specs.Written.{compact_text, number_text, outline, items_outline, members_outline}
use Rattle.serde_json.proofs.Numbers.{number_of-decimal, number_of-negative}
use Rattle.serde_json.proofs.Texts.{print-outline}

-- a whole number of 64 bits
abbrev pub IsWhole : Num → Type 0
IsWhole (unsigned n) = n < 2 ^ 64
IsWhole (negative (pos n)) = ⊥
IsWhole (negative (negsuc n)) = n < 2 ^ 63
IsWhole (float x) = ⊥

-- the key is below each of these
abbrev pub IsBelow : List ℕ → Members → Type 0
IsBelow k no_members = Unit {0}
IsBelow k (member l d ms) = (slice_cmp nat_cmp l k ≡ Greater) × IsBelow k ms

abbrev mutual
  -- keys rise, and numbers are whole
  pub IsPlain : Data → Type 0
  IsPlain null = Unit {0}
  IsPlain (boolean b) = Unit {0}
  IsPlain (number n) = IsWhole n
  IsPlain (string s) = Unit {0}
  IsPlain (array ds) = ArePlain ds
  IsPlain (object ms) = Rise ms

  pub ArePlain : Items → Type 0
  ArePlain no_items = Unit {0}
  ArePlain (item d ds) = IsPlain d × ArePlain ds

  pub Rise : Members → Type 0
  Rise no_members = Unit {0}
  Rise (member k d ms) = IsPlain d × IsBelow k ms × Rise ms

-- ---- numbers
whole_read : (n : Num) → IsWhole n → number_of (number_text n) ≡ Some n
whole_read (unsigned n) h = number_of-decimal n h
whole_read (negative (pos n)) h = absurd h
whole_read (negative (negsuc n)) h = number_of-negative n h
whole_read (float x) h = absurd h

whole_number : (n : Num) → IsWhole n → HasNumbers (outline (number n))
whole_number (unsigned n) h = IsNumber-decimal n h
whole_number (negative (pos n)) h = absurd h
whole_number (negative (negsuc n)) h = IsNumber-signed_decimal (negsuc n) h
whole_number (float x) h = absurd h

-- ---- the members one after another
joined : Members → Members → Members
joined no_members ns = ns
joined (member k d ms) ns = member k d (joined ms ns)

AllBelow : Members → List ℕ → Type 0
AllBelow no_members k = Unit {0}
AllBelow (member l d ms) k = (slice_cmp nat_cmp k l ≡ Greater) × AllBelow ms k

module _ where
  put_last : (k : List ℕ) (d : Data) (ms : Members) → AllBelow ms k → put k d ms ≡ joined ms (member k d no_members)
  unfolding joined AllBelow
  put_last k d no_members h = refl
  put_last k d (member l e ms) h =
      ap (λ o. match_ordering o (member k d (member l e ms)) (member l d ms) (member l e (put k d ms))) h.0 ∙ ap (member l e) (put_last k d ms h.1)

  joined_more : (ms : Members) (k : List ℕ) (d : Data) (ns : Members) → joined (joined ms (member k d no_members)) ns ≡ joined ms (member k d ns)
  unfolding joined
  joined_more no_members k d ns = refl
  joined_more (member l e ms) k d ns = ap (member l e) (joined_more ms k d ns)

  joined_none : (ms : Members) → joined ms no_members ≡ ms
  unfolding joined
  joined_none no_members = refl
  joined_none (member k d ms) = ap (member k d) (joined_none ms)

  -- each of the first is below each of the second
  AllApart : Members → Members → Type 0
  AllApart ms no_members = Unit {0}
  AllApart ms (member k d ns) = AllBelow ms k × AllApart ms ns

  below_joined : (ms : Members) (k : List ℕ) (d : Data) (l : List ℕ) → AllBelow ms l → slice_cmp nat_cmp l k ≡ Greater
      → AllBelow (joined ms (member k d no_members)) l
  unfolding joined AllBelow
  below_joined no_members k d l h g = (g, tt)
  below_joined (member n e ms) k d l h g = (h.0, below_joined ms k d l h.1 g)

  apart_more : (ms : Members) (k : List ℕ) (d : Data) (ns : Members) → AllApart ms ns → IsBelow k ns → AllApart (joined ms (member k d no_members)) ns
  unfolding AllApart
  apart_more ms k d no_members h g = tt
  apart_more ms k d (member l e ns) h g = (below_joined ms k d l h.0 g.0, apart_more ms k d ns h.1 g.1)

  none_apart : (ms : Members) → AllApart no_members ms
  unfolding AllApart AllBelow
  none_apart no_members = tt
  none_apart (member k d ms) = (tt, none_apart ms)

  empty_joined : (ms : Members) → joined no_members ms ≡ ms
  unfolding joined
  empty_joined ms = refl

  mutual
    unfolding AllApart

    of_outline : (d : Data) → IsPlain d → of_json (outline d) ≡ Some d
    of_outline null p = refl
    of_outline (boolean b) p = refl
    of_outline (number n) p = ap (option_map number) (whole_read n p)
    of_outline (string s) p = refl
    of_outline (array ds) p = ap (option_map array) (of_items_outline ds p)
    of_outline (object ms) p = ap (option_map object) (of_members_outline ms no_members p (none_apart ms) ∙ ap (λ x. Some x) (empty_joined ms))

    of_items_outline : (ds : Items) → ArePlain ds → of_items (items_outline ds) ≡ Some ds
    of_items_outline no_items p = refl
    of_items_outline (item d ds) p = ap₂ (λ o q. option_and_then (λ x. option_map (item x) q) o) (of_outline d p.0) (of_items_outline ds p.1)

    of_members_outline : (ms found : Members) → Rise ms → AllApart found ms → of_members (members_outline ms) found ≡ Some (joined found ms)
    of_members_outline no_members found p h = ap (λ x. Some x) (sym (joined_none found))
    of_members_outline (member k d ms) found p h =
        ap (option_and_then (λ x. of_members (members_outline ms) (put k x found))) (of_outline d p.0)
        ∙ ap (of_members (members_outline ms)) (put_last k d found h.0)
        ∙ of_members_outline ms (joined found (member k d no_members)) p.2 (apart_more found k d ms h.1 p.1)
        ∙ ap (λ x. Some x) (joined_more found k d ms)

-- ---- the numbers in an outline, and how deep it nests
mutual
  has_numbers : (d : Data) → IsPlain d → HasNumbers (outline d)
  has_numbers null p = tt
  has_numbers (boolean b) p = tt
  has_numbers (number n) p = whole_number n p
  has_numbers (string s) p = tt
  has_numbers (array ds) p = items_numbers ds p
  has_numbers (object ms) p = members_numbers ms p

  items_numbers : (ds : Items) → ArePlain ds → ItemsHaveNumbers (items_outline ds)
  items_numbers no_items p = tt
  items_numbers (item d ds) p = (has_numbers d p.0, items_numbers ds p.1)

  members_numbers : (ms : Members) → Rise ms → MembersHaveNumbers (members_outline ms)
  members_numbers no_members p = tt
  members_numbers (member k d ms) p = (has_numbers d p.0, members_numbers ms p.2)

mutual
  same_depth : (d : Data) → tree.depth (outline d) ≡ depth d
  same_depth null = refl
  same_depth (boolean b) = refl
  same_depth (number n) = refl
  same_depth (string s) = refl
  same_depth (array ds) = ap suc (same_items_depth ds)
  same_depth (object ms) = ap suc (same_members_depth ms)

  same_items_depth : (ds : Items) → tree.items_depth (items_outline ds) ≡ items_depth ds
  same_items_depth no_items = refl
  same_items_depth (item d ds) = ap₂ max (same_depth d) (same_items_depth ds)

  same_members_depth : (ms : Members) → tree.members_depth (members_outline ms) ≡ members_depth ms
  same_members_depth no_members = refl
  same_members_depth (member k d ms) = ap₂ max (same_depth d) (same_members_depth ms)

pub read_compact : (d : Data) → IsPlain d → depth d ≤ max_depth → read (compact_text d) ≡ Some d
read_compact d plain shallow =
    let j = outline d in
    let ts : tokens (compact_text d) ≡ tree.json_tokens j =
    ap tokens (sym (print-outline d)) ∙ tokens-print (tree.json_tokens j) (ArePrintable-json_tokens j (has_numbers d plain)) in
    let e = same_depth d in
    ap (λ us. option_and_then of_json (option_and_then (λ p. json.if_last p.0 p.1) (json.value max_depth us))) (ts ∙ sym (append-nil _))
    ∙ ap (λ v. option_and_then of_json (option_and_then (λ p. json.if_last p.0 p.1) v)) (value-json_tokens j max_depth [] (omega arith))
    ∙ of_outline d plain
