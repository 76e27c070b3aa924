-- The text of a string, a flag or a whole number of 64 bits reads as that JSON value.
use Rattle.std.proofs.Common.{◌≡◌, ℕ, negsuc, ◌^◌, ◌<◌, ◌≤◌, Bool, List, [], Some, refl, sym, ap, ◌∙◌, arith, append-nil}
use Rattle.std.specs.Prelude.{option_map, option_and_then}
use Rattle.json.specs.Json.{if_last, value}
use Rattle.json.specs.Lex.{tokens}
use Rattle.json.specs.Tree.{HasNumbers, depth, json_tokens}
use Rattle.json.proofs.Printed.Decimals.{IsNumber-decimal, IsNumber-signed_decimal}
use Rattle.json.proofs.Printed.Tokens.{tokens-print}
use Rattle.json.proofs.Printed.Trees.{ArePrintable-json_tokens, value-json_tokens}
use Rattle.serde_json.specs.Data.{Data, boolean, number, string, unsigned, negative}
use Rattle.serde_json.specs.Read.{read, of_json, max_depth}
use Rattle.serde_json.specs.Written.{compact_text, outline}
use Rattle.serde_json.proofs.Numbers.{number_of-decimal, number_of-negative}
use Rattle.serde_json.proofs.Texts.{print-outline}

-- what is printed for a value that nests nothing is read as what its outline stands for
read_outline : (d : Data) → HasNumbers (outline d) → depth (outline d) ≤ max_depth → of_json (outline d) ≡ Some d → read (compact_text d) ≡ Some d
read_outline d numbers shallow same =
    let j = outline d in
    let ts : tokens (compact_text d) ≡ json_tokens j = ap tokens (sym (print-outline d)) ∙ tokens-print (json_tokens j) (ArePrintable-json_tokens j numbers) in
    ap (λ us. option_and_then of_json (option_and_then (λ p. if_last p.0 p.1) (value max_depth us))) (ts ∙ sym (append-nil (json_tokens j)))
    ∙ ap (λ v. option_and_then of_json (option_and_then (λ p. if_last p.0 p.1) v)) (value-json_tokens j max_depth [] shallow)
    ∙ same

pub read_string : (t : List ℕ) → read (compact_text (string t)) ≡ Some (string t)
read_string t = read_outline (string t) tt (omega arith) refl

pub read_flag : (b : Bool) → read (compact_text (boolean b)) ≡ Some (boolean b)
read_flag b = read_outline (boolean b) tt (omega arith) refl

pub read_natural : (n : ℕ) → n < 2 ^ 64 → read (compact_text (number (unsigned n))) ≡ Some (number (unsigned n))
read_natural n h = read_outline (number (unsigned n)) (IsNumber-decimal n h) (omega arith) (ap (option_map number) (number_of-decimal n h))

pub read_negative : (n : ℕ) → n < 2 ^ 63 → read (compact_text (number (negative (negsuc n)))) ≡ Some (number (negative (negsuc n)))
read_negative n h = read_outline (number (negative (negsuc n))) (IsNumber-signed_decimal (negsuc n) h) (omega arith)
    (ap (option_map number) (number_of-negative n h))
