-- A value that is read is of the type.
use Rattle.std.proofs.Common.{◌≡◌, ℕ, ℤ, suc, ◌<◌, Bool, true, false, cond, List, [], ◌∷◌, Option, None, Some, length, map, refl, subst, ◌∙◌, arith, lt-ltb}
use Rattle.std.specs.Prelude.{option_map, option_and_then}
use Rattle.std.specs.Str.{bytes_eq}
use Rattle.std.proofs.lemmas.List.{length-map}
use Rattle.serde_json.specs.Data.{Data}
use Rattle.serde_json.specs.Find.{as_bool, as_str}
use Rattle.serde_json.specs.Read.{read}
use Rattle.ecore_meta.specs.Meta.{Meta}
use Rattle.ecore_meta.specs.Names.{Name, number_of}
use Rattle.ecore_meta.specs.Typing.{fits, in_width, literals_of, literal_count}
use Rattle.ecore_meta.specs.Values.{literal_in, narrow, or_else}
use Rattle.ecore_meta.specs.declared.meta.EnumLiteral.{EnumLiteral}
use Rattle.ecore_meta.specs.declared.meta.Scalar.{Scalar}
use Rattle.ecore_meta.specs.declared.meta.Scalar.TheVariants.{Text as TextType, Flag as FlagType, Byte, Short, Int, Long, Literal as LiteralType}
use Rattle.ecore_meta.specs.declared.meta.Value.{Value}
use Rattle.ecore_meta.specs.declared.meta.Value.TheVariants.{Text, Flag, Whole, Literal}
use Rattle.emfjson_values.specs.Values.{integer_in, value_in}
use Rattle.emfjson_values.specs.Laws.{ReadValuesFit}

-- the number of a name is a place of the list
number_below : (q : Name) (xs : List Name) (n : ℕ) → number_of q xs ≡ Some n → n < length xs
number_below q [] n h = cc
number_below q (x ∷ xs) n h = by_test (bytes_eq q x) (number_of q xs) refl (λ m e. number_below q xs m e) h
  where
    by_test : (b : Bool) (o : Option ℕ) → number_of q xs ≡ o → ((m : ℕ) → number_of q xs ≡ Some m → m < length xs)
        → cond b (Some 0) (option_map (λ n. suc n) o) ≡ Some n → n < suc (length xs)
    by_test true o is more h = let e : 0 ≡ n = cc in omega (arith, e)
    by_test false None is more h = cc
    by_test false (Some m) is more h = let e : suc m ≡ n = cc in let k : m < length xs = more m is in omega (arith, e, k)

-- a literal that a text names is one of the enum's
literal_below : (ls : List EnumLiteral) (text : Name) (n : ℕ) → literal_in ls text ≡ Some n → n < length ls
literal_below ls text n h = by_text (number_of text (map (λ l. l.text) ls)) refl h
  where
    by_text : (o : Option ℕ) → number_of text (map (λ l. l.text) ls) ≡ o → or_else o (number_of text (map (λ l. l.name) ls)) ≡ Some n → n < length ls
    by_text None is h = omega (arith, number_below text (map (λ l. l.name) ls) n h, length-map ls (λ l. l.name))
    by_text (Some m) is h = omega (arith, number_below text (map (λ l. l.text) ls) n (is ∙ h), length-map ls (λ l. l.text))

flag_fits : (meta : Meta) (o : Option Bool) (v : Value) → option_map (λ b. Flag b) o ≡ Some v → fits meta FlagType v ≡ true
flag_fits meta None v h = cc
flag_fits meta (Some b) v h = let e : Flag b ≡ v = cc in subst (λ w. fits meta FlagType w ≡ true) e refl

text_fits : (meta : Meta) (o : Option (List ℕ)) (v : Value) → option_map (λ t. Text t) o ≡ Some v → fits meta TextType v ≡ true
text_fits meta None v h = cc
text_fits meta (Some t) v h = let e : Text t ≡ v = cc in subst (λ w. fits meta TextType w ≡ true) e refl

-- a whole number that is read is of so many bits
narrow_fits : (half : ℕ) (o : Option ℤ) (v : Value) → option_and_then (narrow half) o ≡ Some v → (n : ℤ) × (Whole n ≡ v) × (in_width half n ≡ true)
narrow_fits half None v h = cc
narrow_fits half (Some n) v h = by_test (in_width half n) refl h
  where
    by_test : (b : Bool) → in_width half n ≡ b → cond b (Some (Whole n)) None ≡ Some v → (m : ℤ) × (Whole m ≡ v) × (in_width half m ≡ true)
    by_test true is h = (n, cc, is)
    by_test false is h = cc

named_fits : (meta : Meta) (e : ℕ) (o : Option (List ℕ)) (v : Value)
    → option_map (λ n. Literal n) (option_and_then (literal_in (literals_of meta e)) o) ≡ Some v → fits meta (LiteralType e) v ≡ true
named_fits meta e None v h = cc
named_fits meta e (Some text) v h = by_number (literal_in (literals_of meta e) text) refl h
  where
    by_number : (o : Option ℕ) → literal_in (literals_of meta e) text ≡ o → option_map (λ n. Literal n) o ≡ Some v → fits meta (LiteralType e) v ≡ true
    by_number None is h = cc
    by_number (Some n) is h =
        let same : Literal n ≡ v = cc in
        let below : n < literal_count meta e = literal_below (literals_of meta e) text n is in
        subst (λ w. fits meta (LiteralType e) w ≡ true) same (lt-ltb n (literal_count meta e) below)

pub in_type : (meta : Meta) (s : Scalar) (d : Data) (v : Value) → value_in meta s d ≡ Some v → fits meta s v ≡ true
in_type meta TextType d v h = text_fits meta (as_str d) v h
in_type meta FlagType d v h = flag_fits meta (as_bool d) v h
in_type meta Byte d v h = let n = narrow_fits 128 (integer_in d) v h in subst (λ w. fits meta Byte w ≡ true) n.1 n.2
in_type meta Short d v h = let n = narrow_fits 32768 (integer_in d) v h in subst (λ w. fits meta Short w ≡ true) n.1 n.2
in_type meta Int d v h = let n = narrow_fits 2147483648 (integer_in d) v h in subst (λ w. fits meta Int w ≡ true) n.1 n.2
in_type meta Long d v h = let n = narrow_fits 9223372036854775808 (integer_in d) v h in subst (λ w. fits meta Long w ≡ true) n.1 n.2
in_type meta (LiteralType e) d v h = named_fits meta e (as_str d) v h

-- a value that is read is of the type
pub read_fits : ReadValuesFit
read_fits meta s text v h = by_data (read text) h
  where
    by_data : (o : Option Data) → option_and_then (value_in meta s) o ≡ Some v → fits meta s v ≡ true
    by_data None h = cc
    by_data (Some d) h = in_type meta s d v h
