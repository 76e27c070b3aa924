-- The words that name versions.
use Rattle.std.proofs.Common.{◌≡◌, ℕ, ◌^◌, List, [], ◌∷◌, ap, subst, ◌∙◌, refl, true, false, Bool, ◌&&◌, cond, Option, None, Some, arith, nat_eq}
use Rattle.std.proofs.Common.{nat_le, length}
use Rattle.std.specs.Char.{is_ascii_digit, is_ascii_alphabetic}
use Rattle.std.specs.List.{list_all, list_any}
use Rattle.std.proofs.lemmas.Bool.{eqb-true}
use Rattle.script_lang.specs.declared.command.Spec.{Spec}
use Rattle.script_lang.specs.declared.command.Spec.TheVariants.{Number, Branch, Tag}
use Rattle.model_state.specs.Names.{is_name, is_name_byte}
use Rattle.script_lang.specs.Words.{is_space, number_below, number_of, name_at}
use Rattle.script_lang.specs.Command.{spec_of, spec_from, tag_of, spec_at}
use Rattle.script_lang.specs.Spelling.{IsWord, IsSpec, spec_word}
use Rattle.script_lang.proofs.Numbers.{both, chosen, number_decimal, number_back, decimal_word}
use Rattle.script_lang.proofs.Readings.{Kind, named_kind, some_is}

no_name_space : (c : ℕ) → is_name_byte c ≡ true → is_space c ≡ false
no_name_space c e = grind (arith, e)

no_letter_space : (c : ℕ) → is_ascii_alphabetic c ≡ true → is_space c ≡ false
no_letter_space c e = grind (arith, e)

no_letter_digit : (c : ℕ) → is_ascii_alphabetic c ≡ true → is_ascii_digit c ≡ false
no_letter_digit c e = grind (arith, e)

never : (a b : Bool) (n : ℕ) → cond ((a && false) && b) (Some n) None ≡ None
never true b n = refl
never false b n = refl

-- a word that is not all digits is no number
no_number : (word : List ℕ) → list_all is_ascii_digit word ≡ false → number_of word ≡ None
unfolding number_below
no_number word e = rw e (never _ _ _)

-- a name holds no space, and is no number
name_spaceless : (bs : List ℕ) → list_all is_name_byte bs ≡ true → list_any is_space bs ≡ false
name_spaceless [] e = refl
name_spaceless (c ∷ cs) e =
    let k = both (is_name_byte c) (list_all is_name_byte cs) e in
    rw (no_name_space c k.0) (name_spaceless cs k.1)

name_word : (name : List ℕ) → is_name name ≡ true → IsWord name
name_word [] e = cc
name_word (c ∷ cs) e =
    let k = both (is_ascii_alphabetic c && nat_le (length cs) 63) (list_all is_name_byte cs) e in
    let m = both (is_ascii_alphabetic c) (nat_le (length cs) 63) k.0 in
    (omega arith, rw (no_letter_space c m.0) (name_spaceless cs k.1))

name_named : (name : List ℕ) → is_name name ≡ true → cond (is_name name) (Some name) None ≡ Some name
name_named name is = rw is refl

name_only : (word name : List ℕ) (b : Bool) → is_name word ≡ b → cond b (Some word) None ≡ Some name → (is_name name ≡ true) × (word ≡ name)
name_only word name true is e = let same = some_is word name e in (subst (λ w. is_name w ≡ true) same is, same)
name_only word name false is e = cc

pub name_kind : Kind name_at (λ name. is_name name ≡ true) (λ name. name)
unfolding name_at
name_kind = named_kind (λ word. cond (is_name word) (Some word) None) (λ name. is_name name ≡ true) (λ name. name) name_word name_named
    (λ word name e. name_only word name (is_name word) refl e)

name_no_number : (name : List ℕ) → is_name name ≡ true → number_of name ≡ None
name_no_number [] e = cc
name_no_number (c ∷ cs) e =
    let k = both (is_ascii_alphabetic c && nat_le (length cs) 63) (list_all is_name_byte cs) e in
    let m = both (is_ascii_alphabetic c) (nat_le (length cs) 63) k.0 in
    no_number (c ∷ cs) (rw (no_letter_digit c m.0) refl)

tag_no_number : (name : List ℕ) → number_of (64 ∷ name) ≡ None
tag_no_number name = no_number (64 ∷ name) refl

spec_word_is : (spec : Spec) → IsSpec spec → IsWord (spec_word spec)
spec_word_is (Number n) is = decimal_word n (omega (arith, is))
spec_word_is (Branch name) is = name_word name is
spec_word_is (Tag name) is = (omega arith, (name_word name is).1)

-- a version's word names it
spec_named : (spec : Spec) → IsSpec spec → spec_of (spec_word spec) ≡ Some spec
unfolding spec_of
spec_named (Number n) is = rw (number_decimal (2 ^ 32) (omega arith) n is) refl
spec_named (Branch name) is = rw (name_no_number name is) (rw is refl)
spec_named (Tag name) is = rw (tag_no_number name) (rw is refl)

-- what a word names is spelled by it
tag_told : (word : List ℕ) (spec : Spec) → tag_of word ≡ Some spec → IsSpec spec × (word ≡ spec_word spec)
tag_told [] spec e = cc
tag_told (b ∷ bs) spec e =
    let k = chosen (nat_eq b 64 && is_name bs) (Tag bs) spec e in
    let t = both (nat_eq b 64) (is_name bs) k.0 in
    (subst IsSpec k.1 t.1, ap (λ c. c ∷ bs) (eqb-true b 64 t.0) ∙ ap spec_word k.1)

name_told : (word : List ℕ) (spec : Spec) (b : Bool) → is_name word ≡ b → cond b (Some (Branch word)) (tag_of word) ≡ Some spec
    → IsSpec spec × (word ≡ spec_word spec)
name_told word spec true is e = let same = some_is (Branch word) spec e in (subst IsSpec same is, ap spec_word same)
name_told word spec false is e = tag_told word spec e

number_told : (word : List ℕ) (spec : Spec) (o : Option ℕ) → number_of word ≡ o → spec_from o word ≡ Some spec → IsSpec spec × (word ≡ spec_word spec)
number_told word spec (Some n) is e =
    let d = number_back (2 ^ 32) (omega arith) word n is in
    let same = some_is (Number n) spec e in
    (subst IsSpec same d.1, d.0 ∙ ap spec_word same)
number_told word spec None is e = name_told word spec (is_name word) refl e

spec_told : (word : List ℕ) (spec : Spec) → spec_of word ≡ Some spec → IsSpec spec × (word ≡ spec_word spec)
unfolding spec_of
spec_told word spec e = number_told word spec (number_of word) refl e

pub spec_kind : Kind spec_at IsSpec spec_word
unfolding spec_at
spec_kind = named_kind spec_of IsSpec spec_word spec_word_is spec_named spec_told
