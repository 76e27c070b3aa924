-- A text has no more values in it than bytes, so its rows can be numbered.
use Rattle.std.proofs.Common.{◌≡◌, ℕ, zero, suc, ◌+◌, ◌≤◌, List, [], ◌∷◌, length, Option, Some, None, option_map, option_and_then, Ordering, Less}
use Rattle.std.proofs.Common.{Equal, Greater, refl, subst, arith, Bool, true, false}
use Rattle.std.specs.Prelude.{⊤}
use Rattle.std.specs.Ordering.{match_ordering, nat_cmp}
use Rattle.std.specs.Cmp.Lexicographic.{slice_cmp}
use Rattle.json.specs.Token.{Token, begin_object, end_object, begin_array, end_array, key, string, number, boolean, null, bad}
use Rattle.json.specs.Lex.{Lexeme, token, comma, colon, Class, quote, backslash, operator, space, other, class, Mode, between, in_word, in_string}
use Rattle.json.specs.Lex.{in_escape, lex_byte, lex, Place, fresh, after_value, after_comma, after_key, begins_colon, may_begin, may_close}
use Rattle.json.specs.Lex.{if_allowed, place_token, punctuate, tokens}
use Rattle.json.specs.Json as json
use Rattle.serde_json.specs.Data as tree
use Rattle.serde_json.specs.Data.{Data, Items, no_items, item, Members, no_members, member, put}
use Rattle.serde_json.specs.Read.{number_of, of_json, of_items, of_members, max_depth, read}

-- ---- how many values a value has in it, itself counted
abbrev mutual
  pub weight : Data → ℕ
  weight tree.null = 1
  weight (tree.boolean b) = 1
  weight (tree.number n) = 1
  weight (tree.string s) = 1
  weight (tree.array ds) = suc (items_weight ds)
  weight (tree.object ms) = suc (members_weight ms)

  pub items_weight : Items → ℕ
  items_weight no_items = 0
  items_weight (item d ds) = weight d + items_weight ds

  pub members_weight : Members → ℕ
  members_weight no_members = 0
  members_weight (member k d ms) = weight d + members_weight ms

-- ---- the same of what was parsed
abbrev mutual
  text_weight : json.Json → ℕ
  text_weight json.null = 1
  text_weight (json.boolean b) = 1
  text_weight (json.number s) = 1
  text_weight (json.string s) = 1
  text_weight (json.array js) = suc (text_items js)
  text_weight (json.object ms) = suc (text_members ms)

  text_items : json.Items → ℕ
  text_items json.no_items = 0
  text_items (json.item j js) = text_weight j + text_items js

  text_members : json.Members → ℕ
  text_members json.no_members = 0
  text_members (json.member k j ms) = text_weight j + text_members ms

-- ---- tokens: no more than one for each byte, and one at the end
lex_step : (m : Mode) (c : Class) (x : ℕ) (xs : List ℕ) (k : Mode → List Lexeme) (n : ℕ) → ((next : Mode) → length (k next) ≤ n)
    → length (lex_byte m c x xs k) ≤ suc n
lex_step between quote x xs k n h = let a = h in_string in omega arith
lex_step between backslash x xs k n h = let a = h in_word in omega arith
lex_step between operator x xs k n h = let a = h between in omega arith
lex_step between space x xs k n h = let a = h between in omega arith
lex_step between other x xs k n h = let a = h in_word in omega arith
lex_step in_word quote x xs k n h = let a = h in_word in omega arith
lex_step in_word backslash x xs k n h = let a = h in_word in omega arith
lex_step in_word operator x xs k n h = let a = h between in omega arith
lex_step in_word space x xs k n h = let a = h between in omega arith
lex_step in_word other x xs k n h = let a = h in_word in omega arith
lex_step in_string quote x xs k n h = let a = h between in omega arith
lex_step in_string backslash x xs k n h = let a = h in_escape in omega arith
lex_step in_string operator x xs k n h = let a = h in_string in omega arith
lex_step in_string space x xs k n h = let a = h in_string in omega arith
lex_step in_string other x xs k n h = let a = h in_string in omega arith
lex_step in_escape c x xs k n h = let a = h in_string in omega arith

lexemes : (m : Mode) (xs : List ℕ) → length (lex m xs) ≤ length xs
unfolding lex
lexemes m [] = omega arith
lexemes m (x ∷ xs) = lex_step m (class x) x xs (λ next. lex next xs) (length xs) (λ next. lexemes next xs)

allowed : (b : Bool) (t : Token) (k : Place → List Token) (next : Place) (n : ℕ) → length (k next) ≤ n → length (if_allowed b t k next) ≤ suc n
allowed true t k next n h = omega arith
allowed false t k next n h = omega arith

placed : (p : Place) (t : Token) (b : Bool) (k : Place → List Token) (n : ℕ) → ((next : Place) → length (k next) ≤ n) → length (place_token p t b k) ≤ suc n
placed p begin_object b k n h = allowed (may_begin p) begin_object k fresh n (h fresh)
placed p end_object b k n h = allowed (may_close p) end_object k after_value n (h after_value)
placed p begin_array b k n h = allowed (may_begin p) begin_array k fresh n (h fresh)
placed p end_array b k n h = allowed (may_close p) end_array k after_value n (h after_value)
placed p (key s) b k n h = omega arith
placed p (string s) true k n h = allowed (may_begin p) (key s) k after_key n (h after_key)
placed p (string s) false k n h = allowed (may_begin p) (string s) k after_value n (h after_value)
placed p (number s) b k n h = allowed (may_begin p) (number s) k after_value n (h after_value)
placed p (boolean c) b k n h = allowed (may_begin p) (boolean c) k after_value n (h after_value)
placed p null b k n h = allowed (may_begin p) null k after_value n (h after_value)
placed p bad b k n h = omega arith

punctuated : (p : Place) (ls : List Lexeme) → length (punctuate p ls) ≤ suc (length ls)
unfolding punctuate
punctuated fresh [] = omega arith
punctuated after_value [] = omega arith
punctuated after_comma [] = omega arith
punctuated after_key [] = omega arith
punctuated fresh (token t ∷ ls) = placed fresh t (begins_colon ls) (λ next. punctuate next ls) (suc (length ls)) (λ next. punctuated next ls)
punctuated after_value (token t ∷ ls) = placed after_value t (begins_colon ls) (λ next. punctuate next ls) (suc (length ls)) (λ next. punctuated next ls)
punctuated after_comma (token t ∷ ls) = placed after_comma t (begins_colon ls) (λ next. punctuate next ls) (suc (length ls)) (λ next. punctuated next ls)
punctuated after_key (token t ∷ ls) = placed after_key t (begins_colon ls) (λ next. punctuate next ls) (suc (length ls)) (λ next. punctuated next ls)
punctuated fresh (comma ∷ ls) = omega arith
punctuated after_value (comma ∷ ls) = let a = punctuated after_comma ls in omega arith
punctuated after_comma (comma ∷ ls) = omega arith
punctuated after_key (comma ∷ ls) = omega arith
punctuated fresh (colon ∷ ls) = omega arith
punctuated after_value (colon ∷ ls) = omega arith
punctuated after_comma (colon ∷ ls) = omega arith
punctuated after_key (colon ∷ ls) = let a = punctuated fresh ls in omega arith

few_tokens : (text : List ℕ) → length (tokens text) ≤ suc (length text)
few_tokens text = let a = lexemes between text in let b = punctuated fresh (lex between text) in omega arith

-- ---- what is parsed weighs no more than the tokens that it takes
abbrev Left : {A : Type 0} → (A → ℕ) → ℕ → Option (A × List Token) → Type 0
Left f n None = ⊤
Left f n (Some p) = f p.0 + length p.1 ≤ n

abbrev Fewer : ℕ → Option (List Token) → Type 0
Fewer n None = ⊤
Fewer n (Some r) = length r ≤ n

mapped : {A B : Type 0} (f : A → ℕ) (g : B → ℕ) (m n : ℕ) (h : A → B) → ((a : A) (r : ℕ) → f a + r ≤ m → g (h a) + r ≤ n)
    → (o : Option (A × List Token)) → Left f m o → Left g n (json.parse_map h o)
mapped f g m n h k None x = tt
mapped f g m n h k (Some p) x = k p.0 (length p.1) x

weaker : {A : Type 0} (f : A → ℕ) (m n : ℕ) → m ≤ n → (o : Option (A × List Token)) → Left f m o → Left f n o
weaker f m n le None x = tt
weaker f m n le (Some p) x = omega arith

and_more : {B : Type 0} (g : B → ℕ) (n : ℕ) (h : json.Json → B → B) → ((j : json.Json) (b : B) → g (h j b) ≡ text_weight j + g b)
    → (more : json.Parse B) → ((ts : List Token) → Left g (length ts) (more ts))
    → (o : Option (json.Json × List Token)) → Left text_weight n o → Left g n (option_and_then (λ q. json.parse_map (h q.0) (more q.1)) o)
and_more g n h is more within None x = tt
and_more g n h is more within (Some q) x = mapped g g (length q.1) n (h q.0) (λ b r y. omega (arith, is q.0 b)) (more q.1) (within q.1)

closed : (ts : List Token) → Fewer (length ts) (json.after_end_array ts)
closed [] = tt
closed (begin_object ∷ ts) = tt
closed (end_object ∷ ts) = tt
closed (begin_array ∷ ts) = tt
closed (end_array ∷ ts) = omega arith
closed (key s ∷ ts) = tt
closed (string s ∷ ts) = tt
closed (number s ∷ ts) = tt
closed (boolean b ∷ ts) = tt
closed (null ∷ ts) = tt
closed (bad ∷ ts) = tt

keyed : (ts : List Token) → Left (λ _. 0) (length ts) (json.read_key ts)
keyed [] = tt
keyed (begin_object ∷ ts) = tt
keyed (end_object ∷ ts) = omega arith
keyed (begin_array ∷ ts) = tt
keyed (end_array ∷ ts) = tt
keyed (key s ∷ ts) = omega arith
keyed (string s ∷ ts) = tt
keyed (number s ∷ ts) = tt
keyed (boolean b ∷ ts) = tt
keyed (null ∷ ts) = tt
keyed (bad ∷ ts) = tt

module _ (p : json.Parse json.Json) (within : (ts : List Token) → Left text_weight (length ts) (p ts)) where
  item_turn : (more : json.Parse json.Items) → ((ts : List Token) → Left text_items (length ts) (more ts))
      → (ts : List Token) (o : Option (List Token)) → Fewer (length ts) o → Left text_items (length ts) (json.items_step p more ts o)
  item_turn more again ts (Some r) f = omega arith
  item_turn more again ts None f = and_more text_items (length ts) json.item (λ j b. refl) more again (p ts) (within ts)

  items_left : (n : ℕ) (ts : List Token) → Left text_items (length ts) (json.items p n ts)
  unfolding json.items
  items_left zero ts = tt
  items_left (suc n) ts = item_turn (json.items p n) (items_left n) ts (json.after_end_array ts) (closed ts)

  member_turn : (more : json.Parse json.Members) → ((ts : List Token) → Left text_members (length ts) (more ts))
      → (n : ℕ) (o : Option (Option (List ℕ) × List Token)) → Left (λ _. 0) n o
      → Left text_members n (option_and_then (λ q. json.members_step p more q.0 q.1) o)
  member_turn more again n None f = tt
  member_turn more again n (Some (None, s)) f = omega arith
  member_turn more again n (Some (Some k, s)) f =
      weaker text_members (length s) n (omega arith) _ (and_more text_members (length s) (json.member k) (λ j b. refl) more again (p s) (within s))

  members_left : (n : ℕ) (ts : List Token) → Left text_members (length ts) (json.members p n ts)
  unfolding json.members
  members_left zero ts = tt
  members_left (suc n) ts = member_turn (json.members p n) (members_left n) (length ts) (json.read_key ts) (keyed ts)

one_level : (a : json.Parse json.Items) (o : json.Parse json.Members) → ((ts : List Token) → Left text_items (length ts) (a ts))
    → ((ts : List Token) → Left text_members (length ts) (o ts)) → (ts : List Token) → Left text_weight (length ts) (json.value_with a o ts)
one_level a o p q [] = tt
one_level a o p q (begin_object ∷ ts) = mapped text_members text_weight (length ts) (suc (length ts)) json.object (λ ms r x. omega arith) (o ts) (q ts)
one_level a o p q (end_object ∷ ts) = tt
one_level a o p q (begin_array ∷ ts) = mapped text_items text_weight (length ts) (suc (length ts)) json.array (λ js r x. omega arith) (a ts) (p ts)
one_level a o p q (end_array ∷ ts) = tt
one_level a o p q (key s ∷ ts) = tt
one_level a o p q (string s ∷ ts) = omega arith
one_level a o p q (number s ∷ ts) = omega arith
one_level a o p q (boolean b ∷ ts) = omega arith
one_level a o p q (null ∷ ts) = omega arith
one_level a o p q (bad ∷ ts) = tt

value_left : (depth : ℕ) (ts : List Token) → Left text_weight (length ts) (json.value depth ts)
unfolding json.value
value_left zero ts = one_level (λ ts. None) (λ ts. None) (λ ts. tt) (λ ts. tt) ts
value_left (suc depth) ts =
    one_level (λ ts. json.items (json.value depth) (length ts) ts) (λ ts. json.members (json.value depth) (length ts) ts)
    (λ ts. items_left (json.value depth) (value_left depth) (length ts) ts) (λ ts. members_left (json.value depth) (value_left depth) (length ts) ts) ts

-- ---- the value of it weighs no more
abbrev AtMost : {A : Type 0} → (A → ℕ) → ℕ → Option A → Type 0
AtMost f n None = ⊤
AtMost f n (Some a) = f a ≤ n

most_map : {A B : Type 0} (f : A → ℕ) (g : B → ℕ) (m n : ℕ) (h : A → B) → ((a : A) → f a ≤ m → g (h a) ≤ n) → (o : Option A) → AtMost f m o
    → AtMost g n (option_map h o)
most_map f g m n h k None x = tt
most_map f g m n h k (Some a) x = k a x

most_then : {A B : Type 0} (f : A → ℕ) (g : B → ℕ) (m n : ℕ) (h : A → Option B) → ((a : A) → f a ≤ m → AtMost g n (h a)) → (o : Option A)
    → AtMost f m o → AtMost g n (option_and_then h o)
most_then f g m n h k None x = tt
most_then f g m n h k (Some a) x = k a x

most_weaker : {A : Type 0} (f : A → ℕ) (m n : ℕ) → m ≤ n → (o : Option A) → AtMost f m o → AtMost f n o
most_weaker f m n le None x = tt
most_weaker f m n le (Some a) x = omega arith

flat : {A : Type 0} (o : Option A) → AtMost (λ _. 0) 0 o
flat None = tt
flat (Some a) = omega arith

ordered : (o : Ordering) (a b c : Members) (n : ℕ) → members_weight a ≤ n → members_weight b ≤ n → members_weight c ≤ n
    → members_weight (match_ordering o a b c) ≤ n
ordered Less a b c n p q r = p
ordered Equal a b c n p q r = q
ordered Greater a b c n p q r = r

put_weight : (k : List ℕ) (d : Data) (ms : Members) → members_weight (put k d ms) ≤ weight d + members_weight ms
put_weight k d no_members = omega arith
put_weight k d (member l e ms) =
    let a = put_weight k d ms in
    ordered (slice_cmp nat_cmp k l) (member k d (member l e ms)) (member l d ms) (member l e (put k d ms)) _ (omega arith) (omega arith) (omega arith)

mutual
  json_weight : (j : json.Json) → AtMost weight (text_weight j) (of_json j)
  json_weight json.null = omega arith
  json_weight (json.boolean b) = omega arith
  json_weight (json.number s) = most_map (λ _. 0) weight 0 1 tree.number (λ a x. omega arith) (number_of s) (flat _)
  json_weight (json.string s) = omega arith
  json_weight (json.array js) = most_map items_weight weight (text_items js) (suc (text_items js)) tree.array (λ a x. omega arith) (of_items js) (json_items js)
  json_weight (json.object ms) =
      most_map members_weight weight (text_members ms) (suc (text_members ms)) tree.object (λ a x. omega arith) (of_members ms no_members)
      (most_weaker members_weight _ _ (omega arith) _ (json_members ms no_members))

  json_items : (js : json.Items) → AtMost items_weight (text_items js) (of_items js)
  json_items json.no_items = omega arith
  json_items (json.item j js) =
      most_then weight items_weight (text_weight j) (text_weight j + text_items js) _
      (λ d x. most_map items_weight items_weight (text_items js) (text_weight j + text_items js) (item d) (λ ds y. omega arith) _ (json_items js))
      _ (json_weight j)

  json_members : (ms : json.Members) (found : Members) → AtMost members_weight (text_members ms + members_weight found) (of_members ms found)
  json_members json.no_members found = omega arith
  json_members (json.member k j ms) found =
      most_then weight members_weight (text_weight j) (text_weight j + text_members ms + members_weight found) _
      (λ d x. most_weaker members_weight (text_members ms + members_weight (put k d found)) _ (omega (arith, put_weight k d found)) _
      (json_members ms (put k d found))) _ (json_weight j)

last : (n : ℕ) (o : Option (json.Json × List Token)) → Left text_weight n o → AtMost text_weight n (option_and_then (λ p. json.if_last p.0 p.1) o)
last n None h = tt
last n (Some (j, [])) h = omega arith
last n (Some (j, t ∷ ts)) h = tt

read_most : (text : List ℕ) → AtMost weight (suc (length text)) (read text)
read_most text =
    most_then text_weight weight (length (tokens text)) (suc (length text)) of_json
    (λ j x. most_weaker weight (text_weight j) _ (let a = few_tokens text in omega arith) _ (json_weight j)) _
    (last (length (tokens text)) _ (value_left max_depth (tokens text)))

pub read_weight : (text : List ℕ) (d : Data) → read text ≡ Some d → weight d ≤ suc (length text)
read_weight text d is = subst (AtMost weight (suc (length text))) is (read_most text)
