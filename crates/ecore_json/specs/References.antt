-- Names, and the references that name a classifier, a type of Ecore or a feature.
use Rattle.std.specs.Prelude.{ℕ, ◌==◌, ◌&&◌, ◌||◌, not, nat_lt, Bool, false, [], ◌∷◌, length, codes, cond, Option, None, Some, is_some}
use Rattle.std.specs.Char.{is_ascii_alphabetic, is_ascii_alphanumeric}
use Rattle.std.specs.List.{list_all, before_first, after_first}
use Rattle.std.specs.Str.{bytes_eq}
use Rattle.ecore_meta.specs.Names.{Name}
use Rattle.ecore_json.specs.Classes.{ecore_types}

-- `_` and `$`
abbrev pub is_mark : ℕ → Bool
is_mark b = (b == 95) || (b == 36)

-- a letter, a digit, `_` or `$`
abbrev pub is_name_byte : ℕ → Bool
is_name_byte b = is_ascii_alphanumeric b || is_mark b

-- the most bytes of a name
abbrev pub most_name_bytes : ℕ
most_name_bytes = 128

-- a letter, `_` or `$`, and letters, digits, `_` and `$` after it, no more bytes than the most
abbrev pub is_name : Name → Bool
is_name [] = false
is_name (b ∷ bs) = (is_ascii_alphabetic b || is_mark b) && (nat_lt (length bs) most_name_bytes && list_all is_name_byte bs)

-- a name, and none of the keys that a model text keeps for itself
abbrev pub is_feature_name : Name → Bool
is_feature_name t = is_name t && not (bytes_eq t (codes "eClass") || bytes_eq t (codes "_id") || bytes_eq t (codes "$ref"))

-- what stands after the prefix
abbrev pub after_prefix : Name → Name → Option Name
after_prefix [] t = Some t
after_prefix (p ∷ ps) [] = None
after_prefix (p ∷ ps) (b ∷ bs) = cond (p == b) (after_prefix ps bs) None

-- the text, where it is a name
abbrev pub if_name : Option Name → Option Name
if_name None = None
if_name (Some t) = cond (is_name t) (Some t) None

-- the name after the prefix
unfoldable pub name_after : Name → Name → Option Name
name_after prefix t = if_name (after_prefix prefix t)

-- the first, or else the next
abbrev pub or_else : {A : Type 0} → Option A → Option A → Option A
or_else None next = next
or_else (Some a) next = Some a

-- the classifier that a reference names, after `//`, `#//` or the package's own prefix
unfoldable pub own_name : Name → Name → Option Name
own_name own t = or_else (name_after (codes "//") t) (or_else (name_after (codes "#//") t) (name_after own t))

-- the type of Ecore that a reference names
unfoldable pub ecore_name : Name → Option Name
ecore_name t = name_after ecore_types t

-- a reference names a type
abbrev pub is_type_reference : Name → Name → Bool
is_type_reference own t = is_some (ecore_name t) || is_some (own_name own t)

-- the byte `/`
abbrev pub is_slash : ℕ → Bool
is_slash b = b == 47

-- the two texts, where each is a name
abbrev pub if_names : Name → Name → Option (Name × Name)
if_names class feature = cond (is_name class && is_name feature) (Some (class, feature)) None

-- the names before and after the first slash
abbrev pub two_names : Name → Option (Name × Name)
two_names t = cond (is_name (before_first is_slash t) && is_name (after_first is_slash t)) (Some (before_first is_slash t, after_first is_slash t)) None

-- the two names of a text, where there is one
abbrev pub if_two : Option Name → Option (Name × Name)
if_two None = None
if_two (Some t) = two_names t

-- a class and a feature after the prefix
unfoldable pub pair_after : Name → Name → Option (Name × Name)
pair_after prefix t = if_two (after_prefix prefix t)

-- the class and the feature that a reference names
unfoldable pub own_feature : Name → Name → Option (Name × Name)
own_feature own t = or_else (pair_after (codes "//") t) (or_else (pair_after (codes "#//") t) (pair_after own t))
