-- Names of a metamodel: apart where one is looked for; no class's has a slash, and no feature is named as a key.
use Rattle.std.specs.Prelude.{◌≡◌, ℕ, ◌==◌, ◌||◌, Bool, false, Some, map, codes, slice_get}
use Rattle.std.specs.List.{list_any}
use Rattle.std.specs.Str.{bytes_eq}
use Rattle.ecore_meta.specs.Meta.{Meta, features_of, name_at}
use Rattle.ecore_meta.specs.Names.{Name, has_repeat}
use Rattle.ecore_meta.specs.Typing.{literals_of}
use Rattle.ecore_meta.specs.declared.meta.Class.{Class as ClassOf}

-- a key of an object that is no feature's
abbrev pub is_reserved : Name → Bool
is_reserved t = bytes_eq t (codes "eClass") || bytes_eq t (codes "_id")

-- a name that no feature has: of a key of an object, or of a reference
abbrev pub is_taken : Name → Bool
is_taken t = is_reserved t || bytes_eq t (codes "$ref")

-- the name has a slash
abbrev pub has_slash : Name → Bool
has_slash t = list_any (λ b. b == 47) t

-- the literals of each enum have different texts
abbrev pub TextsAreApart : Meta → Type 0
TextsAreApart meta = (e : ℕ) → has_repeat (map (λ l. l.text) (literals_of meta e)) ≡ false

-- Names of classes differ and have no slash. Those of a class's features differ, and none is that of the class, the id or a
-- reference. Enums differ by name, and the literals of each by text and by name.
pub record IsNamed (meta : Meta) : Type 0 where
  pub classes : has_repeat (map (λ c. c.name) meta.classes) ≡ false
  pub slashes : (n : ℕ) (class : ClassOf) → slice_get meta.classes n ≡ Some class → has_slash class.name ≡ false
  pub features : (c : ℕ) → has_repeat (map (name_at meta.features) (features_of meta c)) ≡ false
  pub keys : (f : ℕ) → is_reserved (name_at meta.features f) ≡ false
  pub refs : (f : ℕ) → bytes_eq (name_at meta.features f) (codes "$ref") ≡ false
  pub enums : has_repeat (map (λ e. e.name) meta.enums) ≡ false
  pub literals : TextsAreApart meta
  pub literal_names : (e : ℕ) → has_repeat (map (λ l. l.name) (literals_of meta e)) ≡ false
