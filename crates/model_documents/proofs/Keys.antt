-- The keys of each object that is read rise, so that each comes once.
use Rattle.std.proofs.Common.{◌≡◌, Option, Some, None, option_map, Ordering, Less, Equal, Greater, nat_cmp, refl, sym, ap, subst, ◌∙◌}
use Rattle.std.proofs.lemmas.Cmp.{nat_list_cmp_total, tied_itself}
use Rattle.std.specs.Cmp.Lexicographic.{slice_cmp}
use Rattle.std.specs.Prelude.{option_and_then}
use Rattle.std.specs.Ordering.{match_ordering, ordering_reverse}
use Rattle.json.specs.Json as json
use Rattle.json.specs.Lex.{tokens}
use Rattle.serde_json.specs.Data.{Data, null, boolean, number, string, array, object, Items, no_items, item, Members, no_members, member, put}
use Rattle.serde_json.specs.Read.{max_depth, number_of, of_items, of_json, of_members, read}
use Rattle.ecore_meta.specs.Names.{Name}

-- a key that is above the last one
abbrev pub Above : Option Name → Name → Type 0
Above None k = Unit {0}
Above (Some l) k = slice_cmp nat_cmp l k ≡ Less

-- no key is above itself
pub not_own : (k : Name) → Above (Some k) k → ⊥
not_own k h = let e : Equal ≡ Less = sym (tied_itself nat_list_cmp_total k) ∙ h in cc

pub above_more : (last : Option Name) (k l : Name) → Above last k → Above (Some k) l → Above last l
above_more None k l h g = tt
above_more (Some m) k l h g = nat_list_cmp_total.trans m k l h g

-- objects whose keys rise, at each level
abbrev mutual
  pub Trim : Data → Type 0
  Trim null = Unit {0}
  Trim (boolean b) = Unit {0}
  Trim (number n) = Unit {0}
  Trim (string s) = Unit {0}
  Trim (array ds) = TrimItems ds
  Trim (object ms) = TrimMembers None ms

  pub TrimItems : Items → Type 0
  TrimItems no_items = Unit {0}
  TrimItems (item d ds) = Trim d × TrimItems ds

  pub TrimMembers : Option Name → Members → Type 0
  TrimMembers last no_members = Unit {0}
  TrimMembers last (member k d ms) = Above last k × Trim d × TrimMembers (Some k) ms

put_at : (o : Ordering) (last : Option Name) (k l : Name) (d e : Data) (ms : Members) → slice_cmp nat_cmp k l ≡ o → Above last k → Trim d
    → TrimMembers last (member l e ms)
    → (Above (Some l) k → TrimMembers (Some l) (put k d ms))
    → TrimMembers last (match_ordering o (member k d (member l e ms)) (member l d ms) (member l e (put k d ms)))
put_at Less last k l d e ms is a t h later = (a, t, (is, h.1, h.2))
put_at Equal last k l d e ms is a t h later = (h.0, t, h.2)
put_at Greater last k l d e ms is a t h later = (h.0, h.1, later (nat_list_cmp_total.antisymm l k ∙ ap ordering_reverse is))

put_trim : (last : Option Name) (k : Name) (d : Data) (ms : Members) → Above last k → Trim d → TrimMembers last ms → TrimMembers last (put k d ms)
put_trim last k d no_members a t h = (a, t, tt)
put_trim last k d (member l e ms) a t h = put_at (slice_cmp nat_cmp k l) last k l d e ms refl a t h (λ b. put_trim (Some l) k d ms b t h.2)

pub map_some : {A B : Type 0} (f : A → B) (o : Option A) (b : B) → option_map f o ≡ Some b → (a : A) × (o ≡ Some a) × (f a ≡ b)
map_some f None b h = cc
map_some f (Some a) b h = (a, refl, cc)

pub and_then_some : {A B : Type 0} (f : A → Option B) (o : Option A) (b : B) → option_and_then f o ≡ Some b → (a : A) × (o ≡ Some a) × (f a ≡ Some b)
and_then_some f None b h = cc
and_then_some f (Some a) b h = (a, refl, h)

mutual
  json_trim : (j : json.Json) (d : Data) → of_json j ≡ Some d → Trim d
  json_trim json.null d h = let e : null ≡ d = cc in subst Trim e tt
  json_trim (json.boolean b) d h = let e : boolean b ≡ d = cc in subst Trim e tt
  json_trim (json.number s) d h = let n = map_some number (number_of s) d h in subst Trim n.2 tt
  json_trim (json.string s) d h = let e : string s ≡ d = cc in subst Trim e tt
  json_trim (json.array js) d h = let ds = map_some array (of_items js) d h in subst Trim ds.2 (items_trim js ds.0 ds.1)
  json_trim (json.object js) d h = let ms = map_some object (of_members js no_members) d h in subst Trim ms.2 (members_trim js no_members ms.0 tt ms.1)

  items_trim : (js : json.Items) (ds : Items) → of_items js ≡ Some ds → TrimItems ds
  items_trim json.no_items ds h = let e : no_items ≡ ds = cc in subst TrimItems e tt
  items_trim (json.item j js) ds h =
      let one = and_then_some (λ d. option_map (item d) (of_items js)) (of_json j) ds h in
      let rest = map_some (item one.0) (of_items js) ds one.2 in
      subst TrimItems rest.2 (json_trim j one.0 one.1, items_trim js rest.0 rest.1)

  members_trim : (js : json.Members) (found ms : Members) → TrimMembers None found → of_members js found ≡ Some ms → TrimMembers None ms
  members_trim json.no_members found ms t h = let e : found ≡ ms = cc in subst (TrimMembers None) e t
  members_trim (json.member k j js) found ms t h =
      let one = and_then_some (λ d. of_members js (put k d found)) (of_json j) ms h in
      members_trim js (put k one.0 found) ms (put_trim None k one.0 found tt (json_trim j one.0 one.1) t) one.2

pub read_trim : (text : Name) (d : Data) → read text ≡ Some d → Trim d
read_trim text d h =
    let j = and_then_some of_json (option_and_then (λ p. json.if_last p.0 p.1) (json.value max_depth (tokens text))) d h in
    json_trim j.0 d j.2
