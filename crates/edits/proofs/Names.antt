-- What a name names: a live element, and a feature of its class.
use Rattle.std.proofs.Common.{◌≡◌, ℕ, Bool, true, false, cond, List, [], ◌∷◌, refl, ap, ◌∙◌, ◌||◌, nat_eq}
use Rattle.std.specs.Prelude.{Option, None, Some, is_some, ok_or, slice_get, Ok, if◌then◌else◌}
use Rattle.std.specs.List.{list_any}
use Rattle.std.specs.Option.{option_map_or}
use Rattle.std.specs.Str.{bytes_eq}
use Rattle.std.specs.FinMap.{get}
use Rattle.std.proofs.lemmas.Bool.{or_left}
use Rattle.finite_maps.proofs.EqualLaws.{nat_equality}
use Rattle.ecore_meta.specs.Meta.{Meta, feature_named, first_named, name_at}
use Rattle.ecore_meta.specs.declared.meta.Class.{Class}
use Rattle.ecore_meta.specs.declared.meta.Feature.{Feature}
use Rattle.model_state.specs.Ident.{is_id}
use Rattle.model_state.specs.Keys.{IdBytes}
use Rattle.model_state.specs.State.{State, is_live}
use Rattle.model_state.specs.Steps.{class_has}
use Rattle.edit_steps.specs.declared.fault.EditFault.{EditFault}
use Rattle.edit_steps.specs.declared.fault.EditFault.TheVariants.{NoFeature}
use Rattle.edits.specs.Edits.{class_at, feature_at}

-- a word that names a live element
pub class_held : (m : State) (e : IdBytes) → is_some (class_at m e) ≡ true → is_live m e ≡ true
class_held m e h =
    elim (is_id e) as (λ b. is_some (if b then get m.kind e else None) ≡ true → is_live m e ≡ true) [
      | true ↦ λ is. is
      | false ↦ λ no. cc
    ] h

-- ---- the feature of an element
or_more : (a b : Bool) → b ≡ true → a || b ≡ true
or_more true b h = refl
or_more false b h = h

some_same : {A : Type 0} (x y : A) → Some x ≡ Some y → x ≡ y
some_same x y e = cc

among : (features : List Feature) (ns : List ℕ) (q : IdBytes) (f : ℕ) → first_named features ns q ≡ Some f → list_any (nat_eq f) ns ≡ true
among features [] q f h = cc
among features (n ∷ ns) q f h =
    elim (bytes_eq (name_at features n) q) as (λ b. cond b (Some n) (first_named features ns q) ≡ Some f → nat_eq f n || list_any (nat_eq f) ns ≡ true) [
      | true ↦ λ here. or_left (nat_eq f n) _ (ap (nat_eq f) (some_same n f here) ∙ nat_equality.own f)
      | false ↦ λ later. or_more (nat_eq f n) _ (among features ns q f later)
    ] h

held_by : (features : List Feature) (o : Option Class) (q : IdBytes) (f : ℕ)
    → first_named features (option_map_or (λ class. class.features) o []) q ≡ Some f
    → option_map_or (λ class. list_any (nat_eq f) class.features) o false ≡ true
held_by features None q f h = cc
held_by features (Some class) q f h = among features class.features q f h

there_is : (o : Option ℕ) (e : EditFault) (f : ℕ) → ok_or o e ≡ Ok f → o ≡ Some f
there_is None e f h = cc
there_is (Some g) e f h = cc

-- what a name names is a feature of the class
pub feature_of : (meta : Meta) (o : Option ℕ) (name : IdBytes) (f : ℕ) → feature_at meta o name ≡ Ok f → class_has meta o f ≡ true
feature_of meta None name f h = cc
feature_of meta (Some c) name f h = held_by meta.features (slice_get meta.classes c) name f (there_is (feature_named meta c name) NoFeature f h)

-- and of the class of an element
pub feature_held : (meta : Meta) (m : State) (e name : IdBytes) (f : ℕ) → feature_at meta (class_at m e) name ≡ Ok f → class_has meta (get m.kind e) f ≡ true
feature_held meta m e name f h =
    elim (is_id e) as (λ b. feature_at meta (if b then get m.kind e else None) name ≡ Ok f → class_has meta (get m.kind e) f ≡ true) [
      | true ↦ λ is. feature_of meta (get m.kind e) name f is
      | false ↦ λ no. cc
    ] h
