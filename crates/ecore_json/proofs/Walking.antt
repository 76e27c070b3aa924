-- How the walk goes on, by what its parts find.
use Rattle.std.proofs.Common.{◌≡◌, Bool, true, false, refl, sym, ap, subst, ◌∙◌, Option, Some, None, is_some, cond, option_map, Bor}
use Rattle.serde_json.specs.Data.{Data, Num, null, boolean, number, string, array, object, Items, no_items, item, Members, no_members, member}
use Rattle.serde_json.specs.Find.{as_array}
use Rattle.ecore_json.specs.declared.fault.WalkFault.{WalkFault}
use Rattle.ecore_json.specs.declared.fault.WalkFault.TheVariants.{BadKey, LeftOut}
use Rattle.ecore_json.specs.declared.table.Shape.{Shape}
use Rattle.ecore_json.specs.declared.table.Position.{Position}
use Rattle.ecore_meta.specs.Names.{Name}
use Rattle.ecore_json.specs.Table.{wants, required}
use Rattle.ecore_json.specs.Walk.{«then», fails, shape_at, left_out, first_lacking, is_before, value_fault, shaped_fault, object_fault, array_fault}
use Rattle.ecore_json.specs.Walk.{objects_fault, items_fault, keys_fault}

-- ---- an object
module _ (own : Name) (p : Position) where
  pub object_null : (d : Data) → d ≡ null → Some BadKey ≡ object_fault own p d
  unfolding object_fault
  object_null d is = sym (ap (object_fault own p) is)

  pub object_boolean : (d : Data) (b : Bool) → d ≡ boolean b → Some BadKey ≡ object_fault own p d
  unfolding object_fault
  object_boolean d b is = sym (ap (object_fault own p) is)

  pub object_number : (d : Data) (n : Num) → d ≡ number n → Some BadKey ≡ object_fault own p d
  unfolding object_fault
  object_number d n is = sym (ap (object_fault own p) is)

  pub object_string : (d : Data) (s : Name) → d ≡ string s → Some BadKey ≡ object_fault own p d
  unfolding object_fault
  object_string d s is = sym (ap (object_fault own p) is)

  pub object_array : (d : Data) (ds : Items) → d ≡ array ds → Some BadKey ≡ object_fault own p d
  unfolding object_fault
  object_array d ds is = sym (ap (object_fault own p) is)

  object_is : (d : Data) (ms : Members) → d ≡ object ms → object_fault own p d ≡ shaped_fault (shape_at p d) d (λ s lacking. keys_fault own s lacking ms)
  unfolding object_fault
  object_is d ms is = subst (λ e. object_fault own p e ≡ shaped_fault (shape_at p e) e (λ s lacking. keys_fault own s lacking ms)) (sym is) refl

  of_shape : (d : Data) (ms : Members) (o : Option Shape) → d ≡ object ms → shape_at p d ≡ o
      → object_fault own p d ≡ shaped_fault o d (λ s lacking. keys_fault own s lacking ms)
  of_shape d ms o is shape = object_is d ms is ∙ ap (λ o. shaped_fault o d (λ s lacking. keys_fault own s lacking ms)) shape

  pub object_unknown : (d : Data) (ms : Members) → d ≡ object ms → shape_at p d ≡ None → Some BadKey ≡ object_fault own p d
  object_unknown d ms is shape = sym (of_shape d ms None is shape)

  pub object_left_out : (d : Data) (ms : Members) (s : Shape) → d ≡ object ms → shape_at p d ≡ Some s → left_out s d ≡ true
      → Some LeftOut ≡ object_fault own p d
  object_left_out d ms s is shape left =
      sym (of_shape d ms (Some s) is shape ∙ ap (λ (b : Bool). «then» (fails b LeftOut) (keys_fault own s (first_lacking (required s) d) ms)) left)

  pub object_keys : (d : Data) (ms : Members) (s : Shape) → d ≡ object ms → shape_at p d ≡ Some s → left_out s d ≡ false
      → keys_fault own s (first_lacking (required s) d) ms ≡ object_fault own p d
  object_keys d ms s is shape left =
      sym (of_shape d ms (Some s) is shape ∙ ap (λ (b : Bool). «then» (fails b LeftOut) (keys_fault own s (first_lacking (required s) d) ms)) left)

  -- ---- an array of objects, or one
  pub objects_array : (d : Data) (ds : Items) → d ≡ array ds → items_fault own p ds ≡ objects_fault own p d
  unfolding array_fault
  objects_array d ds is = sym (ap (objects_fault own p) is)

  pub objects_one : (d : Data) (f : Option WalkFault) → as_array d ≡ None → f ≡ object_fault own p d → f ≡ objects_fault own p d
  objects_one d f none is = is ∙ sym (ap (λ (o : Option Items). cond (is_some o) (array_fault own p d) (object_fault own p d)) none)

  -- ---- the objects of an array
  pub items_found : (all rest : Items) (d : Data) (ds : Items) (f : WalkFault) → items_fault own p all ≡ items_fault own p rest → rest ≡ item d ds
      → object_fault own p d ≡ Some f → Some f ≡ items_fault own p all
  unfolding items_fault
  items_found all rest d ds f so is at = sym (so ∙ ap (items_fault own p) is ∙ ap (λ o. «then» o (items_fault own p ds)) at)

  pub items_on : (all rest : Items) (d : Data) (ds : Items) → items_fault own p all ≡ items_fault own p rest → rest ≡ item d ds
      → object_fault own p d ≡ None → items_fault own p all ≡ items_fault own p ds
  unfolding items_fault
  items_on all rest d ds so is at = so ∙ ap (items_fault own p) is ∙ ap (λ o. «then» o (items_fault own p ds)) at

  pub items_end : (all rest : Items) → items_fault own p all ≡ items_fault own p rest → rest ≡ no_items → None ≡ items_fault own p all
  unfolding items_fault
  items_end all rest so is = sym (so ∙ ap (items_fault own p) is)

-- ---- the keys of an object
module _ (own : Name) (s : Shape) (lacking : Option Name) (all rest : Members) (so : keys_fault own s lacking all ≡ keys_fault own s lacking rest) where
  pub keys_end : (b : Bool) → rest ≡ no_members → is_some lacking ≡ b → fails b BadKey ≡ keys_fault own s lacking all
  unfolding keys_fault
  keys_end b is some = sym (so ∙ ap (keys_fault own s lacking) is ∙ ap (λ (b : Bool). fails b BadKey) some)

  module _ (k : Name) (d : Data) (ms : Members) (is : rest ≡ member k d ms) where
    abbrev at_key : Option WalkFault
    at_key = value_fault own (wants s k) d (λ p. object_fault own p d) (λ p. array_fault own p d)

    here : keys_fault own s lacking all ≡ «then» (fails (is_before lacking k) BadKey) («then» at_key (keys_fault own s lacking ms))
    unfolding keys_fault
    here = so ∙ ap (keys_fault own s lacking) is

    pub keys_before : is_before lacking k ≡ true → Some BadKey ≡ keys_fault own s lacking all
    keys_before before = sym (here ∙ ap (λ (b : Bool). «then» (fails b BadKey) («then» at_key (keys_fault own s lacking ms))) before)

    past : is_before lacking k ≡ false → keys_fault own s lacking all ≡ «then» at_key (keys_fault own s lacking ms)
    past before = here ∙ ap (λ (b : Bool). «then» (fails b BadKey) («then» at_key (keys_fault own s lacking ms))) before

    pub keys_found : (f : WalkFault) → is_before lacking k ≡ false → at_key ≡ Some f → Some f ≡ keys_fault own s lacking all
    keys_found f before at = sym (past before ∙ ap (λ o. «then» o (keys_fault own s lacking ms)) at)

    pub keys_on : is_before lacking k ≡ false → at_key ≡ None → keys_fault own s lacking all ≡ keys_fault own s lacking ms
    keys_on before at = past before ∙ ap (λ o. «then» o (keys_fault own s lacking ms)) at

pub some_now : (o : Option (Bor Name)) → is_some (option_map (λ k. k.now) o) ≡ is_some o
some_now None = refl
some_now (Some k) = refl
