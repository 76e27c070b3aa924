-- The tests of what has an encoding: they hold of just these values.
use Rattle.std.proofs.Common.{◌≡◌, ℕ, ℤ, pos, negsuc, ◌^◌, ◌<◌, ◌≤◌, nat_le, Bool, true, false, ◌&&◌, List, length, All, Option, Some, None, refl, sym, ap, ◌∙◌}
use Rattle.std.specs.Prelude.{FitsSigned}
use Rattle.std.specs.Int.{w64}
use Rattle.std.specs.List.{list_all}
use Rattle.std.specs.Str.{IsUtf8, is_utf8}
use Rattle.std.proofs.lemmas.Bool.{ltb-true, lt-ltb, leb-true, le-leb, and_parts, and_from}
use Rattle.std.proofs.lemmas.Str.{is_utf8-from_IsUtf8, IsUtf8-from_is_utf8}
use Rattle.std.proofs.lemmas.List.Elements.{All-weaker}
use Rattle.std.proofs.lemmas.List.Sums.{AllPass-from_list_all, list_all-from_AllPass}
use Rattle.byte_form.specs.Laws.{IsShortText}
use Rattle.ecore_meta.specs.declared.meta.Value.{Value as MetaValue}
use Rattle.ecore_meta.specs.declared.meta.Value.TheVariants.{Text, Flag, Whole, Literal}
use Rattle.model_state.specs.Ident.{is_id}
use Rattle.model_state.specs.Names.{is_name}
use Rattle.model_state.specs.declared.step.Place.{Place}
use Rattle.model_state.specs.declared.step.Place.TheVariants.{Root, Inside}
use Rattle.model_state.specs.declared.step.Step.{Step}
use Rattle.model_state.specs.declared.step.Step.TheVariants.{Put, Ins, Del, Shift, Link, Unlink, RerankRow, New, Gone, Move, RerankPlace}
use Rattle.model_state.specs.declared.operation.Operation.{Operation}
use Rattle.model_state.specs.declared.operation.Operation.TheVariants.{Simple, Composite}
use Rattle.op_form.specs.declared.event.Event.{Event}
use Rattle.op_form.specs.declared.event.Event.TheVariants.{Init, Checkout, Edit, Begin, End, Undo, Discard, Tidy, Commit, Branch, Tag, Update, Merge}
use Rattle.op_form.specs.declared.event.Event.TheVariants.{Drop, Evolve, Upgrade, Signed}
use Rattle.op_form.specs.Rows.{Format, Nothing, Number, LongNumber, AnyText, OfPackage, Then, Value, by_row}
use Rattle.op_form.specs.Formed.{AreFields, are_fields}
use Rattle.op_form.specs.Formed.{IsU32, IsU64, IsIdText, IsNameText, IsGiven, IsList, IsSomeList, IsValue, IsPlace, IsStep, IsOperation, IsPackage}
use Rattle.op_form.specs.Formed.{IsEvent, is_u32, is_u64, is_i64, is_short_text, is_given, is_list, is_some_list, is_value, is_place, is_step}
use Rattle.op_form.specs.Formed.{is_operation, is_package, is_event}

-- a test holds just where the fact does
pub record Told (test : Bool) (Fact : Type 0) : Type 0 where
  pub is : test ≡ true → Fact
  pub holds : Fact → test ≡ true

always : Told true (Unit {0})
always = record { is = λ h. tt; holds = λ h. refl }

-- two tests, and more, as the facts stand in pairs
two : {a b : Bool} {A B : Type 0} → Told a A → Told b B → Told (a && b) (A × B)
two {a} {b} x y = record {
  is = λ h. (x.is (and_parts a b h).0, y.is (and_parts a b h).1);
  holds = λ h. and_from a b (x.holds h.0) (y.holds h.1);
}

turned : {a : Bool} {A B C : Type 0} → Told a ((A × B) × C) → Told a (A × (B × C))
turned x = record {
  is = λ h. ((x.is h).0.0, ((x.is h).0.1, (x.is h).1));
  holds = λ h. x.holds ((h.0, h.1.0), h.1.1);
}

three : {a b c : Bool} {A B C : Type 0} → Told a A → Told b B → Told c C → Told (a && b && c) (A × (B × C))
three x y z = turned (two (two x y) z)

four : {a b c d : Bool} {A B C D : Type 0} → Told a A → Told b B → Told c C → Told d D → Told (a && b && c && d) (A × (B × (C × D)))
four x y z u = turned (three (two x y) z u)

five : {a b c d e : Bool} {A B C D E : Type 0} → Told a A → Told b B → Told c C → Told d D → Told e E → Told (a && b && c && d && e) (A × (B × (C × (D × E))))
five x y z u v = turned (four (two x y) z u v)

seven : {a b c d e f g : Bool} {A B C D E F G : Type 0} → Told a A → Told b B → Told c C → Told d D → Told e E → Told f F → Told g G
    → Told (a && b && c && d && e && f && g) (A × (B × (C × (D × (E × (F × G))))))
seven x y z u v w t = turned (turned (five (two (two x y) z) u v w t))

u32_told : (n : ℕ) → Told (is_u32 n) (IsU32 n)
u32_told n = record { is = λ h. ltb-true n (2 ^ 32) h; holds = λ h. lt-ltb n (2 ^ 32) h }

u64_told : (n : ℕ) → Told (is_u64 n) (IsU64 n)
u64_told n = record { is = λ h. ltb-true n (2 ^ 64) h; holds = λ h. lt-ltb n (2 ^ 64) h }

pub i64_told : (z : ℤ) → Told (is_i64 z) (FitsSigned w64 z)
i64_told (pos n) = record { is = λ h. record { sfits = ltb-true n (2 ^ 63) h }; holds = λ h. lt-ltb n (2 ^ 63) h.sfits }
i64_told (negsuc n) = record { is = λ h. record { sfits = ltb-true n (2 ^ 63) h }; holds = λ h. lt-ltb n (2 ^ 63) h.sfits }

text_told : (text : List ℕ) → Told (is_short_text text) (IsShortText text)
text_told text = two (u32_told (length text)) (record { is = IsUtf8-from_is_utf8 text; holds = is_utf8-from_IsUtf8 text })

id_told : (text : List ℕ) → Told (is_id text) (IsIdText text)
id_told text = record { is = λ h. h; holds = λ h. h }

name_told : (text : List ℕ) → Told (is_name text) (IsNameText text)
name_told text = record { is = λ h. h; holds = λ h. h }

module _ {X : Type 0} {test : X → Bool} {Is : X → Type 0} (told : (x : X) → Told (test x) (Is x)) where
  given_told : (o : Option X) → Told (is_given test o) (IsGiven Is o)
  given_told None = always
  given_told (Some x) = told x

  all_told : (xs : List X) → Told (list_all test xs) (All Is xs)
  all_told xs = record {
    is = λ h. All-weaker (λ x. test x ≡ true) Is (λ x e. (told x).is e) xs (AllPass-from_list_all test xs h);
    holds = λ h. list_all-from_AllPass test xs (All-weaker Is (λ x. test x ≡ true) (λ x e. (told x).holds e) xs h);
  }

  list_told : (xs : List X) → Told (is_list test xs) (IsList Is xs)
  list_told xs = two (u32_told (length xs)) (all_told xs)

  some_told : (xs : List X) → Told (is_some_list test xs) (IsSomeList Is xs)
  some_told xs =
      let one : Told (nat_le 1 (length xs)) (1 ≤ length xs) = record { is = λ h. leb-true 1 (length xs) h; holds = λ h. le-leb 1 (length xs) h } in
      let all : Told (is_some_list test xs) ((1 ≤ length xs) × ((length xs < 2 ^ 32) × All Is xs)) = three one (u32_told (length xs)) (all_told xs) in
      record {
        is = λ h. ((all.is h).0, (all.is h).1.0, (all.is h).1.1);
        holds = λ h. all.holds (h.0, (h.1, h.2));
      }

value_told : (v : MetaValue) → Told (is_value v) (IsValue v)
unfolding is_value
value_told (Text t) = text_told t
value_told (Flag b) = always
value_told (Whole z) = i64_told z
value_told (Literal n) = u32_told n

place_told : (p : Place) → Told (is_place p) (IsPlace p)
unfolding is_place
place_told Root = always
place_told (Inside parent feature) = two (id_told parent) (u32_told feature)

step_told : (s : Step) → Told (is_step s) (IsStep s)
unfolding is_step
step_told (Put e f old new) = four (id_told e) (u32_told f) (given_told value_told old) (given_told value_told new)
step_told (Ins e f at v) = four (id_told e) (u32_told f) (u32_told at) (value_told v)
step_told (Del e f at v) = four (id_told e) (u32_told f) (u32_told at) (value_told v)
step_told (Shift e f from to) = four (id_told e) (u32_told f) (u32_told from) (u32_told to)
step_told (Link a f ra b rb) = five (id_told a) (u32_told f) (u64_told ra) (id_told b) (given_told u64_told rb)
step_told (Unlink a f ra b rb) = five (id_told a) (u32_told f) (u64_told ra) (id_told b) (given_told u64_told rb)
step_told (RerankRow a f b old new) = five (id_told a) (u32_told f) (id_told b) (u64_told old) (u64_told new)
step_told (New e class place rank) = four (id_told e) (u32_told class) (place_told place) (u64_told rank)
step_told (Gone e class place rank) = four (id_told e) (u32_told class) (place_told place) (u64_told rank)
step_told (Move e from from_rank to to_rank above_from above_to) =
    seven (id_told e) (place_told from) (u64_told from_rank) (place_told to) (u64_told to_rank) (list_told id_told above_from) (list_told id_told above_to)
step_told (RerankPlace e old new) = three (id_told e) (u64_told old) (u64_told new)

operation_told : (o : Operation) → Told (is_operation o) (IsOperation o)
unfolding is_operation
operation_told (Simple kind steps) = record { is = λ h. (tt, (some_told step_told steps).is h); holds = λ h. (some_told step_told steps).holds h.1 }
operation_told (Composite name steps) = two (name_told name) (some_told step_told steps)

package_told : (operations : List Operation) → Told (is_package operations) (IsPackage operations)
unfolding is_package
package_told operations = list_told operation_told operations

fields_told : (format : Format) (x : Value format) → Told (are_fields format x) (AreFields format x)
fields_told Nothing x = always
fields_told Number n = u32_told n
fields_told LongNumber n = u64_told n
fields_told AnyText text = text_told text
fields_told OfPackage operations = package_told operations
fields_told (Then first second) x = two (fields_told first x.0) (fields_told second x.1)

event_told : (e : Event) → Told (is_event e) (IsEvent e)
unfolding is_event
event_told (Init text) = fields_told AnyText text
event_told (Checkout version branch) = fields_told (Then Number Number) (version, branch)
event_told (Edit ws operations) = fields_told (Then Number OfPackage) (ws, operations)
event_told (Begin ws name) = fields_told (Then Number AnyText) (ws, name)
event_told (End ws) = fields_told Number ws
event_told (Undo ws) = fields_told Number ws
event_told (Discard ws) = fields_told Number ws
event_told (Tidy ws) = fields_told Number ws
event_told (Commit ws message) = fields_told (Then Number AnyText) (ws, message)
event_told (Branch ws name) = fields_told (Then Number AnyText) (ws, name)
event_told (Tag name version) = fields_told (Then AnyText Number) (name, version)
event_told (Update ws letters) = fields_told (Then Number AnyText) (ws, letters)
event_told (Merge ws branch letters) = fields_told (Then Number (Then Number AnyText)) (ws, (branch, letters))
event_told (Drop ws) = fields_told Number ws
event_told (Evolve text) = fields_told AnyText text
event_told Upgrade = fields_told Nothing tt
event_told (Signed ws author moment message) = fields_told (Then Number (Then AnyText (Then LongNumber AnyText))) (ws, (author, (moment, message)))

-- what passes the test has an encoding, and what has one passes it
pub is_event_is : (e : Event) → is_event e ≡ true → IsEvent e
is_event_is e h = (event_told e).is h

pub is_event_holds : (e : Event) → IsEvent e → is_event e ≡ true
is_event_holds e h = (event_told e).holds h

-- what passes the test of packages has an encoding
pub is_package_is : (operations : List Operation) → is_package operations ≡ true → IsPackage operations
is_package_is operations h = (package_told operations).is h

with_true : (a b : Bool) → b ≡ true → a && b ≡ a
with_true true b h = h
with_true false b h = refl

-- a text by its length alone
pub short_text_is : (text seen : List ℕ) (n : ℕ) (r : Bool) → seen ≡ text → IsUtf8 seen → n ≡ length seen → r ≡ is_u32 n → r ≡ is_short_text text
short_text_is text seen n r same utf8 len is =
    is ∙ ap is_u32 (len ∙ ap length same) ∙ sym (with_true (is_u32 (length text)) (is_utf8 text) (ap is_utf8 (sym same) ∙ is_utf8-from_IsUtf8 seen utf8))
