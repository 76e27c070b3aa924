-- An edit that is not refused: what its tests have shown, the steps taken one by one, and when there is none.
use Rattle.std.proofs.Common.{◌≡◌, ℕ, Bool, true, List, length, refl, ap, ◌∙◌, ◌&&◌, nat_le, nat_lt}
use Rattle.std.specs.Prelude.{Option, None, Some, is_some, unwrap_or, Result, Ok, Err}
use Rattle.std.specs.List.{list_any}
use Rattle.std.specs.FinMap.{get}
use Rattle.finite_maps.specs.Maps.{is_below}
use Rattle.ecore_meta.specs.Meta.{Meta, class_named}
use Rattle.ecore_meta.specs.Typing.{fits}
use Rattle.ecore_meta.specs.declared.meta.Kind.{Kind}
use Rattle.ecore_meta.specs.declared.meta.Kind.TheVariants.{Attr, AttrMany, Bounded, Free}
use Rattle.ecore_meta.specs.declared.meta.Scalar.{Scalar}
use Rattle.ecore_meta.specs.declared.meta.Scalar.TheVariants as types
use Rattle.ecore_meta.specs.declared.meta.Value.{Value}
use Rattle.model_state.specs.Ident.{is_id}
use Rattle.model_state.specs.Keys.{IdBytes}
use Rattle.model_state.specs.Listing.{values_at}
use Rattle.model_state.specs.State.{State}
use Rattle.model_state.specs.Steps.{fold, class_has}
use Rattle.model_state.specs.Typing.{value_eq, kind_of, upper_of, is_attr, is_many, is_unique, attr_fits, many_fits}
use Rattle.model_state.specs.Good.{Good, Sound}
use Rattle.edits.specs.declared.edit.Edit.{Edit}
use Rattle.edits.specs.declared.edit.Edit.TheVariants.{Create, Delete, Set, Unset, Add, Remove, Shift, Link, Unlink, Reorder, Move}
use Rattle.edit_steps.specs.declared.fault.EditFault.{EditFault}
use Rattle.edit_steps.specs.References.{holds_one}
use Rattle.edit_steps.specs.Refusals.{set_ref_refusal, link_index, link_refusal, unlink_refusal, reorder_refusal}
use Rattle.edit_steps.specs.Attributes.{taken}
use Rattle.edits.specs.FreshIds.{id_or_fresh}
use Rattle.edits.specs.Edits.{ValueReading, Effect, Creates, Moves, Deletes, Puts, Clears, Inserts, Removes, Shifts, Refers, Forgets, Links, Unlinks}
use Rattle.edits.specs.Edits.{Reorders, class_at, feature_at, put_effect, unless_refused, target_in, refer_effect, set_effect, unset_effect}
use Rattle.edits.specs.Edits.{insert_effect, add_effect, remove_effect, shift_effect, is_listed, link_effect, unlink_effect, reorder_effect}
use Rattle.edits.specs.Edits.{of_feature, effect_of, effect_steps, after_effect}
use Rattle.edit_steps.proofs.DeleteLaws.{delete_leads}
use Rattle.edits.proofs.Allowed.{Allowed, passed, missed, allowed_as}
use Rattle.edits.proofs.Names.{feature_held}
use Rattle.edits.proofs.Placed.{create_allowed, move_allowed, move_meets, delete_allowed}
use Rattle.edits.specs.Laws.{IsTyped, EditsMeet, EditsKeepGood}
use Rattle.model_laws.proofs.Runs.{steps_keep_good}
use Rattle.edit_steps.proofs.Refused.{may_set, may_link, link_within, may_unlink, may_reorder, reorder_within}
use Rattle.edit_steps.proofs.Sets.{set_ref_meets}
use Rattle.edit_steps.proofs.LinkEdits.{link_meets, unlink_meets, unset_meets, reorder_meets}
use Rattle.edit_steps.proofs.Creates.{create_meets}
use Rattle.edit_steps.proofs.AttributeEdits.{put_meets, taken_fits, taken_differs}
use Rattle.edit_steps.proofs.ManyEdits.{insert_meets, remove_meets, shift_meets, clear_meets}
use Rattle.model_state.specs.Ranks.{most_entries}

not_refused : (o : Option EditFault) (x y : Effect) → unless_refused o x ≡ Ok y → (o ≡ None) × ◌≡◌ {A = Result Effect EditFault} (Ok x) (Ok y)
not_refused None x y h = (refl, h)
not_refused (Some e) x y h = cc

-- ---- the feature of an element
record OfFeature (meta : Meta) (r : Result ℕ EditFault) (effect : ℕ → Kind → Result Effect EditFault) (x : Effect) : Type 0 where
  pub feature : ℕ
  pub named : r ≡ Ok feature
  pub comes : effect feature (kind_of meta feature) ≡ Ok x

with_feature : (meta : Meta) (r : Result ℕ EditFault) (effect : ℕ → Kind → Result Effect EditFault) (x : Effect) → of_feature meta r effect ≡ Ok x
    → OfFeature meta r effect x
with_feature meta (Err e) effect x h = cc
with_feature meta (Ok f) effect x h = record { feature = f; named = refl; comes = h }

-- ---- the rows of attributes
module _ (meta : Meta) (m : State) (e : IdBytes) (f : ℕ) (has : class_has meta (get m.kind e) f ≡ true) (effect : Effect) where
  put_allowed : (o : Option Value) → is_attr (kind_of meta f) ≡ true → ((v : Value) → o ≡ Some v → attr_fits meta (kind_of meta f) v ≡ true)
      → put_effect meta e f o ≡ Ok effect → Allowed meta m effect
  put_allowed None is fit h = cc
  put_allowed (Some v) is fit h = allowed_as meta m (Puts e f (taken meta f v)) effect h ((has, is), taken_fits meta f v (fit v refl), taken_differs meta f v)

  refer_allowed : holds_one meta f ≡ true → (o : Option IdBytes) → refer_effect meta m e f o ≡ Ok effect → Allowed meta m effect
  refer_allowed one None h = cc
  refer_allowed one (Some b) h =
      let live = passed (is_some (class_at m b)) _ _ effect h in
      let open_ = not_refused (set_ref_refusal meta m e f b) (Refers e f b) effect live.1 in
      allowed_as meta m (Refers e f b) effect open_.1 (may_set meta m e f b one open_.0)

  set_allowed : (reading : ValueReading) → IsTyped meta reading → (text : List ℕ) (k : Kind) → kind_of meta f ≡ k
      → set_effect reading meta m e f k text ≡ Ok effect → Allowed meta m effect
  set_allowed reading typed text (Attr scalar default) is h =
      put_allowed (reading scalar text) (ap is_attr is) (λ v read. ap (λ k. attr_fits meta k v) is ∙ typed scalar text v read) h
  set_allowed reading typed text (Bounded target opposite) is h =
      let one = passed (holds_one meta f) _ _ effect h in
      refer_allowed one.0 (target_in (reading types.Text text)) one.1
  set_allowed reading typed text k is h = cc

  unset_allowed : (k : Kind) → kind_of meta f ≡ k → unset_effect e f k ≡ Ok effect → Allowed meta m effect
  unset_allowed (Attr scalar default) is h = allowed_as meta m (Puts e f None) effect h ((has, ap is_attr is), refl, refl)
  unset_allowed (AttrMany scalar unique) is h = allowed_as meta m (Clears e f) effect h (has, ap is_many is)
  unset_allowed (Bounded target opposite) is h = allowed_as meta m (Forgets e f) effect h tt
  unset_allowed (Free target opposite) is h = allowed_as meta m (Forgets e f) effect h tt
  unset_allowed k is h = cc

  insert_allowed : (scalar : Scalar) (unique : Bool) → kind_of meta f ≡ AttrMany scalar unique → (k : ℕ) → nat_le k (length (values_at m e f)) ≡ true
      → (o : Option Value) → ((v : Value) → o ≡ Some v → fits meta scalar v ≡ true)
      → insert_effect e f unique (upper_of meta f) (values_at m e f) k o ≡ Ok effect → Allowed meta m effect
  insert_allowed scalar unique is k within None fit h = cc
  insert_allowed scalar unique is k within (Some v) fit h =
      let vs = values_at m e f in
      let once = missed (unique && list_any (value_eq v) vs) _ _ effect h in
      let room = passed (is_below (length vs) (upper_of meta f)) _ _ effect once.1 in
      let few = passed (nat_lt (length vs) most_entries) _ _ effect room.1 in
      allowed_as meta m (Inserts e f k v) effect few.1 (record {
        many = (has, ap is_many is);
        typed = ap (λ k. many_fits meta k v) is ∙ fit v refl;
        within = within;
        once = ap (λ k. is_unique k && list_any (value_eq v) vs) is ∙ once.0;
        room = room.0;
        few = few.0;
      })

  add_allowed : (reading : ValueReading) → IsTyped meta reading → (at : Option ℕ) (text : List ℕ) (k : Kind) → kind_of meta f ≡ k
      → add_effect reading meta m e f k at text ≡ Ok effect → Allowed meta m effect
  add_allowed reading typed at text (AttrMany scalar unique) is h =
      let k = unwrap_or at (length (values_at m e f)) in
      let within = passed (nat_le k (length (values_at m e f))) _ _ effect h in
      insert_allowed scalar unique is k within.0 (reading scalar text) (typed scalar text) within.1
  add_allowed reading typed at text k is h = cc

  remove_allowed : (i : ℕ) (k : Kind) → kind_of meta f ≡ k → remove_effect m e f k i ≡ Ok effect → Allowed meta m effect
  remove_allowed i (AttrMany scalar unique) is h =
      let within = passed (nat_lt i (length (values_at m e f))) _ _ effect h in
      allowed_as meta m (Removes e f i) effect within.1 ((has, ap is_many is), within.0)
  remove_allowed i k is h = cc

  shift_allowed : (from to : ℕ) (k : Kind) → kind_of meta f ≡ k → shift_effect m e f k from to ≡ Ok effect → Allowed meta m effect
  shift_allowed from to (AttrMany scalar unique) is h =
      let within = passed (nat_lt from (length (values_at m e f))) _ _ effect h in
      let within_to = passed (nat_lt to (length (values_at m e f))) _ _ effect within.1 in
      allowed_as meta m (Shifts e f from to) effect within_to.1 ((has, ap is_many is), within.0, within_to.0)
  shift_allowed from to k is h = cc

  link_allowed : (b : IdBytes) (at : Option ℕ) (k : Kind) → link_effect meta m e f k b at ≡ Ok effect → Allowed meta m effect
  link_allowed b at k h =
      let listed = passed (is_listed meta f k) _ _ effect h in
      let live = passed (is_some (class_at m b)) _ _ effect listed.1 in
      let open_ = not_refused (link_refusal meta m e f b at) (Links e f b (link_index m e f at)) effect live.1 in
      allowed_as meta m (Links e f b (link_index m e f at)) effect open_.1 (may_link meta m e f b at open_.0, link_within meta m e f b at open_.0)

  unlink_allowed : (b : IdBytes) (k : Kind) → unlink_effect meta m e f k b ≡ Ok effect → Allowed meta m effect
  unlink_allowed b k h =
      let listed = passed (is_listed meta f k) _ _ effect h in
      let formed = passed (is_id b) _ _ effect listed.1 in
      let open_ = not_refused (unlink_refusal m e f b) (Unlinks e f b) effect formed.1 in
      allowed_as meta m (Unlinks e f b) effect open_.1 (may_unlink m e f b open_.0)

  reorder_allowed : (b : IdBytes) (i : ℕ) (k : Kind) → reorder_effect meta m e f k b i ≡ Ok effect → Allowed meta m effect
  reorder_allowed b i k h =
      let listed = passed (is_listed meta f k) _ _ effect h in
      let formed = passed (is_id b) _ _ effect listed.1 in
      let open_ = not_refused (reorder_refusal m e f b i) (Reorders e f b i) effect formed.1 in
      allowed_as meta m (Reorders e f b i) effect open_.1 (may_reorder m e f b i open_.0, reorder_within m e f b i open_.0)

-- the effect of an edit that is not refused is possible
pub allowed : (meta : Meta) (m : State) → Good meta m → (reading : ValueReading) → IsTyped meta reading → (ws : ℕ) (edit : Edit) (effect : Effect)
    → effect_of reading meta m ws edit ≡ Ok effect → Allowed meta m effect
unfolding effect_of
allowed meta m good reading typed ws (Create class destination id) effect h =
    create_allowed meta m good (class_named meta class) destination (id_or_fresh m ws id) effect h
allowed meta m good reading typed ws (Delete e) effect h = delete_allowed meta m e effect h
allowed meta m good reading typed ws (Move e destination index) effect h = move_allowed meta m e destination index effect h
allowed meta m good reading typed ws (Set e name value) effect h =
    let w = with_feature meta (feature_at meta (class_at m e) name) (λ f k. set_effect reading meta m e f k value) effect h in
    set_allowed meta m e w.feature (feature_held meta m e name w.feature w.named) effect reading typed value (kind_of meta w.feature) refl w.comes
allowed meta m good reading typed ws (Unset e name) effect h =
    let w = with_feature meta (feature_at meta (class_at m e) name) (λ f k. unset_effect e f k) effect h in
    unset_allowed meta m e w.feature (feature_held meta m e name w.feature w.named) effect (kind_of meta w.feature) refl w.comes
allowed meta m good reading typed ws (Add e name at value) effect h =
    let w = with_feature meta (feature_at meta (class_at m e) name) (λ f k. add_effect reading meta m e f k at value) effect h in
    add_allowed meta m e w.feature (feature_held meta m e name w.feature w.named) effect reading typed at value (kind_of meta w.feature) refl w.comes
allowed meta m good reading typed ws (Remove e name index) effect h =
    let w = with_feature meta (feature_at meta (class_at m e) name) (λ f k. remove_effect m e f k index) effect h in
    remove_allowed meta m e w.feature (feature_held meta m e name w.feature w.named) effect index (kind_of meta w.feature) refl w.comes
allowed meta m good reading typed ws (Shift e name from to) effect h =
    let w = with_feature meta (feature_at meta (class_at m e) name) (λ f k. shift_effect m e f k from to) effect h in
    shift_allowed meta m e w.feature (feature_held meta m e name w.feature w.named) effect from to (kind_of meta w.feature) refl w.comes
allowed meta m good reading typed ws (Link e name target index) effect h =
    let w = with_feature meta (feature_at meta (class_at m e) name) (λ f k. link_effect meta m e f k target index) effect h in
    link_allowed meta m e w.feature (feature_held meta m e name w.feature w.named) effect target index (kind_of meta w.feature) w.comes
allowed meta m good reading typed ws (Unlink e name target) effect h =
    let w = with_feature meta (feature_at meta (class_at m e) name) (λ f k. unlink_effect meta m e f k target) effect h in
    unlink_allowed meta m e w.feature (feature_held meta m e name w.feature w.named) effect target (kind_of meta w.feature) w.comes
allowed meta m good reading typed ws (Reorder e name target index) effect h =
    let w = with_feature meta (feature_at meta (class_at m e) name) (λ f k. reorder_effect meta m e f k target index) effect h in
    reorder_allowed meta m e w.feature (feature_held meta m e name w.feature w.named) effect target index (kind_of meta w.feature) w.comes

-- ---- the steps
pub made_leads : (meta : Meta) → Sound meta → (m : State) → Good meta m → (effect : Effect) → Allowed meta m effect
    → fold meta m (effect_steps meta m effect) ≡ Some (after_effect meta m effect)
made_leads meta sound m good (Creates e class place) may = create_meets meta sound m good e class place may
made_leads meta sound m good (Moves e place at) may = move_meets meta sound m good e place at may
made_leads meta sound m good (Deletes e) may = delete_leads meta sound m good e may
made_leads meta sound m good (Puts e f v) may = put_meets meta m good e f v may.0 may.1 may.2
made_leads meta sound m good (Clears e f) may = clear_meets meta m good e f may
made_leads meta sound m good (Inserts e f k v) may = insert_meets meta m e f k v may
made_leads meta sound m good (Removes e f k) may = remove_meets meta m good e f k may.0 may.1
made_leads meta sound m good (Shifts e f from to) may = shift_meets meta m good e f from to may.0 may.1 may.2
made_leads meta sound m good (Refers a f b) may = set_ref_meets meta sound m good a f b may
made_leads meta sound m good (Forgets a f) may = unset_meets meta sound m good a f
made_leads meta sound m good (Links a f b k) may = link_meets meta sound m good a f b k may.0
made_leads meta sound m good (Unlinks a f b) may = unlink_meets meta sound m good a f b may
made_leads meta sound m good (Reorders a f b k) may = reorder_meets meta sound m good a f b k may.0

pub edits_meet : EditsMeet
edits_meet meta sound m good reading typed ws edit effect comes = made_leads meta sound m good effect (allowed meta m good reading typed ws edit effect comes)

pub edits_keep_good : EditsKeepGood
edits_keep_good meta sound m good reading typed ws edit effect comes =
    steps_keep_good meta sound m (after_effect meta m effect) good (effect_steps meta m effect)
    (edits_meet meta sound m good reading typed ws edit effect comes)
