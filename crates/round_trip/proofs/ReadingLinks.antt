-- The references of the elements are read, and merged lists are those that the elements give.
use Rattle.std.proofs.Common.{◌≡◌, ℕ, zero, suc, Bool, true, false, cond, List, [], ◌∷◌, ◌++◌, map, refl, sym, ap, subst, ◌∙◌, nat_eq, ◌⊎◌, inl, inr}
use Rattle.std.proofs.Common.{append_assoc, append-nil}
use Rattle.std.specs.Prelude.{Option, None, Some, is_some, Ok, unwrap_or}
use Rattle.std.specs.FinMap.{get}
use Rattle.std.specs.List.{AllByRecursion}
use Rattle.finite_maps.proofs.EqualLaws.{and_first, and_second, nat_equality}
use Rattle.ecore_meta.specs.Meta.{Meta, features_of, has_feature}
use Rattle.ecore_meta.specs.Typing.{kind_of, plain_to}
use Rattle.ecore_meta.specs.declared.meta.Kind.{Kind}
use Rattle.ecore_meta.specs.declared.meta.Kind.TheVariants.{Attr, AttrMany, Bounded, Free, Contains, Container, Skip}
use Rattle.model_state.specs.declared.entry.Entry.{Entry}
use Rattle.model_state.specs.Good.{Good, RowOk as StateRowOk}
use Rattle.model_state.specs.Keys.{IdBytes}
use Rattle.model_state.specs.Listing.{targets}
use Rattle.model_state.specs.State.{State}
use Rattle.model_state.specs.Steps.{may_link}
use Rattle.model_state.specs.Typing.{is_plain}
use Rattle.edit_steps.proofs.Lists.{targets_held}
use Rattle.model_documents.specs.Completed.{targets_at}
use Rattle.model_documents.specs.Reads.{Read, «then», collected}
use Rattle.model_documents.specs.References.{entries_at, plain_features}
use Rattle.model_texts.specs.Keys.{key_number, keys_of}
use Rattle.model_texts.specs.Tree.{target_ids}
use Rattle.round_trip.proofs.KeysFound.{Stands, feature_stands}
use Rattle.round_trip.proofs.KeysTypes.{Key, Feature, Links}
use Rattle.round_trip.proofs.ReadingValues.{in_class}
use Rattle.round_trip.proofs.WalksNames.{all_append}
use Rattle.round_trip.proofs.WalksRows.{by_number, class_at, key_links, keys_links, kind_links, set_links}

-- ---- each item gives a value, whatever came before
pub collected_map : {A B : Type 0} (give : List B → A → Read B) (h : A → B) (done : List B) (xs : List A)
    → AllByRecursion (λ a. (bs : List B) → give bs a ≡ Ok (h a)) xs → collected give done xs ≡ Ok (done ++ map h xs)
collected_map give h done [] all = ap (λ xs. Ok xs) (sym (append-nil done))
collected_map give h done (x ∷ xs) all =
    ap (λ r. «then» r (λ b. collected give (done ++ b ∷ []) xs)) (all.0 done) ∙ collected_map give h (done ++ h x ∷ []) xs all.1
    ∙ ap (λ ys. Ok ys) (append_assoc done (h x ∷ []) (map h xs))

-- ---- the links of an element
abbrev Has : ℕ → List Links → Type 0
Has f [] = ⊥
Has f (l ∷ ls) = (f ≡ l.feature) ⊎ Has f ls

has_first : (f : ℕ) (xs ys : List Links) → Has f xs → Has f (xs ++ ys)
has_first f [] ys h = absurd h
has_first f (x ∷ xs) ys (inl e) = inl e
has_first f (x ∷ xs) ys (inr h) = inr (has_first f xs ys h)

has_second : (f : ℕ) (xs ys : List Links) → Has f ys → Has f (xs ++ ys)
has_second f [] ys h = h
has_second f (x ∷ xs) ys h = inr (has_second f xs ys h)

module _ (meta : Meta) (m : State) (e : IdBytes) where
  -- the targets of a reference, as entries
  abbrev ids_at : ℕ → List (Option IdBytes)
  ids_at f = map (λ x. Some x) (target_ids m e f)

  -- the entries are the targets of the feature
  abbrev IsTold : Links → Type 0
  IsTold l = l.entries ≡ ids_at l.feature

  first_told : (f : ℕ) (ls : List Links) → AllByRecursion IsTold ls → (target_ids m e f ≡ []) ⊎ Has f ls → entries_at f ls ≡ ids_at f
  first_told f [] all (inl none) = sym (ap (map (λ x. Some x)) none)
  first_told f [] all (inr h) = absurd h
  first_told f (l ∷ ls) all h = by_test (nat_eq f l.feature) refl (first_told f ls all.1) h
    where
      by_test : (b : Bool) → nat_eq f l.feature ≡ b → ((target_ids m e f ≡ []) ⊎ Has f ls → entries_at f ls ≡ ids_at f)
          → (target_ids m e f ≡ []) ⊎ ((f ≡ l.feature) ⊎ Has f ls) → cond b l.entries (entries_at f ls) ≡ ids_at f
      by_test true is more h = all.0 ∙ ap ids_at (sym (nat_equality.exact f l.feature is))
      by_test false is more (inl none) = more (inl none)
      by_test false is more (inr (inl same)) = let yes : nat_eq f l.feature ≡ true = subst (λ x. nat_eq f x ≡ true) same (nat_equality.own f) in cc
      by_test false is more (inr (inr h)) = more (inr h)

  set_told : (f : ℕ) (bs : List IdBytes) → target_ids m e f ≡ bs → AllByRecursion IsTold (set_links f bs)
  set_told f [] is = tt
  set_told f (b ∷ bs) is = (ap (map (λ x. Some x)) (sym is), tt)

  kind_told : (f : ℕ) (k : Kind) → AllByRecursion IsTold (kind_links m e f k)
  kind_told f (Attr scalar default) = tt
  kind_told f (AttrMany scalar unique) = tt
  kind_told f (Bounded target opposite) = set_told f (target_ids m e f) refl
  kind_told f (Free target opposite) = set_told f (target_ids m e f) refl
  kind_told f (Contains target opposite) = tt
  kind_told f (Container target opposite) = tt
  kind_told f Skip = tt

  number_told : (n : ℕ) → AllByRecursion IsTold (by_number (λ f. kind_links m e f (kind_of meta f)) n)
  number_told zero = tt
  number_told (suc zero) = tt
  number_told (suc (suc f)) = kind_told f (kind_of meta f)

  keys_told : (keys : List Key) → AllByRecursion IsTold (keys_links meta m e keys)
  keys_told [] = tt
  keys_told (key ∷ keys) = all_append IsTold (key_links meta m e key) (keys_links meta m e keys) (number_told (key_number key)) (keys_told keys)

  set_has : (f : ℕ) (bs : List IdBytes) → target_ids m e f ≡ bs → (target_ids m e f ≡ []) ⊎ Has f (set_links f bs)
  set_has f [] is = inl is
  set_has f (b ∷ bs) is = inr (inl refl)

  kind_has : (f : ℕ) (k : Kind) → is_plain k ≡ true → (target_ids m e f ≡ []) ⊎ Has f (kind_links m e f k)
  kind_has f (Attr scalar default) h = cc
  kind_has f (AttrMany scalar unique) h = cc
  kind_has f (Bounded target opposite) h = set_has f (target_ids m e f) refl
  kind_has f (Free target opposite) h = set_has f (target_ids m e f) refl
  kind_has f (Contains target opposite) h = cc
  kind_has f (Container target opposite) h = cc
  kind_has f Skip h = cc

  key_has : (f : ℕ) → Has f (kind_links m e f (kind_of meta f)) → (keys : List Key) → Stands (Feature f) keys → Has f (keys_links meta m e keys)
  unfolding keys_of Feature
  key_has f h [] s = absurd s
  key_has f h (key ∷ keys) (inl same) = has_first f (key_links meta m e key) (keys_links meta m e keys) (subst (λ k. Has f (key_links meta m e k)) same h)
  key_has f h (key ∷ keys) (inr s) = has_second f (key_links meta m e key) (keys_links meta m e keys) (key_has f h keys s)

  -- the entries of a plain reference of the class are its targets
  pub entries_told : (c f : ℕ) → Stands f (features_of meta c) → is_plain (kind_of meta f) ≡ true
      → entries_at f (keys_links meta m e (keys_of meta c)) ≡ ids_at f
  entries_told c f s plain = first_told f (keys_links meta m e (keys_of meta c)) (keys_told (keys_of meta c)) (by_targets (kind_has f (kind_of meta f) plain))
    where
      by_targets : (target_ids m e f ≡ []) ⊎ Has f (kind_links m e f (kind_of meta f)) → (target_ids m e f ≡ []) ⊎ Has f (keys_links meta m e (keys_of meta c))
      by_targets (inl none) = inl none
      by_targets (inr h) = inr (key_has f h (keys_of meta c) (feature_stands meta c f s))

-- ---- plain references of a class
module _ (meta : Meta) (all : List ℕ) where
  abbrev IsPlainOf : ℕ → Type 0
  IsPlainOf f = (is_plain (kind_of meta f) ≡ true) × Stands f all

  plain_from : (fs : List ℕ) → ((f : ℕ) → Stands f fs → Stands f all) → AllByRecursion IsPlainOf (plain_features meta fs)
  plain_from [] sub = tt
  plain_from (g ∷ fs) sub = by_test (is_plain (kind_of meta g)) refl (plain_from fs (λ f s. sub f (inr s)))
    where
      by_test : (b : Bool) → is_plain (kind_of meta g) ≡ b → AllByRecursion IsPlainOf (plain_features meta fs)
          → AllByRecursion IsPlainOf (cond b (g ∷ plain_features meta fs) (plain_features meta fs))
      by_test true is later = ((is, sub g (inl refl)), later)
      by_test false is later = later

pub plain_all : (meta : Meta) (fs : List ℕ) → AllByRecursion (λ f. (is_plain (kind_of meta f) ≡ true) × Stands f fs) (plain_features meta fs)
plain_all meta fs = plain_from meta fs fs (λ f s. s)

plain_stands : (meta : Meta) (f : ℕ) (fs : List ℕ) → is_plain (kind_of meta f) ≡ true → Stands f fs → Stands f (plain_features meta fs)
plain_stands meta f [] is s = absurd s
plain_stands meta f (g ∷ fs) is (inl e) = now (is_plain (kind_of meta g)) (subst (λ x. is_plain (kind_of meta x) ≡ true) e is)
  where
    now : (b : Bool) → b ≡ true → Stands f (cond b (g ∷ plain_features meta fs) (plain_features meta fs))
    now true h = inl e
    now false h = cc
plain_stands meta f (g ∷ fs) is (inr s) = later (is_plain (kind_of meta g)) (plain_stands meta f fs is s)
  where
    later : (b : Bool) → Stands f (plain_features meta fs) → Stands f (cond b (g ∷ plain_features meta fs) (plain_features meta fs))
    later true more = inr more
    later false more = more

plain_kind : (meta : Meta) (k : Kind) (d : ℕ) → plain_to meta k d ≡ true → is_plain k ≡ true
plain_kind meta (Attr scalar default) d h = cc
plain_kind meta (AttrMany scalar unique) d h = cc
plain_kind meta (Bounded target opposite) d h = refl
plain_kind meta (Free target opposite) d h = refl
plain_kind meta (Contains target opposite) d h = cc
plain_kind meta (Container target opposite) d h = cc
plain_kind meta Skip d h = cc

-- ---- the targets of a good state
-- a link goes from a feature of the source's class to an element of its type
pub record IsLink (meta : Meta) (m : State) (a : IdBytes) (f : ℕ) (b : IdBytes) : Type 0 where
  pub row : is_some (get m.row (a, f, b)) ≡ true
  pub source : get m.kind a ≡ Some (class_at meta m a)
  pub target : get m.kind b ≡ Some (class_at meta m b)
  pub held : Stands f (features_of meta (class_at meta m a))
  pub type : plain_to meta (kind_of meta f) (class_at meta m b) ≡ true
  pub plain : is_plain (kind_of meta f) ≡ true

module _ (meta : Meta) (m : State) (good : Good meta m) where
  link_of : (a : IdBytes) (f : ℕ) (b : IdBytes) (o : Option ℕ) → get m.row (a, f, b) ≡ o → is_some o ≡ true → IsLink meta m a f b
  link_of a f b None is h = cc
  link_of a f b (Some rank) is h =
      by_classes (get m.kind a) (get m.kind b) refl refl (subst (StateRowOk meta (get m.kind a) f (get m.kind b)) is (good.rows.typed a f b))
    where
      by_classes : (c d : Option ℕ) → get m.kind a ≡ c → get m.kind b ≡ d → may_link meta c f d ≡ true → IsLink meta m a f b
      by_classes None d at to may = cc
      by_classes (Some c) None at to may = cc
      by_classes (Some c) (Some d) at to may =
          let source : c ≡ class_at meta m a = sym (ap (λ o. unwrap_or o 0) at) in
          let target : d ≡ class_at meta m b = sym (ap (λ o. unwrap_or o 0) to) in
          let type : plain_to meta (kind_of meta f) d ≡ true = and_second (has_feature meta c f) (plain_to meta (kind_of meta f) d) may in
          record {
            row = ap is_some is;
            source = at ∙ ap (λ x. Some x) source;
            target = to ∙ ap (λ x. Some x) target;
            held = subst (λ x. Stands f (features_of meta x)) source
                (in_class meta c f (and_first (has_feature meta c f) (plain_to meta (kind_of meta f) d) may));
            type = subst (λ x. plain_to meta (kind_of meta f) x ≡ true) target type;
            plain = plain_kind meta (kind_of meta f) d type;
          }

  pub linked : (a : IdBytes) (f : ℕ) (b : IdBytes) → is_some (get m.row (a, f, b)) ≡ true → IsLink meta m a f b
  linked a f b h = link_of a f b (get m.row (a, f, b)) refl h

  entries_linked : (a : IdBytes) (f : ℕ) (xs : List Entry) → AllByRecursion (λ (x : Entry). get m.row (a, f, x.id) ≡ Some x.rank) xs
      → AllByRecursion (IsLink meta m a f) (map (λ (x : Entry). x.id) xs)
  entries_linked a f [] all = tt
  entries_linked a f (x ∷ xs) all = (linked a f x.id (ap is_some all.0), entries_linked a f xs all.1)

  pub targets_linked : (a : IdBytes) (f : ℕ) → AllByRecursion (IsLink meta m a f) (target_ids m a f)
  targets_linked a f = entries_linked a f (targets m.row a f) (targets_held m.row a f)

  -- the targets are none, or the reference is a plain one of the class
  pub targets_held_by : (a : IdBytes) (f : ℕ) → (target_ids m a f ≡ []) ⊎ Stands f (plain_features meta (features_of meta (class_at meta m a)))
  targets_held_by a f = by_targets (target_ids m a f) refl (targets_linked a f)
    where
      by_targets : (bs : List IdBytes) → target_ids m a f ≡ bs → AllByRecursion (IsLink meta m a f) bs
          → (target_ids m a f ≡ []) ⊎ Stands f (plain_features meta (features_of meta (class_at meta m a)))
      by_targets [] is all = inl is
      by_targets (b ∷ bs) is all = inr (plain_stands meta f (features_of meta (class_at meta m a)) all.0.plain all.0.held)

-- ---- lists of references by feature
pub targets_at_map : (ts : ℕ → List ℕ) (f : ℕ) (fs : List ℕ) → (ts f ≡ []) ⊎ Stands f fs
    → targets_at f (map (λ g. record { feature = g; targets = ts g }) fs) ≡ ts f
targets_at_map ts f [] (inl none) = sym none
targets_at_map ts f [] (inr s) = absurd s
targets_at_map ts f (g ∷ fs) h = by_test (nat_eq f g) refl (targets_at_map ts f fs) h
  where
    by_test : (b : Bool) → nat_eq f g ≡ b → ((ts f ≡ []) ⊎ Stands f fs → targets_at f (map (λ g. record { feature = g; targets = ts g }) fs) ≡ ts f)
        → (ts f ≡ []) ⊎ ((f ≡ g) ⊎ Stands f fs)
        → cond b (ts g) (targets_at f (map (λ g. record { feature = g; targets = ts g }) fs)) ≡ ts f
    by_test true is more h = ap ts (sym (nat_equality.exact f g is))
    by_test false is more (inl none) = more (inl none)
    by_test false is more (inr (inl same)) = let yes : nat_eq f g ≡ true = subst (λ x. nat_eq f x ≡ true) same (nat_equality.own f) in cc
    by_test false is more (inr (inr s)) = more (inr s)
