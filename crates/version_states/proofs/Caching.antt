-- What calls leave of a pool and of a cache of states.
use Rattle.std.proofs.Common.{◌≡◌, ◌≢◌, ℕ, ◌<◌, Bool, true, false, List, [], ◌∷◌, ◌++◌, length, reverse, Option, Some, None, is_some, Result, Ok, Err}
use Rattle.std.proofs.Common.{refl, sym, ◌∙◌, ap, subst, arith}
use Rattle.std.specs.Prelude.{All, nat_eq, unwrap_or}
use Rattle.std.specs.Map.{lookup}
use Rattle.std.specs.Option.{option_map}
use Rattle.std.proofs.lemmas.Grind.{reverse_onto}
use Rattle.std.proofs.lemmas.List.Elements.{All-append, All-cons, All-from_recursion, All-head, All-nil, All-tail, recursion_from_All}
use Rattle.lru.specs.LruCache.{promoted}
use Rattle.page_pool.specs.Frames.{Frames, SameFrames}
use Rattle.page_pool.specs.Paged.{IsAmong, PagedState, content}
use Rattle.state_cache.specs.Entries.{Entries, IsCached, IsStored, held, stands}
use Rattle.state_cache.proofs.Listed.{lookup_stands, promoted_none, promoted_within}
use Rattle.state_cache.proofs.Standing.{all_stored, stands_alike}
use Rattle.std.specs.Bool.{OnTrue, OnFalse}
use Rattle.ecore_meta.specs.Meta.{Meta}
use Rattle.model_state.specs.State as models
use Rattle.model_state.specs.State.{nothing}
use Rattle.model_state.specs.Steps.{fold}
use Rattle.model_state.specs.Packages.{fold_package, steps_all}
use Rattle.model_state.specs.declared.operation.Operation.{Operation}
use Rattle.model_laws.proofs.Runs.{fold_append}
use Rattle.history_tree.specs.History.{History, path}
use Rattle.history_tree.specs.States.{operations_of, operations_to, state_folded, state_of}
use Rattle.history_tree.proofs.Steady.{operations_append, path_there}
use Rattle.std.specs.List.{AllByRecursion}
use Rattle.state_form.specs.Form.{IsStateEncoding}
use Rattle.op_reading.specs.declared.fault.FormFault.{FormFault}
use Rattle.op_reading.proofs.Codes.{whole_again}
use Rattle.op_reading.proofs.PackageCodes.{package_codes}
use Rattle.op_reading.specs.Events.{whole_of}
use Rattle.op_reading.specs.Laws.{PackagesAreReadAgain}
use Rattle.op_reading.specs.Packages.{package_at}
use Rattle.model_laws.proofs.Packages.{steps_append}
use Rattle.version_states.specs.Cached.{AreEncodings, IsVersionEncoding, MayUse, Uses}
use Rattle.version_states.proofs.Folding.{fold_append_none}

-- ---- frames
-- a call that leaves all as it is
pub uses_none : (pool : Frames) (cache : Entries) → MayUse pool cache → Uses pool pool cache cache
uses_none pool cache may = record { out = may.out; apart = λ k bytes not is. (not, is); count = refl }

-- one call after another
pub uses_on : (p q r : Frames) (a b c : Entries) → Uses p q a b → Uses q r b c → Uses p r a c
uses_on p q r a b c first second = record {
  out = second.out;
  apart = λ k bytes not is. let there = first.apart k bytes not is in second.apart k bytes there.0 there.1;
  count = omega (arith, first.count, second.count);
}

-- an entry that was found goes first
pub uses_found : (pool : Frames) (v : ℕ) (old new : Entries) → new ≡ promoted (nat_eq v) old → IsCached pool old → IsCached pool new
    → length (held new) ≡ length (held old) → Uses pool pool old new
uses_found pool v old new is cached out same = record {
  out = out;
  apart = λ k bytes not at. (
    λ among. not (promoted_within (nat_eq v) pool old (lookup (nat_eq v) old) refl cached k
        (subst (λ (es : Entries). IsAmong k (held es)) is among)),
    at,
  );
  count = omega (arith, same);
}

-- where nothing is found all entries stay as they are
pub absent_same : (pool : Frames) (v : ℕ) (old new : Entries) → lookup (nat_eq v) (stands pool old) ≡ None → new ≡ promoted (nat_eq v) old → new ≡ old
absent_same pool v old new none is = is ∙ promoted_none (nat_eq v) old (by (lookup (nat_eq v) old) (sym (lookup_stands (nat_eq v) pool old) ∙ none))
  where
    by : (o : Option PagedState) → option_map (λ p. content pool p) o ≡ None → o ≡ None
    by None is = refl
    by (Some p) is = absurd cc

-- ---- lists
pub all_reversed : (P : ℕ → Type 0) (xs : List ℕ) → All P xs → All P (reverse xs)
all_reversed P [] all = all
all_reversed P (x ∷ xs) all =
    subst (All P) (sym (reverse_onto xs x []))
    (All-append P (reverse xs) (x ∷ []) (all_reversed P xs (All-tail P x xs all)) (All-cons P x [] (All-head P x xs all) (All-nil P)))

-- ---- what entries are
again : PackagesAreReadAgain
again = whole_again package_codes

-- a package that is read from an entry's bytes is the entry's
pub entry_read : (meta : Meta) (m : models.State) (bytes : List ℕ) (read : List Operation) → IsStateEncoding meta m bytes
    → whole_of package_at bytes ≡ Ok read → fold_package meta nothing read ≡ Some m
entry_read meta m bytes read form is =
    let same : read ≡ form.operations =
    same_ok read form.operations (sym is ∙ ap (λ (l : List ℕ). whole_of package_at l) form.is ∙ again form.operations form.spelled) in
    subst (λ (l : List Operation). fold_package meta nothing l ≡ Some m) (sym same) form.leads
  where
    same_ok : (x y : List Operation) → ◌≡◌ {A = Result (List Operation) FormFault} (Ok x) (Ok y) → x ≡ y
    same_ok x y is = cc

-- bytes that are an entry's can be read
pub entry_reads : (meta : Meta) (m : models.State) (bytes : List ℕ) (e : FormFault) → IsStateEncoding meta m bytes → whole_of package_at bytes ≢ Err e
entry_reads meta m bytes e form is =
    let same : ◌≡◌ {A = Result (List Operation) FormFault} (Ok form.operations) (Err e) =
    sym (again form.operations form.spelled) ∙ ap (λ (l : List ℕ). whole_of package_at l) (sym form.is) ∙ is in
    absurd cc

-- ---- paths
-- the state of a version on the way is defined where that of the last is
pub leads_before : (meta : Meta) (h : History) (u v : ℕ) (rest : List ℕ) → path h v ≡ path h u ++ rest → is_some (state_folded meta h v) ≡ true
    → is_some (state_folded meta h u) ≡ true
leads_before meta h u v rest is leads = by (state_folded meta h u) refl
  where
    split : state_folded meta h v ≡ fold meta nothing (steps_all (operations_to h u) ++ steps_all (operations_of h.versions rest))
    split = ap (λ (l : List ℕ). fold_package meta nothing (operations_of h.versions l)) is
        ∙ ap (fold_package meta nothing) (operations_append h.versions (path h u) rest)
        ∙ ap (fold meta nothing) (steps_append (operations_to h u) (operations_of h.versions rest))

    none_some : (o : Option models.State) → o ≡ None → is_some o ≡ true → ⊥
    none_some (Some m) none some = cc
    none_some None none some = cc

    by : (o : Option models.State) → state_folded meta h u ≡ o → is_some o ≡ true
    by (Some m) at = refl
    by None at = absurd (none_some (state_folded meta h v)
        (split ∙ fold_append_none meta nothing (steps_all (operations_to h u)) (steps_all (operations_of h.versions rest)) at) leads)

-- where it is defined, the state is what the operations lead to
pub folded_is : (meta : Meta) (h : History) (v : ℕ) → is_some (state_folded meta h v) ≡ true → state_folded meta h v ≡ Some (state_of meta h v)
folded_is meta h v leads = by (state_folded meta h v) leads
  where
    by : (o : Option models.State) → is_some o ≡ true → o ≡ Some (unwrap_or o nothing)
    by (Some m) is = refl
    by None is = absurd cc

-- the versions at the end of a path are there
pub rest_there : (h : History) (v : ℕ) (before rest : List ℕ) → path h v ≡ before ++ rest → All (λ w. w < length h.versions) rest
rest_there h v before rest is =
    All-from_recursion (λ w. w < length h.versions) rest
    (by before (recursion_from_All (λ w. w < length h.versions) (before ++ rest) (subst (All (λ w. w < length h.versions)) is (path_there h v))))
  where
    by : (xs : List ℕ) → AllByRecursion (λ w. w < length h.versions) (xs ++ rest) → AllByRecursion (λ w. w < length h.versions) rest
    by [] all = all
    by (x ∷ xs) all = by xs all.1

-- what the whole path leads to is what the rest of it leads to from a version's state
pub leads_on : (meta : Meta) (h : History) (u v : ℕ) (rest : List ℕ) (m : models.State) → path h v ≡ path h u ++ rest
    → is_some (state_folded meta h v) ≡ true → m ≡ state_of meta h u
    → state_folded meta h v ≡ fold_package meta m (operations_of h.versions rest)
leads_on meta h u v rest m is leads m_is =
    ap (λ (l : List ℕ). fold_package meta nothing (operations_of h.versions l)) is
    ∙ ap (fold_package meta nothing) (operations_append h.versions (path h u) rest)
    ∙ ap (fold meta nothing) (steps_append (operations_to h u) (operations_of h.versions rest))
    ∙ fold_append meta nothing m (steps_all (operations_to h u)) (steps_all (operations_of h.versions rest))
    (folded_is meta h u (leads_before meta h u v rest is leads) ∙ ap (λ (x : models.State). Some x) (sym m_is))

-- ---- what a cache has after a store
-- the bytes were too many, or there was no memory
pub forms_unstored : (m : Option Meta) (h : History) (p q : Frames) (old new : Entries) → new ≡ old → SameFrames p q → AreEncodings m h (stands p old)
    → AreEncodings m h (stands q new)
forms_unstored m h p q old new is same forms =
    subst (λ (l : List (ℕ × List ℕ)). AreEncodings m h l) (sym (ap (λ (es : Entries). stands q es) is ∙ stands_alike p q old same)) forms

-- the entry is of a version, and has its state
pub forms_stored : (meta : Meta) (h : History) (p q : Frames) (v : ℕ) (bytes : List ℕ) (old new : Entries) (stored : Bool)
    → OnTrue stored (IsStored p q v bytes old new) → OnFalse stored ((new ≡ old) × (q ≡ p)) → IsVersionEncoding meta h (v, bytes)
    → AreEncodings (Some meta) h (stands p old) → AreEncodings (Some meta) h (stands q new)
forms_stored meta h p q v bytes old new true is none form forms = all_stored (IsVersionEncoding meta h) p q v bytes old new is form forms
forms_stored meta h p q v bytes old new false is none form forms =
    subst (λ (l : List (ℕ × List ℕ)). AreEncodings (Some meta) h l)
    (sym (ap (λ (es : Entries). stands q es) none.0 ∙ ap (λ (f : Frames). stands f old) none.1)) forms
