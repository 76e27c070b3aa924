-- The way from a version to its parent, and the path from there.
use Rattle.std.proofs.Common.{◌≡◌, ℕ, List, [], ◌∷◌, ◌++◌, true, Option, Some, is_some, refl, sym, ◌∙◌, ap, append-nil, reverse}
use Rattle.std.proofs.lemmas.List.{append_assoc, reverse-append}
use Rattle.ecore_meta.specs.Meta.{Meta}
use Rattle.ecore_meta.specs.Sound.{Sound}
use Rattle.model_state.specs.Good.{Good}
use Rattle.model_state.specs.State.{State, nothing}
use Rattle.model_state.specs.Packages.{fold_package, steps_all}
use Rattle.model_laws.proofs.Runs.{steps_keep_good}
use Rattle.model_laws.proofs.Start.{starts_good}
use Rattle.history_tree.specs.History.{History, path}
use Rattle.history_tree.specs.States.{operations_to, package_of_version, state_folded, state_of}
use Rattle.version_states.specs.Taking.{LedTo}
use Rattle.version_states.proofs.Caching.{folded_is, leads_before, leads_on}
use Rattle.version_states.proofs.Taking.{one_start}

-- the state of a version is good
pub state_good : (meta : Meta) → Sound meta → (h : History) (v : ℕ) → is_some (state_folded meta h v) ≡ true → Good meta (state_of meta h v)
state_good meta sound h v leads =
    steps_keep_good meta sound nothing (state_of meta h v) (starts_good meta) (steps_all (operations_to h v)) (folded_is meta h v leads)

module _ (meta : Meta) (sound : Sound meta) (h : History) (v parent : ℕ) (split : path h v ≡ path h parent ++ v ∷ [])
    (leads : is_some (state_folded meta h v) ≡ true) where
  pub parent_leads : is_some (state_folded meta h parent) ≡ true
  parent_leads = leads_before meta h parent v (v ∷ []) split leads

  run : fold_package meta (state_of meta h parent) (package_of_version h.versions v) ≡ Some (state_of meta h v)
  run =
      ap (fold_package meta (state_of meta h parent)) (sym (append-nil (package_of_version h.versions v)))
      ∙ sym (leads_on meta h parent v (v ∷ []) (state_of meta h parent) split leads refl)
      ∙ folded_is meta h v leads

  -- the package of the version led to its state
  pub version_led : (m : State) → m ≡ state_of meta h v → LedTo meta (package_of_version h.versions v) m
  version_led m at = record {
    before = state_of meta h parent;
    good = state_good meta sound h parent parent_leads;
    run = run ∙ ap (λ (x : State). Some x) (sym at);
  }

  -- and from the state of its parent alone
  pub version_back : (m n : State) → m ≡ state_of meta h v → Good meta n → fold_package meta n (package_of_version h.versions v) ≡ Some m
      → n ≡ state_of meta h parent
  version_back m n at good back =
      one_start meta sound n (state_of meta h parent) m good (state_good meta sound h parent parent_leads)
      (steps_all (package_of_version h.versions v)) back (run ∙ ap (λ (x : State). Some x) (sym at))

-- one version more that is left for later
pub path_ahead : (h : History) (to ahead parent : ℕ) (rest more : List ℕ) → path h ahead ≡ path h parent ++ ahead ∷ [] → more ≡ rest ++ ahead ∷ []
    → path h to ≡ path h ahead ++ reverse rest → path h to ≡ path h parent ++ reverse more
path_ahead h to ahead parent rest more step pushed split =
    split ∙ ap (λ l. l ++ reverse rest) step ∙ append_assoc (path h parent) (ahead ∷ []) (reverse rest)
    ∙ ap (λ l. path h parent ++ l) (sym (reverse-append rest (ahead ∷ []))) ∙ ap (λ l. path h parent ++ reverse l) (sym pushed)
