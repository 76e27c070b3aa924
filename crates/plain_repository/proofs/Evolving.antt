-- A metamodel that is extended: runs stay runs, and lead where they led.
use Rattle.std.proofs.Common.{◌≡◌, ℕ, List, ◌++◌, Bool, true, false, cond, ◌&&◌, not, refl, sym, ap, subst, ◌∙◌, Option, None, Some}
use Rattle.std.proofs.Common.{Result, Ok, Err, is_none, is_some}
use Rattle.std.specs.Prelude.{IsTrue, unwrap_or}
use Rattle.std.proofs.lemmas.Option.{same_Some}
use Rattle.ecore_meta.specs.Meta.{Meta}
use Rattle.ecore_meta.specs.Names.{Name}
use Rattle.ecore_meta.specs.Promised.{IsMetamodel}
use Rattle.ecore_json.specs.Metamodel.{metamodel_of}
use Rattle.ecore_json.specs.declared.fault.EcoreFault.{EcoreFault}
use Rattle.ecore_json.proofs.ReadHolds.{read_holds}
use Rattle.metamodel_growth.specs.Extension.{missing}
use Rattle.metamodel_growth.specs.Evolved.{evolved}
use Rattle.metamodel_growth.specs.Same.{is_same}
use Rattle.metamodel_growth.proofs.SameLaws.{own}
use Rattle.growth_laws.specs.Growth.{Evolves}
use Rattle.growth_laws.proofs.Runs.{extension_evolves, growth_keeps_good, growth_keeps_runs}
use Rattle.model_state.specs.Good.{Good}
use Rattle.model_state.specs.Packages.{steps_all}
use Rattle.model_state.specs.State as models
use Rattle.model_state.specs.State.{nothing}
use Rattle.model_state.specs.declared.step.Step.{Step}
use Rattle.model_laws.proofs.Start.{starts_good}
use Rattle.model_laws.proofs.Runs.{steps_keep_good}
use Rattle.history_tree.specs.History.{History}
use Rattle.history_tree.specs.States.{state_of}
use Rattle.state_form.specs.Form.{IsStateEncoding}
use Rattle.op_form.specs.declared.event.Event.{Event}
use Rattle.op_form.specs.declared.event.Event.TheVariants.{Init, Checkout, Edit, Begin, End, Undo, Discard, Tidy, Commit, Branch, Tag, Update, Merge}
use Rattle.op_form.specs.declared.event.Event.TheVariants.{Drop, Evolve, Upgrade, Signed}
use Rattle.plain_repository.specs.State.{State, Workspace, folded, model_of, recorded_steps}
use Rattle.plain_repository.specs.Metamodels.{extension_of, can_evolve, grown}
use Rattle.plain_repository.specs.Events.{meta_after}
use Rattle.plain_repository.specs.Orderly.{IsOrderlyWorkspace, IsRun, Orderly, Runs, RunsTo, steps_to}
use Rattle.plain_repository.proofs.Encodings.{and_left, and_right, not_so}
use Rattle.plain_repository.proofs.Places.{all_weaker}
use Rattle.plain_repository.proofs.Runs.{version_model, workspace_folded, workspace_model}

-- ---- the metamodel that a text extends another to
-- what the text reads as: it has all of the old metamodel, and is another
pub record Extension (old : Meta) (text : List ℕ) : Type 0 where
  pub next : Meta
  pub read : metamodel_of text ≡ Ok next
  pub kept : missing old next ≡ None
  pub other : is_same old (evolved old next) ≡ false
  pub is : grown text old ≡ evolved old next

none_of : (m : Option Name) → is_none m ≡ true → m ≡ None
none_of None is = refl
none_of (Some name) is = absurd cc

module _ (old : Meta) (text : List ℕ) where
  abbrev extends : Meta → Bool
  extends next = is_none (missing old next) && not (is_same old (evolved old next))

  tested : (next : Meta) → metamodel_of text ≡ Ok next → (b : Bool) → extends next ≡ b → is_some (cond b (Some (evolved old next)) None) ≡ true
      → Extension old text
  tested next read true is could = record {
    next = next;
    read = read;
    kept = none_of (missing old next) (and_left (is_none (missing old next)) (not (is_same old (evolved old next))) is);
    other = not_so (is_same old (evolved old next)) (and_right (is_none (missing old next)) (not (is_same old (evolved old next))) is);
    is = ap (λ (r : Result Meta EcoreFault). unwrap_or (extension_of old r) old) read ∙ ap (λ b. unwrap_or (cond b (Some (evolved old next)) None) old) is;
  }
  tested next read false is could = absurd cc

  by_read : (read : Result Meta EcoreFault) → metamodel_of text ≡ read → is_some (extension_of old read) ≡ true → Extension old text
  by_read (Err fault) is could = absurd cc
  by_read (Ok next) is could = tested next is (extends next) refl could

  pub extension : IsTrue (can_evolve old text) → Extension old text
  extension could = by_read (metamodel_of text) refl could

-- it grew out of the old one
pub grown_is : (old : Meta) (text : List ℕ) → IsMetamodel old → IsTrue (can_evolve old text) → Evolves old (grown text old)
grown_is old text was could =
    let x = extension old text could in
    let read : IsMetamodel x.next = read_holds text x.next x.read in
    subst (Evolves old) (sym x.is) (extension_evolves old x.next was read x.kept)

-- and is another
pub grown_other : (old : Meta) (text : List ℕ) → IsTrue (can_evolve old text) → grown text old ≡ old → ⊥
grown_other old text could same =
    let x = extension old text could in
    let here : is_same old (evolved old x.next) ≡ true = ap (is_same old) (sym x.is ∙ same) ∙ own old in
    absurd (differ (sym here ∙ x.other))
  where
    differ : true ≡ false → ⊥
    differ e = cc

-- ---- what stays
module _ (old new : Meta) (grew : Evolves old new) where
  -- a run stays one, and leads to the same model
  run_stays : (steps : List Step) → IsRun old steps → IsRun new steps
  run_stays steps r = record { model = r.model; run = (growth_keeps_runs old new grew nothing r.model (starts_good old) steps r.run).0; spelled = r.spelled }

  pub order_stays : (s : State) → Orderly old s → Orderly new (record s { meta = Some new })
  order_stays s orderly = record {
    metamodel = grew.is;
    whole = orderly.whole;
    heads = orderly.heads;
    names = orderly.names;
    versions = λ v within. run_stays (steps_to s.history v) (orderly.versions v within);
    workspaces = all_weaker (IsOrderlyWorkspace old s.history) (IsOrderlyWorkspace new s.history)
        (λ w h. record { stands = h.stands; runs = run_stays (steps_to s.history w.base ++ recorded_steps w) h.runs }) s.workspaces orderly.workspaces;
  }

  pub version_stays : (h : History) (v : ℕ) → RunsTo old h v → state_of new h v ≡ state_of old h v
  unfolding run_stays
  version_stays h v r = version_model new h v (run_stays (steps_to h v) r) ∙ sym (version_model old h v r)

  pub model_stays : (h : History) (w : Workspace) → Runs old h w → model_of new h w ≡ model_of old h w
  unfolding run_stays
  model_stays h w r = workspace_model new h w (run_stays (steps_to h w.base ++ recorded_steps w) r) ∙ sym (workspace_model old h w r)

  -- a model that is kept is the working model still, and good
  pub kept_fits : (h : History) (w : Workspace) → Runs old h w → (m : models.State) → folded old h w ≡ Some m → (folded new h w ≡ Some m) × Good new m
  unfolding run_stays
  kept_fits h w r m is =
      let steps = steps_to h w.base ++ recorded_steps w in
      let same : r.model ≡ m = same_Some r.model m (sym (workspace_folded old h w r) ∙ is) in
      let good : Good old r.model = steps_keep_good old grew.was.sound nothing r.model (starts_good old) steps r.run in
      (workspace_folded new h w (run_stays steps r) ∙ ap Some same, growth_keeps_good old new grew m (subst (Good old) same good))

  -- bytes that stand for a state do so still
  pub form_stays : (m : models.State) (bytes : List ℕ) → IsStateEncoding old m bytes → IsStateEncoding new m bytes
  form_stays m bytes form = record {
    operations = form.operations;
    spelled = form.spelled;
    is = form.is;
    leads = (growth_keeps_runs old new grew nothing m (starts_good old) (steps_all form.operations) form.leads).0;
  }

-- what holds of Evolve and of each event that leaves the metamodel holds of every event
pub by_growth : (meta : Meta) (P : Event → Type 0) → ((text : List ℕ) → P (Evolve text)) → ((e : Event) → meta_after meta e ≡ meta → P e) → (e : Event) → P e
by_growth meta P grows leaves (Init text) = leaves (Init text) refl
by_growth meta P grows leaves (Checkout version branch) = leaves (Checkout version branch) refl
by_growth meta P grows leaves (Edit k operations) = leaves (Edit k operations) refl
by_growth meta P grows leaves (Begin k name) = leaves (Begin k name) refl
by_growth meta P grows leaves (End k) = leaves (End k) refl
by_growth meta P grows leaves (Undo k) = leaves (Undo k) refl
by_growth meta P grows leaves (Discard k) = leaves (Discard k) refl
by_growth meta P grows leaves (Tidy k) = leaves (Tidy k) refl
by_growth meta P grows leaves (Commit k message) = leaves (Commit k message) refl
by_growth meta P grows leaves (Branch k name) = leaves (Branch k name) refl
by_growth meta P grows leaves (Tag name version) = leaves (Tag name version) refl
by_growth meta P grows leaves (Update k letters) = leaves (Update k letters) refl
by_growth meta P grows leaves (Merge k branch letters) = leaves (Merge k branch letters) refl
by_growth meta P grows leaves (Drop k) = leaves (Drop k) refl
by_growth meta P grows leaves (Evolve text) = grows text
by_growth meta P grows leaves Upgrade = leaves Upgrade refl
by_growth meta P grows leaves (Signed k author moment message) = leaves (Signed k author moment message) refl
