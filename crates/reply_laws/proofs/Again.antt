-- What `commit`, `checkout` and `tag` say is what `cat` and `show` find.
use Rattle.std.proofs.Common.{◌≡◌, ℕ, suc, ◌<◌, nat_lt, nat_eq, List, [], ◌∷◌, ◌++◌, length, Bool, true, ◌&&◌, ◌||◌, Option, None, Some, Result, Ok, Err}
use Rattle.std.proofs.Common.{false, refl, sym, ◌∙◌, ap, subst, get_or}
use Rattle.std.specs.Prelude.{IsTrue, slice_get, unwrap_or}
use Rattle.std.specs.Fmt.{decimal}
use Rattle.std.specs.Option.{option_map_or}
use Rattle.std.proofs.lemmas.Bool.{ltb-true}
use Rattle.std.proofs.lemmas.Option.{slice_get-get_or}
use Rattle.ecore_meta.specs.Meta.{Meta}
use Rattle.model_state.specs.State as models
use Rattle.model_texts.specs.Tree.{text}
use Rattle.history_tree.specs.declared.found.Found.{Found}
use Rattle.history_tree.specs.declared.found.FindFault.{FindFault}
use Rattle.history_tree.specs.declared.version.Signature.{Signature}
use Rattle.history_tree.specs.declared.version.Version.{Version}
use Rattle.history_tree.specs.Found.{branch_name, found_by_number, has_tag, on_its_branch}
use Rattle.history_tree.specs.History.{first_version, head}
use Rattle.history_tree.specs.States.{state_of}
use Rattle.op_form.specs.declared.event.Event.{Event}
use Rattle.op_form.specs.declared.event.Event.TheVariants.{Checkout, Tag}
use Rattle.script_lang.specs.declared.command.Command.TheVariants as commands
use Rattle.script_lang.specs.declared.command.Spec.{Spec}
use Rattle.script_lang.specs.declared.command.Spec.TheVariants as specs
use Rattle.script_lang.specs.declared.reply.Last.TheVariants as last
use Rattle.plain_repository.specs.State.{State, Workspace, workspace_of, model_of}
use Rattle.plain_repository.specs.Answers.{Decision, told}
use Rattle.plain_repository.specs.Specs.{found_by_spec}
use Rattle.plain_repository.specs.Checkouts.{checkout_found, checkout_words, decide_checkout}
use Rattle.plain_repository.specs.Commits.{tag_found, decide_tag, version_event, with_commit}
use Rattle.plain_repository.specs.Events.{play, playable}
use Rattle.plain_repository.specs.Orderly.{IsOrderly}
use Rattle.plain_repository.specs.Repository.{decide_command}
use Rattle.plain_repository.specs.Laws.{HasMetamodel, MakesEvent, version_command}
use Rattle.plain_repository.specs.EffectLaws.{CouldBeIn, HasModel}
use Rattle.plain_repository.specs.Standing.{IsCommitted}
use Rattle.plain_repository.specs.Views.{cat_found, decide_cat, show_in, decide_show}
use Rattle.plain_repository.proofs.Answered.{commit_commits, signed_commits, replies_tell_where}
use Rattle.plain_repository.proofs.Asked.{Holds, none, unless, room, events_are_asked}
use Rattle.plain_repository.proofs.Commits.{version_effect}
use Rattle.plain_repository.proofs.Decided.{decided_could_be}
use Rattle.plain_repository.proofs.Effects.{checkouts_show_versions, commits_keep_states, tags_name_versions}
use Rattle.plain_repository.proofs.Encodings.{and_left}
use Rattle.plain_repository.proofs.Naming.{named_there}
use Rattle.plain_repository.proofs.Reached.{kept}
use Rattle.reply_laws.specs.Again.{CommitsAreFound, CheckoutsAreFound, TagsAreFound, lines_of}
use Rattle.reply_laws.proofs.Deciding.{decided, has_meta}

-- ---- what is shown
-- the reply that shows a model
abbrev shows : Meta → models.State → Decision
shows meta m = told (text meta m ∷ []) []

cat_shows : (s : State) (meta : Meta) → s.meta ≡ Some meta → (block : Option (List ℕ)) (spec : Spec) (found : Found) → found_by_spec s.history spec ≡ Ok found
    → decide_command s block (commands.Cat spec) ≡ shows meta (state_of meta s.history found.version)
unfolding decide_cat
cat_shows s meta begun block spec found is = decided s meta begun block (commands.Cat spec) ∙ ap (cat_found meta s.history) is

show_shows : (s : State) (meta : Meta) → s.meta ≡ Some meta → (block : Option (List ℕ)) (ws : ℕ) (w : Workspace) → workspace_of s ws ≡ Some w
    → decide_command s block (commands.Show ws) ≡ shows meta (model_of meta s.history w)
unfolding decide_show
show_shows s meta begun block ws w there = decided s meta begun block (commands.Show ws) ∙ ap (show_in meta s.history) there

-- ---- versions
last_place : {X : Type 0} (xs : List X) (x : X) → slice_get (xs ++ x ∷ []) (length xs) ≡ Some x
last_place [] x = refl
last_place (y ∷ xs) x = last_place xs x

-- the version that was made of a workspace
record Makes (s : State) (event : Event) (ws : ℕ) (signature : Option Signature) (message : List ℕ) : Type 0 where
  before : Workspace
  there : workspace_of s ws ≡ Some before
  is : event ≡ version_event ws signature message
  version : Version
  versions : (play s event).history.versions ≡ s.history.versions ++ version ∷ []
  after : Workspace
  then_there : workspace_of (play s event) ws ≡ Some after
  at : after.base ≡ length s.history.versions

makes_of : (s : State) (event : Event) (ws : ℕ) (signature : Option Signature) (message : List ℕ) (author : Option (List ℕ)) (moment : Option ℕ)
    (before : Workspace) → workspace_of s ws ≡ Some before → event ≡ version_event ws signature message
    → IsCommitted s event ws before author moment message → Makes s event ws signature message
makes_of s event ws signature message author moment before there is c = record {
  before = before;
  there = there;
  is = is;
  version = c.version;
  versions = c.made;
  after = c.leaves.after;
  then_there = c.leaves.there;
  at = c.leaves.such.base;
}

makes : (s : State) → IsOrderly s → (block : Option (List ℕ)) (ws : ℕ) (signature : Option Signature) (message : Option (List ℕ)) (event : Event)
    → MakesEvent s block (version_command ws signature message) event → Makes s event ws signature (unwrap_or message [])
makes s orderly block ws None message event made =
    let c = commit_commits s orderly block ws message event made in
    makes_of s event ws None (unwrap_or message []) None None c.0 c.1 (events_are_asked s block (commands.Commit ws message) event made.makes) c.2
makes s orderly block ws (Some x) message event made =
    let c = signed_commits s orderly block ws x.author x.moment message event made in
    makes_of s event ws (Some x) (unwrap_or message []) (Some x.author) (Some x.moment) c.0 c.1
    (events_are_asked s block (commands.Signed ws x.author x.moment message) event made.makes) c.2

commit_meta : (s : State) (block : Option (List ℕ)) (ws : ℕ) (signature : Option Signature) (message : Option (List ℕ)) (event : Event)
    → (decide_command s block (version_command ws signature message)).event ≡ Some event → (meta : Meta) × (s.meta ≡ Some meta)
commit_meta s block ws None message event made = has_meta s block (commands.Commit ws message) event refl made
commit_meta s block ws (Some x) message event made = has_meta s block (commands.Signed ws x.author x.moment message) event refl made

meta_kept : (s : State) (ws : ℕ) (signature : Option Signature) (message : List ℕ) (w : Workspace) → workspace_of s ws ≡ Some w
    → (play s (version_event ws signature message)).meta ≡ s.meta
unfolding play
meta_kept s ws signature message w there =
    ap (λ (t : State). t.meta) (version_effect s ws signature message ∙ ap (λ (o : Option Workspace). with_commit ws signature message o s) there)

pub commits_are_found : CommitsAreFound
commits_are_found s orderly block ws signature message event made =
    let n = length s.history.versions in
    let command = version_command ws signature message in
    let text = unwrap_or message [] in
    let e = version_event ws signature text in
    let t = play s event in
    let b = commit_meta s block ws signature message event made.makes in
    let meta = b.0 in
    let m = makes s orderly block ws signature message event made in
    let could : IsTrue (playable s e) = subst (λ (x : Event). IsTrue (playable s x)) m.is (decided_could_be s orderly block command event made) in
    let c : CouldBeIn s meta ws m.before e =
    record { in_state = record { orderly = orderly; begun = b.1 }; there = m.there; could = could } in
    let t_meta : t.meta ≡ Some meta =
    ap (λ (x : Event). (play s x).meta) m.is ∙ meta_kept s ws signature text m.before m.there ∙ b.1 in
    let at : slice_get t.history.versions n ≡ Some m.version =
    ap (λ (vs : List Version). slice_get vs n) m.versions ∙ last_place s.history.versions m.version in
    let found : Found = record { version = n; branch = m.version.branch } in
    let is : found_by_spec t.history (specs.Number n) ≡ Ok found = ap (on_its_branch n) at in
    let state : state_of meta t.history n ≡ model_of meta s.history m.before =
    ap (λ (x : Event). state_of meta (play s x).history n) m.is ∙ commits_keep_states s meta ws signature text m.before c in (
      n,
      (replies_tell_where s orderly block).commit ws signature message event m.after made m.then_there ∙ ap (λ (k : ℕ). last.Ok (decimal k)) m.at,
      λ more other. cat_shows t meta t_meta more (specs.Number n) found is ∙ ap (shows meta) state ∙ sym (show_shows s meta b.1 other ws m.before m.there),
    )

-- ---- workspaces
-- a checkout that makes an event, what its SPEC names, and what it prints
record Opens (s : State) (meta : Meta) (spec : Spec) (event : Event) (lines : List (List ℕ)) : Type 0 where
  found : Found
  named : found_by_spec s.history spec ≡ Ok found
  is : event ≡ Checkout found.version found.branch
  lines_are : lines ≡ text meta (state_of meta s.history found.version) ∷ []

checkout_opens : (s : State) (meta : Meta) (spec : Spec) (r : Result Found FindFault) → found_by_spec s.history spec ≡ r
    → Holds (λ event reply. Opens s meta spec event reply.lines) (checkout_found s meta r)
checkout_opens s meta spec (Err fault) is = none refl
checkout_opens s meta spec (Ok found) is =
    room s _ (checkout_words s found) (Checkout found.version found.branch) (record { found = found; named = is; is = refl; lines_are = refl })

checkout_meta : (s : State) (version branch : ℕ) → (play s (Checkout version branch)).meta ≡ s.meta
unfolding play
checkout_meta s version branch = refl

opened : (s : State) (meta : Meta) (block : Option (List ℕ)) (spec : Spec) (event : Event) → s.meta ≡ Some meta
    → (decide_command s block (commands.Checkout spec)).event ≡ Some event → Opens s meta spec event (lines_of s block (commands.Checkout spec))
unfolding decide_checkout
opened s meta block spec event begun made =
    let d = decided s meta begun block (commands.Checkout spec) in
    let o = (checkout_opens s meta spec (found_by_spec s.history spec) refl).holds event (ap (λ (x : Decision). x.event) (sym d) ∙ made) in
    record { found = o.found; named = o.named; is = o.is; lines_are = ap (λ (x : Decision). x.reply.lines) d ∙ o.lines_are }

pub checkouts_are_found : CheckoutsAreFound
checkouts_are_found s orderly block spec event made =
    let b = has_meta s block (commands.Checkout spec) event refl made.makes in
    let meta = b.0 in
    let o = opened s meta block spec event b.1 made.makes in
    let could = subst (λ (x : Event). IsTrue (playable s x)) o.is (decided_could_be s orderly block (commands.Checkout spec) event made) in
    let r = (replies_tell_where s orderly block).checkout spec event made in
    let shown : HasModel (play s event) meta (suc (length s.workspaces)) (state_of meta s.history o.found.version) =
    subst (λ (x : Event). HasModel (play s x) meta (suc (length s.workspaces)) (state_of meta s.history o.found.version)) (sym o.is)
    (checkouts_show_versions s meta (record { orderly = orderly; begun = b.1 }) o.found.version o.found.branch could) in
    let t_meta : (play s event).meta ≡ Some meta =
    ap (λ (x : Event). (play s x).meta) o.is ∙ checkout_meta s o.found.version o.found.branch ∙ b.1 in
    record {
      ws = r.0;
      version = r.1.base;
      name = branch_name s.history r.1.branch;
      says = r.4;
      shown = λ more other.
          ap (λ (k : ℕ). decide_command (play s event) more (commands.Show k)) r.2
          ∙ show_shows (play s event) meta t_meta more (suc (length s.workspaces)) shown.workspace shown.there
          ∙ ap (shows meta) shown.model_is
          ∙ sym (cat_shows s meta b.1 other spec o.found o.named);
      printed = λ other. o.lines_are ∙ ap (λ (x : Decision). x.reply.lines) (sym (cat_shows s meta b.1 other spec o.found o.named));
    }

-- ---- tags
record Tags (s : State) (name : List ℕ) (spec : Spec) (event : Event) : Type 0 where
  found : Found
  named : found_by_spec s.history spec ≡ Ok found
  is : event ≡ Tag name found.version

tag_tags : (s : State) (name : List ℕ) (spec : Spec) (r : Result Found FindFault) → found_by_spec s.history spec ≡ r
    → Holds (λ event reply. Tags s name spec event) (tag_found s name r)
tag_tags s name spec (Err fault) is = none refl
tag_tags s name spec (Ok found) is = room s [] [] (Tag name found.version) (record { found = found; named = is; is = refl })

tagged : (s : State) (meta : Meta) (block : Option (List ℕ)) (name : List ℕ) (spec : Spec) (event : Event) → s.meta ≡ Some meta
    → (decide_command s block (commands.Tag name spec)).event ≡ Some event → Tags s name spec event
unfolding decide_tag
tagged s meta block name spec event begun made =
    let told_so : Holds (λ event reply. Tags s name spec event) (decide_tag s name spec) =
    unless (has_tag s.history name) (none refl) (tag_tags s name spec (found_by_spec s.history spec) refl) in
    told_so.holds event (ap (λ (x : Decision). x.event) (sym (decided s meta begun block (commands.Tag name spec))) ∙ made)

-- a tag leaves the metamodel and the states of versions
tag_meta : (s : State) (name : List ℕ) (version : ℕ) → (play s (Tag name version)).meta ≡ s.meta
unfolding play
tag_meta s name version = refl

tag_states : (s : State) (name : List ℕ) (version : ℕ) (meta : Meta) (v : ℕ)
    → state_of meta (play s (Tag name version)).history v ≡ state_of meta s.history v
unfolding play
tag_states s name version meta v = refl

within_left : (a b c : Bool) → (a && b && c) ≡ true → a ≡ true
within_left a b c all = and_left a b (and_left (a && b) c all)

-- what names a version is found by its number, too
number_too : (s : State) (meta : Meta) → HasMetamodel s meta → (spec : Spec) (found : Found) → found_by_spec s.history spec ≡ Ok found
    → (other : Found) × (found_by_number s.history found.version ≡ Ok other) × (other.version ≡ found.version)
number_too s meta has spec found is =
    let h = s.history in
    let v = found.version in
    let low : v < length h.versions = ltb-true v (length h.versions) (within_left (nat_lt v (length h.versions)) (nat_lt found.branch (length h.branches))
    (option_map_or (λ x. nat_eq x.branch found.branch) (slice_get h.versions v) false || nat_eq (head h found.branch) v)
    (named_there h (kept s meta has).whole spec found is)) in
    let it = get_or h.versions v first_version in
    (record { version = v; branch = it.branch }, ap (on_its_branch v) (slice_get-get_or h.versions v first_version low), refl)

pub tags_are_found : TagsAreFound
tags_are_found s orderly block name spec event made more other =
    let b = has_meta s block (commands.Tag name spec) event refl made.makes in
    let meta = b.0 in
    let has : HasMetamodel s meta = record { orderly = orderly; begun = b.1 } in
    let g = tagged s meta block name spec event b.1 made.makes in
    let could = subst (λ (x : Event). IsTrue (playable s x)) g.is (decided_could_be s orderly block (commands.Tag name spec) event made) in
    let v = g.found.version in
    let t = play s (Tag name v) in
    let too = number_too s meta has spec g.found g.named in
    let named : found_by_spec t.history (specs.Tag name) ≡ Ok too.0 = tags_name_versions s meta has name v could ∙ too.1 in
    ap (λ (x : Event). decide_command (play s x) more (commands.Cat (specs.Tag name))) g.is
    ∙ cat_shows t meta (tag_meta s name v ∙ b.1) more (specs.Tag name) too.0 named
    ∙ ap (λ (k : ℕ). shows meta (state_of meta t.history k)) too.2
    ∙ ap (shows meta) (tag_states s name v meta v)
    ∙ sym (cat_shows s meta b.1 other spec g.found g.named)
