-- The commands that make versions and workspaces, and what their replies say.
use Rattle.std.proofs.Common.{◌≡◌, ℕ, suc, ◌+◌, arith, List, [], ◌∷◌, ◌++◌, length, true, Option, None, Some, Result, Ok, Err, refl}
use Rattle.std.proofs.Common.{sym, ◌∙◌, ap, subst}
use Rattle.std.specs.Prelude.{IsTrue, unwrap_or}
use Rattle.std.specs.Fmt.{decimal}
use Rattle.std.specs.List.{join_with_byte}
use Rattle.std.proofs.lemmas.Option.{none-some, same_Some}
use Rattle.ecore_meta.specs.Meta.{Meta}
use Rattle.history_tree.specs.declared.found.Found.{Found}
use Rattle.history_tree.specs.declared.found.FindFault.{FindFault}
use Rattle.history_tree.specs.declared.version.Signature.{Signature}
use Rattle.history_tree.specs.Found.{branch_name}
use Rattle.history_tree.specs.History.{History, head}
use Rattle.op_form.specs.declared.event.Event.{Event}
use Rattle.op_form.specs.declared.event.Event.TheVariants.{Checkout, Commit, Update, Merge, Signed}
use Rattle.script_lang.specs.declared.command.Command.{Command}
use Rattle.script_lang.specs.declared.command.Command.TheVariants as commands
use Rattle.script_lang.specs.declared.command.Spec.{Spec}
use Rattle.script_lang.specs.declared.reply.Last.TheVariants as last
use Rattle.script_lang.specs.declared.reply.Reply.{Reply}
use Rattle.plain_repository.specs.State.{State, Workspace, workspace_of}
use Rattle.plain_repository.specs.Specs.{found_by_spec}
use Rattle.plain_repository.specs.Checkouts.{checkout_found, checkout_words, decide_checkout}
use Rattle.plain_repository.specs.Commits.{version_event, can_commit, decide_commit, decide_signed}
use Rattle.plain_repository.specs.Merging.{can_merge, decide_update, decide_merge}
use Rattle.plain_repository.specs.Events.{playable}
use Rattle.plain_repository.specs.Orderly.{IsOrderly}
use Rattle.plain_repository.specs.Repository.{decide_begun, decide_with, decide_command}
use Rattle.plain_repository.specs.Laws.{HasMetamodel, MakesEvent, version_command}
use Rattle.plain_repository.specs.EffectLaws.{CouldBeIn}
use Rattle.plain_repository.specs.Standing.{ChecksOut, IsCommitted, Leaves}
use Rattle.plain_repository.specs.Asked.{Names, CommitCommits, SignedCommits, CheckoutChecksOut, Says, Then, RepliesTellWhere}
use Rattle.plain_repository.proofs.Apart.{asked}
use Rattle.plain_repository.proofs.Asked.{Holds, none, room, names, commit_asked, signed_asked, update_asked, merge_asked}
use Rattle.plain_repository.proofs.Commits.{version_asked}
use Rattle.plain_repository.proofs.Decided.{decided_could_be}
use Rattle.plain_repository.proofs.Standing.{committed_is, commits_stand, signed_stand, checkouts_stand, updates_stand, merges_stand}

-- ---- where a command that makes an event is decided
-- there is a metamodel
begun : (s : State) (block : Option (List ℕ)) (command : Command) (event : Event) → (decide_with s None block command).event ≡ None
    → (decide_command s block command).event ≡ Some event
    → (meta : Meta) × (s.meta ≡ Some meta) × ((decide_begun s meta block command).event ≡ Some event)
    × ((decide_command s block command).reply ≡ (decide_begun s meta block command).reply)
unfolding decide_command
begun s block command event none made = by s.meta refl made
  where
    by : (m : Option Meta) → s.meta ≡ m → (decide_with s m block command).event ≡ Some event
        → (meta : Meta) × (s.meta ≡ Some meta) × ((decide_begun s meta block command).event ≡ Some event)
        × ((decide_with s s.meta block command).reply ≡ (decide_begun s meta block command).reply)
    by None is made = absurd (none-some event (sym none ∙ made))
    by (Some meta) is made = (meta, is, made, ap (λ (m : Option Meta). (decide_with s m block command).reply) is)

-- the workspace that makes a version is there
can_there : (h : History) (o : Option Workspace) → can_commit h o ≡ true → (w : Workspace) × (o ≡ Some w)
can_there h None can = absurd cc
can_there h (Some w) can = (w, refl)

-- ---- versions
-- a command that makes a version, its event and its reply
record Makes (s : State) (block : Option (List ℕ)) (ws : ℕ) (signature : Option Signature) (message : List ℕ) (command : Command) (event : Event) : Type 0 where
  meta : Meta
  has : HasMetamodel s meta
  is : event ≡ version_event ws signature message
  says : Says s block command (decimal (length s.history.versions))
  before : Workspace
  could : CouldBeIn s meta ws before (version_event ws signature message)

version_made : (s : State) → IsOrderly s → (block : Option (List ℕ)) (ws : ℕ) (signature : Option Signature) (message : Option (List ℕ)) (event : Event)
    → MakesEvent s block (version_command ws signature message) event
    → Makes s block ws signature (unwrap_or message []) (version_command ws signature message) event
unfolding decide_commit decide_signed
version_made s orderly block ws None message event made =
    let b = begun s block (commands.Commit ws message) event refl made.makes in
    let with_words = (commit_asked s b.0 b.1 ws (unwrap_or message []) (workspace_of s ws)).holds event b.2 in
    let can = subst (λ (e : Event). IsTrue (playable s e)) with_words.0 (decided_could_be s orderly block (commands.Commit ws message) event made) in
    let has : HasMetamodel s b.0 = record { orderly = orderly; begun = b.1 } in
    let there = can_there s.history (workspace_of s ws)
    (version_asked s b.0 ws None (unwrap_or message []) (asked s b.0 (Commit ws (unwrap_or message [])) b.1 can)) in
    record {
      meta = b.0;
      has = has;
      is = with_words.0;
      says = ap (λ (r : Reply). r.last) b.3 ∙ with_words.1;
      before = there.0;
      could = record { in_state = has; there = there.1; could = can };
    }
version_made s orderly block ws (Some x) message event made =
    let b = begun s block (commands.Signed ws x.author x.moment message) event refl made.makes in
    let with_words = (signed_asked s b.0 b.1 ws x.author x.moment (unwrap_or message []) (workspace_of s ws)).holds event b.2 in
    let can = subst (λ (e : Event). IsTrue (playable s e)) with_words.0
    (decided_could_be s orderly block (commands.Signed ws x.author x.moment message) event made) in
    let has : HasMetamodel s b.0 = record { orderly = orderly; begun = b.1 } in
    let there = can_there s.history (workspace_of s ws)
    (version_asked s b.0 ws (Some x) (unwrap_or message []) (asked s b.0 (Signed ws x.author x.moment (unwrap_or message [])) b.1 can)) in
    record {
      meta = b.0;
      has = has;
      is = with_words.0;
      says = ap (λ (r : Reply). r.last) b.3 ∙ with_words.1;
      before = there.0;
      could = record { in_state = has; there = there.1; could = can };
    }

pub commit_commits : CommitCommits
commit_commits s orderly block ws message event made =
    let m = version_made s orderly block ws None message event made in
    let text = unwrap_or message [] in (
      m.before,
      m.could.there,
      subst (λ (e : Event). IsCommitted s e ws m.before None None text) (sym m.is) (commits_stand s m.meta ws text m.before m.could),
    )

pub signed_commits : SignedCommits
signed_commits s orderly block ws author moment message event made =
    let m = version_made s orderly block ws (Some (record { author = author; moment = moment })) message event made in
    let text = unwrap_or message [] in (
      m.before,
      m.could.there,
      subst (λ (e : Event). IsCommitted s e ws m.before (Some author) (Some moment) text) (sym m.is)
          (signed_stand s m.meta ws author moment text m.before m.could),
    )

-- ---- checkouts
-- a checkout that makes an event: what its SPEC names, and the words of its reply
checkout_told : (s : State) (meta : Meta) (spec : Spec) (found : Result Found FindFault) → found_by_spec s.history spec ≡ found
    → Holds (λ event reply. (version branch : ℕ) × Names s.history spec version branch × (event ≡ Checkout version branch)
    × (reply.last ≡ last.Ok (checkout_words s (record { version = version; branch = branch })))) (checkout_found s meta found)
checkout_told s meta spec (Err fault) is = none refl
checkout_told s meta spec (Ok found) is =
    room s _ (checkout_words s found) (Checkout found.version found.branch) (found.version, found.branch, names s.history spec found is, refl, refl)

record MakesCheckout (s : State) (block : Option (List ℕ)) (spec : Spec) (event : Event) : Type 0 where
  version : ℕ
  branch : ℕ
  named : Names s.history spec version branch
  checks_out : ChecksOut s event version branch
  says : Says s block (commands.Checkout spec) (checkout_words s (record { version = version; branch = branch }))

checkout_made : (s : State) → IsOrderly s → (block : Option (List ℕ)) (spec : Spec) (event : Event) → MakesEvent s block (commands.Checkout spec) event
    → MakesCheckout s block spec event
unfolding decide_checkout
checkout_made s orderly block spec event made =
    let b = begun s block (commands.Checkout spec) event refl made.makes in
    let t = (checkout_told s b.0 spec (found_by_spec s.history spec) refl).holds event b.2 in
    let can = subst (λ (e : Event). IsTrue (playable s e)) t.3 (decided_could_be s orderly block (commands.Checkout spec) event made) in
    record {
      version = t.0;
      branch = t.1;
      named = t.2;
      checks_out = subst (λ (e : Event). ChecksOut s e t.0 t.1) (sym t.3)
          (checkouts_stand s b.0 (record { orderly = orderly; begun = b.1 }) t.0 t.1 can);
      says = ap (λ (r : Reply). r.last) b.3 ∙ t.4;
    }

pub checkout_checks_out : CheckoutChecksOut
checkout_checks_out s orderly block spec event made =
    let m = checkout_made s orderly block spec event made in (m.version, m.branch, m.named, m.checks_out)

-- ---- replies
-- what an event leaves is what stands at the number then
after_is : {Such : Workspace → Type 0} (s : State) (e : Event) (ws : ℕ) (after : Workspace) → Leaves s e ws Such → Then s e ws after → Such after
after_is {Such} s e ws after leaves then_there = subst Such (same_Some leaves.after after (sym leaves.there ∙ then_there)) leaves.such

there_of_update : (s : State) (meta : Meta) (ws : ℕ) (w : Workspace) (e : Event) → HasMetamodel s meta → workspace_of s ws ≡ Some w → IsTrue (playable s e)
    → CouldBeIn s meta ws w e
there_of_update s meta ws w e has there could = record { in_state = has; there = there; could = could }

merger_there : (s : State) (meta : Meta) (branch : ℕ) (letters : List ℕ) (o : Option Workspace) → can_merge meta s.history branch letters o ≡ true
    → (w : Workspace) × (o ≡ Some w)
merger_there s meta branch letters None can = absurd cc
merger_there s meta branch letters (Some w) can = (w, refl)

words_are : (s : State) (version branch : ℕ) (w : Workspace) → w.base ≡ version → w.branch ≡ branch
    → last.Ok (checkout_words s (record { version = version; branch = branch }))
    ≡ last.Ok (join_with_byte 32 (decimal (suc (length s.workspaces)) ∷ decimal w.base ∷ branch_name s.history w.branch ∷ []))
words_are s version branch w base_is branch_is =
    let next : length s.workspaces + 1 ≡ suc (length s.workspaces) = omega arith in
    λ i. last.Ok (join_with_byte 32 (decimal (next i) ∷ decimal (sym base_is i) ∷ branch_name s.history (sym branch_is i) ∷ []))

module _ (s : State) (orderly : IsOrderly s) (block : Option (List ℕ)) where
  commit_tells : (ws : ℕ) (signature : Option Signature) (message : Option (List ℕ)) (event : Event) (after : Workspace)
      → MakesEvent s block (version_command ws signature message) event → Then s event ws after
      → Says s block (version_command ws signature message) (decimal after.base)
  commit_tells ws signature message event after made then_there =
      let m = version_made s orderly block ws signature message event made in
      let is = committed_is s m.meta ws signature (unwrap_or message []) m.before m.could in
      let e = version_event ws signature (unwrap_or message []) in
      let at = after_is s e ws after is.leaves (subst (λ (e : Event). Then s e ws after) m.is then_there) in
      m.says ∙ ap (λ (n : ℕ). last.Ok (decimal n)) (sym at.base)

  update_tells : (ws : ℕ) (letters : Option (List ℕ)) (event : Event) (after : Workspace) → MakesEvent s block (commands.Update ws letters) event
      → Then s event ws after
      → Says s block (commands.Update ws letters) (decimal after.base)
  unfolding decide_update
  update_tells ws letters event after made then_there =
      let b = begun s block (commands.Update ws letters) event refl made.makes in
      let t = (update_asked s b.0 b.1 ws letters (workspace_of s ws) refl).holds event b.2 in
      let text = unwrap_or letters [] in
      let e = Update ws text in
      let can = subst (λ (e : Event). IsTrue (playable s e)) t.2.0 (decided_could_be s orderly block (commands.Update ws letters) event made) in
      let has : HasMetamodel s b.0 = record { orderly = orderly; begun = b.1 } in
      let at = after_is s e ws after (updates_stand text s b.0 ws t.0 (there_of_update s b.0 ws t.0 e has t.1 can))
      (subst (λ (e : Event). Then s e ws after) t.2.0 then_there) in
      ap (λ (r : Reply). r.last) b.3 ∙ t.2.1 ∙ ap (λ (n : ℕ). last.Ok (decimal n)) (sym at.base)

  merge_tells : (ws : ℕ) (name : List ℕ) (letters : Option (List ℕ)) (event : Event) (after : Workspace)
      → MakesEvent s block (commands.Merge ws name letters) event → Then s event ws after
      → (before : List ℕ) × (other : ℕ) × (after.pending ≡ before ++ other ∷ []) × Says s block (commands.Merge ws name letters) (decimal other)
  unfolding decide_merge
  merge_tells ws name letters event after made then_there =
      let b = begun s block (commands.Merge ws name letters) event refl made.makes in
      let t = (merge_asked s b.0 b.1 ws name letters (workspace_of s ws)).holds event b.2 in
      let text = unwrap_or letters [] in
      let e = Merge ws t.0 text in
      let can = subst (λ (e : Event). IsTrue (playable s e)) t.2.0 (decided_could_be s orderly block (commands.Merge ws name letters) event made) in
      let has : HasMetamodel s b.0 = record { orderly = orderly; begun = b.1 } in
      let w = merger_there s b.0 t.0 text (workspace_of s ws) (asked s b.0 e b.1 can) in
      let at = after_is s e ws after (merges_stand t.0 text s b.0 ws w.0 (there_of_update s b.0 ws w.0 e has w.1 can))
      (subst (λ (e : Event). Then s e ws after) t.2.0 then_there) in
      (w.0.pending, head s.history t.0, at.pending, ap (λ (r : Reply). r.last) b.3 ∙ t.2.1)

  checkout_tells : (spec : Spec) (event : Event) → MakesEvent s block (commands.Checkout spec) event
      → (ws : ℕ) × (after : Workspace) × (ws ≡ suc (length s.workspaces)) × Then s event ws after
      × Says s block (commands.Checkout spec) (join_with_byte 32 (decimal ws ∷ decimal after.base ∷ branch_name s.history after.branch ∷ []))
  checkout_tells spec event made =
      let m = checkout_made s orderly block spec event made in
      let l = m.checks_out.leaves in
      (suc (length s.workspaces), l.after, refl, l.there, m.says ∙ words_are s m.version m.branch l.after l.such.base l.such.branch)

pub replies_tell_where : RepliesTellWhere
replies_tell_where s orderly block = record {
  commit = commit_tells s orderly block;
  update = update_tells s orderly block;
  merge = merge_tells s orderly block;
  checkout = checkout_tells s orderly block;
}
