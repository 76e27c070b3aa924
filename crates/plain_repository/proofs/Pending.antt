-- The versions that are pending in a workspace: a merge alone adds one, and each once.
use Rattle.std.proofs.Common.{◌≡◌, inl, inr, ℕ, nat_eq, Bool, true, false, None}
use Rattle.std.proofs.Common.{Some, refl, sym, ◌∙◌, ap, subst}
use Rattle.std.proofs.lemmas.Bool.{eqb-true}
use Rattle.std.proofs.lemmas.Option.{none-some, same_Some}
use Rattle.ecore_meta.specs.Meta.{Meta}
use Rattle.history_tree.specs.History.{head}
use Rattle.op_form.specs.declared.event.Event.{Event}
use Rattle.op_form.specs.declared.event.Event.TheVariants.{Init, Checkout, Edit, Begin, End, Undo, Discard, Tidy, Commit, Branch, Tag, Update, Merge}
use Rattle.op_form.specs.declared.event.Event.TheVariants.{Drop, Evolve, Upgrade, Signed}
use Rattle.plain_repository.specs.State.{State, Workspace}
use Rattle.plain_repository.specs.Events.{is_of}
use Rattle.plain_repository.specs.EffectLaws.{CouldBeIn}
use Rattle.plain_repository.specs.MergeLaws.{Changes}
use Rattle.plain_repository.specs.Standing.{Leaves, PendingGoes, MergedStayPending}
use Rattle.plain_repository.proofs.Apart.{workspaces_stay_apart}
use Rattle.plain_repository.proofs.Effects.{drops_take_away}
use Rattle.plain_repository.proofs.Standing.{edits_stand, begins_stand, ends_stand, undos_stand, discards_stand, tidies_stand, branches_stand, updates_stand}
use Rattle.plain_repository.proofs.Standing.{merges_stand, commits_stand, signed_stand}

module _ (s : State) (meta : Meta) (ws : ℕ) (before after : Workspace) where
  abbrev Goes : Event → Type 0
  Goes e = Changes s meta ws e before after → PendingGoes s ws e before after

  could : (e : Event) → Changes s meta ws e before after → CouldBeIn s meta ws before e
  could e c = record { in_state = c.in_state; there = c.there; could = c.could }

  -- what an event leaves at the number is the workspace after it
  is_after : {Such : Workspace → Type 0} (e : Event) → Changes s meta ws e before after → Leaves s e ws Such → Such after
  is_after {Such} e c leaves = subst Such (same_Some leaves.after after (sym leaves.there ∙ c.then_there)) leaves.such

  -- an event of another workspace leaves it
  apart : (e : Event) → is_of ws e ≡ false → Goes e
  apart e other c =
      inl (ap (λ (w : Workspace). w.pending)
      (same_Some after before (sym c.then_there ∙ workspaces_stay_apart s ws before c.there e other)))

  -- an event of a number is of this one, or leaves it
  numbered : (event_of : ℕ → Event) (k : ℕ) → is_of ws (event_of k) ≡ nat_eq k ws → Goes (event_of ws) → Goes (event_of k)
  numbered event_of k own goes = by (nat_eq k ws) refl
    where
      by : (b : Bool) → nat_eq k ws ≡ b → Goes (event_of k)
      by true is = subst (λ n. Goes (event_of n)) (sym (eqb-true k ws is)) goes
      by false is = apart (event_of k) (own ∙ is)

  goes : (e : Event) → Goes e
  goes (Init text) = apart (Init text) refl
  goes (Checkout version branch) = apart (Checkout version branch) refl
  goes (Edit k more) = numbered (λ n. Edit n more) k refl (λ c.
      inl (is_after (Edit ws more) c (edits_stand more s meta ws before (could (Edit ws more) c))).stands.pending)
  goes (Begin k name) = numbered (λ n. Begin n name) k refl (λ c.
      inl (is_after (Begin ws name) c (begins_stand name s meta ws before (could (Begin ws name) c))).stands.pending)
  goes (End k) = numbered (λ n. End n) k refl (λ c. inl (is_after (End ws) c (ends_stand s meta ws before (could (End ws) c))).ended.stands.pending)
  goes (Undo k) = numbered (λ n. Undo n) k refl (λ c. inl (is_after (Undo ws) c (undos_stand s meta ws before (could (Undo ws) c))).stands.pending)
  goes (Discard k) = numbered (λ n. Discard n) k refl (λ c.
      inr (inr (inr refl, (is_after (Discard ws) c (discards_stand s meta ws before (could (Discard ws) c))).pending)))
  goes (Tidy k) = numbered (λ n. Tidy n) k refl (λ c. inl (is_after (Tidy ws) c (tidies_stand s meta ws before (could (Tidy ws) c))).stands.pending)
  goes (Commit k message) = numbered (λ n. Commit n message) k refl (λ c.
      inr (inr (
        inl (None, message, refl),
        (is_after (Commit ws message) c (commits_stand s meta ws message before (could (Commit ws message) c)).leaves).pending,
      )))
  goes (Branch k name) = numbered (λ n. Branch n name) k refl (λ c.
      inl (is_after (Branch ws name) c (branches_stand s meta ws name before (could (Branch ws name) c)).leaves).pending)
  goes (Tag name version) = apart (Tag name version) refl
  goes (Update k letters) = numbered (λ n. Update n letters) k refl (λ c.
      inl (is_after (Update ws letters) c (updates_stand letters s meta ws before (could (Update ws letters) c))).pending)
  goes (Merge k branch letters) = numbered (λ n. Merge n branch letters) k refl (λ c.
      inr (inl (
        head s.history branch,
        record { branch = branch; letters = letters; is_merge = refl; head_is = refl },
        (is_after (Merge ws branch letters) c (merges_stand branch letters s meta ws before (could (Merge ws branch letters) c))).pending,
      )))
  goes (Drop k) = numbered (λ n. Drop n) k refl (λ c. absurd (none-some after (sym (drops_take_away s ws) ∙ c.then_there)))
  goes (Evolve text) = apart (Evolve text) refl
  goes Upgrade = apart Upgrade refl
  goes (Signed k author moment message) = numbered (λ n. Signed n author moment message) k refl (λ c.
      inr (inr (
        inl (Some (record { author = author; moment = moment }), message, refl),
        (is_after (Signed ws author moment message) c
            (signed_stand s meta ws author moment message before (could (Signed ws author moment message) c)).leaves).pending,
      )))

pub merged_stay_pending : MergedStayPending
merged_stay_pending s meta ws e before after c = goes s meta ws before after e c
