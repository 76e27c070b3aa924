use Rattle.std.proofs.Common.{refl, ◌++◌, [], ◌∷◌, inl, sym, ◌∙◌, ap}
use Rattle.std.proofs.lemmas.List.{append-nil}
use Rattle.host_port.specs.declared.calls.Call.TheVariants.{Sync}
use Rattle.host_port.specs.Replay.{after_calls, at_start, said_in}
use Rattle.host_port.proofs.Replaying.{listed_in, after-push, said-push, disk_end, disk_during, quiet_said, quiet_disk, quiet_file, quiet_words}
use Rattle.host_port.proofs.memory.MemoryHostHost.sync.Goals as goal

pub invariant_of-self-clause-file_is : goal.invariant_of-self-clause-file_is
invariant_of-self-clause-file_is c =
    c.args.self.now.file_is
    ∙ ap (λ d. d.now) (sym (quiet_file c.args.self.now.first.items c.args.self.now.calls.items c.begins.new.calls.items c.if-not-begins.ensures.refused))

pub invariant_of-self-clause-said_is : goal.invariant_of-self-clause-said_is
invariant_of-self-clause-said_is c =
    c.args.self.now.said_is ∙ sym (quiet_words c.args.self.now.calls.items c.begins.new.calls.items c.if-not-begins.ensures.refused)

pub returns-then-not-begins-clause-before_or_after : goal.returns-then-not-begins-clause-before_or_after
returns-then-not-begins-clause-before_or_after c =
    λ told t low high. inl
    (quiet_disk c.args.self.now.first.items c.args.self.now.calls.items c.begins.new.calls.items c.if-not-begins.ensures.refused t low high)

pub returns-then-not-begins-clause-kept : goal.returns-then-not-begins-clause-kept
returns-then-not-begins-clause-kept c =
    λ told t low high. (quiet_disk c.args.self.now.first.items c.args.self.now.calls.items c.begins.new.calls.items c.if-not-begins.ensures.refused t
    low high)

pub invariant_of-self-else-not-note-clause-file_is : goal.invariant_of-self-else-not-note-clause-file_is
invariant_of-self-else-not-note-clause-file_is c =
    let noted = c.if-not-note.ensures.noted ∙ ap (λ l. l ++ Sync ∷ []) c.if-not-begins.ensures.going_on.0 in
    c.args.self.now.file_is
    ∙ ap (λ d. d.now) (sym
    (ap (after_calls (at_start c.args.self.now.first.items)) noted
    ∙ after-push (at_start c.args.self.now.first.items) c.args.self.now.calls.items Sync))

pub invariant_of-self-else-not-note-clause-said_is : goal.invariant_of-self-else-not-note-clause-said_is
invariant_of-self-else-not-note-clause-said_is c =
    let noted = c.if-not-note.ensures.noted ∙ ap (λ l. l ++ Sync ∷ []) c.if-not-begins.ensures.going_on.0 in
    c.args.self.now.said_is ∙ sym (ap said_in noted ∙ said-push c.args.self.now.calls.items Sync ∙ append-nil (said_in c.args.self.now.calls.items))

pub returns-clause-before_or_after : goal.returns-clause-before_or_after
returns-clause-before_or_after c = λ told t low high.
    let noted = c.if-not-note.ensures.noted ∙ ap (λ l. l ++ Sync ∷ []) c.if-not-begins.ensures.going_on.0 in
    disk_during c.args.self.now.first.items c.args.self.now.calls.items c.note.new.calls.items Sync noted t low high

pub returns-clause-stable : goal.returns-clause-stable
returns-clause-stable c = λ told.
    let noted = c.if-not-note.ensures.noted ∙ ap (λ l. l ++ Sync ∷ []) c.if-not-begins.ensures.going_on.0 in
    disk_end c.args.self.now.first.items c.args.self.now.calls.items c.note.new.calls.items Sync noted

pub returns-then-not-begins-clause-failed : goal.returns-then-not-begins-clause-failed
returns-then-not-begins-clause-failed c = record {
  cause = inl (listed_in _ _ _ c.deref.ensures.value c.if-not-begins.ensures.listed);
  disk = λ told t low high.
      quiet_disk c.args.self.now.first.items c.args.self.now.calls.items c.begins.new.calls.items c.if-not-begins.ensures.refused t low high;
  said = λ told t low high. quiet_said c.args.self.now.calls.items c.begins.new.calls.items c.if-not-begins.ensures.refused t low high;
  input = record { taken = refl; left = refl };
}
