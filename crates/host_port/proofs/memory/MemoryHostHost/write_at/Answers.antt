-- A write to the file of a host in memory: the whole of it, or a part where the call fails.
use Rattle.std.proofs.Common.{refl, inl, ◌++◌, [], ◌∷◌, length, ℕ, List, ⊎_elim, sym, ◌∙◌, ap}
use Rattle.std.proofs.lemmas.List.{append-nil}
use Rattle.host_port.specs.declared.calls.Call.TheVariants.{Write}
use Rattle.host_port.specs.Host.{written, overwritten}
use Rattle.host_port.specs.Replay.{after_calls, at_start, said_in, disk_after}
use Rattle.host_port.proofs.Replaying.{listed_in, after-push, said-push, disk_end, disk_during, quiet_said, quiet_disk, quiet_file, quiet_words}
use Rattle.host_port.proofs.Replaying.{not_yet, whole_write}
use Rattle.host_port.proofs.memory.MemoryHostHost.write_at.Goals as goal

pub invariant_of-self-clause-file_is : goal.invariant_of-self-clause-file_is
invariant_of-self-clause-file_is c =
    c.args.self.now.file_is
    ∙ ap (λ d. d.now) (sym (quiet_file c.args.self.now.first.items c.args.self.now.calls.items c.begins.new.calls.items c.if-not-begins.ensures.refused))

pub invariant_of-self-clause-said_is : goal.invariant_of-self-clause-said_is
invariant_of-self-clause-said_is c =
    c.args.self.now.said_is ∙ sym (quiet_words c.args.self.now.calls.items c.begins.new.calls.items c.if-not-begins.ensures.refused)

pub returns-then-not-begins-clause-part : goal.returns-then-not-begins-clause-part
returns-then-not-begins-clause-part c =
    λ told t low high. not_yet _ _ _
    (quiet_disk c.args.self.now.first.items c.args.self.now.calls.items c.begins.new.calls.items c.if-not-begins.ensures.refused t low high)

pub invariant_of-self-in-Ok-clause-file_is : goal.invariant_of-self-in-Ok-clause-file_is
invariant_of-self-in-Ok-clause-file_is c =
    let v = c.in-Ok.ensures.noted in
    let calls = c.args.self.now.calls.items in
    let start = at_start c.args.self.now.first.items in
    let noted = v.2 ∙ ap (λ l. l ++ Write c.args.at v.0 ∷ []) c.if-not-begins.ensures.going_on.0 in
    let old = (after_calls start calls).now in
    c.in-Ok.ensures.written ∙ ap (λ (l : List ℕ). overwritten l c.args.at c.args.bytes.now) c.args.self.now.file_is
    ∙ ap (λ (l : List ℕ). overwritten old c.args.at l) (sym v.1)
    ∙ ap (λ d. d.now) (sym (ap (after_calls start) noted ∙ after-push start calls (Write c.args.at v.0)))

pub invariant_of-self-in-Ok-clause-said_is : goal.invariant_of-self-in-Ok-clause-said_is
invariant_of-self-in-Ok-clause-said_is c =
    let v = c.in-Ok.ensures.noted in
    let calls = c.args.self.now.calls.items in
    let start = at_start c.args.self.now.first.items in
    let noted = v.2 ∙ ap (λ l. l ++ Write c.args.at v.0 ∷ []) c.if-not-begins.ensures.going_on.0 in
    c.args.self.now.said_is ∙ sym (ap said_in noted ∙ said-push calls (Write c.args.at v.0) ∙ append-nil (said_in calls))

pub returns-in-Ok-clause-part : goal.returns-in-Ok-clause-part
returns-in-Ok-clause-part c = λ told t low high.
    let v = c.in-Ok.ensures.noted in
    let calls = c.args.self.now.calls.items in
    let start = at_start c.args.self.now.first.items in
    let noted = v.2 ∙ ap (λ l. l ++ Write c.args.at v.0 ∷ []) c.if-not-begins.ensures.going_on.0 in
    let fits = c.requires.offset told in
    let long = ap length v.1 in
    ⊎_elim
    (λ e. not_yet _ _ _ e)
    (λ e. whole_write _ _ _ _ fits (e ∙ ap (λ (l : List ℕ). written (disk_after c.args.self.now.first.items calls (length calls)) c.args.at l) v.1))
    (disk_during c.args.self.now.first.items calls c.try_write.new.calls.items (Write c.args.at v.0) noted t low high)

pub returns-in-Ok-clause-whole : goal.returns-in-Ok-clause-whole
returns-in-Ok-clause-whole c = λ told.
    let v = c.in-Ok.ensures.noted in
    let calls = c.args.self.now.calls.items in
    let start = at_start c.args.self.now.first.items in
    let noted = v.2 ∙ ap (λ l. l ++ Write c.args.at v.0 ∷ []) c.if-not-begins.ensures.going_on.0 in
    disk_end c.args.self.now.first.items calls c.try_write.new.calls.items (Write c.args.at v.0) noted
    ∙ ap (λ (l : List ℕ). written (disk_after c.args.self.now.first.items calls (length calls)) c.args.at l) v.1

pub returns-then-not-begins-clause-failed : goal.returns-then-not-begins-clause-failed
returns-then-not-begins-clause-failed c = record {
  cause = inl (listed_in _ _ _ c.deref.ensures.value c.if-not-begins.ensures.listed);
  disk = λ told t low high.
      quiet_disk c.args.self.now.first.items c.args.self.now.calls.items c.begins.new.calls.items c.if-not-begins.ensures.refused t low high;
  said = λ told t low high. quiet_said c.args.self.now.calls.items c.begins.new.calls.items c.if-not-begins.ensures.refused t low high;
  input = record { taken = refl; left = refl };
}
