-- Words said to a host in memory: all of them, or a part where the call fails.
use Rattle.std.proofs.Common.{refl, inl, ◌++◌, [], ◌∷◌, length, ℕ, List, ⊎_elim, sym, ◌∙◌, ap, arith}
use Rattle.std.proofs.lemmas.List.{append-nil, take_all}
use Rattle.host_port.specs.declared.calls.Call.TheVariants.{Say}
use Rattle.host_port.specs.Replay.{after_calls, at_start, said_in, said_after}
use Rattle.host_port.proofs.Replaying.{listed_in, after-push, said-push, disk_during, said_during, quiet_disk, quiet_file, quiet_words, quiet_said}
use Rattle.host_port.proofs.memory.MemoryHostHost.say.Goals as goal

pub invariant_of-self-clause-file_is : goal.invariant_of-self-clause-file_is
invariant_of-self-clause-file_is c =
    c.args.self.now.file_is
    ∙ ap (λ d. d.now) (sym (quiet_file c.args.self.now.first.items c.args.self.now.calls.items c.begins.new.calls.items c.if-not-begins.ensures.refused))

pub invariant_of-self-clause-said_is : goal.invariant_of-self-clause-said_is
invariant_of-self-clause-said_is c =
    c.args.self.now.said_is ∙ sym (quiet_words c.args.self.now.calls.items c.begins.new.calls.items c.if-not-begins.ensures.refused)

pub returns-then-not-begins-clause-disk : goal.returns-then-not-begins-clause-disk
returns-then-not-begins-clause-disk c =
    λ told t low high. (quiet_disk c.args.self.now.first.items c.args.self.now.calls.items c.begins.new.calls.items c.if-not-begins.ensures.refused t
    low high)

pub returns-then-not-begins-clause-part : goal.returns-then-not-begins-clause-part
returns-then-not-begins-clause-part c =
    λ told t low high. (
      0,
      quiet_said c.args.self.now.calls.items c.begins.new.calls.items c.if-not-begins.ensures.refused t low high
          ∙ sym (append-nil _),
    )

pub invariant_of-self-in-Ok-clause-file_is : goal.invariant_of-self-in-Ok-clause-file_is
invariant_of-self-in-Ok-clause-file_is c =
    let v = c.in-Ok.ensures.noted in
    let calls = c.args.self.now.calls.items in
    let start = at_start c.args.self.now.first.items in
    let noted = v.2 ∙ ap (λ l. l ++ Say v.0 ∷ []) c.if-not-begins.ensures.going_on.0 in
    c.args.self.now.file_is ∙ ap (λ d. d.now) (sym (ap (after_calls start) noted ∙ after-push start calls (Say v.0)))

pub invariant_of-self-in-Ok-clause-said_is : goal.invariant_of-self-in-Ok-clause-said_is
invariant_of-self-in-Ok-clause-said_is c =
    let v = c.in-Ok.ensures.noted in
    let calls = c.args.self.now.calls.items in
    let start = at_start c.args.self.now.first.items in
    let noted = v.2 ∙ ap (λ l. l ++ Say v.0 ∷ []) c.if-not-begins.ensures.going_on.0 in
    c.in-Ok.ensures.said ∙ ap (λ (l : List ℕ). l ++ c.args.bytes.now) c.args.self.now.said_is ∙ ap (λ (l : List ℕ). said_in calls ++ l) (sym v.1)
    ∙ sym (said-push calls (Say v.0)) ∙ ap said_in (sym noted)

pub returns-in-Ok-clause-disk : goal.returns-in-Ok-clause-disk
returns-in-Ok-clause-disk c = λ told t low high.
    let v = c.in-Ok.ensures.noted in
    let calls = c.args.self.now.calls.items in
    let start = at_start c.args.self.now.first.items in
    let noted = v.2 ∙ ap (λ l. l ++ Say v.0 ∷ []) c.if-not-begins.ensures.going_on.0 in
    ⊎_elim (λ e. e) (λ e. e) (disk_during c.args.self.now.first.items calls c.try_say.new.calls.items (Say v.0) noted t low high)

pub returns-in-Ok-clause-part : goal.returns-in-Ok-clause-part
returns-in-Ok-clause-part c = λ told t low high.
    let v = c.in-Ok.ensures.noted in
    let calls = c.args.self.now.calls.items in
    let start = at_start c.args.self.now.first.items in
    let noted = v.2 ∙ ap (λ l. l ++ Say v.0 ∷ []) c.if-not-begins.ensures.going_on.0 in
    let before = said_after calls (length calls) in
    ⊎_elim
    (λ e. (0, e ∙ sym (append-nil before)))
    (λ e. (length c.args.bytes.now, e ∙ ap (λ (l : List ℕ). before ++ l) (v.1 ∙ sym (take_all (length c.args.bytes.now) c.args.bytes.now (omega arith)))))
    (said_during c.args.self.now.first.items calls c.try_say.new.calls.items (Say v.0) noted t low high)

pub returns-then-not-begins-clause-failed : goal.returns-then-not-begins-clause-failed
returns-then-not-begins-clause-failed c = record {
  cause = inl (listed_in _ _ _ c.deref.ensures.value c.if-not-begins.ensures.listed);
  disk = λ told t low high.
      quiet_disk c.args.self.now.first.items c.args.self.now.calls.items c.begins.new.calls.items c.if-not-begins.ensures.refused t low high;
  said = λ told t low high. quiet_said c.args.self.now.calls.items c.begins.new.calls.items c.if-not-begins.ensures.refused t low high;
  input = record { taken = refl; left = refl };
}
