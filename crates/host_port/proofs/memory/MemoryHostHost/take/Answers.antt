-- What a host in memory hands out of its input, what is left of it, and what a failing call leaves.
use Rattle.std.proofs.Common.{refl, ◌≡◌, ◌+◌, ◌≤◌, ◌++◌, length, take, drop, ℕ, List, sym, ◌∙◌, ap, arith}
use Rattle.std.proofs.lemmas.List.{length-drop, length-take, nil_from_length, take_rest}
use Rattle.host_port.proofs.Replaying.{cause_in, quiet_said, quiet_longer, quiet_past_disk, quiet_past_said, quiet_disk, quiet_file, quiet_words}
use Rattle.host_port.proofs.Replaying.{moved_taken, moved_left}
use Rattle.host_port.proofs.memory.MemoryHostHost.take.Goals as goal

pub invariant_of-self-clause-file_is : goal.invariant_of-self-clause-file_is
invariant_of-self-clause-file_is c =
    c.args.self.now.file_is
    ∙ ap (λ d. d.now) (sym
    (quiet_file c.args.self.now.first.items c.args.self.now.calls.items c.begins_quiet.new.calls.items c.begins_quiet.ensures.quiet))

pub invariant_of-self-clause-said_is : goal.invariant_of-self-clause-said_is
invariant_of-self-clause-said_is c =
    c.args.self.now.said_is ∙ sym (quiet_words c.args.self.now.calls.items c.begins_quiet.new.calls.items c.begins_quiet.ensures.quiet)

pub returns-then-not-begins_quiet-clause-disk : goal.returns-then-not-begins_quiet-clause-disk
returns-then-not-begins_quiet-clause-disk c =
    λ told t low high. quiet_disk c.args.self.now.first.items c.args.self.now.calls.items c.begins_quiet.new.calls.items c.begins_quiet.ensures.quiet
    t low high

pub returns-clause-disk : goal.returns-clause-disk
returns-clause-disk c =
    λ told t low high. quiet_disk c.args.self.now.first.items c.args.self.now.calls.items c.begins_quiet.new.calls.items c.begins_quiet.ensures.quiet
    t low high

pub invariant_of-self-2-clause-taken_fits : goal.invariant_of-self-2-clause-taken_fits
invariant_of-self-2-clause-taken_fits c =
    omega (
      arith,
      c.hand_over-count.ensures.left,
      ap length c.deref-2.ensures.value,
      c.args.self.now.taken_fits,
      length-drop c.args.self.now.taken c.args.self.now.input.items,
      length-drop c.args.self.now.taken c.deref-2.result.now,
    )

pub returns-clause-moved : goal.returns-clause-moved
returns-clause-moved c = λ told.
    let host = c.args.self.now in
    let n = c.hand_over-count.result in
    let input = c.args.self.now.input.items in
    let file = c.deref-2.ensures.value in
    let long = length-drop c.args.self.now.taken c.args.self.now.input.items in
    let fits : c.args.self.now.taken + c.hand_over-count.result ≤ length c.args.self.now.input.items =
    omega (arith, c.hand_over-count.ensures.left, ap length file, c.args.self.now.taken_fits, long, length-drop c.args.self.now.taken c.deref-2.result.now) in
    let bytes : take n c.hand_over-count.new.into ≡ take n (drop c.args.self.now.taken c.args.self.now.input.items) =
    c.hand_over-count.ensures.bytes ∙ ap (λ (l : List ℕ). take n l) (take_rest c.deref-2.result.now host.taken)
    ∙ ap (λ (l : List ℕ). take n (drop c.args.self.now.taken l)) file in
    record {
      taken = moved_taken input host.taken n fits ∙ ap (λ (l : List ℕ). take host.taken input ++ l) (sym bytes);
      left = moved_left input host.taken n ∙ ap (λ (l : List ℕ). l ++ drop (host.taken + n) input) (sym bytes);
      end = λ none. nil_from_length (drop host.taken input) (omega (
        arith,
        c.hand_over-count.ensures.end,
        c.hand_over-count.ensures.into,
        none,
        length-take n c.hand_over-count.new.into,
        ap length (take_rest c.deref-2.result.now host.taken),
        ap length file,
        long,
        length-drop host.taken c.deref-2.result.now,
      ));
    }

pub invariant_of-self-2-clause-file_is : goal.invariant_of-self-2-clause-file_is
invariant_of-self-2-clause-file_is c =
    c.args.self.now.file_is
    ∙ ap (λ d. d.now) (sym
    (quiet_file c.args.self.now.first.items c.args.self.now.calls.items c.begins_quiet.new.calls.items c.begins_quiet.ensures.quiet))

pub invariant_of-self-2-clause-said_is : goal.invariant_of-self-2-clause-said_is
invariant_of-self-2-clause-said_is c =
    c.args.self.now.said_is ∙ sym (quiet_words c.args.self.now.calls.items c.begins_quiet.new.calls.items c.begins_quiet.ensures.quiet)

pub returns-then-not-begins_quiet-clause-failed : goal.returns-then-not-begins_quiet-clause-failed
returns-then-not-begins_quiet-clause-failed c = record {
  cause = cause_in _ _ _ _ _ c.deref.ensures.value c.if-not-begins_quiet.ensures.cause;
  disk = λ told t low high.
      quiet_disk c.args.self.now.first.items c.args.self.now.calls.items c.begins_quiet.new.calls.items c.begins_quiet.ensures.quiet t low high;
  said = λ told t low high. quiet_said c.args.self.now.calls.items c.begins_quiet.new.calls.items c.begins_quiet.ensures.quiet t low high;
  input = record { taken = refl; left = refl };
}

pub returns-clause-said : goal.returns-clause-said
returns-clause-said c = λ told t low high. quiet_said c.args.self.now.calls.items c.begins_quiet.new.calls.items c.begins_quiet.ensures.quiet t low high

pub returns-clause-course : goal.returns-clause-course
returns-clause-course c = record {
  tells = refl;
  clock = quiet_longer c.args.self.now.calls.items c.begins_quiet.new.calls.items c.begins_quiet.ensures.quiet;
  take_faults = omega (arith, c.begins_quiet.ensures.later);
  say_faults = omega (arith, c.begins_quiet.ensures.later);
  disk_faults = omega (arith, c.begins_quiet.ensures.later);
  past = λ told t before.
      record {
        disk = quiet_past_disk c.args.self.now.first.items c.args.self.now.calls.items c.begins_quiet.new.calls.items
            c.begins_quiet.ensures.quiet t before;
        said =
            quiet_past_said c.args.self.now.calls.items c.begins_quiet.new.calls.items c.begins_quiet.ensures.quiet t before;
      };
}
