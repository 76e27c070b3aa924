use Rattle.std.proofs.Common.{refl, arith, sym, ◌∙◌, ap}
use Rattle.host_port.proofs.Replaying.{cause_in, quiet_said, quiet_longer, quiet_past_disk, quiet_past_said, quiet_disk, quiet_file, quiet_words}
use Rattle.host_port.proofs.memory.MemoryHostHost.read_at.Goals as goal

pub invariant_of-self-clause-file_is : goal.invariant_of-self-clause-file_is
invariant_of-self-clause-file_is c =
    c.args.self.now.file_is
    ∙ ap (λ d. d.now) (sym
    (quiet_file c.args.self.now.first.items c.args.self.now.calls.items c.begins_quiet.new.calls.items c.begins_quiet.ensures.quiet))

pub invariant_of-self-clause-said_is : goal.invariant_of-self-clause-said_is
invariant_of-self-clause-said_is c =
    c.args.self.now.said_is ∙ sym (quiet_words c.args.self.now.calls.items c.begins_quiet.new.calls.items c.begins_quiet.ensures.quiet)

pub returns-then-not-begins_quiet-clause-disk : goal.returns-then-not-begins_quiet-clause-disk
returns-then-not-begins_quiet-clause-disk c =
    λ told t low high. quiet_disk c.args.self.now.first.items c.args.self.now.calls.items c.begins_quiet.new.calls.items c.begins_quiet.ensures.quiet
    t low high

pub returns-clause-disk : goal.returns-clause-disk
returns-clause-disk c =
    λ told t low high. quiet_disk c.args.self.now.first.items c.args.self.now.calls.items c.begins_quiet.new.calls.items c.begins_quiet.ensures.quiet
    t low high

pub returns-then-not-begins_quiet-clause-failed : goal.returns-then-not-begins_quiet-clause-failed
returns-then-not-begins_quiet-clause-failed c = record {
  cause = cause_in _ _ _ _ _ c.deref.ensures.value c.if-not-begins_quiet.ensures.cause;
  disk = λ told t low high.
      quiet_disk c.args.self.now.first.items c.args.self.now.calls.items c.begins_quiet.new.calls.items c.begins_quiet.ensures.quiet t low high;
  said = λ told t low high. quiet_said c.args.self.now.calls.items c.begins_quiet.new.calls.items c.begins_quiet.ensures.quiet t low high;
  input = record { taken = refl; left = refl };
}

pub returns-clause-said : goal.returns-clause-said
returns-clause-said c = λ told t low high. quiet_said c.args.self.now.calls.items c.begins_quiet.new.calls.items c.begins_quiet.ensures.quiet t low high

pub returns-clause-course : goal.returns-clause-course
returns-clause-course c = record {
  tells = refl;
  clock = quiet_longer c.args.self.now.calls.items c.begins_quiet.new.calls.items c.begins_quiet.ensures.quiet;
  take_faults = omega (arith, c.begins_quiet.ensures.later);
  say_faults = omega (arith, c.begins_quiet.ensures.later);
  disk_faults = omega (arith, c.begins_quiet.ensures.later);
  past = λ told t before.
      record {
        disk = quiet_past_disk c.args.self.now.first.items c.args.self.now.calls.items c.begins_quiet.new.calls.items
            c.begins_quiet.ensures.quiet t before;
        said =
            quiet_past_said c.args.self.now.calls.items c.begins_quiet.new.calls.items c.begins_quiet.ensures.quiet t before;
      };
}
