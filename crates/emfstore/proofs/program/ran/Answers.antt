use Rattle.std.proofs.Common.{◌≡◌, ◌∙◌, ap, subst, sym, map, string_bytes}
use Rattle.system_port.specs.Stays.{Stays}
use Rattle.system_port.proofs.Staying.{stays_still}
use Rattle.emfstore.specs.Program.{IsRun}
use Rattle.emfstore.proofs.program.ran.Goals as goal

pub returns-in-Ok-clause-run : goal.returns-in-Ok-clause-run
returns-in-Ok-clause-run g c = λ texts is.
    let same : c.in-Ok.words ≡ texts = cc in
    let done : IsRun (map string_bytes c.deref.result.now) (g.H.Host.told c.args.host.now) (g.H.Host.told c.run.new.host) c.run.result = record {
      ends = c.run.ensures.ends;
      part = c.run.ensures.part;
      moments = c.run.ensures.moments;
      stopped = c.run.ensures.stopped;
      complete = c.run.ensures.complete;
      still = c.run.ensures.still;
      unread = c.run.ensures.unread;
      words = c.run.ensures.words;
      untouched = λ bad. subst (λ t. Stays (g.H.Host.told c.args.host.now) t) (sym (c.run.ensures.untouched bad)) (stays_still (g.H.Host.told c.args.host.now));
      read = c.run.ensures.read;
      write = c.run.ensures.write;
      disk = c.run.ensures.disk;
      damaged = c.run.ensures.damaged;
      kept = c.run.ensures.kept;
      silent = c.run.ensures.silent;
      damages = c.run.ensures.damages;
      course = c.run.ensures.course;
    } in
    subst (λ l. IsRun (map string_bytes l) (g.H.Host.told c.args.host.now) (g.H.Host.told c.run.new.host) c.run.result)
    (c.deref.ensures.value ∙ ap (λ v. v.items) same) done
