use Rattle.std.proofs.Common.{◌≡◌, ◌∙◌, ap, subst, map, string_bytes}
use Rattle.emftools.specs.Program.{IsRun}
use Rattle.emftools.proofs.program.ran.Goals as goal

pub returns-in-Ok-clause-run : goal.returns-in-Ok-clause-run
returns-in-Ok-clause-run g c = λ texts is.
    let same : c.in-Ok.words ≡ texts = cc in
    let done : IsRun (map string_bytes c.deref.result.now) (g.H.Host.told c.args.host.now) (g.H.Host.told c.tools.new.host) c.tools.result = record {
      ends = c.tools.ensures.ends;
      part = c.tools.ensures.part;
      moments = c.tools.ensures.moments;
      stopped = c.tools.ensures.stopped;
      complete = c.tools.ensures.complete;
      still = c.tools.ensures.still;
      unread = c.tools.ensures.unread;
      bad = c.tools.ensures.bad;
      words = c.tools.ensures.words;
      untouched = c.tools.ensures.untouched;
      read = c.tools.ensures.read;
      write = c.tools.ensures.write;
      disk = c.tools.ensures.disk;
      damaged = c.tools.ensures.damaged;
      kept = c.tools.ensures.kept;
      silent = c.tools.ensures.silent;
      damages = c.tools.ensures.damages;
      replay = c.tools.ensures.replay;
      script = c.tools.ensures.script;
      whole = c.tools.ensures.whole;
      broken = c.tools.ensures.broken;
      course = c.tools.ensures.course;
    } in
    subst (λ l. IsRun (map string_bytes l) (g.H.Host.told c.args.host.now) (g.H.Host.told c.tools.new.host) c.tools.result)
    (c.deref.ensures.value ∙ ap (λ v. v.items) same) done
