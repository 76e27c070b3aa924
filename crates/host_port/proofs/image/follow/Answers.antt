use Rattle.std.proofs.Common.{sym, ◌∙◌}
use Rattle.host_port.proofs.Filling.{follows_write}
use Rattle.host_port.proofs.image.follow.Goals as goal

pub returns-in_ok-now-in-Write : goal.returns-in_ok-now-in-Write
returns-in_ok-now-in-Write c =
    λ disk shown. follows_write disk c.args.fill _ _ c.in-Write.at c.in-Write.bytes _ _ _ _ _ _ c.in-Write.is
    (c.len.ensures ∙ sym c.deref-in-Write.ensures.len) c.deref.ensures.value c.deref-in-Write.ensures.value c.in_ok-now-in-Write.ensures
    c.in_ok-image-in-Write.ensures shown
