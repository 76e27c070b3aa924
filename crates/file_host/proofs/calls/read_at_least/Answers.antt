use Rattle.std.proofs.Common.{◌≡◌, ◌∙◌, ap, subst, sym, ◌-◌, length, List, ℕ, length-drop}
use Rattle.std.proofs.lemmas.List.{take_rest}
use borrow.Rule.Slice.PartMut.{put_mid}
use Rattle.system_port.specs.Stays.{Stays}
use Rattle.file_host.proofs.Going.{Filling, fill_more, fill_again}
use Rattle.file_host.proofs.calls.read_at_least.Goals.{in-Ok, in-Err-Interrupted}
use Rattle.file_host.proofs.calls.read_at_least.Goals as goal

pub loop-preserved : goal.loop-preserved
loop-preserved g c =
    let a = g.S.System.told c.args.system.now in
    let b = g.S.System.told c.loop.system in
    let d = g.S.System.told c.read_at.new.self in
    let call = c.read_at.ensures in
    let got = c.read_at.new.into in
    let stays : Stays b d = call.stays in
    let room : length c.read_at.new.into ≡ length c.loop.into - c.loop.done =
    c.read_at.auto.into ∙ ap length (take_rest c.loop.into c.loop.done) ∙ length-drop c.loop.done c.loop.into in
    let now : List ℕ = put_mid c.loop.done (length c.loop.into - c.loop.done) c.loop.into c.read_at.new.into in
    elim c.match-read_at.branch [
      | in-Ok w ↦
          subst (λ (n : ℕ). Filling a d c.args.at now n) (sym w.done-is)
          (fill_more a b d c.args.at c.in-Some.from c.loop.into got c.loop.done c.loop.invariant stays room
          w.in-Ok.count c.in-Some.ensures.1 w.in-Ok.ensures.bound w.in-Ok.ensures.bytes)
      | in-Err-Interrupted w ↦
          subst (λ (n : ℕ). Filling a d c.args.at now n) (sym w.done-is)
          (fill_again a b d c.args.at c.in-Some.from c.loop.into got c.loop.done c.loop.invariant stays room)
    ]
