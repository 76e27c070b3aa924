use Rattle.std.proofs.Common.{◌-◌, length, take, drop}
use Rattle.std.proofs.lemmas.List.{take_rest}
use Rattle.host_port.proofs.Reading.{read_padded}
use Rattle.host_port.proofs.talk.read_over.Goals as goal

pub returns : goal.returns
returns c =
    let file = c.args.file.now in
    read_padded file c.args.at _ c.min.result c.min-count.result (take (length file - c.min.result) (drop c.min.result file)) _ _ c.min.ensures
    (take_rest file c.min.result) c.min-count.ensures c.copy_from_slice.ensures.after (c.fill.ensures.after (λ y e. e))
