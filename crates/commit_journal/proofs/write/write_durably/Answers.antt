use Rattle.commit_journal.proofs.Writing.{writes, writes_and_syncs}
use Rattle.commit_journal.proofs.write.write_durably.Goals as goal

pub returns-in_err-write_at-clause-during : goal.returns-in_err-write_at-clause-during
returns-in_err-write_at-clause-during g c =
    writes (g.H.Host.told c.args.host.now) (g.H.Host.told c.write_at.new.self) c.args.at c.args.bytes.now c.write_at.ensures.part

pub returns-clause-during : goal.returns-clause-during
returns-clause-during g c =
    writes_and_syncs (g.H.Host.told c.args.host.now) (g.H.Host.told c.write_at.new.self) c.args.at c.args.bytes.now c.write_at.ensures.part
    (g.H.Host.told c.sync.new.self) c.write_at.ensures.course c.sync.ensures.course c.requires.offset c.in_ok-write_at.ensures.whole
    c.sync.ensures.before_or_after
