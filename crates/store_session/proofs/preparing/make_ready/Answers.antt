use Rattle.std.proofs.Common.{length}
use Rattle.state_cache.specs.Entries.{HoldsAll}
use Rattle.state_cache.proofs.Alone.{yielded_all}
use Rattle.state_cache.proofs.Standing.{stands_alike}
use Rattle.repo_state.specs.Cached.{HasEncodings}
use Rattle.store_session.proofs.Holding.{all_alike, any_err, forms_alike, forms_yielded, made_both, made_same, record_left, room_made}
use Rattle.store_session.proofs.preparing.make_ready.Goals as goal

pub prepare-requires-clause-room : goal.prepare-requires-clause-room
prepare-requires-clause-room c =
    room_made c.args.pool.now c.yield_frames.new.pool c.count_frames-frames.result
    (length c.args.form.now) c.args.cache.now c.yield_frames.new.self c.requires.all c.yield_frames.ensures.yielded c.count_frames-frames.ensures
    c.requires.short

pub returns-in_err-prepared-clause-all : goal.returns-in_err-prepared-clause-all
returns-in_err-prepared-clause-all c =
    let all : HoldsAll c.yield_frames.new.pool c.yield_frames.new.self =
    yielded_all c.args.pool.now c.yield_frames.new.pool _ c.args.cache.now c.yield_frames.new.self c.requires.all c.yield_frames.ensures.yielded
    c.yield_frames.ensures.out in
    any_err _ (HoldsAll c.prepare.new.pool c.yield_frames.new.self)
    (all_alike c.yield_frames.new.pool c.prepare.new.pool c.yield_frames.new.self all c.in_err-prepared.ensures.same c.in_err-prepared.ensures.err)

pub returns-in_err-prepared-clause-kept : goal.returns-in_err-prepared-clause-kept
returns-in_err-prepared-clause-kept c =
    record_left c.args.pool.now c.yield_frames.new.pool c.count_frames-frames.result
    (length c.args.form.now) c.args.cache.now c.yield_frames.new.self c.requires.all c.yield_frames.ensures.yielded c.count_frames-frames.ensures

pub returns-in_err-prepared-clause-forms : goal.returns-in_err-prepared-clause-forms
returns-in_err-prepared-clause-forms c =
    let forms : HasEncodings c.args._repo.now c.yield_frames.new.pool c.yield_frames.new.self =
    forms_yielded c.args._repo.now c.args.pool.now c.yield_frames.new.pool _ c.args.cache.now c.yield_frames.new.self
    c.yield_frames.ensures.yielded c.requires.forms in
    forms_alike c.args._repo.now c.yield_frames.new.pool c.prepare.new.pool c.yield_frames.new.self
    (stands_alike c.yield_frames.new.pool c.prepare.new.pool c.yield_frames.new.self c.in_err-prepared.ensures.same) forms

pub returns-clause-held : goal.returns-clause-held
returns-clause-held c =
    let all : HoldsAll c.yield_frames.new.pool c.yield_frames.new.self =
    yielded_all c.args.pool.now c.yield_frames.new.pool _ c.args.cache.now c.yield_frames.new.self c.requires.all c.yield_frames.ensures.yielded
    c.yield_frames.ensures.out in
    made_both c.yield_frames.new.pool c.prepare.new.pool c.yield_frames.new.self c.in_ok-prepared.prepared c.args.form.now all
    c.in_ok-prepared.ensures.holds c.in_ok-prepared.ensures.fresh c.in_ok-prepared.ensures.others c.in_ok-prepared.ensures.out

pub returns-clause-kept : goal.returns-clause-kept
returns-clause-kept c =
    record_left c.args.pool.now c.yield_frames.new.pool c.count_frames-frames.result
    (length c.args.form.now) c.args.cache.now c.yield_frames.new.self c.requires.all c.yield_frames.ensures.yielded c.count_frames-frames.ensures

pub returns-clause-forms : goal.returns-clause-forms
returns-clause-forms c =
    let all : HoldsAll c.yield_frames.new.pool c.yield_frames.new.self =
    yielded_all c.args.pool.now c.yield_frames.new.pool _ c.args.cache.now c.yield_frames.new.self c.requires.all c.yield_frames.ensures.yielded
    c.yield_frames.ensures.out in
    let forms : HasEncodings c.args._repo.now c.yield_frames.new.pool c.yield_frames.new.self =
    forms_yielded c.args._repo.now c.args.pool.now c.yield_frames.new.pool _ c.args.cache.now c.yield_frames.new.self
    c.yield_frames.ensures.yielded c.requires.forms in
    forms_alike c.args._repo.now c.yield_frames.new.pool c.prepare.new.pool c.yield_frames.new.self
    (made_same c.yield_frames.new.pool c.prepare.new.pool c.yield_frames.new.self c.in_ok-prepared.prepared c.args.form.now all
    c.in_ok-prepared.ensures.holds c.in_ok-prepared.ensures.fresh c.in_ok-prepared.ensures.others c.in_ok-prepared.ensures.out) forms
