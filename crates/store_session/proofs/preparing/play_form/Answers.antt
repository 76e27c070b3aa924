use Rattle.std.proofs.Common.{arith}
use Rattle.store_session.proofs.Holding.{both_may, both_on, forms_alike, given_all, given_same, record_on}
use Rattle.store_session.proofs.preparing.play_form.Goals as goal

pub play_bytes-requires-clause-room : goal.play_bytes-requires-clause-room
play_bytes-requires-clause-room c = let room = c.requires.fits.room in omega (arith, room)

pub play_bytes-requires-clause-usable : goal.play_bytes-requires-clause-usable
play_bytes-requires-clause-usable c =
    both_may c.args.pool.now c.args.pool.now c.args.cache.now c.args.cache.now c.args.prepared c.args.form.now c.requires.holds c.requires.held
    (let short = c.requires.fits.short in omega (arith, short))

pub returns-in-Ok-clause-holds : goal.returns-in-Ok-clause-holds
returns-in-Ok-clause-holds c =
    record_on c.args.pool.now c.play_bytes.new.pool c.args.cache.now c.play_bytes.new.cache c.args.prepared c.args.form.now c.requires.holds c.requires.held
    c.play_bytes.ensures.uses

pub returns-in-Ok-clause-held : goal.returns-in-Ok-clause-held
returns-in-Ok-clause-held c =
    both_on c.args.pool.now c.play_bytes.new.pool c.args.cache.now c.play_bytes.new.cache c.args.prepared c.args.form.now c.requires.holds c.requires.held
    c.play_bytes.ensures.uses

pub give_up-requires : goal.give_up-requires
give_up-requires c = record {
  out =
      (record_on c.args.pool.now c.play_bytes.new.pool c.args.cache.now c.play_bytes.new.cache c.args.prepared c.args.form.now c.requires.holds c.requires.held
      c.play_bytes.ensures.uses).out;
}

pub returns-in-Err-clause-all : goal.returns-in-Err-clause-all
returns-in-Err-clause-all c =
    given_all c.play_bytes.new.pool c.give_up.new.pool c.play_bytes.new.cache c.args.prepared
    (both_on c.args.pool.now c.play_bytes.new.pool c.args.cache.now c.play_bytes.new.cache c.args.prepared c.args.form.now c.requires.holds c.requires.held
    c.play_bytes.ensures.uses)
    c.give_up.ensures.free c.give_up.ensures.others c.give_up.ensures.out

pub returns-in-Err-clause-forms : goal.returns-in-Err-clause-forms
returns-in-Err-clause-forms c =
    forms_alike c.play_bytes.new.repo c.play_bytes.new.pool c.give_up.new.pool c.play_bytes.new.cache
    (given_same c.play_bytes.new.pool c.give_up.new.pool c.play_bytes.new.cache c.args.prepared
    (both_on c.args.pool.now c.play_bytes.new.pool c.args.cache.now c.play_bytes.new.cache c.args.prepared c.args.form.now c.requires.holds c.requires.held
    c.play_bytes.ensures.uses)
    c.give_up.ensures.free c.give_up.ensures.others c.give_up.ensures.out)
    c.play_bytes.ensures.forms
