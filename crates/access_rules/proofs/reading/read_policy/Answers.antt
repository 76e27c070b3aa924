-- piece by piece
use Rattle.std.proofs.Common.{◌≡◌, [], arith, ◌+◌, length}
use Rattle.std.specs.Prelude.{Some, None}
use Rattle.access_rules.specs.Reading.{pieces}
use Rattle.access_rules.proofs.Grants.{IsCut, cut_is, whole_is, cut_pieces, cut_length, cut_utf8, stops, goes_on}
use Rattle.access_rules.proofs.Users.{users_on}
use Rattle.access_rules.proofs.reading.read_policy.Goals as goal

pub returns-in-None : goal.returns-in-None
returns-in-None c =
    let is : c.split_once.result ≡ Some (c.in-Some.piece, c.in-Some.after) = cc in
    let cut : IsCut c.pieces.rest.now c.in-Some.piece.now c.in-Some.after.now =
    cut_is c.pieces.rest.now c.split_once.result c.split_once.ensures.cases (c.in-Some.piece, c.in-Some.after) is in
    record {
      policy = stops c.args.text.now c.pieces.grants c.pieces.offset c.pieces.rest.now c.in-Some.piece.now (pieces c.in-Some.after.now)
          c.in_ok-new_grant.field-0 c.pieces.invariant.read (cut_pieces c.pieces.rest.now c.in-Some.piece.now c.in-Some.after.now cut)
          (c.in_ok-new_grant.ensures.grant c.pieces.grants c.pieces.invariant.users) c.in-None.is;
    }

pub pieces-preserved : goal.pieces-preserved
pieces-preserved c =
    let is : c.split_once.result ≡ Some (c.in-Some.piece, c.in-Some.after) = cc in
    let cut : IsCut c.pieces.rest.now c.in-Some.piece.now c.in-Some.after.now =
    cut_is c.pieces.rest.now c.split_once.result c.split_once.ensures.cases (c.in-Some.piece, c.in-Some.after) is in
    record {
      utf8 = cut_utf8 c.pieces.rest.now c.in-Some.piece.now c.in-Some.after.now cut c.pieces.invariant.utf8;
      short =
          let size : length c.in-Some.piece.now + 1 + length c.in-Some.after.now ≡ length c.pieces.rest.now =
          cut_length c.pieces.rest.now c.in-Some.piece.now c.in-Some.after.now cut in
          omega (arith, size, c.pieces.invariant.short);
      read = goes_on c.args.text.now c.pieces.grants c.pieces.offset c.pieces.rest.now c.in-Some.piece.now (pieces c.in-Some.after.now)
          c.in_ok-new_grant.field-0 c.pieces.invariant.read (cut_pieces c.pieces.rest.now c.in-Some.piece.now c.in-Some.after.now cut)
          (c.in_ok-new_grant.ensures.grant c.pieces.grants c.pieces.invariant.users) c.in-Some-2.grant c.push.new.self c.in-Some-2.is
          c.in_ok-push-in-Some-2.ensures.ok;
      users = users_on c.pieces.users c.new_grant.new.users c.pieces.grants c.push.new.self c.in_ok-new_grant.field-0 c.in-Some-2.grant
          c.pieces.invariant.users c.in-Some-2.is c.in_ok-new_grant.ensures.users c.in_ok-push-in-Some-2.ensures.ok;
    }

pub returns-in-None-2 : goal.returns-in-None-2
returns-in-None-2 c =
    let is : c.split_once.result ≡ None = cc in
    record {
      policy = stops c.args.text.now c.pieces.grants c.pieces.offset c.pieces.rest.now c.pieces.rest.now [] c.in_ok-new_grant-2.field-0
          c.pieces.invariant.read (whole_is c.pieces.rest.now c.split_once.result c.split_once.ensures.cases is)
          (c.in_ok-new_grant-2.ensures.grant c.pieces.grants c.pieces.invariant.users) c.in-None-2.is;
    }

pub returns : goal.returns
returns c =
    let is : c.split_once.result ≡ None = cc in
    record {
      policy = goes_on c.args.text.now c.pieces.grants c.pieces.offset c.pieces.rest.now c.pieces.rest.now [] c.in_ok-new_grant-2.field-0
          c.pieces.invariant.read (whole_is c.pieces.rest.now c.split_once.result c.split_once.ensures.cases is)
          (c.in_ok-new_grant-2.ensures.grant c.pieces.grants c.pieces.invariant.users) c.in-Some-3.grant c.push-in-Some-3.new.self c.in-Some-3.is
          c.in_ok-push-in-Some-3.ensures.ok;
    }
