-- what is left to be read gives what the text does, and the set has just the users of the grants so far
use Rattle.std.proofs.Common.{◌≡◌, ◌+◌, ◌≤◌, length}
use denote.Text.{Utf8}
use denote.Shadow.{shadow}
use Rattle.access_rules.specs.Reading.{pieces, grants_from, grants_of, HasUsers}
use Rattle.access_rules.proofs.reading.read_policy.Given as goal

abbrev pub invariant-pieces : goal.invariant-pieces
invariant-pieces l = record {
  utf8 : shadow (Utf8 l.rest);
  short : l.offset + length l.rest ≤ length l.text;
  read : grants_of l.text ≡ grants_from l.grants l.offset (pieces l.rest);
  users : HasUsers l.users l.grants;
}

abbrev pub decreases-pieces : goal.decreases-pieces
decreases-pieces l = length l.rest
