use Rattle.std.proofs.Common.{◌∙◌, ap, cond, true}
use Rattle.std.specs.BTreeSet.{contains_text}
use Rattle.std.proofs.lemmas.Map.Text.{btree_set_updates_text}
use Rattle.finite_maps.specs.Equal.{text_eq}
use Rattle.access_rules.proofs.Users.{either}
use Rattle.access_rules.proofs.reading.enter.Goals as goal

pub returns-clause-users : goal.returns-clause-users
returns-clause-users c = λ name.
    btree_set_updates_text _ c.args.users.now c.insert.new.self _ c.in_ok-insert.ensures.updates name
    ∙ ap (λ user. cond (text_eq user name) true (contains_text c.args.users.now name)) c.in_ok-user.ensures.ok
    ∙ either (text_eq c.args.user.now name) (contains_text c.args.users.now name)
