use Rattle.std.proofs.Common.{ap, ◌∙◌, sym, subst}
use Rattle.model_state.specs.Ident.{is_id}
use Rattle.script_lang.specs.Spelling.{IsCommand}
use Rattle.repo_answers.proofs.Naming.{given_spells}
use Rattle.repo_answers.proofs.deciding.models.name_creation.Goals as goal

pub returns-clause-command : goal.returns-clause-command
returns-clause-command c =
    subst IsCommand (sym c.give_id.ensures)
    (given_spells c.in_ok-id.id c.args.command.now
    (ap is_id (c.in_ok-id.ensures ∙ c.as_str.ensures.bytes ∙ c.in_ok-fresh.ensures.id) ∙ c.in_ok-fresh.ensures.form) c.requires.command)
