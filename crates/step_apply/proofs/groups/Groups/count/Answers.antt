use Rattle.std.proofs.Common.{sym, ap, ◌∙◌, length}
use Rattle.std.specs.FinMap.{entries}
use Rattle.step_apply.specs.Groups.{standing}
use Rattle.model_state.specs.Keys.{id_cmp}
use Rattle.step_apply.proofs.Grouped.{no_entries}
use Rattle.step_apply.proofs.groups.Groups.count.Goals as goal

pub returns-in-Root : goal.returns-in-Root
returns-in-Root c = c.len.ensures ∙ ap (λ p. length (entries (standing c.args.self.now p))) (sym c.in-Root.is)

pub returns-in-None : goal.returns-in-None
returns-in-None c =
    ap length (sym (no_entries id_cmp)) ∙ ap (λ m. length (entries m)) c.in-None.ensures
    ∙ ap (λ p. length (entries (standing c.args.self.now p))) (sym c.in-Inside.is)

pub returns-in-Some : goal.returns-in-Some
returns-in-Some c =
    c.len-in-Some.ensures
    ∙ ap (λ m. length (entries m)) c.in-Some.ensures
    ∙ ap (λ p. length (entries (standing c.args.self.now p))) (sym c.in-Inside.is)
