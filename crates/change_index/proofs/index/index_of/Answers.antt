-- one version more
use Rattle.std.proofs.Common.{◌∙◌, sym, ap, [], ◌∷◌, ◌++◌}
use Rattle.change_index.specs.Written.{written}
use Rattle.change_index.proofs.Asking.{index_of-more}
use Rattle.change_index.proofs.index.index_of.Goals as goal

pub loop-v-preserved : goal.loop-v-preserved
loop-v-preserved c =
    c.in_ok-add.ensures.ok
    ∙ ap (λ l. l ++ written c.args.meta.now c.version.result.now.«package» ∷ []) c.loop-v.invariant
    ∙ sym (index_of-more c.args.meta.now c.args.history.now.history.versions c.loop-v.v c.version.result.now c.version.ensures.version)
