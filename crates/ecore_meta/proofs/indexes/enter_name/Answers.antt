use Rattle.std.specs.BTreeMap.{get_by_text}
use Rattle.ecore_meta.proofs.IndexLaws.{entered_own}
use Rattle.ecore_meta.proofs.indexes.enter_name.Goals as goal

pub returns-then-eq : goal.returns-then-eq
returns-then-eq c = λ q. entered_own (get_by_text c.args.index.now) c.args.literal.now.name c.args.literal.now.text q c.args.number c.if-eq.ensures c.requires
