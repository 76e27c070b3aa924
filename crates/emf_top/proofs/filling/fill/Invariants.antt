use Rattle.emf_top.proofs.Quietly.{Filling}
use Rattle.emf_top.proofs.filling.fill.Given as goal

abbrev pub invariant-items : goal.invariant-items
invariant-items g l = Filling (g.H.Host.told l.fn.host)
    (g.H.Host.told l.host) l.fn.session.state l.items l.item-index l.refused l.session.state l.session.broken
