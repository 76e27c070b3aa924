-- Each data type of Ecore is known by its name: the first that is equal decides.
use Rattle.std.proofs.Common.{◌≡◌, ◌∙◌, Bool, true, false, refl, sym}
use Rattle.std.specs.Prelude.{if◌then◌else◌}
use Rattle.ecore_drafts.specs.declared.drafts.Target.{Target}
use Rattle.ecore_drafts.proofs.drafts.ecore_scalar.Goals as goal

here : (b : Bool) (x y : Target) → true ≡ b → x ≡ (if b then x else y)
here true x y h = refl
here false x y h = cc

past : (b : Bool) (x y z : Target) → false ≡ b → z ≡ y → z ≡ (if b then x else y)
past true x y z h k = cc
past false x y z h k = k

pub returns-then-eq : goal.returns-then-eq
returns-then-eq c =
    here _ _ _ (sym c.if-eq.true ∙ c.eq.ensures)

pub returns-then-eq-2 : goal.returns-then-eq-2
returns-then-eq-2 c =
    past _ _ _ _ (sym c.if-eq.false ∙ c.eq.ensures)
    (here _ _ _ (sym c.if-eq-2.true ∙ c.eq-else-eq.ensures))

pub returns-then-eq-3 : goal.returns-then-eq-3
returns-then-eq-3 c =
    past _ _ _ _ (sym c.if-eq.false ∙ c.eq.ensures)
    (past _ _ _ _ (sym c.if-eq-2.false ∙ c.eq-else-eq.ensures)
    (here _ _ _ (sym c.if-eq-3.true ∙ c.eq-else-eq-2.ensures)))

pub returns-then-eq-4 : goal.returns-then-eq-4
returns-then-eq-4 c =
    past _ _ _ _ (sym c.if-eq.false ∙ c.eq.ensures)
    (past _ _ _ _ (sym c.if-eq-2.false ∙ c.eq-else-eq.ensures)
    (past _ _ _ _ (sym c.if-eq-3.false ∙ c.eq-else-eq-2.ensures)
    (here _ _ _ (sym c.if-eq-4.true ∙ c.eq-else-eq-3.ensures))))

pub returns-then-eq-5 : goal.returns-then-eq-5
returns-then-eq-5 c =
    past _ _ _ _ (sym c.if-eq.false ∙ c.eq.ensures)
    (past _ _ _ _ (sym c.if-eq-2.false ∙ c.eq-else-eq.ensures)
    (past _ _ _ _ (sym c.if-eq-3.false ∙ c.eq-else-eq-2.ensures)
    (past _ _ _ _ (sym c.if-eq-4.false ∙ c.eq-else-eq-3.ensures)
    (here _ _ _ (sym c.if-eq-5.true ∙ c.eq-else-eq-4.ensures)))))

pub returns-then-eq-6 : goal.returns-then-eq-6
returns-then-eq-6 c =
    past _ _ _ _ (sym c.if-eq.false ∙ c.eq.ensures)
    (past _ _ _ _ (sym c.if-eq-2.false ∙ c.eq-else-eq.ensures)
    (past _ _ _ _ (sym c.if-eq-3.false ∙ c.eq-else-eq-2.ensures)
    (past _ _ _ _ (sym c.if-eq-4.false ∙ c.eq-else-eq-3.ensures)
    (past _ _ _ _ (sym c.if-eq-5.false ∙ c.eq-else-eq-4.ensures)
    (here _ _ _ (sym c.if-eq-6.true ∙ c.eq-else-eq-5.ensures))))))

pub returns-else-eq-6 : goal.returns-else-eq-6
returns-else-eq-6 c =
    past _ _ _ _ (sym c.if-eq.false ∙ c.eq.ensures)
    (past _ _ _ _ (sym c.if-eq-2.false ∙ c.eq-else-eq.ensures)
    (past _ _ _ _ (sym c.if-eq-3.false ∙ c.eq-else-eq-2.ensures)
    (past _ _ _ _ (sym c.if-eq-4.false ∙ c.eq-else-eq-3.ensures)
    (past _ _ _ _ (sym c.if-eq-5.false ∙ c.eq-else-eq-4.ensures)
    (past _ _ _ _ (sym c.if-eq-6.false ∙ c.eq-else-eq-5.ensures)
    refl)))))
