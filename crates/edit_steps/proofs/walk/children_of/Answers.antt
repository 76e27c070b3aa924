use Rattle.std.proofs.Common.{◌≡◌, ℕ, Bool, true, false, ◌++◌, sym, ap, ◌∙◌, get_or, take}
use Rattle.std.specs.List.{filter}
use Rattle.std.proofs.lemmas.List.{take_all}
use Rattle.model_state.specs.declared.step.Place.TheVariants.{Inside}
use Rattle.model_state.specs.Listing.{children}
use Rattle.model_state.specs.Typing.{is_containment, kind_of}
use Rattle.edit_steps.specs.Subtree.{children_by, features_of}
use Rattle.edit_steps.proofs.Walks.{by_last, failing, passing}
use Rattle.edit_steps.proofs.walk.children_of.Goals as goal
use Rattle.edit_steps.proofs.walk.children_of.Goals.{then-is_containment+in_ok-push_children, else-is_containment}
use Rattle.edit_steps.specs.Standing.{ids_of}

pub loop-f-preserved : goal.loop-f-preserved
loop-f-preserved g c =
    let m = g.L.Look.state c.args.look.now in
    let meta = c.args.meta.now in
    let e = c.args.e.now in
    let fs = c.features_of-features.result.now in
    let i = c.loop-f.f-index in
    let f = get_or fs i 0 in
    let p : ℕ → Bool = λ n. is_containment (kind_of meta n) in
    elim c.if-is_containment.branch [
      | then-is_containment+in_ok-push_children w ↦
          let pass : p f ≡ true = sym c.is_containment.ensures ∙ w.if-is_containment.true in
          ap (λ v. v.items) w.found-is ∙ w.in_ok-push_children.ensures
          ∙ ap (λ l. l ++ ids_of (children m.place m.prank (Inside e f))) c.loop-f.invariant
          ∙ sym (ap (children_by m e) (passing p fs i pass c.loop-f-test.true) ∙ by_last m e (filter p (take i fs)) f)
      | else-is_containment w ↦
          let fail : p f ≡ false = sym c.is_containment.ensures ∙ w.if-is_containment.false in
          ap (λ v. v.items) w.found-is ∙ c.loop-f.invariant ∙ sym (ap (children_by m e) (failing p fs i fail c.loop-f-test.true))
    ]

pub returns : goal.returns
returns g c =
    let m = g.L.Look.state c.args.look.now in
    let p : ℕ → Bool = λ n. is_containment (kind_of c.args.meta.now n) in
    c.loop-f.invariant
    ∙ ap (λ fs. children_by m c.args.e.now (filter p fs)) (take_all c.loop-f.f-index c.features_of-features.result.now c.loop-f-test.false)
    ∙ ap (children_by m c.args.e.now) (c.features_of-features.ensures is_containment ∙ ap (features_of c.args.meta.now is_containment) c.class.ensures)
