use Rattle.std.proofs.Common.{◌≡◌, false, cond, sym, ap, subst, ◌∙◌, arith, length, IfOk, Ok, Err, inr}
use Rattle.std.specs.Prelude.{Result, Some, unwrap_or}
use Rattle.std.specs.FinMap.{get}
use Rattle.model_state.specs.declared.step.Place.TheVariants.{Root}
use Rattle.model_state.specs.Chains.{IsChain}
use Rattle.model_state.specs.Listing.{children}
use Rattle.model_state.specs.State.{place_eq}
use Rattle.model_state.specs.Steps.{may_move}
use Rattle.edit_steps.specs.Places.{move_to_made, move_within_made}
use Rattle.edit_steps.specs.References.{without_entry}
use Rattle.edit_steps.specs.Moves.{IsMove}
use Rattle.edit_steps.specs.MoveRefusals.{place_of}
use Rattle.edit_steps.proofs.Containers.{has_chain, parent_live}
use Rattle.edit_steps.proofs.PlaceRefusals.{no_class}
use Rattle.edit_steps.proofs.moves.move_steps.Goals as goal

if_ok : {A E : Type 0} (r : Result A E) (P Q : A → Type 0) → ((x : A) → P x → Q x) → IfOk r P → IfOk r Q
if_ok (Ok x) P Q h p = h x p
if_ok (Err e) P Q h p = p

pub returns-then-not-may_move-clause-refused : goal.returns-then-not-may_move-clause-refused
returns-then-not-may_move-clause-refused g c =
    let m = g.L.Look.state c.args.look.now in
    let meta = c.args.meta.now in
    let above = has_chain meta m c.requires.good c.args.to.now (parent_live meta m c.requires.good c.args.to.now c.requires.place) in
    let may : may_move meta m (get m.kind c.args.e.now) c.args.to.now ≡ false = grind (arith, c.may_move.ensures, c.class.ensures, c.if-not-may_move.true) in
    inr (record { down = above.0; above_to = above.1; first_is = no_class meta m c.args.e.now c.args.to.now above.0 c.args.at may })

pub chain-requires : goal.chain-requires
chain-requires g c =
    let m = g.L.Look.state c.args.look.now in
    record { ends = has_chain c.args.meta.now m c.requires.good c.args.to.now (parent_live c.args.meta.now m c.requires.good c.args.to.now c.requires.place) }

pub returns-clause-made : goal.returns-clause-made
returns-clause-made g c =
    let m = g.L.Look.state c.args.look.now in
    let e = c.args.e.now in
    let to = c.args.to.now in
    let xs = children m.place m.prank to in
    let k = unwrap_or c.args.at (length xs) in
    let up = c.in_ok-above_from.above_from in
    let down = c.in_ok-above_to.above_to in
    let from : c.in-Some.from.now.place ≡ place_of m e = ap (λ o. unwrap_or o Root) c.in-Some.ensures.place in
    let same : place_eq (place_of m e) to ≡ false = ap (λ p. place_eq p to) (sym from) ∙ sym c.is_same.ensures ∙ c.if-is_same.false in
    if_ok c.move_to.result _ (λ s. IsMove m e to c.args.at s) (λ s made. record {
      up = up;
      above_from = subst (λ p. IsChain m.place (Some p) up) from c.in_ok-above_from.ensures.chain;
      down = down;
      above_to = c.in_ok-above_to.ensures.chain;
      made =
          made ∙ (λ i. move_to_made m e (from i) to k up down)
          ∙ sym (ap (λ b. cond b (move_within_made m e to (unwrap_or c.args.at (length (without_entry e xs))))
          (move_to_made m e (place_of m e) to k up down)) same);
    }) c.move_to.ensures.made
