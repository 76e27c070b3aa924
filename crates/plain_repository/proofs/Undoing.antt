-- An operation that is recorded and undone leaves the workspace as it was.
use Rattle.std.proofs.Common.{◌≡◌, ◌-◌, List, [], ◌∷◌, ◌++◌, length, take, Option, None, Some, refl, sym, ◌∙◌, ap, arith, length-append}
use Rattle.model_state.specs.declared.operation.Operation.{Operation}
use Rattle.op_form.specs.declared.event.Event.TheVariants.{Edit, Undo}
use Rattle.plain_repository.specs.State.{Workspace, Composite as Open}
use Rattle.plain_repository.specs.Edits.{added, with_more}
use Rattle.plain_repository.specs.Local.{without_last}
use Rattle.plain_repository.specs.Events.{play}
use Rattle.plain_repository.specs.Laws.{UndoGivesBack}
use Rattle.plain_repository.proofs.Places.{of_number, is_of_number, same_number}

take_front : (os ys : List Operation) → take (length os) (os ++ ys) ≡ os
take_front [] ys = refl
take_front (o ∷ os) ys = ap (λ (l : List Operation). o ∷ l) (take_front os ys)

pub last_gone : (os : List Operation) (o : Operation) → take (length (os ++ o ∷ []) - 1) (os ++ o ∷ []) ≡ os
last_gone os o = let n : length (os ++ o ∷ []) - 1 ≡ length os = omega (arith, length-append os (o ∷ []))
    in ap (λ n. take n (os ++ o ∷ [])) n ∙ take_front os (o ∷ [])

undone : (w : Workspace) (o : Operation) → w.composite ≡ None → without_last (with_more (o ∷ []) w) ≡ w
undone w o is =
    ap (λ (c : Option Open). without_last (added (o ∷ []) c w)) is
    ∙ (λ i. record { branch = w.branch; base = w.base; operations = last_gone w.operations o i; composite = sym is i; pending = w.pending })

pub undo_gives_back : UndoGivesBack
unfolding play
undo_gives_back s ws w there closed o =
    let before : of_number s.workspaces ws ≡ Some w = sym (is_of_number s ws) ∙ there in
    let first = same_number (with_more (o ∷ [])) s.workspaces ws w before in
    is_of_number (play (play s (Edit ws (o ∷ []))) (Undo ws)) ws
    ∙ same_number without_last _ ws (with_more (o ∷ []) w) first
    ∙ ap Some (undone w o closed)
