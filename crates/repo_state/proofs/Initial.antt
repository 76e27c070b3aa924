-- The first event.
use Rattle.std.proofs.Common.{◌≡◌, ◌∙◌, Bool, ℕ, List, [], ◌∷◌, map, Option, Some, None, Result, Ok, is_ok, is_some, false, refl, sym, ap, subst}
use Rattle.std.proofs.lemmas.List.Elements.{All-nil}
use Rattle.ecore_meta.specs.Meta.{Meta}
use Rattle.ecore_json.specs.Metamodel.{metamodel_of}
use Rattle.ecore_json.specs.declared.fault.EcoreFault.{EcoreFault}
use Rattle.history_tree.specs.History.{History, first_history}
use Rattle.op_form.specs.declared.event.Event.TheVariants.{Init}
use Rattle.op_form.specs.Formed.{IsEvent}
use Rattle.plain_repository.specs.State.{State}
use Rattle.plain_repository.specs.Events.{effect}
use Rattle.plain_repository.specs.Metamodels.{meta_of_read}
use Rattle.plain_repository.specs.Orderly.{AllOrderly, IsOrderly}
use Rattle.plain_repository.proofs.Kept.{effect_keeps}
use Rattle.repo_state.specs.declared.repo.Begun.{Begun}
use Rattle.repo_state.specs.declared.workspace.Workspace.{Workspace as Kept}
use Rattle.repo_state.specs.Keeping.{AllFit, FitsAny, meta_of, upgraded_of, plain_any}
use Rattle.repo_state.proofs.Changing.{held}
use Rattle.repo_state.proofs.Effects.{meta_in}

pub none_of : {X : Type 0} (o : Option X) → is_some o ≡ false → o ≡ None
none_of None none = refl
none_of (Some x) none = absurd cc

module _ (b : Option Begun) (ws : List (Option Kept)) (events end : ℕ) (s : State) (text : List ℕ) (new : Begun)
    (view : held b (map plain_any ws) events end ≡ s) (none : b ≡ None) (orderly : IsOrderly s) (read : metamodel_of text ≡ Ok new.meta)
    (first : new.history.history ≡ first_history) (fresh : new.upgraded ≡ false) where
  no_meta : s.meta ≡ None
  no_meta = sym (ap meta_in view) ∙ ap meta_of none

  pub begin_done : held (Some new) (map plain_any ws) events end ≡ effect s (Init text)
  begin_done =
      ap (λ (m : Option Meta).
      record { meta = m; history = new.history.history; workspaces = map plain_any ws; upgraded = new.upgraded; events = events; end = end })
      (sym (ap meta_of_read read))
      ∙ ap (λ (h : History).
      record {
        meta = meta_of_read (metamodel_of text);
        history = h;
        workspaces = map plain_any ws;
        upgraded = new.upgraded;
        events =
            events;
        end = end;
      }) first
      ∙ ap (λ (u : Bool). record {
        meta = meta_of_read (metamodel_of text);
        history = first_history;
        workspaces = map plain_any ws;
        upgraded =
            u;
        events = events;
        end = end;
      }) (fresh ∙ sym (ap upgraded_of none))
      ∙ ap (λ (t : State). record t { meta = meta_of_read (metamodel_of text); history = first_history }) view

  no_workspace : map plain_any ws ≡ []
  no_workspace = ap (λ (t : State). t.workspaces) view ∙ (subst (λ (m : Option Meta). AllOrderly m s) no_meta orderly).0

  none_fit : (l : List (Option Kept)) → map plain_any l ≡ [] → AllFit (Some new) l
  none_fit [] is = All-nil (FitsAny new.meta new.history.history)
  none_fit (w ∷ l) is = absurd cc

  pub begin_fit : AllFit (Some new) ws
  begin_fit = none_fit ws no_workspace

  pub begin_orderly : IsEvent (Init text) → IsOrderly (held (Some new) (map plain_any ws) events end)
  begin_orderly spelled =
      subst IsOrderly (sym begin_done)
      (effect_keeps s None (Init text) no_meta (ap (λ (r : Result Meta EcoreFault). is_ok r) read) spelled
      (subst (λ (m : Option Meta). AllOrderly m s) no_meta orderly))
