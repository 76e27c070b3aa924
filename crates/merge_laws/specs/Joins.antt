-- Equal steps, and one step in place of two.
use Rattle.std.specs.Prelude.{Bool, false, List, Option, None, Some, nat_eq, ◌&&◌, cond}
use Rattle.finite_maps.specs.Equal.{option_eq, list_eq, text_eq}
use Rattle.model_state.specs.declared.step.Step.{Step}
use Rattle.model_state.specs.declared.step.Step.TheVariants.{Put, Ins, Del, Shift, Link, Unlink, RerankRow, New, Gone, Move, RerankPlace}
use Rattle.model_state.specs.Typing.{value_eq}
use Rattle.model_state.specs.State.{place_eq}

-- equal steps: of one kind, with equal fields
abbrev pub step_eq : Step → Step → Bool
step_eq (Put e f old new) (Put e' f' old' new') = text_eq e e' && (nat_eq f f' && (option_eq value_eq old old' && option_eq value_eq new new'))
step_eq (Put e f old new) t = false
step_eq (Ins e f at v) (Ins e' f' at' v') = text_eq e e' && (nat_eq f f' && (nat_eq at at' && value_eq v v'))
step_eq (Ins e f at v) t = false
step_eq (Del e f at v) (Del e' f' at' v') = text_eq e e' && (nat_eq f f' && (nat_eq at at' && value_eq v v'))
step_eq (Del e f at v) t = false
step_eq (Shift e f from to) (Shift e' f' from' to') = text_eq e e' && (nat_eq f f' && (nat_eq from from' && nat_eq to to'))
step_eq (Shift e f from to) t = false
step_eq (Link a f ra b rb) (Link a' f' ra' b' rb') = text_eq a a' && (nat_eq f f' && (nat_eq ra ra' && (text_eq b b' && option_eq nat_eq rb rb')))
step_eq (Link a f ra b rb) t = false
step_eq (Unlink a f ra b rb) (Unlink a' f' ra' b' rb') = text_eq a a' && (nat_eq f f' && (nat_eq ra ra' && (text_eq b b' && option_eq nat_eq rb rb')))
step_eq (Unlink a f ra b rb) t = false
step_eq (RerankRow a f b old new) (RerankRow a' f' b' old' new') = text_eq a a' && (nat_eq f f' && (text_eq b b' && (nat_eq old old' && nat_eq new new')))
step_eq (RerankRow a f b old new) t = false
step_eq (New e class place rank) (New e' class' place' rank') = text_eq e e' && (nat_eq class class' && (place_eq place place' && nat_eq rank rank'))
step_eq (New e class place rank) t = false
step_eq (Gone e class place rank) (Gone e' class' place' rank') = text_eq e e' && (nat_eq class class' && (place_eq place place' && nat_eq rank rank'))
step_eq (Gone e class place rank) t = false
step_eq (Move e from from_rank to to_rank above_from above_to) (Move e' from' from_rank' to' to_rank' above_from' above_to') =
    text_eq e e' && (place_eq from
    from' && (nat_eq from_rank
    from_rank' && (place_eq to to' && (nat_eq to_rank to_rank' && (list_eq text_eq above_from above_from' && list_eq text_eq above_to above_to')))))
step_eq (Move e from from_rank to to_rank above_from above_to) t = false
step_eq (RerankPlace e old new) (RerankPlace e' old' new') = text_eq e e' && (nat_eq old old' && nat_eq new new')
step_eq (RerankPlace e old new) t = false

-- equal lists of steps
abbrev pub steps_eq : List Step → List Step → Bool
steps_eq = list_eq step_eq

-- One step in place of two that set one attribute, or give one reference or one element a new rank. It has the old value or rank
-- of the first, and the new one of the second.
abbrev pub joined : Step → Step → Option Step
joined (Put e f old mid) (Put e' f' mid' new) = cond (text_eq e e' && nat_eq f f') (Some (Put e f old new)) None
joined (Put e f old mid) t = None
joined (Ins e f at v) t = None
joined (Del e f at v) t = None
joined (Shift e f from to) t = None
joined (Link a f ra b rb) t = None
joined (Unlink a f ra b rb) t = None
joined (RerankRow a f b old mid) (RerankRow a' f' b' mid' new) = cond (text_eq a a' && (nat_eq f f' && text_eq b b')) (Some (RerankRow a f b old new)) None
joined (RerankRow a f b old mid) t = None
joined (New e class place rank) t = None
joined (Gone e class place rank) t = None
joined (Move e from from_rank to to_rank above_from above_to) t = None
joined (RerankPlace e old mid) (RerankPlace e' mid' new) = cond (text_eq e e') (Some (RerankPlace e old new)) None
joined (RerankPlace e old mid) t = None
