-- The line of an event that could be made names versions and branches that are there.
use Rattle.std.proofs.Common.{◌≡◌, ◌&&◌, ◌||◌, not, nat_lt, nat_eq, length, true, Option, None, Some, refl}
use Rattle.std.proofs.lemmas.Bool.{lt-ltb}
use Rattle.ecore_meta.specs.Meta.{Meta}
use Rattle.model_state.specs.Names.{is_name}
use Rattle.history_tree.specs.History.{head}
use Rattle.history_tree.specs.Found.{has_tag}
use Rattle.op_form.specs.declared.event.Event.{Event}
use Rattle.op_form.specs.declared.event.Event.TheVariants.{Checkout, Tag, Merge}
use Rattle.plain_repository.specs.State.{State, workspace_of}
use Rattle.plain_repository.specs.Answers.{most_events, fits_record}
use Rattle.plain_repository.specs.Events.{playable, playable_with, suits}
use Rattle.plain_repository.proofs.Encodings.{and_left, and_right}
use Rattle.replay_script.specs.Lines.{is_of_branch}
use Rattle.replay_script.specs.Printable.{is_known}
use Rattle.replay_laws.specs.Remaking.{NothingIsUnknown}
use Rattle.replay_laws.proofs.Remade.{merge_branch_of}

known : (s : State) (m : Option Meta) (e : Event) → playable_with s m e ≡ true → is_known s.history e ≡ true
known s (Some meta) (Checkout version branch) could =
    let h = s.history in
    and_left (nat_lt version (length h.versions) && nat_lt branch (length h.branches)) (is_of_branch h version branch || nat_eq (head h branch) version) could
known s (Some meta) (Tag name version) could = and_right (is_name name && not (has_tag s.history name)) (nat_lt version (length s.history.versions)) could
known s (Some meta) (Merge ws branch letters) could = lt-ltb _ _ (merge_branch_of s meta branch letters (workspace_of s ws) could)
known s None (Checkout version branch) could = absurd cc
known s None (Tag name version) could = absurd cc
known s None (Merge ws branch letters) could = absurd cc
known s m e could = refl

pub nothing_is_unknown : NothingIsUnknown
unfolding playable
nothing_is_unknown s e could =
    known s s.meta e (and_right (nat_lt s.events most_events && fits_record e && suits s.upgraded e) (playable_with s s.meta e) could)
