-- What a command is answered where there is a metamodel, and what is said where nothing is refused.
use Rattle.std.proofs.Common.{◌≡◌, ℕ, nat_le, List, [], ◌∷◌, length, Bool, true, false, Option, None, Some, refl, sym, ◌∙◌, ap, subst}
use Rattle.std.specs.Prelude.{if◌then◌else◌}
use Rattle.std.proofs.lemmas.Option.{none-some}
use Rattle.commit_journal.specs.Journal.{fit_of}
use Rattle.commit_journal.specs.declared.fit.Fit.{Fit}
use Rattle.commit_journal.specs.declared.fit.Fit.TheVariants as fits
use Rattle.ecore_meta.specs.Meta.{Meta}
use Rattle.footprint.specs.declared.bucket.Bucket.{Bucket}
use Rattle.merge_laws.specs.Choices.{are_choices}
use Rattle.op_form.specs.declared.event.Event.{Event}
use Rattle.op_form.specs.Events.{event_encoding}
use Rattle.op_form.specs.Formed.{is_event}
use Rattle.script_lang.specs.declared.command.Command.{Command}
use Rattle.script_lang.specs.declared.reply.Refusal.{Refusal}
use Rattle.script_lang.specs.declared.reply.Last.TheVariants as last
use Rattle.plain_repository.specs.State.{State}
use Rattle.plain_repository.specs.Answers.{Decision, most_events, by_fit, with_room}
use Rattle.plain_repository.specs.Choices.{chosen}
use Rattle.plain_repository.specs.Repository.{decide_begun, decide_with, decide_command}

-- a command where there is a metamodel
pub decided : (s : State) (meta : Meta) → s.meta ≡ Some meta → (block : Option (List ℕ)) (command : Command)
    → decide_command s block command ≡ decide_begun s meta block command
unfolding decide_command
decided s meta begun block command = ap (λ (m : Option Meta). decide_with s m block command) begun

-- there is one where a command makes an event that makes none before
pub has_meta : (s : State) (block : Option (List ℕ)) (command : Command) (event : Event) → (decide_with s None block command).event ≡ None
    → (decide_command s block command).event ≡ Some event → (meta : Meta) × (s.meta ≡ Some meta)
unfolding decide_command
has_meta s block command event none made = by s.meta refl made
  where
    by : (m : Option Meta) → s.meta ≡ m → (decide_with s m block command).event ≡ Some event → (meta : Meta) × (s.meta ≡ Some meta)
    by None is made = absurd (none-some event (sym none ∙ made))
    by (Some meta) is made = (meta, is)

-- a reply ends with words or with a refusal
pub no_words : (refusal : Refusal) (words : List ℕ) → last.No refusal ≡ last.Ok words → ⊥
no_words refusal words is = cc

pub same_words : (words other : List ℕ) → last.Ok words ≡ last.Ok other → words ≡ other
same_words words other is = cc

-- what holds of the words of a reply, where it isn't a refusal
pub record Tells (P : List ℕ → Type 0) (d : Decision) : Type 0 where
  pub holds : (words : List ℕ) → d.reply.last ≡ last.Ok words → P words

module _ {P : List ℕ → Type 0} where
  pub refuses : {d : Decision} (refusal : Refusal) → d.reply.last ≡ last.No refusal → Tells P d
  refuses refusal says = record { holds = λ words is. absurd (no_words refusal words (sym says ∙ is)) }

  pub tells : {d : Decision} (words : List ℕ) → d.reply.last ≡ last.Ok words → P words → Tells P d
  tells words says p = record { holds = λ other is. subst P (same_words words other (sym says ∙ is)) p }

  pub unless : (b : Bool) {x y : Decision} → Tells P x → Tells P y → Tells P (if b then x else y)
  unless true first second = first
  unless false first second = second

  pub roomy : (s : State) (lines : List (List ℕ)) (words : List ℕ) (e : Event) → P words → Tells P (with_room s lines words e)
  unfolding with_room
  roomy s lines words e p = unless (nat_le most_events s.events) (refuses _ refl)
      (unless (is_event e) (by (fit_of s.end (length (event_encoding e)))) (refuses _ refl))
    where
      by : (fit : Fit) → Tells P (by_fit fit lines words e)
      by fits.Yes = tells words refl p
      by fits.TooLarge = refuses _ refl
      by fits.Full = refuses _ refl

  pub choosing : (rows : List Bucket) (letters : Option (List ℕ)) {d : Decision} → Tells P d → Tells P (chosen rows letters d)
  choosing [] None rest = rest
  choosing (b ∷ bs) None rest = refuses _ refl
  choosing [] (Some letters) rest = unless (are_choices letters []) rest (refuses _ refl)
  choosing (b ∷ bs) (Some letters) rest = unless (are_choices letters (b ∷ bs)) rest (refuses _ refl)
