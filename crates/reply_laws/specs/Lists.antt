-- What the lists that are printed have: each of what they are of, in its order, and nothing else.
use Rattle.std.specs.Prelude.{◌≡◌, ◌≢◌, ◌↔◌, ℕ, ◌<◌, List, ◌∷◌, ◌++◌, true, length, slice_get, Contains, Option, None, Some}
use Rattle.std.specs.FinMap.{get}
use Rattle.std.specs.Fmt.{decimal}
use Rattle.std.specs.List.{list_all}
use Rattle.ecore_meta.specs.Meta.{Meta}
use Rattle.model_state.specs.Keys.{IdBytes}
use Rattle.model_state.specs.Listing.{ids}
use Rattle.model_state.specs.State as models
use Rattle.model_state.specs.declared.operation.Operation.{Operation}
use Rattle.history_tree.specs.declared.version.Version.{Version}
use Rattle.shown_lines.specs.Validation.{features_at, held_in, lower_of, shortage_line}
use Rattle.merge_laws.specs.Choices.{is_choice}
use Rattle.op_form.specs.declared.event.Event.TheVariants.{Edit}
use Rattle.script_lang.specs.declared.command.Command.{Command}
use Rattle.script_lang.specs.declared.command.Command.TheVariants as commands
use Rattle.script_lang.specs.declared.reply.Refusal.TheVariants as refusals
use Rattle.script_lang.specs.declared.reply.Last.TheVariants as last
use Rattle.plain_repository.specs.State.{State, Workspace, workspace_of, model_of}
use Rattle.plain_repository.specs.Events.{play}
use Rattle.plain_repository.specs.Repository.{decide_command}
use Rattle.plain_repository.specs.Laws.{IsPrefix}
use Rattle.plain_repository.specs.EffectLaws.{CouldBeIn}
use Rattle.reply_laws.specs.Again.{lines_of}

-- `log` prints a line for each version, in their order, and each begins with the version's number
pub record ListsVersions (s : State) (block : Option (List ℕ)) : Type 0 where
  pub count : length (lines_of s block commands.Log) ≡ length s.history.versions
  pub each : (n : ℕ) (version : Version) → slice_get s.history.versions n ≡ Some version
      → (rest : List ℕ) × (slice_get (lines_of s block commands.Log) n ≡ Some (decimal n ++ 32 ∷ rest))

abbrev pub LogsListVersions : Type 0
LogsListVersions = (s : State) (meta : Meta) → s.meta ≡ Some meta → (block : Option (List ℕ)) → ListsVersions s block

-- what is recorded where no composite is open comes after the lines that `changes` printed before
abbrev pub ChangesGrow : Type 0
ChangesGrow = (s : State) (meta : Meta) (ws : ℕ) (w : Workspace) (more : List Operation) → CouldBeIn s meta ws w (Edit ws more) → w.composite ≡ None
    → (block other : Option (List ℕ)) → IsPrefix (lines_of s block (commands.Changes ws)) (lines_of (play s (Edit ws more)) other (commands.Changes ws))

-- a feature of the element's class, of which the element holds less than the lower bound
pub record IsShort (meta : Meta) (m : models.State) (e : IdBytes) (f : ℕ) : Type 0 where
  pub element : Contains (ids m) e
  pub feature : Contains (features_at meta (get m.kind e)) f
  pub short : held_in meta m e f < lower_of meta f

-- `validate` prints the lines of just these
abbrev pub ValidateIsExact : Type 0
ValidateIsExact = (s : State) (meta : Meta) (ws : ℕ) (w : Workspace) → s.meta ≡ Some meta → workspace_of s ws ≡ Some w
    → (block : Option (List ℕ)) (line : List ℕ) → let m = model_of meta s.history w in
    Contains (lines_of s block (commands.Validate ws)) line ↔ ((e : IdBytes) × (f : ℕ) × IsShort meta m e f × (line ≡ shortage_line meta m e f))

-- A number of conflicts is that of the lines that are printed. So many letters, each `t` or `m`, are then no bad choice.
pub record AreCounted (s : State) (block : Option (List ℕ)) (n : ℕ) (command : Option (List ℕ) → Command) : Type 0 where
  pub lines : length (lines_of s block (command None)) ≡ n
  pub letters : (letters : List ℕ) → length letters ≡ n → list_all is_choice letters ≡ true → (a b : ℕ)
      → (decide_command s block (command (Some letters))).reply.last ≢ last.No (refusals.BadChoice a b)

-- so it is with `update` and with `merge`
pub record ConflictsAreCounted : Type 0 where
  pub updates : (s : State) (block : Option (List ℕ)) (ws n : ℕ)
      → (decide_command s block (commands.Update ws None)).reply.last ≡ last.No (refusals.Conflicts n) → AreCounted s block n (commands.Update ws)
  pub merges : (s : State) (block : Option (List ℕ)) (ws : ℕ) (name : List ℕ) (n : ℕ)
      → (decide_command s block (commands.Merge ws name None)).reply.last ≡ last.No (refusals.Conflicts n) → AreCounted s block n (commands.Merge ws name)
