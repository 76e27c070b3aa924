-- A creation without an id is answered as one with the fresh id.
use Rattle.std.proofs.lemmas.Bool.Decides.{nat_tests}
use Rattle.std.proofs.lemmas.Option.{same_Some}
use Rattle.std.proofs.Common.{◌≡◌, ◌&&◌, ◌||◌, ℕ, true, false, not, List, [], ◌∷◌, Option, Some, None, refl, sym, ap, ◌∙◌, subst, length, nat_le, nat_eq, arith}
use Rattle.std.specs.List.{list_all, list_any}
use Rattle.finite_maps.proofs.EqualLaws.{and_first, and_second}
use Rattle.ecore_meta.specs.Meta.{Meta}
use Rattle.model_state.specs.Ident.{is_id, is_id_byte, begins_as_id}
use Rattle.model_state.specs.State as models
use Rattle.edits.specs.FreshIds.{fresh_id}
use Rattle.edits.specs.declared.edit.Destination.{Destination}
use Rattle.edits.specs.declared.edit.Edit.TheVariants.{Create}
use Rattle.edits.specs.Edits.{effect_of, recorded_of}
use Rattle.edits.specs.Recording.{recorded}
use Rattle.script_lang.specs.declared.command.Command.{Command}
use Rattle.script_lang.specs.declared.command.Command.TheVariants as commands
use Rattle.script_lang.specs.Spelling.{IsCommand, IsWord}
use Rattle.script_lang.specs.Words.{is_space}
use Rattle.plain_repository.specs.State.{State, Workspace, workspace_of, model_of}
use Rattle.plain_repository.specs.Edits.{decide_edit, edit_in, edited}
use Rattle.plain_repository.specs.Repository.{decide_command, decide_with}
use Rattle.repo_state.specs.Working.{IsWorkingModel}
use Rattle.repo_answers.specs.Needs.{given_id, model_for, with_id}

-- ---- the fresh id as a word
no_space : (b : ℕ) → is_id_byte b ≡ true → is_space b ≡ false
no_space b h = apart b (and_first (nat_le 33 b) (nat_le b 126)
    (and_first (nat_le 33 b && nat_le b 126) (not (nat_eq b 34)) (and_first ((nat_le 33 b && nat_le b 126) && not (nat_eq b 34)) (not (nat_eq b 92)) h)))
  where
    apart : (b : ℕ) → nat_le 33 b ≡ true → nat_eq b 32 ≡ false
    apart b h = grind (arith, nat_tests)

spaceless : (word : List ℕ) → list_all is_id_byte word ≡ true → list_any is_space word ≡ false
spaceless [] all = refl
spaceless (b ∷ bs) all =
    ap (λ x. x || list_any is_space bs) (no_space b (and_first (is_id_byte b) (list_all is_id_byte bs) all))
    ∙ spaceless bs (and_second (is_id_byte b) (list_all is_id_byte bs) all)

pub id_is_word : (id : List ℕ) → is_id id ≡ true → IsWord id
id_is_word [] h = cc
id_is_word (b ∷ bs) h =
    let n = length (b ∷ bs) in (
      omega arith,
      spaceless (b ∷ bs)
          (and_second (nat_le 1 n && nat_le n 128) (list_all is_id_byte (b ∷ bs))
          (and_first ((nat_le 1 n && nat_le n 128) && list_all is_id_byte (b ∷ bs)) (begins_as_id (b ∷ bs)) h)),
    )

-- ---- the answer
edit_alike : (s : State) (meta : Meta) (k : ℕ) (class : List ℕ) (destination : Destination) (m : models.State) (o : Option Workspace)
    → ((w : Workspace) → o ≡ Some w → m ≡ model_of meta s.history w)
    → edit_in s meta k o (Create class destination (Some (fresh_id m k))) ≡ edit_in s meta k o (Create class destination None)
unfolding effect_of recorded_of
edit_alike s meta k class destination m None is = refl
edit_alike s meta k class destination m (Some w) is =
    ap (λ x. edited s k (recorded meta (model_of meta s.history w) k (Create class destination (Some (fresh_id x k))))) (is w refl)

with_alike : (s : State) (block : Option (List ℕ)) (k : ℕ) (class : List ℕ) (destination : Destination) (m : models.State) (o : Option Meta)
    → s.meta ≡ o → IsWorkingModel s k m
    → decide_with s o block (commands.Edit k (Create class destination (Some (fresh_id m k)))) ≡ decide_with s o block
    (commands.Edit k (Create class destination None))
unfolding decide_edit
with_alike s block k class destination m None begun model = refl
with_alike s block k class destination m (Some meta) begun model =
    edit_alike s meta k class destination m (workspace_of s k) (λ w there. (model meta w begun there).0)

pub decided_alike : (s : State) (block : Option (List ℕ)) (command : Command) (ws : ℕ) (m : models.State) → model_for command ≡ Some ws
    → IsWorkingModel s ws m → decide_command s block (with_id m command) ≡ decide_command s block command
unfolding decide_command
decided_alike s block (commands.Edit k (Create class destination None)) ws m needs model =
    with_alike s block k class destination m s.meta refl (subst (λ n. IsWorkingModel s n m) (sym (same_Some k ws needs)) model)
decided_alike s block command ws m needs model = refl

-- the command that it becomes needs the model of the same workspace
pub needs_alike : (m : models.State) (command : Command) → model_for (with_id m command) ≡ model_for command
needs_alike m (commands.Edit k (Create class destination None)) = refl
needs_alike m command = refl

-- a command in which a creation has another id is still one that a line can spell
pub given_spells : (id : List ℕ) (command : Command) → is_id id ≡ true → IsCommand command → IsCommand (given_id id command)
given_spells id (commands.Edit k (Create class destination old)) form spelled = (spelled.0, (spelled.1.0, spelled.1.1, id_is_word id form))
given_spells id command form spelled = spelled
