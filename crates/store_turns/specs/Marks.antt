-- Lines that an empty line is told from.
use Rattle.std.specs.Prelude.{◌≡◌, ℕ, ◌<◌, List, [], ◌∷◌, ◌++◌, All, length, false}
use Rattle.std.specs.List.{list_any}
use Rattle.host_port.specs.Cut.{Item, is_lf}
use Rattle.script_lang.specs.declared.reply.Refusal.{Refusal}
use Rattle.script_lang.specs.declared.reply.Refusal.TheVariants as refusals
use Rattle.script_lang.specs.declared.reply.Last.TheVariants as last
use Rattle.script_lang.specs.declared.reply.Reply.{Reply}
use Rattle.script_lang.specs.Reply.{last_line, printed, printed_lines}
use Rattle.access_rules.specs.declared.policy.Grant.{Grant}
use Rattle.plain_repository.specs.State.{State}
use Rattle.plain_repository.specs.Repository.{decide}
use Rattle.tool_requests.specs.Turns.{turn_refusal}
use Rattle.turn_frames.specs.Turns.{Turn}
use Rattle.store_session.specs.Tasks.{gated}
use Rattle.store_turns.specs.Laws.{run_of, turn_text}

-- a line: a byte at least, and no line feed
pub record IsLine (line : List ℕ) : Type 0 where
  pub some : 0 < length line
  pub whole : list_any is_lf line ≡ false

-- bytes that are lines, each with its line feed; none are such, too
pub record AreLines (bytes : List ℕ) : Type 0 where
  pub lines : List (List ℕ)
  pub each : All IsLine lines
  pub bytes_are : bytes ≡ printed_lines lines

-- the name that a refusal says, if it says one, has no line feed
abbrev pub NamesWhole : Refusal → Type 0
NamesWhole refusal = (name : List ℕ) → refusal ≡ refusals.NotExtension name → list_any is_lf name ≡ false

-- a refusal is said in a line
abbrev pub RefusalsAreLines : Type 0
RefusalsAreLines = (refusal : Refusal) → NamesWhole refusal → IsLine (last_line (last.No refusal))

-- a reply is lines where its data lines are, and its last one is
abbrev pub RepliesAreLines : Type 0
RepliesAreLines = (reply : Reply) → All IsLine reply.lines → IsLine (last_line reply.last) → AreLines (printed reply)

-- what a guard says in place of a command's reply is lines
abbrev pub GuardsSayLines : Type 0
GuardsSayLines = (grants : List Grant) (user : List ℕ) (s : State) (item : Item) → AreLines (decide s item).reply
    → AreLines (gated (turn_refusal grants user) s item).reply

-- a turn's text is lines and then an empty one, where its run's replies are lines
abbrev pub TurnsAreLines : Type 0
TurnsAreLines = (grants : List Grant) (s : State) (turn : Turn) → All (λ answer. AreLines answer.reply) (run_of grants s turn).answers
    → (lines : List (List ℕ)) × All IsLine lines × (turn_text (run_of grants s turn) ≡ printed_lines lines ++ 10 ∷ [])

-- the first empty line is where lines end, whatever they are and whatever comes after
abbrev pub MarksAreFound : Type 0
MarksAreFound = (one other : List (List ℕ)) (rest after : List ℕ) → All IsLine one → All IsLine other
    → printed_lines one ++ 10 ∷ rest ≡ printed_lines other ++ 10 ∷ after → (one ≡ other) × (rest ≡ after)
