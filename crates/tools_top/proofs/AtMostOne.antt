-- The words ask for one thing at most.
use Rattle.std.proofs.Common.{◌≡◌, ℕ, List, sym, ◌∙◌, ap, subst}
use Rattle.std.specs.Prelude.{Option, None, Some}
use Rattle.std.proofs.lemmas.Option.{same_Some}
use Rattle.tool_requests.specs.declared.tool.Tool.{Tool}
use Rattle.tool_requests.specs.Words.{tool_in, AskFor, AskForReplay, AreBad}

-- what holds of it holds of whatever they ask for
pub for_each : (P : Tool → Type 0) (words : List (List ℕ)) (asked : Tool) → AskFor words asked → P asked → (tool : Tool) → AskFor words tool → P tool
for_each P words asked is holds tool also = subst P (same_Some asked tool (sym is ∙ also)) holds

-- bad words ask for nothing
pub none_asked : (words : List (List ℕ)) (tool : Tool) → AreBad words → AskFor words tool → ⊥
none_asked words tool bad asks = let both : None ≡ Some tool = sym bad.0 ∙ asks in cc

-- the word `replay` asks for no tool
pub no_tool : (words : List (List ℕ)) (tool : Tool) → AskForReplay words → AskFor words tool → ⊥
no_tool words tool replay asks = let both : None ≡ Some tool = sym (ap tool_in replay) ∙ asks in cc
