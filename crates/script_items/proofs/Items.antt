-- The next item of a script, by the line and the block that were read.
use Rattle.std.proofs.Common.{◌≡◌, ◌≢◌, ℕ, ◌+◌, length, List, [], true, false, Option, Some, None, Result, Ok, Err, refl, sym, ◌∙◌, ap, subst}
use Rattle.std.specs.List.{after_first, slice_split}
use Rattle.std.specs.Result.{IsErr, IsErrAnd}
use Rattle.host_port.specs.Cut.{Item, Script, script_from, with_item, next_line_of, cut_block, is_lf}
use Rattle.host_port.specs.Reads.{IsFault, EndsScript, GotLine, PastLine}
use Rattle.host_port.specs.declared.lines.LineFault.{LineFault}
use Rattle.host_port.specs.declared.lines.LineFault.TheVariants as faults
use Rattle.host_port.specs.declared.lines.Got.{Got}
use Rattle.host_port.specs.declared.lines.Got.TheVariants.{Line, End}
use Rattle.host_port.proofs.ScriptItems.{script_line, script_fault}
use Rattle.host_port.proofs.ScriptHeads.{script_block}
use Rattle.plain_repository.specs.Lines.{takes_block}
use Rattle.script_items.specs.Items.{GotItem}

-- a fault of the line ends the script
pub fault_ends_it : (fault : LineFault) (offset : ℕ) (unread : List ℕ) → IsFault fault (next_line_of offset unread)
    → EndsScript fault (script_from takes_block offset unread)
fault_ends_it (faults.LineTooLong at) offset unread is = script_fault takes_block offset unread (faults.LineTooLong at) is
fault_ends_it (faults.BlockTooLong at) offset unread is = script_fault takes_block offset unread (faults.BlockTooLong at) is
fault_ends_it (faults.NotText at) offset unread is = script_fault takes_block offset unread (faults.NotText at) is
fault_ends_it (faults.UnendedBlock at) offset unread is = script_fault takes_block offset unread (faults.UnendedBlock at) is
fault_ends_it (faults.InputTooLong at) offset unread is = script_fault takes_block offset unread (faults.InputTooLong at) is
fault_ends_it faults.Failed offset unread is = tt
fault_ends_it faults.Memory offset unread is = tt

got_line : (got : Got) (text : List ℕ) (read : Result (Option (List ℕ)) LineFault) → got ≢ End → GotLine (Ok got) text read → read ≡ Ok (Some text)
got_line Line text read not_end is = is
got_line End text read not_end is = absurd (not_end refl)

module _ (offset place' : ℕ) (unread unread' text line : List ℕ) (got : Got) (not_end : got ≢ End) (read : GotLine (Ok got) text (next_line_of offset unread))
    (past : PastLine unread unread' offset place') (line_is : line ≡ text) where
  next_is : next_line_of offset unread ≡ Ok (Some line)
  next_is = got_line got text (next_line_of offset unread) not_end read ∙ ap (λ (t : List ℕ). Ok (Some t)) (sym line_is)

  there : place' + length (after_first is_lf unread) ≡ offset + length unread
  there = subst (λ (u : List ℕ). place' + length u ≡ offset + length unread) past.unread past.offset

  -- the line takes no block
  pub plain_item : takes_block line ≡ false → script_from takes_block offset unread ≡ with_item line None (script_from takes_block place' unread')
  plain_item plain = script_line takes_block offset place' unread line next_is plain there
      ∙ ap (λ (u : List ℕ). with_item line None (script_from takes_block place' u)) (sym past.unread)

  -- the line takes a block
  pub block_item : takes_block line ≡ true
      → script_from takes_block offset unread ≡ cut_block takes_block line place' place' (Ok []) (slice_split is_lf unread')
  block_item takes = script_block takes_block offset place' unread line next_is takes there
      ∙ ap (λ (u : List ℕ). cut_block takes_block line place' place' (Ok []) (slice_split is_lf u)) (sym past.unread)

-- a call that failed by the fault got no item
pub got_fault : (result : Result (Option Item) LineFault) (fault : LineFault) (whole rest : Script) → IsErr result → IsErrAnd result (λ e. e ≡ fault)
    → EndsScript fault whole → GotItem result whole rest
got_fault (Ok item) fault whole rest is_err is ends = absurd cc
got_fault (Err e) fault whole rest is_err is ends = subst (λ (f : LineFault). EndsScript f whole) (sym is) ends
