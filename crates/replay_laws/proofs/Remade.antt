-- Each event that could be made and can be printed is made again by its item, where the store has room: one line an event.
use Rattle.std.proofs.Common.{◌≡◌, ℕ, zero, suc, ◌+◌, ◌^◌, ◌<◌, ◌≤◌, ◌&&◌, ◌||◌, not, List, [], ◌∷◌, length, nat_lt, nat_le, nat_eq, Bool, true}
use Rattle.std.proofs.Common.{false, Option, None, Some, is_some, refl, sym, subst, arith, codes}
use Rattle.std.specs.List.{AllByRecursion, list_all}
use Rattle.std.specs.Fmt.{decimal}
use Rattle.std.specs.Prelude.{IsTrue}
use Rattle.std.proofs.lemmas.Bool.{ltb-true, leb-true}
use Rattle.commit_journal.specs.Journal.{most_bytes}
use Rattle.hex.proofs.HexLemmas.{decode_of-encode_lower}
use Rattle.host_port.specs.Limits.{line_limit}
use Rattle.std.specs.Str.{IsUtf8}
use Rattle.ecore_meta.specs.Meta.{Meta}
use Rattle.ecore_json.specs.Metamodel.{metamodel_of}
use Rattle.model_state.specs.Names.{is_name}
use Rattle.model_state.specs.declared.operation.Operation.{Operation}
use Rattle.history_tree.specs.History.{History, head}
use Rattle.history_tree.specs.Found.{branch_name, has_tag}
use Rattle.merge_laws.specs.Choices.{are_choices, is_choice}
use Rattle.op_form.specs.declared.event.Event.{Event}
use Rattle.op_form.specs.declared.event.Event.TheVariants.{Init, Checkout, Edit, Begin, End, Undo, Discard, Tidy, Commit, Branch, Tag, Update, Merge}
use Rattle.op_form.specs.declared.event.Event.TheVariants.{Drop, Evolve, Upgrade, Signed}
use Rattle.op_form.specs.Formed.{IsPackage, is_event, is_package, is_u32}
use Rattle.op_form.specs.Events.{event_encoding}
use Rattle.op_form.specs.Packages.{package_encoding}
use Rattle.op_form.proofs.FormedLaws.{is_event_is}
use Rattle.op_reading.proofs.Codes.{whole_again}
use Rattle.op_reading.proofs.PackageCodes.{package_codes}
use Rattle.script_lang.specs.declared.command.Command.{Command}
use Rattle.script_lang.specs.declared.command.Command.TheVariants as commands
use Rattle.script_lang.specs.declared.command.Spec.{Spec}
use Rattle.script_lang.specs.declared.command.Spec.TheVariants as specs
use Rattle.script_lang.specs.Spelling.{IsWorkspace, IsSpec, spec_word, spaced}
use Rattle.plain_repository.specs.State.{State, Workspace, workspace_of, is_open, is_closed}
use Rattle.plain_repository.specs.Lines.{is_skipped, takes_block}
use Rattle.plain_repository.specs.Checkouts.{can_check_out, decide_checkout, decide_drop}
use Rattle.plain_repository.specs.Commits.{decide_commit, decide_signed, can_commit, decide_branch, is_new_branch, can_tag}
use Rattle.plain_repository.specs.Composites.{decide_begin, can_begin, decide_end}
use Rattle.plain_repository.specs.Edits.{can_follow}
use Rattle.plain_repository.specs.Local.{decide_undo, can_undo, decide_discard, can_discard}
use Rattle.plain_repository.specs.Metamodels.{decide_init, is_metamodel, decide_evolve, can_evolve}
use Rattle.plain_repository.specs.Tidying.{decide_tidy, can_tidy}
use Rattle.plain_repository.specs.Merging.{decide_update, can_update, update_buckets, decide_merge, can_merge, merge_buckets, is_other_branch, has_theirs}
use Rattle.plain_repository.specs.Answers.{most_events, fits_record}
use Rattle.plain_repository.specs.Events.{play, playable, playable_with, suits}
use Rattle.plain_repository.specs.Orderly.{HasNames, AllOrderly}
use Rattle.plain_repository.specs.Repository.{decide_with}
use Rattle.plain_repository.proofs.Encodings.{and_left, and_right, fitting, suiting}
use Rattle.plain_repository.proofs.Names.{branch_found}
use Rattle.replay_texts.specs.Texts.{breaks_line, breaks_block, digits_line}
use Rattle.replay_texts.proofs.Blocks.{texts_stand, packages_stand}
use Rattle.plain_repository.specs.Applying.{decide_load, load_in}
use Rattle.replay_script.specs.Lines.{is_of_branch, place_word, words_again, item_again}
use Rattle.replay_script.specs.Printable.{is_too_long, is_not_printable}
use Rattle.replay_laws.proofs.Quiet.{IsQuiet, quiet_number, quiet_name, quiet_letters, letters_word, quiet_line, quiet_moment, message_line}
use Rattle.replay_laws.proofs.Deciding.{Makes, HasRoom, init_makes, evolve_makes, number_makes, head_makes, drop_makes, begin_makes, end_makes}
use Rattle.replay_laws.proofs.Deciding.{undo_makes, discard_makes, tidy_makes, commit_makes, signed_makes, upgrade_makes, branch_makes, tag_makes}
use Rattle.replay_laws.proofs.Deciding.{update_makes, merge_makes, load_makes}
use Rattle.replay_laws.specs.Remaking.{Remakes, EventsAreMadeAgain}
use Rattle.replay_laws.proofs.Standing.{remade, remade_with}

-- ---- a workspace that is there has a number from 1
there : (test : Option Workspace → Bool) → test None ≡ false → (o : Option Workspace) → test o ≡ true → is_some o ≡ true
there test none None is = cc
there test none (Some w) is = refl

numbered : (s : State) (ws : ℕ) → is_some (workspace_of s ws) ≡ true → 1 ≤ ws
numbered s zero is = absurd cc
numbered s (suc n) is = omega arith

workspace : (s : State) (ws : ℕ) (test : Option Workspace → Bool) → test None ≡ false → test (workspace_of s ws) ≡ true → ws < 2 ^ 32 → IsWorkspace ws
workspace s ws test none is small = (numbered s ws (there test none (workspace_of s ws) is), small)

-- ---- lines that are short enough
within_line : (n : ℕ) → nat_lt line_limit n ≡ false → n ≤ line_limit
within_line n is = grind (arith, is)

neither : (a b : Bool) → (a || b) ≡ false → (a ≡ false) × (b ≡ false)
neither true b e = cc
neither false b e = (refl, e)

short_line : (h : History) (event : Event) → is_not_printable h event ≡ false → length (spaced (words_again h event)) ≤ line_limit
short_line h event is = within_line _ (neither _ _ is).1

abbrev pair : {a b : List ℕ} → IsQuiet a → IsQuiet b → AllByRecursion IsQuiet (a ∷ b ∷ [])
pair a b = (a, (b, tt))

abbrev triple : {a b c : List ℕ} → IsQuiet a → IsQuiet b → IsQuiet c → AllByRecursion IsQuiet (a ∷ b ∷ c ∷ [])
triple a b c = (a, (b, (c, tt)))

-- ---- letters of choices
letters_of : (s : State) (meta : Meta) (letters : List ℕ) (o : Option Workspace) → can_update meta s.history letters o ≡ true
    → list_all is_choice letters ≡ true
letters_of s meta letters None is = absurd cc
letters_of s meta letters (Some w) is =
    let rows = update_buckets meta s.history w in
    and_right (nat_eq (length letters) (length rows)) (list_all is_choice letters)
    (and_right (is_closed (Some w) && not (nat_eq w.base (head s.history w.branch))) (are_choices letters rows) is)

merge_letters_of : (s : State) (meta : Meta) (branch : ℕ) (letters : List ℕ) (o : Option Workspace) → can_merge meta s.history branch letters o ≡ true
    → list_all is_choice letters ≡ true
merge_letters_of s meta branch letters None is = absurd cc
merge_letters_of s meta branch letters (Some w) is =
    let rows = merge_buckets meta s.history w (head s.history branch) in
    and_right (nat_eq (length letters) (length rows)) (list_all is_choice letters)
    (and_right (is_closed (Some w) && is_other_branch s.history w branch && has_theirs s.history w (head s.history branch)) (are_choices letters rows) is)

pub merge_branch_of : (s : State) (meta : Meta) (branch : ℕ) (letters : List ℕ) (o : Option Workspace) → can_merge meta s.history branch letters o ≡ true
    → branch < length s.history.branches
merge_branch_of s meta branch letters None is = absurd cc
merge_branch_of s meta branch letters (Some w) is =
    let h = s.history in
    let more : Bool = has_theirs h w (head h branch) in
    let apart : Bool = is_other_branch h w branch in
    let third = and_left (is_closed (Some w) && apart && more) (are_choices letters (merge_buckets meta h w (head h branch))) is in
    ltb-true branch (length h.branches) (and_left (nat_lt branch (length h.branches)) (not (nat_eq branch w.branch))
    (and_right (is_closed (Some w)) apart (and_left (is_closed (Some w) && apart) more third)))

module _ (s : State) (meta : Meta) (begun : s.meta ≡ Some meta) (named : HasNames s.history) where
  -- what is decided by the metamodel
  by_meta : (command : Command) (event : Event) → Makes (decide_with s (Some meta) None command) event → Makes (decide_with s s.meta None command) event
  by_meta command event is = subst (λ (m : Option Meta). Makes (decide_with s m None command) event) (sym begun) is

  begin_again : (ws : ℕ) (name : List ℕ) → can_begin name (workspace_of s ws) ≡ true → ws < 2 ^ 32 → is_not_printable s.history (Begin ws name) ≡ false
      → HasRoom s (Begin ws name)
      → Remakes s (item_again s.history (Begin ws name)) (Begin ws name)
  unfolding is_skipped takes_block decide_begin
  begin_again ws name could small print room =
      let is = and_left (is_name name) (is_closed (workspace_of s ws)) could in
      let closed = and_right (is_name name) (is_closed (workspace_of s ws)) could in
      remade s (spaced (codes "begin" ∷ decimal ws ∷ name ∷ [])) (commands.Begin ws name) (Begin ws name)
      (quiet_line (codes "begin" ∷ decimal ws ∷ name ∷ []) (triple (record { all = refl }) (quiet_number ws small) (quiet_name name is))
      (short_line s.history (Begin ws name) print))
      (record { kept = refl; block = refl })
      (workspace s ws is_closed refl closed small, is) refl
      (by_meta (commands.Begin ws name) (Begin ws name) (begin_makes s ws name (workspace_of s ws) room closed))

  end_again : (ws : ℕ) → is_open (workspace_of s ws) ≡ true → ws < 2 ^ 32 → is_not_printable s.history (End ws) ≡ false → HasRoom s (End ws)
      → Remakes s (item_again s.history (End ws)) (End ws)
  unfolding is_skipped takes_block decide_end
  end_again ws could small print room =
      remade s (spaced (codes "end" ∷ decimal ws ∷ [])) (commands.End ws) (End ws)
      (quiet_line (codes "end" ∷ decimal ws ∷ []) (pair (record { all = refl }) (quiet_number ws small)) (short_line s.history (End ws) print))
      (record { kept = refl; block = refl })
      (workspace s ws is_open refl could small) refl
      (by_meta (commands.End ws) (End ws) (end_makes s ws (workspace_of s ws) room could))

  undo_again : (ws : ℕ) → can_undo (workspace_of s ws) ≡ true → ws < 2 ^ 32 → is_not_printable s.history (Undo ws) ≡ false → HasRoom s (Undo ws)
      → Remakes s (item_again s.history (Undo ws)) (Undo ws)
  unfolding is_skipped takes_block decide_undo
  undo_again ws could small print room =
      remade s (spaced (codes "undo" ∷ decimal ws ∷ [])) (commands.Undo ws) (Undo ws)
      (quiet_line (codes "undo" ∷ decimal ws ∷ []) (pair (record { all = refl }) (quiet_number ws small)) (short_line s.history (Undo ws) print))
      (record { kept = refl; block = refl })
      (workspace s ws can_undo refl could small) refl
      (by_meta (commands.Undo ws) (Undo ws) (undo_makes s ws (workspace_of s ws) room could))

  discard_again : (ws : ℕ) → can_discard (workspace_of s ws) ≡ true → ws < 2 ^ 32 → is_not_printable s.history (Discard ws) ≡ false → HasRoom s (Discard ws)
      → Remakes s (item_again s.history (Discard ws)) (Discard ws)
  unfolding is_skipped takes_block decide_discard
  discard_again ws could small print room =
      remade s (spaced (codes "discard" ∷ decimal ws ∷ [])) (commands.Discard ws) (Discard ws)
      (quiet_line (codes "discard" ∷ decimal ws ∷ []) (pair (record { all = refl }) (quiet_number ws small)) (short_line s.history (Discard ws) print))
      (record { kept = refl; block = refl })
      (workspace s ws can_discard refl could small) refl
      (by_meta (commands.Discard ws) (Discard ws) (discard_makes s ws (workspace_of s ws) room could))

  tidy_again : (ws : ℕ) → can_tidy meta (workspace_of s ws) ≡ true → ws < 2 ^ 32 → is_not_printable s.history (Tidy ws) ≡ false → HasRoom s (Tidy ws)
      → Remakes s (item_again s.history (Tidy ws)) (Tidy ws)
  unfolding is_skipped takes_block decide_tidy
  tidy_again ws could small print room =
      remade s (spaced (codes "tidy" ∷ decimal ws ∷ [])) (commands.Tidy ws) (Tidy ws)
      (quiet_line (codes "tidy" ∷ decimal ws ∷ []) (pair (record { all = refl }) (quiet_number ws small)) (short_line s.history (Tidy ws) print))
      (record { kept = refl; block = refl })
      (workspace s ws (can_tidy meta) refl could small) refl
      (by_meta (commands.Tidy ws) (Tidy ws) (tidy_makes s meta ws (workspace_of s ws) room could))

  drop_again : (ws : ℕ) → is_some (workspace_of s ws) ≡ true → ws < 2 ^ 32 → is_not_printable s.history (Drop ws) ≡ false → HasRoom s (Drop ws)
      → Remakes s (item_again s.history (Drop ws)) (Drop ws)
  unfolding is_skipped takes_block decide_drop
  drop_again ws could small print room =
      remade s (spaced (codes "drop" ∷ decimal ws ∷ [])) (commands.Drop ws) (Drop ws)
      (quiet_line (codes "drop" ∷ decimal ws ∷ []) (pair (record { all = refl }) (quiet_number ws small)) (short_line s.history (Drop ws) print))
      (record { kept = refl; block = refl })
      (numbered s ws could, small) refl
      (by_meta (commands.Drop ws) (Drop ws) (drop_makes s ws (workspace_of s ws) room could))

  branch_again : (ws : ℕ) (name : List ℕ) → (is_name name && is_new_branch s.history name && is_closed (workspace_of s ws)) ≡ true → ws < 2 ^ 32
      → is_not_printable s.history (Branch ws name) ≡ false → HasRoom s (Branch ws name)
      → Remakes s (item_again s.history (Branch ws name)) (Branch ws name)
  unfolding is_skipped takes_block decide_branch
  branch_again ws name could small print room =
      let front = and_left (is_name name && is_new_branch s.history name) (is_closed (workspace_of s ws)) could in
      let is = and_left (is_name name) (is_new_branch s.history name) front in
      let closed = and_right (is_name name && is_new_branch s.history name) (is_closed (workspace_of s ws)) could in
      remade s (spaced (codes "branch" ∷ decimal ws ∷ name ∷ [])) (commands.Branch ws name) (Branch ws name)
      (quiet_line (codes "branch" ∷ decimal ws ∷ name ∷ []) (triple (record { all = refl }) (quiet_number ws small) (quiet_name name is))
      (short_line s.history (Branch ws name) print))
      (record { kept = refl; block = refl })
      (workspace s ws is_closed refl closed small, is) refl
      (by_meta (commands.Branch ws name) (Branch ws name)
      (branch_makes s ws name (workspace_of s ws) room (and_right (is_name name) (is_new_branch s.history name) front) closed))

  tag_again : (name : List ℕ) (version : ℕ) → can_tag s.history name version ≡ true → version < 2 ^ 32
      → is_not_printable s.history (Tag name version) ≡ false → HasRoom s (Tag name version)
      → Remakes s (item_again s.history (Tag name version)) (Tag name version)
  unfolding is_skipped takes_block
  tag_again name version could small print room =
      let is = and_left (is_name name) (not (has_tag s.history name))
      (and_left (is_name name && not (has_tag s.history name)) (nat_lt version (length s.history.versions)) could) in
      remade s (spaced (codes "tag" ∷ name ∷ decimal version ∷ [])) (commands.Tag name (specs.Number version)) (Tag name version)
      (quiet_line (codes "tag" ∷ name ∷ decimal version ∷ []) (triple (record { all = refl }) (quiet_name name is) (quiet_number version small))
      (short_line s.history (Tag name version) print))
      (record { kept = refl; block = refl })
      (is, small) refl
      (by_meta (commands.Tag name (specs.Number version)) (Tag name version) (tag_makes s name version room could))

  -- the place of a checkout is one word: the version's number, or the branch's name
  place_again : (version branch : ℕ) (spec : Spec) → place_word s.history version branch ≡ spec_word spec → IsSpec spec → IsQuiet (spec_word spec)
      → is_not_printable s.history (Checkout version branch) ≡ false
      → Makes (decide_checkout s meta spec) (Checkout version branch) → Remakes s (item_again s.history (Checkout version branch)) (Checkout version branch)
  unfolding is_skipped takes_block
  place_again version branch spec word form quiet print makes =
      subst (λ (w : List ℕ). Remakes s (record { line = spaced (codes "checkout" ∷ w ∷ []); block = None }) (Checkout version branch)) (sym word)
      (remade s (spaced (codes "checkout" ∷ spec_word spec ∷ [])) (commands.Checkout spec) (Checkout version branch)
      (quiet_line (codes "checkout" ∷ spec_word spec ∷ []) (pair (record { all = refl }) quiet)
      (subst (λ (w : List ℕ). length (spaced (codes "checkout" ∷ w ∷ [])) ≤ line_limit) word (short_line s.history (Checkout version branch) print)))
      (record { kept = refl; block = refl })
      form refl
      (by_meta (commands.Checkout spec) (Checkout version branch) makes))

  checkout_again : (version branch : ℕ) → can_check_out s.history version branch ≡ true → version < 2 ^ 32
      → is_not_printable s.history (Checkout version branch) ≡ false → HasRoom s (Checkout version branch)
      → Remakes s (item_again s.history (Checkout version branch)) (Checkout version branch)
  checkout_again version branch could small print room = by (is_of_branch s.history version branch) refl
    where
      within : branch < length s.history.branches
      within =
          let h = s.history in
          ltb-true branch (length h.branches) (and_right (nat_lt version (length h.versions)) (nat_lt branch (length h.branches))
          (and_left (nat_lt version (length h.versions) && nat_lt branch (length h.branches))
          (is_of_branch h version branch || nat_eq (head h branch) version) could))

      by : (b : Bool) → is_of_branch s.history version branch ≡ b → Remakes s (item_again s.history (Checkout version branch)) (Checkout version branch)
      by true own =
          place_again version branch (specs.Number version) (rw own refl) small (quiet_number version small) print
          (number_makes s meta version branch own room)
      by false own =
          let is = (branch_found s.history named branch within).0 in
          place_again version branch (specs.Branch (branch_name s.history branch)) (rw own refl) is (quiet_name (branch_name s.history branch) is) print
          (head_makes s meta version branch named could own room)

  commit_again : (ws : ℕ) (message : List ℕ) → not s.upgraded ≡ true → can_commit s.history (workspace_of s ws) ≡ true → ws < 2 ^ 32 → IsUtf8 message
      → is_not_printable s.history (Commit ws message) ≡ false → HasRoom s (Commit ws message)
      → Remakes s (item_again s.history (Commit ws message)) (Commit ws message)
  unfolding is_skipped takes_block decide_commit
  commit_again ws [] old could small utf8 print room =
      remade s (spaced (codes "commit" ∷ decimal ws ∷ [])) (commands.Commit ws None) (Commit ws [])
      (quiet_line (codes "commit" ∷ decimal ws ∷ []) (pair (record { all = refl }) (quiet_number ws small)) (short_line s.history (Commit ws []) print))
      (record { kept = refl; block = refl })
      (workspace s ws (can_commit s.history) refl could small, tt) refl
      (by_meta (commands.Commit ws None) (Commit ws []) (commit_makes s ws [] (workspace_of s ws) room old could))
  commit_again ws (b ∷ bs) old could small utf8 print room =
      remade s (spaced (codes "commit" ∷ decimal ws ∷ (b ∷ bs) ∷ [])) (commands.Commit ws (Some (b ∷ bs))) (Commit ws (b ∷ bs))
      (message_line (codes "commit" ∷ decimal ws ∷ []) (b ∷ bs) (pair (record { all = refl }) (quiet_number ws small)) utf8
      (neither (breaks_line (b ∷ bs)) _ print).0 (short_line s.history (Commit ws (b ∷ bs)) print))
      (record { kept = refl; block = refl })
      (workspace s ws (can_commit s.history) refl could small, omega arith) refl
      (by_meta (commands.Commit ws (Some (b ∷ bs))) (Commit ws (b ∷ bs)) (commit_makes s ws (b ∷ bs) (workspace_of s ws) room old could))

  signed_again : (ws : ℕ) (author : List ℕ) (moment : ℕ) (message : List ℕ) → s.upgraded ≡ true
      → (is_name author && can_commit s.history (workspace_of s ws)) ≡ true
      → ws < 2 ^ 32 → moment < 2 ^ 64 → IsUtf8 message
      → is_not_printable s.history (Signed ws author moment message) ≡ false → HasRoom s (Signed ws author moment message)
      → Remakes s (item_again s.history (Signed ws author moment message)) (Signed ws author moment message)
  unfolding is_skipped takes_block decide_signed
  signed_again ws author moment [] new could small fits utf8 print room =
      let name = and_left (is_name author) (can_commit s.history (workspace_of s ws)) could in
      let can = and_right (is_name author) (can_commit s.history (workspace_of s ws)) could in
      remade s (spaced (codes "signed" ∷ decimal ws ∷ author ∷ decimal moment ∷ [])) (commands.Signed ws author moment None) (Signed ws author moment [])
      (quiet_line (codes "signed" ∷ decimal ws ∷ author ∷ decimal moment ∷ [])
      (record { all = refl }, (quiet_number ws small, (quiet_name author name, (quiet_moment moment fits, tt))))
      (short_line s.history (Signed ws author moment []) print))
      (record { kept = refl; block = refl })
      (workspace s ws (can_commit s.history) refl can small, name, fits, tt) refl
      (by_meta (commands.Signed ws author moment None) (Signed ws author moment []) (signed_makes s ws author moment [] (workspace_of s ws) room new can))
  signed_again ws author moment (b ∷ bs) new could small fits utf8 print room =
      let name = and_left (is_name author) (can_commit s.history (workspace_of s ws)) could in
      let can = and_right (is_name author) (can_commit s.history (workspace_of s ws)) could in
      let words : List (List ℕ) = codes "signed" ∷ decimal ws ∷ author ∷ decimal moment ∷ [] in
      remade s (spaced (codes "signed" ∷ decimal ws ∷ author ∷ decimal moment ∷ (b ∷ bs) ∷ [])) (commands.Signed ws author moment (Some (b ∷ bs)))
      (Signed ws author moment (b ∷ bs))
      (message_line words (b ∷ bs) (record { all = refl }, (quiet_number ws small, (quiet_name author name, (quiet_moment moment fits, tt)))) utf8
      (neither (breaks_line (b ∷ bs)) _ print).0 (short_line s.history (Signed ws author moment (b ∷ bs)) print))
      (record { kept = refl; block = refl })
      (workspace s ws (can_commit s.history) refl can small, name, fits, omega arith) refl
      (by_meta (commands.Signed ws author moment (Some (b ∷ bs))) (Signed ws author moment (b ∷ bs))
      (signed_makes s ws author moment (b ∷ bs) (workspace_of s ws) room new can))

  upgrade_again : not s.upgraded ≡ true → is_not_printable s.history Upgrade ≡ false → HasRoom s Upgrade → Remakes s (item_again s.history Upgrade) Upgrade
  unfolding is_skipped takes_block
  upgrade_again old print room =
      remade s (spaced (codes "upgrade" ∷ [])) commands.Upgrade Upgrade
      (quiet_line (codes "upgrade" ∷ []) (record { all = refl }, tt) (short_line s.history Upgrade print))
      (record { kept = refl; block = refl })
      tt refl
      (by_meta commands.Upgrade Upgrade (upgrade_makes s room old))

  evolve_again : (text : List ℕ) → can_evolve meta text ≡ true → IsUtf8 text → is_not_printable s.history (Evolve text) ≡ false → HasRoom s (Evolve text)
      → Remakes s (item_again s.history (Evolve text)) (Evolve text)
  unfolding is_skipped takes_block decide_evolve
  evolve_again text could utf8 print room =
      remade_with s (spaced (codes "evolve" ∷ [])) text commands.Evolve (Evolve text)
      (quiet_line (codes "evolve" ∷ []) (record { all = refl }, tt) (short_line s.history (Evolve text) print))
      (record { kept = refl; block = refl })
      tt refl
      (texts_stand text utf8 (neither (breaks_block text) _ print).0)
      (subst (λ (m : Option Meta). Makes (decide_with s m (Some text) commands.Evolve) (Evolve text)) (sym begun)
      (evolve_makes s text meta (metamodel_of text) room could))

  update_again : (ws : ℕ) (letters : List ℕ) → can_update meta s.history letters (workspace_of s ws) ≡ true → ws < 2 ^ 32
      → is_not_printable s.history (Update ws letters) ≡ false → HasRoom s (Update ws letters)
      → Remakes s (item_again s.history (Update ws letters)) (Update ws letters)
  unfolding is_skipped takes_block decide_update
  update_again ws [] could small print room =
      remade s (spaced (codes "update" ∷ decimal ws ∷ [])) (commands.Update ws None) (Update ws [])
      (quiet_line (codes "update" ∷ decimal ws ∷ []) (pair (record { all = refl }) (quiet_number ws small)) (short_line s.history (Update ws []) print))
      (record { kept = refl; block = refl })
      (workspace s ws (can_update meta s.history []) refl could small, tt) refl
      (by_meta (commands.Update ws None) (Update ws []) (update_makes s meta ws [] (workspace_of s ws) room could))
  update_again ws (b ∷ bs) could small print room =
      let letters = letters_of s meta (b ∷ bs) (workspace_of s ws) could in
      remade s (spaced (codes "update" ∷ decimal ws ∷ (b ∷ bs) ∷ [])) (commands.Update ws (Some (b ∷ bs))) (Update ws (b ∷ bs))
      (quiet_line (codes "update" ∷ decimal ws ∷ (b ∷ bs) ∷ []) (triple (record { all = refl }) (quiet_number ws small) (quiet_letters (b ∷ bs) letters))
      (short_line s.history (Update ws (b ∷ bs)) print))
      (record { kept = refl; block = refl })
      (workspace s ws (can_update meta s.history (b ∷ bs)) refl could small, letters_word b bs letters) refl
      (by_meta (commands.Update ws (Some (b ∷ bs))) (Update ws (b ∷ bs)) (update_makes s meta ws (b ∷ bs) (workspace_of s ws) room could))

  merge_again : (ws branch : ℕ) (letters : List ℕ) → can_merge meta s.history branch letters (workspace_of s ws) ≡ true → ws < 2 ^ 32
      → is_not_printable s.history (Merge ws branch letters) ≡ false → HasRoom s (Merge ws branch letters)
      → Remakes s (item_again s.history (Merge ws branch letters)) (Merge ws branch letters)
  unfolding is_skipped takes_block decide_merge
  merge_again ws branch [] could small print room =
      let name = branch_name s.history branch in
      let is = (branch_found s.history named branch (merge_branch_of s meta branch [] (workspace_of s ws) could)).0 in
      remade s (spaced (codes "merge" ∷ decimal ws ∷ name ∷ [])) (commands.Merge ws name None) (Merge ws branch [])
      (quiet_line (codes "merge" ∷ decimal ws ∷ name ∷ []) (triple (record { all = refl }) (quiet_number ws small) (quiet_name name is))
      (short_line s.history (Merge ws branch []) print))
      (record { kept = refl; block = refl })
      (workspace s ws (can_merge meta s.history branch []) refl could small, is, tt) refl
      (by_meta (commands.Merge ws name None) (Merge ws branch []) (merge_makes s meta ws branch [] (workspace_of s ws) named room could))
  merge_again ws branch (b ∷ bs) could small print room =
      let name = branch_name s.history branch in
      let is = (branch_found s.history named branch (merge_branch_of s meta branch (b ∷ bs) (workspace_of s ws) could)).0 in
      let letters = merge_letters_of s meta branch (b ∷ bs) (workspace_of s ws) could in
      remade s (spaced (codes "merge" ∷ decimal ws ∷ name ∷ (b ∷ bs) ∷ [])) (commands.Merge ws name (Some (b ∷ bs))) (Merge ws branch (b ∷ bs))
      (quiet_line (codes "merge" ∷ decimal ws ∷ name ∷ (b ∷ bs) ∷ [])
      (record { all = refl }, (quiet_number ws small, (quiet_name name is, (quiet_letters (b ∷ bs) letters, tt))))
      (short_line s.history (Merge ws branch (b ∷ bs)) print))
      (record { kept = refl; block = refl })
      (workspace s ws (can_merge meta s.history branch (b ∷ bs)) refl could small, is, letters_word b bs letters) refl
      (by_meta (commands.Merge ws name (Some (b ∷ bs))) (Merge ws branch (b ∷ bs)) (merge_makes s meta ws branch (b ∷ bs) (workspace_of s ws) named room could))

  -- the digits of the package, as one line of the block, are read as the package
  load_in_makes : (ws : ℕ) (operations : List Operation) (o : Option Workspace) → is_package operations ≡ true → IsPackage operations
      → can_follow meta s.history o operations ≡ true → HasRoom s (Edit ws operations)
      → Makes (load_in s meta ws o (digits_line (package_encoding operations))) (Edit ws operations)
  load_in_makes ws operations None formed is could room = absurd cc
  load_in_makes ws operations (Some w) formed is could room =
      let stands = packages_stand operations formed in
      rw (stands.line, decode_of-encode_lower (package_encoding operations) stands.bytes, whole_again package_codes operations is)
      (load_makes s meta ws w operations room could)

  edit_again : (ws : ℕ) (operations : List Operation) → is_package operations ≡ true → IsPackage operations
      → can_follow meta s.history (workspace_of s ws) operations ≡ true → ws < 2 ^ 32
      → is_too_long (Edit ws operations) ≡ false → is_not_printable s.history (Edit ws operations) ≡ false → HasRoom s (Edit ws operations)
      → Remakes s (item_again s.history (Edit ws operations)) (Edit ws operations)
  unfolding is_skipped takes_block decide_load
  edit_again ws operations formed is could small few print room =
      let wsp = workspace s ws (λ o. can_follow meta s.history o operations) refl could small in
      let text = digits_line (package_encoding operations) in
      remade_with s (spaced (codes "load" ∷ decimal ws ∷ [])) text (commands.Load ws) (Edit ws operations)
      (quiet_line (codes "load" ∷ decimal ws ∷ []) (pair (record { all = refl }) (quiet_number ws small)) (short_line s.history (Edit ws operations) print))
      (record { kept = refl; block = refl })
      wsp refl
      ((packages_stand operations formed).block (few_bytes (length (package_encoding operations)) few))
      (subst (λ (m : Option Meta). Makes (decide_with s m (Some text) (commands.Load ws)) (Edit ws operations)) (sym begun)
      (load_in_makes ws operations (workspace_of s ws) formed is could room))
    where
      few_bytes : (n : ℕ) → nat_lt 4194303 n ≡ false → n ≤ 4194303
      few_bytes n few = grind (arith, few)

  -- each event, where there is a metamodel
  begun_again : (e : Event) → is_event e ≡ true → suits s.upgraded e ≡ true → playable_with s (Some meta) e ≡ true → is_too_long e ≡ false
      → is_not_printable s.history e ≡ false
      → HasRoom s e → Remakes s (item_again s.history e) e
  unfolding is_event
  begun_again (Init text) formed suited could few print room = absurd cc
  begun_again (Checkout version branch) formed suited could few print room =
      checkout_again version branch could (is_event_is (Checkout version branch) formed).0 print room
  begun_again (Edit ws operations) formed suited could few print room =
      let is = is_event_is (Edit ws operations) formed in
      edit_again ws operations (and_right (is_u32 ws) (is_package operations) formed) is.1 could is.0 few print room
  begun_again (Begin ws name) formed suited could few print room = begin_again ws name could (is_event_is (Begin ws name) formed).0 print room
  begun_again (End ws) formed suited could few print room = end_again ws could (is_event_is (End ws) formed) print room
  begun_again (Undo ws) formed suited could few print room = undo_again ws could (is_event_is (Undo ws) formed) print room
  begun_again (Discard ws) formed suited could few print room = discard_again ws could (is_event_is (Discard ws) formed) print room
  begun_again (Tidy ws) formed suited could few print room = tidy_again ws could (is_event_is (Tidy ws) formed) print room
  begun_again (Commit ws message) formed suited could few print room =
      let is = is_event_is (Commit ws message) formed in commit_again ws message suited could is.0 is.1.1 print room
  begun_again (Branch ws name) formed suited could few print room = branch_again ws name could (is_event_is (Branch ws name) formed).0 print room
  begun_again (Tag name version) formed suited could few print room = tag_again name version could (is_event_is (Tag name version) formed).1 print room
  begun_again (Update ws letters) formed suited could few print room = update_again ws letters could (is_event_is (Update ws letters) formed).0 print room
  begun_again (Merge ws branch letters) formed suited could few print room =
      merge_again ws branch letters could (is_event_is (Merge ws branch letters) formed).0 print room
  begun_again (Drop ws) formed suited could few print room = drop_again ws could (is_event_is (Drop ws) formed) print room
  begun_again (Evolve text) formed suited could few print room = evolve_again text could (is_event_is (Evolve text) formed).1 print room
  begun_again Upgrade formed suited could few print room = upgrade_again suited print room
  begun_again (Signed ws author moment message) formed suited could few print room =
      let is = is_event_is (Signed ws author moment message) formed in
      signed_again ws author moment message suited could is.0 is.1.1.0 is.1.1.1.1 print room

-- the metamodel, where there is none
init_again : (s : State) (text : List ℕ) → s.meta ≡ None → is_metamodel text ≡ true → IsUtf8 text → is_not_printable s.history (Init text) ≡ false
    → HasRoom s (Init text)
    → Remakes s (item_again s.history (Init text)) (Init text)
unfolding is_skipped takes_block decide_init
init_again s text none could utf8 print room =
    remade_with s (spaced (codes "init" ∷ [])) text commands.Init (Init text)
    (quiet_line (codes "init" ∷ []) (record { all = refl }, tt) (short_line s.history (Init text) print))
    (record { kept = refl; block = refl })
    tt refl
    (texts_stand text utf8 (neither (breaks_block text) _ print).0)
    (subst (λ (m : Option Meta). Makes (decide_with s m (Some text) commands.Init) (Init text)) (sym none) (init_makes s text (metamodel_of text) room could))

-- each event that could be made
pub again : (s : State) (m : Option Meta) → s.meta ≡ m → AllOrderly m s → (e : Event) → is_event e ≡ true → suits s.upgraded e ≡ true
    → playable_with s m e ≡ true
    → is_too_long e ≡ false → is_not_printable s.history e ≡ false → HasRoom s e
    → Remakes s (item_again s.history e) e
again s None none order (Init text) formed suited could few print room = init_again s text none could (is_event_is (Init text) formed).1 print room
again s None none order (Checkout version branch) formed suited could few print room = absurd cc
again s None none order (Edit ws operations) formed suited could few print room = absurd cc
again s None none order (Begin ws name) formed suited could few print room = absurd cc
again s None none order (End ws) formed suited could few print room = absurd cc
again s None none order (Undo ws) formed suited could few print room = absurd cc
again s None none order (Discard ws) formed suited could few print room = absurd cc
again s None none order (Tidy ws) formed suited could few print room = absurd cc
again s None none order (Commit ws message) formed suited could few print room = absurd cc
again s None none order (Branch ws name) formed suited could few print room = absurd cc
again s None none order (Tag name version) formed suited could few print room = absurd cc
again s None none order (Update ws letters) formed suited could few print room = absurd cc
again s None none order (Merge ws branch letters) formed suited could few print room = absurd cc
again s None none order (Drop ws) formed suited could few print room = absurd cc
again s None none order (Evolve text) formed suited could few print room = absurd cc
again s None none order Upgrade formed suited could few print room = absurd cc
again s None none order (Signed ws author moment message) formed suited could few print room = absurd cc
again s (Some meta) begun order e formed suited could few print room = begun_again s meta begun order.names e formed suited could few print room

-- ---- room
-- the store ends behind the record of an event
pub next_end : (s : State) (event : Event) → (play s event).end ≡ s.end + 5 + length (event_encoding event)
unfolding play
next_end s event = refl

few : (s : State) (event : Event) → IsTrue (playable s event) → s.events < most_events
unfolding playable
few s event could =
    let room : Bool = nat_lt s.events most_events in
    ltb-true s.events most_events (and_left room (fits_record event) (and_left (room && fits_record event) (suits s.upgraded event)
    (and_left (room && fits_record event && suits s.upgraded event) (playable_with s s.meta event) could)))

with_meta : (s : State) (event : Event) → IsTrue (playable s event) → IsTrue (playable_with s s.meta event)
unfolding playable
with_meta s event could = and_right (nat_lt s.events most_events && fits_record event && suits s.upgraded event) (playable_with s s.meta event) could

has_room : (s : State) (event : Event) → IsTrue (playable s event) → (play s event).end < 2 ^ 40 → HasRoom s event
has_room s event could stored = record {
  few = few s event could;
  formed = and_left (is_event event) (nat_le (length (event_encoding event)) most_bytes) (fitting s event could);
  short =
      leb-true (length (event_encoding event)) most_bytes
      (and_right (is_event event) (nat_le (length (event_encoding event)) most_bytes) (fitting s event could));
  room = omega (arith, next_end s event, stored);
}

pub events_are_made_again : EventsAreMadeAgain
events_are_made_again s event may =
    let formed = and_left (is_event event) (nat_le (length (event_encoding event)) most_bytes) (fitting s event may.could) in
    again s s.meta refl may.orderly event formed (suiting s event may.could) (with_meta s event may.could) may.short may.printable
    (has_room s event may.could may.stored)
