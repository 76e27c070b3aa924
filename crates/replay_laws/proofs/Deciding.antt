-- The command that an event is made again by is answered with just that event, where the event could be made and the store has room.
use Rattle.std.proofs.Common.{◌≡◌, ℕ, zero, suc, ◌+◌, ◌^◌, ◌<◌, ◌≤◌, ◌&&◌, ◌||◌, not, List, [], ◌∷◌, length, nat_lt, nat_le, nat_eq, Bool, true}
use Rattle.std.proofs.Common.{false, Option, None, Some, is_none, is_some, cond, Result, Ok, Err, refl, sym, ap, subst, arith, if◌then◌else◌}
use Rattle.std.specs.Prelude.{slice_get, unwrap_or, is_ok}
use Rattle.std.specs.Fmt.{decimal}
use Rattle.std.specs.Option.{option_map_or}
use Rattle.std.proofs.lemmas.Bool.{ltb-true, eqb-true}
use Rattle.commit_journal.specs.Journal.{most_bytes}
use Rattle.ecore_meta.specs.Meta.{Meta}
use Rattle.ecore_json.specs.declared.fault.EcoreFault.{EcoreFault}
use Rattle.metamodel_growth.specs.Extension.{missing}
use Rattle.metamodel_growth.specs.Evolved.{evolved}
use Rattle.metamodel_growth.specs.Same.{is_same}
use Rattle.model_state.specs.Names.{is_name}
use Rattle.model_state.specs.declared.operation.Operation.{Operation}
use Rattle.footprint.specs.declared.bucket.Bucket.{Bucket}
use Rattle.merge_laws.specs.Choices.{are_choices}
use Rattle.merge_laws.specs.Tidy.{is_tidy}
use Rattle.history_tree.specs.declared.version.Version.{Version}
use Rattle.history_tree.specs.History.{head}
use Rattle.history_tree.specs.Found.{branch_name, has_tag, on_its_branch}
use Rattle.op_form.specs.declared.event.Event.{Event}
use Rattle.op_form.specs.declared.event.Event.TheVariants.{Init, Checkout, Edit, Begin, End, Undo, Discard, Tidy, Commit, Branch, Tag, Update, Merge}
use Rattle.op_form.specs.declared.event.Event.TheVariants.{Drop, Evolve, Upgrade, Signed}
use Rattle.op_form.specs.Events.{event_encoding}
use Rattle.op_form.specs.Formed.{is_event}
use Rattle.script_lang.specs.declared.command.Spec.TheVariants as specs
use Rattle.plain_repository.specs.State.{State, Workspace, model_of, is_open, is_closed, has_operations, has_local}
use Rattle.plain_repository.specs.Answers.{Decision, most_events, with_room, accepted, is_refusal}
use Rattle.plain_repository.specs.Metamodels.{with_metamodel, extension_of, extended, evolve_read}
use Rattle.plain_repository.specs.Checkouts.{decide_checkout, checkout_found, can_check_out, drop_in}
use Rattle.plain_repository.specs.Commits.{version_made, commit_in, signed_in, decide_upgrade, can_commit, branch_in, is_new_branch, decide_tag}
use Rattle.plain_repository.specs.Commits.{tag_found, can_tag}
use Rattle.plain_repository.specs.Composites.{begin_in, end_in}
use Rattle.plain_repository.specs.Local.{undo_in, can_undo, discard_in, can_discard}
use Rattle.plain_repository.specs.Tidying.{tidy_in, can_tidy}
use Rattle.plain_repository.specs.Edits.{can_follow}
use Rattle.plain_repository.specs.Applying.{load_package}
use Rattle.plain_repository.specs.Choices.{chosen}
use Rattle.plain_repository.specs.Merging.{update_buckets, update_in, update_to, can_update, merge_buckets, merge_in, merge_to, can_merge}
use Rattle.plain_repository.specs.Merging.{is_other_branch, has_theirs}
use Rattle.plain_repository.specs.Orderly.{HasNames}
use Rattle.plain_repository.proofs.Encodings.{and_left, and_right, not_so}
use Rattle.plain_repository.proofs.Loading.{load_follows}
use Rattle.plain_repository.proofs.Names.{branch_found}
use Rattle.replay_script.specs.Lines.{is_of_branch}

-- a decision is just that event, and no refusal
pub record Makes (decision : Decision) (event : Event) : Type 0 where
  pub makes : decision.event ≡ Some event
  pub accepts : is_refusal decision.reply ≡ false

-- the history and the store have room for the event
pub record HasRoom (s : State) (event : Event) : Type 0 where
  pub few : s.events < most_events
  pub formed : is_event event ≡ true
  pub short : length (event_encoding event) ≤ most_bytes
  pub room : s.end + length (event_encoding event) + 6 ≤ 2 ^ 40

in_room : (s : State) (lines : List (List ℕ)) (words : List ℕ) (event : Event) → HasRoom s event → with_room s lines words event ≡ accepted lines words event
unfolding with_room
in_room s lines words event has =
    let few : nat_le most_events s.events ≡ false = grind (arith, has.few) in
    let short : nat_lt most_bytes (length (event_encoding event)) ≡ false = grind (arith, has.short) in
    let room : nat_lt (2 ^ 40) (s.end + length (event_encoding event) + 6) ≡ false = grind (arith, has.room) in
    rw (few, has.formed, short, room) refl

made : (s : State) (lines : List (List ℕ)) (words : List ℕ) (event : Event) → HasRoom s event → Makes (with_room s lines words event) event
made s lines words event has = rw (in_room s lines words event has) (record { makes = refl; accepts = refl })

-- a list of letters as a last word: none where there is no letter
abbrev pub unless_empty : List ℕ → Option (List ℕ)
unless_empty [] = None
unless_empty (b ∷ bs) = Some (b ∷ bs)

pub word_back : (text : List ℕ) → unwrap_or (unless_empty text) [] ≡ text
word_back [] = refl
word_back (b ∷ bs) = refl

-- ---- one of two, by a test
if_so : {X : Type 0} (b : Bool) (P : X → Type 0) (x y : X) → b ≡ true → P x → P (if b then x else y)
if_so true P x y is p = p
if_so false P x y is p = absurd cc

if_not : {X : Type 0} (b : Bool) (P : X → Type 0) (x y : X) → b ≡ false → P y → P (if b then x else y)
if_not true P x y is p = absurd cc
if_not false P x y is p = p

-- ---- the metamodel
pub init_makes : (s : State) (text : List ℕ) (r : Result Meta EcoreFault) → HasRoom s (Init text) → is_ok r ≡ true → Makes (with_metamodel s text r) (Init text)
init_makes s text (Err fault) has is = absurd cc
init_makes s text (Ok meta) has is = made s [] [] (Init text) has

-- ---- a metamodel that is extended
pub evolve_makes : (s : State) (text : List ℕ) (old : Meta) (r : Result Meta EcoreFault) → HasRoom s (Evolve text) → is_some (extension_of old r) ≡ true
    → Makes (evolve_read s text old r) (Evolve text)
evolve_makes s text old (Err fault) has is = absurd cc
evolve_makes s text old (Ok next) has is = by (missing old next) (is_same old (evolved old next)) refl is
  where
    by : (name : Option (List ℕ)) (same : Bool) → is_same old (evolved old next) ≡ same
        → is_some (cond (is_none name && not same) (Some (evolved old next)) None) ≡ true → Makes (extended s text old next name) (Evolve text)
    by (Some name) same same_is is = absurd cc
    by None true same_is is = absurd cc
    by None false same_is is = if_not (is_same old (evolved old next)) (λ (d : Decision). Makes d (Evolve text)) _ _ same_is (made s [] [] (Evolve text) has)

-- ---- checkouts
own_version : (s : State) (meta : Meta) (version branch : ℕ) (o : Option Version) → slice_get s.history.versions version ≡ o
    → option_map_or (λ v. nat_eq v.branch branch) o false ≡ true
    → HasRoom s (Checkout version branch) → Makes (checkout_found s meta (on_its_branch version o)) (Checkout version branch)
own_version s meta version branch None is own has = absurd cc
own_version s meta version branch (Some v) is own has =
    subst (λ (b : ℕ). Makes (checkout_found s meta (Ok (record { version = version; branch = b }))) (Checkout version branch))
    (sym (eqb-true v.branch branch own)) (made s _ _ (Checkout version branch) has)

pub number_makes : (s : State) (meta : Meta) (version branch : ℕ) → is_of_branch s.history version branch ≡ true → HasRoom s (Checkout version branch)
    → Makes (decide_checkout s meta (specs.Number version)) (Checkout version branch)
unfolding decide_checkout
number_makes s meta version branch own has = own_version s meta version branch (slice_get s.history.versions version) refl own has

other_way : (a b : Bool) → a ≡ false → (a || b) ≡ true → b ≡ true
other_way true b first is = absurd cc
other_way false b first is = is

pub head_makes : (s : State) (meta : Meta) (version branch : ℕ) → HasNames s.history → can_check_out s.history version branch ≡ true
    → is_of_branch s.history version branch ≡ false
    → HasRoom s (Checkout version branch) → Makes (decide_checkout s meta (specs.Branch (branch_name s.history branch))) (Checkout version branch)
unfolding decide_checkout
head_makes s meta version branch named could own has =
    let h = s.history in
    let there : Bool = nat_lt version (length h.versions) && nat_lt branch (length h.branches) in
    let within = ltb-true branch (length h.branches) (and_right (nat_lt version (length h.versions)) (nat_lt branch (length h.branches))
    (and_left there (is_of_branch h version branch || nat_eq (head h branch) version) could)) in
    let at_head : head h branch ≡ version = eqb-true (head h branch) version
    (other_way (is_of_branch h version branch) (nat_eq (head h branch) version) own
    (and_right there (is_of_branch h version branch || nat_eq (head h branch) version) could)) in
    rw ((branch_found h named branch within).1, at_head) (made s _ _ (Checkout version branch) has)

pub drop_makes : (s : State) (ws : ℕ) (o : Option Workspace) → HasRoom s (Drop ws) → is_some o ≡ true → Makes (drop_in s ws o) (Drop ws)
drop_makes s ws None has is = absurd cc
drop_makes s ws (Some w) has is = made s [] [] (Drop ws) has

-- ---- composites
pub begin_makes : (s : State) (ws : ℕ) (name : List ℕ) (o : Option Workspace) → HasRoom s (Begin ws name) → is_closed o ≡ true
    → Makes (begin_in s ws name o) (Begin ws name)
begin_makes s ws name None has is = absurd cc
begin_makes s ws name (Some w) has is = rw (not_so (is_some w.composite) is) (made s [] [] (Begin ws name) has)

pub end_makes : (s : State) (ws : ℕ) (o : Option Workspace) → HasRoom s (End ws) → is_open o ≡ true → Makes (end_in s ws o) (End ws)
end_makes s ws None has is = absurd cc
end_makes s ws (Some w) has is = let open_is : is_some w.composite ≡ true = is in rw open_is (made s [] [] (End ws) has)

-- ---- what is local
pub undo_makes : (s : State) (ws : ℕ) (o : Option Workspace) → HasRoom s (Undo ws) → can_undo o ≡ true → Makes (undo_in s ws o) (Undo ws)
undo_makes s ws None has is = absurd cc
undo_makes s ws (Some w) has is =
    let closed = not_so (is_some w.composite) (and_left (is_closed (Some w)) (has_operations (Some w)) is) in
    let some : nat_lt 0 (length w.operations) ≡ true = and_right (is_closed (Some w)) (has_operations (Some w)) is in
    rw (closed, some) (made s [] [] (Undo ws) has)

pub discard_makes : (s : State) (ws : ℕ) (o : Option Workspace) → HasRoom s (Discard ws) → can_discard o ≡ true → Makes (discard_in s ws o) (Discard ws)
discard_makes s ws None has is = absurd cc
discard_makes s ws (Some w) has is = if_so (can_discard (Some w)) (λ (d : Decision). Makes d (Discard ws)) _ _ is (made s [] [] (Discard ws) has)

pub tidy_makes : (s : State) (meta : Meta) (ws : ℕ) (o : Option Workspace) → HasRoom s (Tidy ws) → can_tidy meta o ≡ true
    → Makes (tidy_in s meta ws o) (Tidy ws)
tidy_makes s meta ws None has is = absurd cc
tidy_makes s meta ws (Some w) has is =
    let closed = not_so (is_some w.composite) (and_left (is_closed (Some w)) (not (is_tidy meta w.operations)) is) in
    let untidy = not_so (is_tidy meta w.operations) (and_right (is_closed (Some w)) (not (is_tidy meta w.operations)) is) in
    if_not (is_some w.composite) (λ (d : Decision). Makes d (Tidy ws)) _ _ closed
    (if_not (is_tidy meta w.operations) (λ (d : Decision). Makes d (Tidy ws)) _ _ untidy (made s [] [] (Tidy ws) has))

-- ---- the history
version_makes : (s : State) (w : Workspace) (event : Event) → HasRoom s event → can_commit s.history (Some w) ≡ true → Makes (version_made s w event) event
version_makes s w event has is =
    let at_head : Bool = nat_eq w.base (head s.history w.branch) in
    let front = and_left (at_head && is_closed (Some w)) (has_local (Some w)) is in
    let now : at_head ≡ true = and_left at_head (is_closed (Some w)) front in
    let stale : not at_head ≡ false = ap not now in
    let closed = not_so (is_some w.composite) (and_right at_head (is_closed (Some w)) front) in
    let P : Decision → Type 0 = λ d. Makes d event in
    if_not (not at_head) P _ _ stale (if_not (is_some w.composite) P _ _ closed
    (if_so (has_local (Some w)) P _ _ (and_right (at_head && is_closed (Some w)) (has_local (Some w)) is) (made s _ _ event has)))

pub commit_makes : (s : State) (ws : ℕ) (message : List ℕ) (o : Option Workspace) → HasRoom s (Commit ws message) → not s.upgraded ≡ true
    → can_commit s.history o ≡ true → Makes (commit_in s ws message o) (Commit ws message)
commit_makes s ws message None has old is = absurd cc
commit_makes s ws message (Some w) has old is =
    if_not s.upgraded (λ (d : Decision). Makes d (Commit ws message)) _ _ (not_so s.upgraded old) (version_makes s w (Commit ws message) has is)

pub signed_makes : (s : State) (ws : ℕ) (author : List ℕ) (moment : ℕ) (message : List ℕ) (o : Option Workspace) → HasRoom s (Signed ws author moment message)
    → s.upgraded ≡ true → can_commit s.history o ≡ true → Makes (signed_in s ws author moment message o) (Signed ws author moment message)
signed_makes s ws author moment message None has new is = absurd cc
signed_makes s ws author moment message (Some w) has new is =
    let e = Signed ws author moment message in
    if_so s.upgraded (λ (d : Decision). Makes d e) _ _ new (version_makes s w e has is)

pub upgrade_makes : (s : State) → HasRoom s Upgrade → not s.upgraded ≡ true → Makes (decide_upgrade s) Upgrade
unfolding decide_upgrade
upgrade_makes s has old = if_not s.upgraded (λ (d : Decision). Makes d Upgrade) _ _ (not_so s.upgraded old) (made s [] [] Upgrade has)

pub branch_makes : (s : State) (ws : ℕ) (name : List ℕ) (o : Option Workspace) → HasRoom s (Branch ws name) → is_new_branch s.history name ≡ true
    → is_closed o ≡ true → Makes (branch_in s ws name o) (Branch ws name)
branch_makes s ws name None has new is = absurd cc
branch_makes s ws name (Some w) has new is =
    let P : Decision → Type 0 = λ d. Makes d (Branch ws name) in
    if_not (is_some w.composite) P _ _ (not_so (is_some w.composite) is) (if_so (is_new_branch s.history name) P _ _ new (made s [] [] (Branch ws name) has))

tag_is_found : (s : State) (name : List ℕ) (version : ℕ) (vs : List Version) (k : ℕ) → k < length vs → HasRoom s (Tag name version)
    → Makes (tag_found s name (on_its_branch version (slice_get vs k))) (Tag name version)
tag_is_found s name version [] k within has = absurd (omega (arith, within))
tag_is_found s name version (v ∷ vs) zero within has = made s [] [] (Tag name version) has
tag_is_found s name version (v ∷ vs) (suc k) within has = tag_is_found s name version vs k (omega (arith, within)) has

pub tag_makes : (s : State) (name : List ℕ) (version : ℕ) → HasRoom s (Tag name version) → can_tag s.history name version ≡ true
    → Makes (decide_tag s name (specs.Number version)) (Tag name version)
unfolding decide_tag
tag_makes s name version has is =
    let front = and_left (is_name name && not (has_tag s.history name)) (nat_lt version (length s.history.versions)) is in
    let new = not_so (has_tag s.history name) (and_right (is_name name) (not (has_tag s.history name)) front) in
    let within = ltb-true version (length s.history.versions)
    (and_right (is_name name && not (has_tag s.history name)) (nat_lt version (length s.history.versions)) is) in
    if_not (has_tag s.history name) (λ (d : Decision). Makes d (Tag name version)) _ _ new (tag_is_found s name version s.history.versions version within has)

-- ---- merging
-- choices that fit, and none where no bucket is, let the decision through
chosen_so : (rows : List Bucket) (letters : List ℕ) (d : Decision) (event : Event) → are_choices letters rows ≡ true → Makes d event
    → Makes (chosen rows (unless_empty letters) d) event
chosen_so [] [] d event fit is = is
chosen_so (row ∷ rows) [] d event fit is = absurd (none (length rows) fit)
  where
    none : (n : ℕ) → (nat_eq 0 (suc n) && true) ≡ true → ⊥
    none n e = let other : nat_eq 0 (suc n) ≡ false = grind arith in let f : (false && true) ≡ true = subst (λ (b : Bool). (b && true) ≡ true) other e in cc
chosen_so rows (b ∷ bs) d event fit is = if_so (are_choices (b ∷ bs) rows) (λ (x : Decision). Makes x event) _ _ fit is

pub update_makes : (s : State) (meta : Meta) (ws : ℕ) (letters : List ℕ) (o : Option Workspace) → HasRoom s (Update ws letters)
    → can_update meta s.history letters o ≡ true
    → Makes (update_in s meta ws (unless_empty letters) o) (Update ws letters)
update_makes s meta ws letters None has is = absurd cc
update_makes s meta ws letters (Some w) has is =
    let h = s.history in
    let same : Bool = nat_eq w.base (head h w.branch) in
    let rows = update_buckets meta h w in
    let front = and_left (is_closed (Some w) && not same) (are_choices letters rows) is in
    let closed = not_so (is_some w.composite) (and_left (is_closed (Some w)) (not same) front) in
    let apart = not_so same (and_right (is_closed (Some w)) (not same) front) in
    let fit = and_right (is_closed (Some w) && not same) (are_choices letters rows) is in
    let P : Decision → Type 0 = λ d. Makes d (Update ws letters) in
    if_not (is_some w.composite) P _ _ closed (chosen_so rows letters (update_to s ws w (unwrap_or (unless_empty letters) []) (head h w.branch))
    (Update ws letters) fit
    (if_not same P _ _ apart (subst (λ (l : List ℕ). Makes (with_room s [] (decimal (head h w.branch)) (Update ws l)) (Update ws letters))
    (sym (word_back letters)) (made s [] _ (Update ws letters) has))))

pub merge_makes : (s : State) (meta : Meta) (ws branch : ℕ) (letters : List ℕ) (o : Option Workspace) → HasNames s.history
    → HasRoom s (Merge ws branch letters) → can_merge meta s.history branch letters o ≡ true
    → Makes (merge_in s meta ws (branch_name s.history branch) (unless_empty letters) o) (Merge ws branch letters)
merge_makes s meta ws branch letters None named has is = absurd cc
merge_makes s meta ws branch letters (Some w) named has is =
    let h = s.history in
    let other = head h branch in
    let rows = merge_buckets meta h w other in
    let fits : Bool = are_choices letters rows in
    let more : Bool = has_theirs h w other in
    let apart : Bool = is_other_branch h w branch in
    let third = and_left (is_closed (Some w) && apart && more) fits is in
    let second = and_left (is_closed (Some w) && apart) more third in
    let closed = not_so (is_some w.composite) (and_left (is_closed (Some w)) apart second) in
    let there = and_right (is_closed (Some w)) apart second in
    let within = ltb-true branch (length h.branches) (and_left (nat_lt branch (length h.branches)) (not (nat_eq branch w.branch)) there) in
    let not_own = not_so (nat_eq branch w.branch) (and_right (nat_lt branch (length h.branches)) (not (nat_eq branch w.branch)) there) in
    let some = and_right (is_closed (Some w) && apart) more third in
    let fit = and_right (is_closed (Some w) && apart && more) fits is in
    let P : Decision → Type 0 = λ d. Makes d (Merge ws branch letters) in
    if_not (is_some w.composite) P _ _ closed (rw (branch_found h named branch within).1 (if_not (nat_eq branch w.branch) P _ _ not_own
    (chosen_so rows letters (merge_to s ws w branch (unwrap_or (unless_empty letters) []) other) (Merge ws branch letters) fit
    (if_so more P _ _ some (subst (λ (l : List ℕ). Makes (with_room s [] (decimal other) (Merge ws branch l)) (Merge ws branch letters))
    (sym (word_back letters)) (made s [] _ (Merge ws branch letters) has))))))

-- ---- edits
pub load_makes : (s : State) (meta : Meta) (ws : ℕ) (w : Workspace) (operations : List Operation) → HasRoom s (Edit ws operations)
    → can_follow meta s.history (Some w) operations ≡ true
    → Makes (load_package s meta ws w operations) (Edit ws operations)
load_makes s meta ws w operations has is = rw (load_follows s meta ws w operations is) (made s [] [] (Edit ws operations) has)
