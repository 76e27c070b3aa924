-- The last version on a branch.
use Rattle.std.proofs.Common.{◌≡◌, ◌≢◌, rules, ℕ, zero, suc, ◌+◌, ◌<◌, ◌≤◌, nat_eq, Bool, true, false, cond, List, [], ◌∷◌, ◌++◌, length, refl, ◌∙◌, ap, arith}
use Rattle.std.specs.Prelude.{All, Some, slice_get}
use Rattle.std.specs.Option.{option_map_or}
use Rattle.std.proofs.lemmas.Bool.{eqb-true}
use Rattle.std.proofs.lemmas.List.Elements.{All-head, All-tail}
use Rattle.history_tree.specs.declared.version.Version.{Version}
use Rattle.history_tree.specs.declared.version.Branch.{Branch}
use Rattle.history_tree.specs.History.{History, with_version, last_on, start_of, head}
use Rattle.history_tree.specs.Whole.{IsWhole}

-- one version more is the last, where it is on the branch
pub last_on_more : (branch : ℕ) (vs : List Version) (v : Version) (n found : ℕ)
    → last_on branch (vs ++ v ∷ []) n found ≡ cond (nat_eq v.branch branch) (n + length vs) (last_on branch vs n found)
last_on_more branch [] v n found = ap (λ k. cond (nat_eq v.branch branch) k found) (omega arith)
last_on_more branch (w ∷ vs) v n found =
    let next : ℕ = cond (nat_eq w.branch branch) n found in
    last_on_more branch vs v (suc n) next ∙ ap (λ k. cond (nat_eq v.branch branch) k (last_on branch vs (suc n) next)) (omega arith)

chosen_within : (b : Bool) (n m k : ℕ) → n < k → m < k → cond b n m < k
chosen_within true n m k first second = first
chosen_within false n m k first second = second

-- what is found is a version, where what was found before was one
pub last_on_within : (branch : ℕ) (vs : List Version) (n found most : ℕ) → found < most → n + length vs ≤ most → last_on branch vs n found < most
last_on_within branch [] n found most before within = before
last_on_within branch (v ∷ vs) n found most before within =
    last_on_within branch vs (suc n) (cond (nat_eq v.branch branch) n found) most
    (chosen_within (nat_eq v.branch branch) n found most (omega (arith, within)) before) (omega (arith, within))

start_within : (bs : List Branch) (k most : ℕ) → 0 < most → All (λ (b : Branch). b.start < most) bs
    → option_map_or (λ (b : Branch). b.start) (slice_get bs k) 0 < most
start_within [] k most some all = some
start_within (b ∷ bs) zero most some all = All-head (λ (b : Branch). b.start < most) b bs all
start_within (b ∷ bs) (suc k) most some all = start_within bs k most some (All-tail (λ (b : Branch). b.start < most) b bs all)

-- a head is a version
pub head_within : (h : History) (branch : ℕ) → IsWhole h → head h branch < length h.versions
head_within h branch whole =
    last_on_within branch h.versions 0 _ (length h.versions) (start_within h.branches branch (length h.versions) whole.some_version whole.starts) (omega arith)

pub same_number : (n : ℕ) → nat_eq n n ≡ true
same_number n = search rules

pub other_number : (n m : ℕ) → n ≢ m → nat_eq n m ≡ false
other_number n m apart = by (nat_eq n m) refl
  where
    by : (b : Bool) → nat_eq n m ≡ b → b ≡ false
    by true is = absurd (apart (eqb-true n m is))
    by false is = refl

-- one version more is the head of its branch
pub head_more : (h : History) (v : Version) → head (with_version h v) v.branch ≡ length h.versions
head_more h v =
    last_on_more v.branch h.versions v 0 (start_of h v.branch)
    ∙ ap (λ b. cond b (0 + length h.versions) (head h v.branch)) (same_number v.branch)
    ∙ omega arith

-- and leaves the other heads
pub head_other : (h : History) (v : Version) (branch : ℕ) → v.branch ≢ branch → head (with_version h v) branch ≡ head h branch
head_other h v branch apart =
    last_on_more branch h.versions v 0 (start_of h branch)
    ∙ ap (λ b. cond b (0 + length h.versions) (head h branch)) (other_number v.branch branch apart)

-- where no version is on the branch, what was found before stays
last_none : (branch : ℕ) (vs : List Version) (n found : ℕ) → ((u : ℕ) (x : Version) → slice_get vs u ≡ Some x → x.branch ≢ branch)
    → last_on branch vs n found ≡ found
last_none branch [] n found none = refl
last_none branch (w ∷ vs) n found none =
    ap (λ b. last_on branch vs (suc n) (cond b n found)) (other_number w.branch branch (none 0 w refl))
    ∙ last_none branch vs (suc n) found (λ u x there. none (suc u) x there)

-- a version on the branch is found, where none after it is on the branch
last_here : (branch : ℕ) (vs : List Version) (n found k : ℕ) (x : Version) → slice_get vs k ≡ Some x → x.branch ≡ branch
    → ((u : ℕ) (y : Version) → k < u → slice_get vs u ≡ Some y → y.branch ≢ branch) → last_on branch vs n found ≡ n + k
last_here branch [] n found k x there on later = absurd cc
last_here branch (w ∷ vs) n found zero x there on later =
    let same : w ≡ x = cc in
    let here : nat_eq w.branch branch ≡ true = ap (λ (y : Version). nat_eq y.branch branch) same ∙ ap (λ k. nat_eq k branch) on ∙ same_number branch in
    ap (λ b. last_on branch vs (suc n) (cond b n found)) here ∙ last_none branch vs (suc n) n (λ u y at. later (suc u) y (omega arith) at) ∙ omega arith
last_here branch (w ∷ vs) n found (suc k) x there on later =
    last_here branch vs (suc n) (cond (nat_eq w.branch branch) n found) k x there on (λ u y low at. later (suc u) y (omega (arith, low)) at) ∙ omega arith

-- the last version on a branch is its head
pub head_last : (h : History) (v : ℕ) (version : Version) → slice_get h.versions v ≡ Some version
    → ((u : ℕ) (x : Version) → v < u → slice_get h.versions u ≡ Some x → x.branch ≢ version.branch) → head h version.branch ≡ v
head_last h v version there later = last_here version.branch h.versions 0 (start_of h version.branch) v version there refl later ∙ omega arith

-- a branch without a version has its start as its head
pub head_start : (h : History) (branch : ℕ) → ((u : ℕ) (x : Version) → slice_get h.versions u ≡ Some x → x.branch ≢ branch) → head h branch ≡ start_of h branch
head_start h branch none = last_none branch h.versions 0 (start_of h branch) none
