-- Flags of versions, as they are set.
use Rattle.std.proofs.Common.{◌≡◌, ℕ, ◌+◌, ◌<◌, ◌≤◌, Bool, false, ◌||◌, List, [], length, take, get_or, arith, ap, sym, subst, ◌∙◌}
use Rattle.std.specs.Prelude.{All, Option, Some, slice_get, replicate}
use Rattle.std.specs.List.{filter}
use Rattle.std.specs.Option.{option_map_or}
use Rattle.std.proofs.Math.Bool.{or-false, or_assoc}
use Rattle.std.proofs.lemmas.List.{length-replicate, get_or-replicate, take_all}
use Rattle.std.proofs.lemmas.List.Elements.{All-weaker, All-get_or}
use Rattle.std.proofs.lemmas.List.Folds.{list_any_more}
use Rattle.std.proofs.lemmas.Option.{slice_get_within, get_or_from_slice_get}
use Rattle.history_tree.specs.declared.version.Version.{Version}
use Rattle.history_tree.specs.History.{History, path}
use Rattle.history_tree.specs.MergeBase.{is_among, is_merged_by, is_known, greatest, merge_base}
use Rattle.history_tree.specs.Marks.{is_flagged, Flagged, FlagsKnown}
use Rattle.history_tree.specs.Whole.{IsWhole}
use Rattle.history_tree.proofs.Greatest.{filter_same}
use Rattle.history_tree.proofs.Steady.{path_there}

-- a flag for each version, set for those on the path, those that are pending and those that the versions so far list as merged
pub record FlagsSoFar (h : History) (on pending so_far : List ℕ) (flags : List Bool) : Type 0 where
  pub size : length flags ≡ length h.versions
  pub known : (v : ℕ) → v < length h.versions → is_flagged flags v ≡ ((is_among on v || is_among pending v) || is_merged_by h so_far v)

-- by the flags the merge base is the last flagged version
pub base_by_flags : (h : History) (base : ℕ) (pending : List ℕ) (other : ℕ) (flags : List Bool) → FlagsKnown h base pending flags
    → greatest (filter (is_flagged flags) (path h other)) ≡ merge_base h base pending other
base_by_flags h base pending other flags known =
    ap greatest (filter_same (is_flagged flags) (is_known h base pending) (path h other)
    (All-weaker (λ u. u < length h.versions) (λ u. is_flagged flags u ≡ is_known h base pending u) known.known (path h other) (path_there h other)))

-- versions that are there have flags, where there are as many flags as versions
pub have_flags : (flags : List Bool) (n : ℕ) (versions : List ℕ) → length flags ≡ n → All (λ v. v < n) versions → All (λ v. v < length flags) versions
have_flags flags n versions size there = subst (λ k. All (λ v. v < k) versions) (sym size) there

-- what a version lists as merged is there
pub merged_there : (h : History) (v : ℕ) (version : Version) → IsWhole h → slice_get h.versions v ≡ Some version
    → All (λ u. u < length h.versions) version.merged
merged_there h v version whole is =
    subst (λ (w : Version). All (λ u. u < length h.versions) w.merged) (get_or_from_slice_get h.versions v version version is)
    (All-get_or (λ (w : Version). All (λ u. u < length h.versions) w.merged) h.versions v version (slice_get_within h.versions v version is) whole.merged)

-- of flags that are not set, those of the path are set and then the pending ones
pub flags_first : (h : History) (on pending : List ℕ) (n : ℕ) (unset some more : List Bool) → n ≡ length h.versions → unset ≡ replicate n false
    → Flagged unset some on → Flagged some more pending → FlagsSoFar h on pending [] more
flags_first h on pending n unset some more count none first second =
    let size : length unset ≡ length h.versions = ap length none ∙ length-replicate n false ∙ count in
    record {
      size = second.size ∙ first.size ∙ size;
      known = λ v within.
          second.flags v (omega (arith, within, size, first.size))
          ∙ ap (λ b. b || is_among pending v)
          (first.flags v (omega (arith, within, size)) ∙ ap (λ l. is_flagged l v || is_among on v) none
          ∙ ap (λ b. b || is_among on v) (get_or-replicate n v false false (omega (arith, within, count))))
          ∙ sym (or-false (is_among on v || is_among pending v));
    }

-- and then those that one version more lists as merged
pub flags_more : (h : History) (on pending versions : List ℕ) (i : ℕ) (version : Version) (flags more : List Bool) → i < length versions
    → slice_get h.versions (get_or versions i 0) ≡ Some version → FlagsSoFar h on pending (take i versions) flags → Flagged flags more version.merged
    → FlagsSoFar h on pending (take (i + 1) versions) more
flags_more h on pending versions i version flags more within is so_far set =
    let merges : ℕ → ℕ → Bool = λ v u. is_among (option_map_or (λ (w : Version). w.merged) (slice_get h.versions u) []) v in
    record {
      size = set.size ∙ so_far.size;
      known = λ v there.
          set.flags v (omega (arith, there, so_far.size))
          ∙ ap (λ b. b || is_among version.merged v) (so_far.known v there)
          ∙ or_assoc (is_among on v || is_among pending v) (is_merged_by h (take i versions) v) (is_among version.merged v)
          ∙ ap (λ b. (is_among on v || is_among pending v) || b)
          (ap (λ (o : Option Version). is_merged_by h (take i versions) v || is_among (option_map_or (λ (w : Version). w.merged) o []) v) (sym is)
          ∙ sym (list_any_more (merges v) versions i 0 within));
    }

-- past the last version of the path all flags are set
pub flags_all : (h : History) (base : ℕ) (pending on : List ℕ) (i : ℕ) (flags : List Bool) → on ≡ path h base → length on ≤ i
    → FlagsSoFar h on pending (take i on) flags → FlagsKnown h base pending flags
flags_all h base pending on i flags is past so_far =
    record {
      size = so_far.size;
      known = λ v there.
          so_far.known v there
          ∙ ap (λ l. (is_among on v || is_among pending v) || is_merged_by h l v) (take_all i on past)
          ∙ or_assoc (is_among on v) (is_among pending v) (is_merged_by h on v)
          ∙ ap (λ l. is_among l v || (is_among pending v || is_merged_by h l v)) is;
    }
