-- Paths begin with version 0, rise, and end with their version.
use Rattle.std.proofs.Common.{◌≡◌, ℕ, zero, suc, ◌<◌, List, [], ◌∷◌, ◌++◌, length, get_or, refl, sym, ◌∙◌, ap, subst, arith}
use Rattle.std.specs.Prelude.{All, Option, None, Some, slice_get}
use Rattle.std.proofs.lemmas.List.Elements.{All-cons, All-head, All-tail, All-push, All-weaker}
use Rattle.std.proofs.lemmas.Option.{slice_get-get_or, slice_get_within}
use Rattle.history_tree.specs.declared.version.Version.{Version}
use Rattle.history_tree.specs.History.{History, first_version, path}
use Rattle.history_tree.specs.Whole.{ComesBefore, IsWhole}
use Rattle.history_tree.specs.Laws.{path_of_parent, Rises, LeadsTo}
use Rattle.history_tree.proofs.Paths.{get_left, path_by_parent, parent_before}

rises_push : (us : List ℕ) (v : ℕ) → Rises us → All (λ u. u < v) us → Rises (us ++ v ∷ [])
rises_push [] v rises below = (λ k d within. absurd (omega (arith, within)), tt)
rises_push (u ∷ us) v rises below =
    (All-push (λ w. u < w) us v rises.0 (All-head (λ w. w < v) u us below), rises_push us v rises.1 (All-tail (λ w. w < v) u us below))

-- the list leads to that version, and no number on it is greater
record Leading (v : ℕ) (us : List ℕ) : Type 0 where
  leads : LeadsTo v us
  below : All (λ u. u < suc v) us

alone : (v : ℕ) → v ≡ 0 → Leading v (v ∷ [])
alone v is = record {
  leads = record { first = ap Some is; rises = (λ k d within. absurd (omega (arith, within)), tt); last = ([], refl) };
  below = All-cons (λ u. u < suc v) v [] (omega arith) (λ k d within. absurd (omega (arith, within)));
}

-- what leads to a version leads on to each that comes after it
further : (p v : ℕ) (us : List ℕ) → p < v → Leading p us → Leading v (us ++ v ∷ [])
further p v us before more =
    let some : 0 < length us = slice_get_within us 0 0 more.leads.first in
    record {
      leads = record {
        first = get_left us (v ∷ []) 0 some ∙ more.leads.first;
        rises = rises_push us v more.leads.rises (All-weaker (λ u. u < suc p) (λ u. u < v) (λ u low. omega (arith, low, before)) us more.below);
        last = (us, refl);
      };
      below = All-push (λ u. u < suc v) us v (All-weaker (λ u. u < suc p) (λ u. u < suc v) (λ u low. omega (arith, low, before)) us more.below) (omega arith);
    }

-- by the parent, if there is one
by_parent : (h : History) (v : ℕ) (parent : Option ℕ) → ComesBefore parent v → ((p : ℕ) → p < v → Leading p (path h p))
    → Leading v (path_of_parent h parent ++ v ∷ [])
by_parent h v None is before = alone v is
by_parent h v (Some p) low before = further p v (path h p) low (before p low)

leading : (h : History) → IsWhole h → (n v : ℕ) → v < n → v < length h.versions → Leading v (path h v)
leading h whole zero v low there = absurd (omega (arith, low))
leading h whole (suc n) v low there =
    let version : Version = get_or h.versions v first_version in
    let at : slice_get h.versions v ≡ Some version = slice_get-get_or h.versions v first_version there in
    let before = parent_before 0 h.versions v v version whole.parents at (omega arith) in
    subst (λ us. Leading v us) (sym (path_by_parent h v version at before))
    (by_parent h v version.parent before (λ p under. leading h whole n p (omega (arith, low, under)) (omega (arith, under, there))))

-- no version on a path comes after its own
pub path_upto : (h : History) → IsWhole h → (v : ℕ) → v < length h.versions → All (λ u. u < suc v) (path h v)
path_upto h whole v there = (leading h whole (suc v) v (omega arith) there).below

pub path_leads : (h : History) → IsWhole h → (v : ℕ) → v < length h.versions → LeadsTo v (path h v)
path_leads h whole v there = (leading h whole (suc v) v (omega arith) there).leads
