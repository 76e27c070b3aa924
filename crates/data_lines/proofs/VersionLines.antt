-- The lines of versions, one more at a time.
use Rattle.std.proofs.Common.{◌≡◌, ℕ, suc, ◌+◌, List, [], ◌∷◌, ◌++◌, drop, sym, ◌∙◌, ap, append_assoc, add-one}
use Rattle.std.specs.Prelude.{Some, slice_get}
use Rattle.std.proofs.Math.Seq.{drop-cons}
use Rattle.std.proofs.lemmas.Option.{slice_get_within, get_or_from_slice_get}
use Rattle.history_tree.specs.declared.version.Version.{Version}
use Rattle.history_tree.specs.History.{History}
use Rattle.shown_lines.specs.Versions.{version_line, version_lines}

-- where a version is next
first_dropped : (vs : List Version) (n : ℕ) (v : Version) → slice_get vs n ≡ Some v → drop n vs ≡ v ∷ drop (suc n) vs
first_dropped vs n v there =
    drop-cons vs n v (slice_get_within vs n v there) ∙ ap (λ w. w ∷ drop (suc n) vs) (get_or_from_slice_get vs n v v there)

lines_next : (h : History) (n m : ℕ) (v : Version) → m ≡ suc n → slice_get h.versions n ≡ Some v
    → version_lines h n (drop n h.versions) ≡ version_line h n v ∷ version_lines h m (drop m h.versions)
lines_next h n m v is there =
    ap (λ vs. version_lines h n vs) (first_dropped h.versions n v there) ∙ ap (λ k. version_line h n v ∷ version_lines h k (drop k h.versions)) (sym is)

-- its line comes after those before it
pub next_line : (h : History) (n : ℕ) (v : Version) (lines : List (List ℕ)) → slice_get h.versions n ≡ Some v
    → lines ++ version_lines h n (drop n h.versions) ≡ version_lines h 0 h.versions
    → (lines ++ version_line h n v ∷ []) ++ version_lines h (n + 1) (drop (n + 1) h.versions) ≡ version_lines h 0 h.versions
next_line h n v lines there known =
    append_assoc lines (version_line h n v ∷ []) (version_lines h (n + 1) (drop (n + 1) h.versions))
    ∙ ap (λ l. lines ++ l) (sym (lines_next h n (n + 1) v (add-one n) there)) ∙ known
