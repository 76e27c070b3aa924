-- What is asked for of the bytes that were read ahead.
use Rattle.std.proofs.Common.{◌≡◌, ℕ, ◌+◌, ◌-◌, ◌≤◌, List, take, drop, sym, ◌∙◌, ap, arith, drop-drop}
use Rattle.std.proofs.lemmas.List.{drop-take, take-take}
use Rattle.std.specs.Prelude.{IsTrue}
use Rattle.host_port.specs.Host.{Told, Disk, disk_now}
use Rattle.host_port.proofs.Course.{told_next, kept_now}
use Rattle.system_port.specs.Stays.{Stays}
use Rattle.file_host.specs.Counting.{HasBytes}

-- a part of the first so many is that part of them all
within : (l : List ℕ) (skipped size count : ℕ) → skipped + size ≤ count → take size (drop skipped (take count l)) ≡ take size (drop skipped l)
within l skipped size count fits =
    let whole : count ≡ skipped + (count - skipped) = omega (arith, fits) in
    ap (λ (n : ℕ). take size (drop skipped (take n l))) whole ∙ ap (λ (m : List ℕ). take size m) (drop-take skipped (count - skipped) l)
    ∙ take-take size (count - skipped) (drop skipped l) (omega (arith, fits))

-- a part of those that were read ahead is the file's there
pub part_of : (file bytes : List ℕ) (from count at size : ℕ) → take count bytes ≡ take count (drop from file) → from ≤ at → (at - from) + size ≤ count
    → take size (drop (at - from) bytes) ≡ take size (drop at file)
part_of file bytes from count at size same low fits =
    let there : from + (at - from) ≡ at = omega (arith, low) in
    sym (within bytes (at - from) size count fits) ∙ ap (λ (m : List ℕ). take size (drop (at - from) m)) same
    ∙ within (drop from file) (at - from) size count fits ∙ ap (λ (m : List ℕ). take size m) (drop-drop (at - from) from file)
    ∙ ap (λ (n : ℕ). take size (drop n file)) there

-- so are the first of those that were read
front_of : (file bytes : List ℕ) (count from size : ℕ) → take count bytes ≡ take count (drop from file) → size ≤ count
    → take size bytes ≡ take size (drop from file)
front_of file bytes count from size same fits =
    sym (take-take size count bytes fits) ∙ ap (λ (m : List ℕ). take size m) same ∙ take-take size count (drop from file) fits

-- and they are those of the file as it was before the call that read them
pub read_front : (a b : Told) → Stays a b → (bytes : List ℕ) (from count at size : ℕ) → HasBytes b from bytes count → from ≡ at → size ≤ count
    → IsTrue a.tells → take size bytes ≡ take size (drop at (disk_now a).now)
read_front a b stays bytes from count at size has is fits told =
    front_of (disk_now b).now bytes count from size (has (told_next a b stays.course told)) fits
    ∙ ap (λ (d : Disk). take size (drop from d.now)) (kept_now a b stays.course stays.disk told)
    ∙ ap (λ (n : ℕ). take size (drop n (disk_now a).now)) is
