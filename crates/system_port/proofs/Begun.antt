-- What a request has made of the file when some of its bytes are written.
use Rattle.std.proofs.Common.{◌≡◌, refl, inl, inr, ℕ, zero, suc, ◌+◌, ◌<◌, ◌≤◌, List, [], ◌∷◌, ◌++◌, length, take, drop, sym, ◌∙◌, ap, subst, arith, take_all}
use Rattle.std.proofs.Common.{length-append, length-take, length-drop, append_assoc, take-add, drop-drop}
use Rattle.std.proofs.Math.Seq.{take-append_seam, drop-append-add}
use Rattle.host_port.specs.Host.{Disk, IsOutside, WrittenPart, written, overwritten}
use Rattle.host_port.specs.Laws.{kept_outside}
use Rattle.host_port.proofs.Replaying.{not_yet}
use Rattle.system_port.specs.Writes.{begun, under_way, ShortWritesGoOn}

-- an offset that is out of the whole range is out of what is written of it
outside : (at : ℕ) (bytes : List ℕ) (done i : ℕ) → IsOutside (record { from = at; to = at + length bytes }) i
    → IsOutside (record { from = at; to = at + length (take done bytes) }) i
outside at bytes done i (inl before) = inl before
outside at bytes done i (inr behind) = inr (omega (arith, behind, length-take done bytes))

-- a request that is under way is a part of the write
pub begun_part : (first : Disk) (at : ℕ) (bytes : List ℕ) (done : ℕ)
    → WrittenPart first (record { from = at; to = at + length bytes }) (begun first at bytes done)
begun_part first at bytes done = record {
  stable = refl;
  loose = inr refl;
  no_shorter = omega (
    arith,
    length-append (take at first.now ++ take done bytes) (drop (at + length (take done bytes)) first.now),
    length-append (take at first.now) (take done bytes),
    length-take at first.now,
    length-take done bytes,
    length-drop (at + length (take done bytes)) first.now,
  );
  no_longer = omega (
    arith,
    length-append (take at first.now ++ take done bytes) (drop (at + length (take done bytes)) first.now),
    length-append (take at first.now) (take done bytes),
    length-take at first.now,
    length-take done bytes,
    length-drop (at + length (take done bytes)) first.now,
  );
  kept = λ i below out. kept_outside first.now at (take done bytes) i below (outside at bytes done i out);
}

pub under_way_part : (first : Disk) (at : ℕ) (bytes : List ℕ) (done : ℕ)
    → WrittenPart first (record { from = at; to = at + length bytes }) (under_way first at bytes done)
under_way_part first at bytes zero = not_yet first _ first refl
under_way_part first at bytes (suc done) = begun_part first at bytes (suc done)

-- where a file stays that a request is under way in, it stays a part of the write
pub still_part : (first disk now : Disk) (at : ℕ) (bytes : List ℕ) (done : ℕ) → disk ≡ under_way first at bytes done → now ≡ disk
    → WrittenPart first (record { from = at; to = at + length bytes }) now
still_part first disk now at bytes done is same =
    subst (λ d. WrittenPart first (record { from = at; to = at + length bytes }) d) (sym (same ∙ is)) (under_way_part first at bytes done)

-- all of its bytes are written
pub begun_whole : (first : Disk) (at : ℕ) (bytes : List ℕ) (done : ℕ) → length bytes ≤ done → begun first at bytes done ≡ written first at bytes
begun_whole first at bytes done all =
    ap (λ (l : List ℕ). record {
      now = take at first.now ++ l ++ drop (at + length l) first.now;
      stable = first.stable;
      loose = first.loose ++ record { from = at; to = at + length bytes } ∷ [];
    }) (take_all done bytes all)

-- between two calls of which the first wrote something, the request is begun
pub is_begun : (first : Disk) (at : ℕ) (bytes : List ℕ) (done : ℕ) → 0 < done → under_way first at bytes done ≡ begun first at bytes done
is_begun first at bytes zero none = elim (let no : ⊥ = omega (arith, none) in no) [ ]
is_begun first at bytes (suc done) some = refl

-- bytes that are written after those that are written are written with them
overwritten_on : (old : List ℕ) (at : ℕ) (done more : List ℕ) (from : ℕ) → at ≤ length old → from ≡ at + length done
    → overwritten (overwritten old at done) from more ≡ overwritten old at (done ++ more)
overwritten_on old at done more from fits is =
    let front = take at old ++ done in
    let rest = drop (at + length done) old in
    let long : length (take at old ++ done) ≡ from = omega (arith, length-append (take at old) done, length-take at old, fits, is) in
    let taken : take from ((take at old ++ done) ++ drop (at + length done) old) ≡ take at old ++ done =
    ap (λ (k : ℕ). take k ((take at old ++ done) ++ drop (at + length done) old)) (sym long) ∙ take-append_seam front rest in
    let dropped : drop (from + length more) ((take at old ++ done) ++ drop (at + length done) old) ≡ drop (at + length (done ++ more)) old =
    ap (λ (k : ℕ). drop (k + length more) ((take at old ++ done) ++ drop (at + length done) old)) (sym long)
    ∙ drop-append-add front rest (length more) ∙ drop-drop (length more) (at + length done) old
    ∙ ap (λ (k : ℕ). drop k old) (let e : (at + length done) + length more ≡ at + length (done ++ more) = omega (arith, length-append done more) in e) in
    ap (λ (l : List ℕ). (l ++ more) ++ drop (from + length more) ((take at old ++ done) ++ drop (at + length done) old)) taken
    ∙ ap (λ (l : List ℕ). ((take at old ++ done) ++ more) ++ l) dropped
    ∙ ap (λ (l : List ℕ). l ++ drop (at + length (done ++ more)) old) (append_assoc (take at old) done more)

pub short_writes : ShortWritesGoOn
short_writes first at bytes zero n fits all = ap (λ (k : ℕ). begun first at bytes k) (let e : n ≡ 0 + n = omega arith in e)
short_writes first at bytes (suc done) n fits all =
    ap (λ (l : List ℕ). record {
      now = l;
      stable = first.stable;
      loose = first.loose ++ record { from = at; to = at + length bytes } ∷ [];
    })
    (overwritten_on first.now at (take (suc done) bytes) (take n (drop (suc done) bytes)) (at + suc done) fits
    (omega (arith, length-take (suc done) bytes, all))
    ∙ ap (λ (l : List ℕ). overwritten first.now at l) (sym (take-add (suc done) n bytes)))
