-- What is read of a text that is spelled, and what spells a text that is read.
use Rattle.std.proofs.Common.{◌≡◌, ◌≢◌, ℕ, ◌+◌, ◌<◌, ◌≤◌, Bool, true, false, cond, not, ◌&&◌, ◌||◌, ◌==◌, nat_le, List, [], ◌∷◌, ◌++◌, length, take}
use Rattle.std.proofs.Common.{drop, get_or, map, codes, refl, sym, ◌∙◌, ap, subst, arith, eqb-true, append-nil, append_assoc, inl, inr, ◌⊎◌}
use Rattle.std.specs.Prelude.{Option, None, Some, Result, Ok}
use Rattle.std.specs.List.{position_or_len, before_first, after_first, list_any, list_all}
use Rattle.std.specs.Char.{is_ascii_alphabetic}
use Rattle.std.proofs.lemmas.List.{drop_all}
use Rattle.std.proofs.lemmas.List.Sums.{passes_at_first, split_at_first}
use Rattle.std.proofs.Math.Seq.{take-append_seam, drop-append-add}
use Rattle.finite_maps.proofs.EqualLaws.{text_equality, and_first, and_second}
use Rattle.model_state.specs.Names.{is_name, is_name_byte, most_name_rest}
use Rattle.finite_maps.specs.Equal.{text_eq}
use Rattle.access_rules.specs.declared.policy.Role.{Role}
use Rattle.access_rules.specs.declared.policy.Role.TheVariants.{Reader, Writer, Admin}
use Rattle.access_rules.specs.declared.policy.Grant.{Grant}
use Rattle.access_rules.specs.Reading.{is_comma, is_colon, is_at_sign, before, pieces, writer_of, role_of, granted, grant_of, has_user, if_new}
use Rattle.access_rules.specs.Reading.{with_grant, grants_from, grants_of}
use Rattle.access_rules.specs.Laws.{role_word, spelled, joined, IsRole, AreGrants}

clash : {x : Bool} → x ≡ false → x ≡ true → ⊥
clash f t = cc

-- ---- the bytes of names
-- a name has no byte that no name has
module _ (k : ℕ) (head : is_ascii_alphabetic k ≡ false) (tail : is_name_byte k ≡ false) where
  apart : (p : ℕ → Bool) → p k ≡ false → (b : ℕ) → p b ≡ true → (b == k) ≡ false
  apart p none b is = by (b == k) refl
    where
      by : (t : Bool) → (b == k) ≡ t → t ≡ false
      by false same = refl
      by true same = let here : p k ≡ true = ap p (sym (eqb-true b k same)) ∙ is in absurd (clash none here)

  rest_without : (bs : List ℕ) → list_all is_name_byte bs ≡ true → list_any (λ b. b == k) bs ≡ false
  rest_without [] all = refl
  rest_without (b ∷ bs) all =
      let more : list_any (λ b. b == k) bs ≡ false = rest_without bs (and_second (is_name_byte b) (list_all is_name_byte bs) all) in
      ap (λ t. t || list_any (λ b. b == k) bs) (apart is_name_byte tail b (and_first (is_name_byte b) (list_all is_name_byte bs) all)) ∙ more

  pub name_without : (name : List ℕ) → is_name name ≡ true → list_any (λ b. b == k) name ≡ false
  name_without [] is = absurd cc
  name_without (b ∷ bs) is =
      let front : is_ascii_alphabetic b && nat_le (length bs) most_name_rest ≡ true = and_first _ (list_all is_name_byte bs) is in
      let more : list_any (λ b. b == k) bs ≡ false = rest_without bs (and_second _ (list_all is_name_byte bs) is) in
      ap (λ t. t || list_any (λ b. b == k) bs) (apart is_ascii_alphabetic head b (and_first (is_ascii_alphabetic b) _ front)) ∙ more

neither : (a b : Bool) → (a || b) ≡ false → (a ≡ false) × (b ≡ false)
neither true b is = absurd cc
neither false b is = (refl, is)

without_both : (p : ℕ → Bool) (xs ys : List ℕ) → list_any p xs ≡ false → list_any p ys ≡ false → list_any p (xs ++ ys) ≡ false
without_both p [] ys first second = second
without_both p (x ∷ xs) ys first second =
    let both = neither (p x) (list_any p xs) first in
    ap (λ t. t || list_any p (xs ++ ys)) both.0 ∙ without_both p xs ys both.1 second

-- ---- cut where a byte stands first
found_after : (p : ℕ → Bool) (xs : List ℕ) → list_any p xs ≡ false → (k : ℕ) (ys : List ℕ) → p k ≡ true → position_or_len p (xs ++ k ∷ ys) ≡ length xs
found_after p [] none k ys is = ap (λ t. cond (not t) (1 + position_or_len p ys) 0) is
found_after p (x ∷ xs) none k ys is =
    let both = neither (p x) (list_any p xs) none in
    let more : position_or_len p (xs ++ k ∷ ys) ≡ length xs = found_after p xs both.1 k ys is in
    ap (λ t. cond (not t) (1 + position_or_len p (xs ++ k ∷ ys)) 0) both.0 ∙ omega (arith, more)

first_is : (p : ℕ → Bool) (xs : List ℕ) → list_any p xs ≡ false → (k : ℕ) (ys : List ℕ) → p k ≡ true → before_first p (xs ++ k ∷ ys) ≡ xs
first_is p xs none k ys is = ap (λ n. take n (xs ++ k ∷ ys)) (found_after p xs none k ys is) ∙ take-append_seam xs (k ∷ ys)

second_is : (p : ℕ → Bool) (xs : List ℕ) → list_any p xs ≡ false → (k : ℕ) (ys : List ℕ) → p k ≡ true → after_first p (xs ++ k ∷ ys) ≡ ys
second_is p xs none k ys is = ap (λ n. drop (n + 1) (xs ++ k ∷ ys)) (found_after p xs none k ys is) ∙ drop-append-add xs (k ∷ ys) 1

-- ---- one grant is read
role_read : (role : Role) → IsRole role → role_of (role_word role) ≡ Some role
role_read Reader is = refl
role_read (Writer None) is = refl
role_read (Writer (Some branch)) is = ap (λ t. cond t (Some (Writer (Some branch))) None) is
role_read Admin is = refl

grant_read : (grant : Grant) → is_name grant.user ≡ true → IsRole grant.role → grant_of (spelled grant) ≡ Some grant
grant_read grant named role =
    let clear : list_any is_colon grant.user ≡ false = name_without 58 refl refl grant.user named in
    (λ i. granted (first_is is_colon grant.user clear 58 (role_word grant.role) refl i)
    (role_of (second_is is_colon grant.user clear 58 (role_word grant.role) refl i)))
    ∙ ap (granted grant.user) (role_read grant.role role)
    ∙ ap (λ t. cond t (Some grant) None) named

role_clear : (role : Role) → IsRole role → list_any is_comma (role_word role) ≡ false
role_clear Reader is = refl
role_clear (Writer None) is = refl
role_clear (Writer (Some branch)) is = name_without 44 refl refl branch is
role_clear Admin is = refl

spelled_clear : (grant : Grant) → is_name grant.user ≡ true → IsRole grant.role → list_any is_comma (spelled grant) ≡ false
spelled_clear grant named role =
    without_both is_comma grant.user (58 ∷ role_word grant.role) (name_without 44 refl refl grant.user named) (role_clear grant.role role)

-- ---- all grants are read
pieces_one : (piece : List ℕ) → list_any is_comma piece ≡ false → pieces piece ≡ piece ∷ []
pieces_one [] none = refl
pieces_one (b ∷ bs) none =
    let both = neither (is_comma b) (list_any is_comma bs) none in
    ap (λ t. cond t ([] ∷ pieces bs) (before b (pieces bs))) both.0 ∙ ap (before b) (pieces_one bs both.1)

pieces_more : (piece rest : List ℕ) → list_any is_comma piece ≡ false → pieces (piece ++ 44 ∷ rest) ≡ piece ∷ pieces rest
pieces_more [] rest none = refl
pieces_more (b ∷ bs) rest none =
    let both = neither (is_comma b) (list_any is_comma bs) none in
    ap (λ t. cond t ([] ∷ pieces (bs ++ 44 ∷ rest)) (before b (pieces (bs ++ 44 ∷ rest)))) both.0 ∙ ap (before b) (pieces_more bs rest both.1)

pieces_joined : (earlier : List Grant) (grant : Grant) (grants : List Grant) → AreGrants earlier (grant ∷ grants)
    → pieces (joined (map spelled (grant ∷ grants))) ≡ map spelled (grant ∷ grants)
pieces_joined earlier grant [] are = pieces_one (spelled grant) (spelled_clear grant are.0 are.1)
pieces_joined earlier grant (next ∷ grants) are =
    pieces_more (spelled grant) (joined (map spelled (next ∷ grants))) (spelled_clear grant are.0 are.1)
    ∙ ap (λ ps. spelled grant ∷ ps) (pieces_joined (earlier ++ grant ∷ []) next grants are.3)

not_true : (b : Bool) → b ≢ true → b ≡ false
not_true true is = absurd (is refl)
not_true false is = refl

all_read : (earlier : List Grant) (offset : ℕ) (grants : List Grant) → AreGrants earlier grants
    → grants_from earlier offset (map spelled grants) ≡ Ok (earlier ++ grants)
all_read earlier offset [] are = ap Ok (sym (append-nil earlier))
all_read earlier offset (grant ∷ grants) are =
    let further : Grant → Result (List Grant) ℕ = λ g. grants_from (earlier ++ g ∷ []) (offset + length (spelled grant) + 1) (map spelled grants) in
    ap (λ o. with_grant (if_new earlier o) offset further) (grant_read grant are.0 are.1)
    ∙ ap (λ t. with_grant (cond t None (Some grant)) offset further) (not_true (has_user earlier grant.user) are.2)
    ∙ all_read (earlier ++ grant ∷ []) (offset + length (spelled grant) + 1) grants are.3
    ∙ ap Ok (append_assoc earlier (grant ∷ []) grants)

pub policies_read : (grants : List Grant) → 0 < length grants → AreGrants [] grants → grants_of (joined (map spelled grants)) ≡ Ok grants
policies_read [] some are = absurd (omega (arith, some))
policies_read (grant ∷ grants) some are = ap (λ ps. grants_from [] 0 ps) (pieces_joined [] grant grants are) ∙ all_read [] 0 (grant ∷ grants) are

-- ---- what was read is spelled
order : (m n : ℕ) → (m < n) ⊎ (n ≤ m)
order m n = grind arith

-- where a byte is sought and something stands after it, the text is cut there
cut_at : (p : ℕ → Bool) (k : ℕ) → ((b : ℕ) → p b ≡ true → b ≡ k) → (xs : List ℕ) → after_first p xs ≢ [] → xs ≡ before_first p xs ++ k ∷ after_first p xs
cut_at p k only xs some = elim (order (position_or_len p xs) (length xs)) [
  | inl low ↦ split_at_first p xs k low
      ∙ ap (λ b. before_first p xs ++ b ∷ after_first p xs) (only (get_or xs (position_or_len p xs) k) (passes_at_first p xs k low))
  | inr high ↦ absurd (some (drop_all (position_or_len p xs + 1) xs (omega (arith, high))))
]

-- no role and no name is empty
some_role : (word : List ℕ) (role : Role) → role_of word ≡ Some role → word ≢ []
some_role word role is none = let empty : None ≡ Some role = sym (ap role_of none) ∙ is in cc

some_name : (name : List ℕ) → is_name name ≡ true → name ≢ []
some_name name is none = let empty : false ≡ true = sym (ap is_name none) ∙ is in cc

abbrev Spells : List ℕ → Role → Type 0
Spells word role = (word ≡ role_word role) × IsRole role

writer_back : (word : List ℕ) (role : Role) → writer_of (before_first is_at_sign word) (after_first is_at_sign word) ≡ Some role → Spells word role
writer_back word role is = by (text_eq (before_first is_at_sign word) (codes "writer")) refl (is_name (after_first is_at_sign word)) refl is
  where
    by : (a : Bool) → text_eq (before_first is_at_sign word) (codes "writer") ≡ a → (b : Bool) → is_name (after_first is_at_sign word) ≡ b
        → cond a (cond b (Some (Writer (Some (after_first is_at_sign word)))) None) None ≡ Some role → Spells word role
    by false first b named is = absurd cc
    by true first false named is = absurd cc
    by true first true named is =
        let same : Writer (Some (after_first is_at_sign word)) ≡ role = cc in
        let cut : word ≡ before_first is_at_sign word ++ 64 ∷ after_first is_at_sign word =
        cut_at is_at_sign 64 (λ b here. eqb-true b 64 here) word (some_name (after_first is_at_sign word) named) in
        let front : before_first is_at_sign word ≡ codes "writer" = text_equality.exact (before_first is_at_sign word) (codes "writer") first in
        subst (λ r. Spells word r) same (cut ∙ ap (λ (l : List ℕ). l ++ 64 ∷ after_first is_at_sign word) front, named)

role_back : (word : List ℕ) (role : Role) → role_of word ≡ Some role → Spells word role
role_back word role is = by (text_eq word (codes "reader")) refl (text_eq word (codes "writer")) refl (text_eq word (codes "admin")) refl is
  where
    by : (a : Bool) → text_eq word (codes "reader") ≡ a → (b : Bool) → text_eq word (codes "writer") ≡ b → (c : Bool) → text_eq word (codes "admin") ≡ c
        → cond a (Some Reader)
        (cond b (Some (Writer None)) (cond c (Some Admin) (writer_of (before_first is_at_sign word) (after_first is_at_sign word)))) ≡ Some role
        → Spells word role
    by true here b two c three is = let same : Reader ≡ role = cc in subst (λ r. Spells word r) same (text_equality.exact word (codes "reader") here, tt)
    by false one true here c three is = let same : Writer None ≡ role = cc
        in subst (λ r. Spells word r) same (text_equality.exact word (codes "writer") here, tt)
    by false one false two true here is = let same : Admin ≡ role = cc in subst (λ r. Spells word r) same (text_equality.exact word (codes "admin") here, tt)
    by false one false two false three is = writer_back word role is

record IsSpelled (piece : List ℕ) (grant : Grant) : Type 0 where
  word : piece ≡ spelled grant
  named : is_name grant.user ≡ true
  role : IsRole grant.role

grant_back : (piece : List ℕ) (grant : Grant) → grant_of piece ≡ Some grant → IsSpelled piece grant
grant_back piece grant is = by (role_of (after_first is_colon piece)) refl (is_name (before_first is_colon piece)) refl is
  where
    by : (o : Option Role) → role_of (after_first is_colon piece) ≡ o → (b : Bool) → is_name (before_first is_colon piece) ≡ b
        → granted (before_first is_colon piece) o ≡ Some grant → IsSpelled piece grant
    by None none b named is = absurd cc
    by (Some role) some b named is = on b named (ap (λ t. cond t (Some (record { user = before_first is_colon piece; role = role })) None) (sym named) ∙ is)
      where
        on : (b : Bool) → is_name (before_first is_colon piece) ≡ b
            → cond b (Some (record { user = before_first is_colon piece; role = role })) None ≡ Some grant → IsSpelled piece grant
        on false named is = absurd cc
        on true named is =
            let made : Grant = record { user = before_first is_colon piece; role = role } in
            let same : made ≡ grant = cc in
            let cut : piece ≡ before_first is_colon piece ++ 58 ∷ after_first is_colon piece =
            cut_at is_colon 58 (λ b here. eqb-true b 58 here) piece (some_role (after_first is_colon piece) role some) in
            let back : Spells (after_first is_colon piece) role = role_back (after_first is_colon piece) role some in
            subst (λ g. IsSpelled piece g) same (record {
              word = cut ∙ ap (λ (l : List ℕ). before_first is_colon piece ++ 58 ∷ l) back.0;
              named = named;
              role = back.1;
            })

-- the pieces spell further grants, and all are these and those before
record IsBack (earlier grants : List Grant) (ps : List (List ℕ)) : Type 0 where
  new : List Grant
  all : grants ≡ earlier ++ new
  words : ps ≡ map spelled new
  are : AreGrants earlier new

all_back : (earlier : List Grant) (offset : ℕ) (ps : List (List ℕ)) (grants : List Grant) → grants_from earlier offset ps ≡ Ok grants → IsBack earlier grants ps
all_back earlier offset [] grants is =
    let same : earlier ≡ grants = cc in
    record { new = []; all = sym same ∙ sym (append-nil earlier); words = refl; are = tt }
all_back earlier offset (piece ∷ ps) grants is = by (grant_of piece) refl is (λ g. all_back (earlier ++ g ∷ []) (offset + length piece + 1) ps grants)
  where
    by : (o : Option Grant) → grant_of piece ≡ o
        → with_grant (if_new earlier o) offset (λ grant. grants_from (earlier ++ grant ∷ []) (offset + length piece + 1) ps) ≡ Ok grants
        → ((g : Grant) → grants_from (earlier ++ g ∷ []) (offset + length piece + 1) ps ≡ Ok grants → IsBack (earlier ++ g ∷ []) grants ps)
        → IsBack earlier grants (piece ∷ ps)
    by None none is further = absurd cc
    by (Some g) some is further = on (has_user earlier g.user) refl is
      where
        on : (b : Bool) → has_user earlier g.user ≡ b
            → with_grant (cond b None (Some g)) offset (λ grant. grants_from (earlier ++ grant ∷ []) (offset + length piece + 1) ps) ≡ Ok grants
            → IsBack earlier grants (piece ∷ ps)
        on true has is = absurd cc
        on false has is =
            let back = further g is in
            let here : IsSpelled piece g = grant_back piece g some in
            record {
              new = g ∷ back.new;
              all = back.all ∙ append_assoc earlier (g ∷ []) back.new;
              words = λ i. here.word i ∷ back.words i;
              are = (here.named, here.role, λ both. clash has both, back.are);
            }

record HasPiece (bs : List ℕ) : Type 0 where
  piece : List ℕ
  others : List (List ℕ)
  is : pieces bs ≡ piece ∷ others

has_piece : (bs : List ℕ) → HasPiece bs
has_piece [] = record { piece = []; others = []; is = refl }
has_piece (b ∷ bs) = by (is_comma b) refl (has_piece bs)
  where
    by : (t : Bool) → is_comma b ≡ t → HasPiece bs → HasPiece (b ∷ bs)
    by true is more = record { piece = []; others = pieces bs; is = ap (λ t. cond t ([] ∷ pieces bs) (before b (pieces bs))) is }
    by false is more = record {
      piece = b ∷ more.piece;
      others = more.others;
      is =
          ap (λ t. cond t ([] ∷ pieces bs) (before b (pieces bs))) is ∙ ap (before b) more.is;
    }

before_joined : (b : ℕ) (piece : List ℕ) (ps : List (List ℕ)) → joined ((b ∷ piece) ∷ ps) ≡ b ∷ joined (piece ∷ ps)
before_joined b piece [] = refl
before_joined b piece (p ∷ ps) = refl

joined_pieces : (bs : List ℕ) → bs ≡ joined (pieces bs)
joined_pieces [] = refl
joined_pieces (b ∷ bs) = by (is_comma b) refl (joined_pieces bs) (has_piece bs)
  where
    by : (t : Bool) → is_comma b ≡ t → bs ≡ joined (pieces bs) → HasPiece bs → b ∷ bs ≡ joined (pieces (b ∷ bs))
    by true is more has =
        let comma : b ≡ 44 = eqb-true b 44 is in
        (λ i. comma i ∷ more i) ∙ ap (λ ps. 44 ∷ joined ps) has.is ∙ ap (λ ps. joined ([] ∷ ps)) (sym has.is)
        ∙ ap (λ t. joined (cond t ([] ∷ pieces bs) (before b (pieces bs)))) (sym is)
    by false is more has =
        ap (λ l. b ∷ l) more ∙ ap (λ ps. b ∷ joined ps) has.is ∙ sym (before_joined b has.piece has.others) ∙ ap (λ ps. joined (before b ps)) (sym has.is)
        ∙ ap (λ t. joined (cond t ([] ∷ pieces bs) (before b (pieces bs)))) (sym is)

no_grants : (new : List Grant) (piece : List ℕ) (ps : List (List ℕ)) → piece ∷ ps ≡ map spelled new → 0 < length new
no_grants [] piece ps is = absurd cc
no_grants (g ∷ new) piece ps is = omega arith

pub policies_spelled : (text : List ℕ) (grants : List Grant) → grants_of text ≡ Ok grants
    → (0 < length grants) × AreGrants [] grants × (text ≡ joined (map spelled grants))
policies_spelled text grants is =
    let back : IsBack [] grants (pieces text) = all_back [] 0 (pieces text) grants is in
    let has : HasPiece text = has_piece text in
    let same : back.new ≡ grants = sym back.all in
    subst (λ gs. (0 < length gs) × AreGrants [] gs × (text ≡ joined (map spelled gs))) same
    (no_grants back.new has.piece has.others (sym has.is ∙ back.words), back.are, joined_pieces text ∙ ap joined back.words)
