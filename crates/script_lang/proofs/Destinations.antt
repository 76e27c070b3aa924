-- The words of a place: read where they stand first, and standing first where a place was read.
use Rattle.std.proofs.Common.{◌≡◌, ◌≢◌, ℕ, List, ◌∷◌, ◌++◌, refl, ap, subst, ◌∙◌, true, false, Bool, cond, Result, Ok, Err, arith, codes}
use Rattle.edits.specs.declared.edit.Destination.{Destination}
use Rattle.edits.specs.declared.edit.Destination.TheVariants.{Root, Inside}
use Rattle.script_lang.specs.Left.{Left}
use Rattle.script_lang.specs.Words.{◌>>=◌, word_at}
use Rattle.finite_maps.specs.Equal.{text_eq}
use Rattle.script_lang.specs.Command.{destination_from, destination_at}
use Rattle.script_lang.specs.Spelling.{IsWord, IsDestination, destination_words}
use Rattle.script_lang.proofs.Readings.{reads, tells, joined, ok_is, reached, word_kind, Front}
use Rattle.script_lang.proofs.FieldLemmas.{same_word}

in_order : {A B C : Type 0} (r : Result A ℕ) (g : A → Result B ℕ) (f : B → Result C ℕ) → ((r >>= g) >>= f) ≡ (r >>= λ x. g x >>= f)
in_order (Ok x) g f = refl
in_order (Err c) g f = refl

slash_is_word : IsWord (codes "/")
slash_is_word = (omega arith, refl)

-- a word that is not `/` is found to be another
apart : (word : List ℕ) (b : Bool) → word ≢ codes "/" → text_eq word (codes "/") ≡ b → b ≡ false
apart word false other is = refl
apart word true other is = absurd (other (same_word word (codes "/") is))

not_slash : (word : List ℕ) → text_eq word (codes "/") ≡ false → word ≢ codes "/"
not_slash word other same = let e : text_eq (codes "/") (codes "/") ≡ false = subst (λ w. text_eq w (codes "/") ≡ false) same other in cc

-- reading goes on after the words of a place
pub destination_reads : {B : Type 0} (place : Destination) → IsDestination place
    → (words : List (List ℕ)) (column : ℕ) (f : Destination × Left → Result B ℕ) (y : B)
    → ((past : ℕ) → f (place, record { rest = joined words; column = past }) ≡ Ok y)
    → (destination_at (record { rest = joined (destination_words place ++ words); column = column }) >>= f) ≡ Ok y
unfolding destination_at
destination_reads Root is words column f y on =
    in_order (word_at (record { rest = joined (codes "/" ∷ words); column = column })) (λ first. destination_from first.0 first.1) f
    ∙ reads word_kind (codes "/") slash_is_word words column (λ first. destination_from first.0 first.1 >>= f) y on
destination_reads (Inside parent feature) is words column f y on =
    in_order (word_at (record { rest = joined (parent ∷ feature ∷ words); column = column })) (λ first. destination_from first.0 first.1) f
    ∙ reads word_kind parent is.0 (feature ∷ words) column (λ first. destination_from first.0 first.1 >>= f) y
    (λ a. rw (apart parent (text_eq parent (codes "/")) is.1 refl)
    (in_order (word_at (record { rest = joined (feature ∷ words); column = a })) (λ next. Ok (Inside parent next.0, next.1)) f
    ∙ reads word_kind feature is.2 words a (λ next. Ok (Inside parent next.0, next.1) >>= f) y on))

-- the words that are left are those of the place and those after them
abbrev pub Stands : Left → Destination → Left → Type 0
Stands left place next = (words : List (List ℕ)) → next.rest ≡ joined words → left.rest ≡ joined (destination_words place ++ words)

placed_as : (left : Left) (is place : Destination) (a next : Left) → IsDestination is → Stands left is a
    → ◌≡◌ {A = Result (Destination × Left) ℕ} (Ok (is, a)) (Ok (place, next))
    → IsDestination place × Stands left place next
placed_as left is place a next form stands e = subst (λ p. IsDestination p.0 × Stands left p.0 p.1) (ok_is (is, a) (place, next) e) (form, stands)

first_told : (left : Left) (first : List ℕ) (a : Left) → IsWord first → Front left first a → (place : Destination) (next : Left) (b : Bool)
    → text_eq first (codes "/") ≡ b
    → cond {A = Result (Destination × Left) ℕ} b (Ok (Root, a)) (word_at a >>= λ feature. Ok (Inside first feature.0, feature.1)) ≡ Ok (place, next)
    → IsDestination place × Stands left place next
first_told left first a is at_first place next true slash e =
    placed_as left Root place a next tt (λ words more. at_first words more ∙ ap (λ w. joined (w ∷ words)) (same_word first (codes "/") slash)) e
first_told left first a is at_first place next false other e =
    tells word_kind a (λ feature. Ok (Inside first feature.0, feature.1)) (place, next) e (λ feature b is_feature at_feature e1.
    placed_as left (Inside first feature) place b next (is, not_slash first other, is_feature)
    (λ words more. at_first (feature ∷ words) (at_feature words more)) e1)

destination_told : (left : Left) (place : Destination) (next : Left) → destination_at left ≡ Ok (place, next) → IsDestination place × Stands left place next
unfolding destination_at
destination_told left place next e =
    tells word_kind left (λ first. destination_from first.0 first.1) (place, next) e (λ first a is_first at_first e1.
    first_told left first a is_first at_first place next (text_eq first (codes "/")) refl e1)

-- where reading went on, the words of a place stand first
pub destination_tells : {B G : Type 0} (left : Left) (f : Destination × Left → Result B ℕ) (y : B) → (destination_at left >>= f) ≡ Ok y
    → ((place : Destination) (next : Left) → IsDestination place → Stands left place next → f (place, next) ≡ Ok y → G) → G
destination_tells left f y e on =
    let k = reached (destination_at left) f y e in
    let t = destination_told left k.0.0 k.0.1 k.1 in
    on k.0.0 k.0.1 t.0 t.1 k.2
