-- The frames that are out of the pool: those that the cache holds, and those of a record.
use Rattle.std.proofs.Common.{◌≡◌, ◌⊎◌, inl, inr, ℕ, zero, suc, ◌+◌, ◌≤◌, List, [], ◌∷◌, length, take, Option, Some, None, Result, Ok, Err, refl, sym}
use Rattle.std.proofs.Common.{◌∙◌, ap, subst, arith}
use Rattle.std.specs.Prelude.{OnErr}
use Rattle.ecore_meta.specs.Meta.{Meta}
use Rattle.page_pool.specs.Frames.{Frames, frame_at, out_of, SameFrames, pool_limit}
use Rattle.page_pool.specs.Paged.{PagedState, IsAmong, AreFree, KeepsOthers, frames_for}
use Rattle.page_pool.proofs.Among.{all_kept, joined_kept, out_each, out_not_free}
use Rattle.state_cache.specs.Entries.{Entries, HoldsAll, IsYielded, held, stands}
use Rattle.state_cache.proofs.Listed.{stands_kept}
use Rattle.state_cache.proofs.Standing.{all_yielded}
use Rattle.commit_journal.specs.Journal.{HoldsRecord, most_bytes}
use Rattle.commit_journal.proofs.Ends.{length-after_gate}
use Rattle.plain_repository.specs.State.{State}
use Rattle.history_tree.specs.History.{History}
use Rattle.version_states.specs.Cached.{AreEncodings, IsVersionEncoding, MayUse, Uses}
use Rattle.repo_state.specs.Cached.{HasEncodings}
use Rattle.store_session.specs.Session.{HoldsBoth, LeavesRecord}

-- ---- the cache alone
pub all_may : (p : Frames) (c : Entries) → HoldsAll p c → MayUse p c
all_may p c all = record { out = all.out; room = omega (arith, all.count) }

pub all_on : (p q : Frames) (a b : Entries) → HoldsAll p a → Uses p q a b → HoldsAll q b
all_on p q a b all uses = record { out = uses.out; count = omega (arith, all.count, uses.count) }

-- what a cache stands for stays where its frames do
pub forms_alike : (s : State) (p q : Frames) (c : Entries) → stands q c ≡ stands p c → HasEncodings s p c → HasEncodings s q c
forms_alike s p q c same forms = subst (λ (l : List (ℕ × List ℕ)). AreEncodings s.meta s.history l) (sym same) forms

-- entries that stand for nothing are none, and none are left of them
none_stand : (p : Frames) (es : Entries) → stands p es ≡ [] → es ≡ []
none_stand p [] is = refl
none_stand p (e ∷ es) is = absurd cc

none_taken : (k : ℕ) (es : Entries) → es ≡ [] → take k es ≡ []
none_taken zero es is = refl
none_taken (suc k) [] is = refl
none_taken (suc k) (e ∷ es) is = absurd cc

none_yielded : (m : Option Meta) (h : History) (p q : Frames) (n : ℕ) (old new : Entries) → IsYielded p q n old new → AreEncodings m h (stands p old)
    → AreEncodings m h (stands q new)
none_yielded None h p q n old new yielded none =
    ap (λ (es : Entries). stands q es) (yielded.kept.first ∙ none_taken yielded.kept.count old (none_stand p old none))
none_yielded (Some meta) h p q n old new yielded forms = all_yielded (IsVersionEncoding meta h) p q n old new yielded forms

pub forms_yielded : (s : State) (p q : Frames) (n : ℕ) (old new : Entries) → IsYielded p q n old new → HasEncodings s p old → HasEncodings s q new
forms_yielded s p q n old new yielded forms = none_yielded s.meta s.history p q n old new yielded forms

-- so many frames can be out then as a record takes
pub room_made : (p q : Frames) (n size : ℕ) (old new : Entries) → HoldsAll p old → IsYielded p q n old new → n ≡ frames_for (size + 5)
    → size ≤ most_bytes → out_of q + frames_for (size + 5) ≤ pool_limit
room_made p q n size old new all yielded is short = by yielded.enough
  where
    by : (out_of q + n ≤ pool_limit) ⊎ (new ≡ []) → out_of q + frames_for (size + 5) ≤ pool_limit
    by (inl enough) = omega (arith, enough, is)
    by (inr none) =
        let none_held : length (held new) ≡ 0 = ap (λ (es : Entries). length (held es)) none in
        omega (arith, none_held, all.count, yielded.out_before, yielded.out_after, short)

-- and no entry went that there was room for
pub record_left : (p q : Frames) (n size : ℕ) (old new : Entries) → HoldsAll p old → IsYielded p q n old new → n ≡ frames_for (size + 5)
    → LeavesRecord size old new
record_left p q n size old new all yielded is = record {
  count = yielded.kept.count;
  first = yielded.kept.first;
  no_more = λ less fits.
      let room : length (held (take (suc yielded.kept.count) old)) + frames_for (size + 5) ≤ pool_limit = fits in
      let enough : yielded.others + length (held (take (suc yielded.kept.count) old)) + n ≤ pool_limit =
      omega (arith, all.count, yielded.out_before, is, room) in
      yielded.kept.no_more less enough;
}

pub any_err : {T E : Type 0} (r : Result T E) (P : Type 0) → P → OnErr r P
any_err (Ok x) P p = tt
any_err (Err e) P p = p

-- no record was made
pub all_alike : (p q : Frames) (c : Entries) → HoldsAll p c → SameFrames p q → out_of q ≡ out_of p → HoldsAll q c
all_alike p q c all same out = record { out = all_kept p q (held c) (λ k among. same k) all.out; count = out ∙ all.count }

-- ---- the cache and a record
module _ (p q : Frames) (c : Entries) (prepared : PagedState) where
  -- a record was made in frames that were free
  module _ (form : List ℕ) (all : HoldsAll p c) (holds : HoldsRecord q prepared form) (fresh : AreFree p prepared.frames)
      (others : KeepsOthers p q prepared.frames) (out : out_of q ≡ out_of p + frames_for (length form + 5)) where
    not_fresh : (k : ℕ) → IsAmong k prepared.frames → ¬ IsAmong k (held c)
    not_fresh k among held' = out_not_free p k (out_each p (held c) k all.out held') (fresh k among)

    kept : (k : ℕ) → IsAmong k (held c) → frame_at q k ≡ frame_at p k
    kept k among = others k (λ record_too. not_fresh k record_too among)

    pub made_both : HoldsBoth q c (Some prepared)
    made_both = record {
      out = all_kept p q (held c) kept all.out;
      apart = not_fresh;
      count = omega (arith, all.count, out, holds.count, length-after_gate form);
    }

    pub made_same : stands q c ≡ stands p c
    made_same = stands_kept p q c kept

  -- its frames were given back
  module _ (both : HoldsBoth p c (Some prepared)) (free : AreFree q prepared.frames) (others : KeepsOthers p q prepared.frames)
      (out : out_of q + length prepared.frames ≡ out_of p) where
    left : (k : ℕ) → IsAmong k (held c) → frame_at q k ≡ frame_at p k
    left k among = others k (λ record_too. both.apart k record_too among)

    pub given_all : HoldsAll q c
    given_all = record { out = all_kept p q (held c) left both.out; count = omega (arith, both.count, out) }

    pub given_same : stands q c ≡ stands p c
    given_same = stands_kept p q c left

-- no frame more
pub both_none : (p : Frames) (c : Entries) (ready : Option PagedState) → ready ≡ None → HoldsBoth p c ready → HoldsAll p c
both_none p c None is both = record { out = both.out; count = omega (arith, both.count) }
both_none p c (Some prepared) is both = absurd cc

pub none_both : (p : Frames) (c : Entries) → HoldsAll p c → HoldsBoth p c None
none_both p c all = record { out = all.out; apart = tt; count = omega (arith, all.count) }

pub both_some : (p : Frames) (c : Entries) (ready : Option PagedState) (prepared : PagedState) → ready ≡ Some prepared → HoldsBoth p c ready
    → HoldsBoth p c (Some prepared)
both_some p c ready prepared is both = subst (λ (o : Option PagedState). HoldsBoth p c o) is both

-- a call that uses the pool for the cache leaves a record as it is
module _ (p q : Frames) (a b : Entries) (prepared : PagedState) (form : List ℕ) (holds : HoldsRecord p prepared form)
    (both : HoldsBoth p a (Some prepared)) where
  pub both_may : length form ≤ most_bytes → MayUse p a
  both_may short = record { out = both.out; room = omega (arith, both.count, holds.count, length-after_gate form, short) }

  module _ (uses : Uses p q a b) where
    stays : (k : ℕ) → IsAmong k prepared.frames → (¬ IsAmong k (held b)) × (frame_at q k ≡ frame_at p k)
    stays k among =
        let out = out_each p prepared.frames k holds.out among in
        let there = uses.apart k out.bytes (both.apart k among) out.is in (
          there.0,
          there.1 ∙ sym out.is,
        )

    pub both_on : HoldsBoth q b (Some prepared)
    both_on = record { out = uses.out; apart = λ k among. (stays k among).0; count = omega (arith, both.count, uses.count) }

    pub record_on : HoldsRecord q prepared form
    record_on = record {
      out = all_kept p q prepared.frames (λ k among. (stays k among).1) holds.out;
      count = holds.count;
      size = holds.size;
      content_is = ap (λ (l : List ℕ). take prepared.size l) (joined_kept p q prepared.frames (λ k among. (stays k among).1)) ∙ holds.content_is;
    }
