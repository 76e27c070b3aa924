-- What the calls leave where the frames that the cache holds are all that are out of the pool.
use Rattle.std.proofs.Common.{◌≡◌, ℕ, List, [], length, sym, ap, ◌∙◌, arith, subst}
use Rattle.page_pool.specs.Frames.{Frames, out_of}
use Rattle.state_cache.specs.Entries.{Entries, held, IsCached, HoldsAll, KeepsApart, IsStored, IsYielded}

pub none_held : (pool : Frames) (entries : Entries) → out_of pool ≡ 0 → entries ≡ [] → HoldsAll pool entries
none_held pool entries out is = subst (λ (es : Entries). HoldsAll pool es) (sym is) (record { out = tt; count = out })

pub stored_all : (before after : Frames) (version : ℕ) (bytes : List ℕ) (old new : Entries) → HoldsAll before old
    → IsStored before after version bytes old new → IsCached after new → HoldsAll after new
stored_all before after version bytes old new all stored out = record {
  out = out;
  count = let b = stored.out_before in let a = stored.out_after in let n = all.count in omega (arith, b, a, n);
}

pub yielded_all : (before after : Frames) (needed : ℕ) (old new : Entries) → HoldsAll before old → IsYielded before after needed old new
    → IsCached after new → HoldsAll after new
yielded_all before after needed old new all yielded out = record {
  out = out;
  count = let b = yielded.out_before in let a = yielded.out_after in let n = all.count in omega (arith, b, a, n);
}

-- one call after another
pub apart_then : (a b c : Frames) (x y z : Entries) → KeepsApart a b x y → KeepsApart b c y z → KeepsApart a c x z
apart_then a b c x y z one two k bytes not is = let first = one k bytes not is in two k bytes first.0 first.1

-- the same entries and as many frames
pub same_all : (before after : Frames) (old new : Entries) → HoldsAll before old → new ≡ old → out_of after ≡ out_of before → IsCached after new
    → HoldsAll after new
same_all before after old new all same outs out = record {
  out = out;
  count = outs ∙ all.count ∙ sym (ap (λ (es : Entries). length (held es)) same);
}

-- the entries in another order
pub looked_up_all : (pool : Frames) (old new : Entries) → HoldsAll pool old → length (held new) ≡ length (held old) → IsCached pool new → HoldsAll pool new
looked_up_all pool old new all frames out = record { out = out; count = all.count ∙ sym frames }
