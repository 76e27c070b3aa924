-- How the lists of places change, and where they agree with the places of the elements.
use Rattle.std.proofs.Common.{◌≡◌, ℕ, Bool, true, false, cond, refl, sym, ap, subst, ◌∙◌, nat_eq, ◌&&◌}
use Rattle.std.specs.Prelude.{Option, None, Some, IsSome}
use Rattle.std.specs.Option.{option_map}
use Rattle.std.specs.Ordering.{eq_by_cmp, nat_cmp, is_eq, ordering_then}
use Rattle.std.specs.declared.cmp.Ordering.{Ordering}
use Rattle.std.specs.declared.cmp.Ordering.TheVariants.{Less, Equal, Greater}
use Rattle.std.specs.Cmp.Lexicographic.{texts_ties, nat_list_eq_equiv}
use Rattle.std.specs.FinMap.{get, empty, get-empty}
use Rattle.finite_maps.specs.Equal.{text_eq}
use Rattle.finite_maps.specs.Maps.{set}
use Rattle.spread_maps.specs.Spread.{inner}
use Rattle.finite_maps.proofs.EqualLaws.{nat_equality, apart}
use Rattle.finite_maps.proofs.MapLaws.{get-set, same_key, own_key, by_key}
use Rattle.model_state.specs.declared.step.Place.{Place}
use Rattle.model_state.specs.declared.step.Place.TheVariants.{Root, Inside}
use Rattle.model_state.specs.declared.step.Placed.{Placed}
use Rattle.model_state.specs.Keys.{IdBytes, AttrKey, id_cmp, attr_cmp}
use Rattle.model_state.specs.State.{State, place_eq}
use Rattle.model_state.proofs.Orders.{id_order, nat_order, attr_order}
use Rattle.model_state.proofs.StepTests.{place_equality}
use Rattle.graph_parts.specs.declared.element.Node.{Node}
use Rattle.ranked_lists.specs.Ranks.{Ranks, stood}
use Rattle.graph_parts.specs.Parts.{ListKey, list_key_cmp}
use Rattle.model_graph.specs.Seen.{Elements, nodes_state, placed_at, standing, IsHoused, IsAtBothEnds, IsPlaceThere, Rewrites, IsListWritten}
use Rattle.model_graph.proofs.Changed.{kept, hit, part_hit, same_class, same_place, same_prank, same_attr, same_row, out_written, some_is}
use Rattle.graph_parts.proofs.ListLaws.{list_key_order}

-- ---- elements that agree but in what stands inside them
pub record Alike (m n : Elements) : Type 0 where
  pub class : (x : IdBytes) → option_map (λ (n : Node). n.class) (get n x) ≡ option_map (λ (n : Node). n.class) (get m x)
  pub placed : (x : IdBytes) → placed_at n x ≡ placed_at m x
  pub attrs : (x : IdBytes) (l : ℕ) → inner (λ (n : Node). n.attrs) (get n x) l ≡ inner (λ (n : Node). n.attrs) (get m x) l
  pub out : (x : IdBytes) (l : ListKey) → inner (λ (n : Node). n.out) (get n x) l ≡ inner (λ (n : Node). n.out) (get m x) l
  pub into : (x : IdBytes) (l : AttrKey) → inner (λ (n : Node). n.into) (get n x) l ≡ inner (λ (n : Node). n.into) (get m x) l

pub alike_state : (m n : Elements) → Alike m n → nodes_state n ≡ nodes_state m
alike_state m n a =
    let kind = same_class m n a.class in
    let place = same_place m n a.placed in
    let prank = same_prank m n a.placed in
    let attr = same_attr m n a.attrs in
    let row = same_row m n a.out in
    λ i. record { kind = kind i; place = place i; prank = prank i; attr = attr i; row = row i }

pub mirrored_by : (m n : Elements) → IsAtBothEnds m
    → ((x : IdBytes) (l : AttrKey) → inner (λ (n : Node). n.into) (get n x) l ≡ inner (λ (n : Node). n.into) (get m x) l)
    → ((x : IdBytes) (l : ListKey) → inner (λ (n : Node). n.out) (get n x) l ≡ inner (λ (n : Node). n.out) (get m x) l) → IsAtBothEnds n
mirrored_by m n mirror into out a b f = into b (a, f) ∙ mirror a b f ∙ sym (out a (f, b))

pub alike_there : (m n : Elements) → Alike m n → (x : IdBytes) → IsSome (get m x) → IsSome (get n x)
alike_there m n a x live = there (get m x) (get n x) (a.class x) live
  where
    there : (o p : Option Node) → option_map (λ (n : Node). n.class) p ≡ option_map (λ (n : Node). n.class) o → IsSome o → IsSome p
    there None p h live = cc
    there (Some n) None h live = cc
    there (Some n) (Some k) h live = some_is (Some k) k refl

pub alike_place : (m n : Elements) → Alike m n → (p : Place) → IsPlaceThere m p → IsPlaceThere n p
alike_place m n a Root live = tt
alike_place m n a (Inside x f) live = alike_there m n a x live

alike_rewritten : (m n : Elements) (e : IdBytes) (h : Node → Node) → ((k : Node) → (h k).class ≡ k.class) → ((k : Node) → (h k).placed ≡ k.placed)
    → ((k : Node) → (h k).attrs ≡ k.attrs) → ((k : Node) → (h k).out ≡ k.out) → ((k : Node) → (h k).into ≡ k.into) → Rewrites m n e h → Alike m n
alike_rewritten m n e h class placed attrs out into w =
    let k = w.0 in
    let one = set m e (Some (h k)) in
    subst (λ x. Alike m x) (sym w.2) (record {
      class = kept m e (Some k) (Some (h k)) w.1 (option_map (λ (n : Node). n.class)) (ap Some (class k));
      placed = kept m e (Some k) (Some (h k)) w.1 (option_map (λ (n : Node). n.placed)) (ap Some (placed k));
      attrs = λ x l. kept m e (Some k) (Some (h k)) w.1 (λ a. inner (λ (n : Node). n.attrs) a l) (ap (λ p. get p l) (attrs k)) x;
      out = λ x l. kept m e (Some k) (Some (h k)) w.1 (λ a. inner (λ (n : Node). n.out) a l) (ap (λ p. get p l) (out k)) x;
      into = λ x l. kept m e (Some k) (Some (h k)) w.1 (λ a. inner (λ (n : Node). n.into) a l) (ap (λ p. get p l) (into k)) x;
    })

alike_own : (m n : Elements) → n ≡ m → Alike m n
alike_own m n is = subst (λ x. Alike m x) (sym is)
    (record { class = λ x. refl; placed = λ x. refl; attrs = λ x l. refl; out = λ x l. refl; into = λ x l. refl })

pub lists_alike : (p : Place) (e : IdBytes) (v : Option ℕ) (r : Ranks) (m : Elements) (r' : Ranks) (m' : Elements) → IsListWritten p e v r m r' m' → Alike m m'
lists_alike Root e v r m r' m' w = alike_own m m' w.1
lists_alike (Inside a f) e v r m r' m' w =
    alike_rewritten m m' a (λ (n : Node). record n { inside = set n.inside (f, e) v }) (λ k. refl) (λ k. refl) (λ k. refl) (λ k. refl) (λ k. refl) w.1

-- ---- tests of keys
pub both_ways : (b c : Bool) → (b ≡ true → c ≡ true) → (c ≡ true → b ≡ true) → b ≡ c
both_ways true c f g = sym (f refl)
both_ways false true f g = g refl
both_ways false false f g = refl

pub text_ties : (a b : IdBytes) → text_eq a b ≡ eq_by_cmp id_cmp b a
text_ties a b = nat_list_eq_equiv.symm a b ∙ texts_ties b a

pub nat_ties : (f g : ℕ) → nat_eq f g ≡ eq_by_cmp nat_cmp g f
nat_ties f g = both_ways (nat_eq f g) (eq_by_cmp nat_cmp g f)
    (λ h. subst (λ z. eq_by_cmp nat_cmp z f ≡ true) (nat_equality.exact f g h) (own_key nat_order f))
    (λ h. subst (λ z. nat_eq f z ≡ true) (sym (same_key nat_order g f h)) (nat_equality.own f))

pub place_turned : (p q : Place) → place_eq p q ≡ place_eq q p
place_turned p q = both_ways (place_eq p q) (place_eq q p) (turn p q) (turn q p)
  where
    turn : (p q : Place) → place_eq p q ≡ true → place_eq q p ≡ true
    turn p q h = subst (λ z. place_eq z p ≡ true) (place_equality.exact p q h) (place_equality.own p)

then_eq : (r s : Ordering) → is_eq (ordering_then r s) ≡ cond (is_eq r) (is_eq s) false
then_eq Less s = refl
then_eq Equal s = refl
then_eq Greater s = refl

list_key_ties : (g f : ℕ) (x e : IdBytes) → eq_by_cmp list_key_cmp (g, x) (f, e) ≡ cond (eq_by_cmp nat_cmp g f) (eq_by_cmp id_cmp x e) false
list_key_ties g f x e = then_eq (nat_cmp g f) (id_cmp x e)

attr_ties : (p a : IdBytes) (g f : ℕ) → eq_by_cmp attr_cmp (p, g) (a, f) ≡ cond (eq_by_cmp id_cmp p a) (eq_by_cmp nat_cmp g f) false
attr_ties p a g f = then_eq (id_cmp p a) (nat_cmp g f)

nested_hit : {X : Type 0} (x y z : Bool) (v o : Option X) → cond x (cond (cond y z false) v o) o ≡ cond (x && y) (cond z v o) o
nested_hit true true z v o = refl
nested_hit true false z v o = refl
nested_hit false y z v o = refl

-- ---- one entry of a list written
pub standing_listed : (p : Place) (e : IdBytes) (v : Option ℕ) (r : Ranks) (m : Elements) (r' : Ranks) (m' : Elements) → IsListWritten p e v r m r' m'
    → (q : Place) (x : IdBytes)
    → standing r' m' q x ≡ cond (place_eq p q) (cond (eq_by_cmp id_cmp x e) v (standing r m q x)) (standing r m q x)
standing_listed Root e v r m r' m' w Root x = ap (λ t. get t x) w.0 ∙ get-set id_order r e v x
standing_listed Root e v r m r' m' w (Inside b g) x = ap (λ t. inner (λ (n : Node). n.inside) (get t b) (g, x)) w.1
standing_listed (Inside a f) e v r m r' m' w Root x = ap (λ t. get t x) w.0
standing_listed (Inside a f) e v r m r' m' w (Inside b g) x =
    let n = w.1.0 in
    let k : Node = record n { inside = set n.inside (f, e) v } in
    let o = inner (λ (n : Node). n.inside) (get m b) (g, x) in
    ap (λ t. inner (λ (n : Node). n.inside) (get t b) (g, x)) w.1.2
    ∙ part_hit m a (Some n) (Some k) w.1.1 (λ (n : Node). n.inside) (f, e) v (λ l. get-set list_key_order n.inside (f, e) v l) b (g, x)
    ∙ ap (λ t. cond (eq_by_cmp id_cmp b a) (cond t v o) o) (list_key_ties g f x e)
    ∙ nested_hit (eq_by_cmp id_cmp b a) (eq_by_cmp nat_cmp g f) (eq_by_cmp id_cmp x e) v o
    ∙ (λ i. cond (sym (text_ties a b) i && sym (nat_ties f g) i) (cond (eq_by_cmp id_cmp x e) v o) o)

-- where another element stands at e, and the others as before
pub rehoused : (r : Ranks) (m : Elements) (r' : Ranks) (m' : Elements) (e : IdBytes) (w : Option Placed) → IsHoused r m
    → ((x : IdBytes) → placed_at m' x ≡ cond (eq_by_cmp id_cmp x e) w (placed_at m x))
    → ((p : Place) → standing r' m' p e ≡ stood p w)
    → ((p : Place) (x : IdBytes) → eq_by_cmp id_cmp x e ≡ false → standing r' m' p x ≡ standing r m p x)
    → IsHoused r' m'
rehoused r m r' m' e w housed placed here there p x =
    by_key id_order (λ x. standing r' m' p x ≡ stood p (placed_at m' x)) e x
    (here p ∙ ap (stood p) (sym (placed e ∙ ap (λ b. cond b w (placed_at m e)) (own_key id_order e))))
    (λ differ. there p x differ ∙ housed p x ∙ ap (stood p) (sym (placed x ∙ ap (λ b. cond b w (placed_at m x)) differ)))

-- the lists stay where what stands inside the one element stays
pub standing_kept : (r : Ranks) (m : Elements) (e : IdBytes) (o w : Option Node) → get m e ≡ o
    → ((l : ListKey) → inner (λ (n : Node). n.inside) w l ≡ inner (λ (n : Node). n.inside) o l) → (p : Place) (x : IdBytes)
    → standing r (set m e w) p x ≡ standing r m p x
standing_kept r m e o w is alike Root x = refl
standing_kept r m e o w is alike (Inside a f) x = kept m e o w is (λ t. inner (λ (n : Node). n.inside) t (f, x)) (alike (f, x)) a

pub housed_by : (r : Ranks) (m m' : Elements) → IsHoused r m → ((x : IdBytes) → placed_at m' x ≡ placed_at m x)
    → ((p : Place) (x : IdBytes) → standing r m' p x ≡ standing r m p x) → IsHoused r m'
housed_by r m m' housed placed stand p x = stand p x ∙ housed p x ∙ ap (stood p) (sym (placed x))

other : {X : Type 0} (b c : Bool) (v o : Option X) → c ≡ false → cond b (cond c v o) o ≡ o
other true c v o h = ap (λ t. cond t v o) h
other false c v o h = refl

own : {X : Type 0} (b c : Bool) (v o : Option X) → c ≡ true → cond b (cond c v o) o ≡ cond b v o
own true c v o h = ap (λ t. cond t v o) h
own false c v o h = refl

-- an element made, and put into the list of its place
pub housed_made : (r : Ranks) (m : Elements) (r' : Ranks) (m' : Elements) (e : IdBytes) (n : Node) → IsHoused r m → get m e ≡ None → n.inside ≡ empty
    → IsListWritten n.placed.place e (Some n.placed.rank) r (set m e (Some n)) r' m' → IsHoused r' m'
housed_made r m r' m' e n housed is bare w =
    let one = set m e (Some n) in
    let place = n.placed.place in
    let rank = n.placed.rank in
    let alike = lists_alike place e (Some rank) r one r' m' w in
    let same = standing_kept r m e None (Some n) is (λ l. ap (λ p. get p l) bare ∙ get-empty list_key_cmp l) in
    let listed = standing_listed place e (Some rank) r one r' m' w in
    rehoused r m r' m' e (Some n.placed) housed
    (λ x. alike.placed x ∙ hit m e None (Some n) is (option_map (λ (n : Node). n.placed)) x)
    (λ p. listed p e ∙ own (place_eq place p) (eq_by_cmp id_cmp e e) (Some rank) (standing r one p e) (own_key id_order e)
    ∙ ap (cond (place_eq place p) (Some rank)) (same p e ∙ housed p e ∙ ap (λ o. stood p (option_map (λ (n : Node). n.placed) o)) is)
    ∙ ap (λ b. cond b (Some rank) None) (place_turned place p))
    (λ p x differ. listed p x ∙ other (place_eq place p) (eq_by_cmp id_cmp x e) (Some rank) (standing r one p x) differ ∙ same p x)

-- an element taken out of its list, and gone
pub housed_gone : (r : Ranks) (m : Elements) (r' : Ranks) (m' : Elements) (e : IdBytes) (n : Node) → IsHoused r m → get m e ≡ Some n
    → ((f : ℕ) (x : IdBytes) → standing r m (Inside e f) x ≡ None)
    → IsListWritten n.placed.place e None r m r' m' → IsHoused r' (set m' e None)
housed_gone r m r' m' e n housed is bare w =
    let place = n.placed.place in
    let alike = lists_alike place e None r m r' m' w in
    let listed = standing_listed place e None r m r' m' w in
    let same = standing_kept r' m' e (get m' e) None refl
    (λ l. sym (listed (Inside e l.0) l.1 ∙ ap (λ o. cond (place_eq place (Inside e l.0)) (cond (eq_by_cmp id_cmp l.1 e) None o) o) (bare l.0 l.1)
    ∙ nothing (place_eq place (Inside e l.0)) (eq_by_cmp id_cmp l.1 e))) in
    rehoused r m r' (set m' e None) e None housed
    (λ x. hit m' e (get m' e) None refl (option_map (λ (n : Node). n.placed)) x ∙ ap (cond (eq_by_cmp id_cmp x e) None) (alike.placed x))
    (λ p. same p e ∙ listed p e ∙ own (place_eq place p) (eq_by_cmp id_cmp e e) None (standing r m p e) (own_key id_order e)
    ∙ ap (cond (place_eq place p) None)
    (housed p e ∙ ap (λ o. stood p (option_map (λ (n : Node). n.placed) o)) is ∙ ap (λ b. cond b (Some n.placed.rank) None) (place_turned p place))
    ∙ left (place_eq place p) (Some n.placed.rank))
    (λ p x differ. same p x ∙ listed p x ∙ other (place_eq place p) (eq_by_cmp id_cmp x e) None (standing r m p x) differ)
  where
    nothing : (b c : Bool) → ◌≡◌ {A = Option ℕ} (cond b (cond c None None) None) None
    nothing true true = refl
    nothing true false = refl
    nothing false c = refl

    left : (b : Bool) (o : Option ℕ) → cond b None (cond b o None) ≡ None
    left true o = refl
    left false o = refl

-- an element that gets another rank in its list
pub housed_reranked : (r : Ranks) (m : Elements) (r' : Ranks) (m' : Elements) (e : IdBytes) (n k : Node) (rank : ℕ) → IsHoused r m → get m e ≡ Some n
    → get m' e ≡ Some k
    → IsListWritten n.placed.place e (Some rank) r m r' m'
    → IsHoused r' (set m' e (Some (record k { placed = record { place = n.placed.place; rank = rank } })))
housed_reranked r m r' m' e n k rank housed is now w =
    let place = n.placed.place in
    let p' : Placed = record { place = place; rank = rank } in
    let k' : Node = record k { placed = p' } in
    let alike = lists_alike place e (Some rank) r m r' m' w in
    let listed = standing_listed place e (Some rank) r m r' m' w in
    let same = standing_kept r' m' e (Some k) (Some k') now (λ l. refl) in
    rehoused r m r' (set m' e (Some k')) e (Some p') housed
    (λ x. hit m' e (Some k) (Some k') now (option_map (λ (n : Node). n.placed)) x ∙ ap (cond (eq_by_cmp id_cmp x e) (Some p')) (alike.placed x))
    (λ p. same p e ∙ listed p e ∙ own (place_eq place p) (eq_by_cmp id_cmp e e) (Some rank) (standing r m p e) (own_key id_order e)
    ∙ ap (cond (place_eq place p) (Some rank))
    (housed p e ∙ ap (λ o. stood p (option_map (λ (n : Node). n.placed) o)) is ∙ ap (λ b. cond b (Some n.placed.rank) None) (place_turned p place))
    ∙ left (place_eq place p) (Some n.placed.rank) ∙ ap (λ b. cond b (Some rank) None) (place_turned place p))
    (λ p x differ. same p x ∙ listed p x ∙ other (place_eq place p) (eq_by_cmp id_cmp x e) (Some rank) (standing r m p x) differ)
  where
    left : (b : Bool) (o : Option ℕ) → cond b (Some rank) (cond b o None) ≡ cond b (Some rank) None
    left true o = refl
    left false o = refl

-- an element that goes from one list to another
pub housed_moved : (r : Ranks) (m : Elements) (r1 : Ranks) (m1 : Elements) (r2 : Ranks) (m2 : Elements) (e : IdBytes) (n k : Node) (to : Place)
    (rank : ℕ) → IsHoused r m → get m e ≡ Some n → get m2 e ≡ Some k
    → place_eq n.placed.place to ≡ false → IsListWritten to e (Some rank) r m r1 m1 → IsListWritten n.placed.place e None r1 m1 r2 m2
    → IsHoused r2 (set m2 e (Some (record k { placed = record { place = to; rank = rank } })))
housed_moved r m r1 m1 r2 m2 e n k to rank housed is now differ w u =
    let from = n.placed.place in
    let p' : Placed = record { place = to; rank = rank } in
    let k' : Node = record k { placed = p' } in
    let alike = lists_alike to e (Some rank) r m r1 m1 w in
    let alike' = lists_alike from e None r1 m1 r2 m2 u in
    let listed = standing_listed to e (Some rank) r m r1 m1 w in
    let listed' = standing_listed from e None r1 m1 r2 m2 u in
    let same = standing_kept r2 m2 e (Some k) (Some k') now (λ l. refl) in
    rehoused r m r2 (set m2 e (Some k')) e (Some p') housed
    (λ x. hit m2 e (Some k) (Some k') now (option_map (λ (n : Node). n.placed)) x
    ∙ ap (cond (eq_by_cmp id_cmp x e) (Some p')) (alike'.placed x ∙ alike.placed x))
    (λ p. same p e ∙ listed' p e ∙ own (place_eq from p) (eq_by_cmp id_cmp e e) None (standing r1 m1 p e) (own_key id_order e)
    ∙ ap (cond (place_eq from p) None) (listed p e ∙ own (place_eq to p) (eq_by_cmp id_cmp e e) (Some rank) (standing r m p e) (own_key id_order e)
    ∙ ap (cond (place_eq to p) (Some rank))
    (housed p e ∙ ap (λ o. stood p (option_map (λ (n : Node). n.placed) o)) is ∙ ap (λ b. cond b (Some n.placed.rank) None) (place_turned p from)))
    ∙ left (place_eq from p) (place_eq to p) (Some n.placed.rank) (not_both p) ∙ ap (λ b. cond b (Some rank) None) (place_turned to p))
    (λ p x apart. same p x ∙ listed' p x ∙ other (place_eq from p) (eq_by_cmp id_cmp x e) None (standing r1 m1 p x) apart ∙ listed p x
    ∙ other (place_eq to p) (eq_by_cmp id_cmp x e) (Some rank) (standing r m p x) apart)
  where
    left : (b c : Bool) (o : Option ℕ) → (b ≡ true → c ≡ false) → cond b None (cond c (Some rank) (cond b o None)) ≡ cond c (Some rank) None
    left true c o h = ap (λ t. cond t (Some rank) None) (sym (h refl))
    left false c o h = refl

    not_both : (p : Place) → place_eq n.placed.place p ≡ true → place_eq to p ≡ false
    not_both p h = subst (λ z. place_eq to z ≡ false) (place_equality.exact n.placed.place p h) (apart place_eq place_equality n.placed.place to differ)

-- ---- a reference written where it goes out and where it comes in
both_hit : {X : Type 0} (x y z : Bool) (v o : Option X) → cond x (cond (cond y z false) v o) o ≡ cond y (cond (cond z x false) v o) o
both_hit true true true v o = refl
both_hit true true false v o = refl
both_hit true false z v o = refl
both_hit false true true v o = refl
both_hit false true false v o = refl
both_hit false false z v o = refl

module _ (m one two : Elements) (a b : IdBytes) (f : ℕ) (v : Option ℕ)
    (into : Rewrites m one b (λ (n : Node). record n { into = set n.into (a, f) v }))
    (out : Rewrites one two a (λ (n : Node). record n { out = set n.out (f, b) v })) where
  pub mirrored_set : IsAtBothEnds m → IsAtBothEnds two
  mirrored_set mirror p q g =
      let k = into.0 in
      let k' : Node = record k { into = set k.into (a, f) v } in
      let n = out.0 in
      let n' : Node = record n { out = set n.out (f, b) v } in
      let o = inner (λ (n : Node). n.out) (get m p) (g, q) in
      let into_now = ap (λ t. inner (λ (n : Node). n.into) (get t q) (p, g)) out.2
      ∙ kept one a (Some n) (Some n') out.1 (λ t. inner (λ (n : Node). n.into) t (p, g)) refl q in
      let into_was = ap (λ t. inner (λ (n : Node). n.into) (get t q) (p, g)) into.2
      ∙ part_hit m b (Some k) (Some k') into.1 (λ (n : Node). n.into) (a, f) v (λ l. get-set attr_order k.into (a, f) v l) q (p, g) in
      let out_now = ap (λ t. inner (λ (n : Node). n.out) (get t p) (g, q)) out.2
      ∙ part_hit one a (Some n) (Some n') out.1 (λ (n : Node). n.out) (f, b) v (λ l. get-set list_key_order n.out (f, b) v l) p (g, q) in
      let out_was = ap (λ t. inner (λ (n : Node). n.out) (get t p) (g, q)) into.2
      ∙ kept m b (Some k) (Some k') into.1 (λ t. inner (λ (n : Node). n.out) t (g, q)) refl p in
      into_now ∙ into_was
      ∙ ap (λ t. cond (eq_by_cmp id_cmp q b) (cond (eq_by_cmp attr_cmp (p, g) (a, f)) v t) t) (mirror p q g)
      ∙ ap (λ t. cond (eq_by_cmp id_cmp q b) (cond t v o) o) (attr_ties p a g f)
      ∙ both_hit (eq_by_cmp id_cmp q b) (eq_by_cmp id_cmp p a) (eq_by_cmp nat_cmp g f) v o
      ∙ sym (
      out_now ∙ ap (λ t. cond (eq_by_cmp id_cmp p a) (cond (eq_by_cmp list_key_cmp (g, q) (f, b)) v t) t) out_was
      ∙ ap (λ t. cond (eq_by_cmp id_cmp p a) (cond t v o) o) (list_key_ties g f q b))

  into_alike : nodes_state one ≡ nodes_state m
  into_alike =
      let k = into.0 in
      let w : Option Node = Some (record k { into = set k.into (a, f) v }) in
      let done = set m b w in
      let kind = same_class m done (kept m b (Some k) w into.1 (option_map (λ (n : Node). n.class)) refl) in
      let place = same_place m done (kept m b (Some k) w into.1 (option_map (λ (n : Node). n.placed)) refl) in
      let prank = same_prank m done (kept m b (Some k) w into.1 (option_map (λ (n : Node). n.placed)) refl) in
      let attr = same_attr m done (λ x l. kept m b (Some k) w into.1 (λ t. inner (λ (n : Node). n.attrs) t l) refl x) in
      let row = same_row m done (λ x l. kept m b (Some k) w into.1 (λ t. inner (λ (n : Node). n.out) t l) refl x) in
      ap nodes_state into.2
      ∙ (λ i. record { kind = kind i; place = place i; prank = prank i; attr = attr i; row = row i })

  pub row_written : nodes_state two ≡ record (nodes_state m) { row = set (nodes_state m).row (a, f, b) v }
  row_written =
      ap nodes_state out.2 ∙ out_written one a out.0 out.1 (f, b) v
      ∙ ap (λ (s : State). record s { row = set s.row (a, f, b) v }) into_alike

  pub standing_linked : (r : Ranks) (p : Place) (x : IdBytes) → standing r two p x ≡ standing r m p x
  standing_linked r p x =
      let k = into.0 in
      let n = out.0 in
      ap (λ t. standing r t p x) out.2
      ∙ standing_kept r one a (Some n) (Some (record n { out = set n.out (f, b) v })) out.1 (λ l. refl) p x
      ∙ ap (λ t. standing r t p x) into.2
      ∙ standing_kept r m b (Some k) (Some (record k { into = set k.into (a, f) v })) into.1 (λ l. refl) p x

  pub placed_linked : (x : IdBytes) → placed_at two x ≡ placed_at m x
  placed_linked x =
      let k = into.0 in
      let n = out.0 in
      ap (λ t. placed_at t x) out.2
      ∙ kept one a (Some n) (Some (record n { out = set n.out (f, b) v })) out.1 (option_map (λ (n : Node). n.placed)) refl x
      ∙ ap (λ t. placed_at t x) into.2
      ∙ kept m b (Some k) (Some (record k { into = set k.into (a, f) v })) into.1 (option_map (λ (n : Node). n.placed)) refl x
