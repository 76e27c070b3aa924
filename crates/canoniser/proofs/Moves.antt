-- What a rule leaves of lists to which no rule applies.
use Rattle.std.proofs.Common.{◌≡◌, true, false, List, [], ◌∷◌, ◌++◌, refl, sym, ap, subst, ◌∙◌, append_assoc}
use Rattle.std.specs.Prelude.{Option, None, Some}
use Rattle.finite_maps.proofs.Cases.{true_false}
use Rattle.ecore_meta.specs.Meta.{Meta}
use Rattle.model_state.specs.declared.operation.Operation.{Operation}
use Rattle.footprint.specs.Interference.{interferes, Free}
use Rattle.footprint.proofs.Pairs.{symmetric_false}
use Rattle.merge_laws.specs.Rules.{met, NoneMet, NoRule, OneRule}
use Rattle.merge_laws.specs.Tidy.{onto, Unmet, Settled}
use Rattle.merge_laws.proofs.Lists.{onto_front, onto_append}
use Rattle.merge_laws.proofs.Search.{no_rule, settled_first}
use Rattle.canoniser.specs.Meetings.{list_of, touches, Apart}
use Rattle.canoniser.proofs.Cells.{met_print}
use Rattle.canoniser.proofs.Touches.{Alike, no_clash, alike_apart, met_alike, alike_print, apart_none, apart_none_back, touch_stops}

-- ---- lists that do not touch
pub apart_more : (meta : Meta) (b : Operation) (xs ys : List Operation) → Apart meta b xs → Apart meta b ys → Apart meta b (xs ++ ys)
apart_more meta b [] ys h g = g
apart_more meta b (x ∷ xs) ys h g = (h.0, apart_more meta b xs ys h.1 g)

apart_onto : (meta : Meta) (b : Operation) (xs ys : List Operation) → Apart meta b xs → Apart meta b ys → Apart meta b (onto xs ys)
apart_onto meta b [] ys h g = g
apart_onto meta b (x ∷ xs) ys h g = apart_onto meta b xs (x ∷ ys) h.1 (h.0, g)

apart_alike : (meta : Meta) (a b : Operation) (ys : List Operation) → Alike meta a b → Apart meta b ys → Apart meta a ys
apart_alike meta a b [] al h = tt
apart_alike meta a b (y ∷ ys) al h = (alike_apart meta a b y al h.0, apart_alike meta a b ys al h.1)

apart_free : (meta : Meta) (b : Operation) (ys : List Operation) → Apart meta b ys → Free meta b ys
apart_free meta b [] h = tt
apart_free meta b (y ∷ ys) h = (no_clash meta b y h.0, apart_free meta b ys h.1)

apart_unmet : (meta : Meta) (b : Operation) (ys : List Operation) → Apart meta b ys → NoneMet b ys
apart_unmet meta b [] h = tt
apart_unmet meta b (y ∷ ys) h = (apart_none_back meta y b h.0, apart_unmet meta b ys h.1)

-- ---- one operation more, or less, among those to which no rule applies; the nearest first
unmet_put : (meta : Meta) (y b : Operation) (near far : List Operation) → met b y ≡ None → Unmet meta y (near ++ far) → Unmet meta y (near ++ (b ∷ far))
unmet_put meta y b [] far none h = (none, λ _. h)
unmet_put meta y b (x ∷ near) far none h = (h.0, λ free. unmet_put meta y b near far none (h.1 free))

unmet_out : (meta : Meta) (y a : Operation) (near far : List Operation) → interferes meta y a ≡ false → Unmet meta y (near ++ (a ∷ far))
    → Unmet meta y (near ++ far)
unmet_out meta y a [] far out h = h.1 out
unmet_out meta y a (x ∷ near) far out h = (h.0, λ free. unmet_out meta y a near far out (h.1 free))

settled_put : (meta : Meta) (b : Operation) (later far : List Operation) → Apart meta b later → Unmet meta b far → Settled meta (later ++ far)
    → Settled meta (later ++ (b ∷ far))
settled_put meta b [] far apart unmet h = (unmet, h)
settled_put meta b (y ∷ later) far apart unmet h =
    (unmet_put meta y b later far (apart_none meta b y apart.0) h.0, settled_put meta b later far apart.1 unmet h.1)

settled_out : (meta : Meta) (a : Operation) (later far : List Operation) → Apart meta a later → Settled meta (later ++ (a ∷ far)) → Settled meta (later ++ far)
settled_out meta a [] far apart h = h.1
settled_out meta a (y ∷ later) far apart h =
    (unmet_out meta y a later far (symmetric_false meta a y (no_clash meta a y apart.0)) h.0, settled_out meta a later far apart.1 h.1)

unmet_all : (meta : Meta) (b : Operation) (before : List Operation) → Apart meta b before → Unmet meta b before
unmet_all meta b [] h = tt
unmet_all meta b (a ∷ before) h = (apart_none_back meta a b h.0, λ _. unmet_all meta b before h.1)

unmet_stop : (meta : Meta) (b a : Operation) (near far : List Operation) → Apart meta b near → met a b ≡ None → interferes meta b a ≡ true
    → Unmet meta b (near ++ (a ∷ far))
unmet_stop meta b a [] far apart none stop = (none, λ out. absurd (true_false (interferes meta b a) stop out))
unmet_stop meta b a (x ∷ near) far apart none stop = (apart_none_back meta x b apart.0, λ _. unmet_stop meta b a near far apart.1 none stop)

-- ---- the same in their order
turned : (xs ys : List Operation) → onto (xs ++ ys) [] ≡ onto ys [] ++ onto xs []
turned xs ys = onto_append xs ys [] ∙ onto_front ys (onto xs [])

twice : (xs ys : List Operation) → onto (onto xs ys) [] ≡ onto ys xs
twice [] ys = refl
twice (x ∷ xs) ys = twice xs (x ∷ ys)

pub settled_rule : (meta : Meta) (before : List Operation) → Settled meta (onto before []) → NoRule meta before
settled_rule meta before h = subst (NoRule meta) (twice before []) (no_rule meta (onto before []) h)

around : (xs ys : List Operation) (a : Operation) → onto (xs ++ (a ∷ ys)) [] ≡ onto ys [] ++ (a ∷ onto xs [])
around xs ys a = onto_append xs (a ∷ ys) [] ∙ onto_front ys (a ∷ onto xs [])

-- an operation comes to stand among the others
pub stays : (meta : Meta) (b : Operation) (front back : List Operation) → Unmet meta b (onto front []) → Apart meta b back
    → Settled meta (onto (front ++ back) []) → Settled meta (onto (front ++ (b ∷ back)) [])
stays meta b front back unmet apart h =
    subst (Settled meta) (sym (around front back b))
    (settled_put meta b (onto back []) (onto front []) (apart_onto meta b back [] apart tt) unmet (subst (Settled meta) (turned front back) h))

pub passes_all : (meta : Meta) (b : Operation) (front : List Operation) → Apart meta b front → Unmet meta b (onto front [])
passes_all meta b front apart = unmet_all meta b (onto front []) (apart_onto meta b front [] apart tt)

pub passes_stop : (meta : Meta) (b a : Operation) (front mid : List Operation) → Apart meta b mid → met a b ≡ None → touches meta b a ≡ true
    → Unmet meta b (onto (front ++ (a ∷ mid)) [])
passes_stop meta b a front mid apart none touch =
    subst (Unmet meta b) (sym (around front mid a))
    (unmet_stop meta b a (onto mid []) (onto front []) (apart_onto meta b mid [] apart tt) none (touch_stops meta a b touch none))

-- ---- a rule
module _ (meta : Meta) (a b : Operation) (front mid back : List Operation) (left : Option Operation) (between : Apart meta b mid)
    (apart : Apart meta b back) (settled : Settled meta (onto ((front ++ (a ∷ mid)) ++ back) [])) (rule : met a b ≡ Some (list_of left)) where
  alike : Alike meta a b
  alike = met_alike meta a b (list_of left) rule

  behind : Apart meta a (mid ++ back)
  behind = apart_alike meta a b (mid ++ back) alike (apart_more meta b mid back between apart)

  -- no rule applies to the others
  pub others_settled : Settled meta (onto (front ++ (mid ++ back)) [])
  others_settled =
      subst (Settled meta) (sym (turned front (mid ++ back)))
      (settled_out meta a (onto (mid ++ back) []) (onto front []) (apart_onto meta a (mid ++ back) [] behind tt)
      (subst (Settled meta) (around front (mid ++ back) a) (subst (λ l. Settled meta (onto l [])) (append_assoc front (a ∷ mid) back) settled)))

  -- what is left of both touches none of those after it
  pub left_apart : (c : Operation) → left ≡ Some c → Apart meta c (mid ++ back)
  left_apart c is =
      let same = met_print meta a b c (rule ∙ ap (λ o. Some (list_of o)) is) in
      apart_alike meta c a (mid ++ back) (alike_print meta c a same.0 same.1) behind

  pub rule_taken : (rest : List Operation) → OneRule meta ((front ++ (a ∷ mid)) ++ (b ∷ (back ++ rest))) (front ++ (list_of left ++ (mid ++ (back ++ rest))))
  rule_taken rest = record {
    front = front;
    a = a;
    mid = mid;
    b = b;
    back = back ++ rest;
    left = list_of left;
    at = append_assoc front (a ∷ mid) (b ∷ (back ++ rest));
    free = apart_free meta b mid between;
    rule = rule;
    least = settled_rule meta (front ++ (a ∷ mid))
        (settled_first meta (onto back []) (onto (front ++ (a ∷ mid)) []) (subst (Settled meta) (turned (front ++ (a ∷ mid)) back) settled));
    greatest = apart_unmet meta b mid between;
    gives = refl;
  }
