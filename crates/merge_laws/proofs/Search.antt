-- The search for a rule finds the first, and finds none only where none applies.
use Rattle.std.proofs.Common.{◌≡◌, ◌<◌, true, false, cond, List, [], ◌∷◌, ◌++◌, refl, sym, ap, subst, ◌∙◌, length, arith}
use Rattle.std.specs.Prelude.{None, Some}
use Rattle.std.specs.Option.{option_map}
use Rattle.std.proofs.lemmas.List.{append-nil}
use Rattle.ecore_meta.specs.Meta.{Meta}
use Rattle.finite_maps.proofs.Cases.{true_false}
use Rattle.model_state.specs.declared.operation.Operation.{Operation}
use Rattle.footprint.specs.Interference.{interferes, Free}
use Rattle.merge_laws.specs.Rules.{takes_back, joined_op, met, NoneMet, NoRule, OneRule}
use Rattle.merge_laws.specs.Tidy.{onto, met_or, into, put_back, once, Unmet, Settled}
use Rattle.merge_laws.proofs.Lists.{onto_front, onto_append}

pub some_same : {A : Type 0} (x y : A) → Some x ≡ Some y → x ≡ y
some_same x y h = cc

-- ---- no rule, by recursion on the operations before, nearest first
unmet_at : (meta : Meta) (b : Operation) (near : List Operation) (a : Operation) (far : List Operation) → Unmet meta b (near ++ (a ∷ far))
    → Free meta b near → met a b ≡ None
unmet_at meta b [] a far h free = h.0
unmet_at meta b (x ∷ near) a far h free = unmet_at meta b near a far (h.1 free.0) free.1

settled_at : (meta : Meta) (later : List Operation) (b : Operation) (before : List Operation) → Settled meta (later ++ (b ∷ before)) → Unmet meta b before
settled_at meta [] b before h = h.0
settled_at meta (x ∷ later) b before h = settled_at meta later b before h.1

free_more : (meta : Meta) (b : Operation) (xs ys : List Operation) → Free meta b xs → Free meta b ys → Free meta b (xs ++ ys)
free_more meta b [] ys h g = g
free_more meta b (x ∷ xs) ys h g = (h.0, free_more meta b xs ys h.1 g)

pub free_onto : (meta : Meta) (b : Operation) (xs ys : List Operation) → Free meta b xs → Free meta b ys → Free meta b (onto xs ys)
free_onto meta b [] ys h g = g
free_onto meta b (x ∷ xs) ys h g = free_onto meta b xs (x ∷ ys) h.1 (h.0, g)

pub none_onto : (b : Operation) (xs ys : List Operation) → NoneMet b xs → NoneMet b ys → NoneMet b (onto xs ys)
none_onto b [] ys h g = g
none_onto b (x ∷ xs) ys h g = none_onto b xs (x ∷ ys) h.1 (h.0, g)

onto_twice : (xs ys : List Operation) → onto (onto xs ys) [] ≡ onto ys xs
onto_twice [] ys = refl
onto_twice (x ∷ xs) ys = onto_twice xs (x ∷ ys)

-- a list nearest first, turned, has no rule
pub no_rule : (meta : Meta) (before : List Operation) → Settled meta before → NoRule meta (onto before [])
no_rule meta before settled front mid back a b is free =
    let turned : before ≡ onto (front ++ (a ∷ (mid ++ (b ∷ back)))) [] = sym (onto_twice before []) ∙ ap (λ l. onto l []) is in
    let cut : onto (front ++ (a ∷ (mid ++ (b ∷ back)))) [] ≡ onto back [] ++ (b ∷ (onto mid [] ++ (a ∷ onto front []))) =
    onto_append front (a ∷ (mid ++ (b ∷ back))) []
    ∙ onto_append mid (b ∷ back) (a ∷ onto front [])
    ∙ onto_front back (b ∷ onto mid (a ∷ onto front []))
    ∙ ap (λ l. onto back [] ++ (b ∷ l)) (onto_front mid (a ∷ onto front [])) in
    unmet_at meta b (onto mid []) a (onto front [])
    (settled_at meta (onto back []) b (onto mid [] ++ (a ∷ onto front [])) (subst (Settled meta) (turned ∙ cut) settled))
    (free_onto meta b mid [] free tt)

-- ---- one operation among those before it
pub record Found (meta : Meta) (b : Operation) (before after : List Operation) : Type 0 where
  pub near : List Operation
  pub a : Operation
  pub far : List Operation
  pub left : List Operation
  pub at : before ≡ near ++ (a ∷ far)
  pub free : Free meta b near
  pub none : NoneMet b near
  pub rule : met a b ≡ Some left
  pub gives : after ≡ near ++ (left ++ far)

pub into_some : (meta : Meta) (b : Operation) (before after : List Operation) → into meta b before ≡ Some after → Found meta b before after
into_some meta b [] after h = cc
into_some meta b (a ∷ before) after h =
    elim (met a b) as (λ o. met a b ≡ o → met_or o (interferes meta b a) a before (into meta b before) ≡ Some after → Found meta b (a ∷ before) after) [
      | Some left ↦ λ is g. record {
        near = [];
        a = a;
        far = before;
        left = left;
        at = refl;
        free = tt;
        none = tt;
        rule = is;
        gives =
            sym (some_same (left ++ before) after g);
      }
      | None ↦ λ is. elim (interferes meta b a) as (λ t. interferes meta b a ≡ t → met_or None t a before (into meta b before) ≡ Some after
          → Found meta b (a ∷ before) after) [
            | true ↦ λ _ g. cc
            | false ↦ λ out. elim (into meta b before) as (λ o. into meta b before ≡ o → option_map (λ l. a ∷ l) o ≡ Some after
                → Found meta b (a ∷ before) after) [
                  | None ↦ λ _ g. cc
                  | Some l ↦ λ on g.
                      let f = into_some meta b before l on in
                      record {
                        near = a ∷ f.near;
                        a = f.a;
                        far = f.far;
                        left = f.left;
                        at = ap (λ l. a ∷ l) f.at;
                        free = (out, f.free);
                        none = (is, f.none);
                        rule = f.rule;
                        gives = sym (some_same (a ∷ l) after g) ∙ ap (λ l. a ∷ l) f.gives;
                      }
                ] refl
          ] refl
    ] refl h

pub into_none : (meta : Meta) (b : Operation) (before : List Operation) → into meta b before ≡ None → Unmet meta b before
into_none meta b [] h = tt
into_none meta b (a ∷ before) h =
    elim (met a b) as (λ o. met a b ≡ o → met_or o (interferes meta b a) a before (into meta b before) ≡ None → Unmet meta b (a ∷ before)) [
      | Some left ↦ λ is g. cc
      | None ↦ λ is. elim (interferes meta b a) as (λ t. interferes meta b a ≡ t → met_or None t a before (into meta b before) ≡ None
          → Unmet meta b (a ∷ before)) [
            | true ↦ λ stop g. (is, λ out. absurd (true_false _ stop out))
            | false ↦ λ out. elim (into meta b before) as (λ o. into meta b before ≡ o → option_map (λ l. a ∷ l) o ≡ None → Unmet meta b (a ∷ before)) [
              | None ↦ λ on g. (is, λ _. into_none meta b before on)
              | Some l ↦ λ _ g. cc
            ] refl
          ] refl
    ] refl h

-- a rule leaves at most one operation
pub one_left : (a b : Operation) (left : List Operation) → met a b ≡ Some left → (onto left [] ≡ left) × (length left < 2)
one_left a b left h =
    elim (takes_back b a) as (λ t. cond t (Some []) (option_map (λ c. c ∷ []) (joined_op a b)) ≡ Some left → (onto left [] ≡ left) × (length left < 2)) [
      | true ↦ λ g. subst (λ l. (onto l [] ≡ l) × (length l < 2)) (some_same [] left g) (refl, omega arith)
      | false ↦ elim (joined_op a b) as (λ o. option_map (λ c. c ∷ []) o ≡ Some left → (onto left [] ≡ left) × (length left < 2)) [
        | None ↦ λ g. cc
        | Some c ↦ λ g. subst (λ l. (onto l [] ≡ l) × (length l < 2)) (some_same (c ∷ []) left g) (refl, omega arith)
      ]
    ] h

pub settled_first : (meta : Meta) (xs ys : List Operation) → Settled meta (xs ++ ys) → Settled meta ys
settled_first meta [] ys h = h
settled_first meta (x ∷ xs) ys h = settled_first meta xs ys h.1

-- ---- the whole list
pub found_rule : (meta : Meta) (b : Operation) (before after rest : List Operation) → Settled meta before → Found meta b before after
    → OneRule meta (onto before (b ∷ rest)) (onto after rest)
found_rule meta b before after rest settled f =
    let front = onto f.far [] in
    let mid = onto f.near [] in
    let turned : (tail : List Operation) → onto before tail ≡ front ++ (f.a ∷ (mid ++ tail)) =
    λ tail. ap (λ l. onto l tail) f.at ∙ onto_append f.near (f.a ∷ f.far) tail ∙ onto_front f.far (f.a ∷ onto f.near tail)
    ∙ ap (λ l. front ++ (f.a ∷ l)) (onto_front f.near tail) in
    record {
      front = front;
      a = f.a;
      mid = mid;
      b = b;
      back = rest;
      left = f.left;
      at = turned (b ∷ rest);
      free = free_onto meta b f.near [] f.free tt;
      rule = f.rule;
      least = subst (NoRule meta) (turned [] ∙ ap (λ l. front ++ (f.a ∷ l)) (append-nil mid)) (no_rule meta before settled);
      greatest = none_onto b f.near [] f.none tt;
      gives =
          ap (λ l. onto l rest) f.gives
          ∙ onto_append f.near (f.left ++ f.far) rest
          ∙ onto_append f.left f.far (onto f.near rest)
          ∙ onto_front f.far (onto f.left (onto f.near rest))
          ∙ ap (λ l. front ++ l)
          (onto_front f.left (onto f.near rest) ∙ ap (λ l. l ++ onto f.near rest) (one_left f.a b f.left f.rule).0
          ∙ ap (λ l. f.left ++ l) (onto_front f.near rest));
    }

pub once_some : (meta : Meta) (before rest q : List Operation) → Settled meta before → once meta before rest ≡ Some q → OneRule meta (onto before rest) q
once_some meta before [] q settled h = cc
once_some meta before (b ∷ rest) q settled h =
    elim (into meta b before) as (λ o. into meta b before ≡ o → put_back o rest (once meta (b ∷ before) rest) ≡ Some q
    → OneRule meta (onto before (b ∷ rest)) q) [
      | Some after ↦ λ is g.
          subst (OneRule meta (onto before (b ∷ rest))) (some_same (onto after rest) q g)
          (found_rule meta b before after rest settled (into_some meta b before after is))
      | None ↦ λ is g. once_some meta (b ∷ before) rest q (into_none meta b before is, settled) g
    ] refl h

pub once_none : (meta : Meta) (before rest : List Operation) → Settled meta before → once meta before rest ≡ None → NoRule meta (onto before rest)
once_none meta before [] settled h = no_rule meta before settled
once_none meta before (b ∷ rest) settled h =
    elim (into meta b before) as (λ o. into meta b before ≡ o → put_back o rest (once meta (b ∷ before) rest) ≡ None → NoRule meta (onto before (b ∷ rest))) [
      | Some after ↦ λ is g. cc
      | None ↦ λ is g. once_none meta (b ∷ before) rest (into_none meta b before is, settled) g
    ] refl h
