-- What an index of the classifiers answers.
use Rattle.std.proofs.Common.{◌≡◌, ℕ, ◌+◌, ◌≤◌, ◌<◌, List, [], ◌∷◌, ◌++◌, ap, subst, sym, zero, suc, ◌∙◌, arith, length, map, take, get_or}
use Rattle.std.specs.Prelude.{Option, None, Some, slice_get, ◌^◌}
use Rattle.std.specs.BTreeMap.{BTreeMap}
use denote.Ref.{Bor}
use Rattle.std.specs.Option.{option_and_then}
use Rattle.std.proofs.lemmas.List.{length-map, take_more}
use Rattle.ecore_meta.proofs.NameLaws.{number_of-below}
use Rattle.ecore_drafts.proofs.PlaceLaws.{feature_is as place_is}
use Rattle.ecore_drafts.specs.declared.rows.FeatureRow.{FeatureRow}
use Rattle.ecore_meta.specs.Names.{Name, number_of, place_in}
use Rattle.ecore_drafts.specs.Document.{ClassifierRows, classifier_name, feature_names, feature_number, feature_total}
use Rattle.ecore_drafts.specs.Classifiers.{AllPlaced, FitsIn, Placed, Tells, classifier_named, number_at, numbered}
use Rattle.ecore_drafts.specs.declared.classifiers.Classifier.{Classifier}
use Rattle.ecore_drafts.specs.declared.classifiers.Classifier.TheVariants.{Class as OfClass, Enum as OfEnum, Plain as OfPlain}
use Rattle.ecore_drafts.specs.declared.rows.ClassifierRow.TheVariants.{Class, Enum, Plain}
use Rattle.ecore_drafts.specs.declared.rows.ClassifierRow.{ClassifierRow}
use Rattle.ecore_drafts.specs.declared.rows.ClassRow.{ClassRow}
use Rattle.ecore_drafts.specs.Counts.{too_many}

pub named_is : (rows : ClassifierRows) (index : BTreeMap (Bor Name) ℕ) (numbers : List Classifier) (own : List (BTreeMap (Bor Name) ℕ))
    → Tells rows index numbers own → (q : Name) → option_and_then (λ p. slice_get numbers p) (place_in index q) ≡ classifier_named rows q
unfolding classifier_named
named_is rows index numbers own tells q =
    ap (λ o. option_and_then (λ p. slice_get numbers p) o) (tells.places q)
    ∙ ap (λ ns. option_and_then (λ p. slice_get ns p) (number_of q (map classifier_name rows))) tells.kinds

-- the features that a class declares are numbered below their total
pub first_fits : (c f e : ℕ) (rows : ClassifierRows) (p n first : ℕ) (row : ClassRow) → slice_get rows p ≡ Some (Class row)
    → slice_get (numbered c f e rows) p ≡ Some (OfClass n first) → first + length row.features ≤ f + feature_total rows
first_fits c f e [] p n first row h k = cc
first_fits c f e (Class r ∷ rows) zero n first row h k =
    let same : r ≡ row = cc in let at : f ≡ first = cc in
    subst (λ x. first + length x.features ≤ f + (length r.features + feature_total rows)) same (omega (arith, at))
first_fits c f e (Enum r ∷ rows) zero n first row h k = cc
first_fits c f e (Plain t ∷ rows) zero n first row h k = cc
first_fits c f e (Class r ∷ rows) (suc p) n first row h k = let more = first_fits (suc c) (f + length r.features) e rows p n first row h k
    in omega (arith, more)
first_fits c f e (Enum r ∷ rows) (suc p) n first row h k = let more = first_fits c f (suc e) rows p n first row h k in omega (arith, more)
first_fits c f e (Plain t ∷ rows) (suc p) n first row h k = let more = first_fits c f e rows p n first row h k in omega (arith, more)

-- a class at its place has numbers for its features
pub fits_at : (rows : ClassifierRows) (p : ℕ) (row : ClassifierRow) (kind : Option Classifier) → feature_total rows < too_many
    → slice_get rows p ≡ Some row → slice_get (numbered 0 0 0 rows) p ≡ kind → FitsIn row kind
fits_at rows p (Class row) (Some (OfClass n first)) few h k = let fits = first_fits 0 0 0 rows p n first row h k in omega (arith, fits)
fits_at rows p (Class row) (Some (OfEnum e empty)) few h k = tt
fits_at rows p (Class row) (Some OfPlain) few h k = tt
fits_at rows p (Class row) None few h k = tt
fits_at rows p (Enum e) kind few h k = tt
fits_at rows p (Plain t) kind few h k = tt

pub feature_is : (rows : ClassifierRows) (index : BTreeMap (Bor Name) ℕ) (numbers : List Classifier) (own : List (BTreeMap (Bor Name) ℕ))
    → Tells rows index numbers own → (class feature : Name)
    → option_and_then (λ p. number_at rows p feature) (place_in index class) ≡ feature_number rows class feature
feature_is rows index numbers own tells class feature =
    ap (λ o. option_and_then (λ p. number_at rows p feature) o) (tells.places class) ∙ place_is rows class feature tells.apart

placed_push : (rows : ClassifierRows) (ms : List (BTreeMap (Bor Name) ℕ)) (row : ClassifierRow) (m : BTreeMap (Bor Name) ℕ) → AllPlaced rows ms
    → Placed row m → AllPlaced (rows ++ row ∷ []) (ms ++ m ∷ [])
placed_push [] [] row m all here = (here, tt)
placed_push [] (x ∷ ms) row m all here = absurd all
placed_push (x ∷ rows) [] row m all here = absurd all
placed_push (x ∷ rows) (y ∷ ms) row m all here = (all.0, placed_push rows ms row m all.1 here)

-- the places of the rows so far, with the next
pub placed_more : (rows : ClassifierRows) (i : ℕ) (d : ClassifierRow) (ms : List (BTreeMap (Bor Name) ℕ)) (m : BTreeMap (Bor Name) ℕ)
    (ns : List (BTreeMap (Bor Name) ℕ)) → ns ≡ ms ++ m ∷ [] → i < length rows → AllPlaced (take i rows) ms → d ≡ get_or rows i d → Placed d m
    → AllPlaced (take (i + 1) rows) ns
placed_more rows i d ms m ns is h all at here =
    subst (λ ks. AllPlaced (take (i + 1) rows) ks) (sym is)
    (subst (λ xs. AllPlaced xs (ms ++ m ∷ [])) (sym (take_more rows i d h))
    (placed_push (take i rows) ms (get_or rows i d) m all (subst (λ r. Placed r m) at here)))

-- the places of a row, by the table
pub placed_at : (rows : ClassifierRows) (ms : List (BTreeMap (Bor Name) ℕ)) (p : ℕ) (row : ClassifierRow) (m : BTreeMap (Bor Name) ℕ)
    → AllPlaced rows ms → Some row ≡ slice_get rows p → Some m ≡ slice_get ms p → Placed row m
placed_at [] ms p row m all r s = cc
placed_at (x ∷ rows) [] p row m all r s = absurd all
placed_at (x ∷ rows) (y ∷ ms) zero row m all r s = subst (λ k. Placed k m) (same_some x row (sym r)) (subst (Placed x) (same_map y m (sym s)) all.0)
  where
    same_some : (a b : ClassifierRow) → Some a ≡ Some b → a ≡ b
    same_some a b h = cc

    same_map : (a b : BTreeMap (Bor Name) ℕ) → Some a ≡ Some b → a ≡ b
    same_map a b h = cc
placed_at (x ∷ rows) (y ∷ ms) (suc p) row m all r s = placed_at rows ms p row m all.1 r s

-- each row has its places
pub placed_some : (rows : ClassifierRows) (ms : List (BTreeMap (Bor Name) ℕ)) (p : ℕ) (row : ClassifierRow) → AllPlaced rows ms
    → Some row ≡ slice_get rows p → None ≡ slice_get ms p → ⊥
placed_some [] ms p row all r s = cc
placed_some (x ∷ rows) [] p row all r s = all
placed_some (x ∷ rows) (y ∷ ms) zero row all r s = cc
placed_some (x ∷ rows) (y ∷ ms) (suc p) row all r s = placed_some rows ms p row all.1 r s

-- the number of a feature fits, where its class's features have numbers
pub fits_place : (row : ClassifierRow) (kind : Option Classifier) (k : ClassRow) (n first p : ℕ) (m : BTreeMap (Bor Name) ℕ) (q : Name)
    → row ≡ Class k → kind ≡ Some (OfClass n first) → FitsIn row kind → Placed row m → place_in m q ≡ Some p → first + p < 2 ^ 32
fits_place row kind k n first p m q r t fits placed at =
    let f : first + length k.features < 2 ^ 32 = subst (λ x. FitsIn x (Some (OfClass n first))) r (subst (FitsIn row) t fits) in
    let g : number_of q (feature_names k.features) ≡ Some p = sym (subst (λ x. Placed x m) r placed q) ∙ at in
    let h = number_of-below q (feature_names k.features) p g in
    omega (arith, f, h, length-map k.features (λ (x : FeatureRow). x.name))
