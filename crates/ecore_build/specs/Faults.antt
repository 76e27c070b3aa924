-- The faults of a document, each over the whole of it, in the order in which they are looked for.
use Rattle.std.specs.Prelude.{◌≡◌, ℕ, pos, negsuc, suc, Bool, true, false, List, [], ◌∷◌, Option, None, Some, slice_get, map, length, cond, not}
use Rattle.std.specs.Prelude.{is_some, nat_eq, int_lt, ◌&&◌, ◌||◌}
use Rattle.std.specs.Ordering.{int_eq}
use Rattle.std.specs.List.{list_any, filter, flat_map, range_with_len}
use Rattle.std.specs.Option.{option_map_or}
use Rattle.ecore_meta.specs.Names.{Name, has_repeat}
use Rattle.ecore_drafts.specs.Supers.{is_above, super_cycle}
use Rattle.ecore_drafts.specs.Document.{ClassifierRows, classifier_name, enums_of, feature_names, lacks_super, supers_in}
use Rattle.ecore_drafts.specs.Drafts.{drafts}
use Rattle.ecore_meta.specs.Values.{value_of}
use Rattle.ecore_build.specs.declared.fault.MetaFault.{MetaFault}
use Rattle.ecore_build.specs.declared.fault.MetaFault.TheVariants.{DupName, Unsupported as UnsupportedFault, NoType, SuperCycle, Clash, SelfOpposite}
use Rattle.ecore_build.specs.declared.fault.MetaFault.TheVariants.{BadOpposite, BadBound, BadDefault, Memory}
use Rattle.ecore_meta.specs.declared.meta.Enum.{Enum as EnumOf}
use Rattle.ecore_meta.specs.declared.meta.EnumLiteral.{EnumLiteral}
use Rattle.ecore_drafts.specs.declared.rows.ClassifierRow.{ClassifierRow}
use Rattle.ecore_drafts.specs.declared.rows.ClassifierRow.TheVariants.{Class, Enum, Plain}
use Rattle.ecore_drafts.specs.declared.rows.EnumRow.{EnumRow}
use Rattle.ecore_drafts.specs.declared.rows.LiteralRow.{LiteralRow}
use Rattle.ecore_drafts.specs.declared.drafts.FeatureDraft.{FeatureDraft}
use Rattle.ecore_drafts.specs.declared.drafts.Target.{Target}
use Rattle.ecore_drafts.specs.declared.drafts.Target.TheVariants.{Skipped, Unsupported, Missing, Elements, Values}
use Rattle.ecore_drafts.specs.declared.drafts.End.{End}
use Rattle.ecore_drafts.specs.declared.drafts.End.TheVariants.{Open, Nowhere, At}

-- two features of a class, or two literals of an enum, have one name, or two literals one text
abbrev pub repeats_within : ClassifierRow → Bool
repeats_within (Class c) = has_repeat (feature_names c.features)
repeats_within (Enum e) = has_repeat (map (λ l. l.name) e.literals) || has_repeat (map (λ l. l.literal) e.literals)
repeats_within (Plain t) = false

-- two classifiers have one name, or one of them has such a repeat
abbrev pub dup_name : ClassifierRows → Bool
dup_name rows = has_repeat (map classifier_name rows) || list_any repeats_within rows

-- a type of Ecore that is not read
abbrev pub is_unsupported : Target → Bool
is_unsupported Unsupported = true
is_unsupported Skipped = false
is_unsupported Missing = false
is_unsupported (Elements c) = false
is_unsupported (Values s) = false

-- an attribute has a type of Ecore that is not read
abbrev pub unsupported : List FeatureDraft → Bool
unsupported ds = list_any (λ d. is_unsupported d.target) ds

-- a type that is none of the package that fits
abbrev pub is_missing : Target → Bool
is_missing Missing = true
is_missing Skipped = false
is_missing Unsupported = false
is_missing (Elements c) = false
is_missing (Values s) = false

-- a supertype or a feature's type is none of the package that fits
abbrev pub no_type : ClassifierRows → List FeatureDraft → Bool
no_type rows ds = list_any (lacks_super rows) rows || list_any (λ d. is_missing d.target) ds

-- the features that the class of that number declares
abbrev pub own_of : List (List ℕ) → ℕ → List ℕ
own_of own d = option_map_or (λ fs. fs) (slice_get own d) []

-- those that a class and the classes above it declare, class by class
unfoldable pub inherited : List (List ℕ) → List (List ℕ) → ℕ → List ℕ
inherited supers own c = flat_map (own_of own) (filter (is_above supers c) (range_with_len 0 (length supers)))

-- the same of every class
abbrev pub all_inherited : List (List ℕ) → List (List ℕ) → List (List ℕ)
all_inherited supers own = map (inherited supers own) (range_with_len 0 (length supers))

-- the class of that number, or one above it, declares the feature
abbrev pub is_declared : List (List ℕ) → List FeatureDraft → ℕ → ℕ → Bool
is_declared supers ds c f = option_map_or (λ d. is_above supers c d.owner) (slice_get ds f) false

-- the features of a class: all features, by number, that it or a class above it declares
abbrev pub features_in : List (List ℕ) → List FeatureDraft → ℕ → List ℕ
features_in supers ds c = filter (is_declared supers ds c) (range_with_len 0 (length ds))

-- the features of every class of a document
abbrev pub features_of : ClassifierRows → List (List ℕ)
features_of rows = map (features_in (supers_in rows rows) (drafts rows)) (range_with_len 0 (length (supers_in rows rows)))

-- the name of the feature of that number
abbrev pub draft_name : List FeatureDraft → ℕ → Name
draft_name ds f = option_map_or (λ d. d.name) (slice_get ds f) []

-- a class has two features of one name, inherited ones counted
abbrev pub clash : List FeatureDraft → List (List ℕ) → Bool
clash ds features = list_any (λ fs. has_repeat (map (draft_name ds) fs)) features

-- some feature passes the test, which sees its number
abbrev pub any_from : (ℕ → FeatureDraft → Bool) → ℕ → List FeatureDraft → Bool
any_from p n [] = false
any_from p n (d ∷ ds) = p n d || any_from p (suc n) ds

-- the opposite has that number
abbrev pub is_at : ℕ → End → Bool
is_at n Open = false
is_at n Nowhere = false
is_at n (At g) = nat_eq n g

-- a reference names itself as its opposite
abbrev pub is_self : ℕ → FeatureDraft → Bool
is_self n d = is_at n d.end

-- the type is the class of that number
abbrev pub is_to : ℕ → Target → Bool
is_to c (Elements d) = nat_eq c d
is_to c Skipped = false
is_to c Unsupported = false
is_to c Missing = false
is_to c (Values s) = false

-- the other names n back, each has the class of the other as its type, and at most one is a containment
abbrev pub answers : ℕ → FeatureDraft → Option FeatureDraft → Bool
answers n d None = false
answers n d (Some o) = is_at n o.end && (is_to o.owner d.target && (is_to d.owner o.target && not (d.containment && o.containment)))

-- an opposite that is named is none, or doesn't answer
abbrev pub bad_end : List FeatureDraft → ℕ → FeatureDraft → End → Bool
bad_end ds n d Open = false
bad_end ds n d Nowhere = true
bad_end ds n d (At g) = not (answers n d (slice_get ds g))

-- a reference has an opposite that is none
abbrev pub is_unanswered : List FeatureDraft → ℕ → FeatureDraft → Bool
is_unanswered ds n d = bad_end ds n d d.end

-- the opposite is a containment
abbrev pub contains_back : List FeatureDraft → End → Bool
contains_back ds Open = false
contains_back ds Nowhere = false
contains_back ds (At g) = option_map_or (λ o. o.containment) (slice_get ds g) false

-- The bounds are none: the upper is neither -1 nor at least 1, or the lower is below 0 or above it. So are those of a container
-- whose upper isn't 1.
abbrev pub bad_bounds : List FeatureDraft → FeatureDraft → Bool
bad_bounds ds d =
    int_lt d.lower (pos 0)
    || not (int_eq d.upper (negsuc 0)) && (int_lt d.upper (pos 1) || int_lt d.upper d.lower)
    || contains_back ds d.end && not (int_eq d.upper (pos 1))

-- the feature is skipped
abbrev pub is_skipped : Target → Bool
is_skipped Skipped = true
is_skipped Unsupported = false
is_skipped Missing = false
is_skipped (Elements c) = false
is_skipped (Values s) = false

-- a feature that isn't skipped has such bounds
abbrev pub bad_bound : List FeatureDraft → FeatureDraft → Bool
bad_bound ds d = not (is_skipped d.target) && bad_bounds ds d

-- the text stands for no value of the type
abbrev pub no_value : List EnumOf → Target → Option Name → Bool
no_value enums (Values s) (Some text) = not (is_some (value_of enums s text))
no_value enums (Values s) None = false
no_value enums Skipped text = false
no_value enums Unsupported text = false
no_value enums Missing text = false
no_value enums (Elements c) text = false

-- the default text of a single attribute gives no value
abbrev pub bad_default : List EnumOf → FeatureDraft → Bool
bad_default enums d = int_eq d.upper (pos 1) && no_value enums d.target d.default_text

-- a literal by its name and its text
abbrev pub literal : LiteralRow → EnumLiteral
literal row = record { name = row.name; text = row.literal }

-- an enum with its literals
abbrev pub enum_from : EnumRow → EnumOf
enum_from e = record { name = e.name; literals = map literal e.literals }

-- the enums with their literals
abbrev pub enums_in : ClassifierRows → List EnumOf
enums_in rows = map enum_from (enums_of rows)

-- the fault of the first test that holds
abbrev pub first_true : List (Bool × MetaFault) → Option MetaFault
first_true [] = None
first_true (t ∷ ts) = cond t.0 (Some t.1) (first_true ts)

-- the last four tests, which look at the resolved features alone, each with its fault
abbrev pub last_tests : List FeatureDraft → List EnumOf → List (Bool × MetaFault)
last_tests ds enums =
    (any_from is_self 0 ds, SelfOpposite)
    ∷ (any_from (is_unanswered ds) 0 ds, BadOpposite)
    ∷ (list_any (bad_bound ds) ds, BadBound)
    ∷ (list_any (bad_default enums) ds, BadDefault)
    ∷ []

-- the nine tests of a document in their order, each with its fault
abbrev pub tests : ClassifierRows → List (Bool × MetaFault)
tests rows =
    (dup_name rows, DupName)
    ∷ (unsupported (drafts rows), UnsupportedFault)
    ∷ (no_type rows (drafts rows), NoType)
    ∷ (super_cycle (supers_in rows rows), SuperCycle)
    ∷ (clash (drafts rows) (features_of rows), Clash)
    ∷ last_tests (drafts rows) (enums_in rows)

-- the first fault of a document
abbrev pub fault : ClassifierRows → Option MetaFault
fault rows = first_true (tests rows)

-- an answer of build but out of memory names the first fault
abbrev pub IsFault : Option MetaFault → MetaFault → Type 0
IsFault first Memory = Unit {0}
IsFault first e = first ≡ Some e
