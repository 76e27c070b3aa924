use Rattle.std.proofs.Common.{◌≡◌, ◌∙◌, ap, sym, arith, length, List, Bool}
use Rattle.std.specs.List.{list_any}
use Rattle.ecore_drafts.specs.declared.drafts.FeatureDraft.{FeatureDraft}
use Rattle.ecore_build.specs.Faults.{any_from, bad_bound, bad_default, is_self, is_unanswered}
use Rattle.ecore_build.proofs.BuildLaws.{fourth, no_last, third}
use Rattle.ecore_build.proofs.building.last_fault.Goals as goal

pub any_self-requires : goal.any_self-requires
any_self-requires c = omega (arith, ap length c.as_slice.ensures.value, c.requires)

pub any_unanswered-requires : goal.any_unanswered-requires
any_unanswered-requires c = omega (arith, ap length c.as_slice-2.ensures.value, c.requires)

-- what a test of the slice said holds of its items
told : {A : Type 0} (test : List A → Bool) {said told : Bool} {slice items : List A} → said ≡ told → said ≡ test slice → slice ≡ items
    → told ≡ test items
told test says is same = sym says ∙ is ∙ ap test same

abbrev any_self : List FeatureDraft → Bool
any_self ds = any_from is_self 0 ds

abbrev any_unanswered : List FeatureDraft → Bool
any_unanswered ds = any_from (is_unanswered ds) 0 ds

abbrev any_bad_bound : List FeatureDraft → Bool
any_bad_bound ds = list_any (bad_bound ds) ds

pub returns-then-any_bad_bound : goal.returns-then-any_bad_bound
returns-then-any_bad_bound c =
    let none_is_self = told any_self c.if-any_self.false c.any_self.ensures c.as_slice.ensures.value in
    let all_answered = told any_unanswered c.if-any_unanswered.false c.any_unanswered.ensures c.as_slice-2.ensures.value in
    let one_bad_bound = told any_bad_bound c.if-any_bad_bound.true c.any_bad_bound.ensures c.as_slice-3.ensures.value in
    sym (third _ _ _ _ none_is_self all_answered one_bad_bound)

pub returns-then-branch : goal.returns-then-branch
returns-then-branch c =
    let none_is_self = told any_self c.if-any_self.false c.any_self.ensures c.as_slice.ensures.value in
    let all_answered = told any_unanswered c.if-any_unanswered.false c.any_unanswered.ensures c.as_slice-2.ensures.value in
    let no_bad_bound = told any_bad_bound c.if-any_bad_bound.false c.any_bad_bound.ensures c.as_slice-3.ensures.value in
    let defaults = list_any (bad_default c.args.resolved.now.enums) in
    sym (fourth _ _ _ _ none_is_self all_answered no_bad_bound
    (told defaults c.if-branch.true c.in_ok-any_bad_default.ensures c.as_slice-4.ensures.value))

pub returns : goal.returns
returns c =
    let none_is_self = told any_self c.if-any_self.false c.any_self.ensures c.as_slice.ensures.value in
    let all_answered = told any_unanswered c.if-any_unanswered.false c.any_unanswered.ensures c.as_slice-2.ensures.value in
    let no_bad_bound = told any_bad_bound c.if-any_bad_bound.false c.any_bad_bound.ensures c.as_slice-3.ensures.value in
    let defaults = list_any (bad_default c.args.resolved.now.enums) in
    sym (no_last _ _ _ _ none_is_self all_answered no_bad_bound
    (told defaults c.if-branch.false c.in_ok-any_bad_default.ensures c.as_slice-4.ensures.value))
