use Rattle.std.proofs.Common.{◌≡◌, ◌∙◌, ap, subst, sym, arith, map, length}
use Rattle.std.specs.Prelude.{IfOk, Option}
use Rattle.std.specs.List.{list_any}
use Rattle.std.proofs.lemmas.List.{length-map}
use Rattle.ecore_drafts.specs.Document.{lacks_super}
use Rattle.ecore_drafts.specs.Drafts.{drafts}
use Rattle.ecore_drafts.specs.Supers.{all_above, super_cycle}
use Rattle.ecore_drafts.specs.declared.drafts.FeatureDraft.{FeatureDraft}
use Rattle.ecore_build.specs.Faults.{clash, first_true, is_missing, last_tests, unsupported}
use Rattle.ecore_build.specs.declared.fault.MetaFault.{MetaFault}
use Rattle.ecore_build.proofs.BuildLaws.{drafts_few, neither, past, supers_inside, supers_few}
use Rattle.ecore_build.proofs.building.resolved_fault.Goals as goal

pub any_cycle-requires-clause-above : goal.any_cycle-requires-clause-above
any_cycle-requires-clause-above c =
    ap (map (λ s. s.keys)) c.as_slice-3.ensures.value ∙ c.requires.resolved.above
    ∙ ap all_above (sym (ap (map (λ ups. ups.items)) c.as_slice-2.ensures.value ∙ c.requires.resolved.supers))

pub any_cycle-requires-clause-inside : goal.any_cycle-requires-clause-inside
any_cycle-requires-clause-inside c =
    supers_inside c.args.rows.now (map (λ ups. ups.items) c.as_slice-2.result.now)
    (ap (map (λ ups. ups.items)) c.as_slice-2.ensures.value ∙ c.requires.resolved.supers)

pub any_cycle-requires-clause-few : goal.any_cycle-requires-clause-few
any_cycle-requires-clause-few c =
    omega (
      arith,
      ap length c.as_slice-2.ensures.value,
      ap length c.requires.resolved.supers,
      length-map c.args.resolved.now.supers.items (λ ups. ups.items),
      supers_few c.args.rows.now c.args.rows.now,
      c.requires.numbered.classifiers,
    )

pub last_fault-requires : goal.last_fault-requires
last_fault-requires c = omega (arith, ap length c.requires.resolved.drafted, drafts_few c.args.rows.now, c.requires.numbered.features)

pub returns : goal.returns
returns c =
    let rows = c.args.rows.now in
    let P : Option MetaFault → Type 0 = λ x. IfOk c.last_fault.result (λ o. o ≡ x) in
    subst P
    (sym (past _ _ _ _ (sym c.requires.apart)
    (past _ _ _ _ (sym c.if-any_unsupported.false ∙ c.any_unsupported.ensures ∙ ap unsupported (c.as_slice.ensures.value ∙ c.requires.resolved.drafted))
    (past _ _ _ _
    (neither _ _ (sym c.if-any_lacks_super.false ∙ c.any_lacks_super.ensures ∙ ap (λ k. list_any (lacks_super k) rows) c.requires.same)
    (sym c.if-any_missing.false ∙ c.any_missing.ensures
    ∙ ap (list_any (λ (d : FeatureDraft). is_missing d.target)) (c.as_slice-else-any_lacks_super.ensures.value ∙ c.requires.resolved.drafted)))
    (past _ _ _ _
    (sym c.if-any_cycle.false ∙ c.any_cycle.ensures
    ∙ ap (λ ls. super_cycle (map (λ ups. ups.items) ls)) c.as_slice-2.ensures.value
    ∙ ap super_cycle c.requires.resolved.supers)
    (past _ _ _ _
    (sym c.if-branch.false ∙ c.in_ok-any_clash.ensures
    ∙ ap (λ ds. clash ds (map (λ fs. fs.items) c.as_slice-5.result.now)) (c.as_slice-4.ensures.value ∙ c.requires.resolved.drafted)
    ∙ ap (λ ls. clash (drafts rows) (map (λ fs. fs.items) ls)) c.as_slice-5.ensures.value
    ∙ ap (clash (drafts rows)) c.requires.resolved.features)
    (λ i. first_true (last_tests (sym c.requires.resolved.drafted i) (sym c.requires.resolved.enums i)))))))))
    c.last_fault.ensures
