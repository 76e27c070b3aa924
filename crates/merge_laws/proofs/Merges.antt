-- An update, a merge and a revert lead to the models that they mean.
use Rattle.std.proofs.Common.{◌≡◌, List, ◌++◌, subst, length}
use Rattle.std.specs.Prelude.{Some}
use Rattle.ecore_meta.specs.Meta.{Meta}
use Rattle.model_state.specs.State.{State}
use Rattle.model_state.specs.Good.{Good, Sound}
use Rattle.model_state.specs.declared.operation.Operation.{Operation}
use Rattle.model_state.specs.Packages.{fold_package, rev_package}
use Rattle.footprint.proofs.Runs.{Leads, one_end, cut, join, package_undone, packages_keep, packages_exchange, packages_side_by_side}
use Rattle.footprint.specs.declared.bucket.Bucket.{Bucket}
use Rattle.footprint.specs.Buckets.{buckets}
use Rattle.merge_laws.specs.Grouping.{GroupInterfering}
use Rattle.merge_laws.proofs.Rows.{buckets_are_parts}
use Rattle.merge_laws.specs.declared.side.Side.{Side}
use Rattle.merge_laws.specs.Merge.{drops_theirs, drops_mine, dropped, kept, merged, update_list, merge_list}
use Rattle.merge_laws.specs.Laws.{UpdateGivesMerged, MergeGivesMerged, RevertTakesOut, MineLeads, MergeLeadsToMerged}
use Rattle.merge_laws.specs.Tidy.{tidy}
use Rattle.merge_laws.proofs.Whole.{tidy_keeps_effect}
use Rattle.merge_laws.proofs.Gather.{gather}
use Rattle.merge_laws.proofs.Choices.{theirs_apart, mine_apart, kept_apart}

module _ (meta : Meta) (sound : Sound meta) (base head work : State) (good : Good meta base) (theirs mine : List Operation)
    (after_theirs : Leads meta base theirs head) (after_mine : Leads meta base mine work) (bs : List Bucket) (parts : GroupInterfering meta theirs mine bs)
    (sides : List Side) (is : length sides ≡ length bs) where
  keep_t : List Operation
  keep_t = kept (drops_theirs bs sides) theirs

  drop_t : List Operation
  drop_t = dropped (drops_theirs bs sides) theirs

  keep_m : List Operation
  keep_m = kept (drops_mine bs sides) mine

  drop_m : List Operation
  drop_m = dropped (drops_mine bs sides) mine

  -- what is kept of theirs leads to a state, from which what is dropped leads to the head
  kept_theirs_lead : (k : State) × Leads meta base keep_t k × Leads meta k drop_t head
  unfolding keep_t drop_t
  kept_theirs_lead = cut meta base head keep_t drop_t
      (gather meta sound (drops_theirs bs sides) theirs base head good (theirs_apart meta theirs mine bs parts sides is) after_theirs)

  kept_mine_lead : (k : State) × Leads meta base keep_m k × Leads meta k drop_m work
  unfolding keep_m drop_m
  kept_mine_lead = cut meta base work keep_m drop_m
      (gather meta sound (drops_mine bs sides) mine base work good (mine_apart meta theirs mine bs parts sides is) after_mine)

  -- from there both sides lead to one state
  both_lead : (n : State) × Leads meta base (keep_t ++ keep_m) n × Leads meta kept_theirs_lead.0 keep_m n × Leads meta kept_mine_lead.0 keep_t n
  unfolding keep_t keep_m
  both_lead =
      let t = kept_theirs_lead in
      let m = kept_mine_lead in
      let s = packages_side_by_side meta sound keep_t keep_m base t.0 m.0 good (kept_apart meta theirs mine bs parts sides is) t.1 m.1 in
      let c = cut meta base s.0 keep_t keep_m s.1 in
      let d = cut meta base s.0 keep_m keep_t s.2 in (
        s.0,
        s.1,
        subst (λ k. Leads meta k keep_m s.0) (one_end meta base keep_t c.0 t.0 c.1 t.1) c.2,
        subst (λ k. Leads meta k keep_t s.0) (one_end meta base keep_m d.0 m.0 d.1 m.1) d.2,
      )

  pub update_leads : (n : State) × (fold_package meta head (update_list theirs mine bs sides) ≡ Some n) × (merged meta base theirs mine bs sides ≡ Some n)
  unfolding keep_t drop_t keep_m
  update_leads =
      let t = kept_theirs_lead in
      let b = both_lead in
      let back = package_undone meta sound t.0 head (packages_keep meta sound base t.0 good keep_t t.1) drop_t t.2 in
      (b.0, join meta head t.0 b.0 (rev_package drop_t) keep_m back b.2, b.1)

  pub merge_leads : (n : State) × (fold_package meta work (merge_list theirs mine bs sides) ≡ Some n) × (merged meta base theirs mine bs sides ≡ Some n)
  unfolding keep_t keep_m drop_m
  merge_leads =
      let m = kept_mine_lead in
      let b = both_lead in
      let back = package_undone meta sound m.0 work (packages_keep meta sound base m.0 good keep_m m.1) drop_m m.2 in
      (b.0, join meta work m.0 b.0 (rev_package drop_m) keep_t back b.3, b.1)

pub update_gives_merged : UpdateGivesMerged
update_gives_merged meta sound base head work good theirs mine t m sides is =
    update_leads meta sound base head work good theirs mine t m (buckets meta theirs mine) (buckets_are_parts meta theirs mine) sides is

pub merge_gives_merged : MergeGivesMerged
merge_gives_merged meta sound base head work good theirs mine t m sides is =
    merge_leads meta sound base head work good theirs mine t m (buckets meta theirs mine) (buckets_are_parts meta theirs mine) sides is

pub revert_takes_out : RevertTakesOut
revert_takes_out meta sound start m good before taken later none h =
    let x = cut meta start m before (taken ++ later) h in
    let good_x = packages_keep meta sound start x.0 good before x.1 in
    let y = cut meta x.0 m later taken (packages_exchange meta sound taken later x.0 m good_x none x.2) in
    let good_y = packages_keep meta sound x.0 y.0 good_x later y.1 in
    (y.0, package_undone meta sound y.0 m good_y taken y.2, join meta start x.0 y.0 before later x.1 y.1)

pub mine_leads : MineLeads
mine_leads meta sound common met base work good taken since local is_met is_base is_work =
    tidy_keeps_effect meta sound met work (packages_keep meta sound common met good taken is_met) (rev_package taken ++ (since ++ local))
    (join meta met common work (rev_package taken) (since ++ local)
    (package_undone meta sound common met good taken is_met)
    (join meta common base work since local is_base is_work))

pub merge_leads_to_merged : MergeLeadsToMerged
merge_leads_to_merged meta sound common met base head work good taken since local theirs is_met is_base is_work is_head sides is =
    merge_gives_merged meta sound met head work (packages_keep meta sound common met good taken is_met) theirs
    (tidy meta (rev_package taken ++ (since ++ local))) is_head
    (mine_leads meta sound common met base work good taken since local is_met is_base is_work) sides is
