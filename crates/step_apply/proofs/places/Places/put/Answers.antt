use Rattle.std.proofs.Common.{◌≡◌, subst, ◌∙◌}
use Rattle.std.specs.Prelude.{ℕ, OnOk, Some, map}
use Rattle.std.specs.FinMap.{from_entries}
use Rattle.std.specs.BTreeMap.{BTreeMap}
use Rattle.finite_maps.specs.Maps.{set}
use Rattle.finite_maps.specs.Tables.{table_of}
use Rattle.model_state.specs.declared.step.Place.{Place}
use Rattle.model_state.specs.declared.step.Placed.{Placed}
use Rattle.model_state.specs.Keys.{IdBytes, id_cmp}
use Rattle.step_apply.specs.Spots.{Spots}
use Rattle.step_apply.proofs.Outcomes.{on_err}
use Rattle.step_apply.proofs.places.Places.put.Goals as goal

abbrev spots : BTreeMap IdBytes Placed → Spots
spots t = record { place = table_of id_cmp (λ x. x.place) t; rank = table_of id_cmp (λ x. x.rank) t }

same_spots : (t n : BTreeMap IdBytes Placed) → n.entries ≡ t.entries → spots n ≡ spots t
same_spots t n same = λ i.
    record {
      place = from_entries (map {B = IdBytes × Place} (λ (e : IdBytes × Placed). (e.0, e.1.place)) (same i));
      rank =
          from_entries (map {B = IdBytes × ℕ} (λ (e : IdBytes × Placed). (e.0, e.1.rank)) (same i));
    }

pub invariant_of-self : goal.invariant_of-self
invariant_of-self c = c.put_at.ensures.grouped c.self.invariant

pub returns-clause-place : goal.returns-clause-place
returns-clause-place c =
    subst (λ (s : Spots). OnOk c.put_at.result
    (table_of id_cmp (λ (x : Placed). x.place) c.put_at.new.tree ≡ set s.place c.args.e (Some c.args.placed.place))) c.self.view_is c.put_at.ensures.place

pub returns-clause-rank : goal.returns-clause-rank
returns-clause-rank c =
    subst (λ (s : Spots). OnOk c.put_at.result
    (table_of id_cmp (λ (x : Placed). x.rank) c.put_at.new.tree ≡ set s.rank c.args.e (Some c.args.placed.rank))) c.self.view_is c.put_at.ensures.rank

pub returns-clause-err : goal.returns-clause-err
returns-clause-err c = on_err c.put_at.result (λ same. same_spots c.self.inside.tree c.put_at.new.tree same ∙ c.self.view_is) c.put_at.ensures.err
