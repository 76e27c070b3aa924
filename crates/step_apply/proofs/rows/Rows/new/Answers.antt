use Rattle.std.proofs.Common.{◌≡◌, ℕ, Bool, true, false, cond, refl, ap, sym, ◌∙◌}
use Rattle.std.specs.Prelude.{Option, None}
use Rattle.std.specs.FinMap.{get, get-empty}
use Rattle.std.specs.Map.{lookup}
use Rattle.std.specs.BTreeMap.{is_at}
use Rattle.finite_maps.specs.Equal.{text_eq}
use Rattle.model_state.specs.Keys.{id_cmp, row_cmp}
use Rattle.step_apply.specs.Groups.{fan_of, rows_of, IsOut, HoldIncoming}
use Rattle.step_apply.proofs.rows.Rows.new.Goals as goal

pub invariant_of-result : goal.invariant_of-result
invariant_of-result c =
    let first : IsOut c.new.result c.new-2.result = λ a f b.
    ap (λ es. get (fan_of (lookup (is_at (id_cmp a)) es) f) b) c.new-2.ensures.empty ∙ get-empty id_cmp b
    ∙ ap (λ es. lookup (is_at (row_cmp (a, f, b))) es) (sym c.new.ensures.empty) in
    let second : HoldIncoming c.new.result c.new-3.result = λ b k.
    ap (λ es. get (rows_of (lookup (is_at (id_cmp b)) es)) k) c.new-3.ensures.empty ∙ get-empty row_cmp k
    ∙ sym (none (text_eq b k.2))
    ∙ ap (λ es. cond (text_eq b k.2) (lookup (is_at (row_cmp k)) es) None) (sym c.new.ensures.empty) in
    (first, second)
  where
    none : (b : Bool) → cond {A = Option ℕ} b None None ≡ None
    none true = refl
    none false = refl
