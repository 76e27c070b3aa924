use Rattle.std.proofs.Common.{◌≡◌, ◌∙◌, ◌++◌, ◌∷◌, [], List, sym, ap, subst, append_assoc, append-nil, length-append, arith, length}
use Rattle.model_state.specs.Keys.{IdBytes}
use Rattle.model_documents.specs.declared.doc.DocRow.{DocRow}
use Rattle.import_laws.specs.Names.{AreNames, IsName}
use Rattle.model_import.proofs.Rows.{next, none_left}
use Rattle.model_import.proofs.names.names.Goals as goal

pub loop-row-preserved : goal.loop-row-preserved
loop-row-preserved g c =
    let m = g.L.Look.state c.args.look.now in
    let rows = c.args.rows.now in
    let i = c.loop-row.row-index in
    let x = c.in_ok-named.named.id in
    let pushed : c.push.new.self ≡ c.loop-row.names ++ x ∷ [] = c.in_ok-push.ensures.ok in
    record {
      so_far = λ xs h.
          subst (λ (ns : List IdBytes). AreNames m rows c.args.ws 1 rows ns)
          (sym (append_assoc c.loop-row.names (x ∷ []) xs) ∙ ap (λ (ns : List IdBytes). ns ++ xs) (sym pushed))
          (c.loop-row.invariant.so_far (x ∷ xs)
          (subst (λ (rest : List DocRow). AreNames m rows c.args.ws c.loop-row.from rest (x ∷ xs))
          (sym (next rows i c.row-item.result c.loop-row-test.true c.row-item.is)) (
            c.in_ok-named.named.next,
            subst (λ (given : List DocRow). IsName m given c.args.ws c.loop-row.from c.row-item.result.id x c.in_ok-named.named.next)
                c.in_ok-given.ensures c.in_ok-named.ensures,
            h,
          )));
      as_many = let e = ap length pushed in let a = length-append c.loop-row.names (x ∷ []) in omega (arith, e, a, c.loop-row.invariant.as_many);
    }

pub returns-clause-names : goal.returns-clause-names
returns-clause-names g c =
    let m = g.L.Look.state c.args.look.now in
    let rows = c.args.rows.now in
    subst (λ (ns : List IdBytes). AreNames m rows c.args.ws 1 rows ns) (append-nil c.loop-row.names)
    (c.loop-row.invariant.so_far []
    (subst (λ (rest : List DocRow). AreNames m rows c.args.ws c.loop-row.from rest []) (sym (none_left rows c.loop-row.row-index c.loop-row-test.false)) tt))
