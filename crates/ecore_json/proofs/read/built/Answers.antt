use Rattle.ecore_build.specs.Faults.{fault}
use Rattle.ecore_json.proofs.Gives.{fault_named, gives_metamodel}
use Rattle.ecore_json.proofs.read.built.Goals as goal

pub returns-in-Ok : goal.returns-in-Ok
returns-in-Ok c = gives_metamodel c.in-Ok.metamodel c.args.rows.now c.in-Ok.ensures.none c.in-Ok.ensures.built

pub returns-in-Err : goal.returns-in-Err
returns-in-Err c = fault_named c.in-Err.fault c.of_meta.result (fault c.args.rows.now.classifiers) c.args.rows.now c.of_meta.ensures c.in-Err.ensures.fault
