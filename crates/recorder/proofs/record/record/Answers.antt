use Rattle.recorder.proofs.Founds.{answers_found, found_set, found_unset, found_add, found_remove, found_shift, found_link, found_unlink, found_reorder}
use Rattle.edits.specs.declared.edit.Edit.TheVariants.{Set, Unset, Add, Remove, Shift, Link, Unlink, Reorder}
use Rattle.recorder.proofs.record.record.Goals as goal

pub returns-in-Set : goal.returns-in-Set
returns-in-Set g c =
    let m = g.L.Look.state c.args.look.now in
    answers_found c.args.meta.now m c.args.ws c.in-Set.id c.in-Set.feature c.args.edit.now
    (Set c.in-Set.id c.in-Set.feature c.in-Set.value) c.record_in.result c.in-Set.is
    (found_set c.args.meta.now m c.args.ws c.in-Set.id c.in-Set.feature c.in-Set.value) c.record_in.ensures

pub returns-in-Unset : goal.returns-in-Unset
returns-in-Unset g c =
    let m = g.L.Look.state c.args.look.now in
    answers_found c.args.meta.now m c.args.ws c.in-Unset.id c.in-Unset.feature c.args.edit.now
    (Unset c.in-Unset.id c.in-Unset.feature) c.record_in-in-Unset.result c.in-Unset.is
    (found_unset c.args.meta.now m c.args.ws c.in-Unset.id c.in-Unset.feature) c.record_in-in-Unset.ensures

pub returns-in-Add : goal.returns-in-Add
returns-in-Add g c =
    let m = g.L.Look.state c.args.look.now in
    answers_found c.args.meta.now m c.args.ws c.in-Add.id c.in-Add.feature c.args.edit.now
    (Add c.in-Add.id c.in-Add.feature c.in-Add.at c.in-Add.value) c.record_in-in-Add.result c.in-Add.is
    (found_add c.args.meta.now m c.args.ws c.in-Add.id c.in-Add.feature c.in-Add.at c.in-Add.value) c.record_in-in-Add.ensures

pub returns-in-Remove : goal.returns-in-Remove
returns-in-Remove g c =
    let m = g.L.Look.state c.args.look.now in
    answers_found c.args.meta.now m c.args.ws c.in-Remove.id c.in-Remove.feature c.args.edit.now
    (Remove c.in-Remove.id c.in-Remove.feature c.in-Remove.index) c.record_in-in-Remove.result c.in-Remove.is
    (found_remove c.args.meta.now m c.args.ws c.in-Remove.id c.in-Remove.feature c.in-Remove.index) c.record_in-in-Remove.ensures

pub returns-in-Shift : goal.returns-in-Shift
returns-in-Shift g c =
    let m = g.L.Look.state c.args.look.now in
    answers_found c.args.meta.now m c.args.ws c.in-Shift.id c.in-Shift.feature c.args.edit.now
    (Shift c.in-Shift.id c.in-Shift.feature c.in-Shift.from c.in-Shift.to) c.record_in-in-Shift.result c.in-Shift.is
    (found_shift c.args.meta.now m c.args.ws c.in-Shift.id c.in-Shift.feature c.in-Shift.from c.in-Shift.to) c.record_in-in-Shift.ensures

pub returns-in-Link : goal.returns-in-Link
returns-in-Link g c =
    let m = g.L.Look.state c.args.look.now in
    answers_found c.args.meta.now m c.args.ws c.in-Link.id c.in-Link.feature c.args.edit.now
    (Link c.in-Link.id c.in-Link.feature c.in-Link.target c.in-Link.index) c.record_in-in-Link.result c.in-Link.is
    (found_link c.args.meta.now m c.args.ws c.in-Link.id c.in-Link.feature c.in-Link.target c.in-Link.index) c.record_in-in-Link.ensures

pub returns-in-Unlink : goal.returns-in-Unlink
returns-in-Unlink g c =
    let m = g.L.Look.state c.args.look.now in
    answers_found c.args.meta.now m c.args.ws c.in-Unlink.id c.in-Unlink.feature c.args.edit.now
    (Unlink c.in-Unlink.id c.in-Unlink.feature c.in-Unlink.target) c.record_in-in-Unlink.result c.in-Unlink.is
    (found_unlink c.args.meta.now m c.args.ws c.in-Unlink.id c.in-Unlink.feature c.in-Unlink.target) c.record_in-in-Unlink.ensures

pub returns-in-Reorder : goal.returns-in-Reorder
returns-in-Reorder g c =
    let m = g.L.Look.state c.args.look.now in
    answers_found c.args.meta.now m c.args.ws c.in-Reorder.id c.in-Reorder.feature c.args.edit.now
    (Reorder c.in-Reorder.id c.in-Reorder.feature c.in-Reorder.target c.in-Reorder.index) c.record_in-in-Reorder.result c.in-Reorder.is
    (found_reorder c.args.meta.now m c.args.ws c.in-Reorder.id c.in-Reorder.feature c.in-Reorder.target c.in-Reorder.index) c.record_in-in-Reorder.ensures
