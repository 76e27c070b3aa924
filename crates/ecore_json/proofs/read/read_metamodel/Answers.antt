use Rattle.std.proofs.Common.{ap, sym, ◌∙◌}
use Rattle.serde_json.specs.View.{view}
use Rattle.ecore_json.specs.Metamodel.{of_document, of_package, metamodel_of}
use Rattle.ecore_json.proofs.Counts.{package_numbered}
use Rattle.ecore_json.proofs.Gives.{gives_same}
use Rattle.ecore_json.proofs.read.read_metamodel.Goals as goal

pub of_package-requires : goal.of_package-requires
of_package-requires c = package_numbered c.args.text.now (view c.in-Ok.document) (view c.in-Some.root.now) c.requires.short c.in-Ok.ensures.ok c.in-Some.ensures

pub returns-in-None : goal.returns-in-None
unfolding metamodel_of
returns-in-None c = record { read = ap of_document c.in-Ok.ensures.ok ∙ ap of_package (sym c.in-None.ensures) }

pub returns : goal.returns
unfolding metamodel_of
returns c = record {
  read =
      gives_same c.of_package.result _ _ c.of_package.ensures (ap of_package c.in-Some.ensures ∙ sym (ap of_document c.in-Ok.ensures.ok));
}
