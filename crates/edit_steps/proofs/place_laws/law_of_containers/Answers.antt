use Rattle.edit_steps.proofs.ContainerLists.{containers_are_chain}
use Rattle.edit_steps.proofs.place_laws.law_of_containers.Goals as goal

pub returns : goal.returns
returns c = containers_are_chain
