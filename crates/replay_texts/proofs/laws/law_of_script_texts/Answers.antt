use Rattle.replay_texts.proofs.Lines.{messages_stand}
use Rattle.replay_texts.proofs.Blocks.{texts_stand, packages_stand}
use Rattle.replay_texts.proofs.laws.law_of_script_texts.Goals as goal

pub returns-clause-messages : goal.returns-clause-messages
returns-clause-messages c = messages_stand

pub returns-clause-texts : goal.returns-clause-texts
returns-clause-texts c = texts_stand

pub returns-clause-packages : goal.returns-clause-packages
returns-clause-packages c = packages_stand
