-- By what each event changes, and what each command asks for.
use Rattle.plain_repository.proofs.Answered.{checkout_checks_out, commit_commits, replies_tell_where, signed_commits}
use Rattle.plain_repository.proofs.Once.{merges_are_once}
use Rattle.plain_repository.proofs.Others.{all_others_stay}
use Rattle.plain_repository.proofs.Pending.{merged_stay_pending}
use Rattle.plain_repository.proofs.Standing.{begins_stand, branches_stand, checkouts_stand, commits_stand, composites_are_one, discards_stand, inits_stand}
use Rattle.plain_repository.proofs.Standing.{edits_stand, ends_stand, merges_stand, signed_stand, tidies_stand, undos_stand, updates_stand}
use Rattle.plain_repository.proofs.laws.law_of_standing.Goals as goal

pub returns-clause-inits : goal.returns-clause-inits
returns-clause-inits c = inits_stand

pub returns-clause-commits : goal.returns-clause-commits
returns-clause-commits c = commits_stand

pub returns-clause-signed : goal.returns-clause-signed
returns-clause-signed c = signed_stand

pub returns-clause-updates : goal.returns-clause-updates
returns-clause-updates c = updates_stand

pub returns-clause-merges : goal.returns-clause-merges
returns-clause-merges c = merges_stand

pub returns-clause-checkouts : goal.returns-clause-checkouts
returns-clause-checkouts c = checkouts_stand

pub returns-clause-branches : goal.returns-clause-branches
returns-clause-branches c = branches_stand

pub returns-clause-edits : goal.returns-clause-edits
returns-clause-edits c = edits_stand

pub returns-clause-begins : goal.returns-clause-begins
returns-clause-begins c = begins_stand

pub returns-clause-ends : goal.returns-clause-ends
returns-clause-ends c = ends_stand

pub returns-clause-undos : goal.returns-clause-undos
returns-clause-undos c = undos_stand

pub returns-clause-discards : goal.returns-clause-discards
returns-clause-discards c = discards_stand

pub returns-clause-tidies : goal.returns-clause-tidies
returns-clause-tidies c = tidies_stand

pub returns-clause-composites : goal.returns-clause-composites
returns-clause-composites c = composites_are_one

pub returns-clause-merged : goal.returns-clause-merged
returns-clause-merged c = merged_stay_pending

pub returns-clause-once : goal.returns-clause-once
returns-clause-once c = merges_are_once

pub returns-clause-commit : goal.returns-clause-commit
returns-clause-commit c = commit_commits

pub returns-clause-signed_commit : goal.returns-clause-signed_commit
returns-clause-signed_commit c = signed_commits

pub returns-clause-checkout : goal.returns-clause-checkout
returns-clause-checkout c = checkout_checks_out

pub returns-clause-replies : goal.returns-clause-replies
returns-clause-replies c = replies_tell_where

pub returns-clause-others : goal.returns-clause-others
returns-clause-others c = all_others_stay
