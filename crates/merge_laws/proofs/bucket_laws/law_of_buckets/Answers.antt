-- By the labels.
use Rattle.merge_laws.proofs.Rows.{buckets_are_parts}
use Rattle.merge_laws.proofs.Linked.{labels_are_least}
use Rattle.merge_laws.proofs.Exact.{buckets_are_classes}
use Rattle.merge_laws.proofs.Order.{buckets_in_order}
use Rattle.merge_laws.proofs.Separate.{buckets_are_separate}
use Rattle.merge_laws.proofs.BucketChoice.{buckets_leave_no_choice}
use Rattle.merge_laws.proofs.bucket_laws.law_of_buckets.Goals as goal

pub returns-clause-grouped : goal.returns-clause-grouped
returns-clause-grouped c = buckets_are_parts

pub returns-clause-least : goal.returns-clause-least
returns-clause-least c = labels_are_least

pub returns-clause-classes : goal.returns-clause-classes
returns-clause-classes c = buckets_are_classes

pub returns-clause-order : goal.returns-clause-order
returns-clause-order c = buckets_in_order

pub returns-clause-separate : goal.returns-clause-separate
returns-clause-separate c = buckets_are_separate

pub returns-clause-one : goal.returns-clause-one
returns-clause-one c = buckets_leave_no_choice
