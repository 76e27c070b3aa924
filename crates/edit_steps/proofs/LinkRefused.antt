-- Edits that are not refused.
use Rattle.edit_steps.specs.Refusals.{link_index}
use Rattle.edit_steps.proofs.Refused.{may_set, may_link, may_unlink, may_reorder}
use Rattle.edit_steps.proofs.Sets.{set_ref_meets}
use Rattle.edit_steps.proofs.LinkEdits.{link_meets, unlink_meets, reorder_meets}
use Rattle.edit_steps.specs.LinkLaws.{SetRefLeads, LinkLeads, UnlinkLeads, ReorderLeads}

pub set_ref_leads : SetRefLeads
set_ref_leads meta sound m good a f b one open_ = set_ref_meets meta sound m good a f b (may_set meta m a f b one open_)

pub link_leads : LinkLeads
link_leads meta sound m good a f b at open_ = link_meets meta sound m good a f b (link_index m a f at) (may_link meta m a f b at open_)

pub unlink_leads : UnlinkLeads
unlink_leads meta sound m good a f b open_ = unlink_meets meta sound m good a f b (may_unlink m a f b open_)

pub reorder_leads : ReorderLeads
reorder_leads meta sound m good a f b k open_ = reorder_meets meta sound m good a f b k (may_reorder m a f b k open_)
