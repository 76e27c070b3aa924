use Rattle.std.proofs.Common.{◌∙◌, ap, map}
use Rattle.ecore_build.specs.Faults.{all_inherited}
use Rattle.ecore_drafts.specs.Document.{own_features}
use Rattle.ecore_build.proofs.OwnerLaws.{listed_is}
use Rattle.ecore_build.proofs.building.listed.Goals as goal

pub returns : goal.returns
returns c =
    c.in_ok-features.ensures
    ∙ ap (λ own. all_inherited (map (λ ups. ups.items) c.args.supers.now) (map (λ fs. fs.items) own)) c.as_slice.ensures.value
    ∙ ap (all_inherited (map (λ ups. ups.items) c.args.supers.now)) c.in_ok-own.ensures
    ∙ ap (λ supers. all_inherited supers (own_features c.args.rows.now)) c.requires.supers
    ∙ listed_is c.args.rows.now
