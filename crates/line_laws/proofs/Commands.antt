-- How each command's words are read: exactly, word by word.
use Rattle.std.proofs.Common.{arith}
use Rattle.script_lang.specs.declared.command.Command.TheVariants as commands
use Rattle.edits.specs.declared.edit.Edit.TheVariants.{Create, Delete, Set, Unset, Add, Remove, Shift, Link, Unlink, Reorder, Move}
use Rattle.script_lang.specs.Command.{init_at, evolve_at, import_at, load_at, checkout_at, create_at, delete_at, move_at, set_at, unset_at, add_at}
use Rattle.script_lang.specs.Command.{remove_at, shift_at, link_at, unlink_at, reorder_at, begin_at, end_line_at, undo_at, discard_at, tidy_at}
use Rattle.script_lang.specs.Command.{apply_at, changes_at, show_at, cat_at, validate_at, commit_at, signed_at, branch_at, tag_at, log_at, package_at}
use Rattle.script_lang.specs.Command.{update_at, merge_at, revert_at, drop_at, upgrade_at}
use Rattle.line_laws.proofs.Faults.{Exact}
use Rattle.line_laws.proofs.Fields.{word_then, number_then, moment_then, name_then, index_or_end_then, spec_then, bytes_then, destination_then}
use Rattle.line_laws.proofs.Fields.{optional_then, optional_number_then, rest_last, optional_rest_last, end_last}

pub init_exact : Exact init_at
unfolding init_at
init_exact = end_last commands.Init

pub evolve_exact : Exact evolve_at
unfolding evolve_at
evolve_exact = end_last commands.Evolve

pub import_exact : Exact import_at
unfolding import_at
import_exact = number_then 1 (omega arith) _ (λ ws. end_last (commands.Import ws))

pub load_exact : Exact load_at
unfolding load_at
load_exact = number_then 1 (omega arith) _ (λ ws. end_last (commands.Load ws))

pub checkout_exact : Exact checkout_at
unfolding checkout_at
checkout_exact = spec_then _ (λ spec. end_last (commands.Checkout spec))

pub create_exact : Exact create_at
unfolding create_at
create_exact =
    number_then 1 (omega arith) _ (λ ws.
    word_then _ (λ class.
    destination_then _ (λ place.
    optional_then _ (λ id.
    end_last (commands.Edit ws (Create class place id))))))

pub delete_exact : Exact delete_at
unfolding delete_at
delete_exact = number_then 1 (omega arith) _ (λ ws. word_then _ (λ id. end_last (commands.Edit ws (Delete id))))

pub move_exact : Exact move_at
unfolding move_at
move_exact =
    number_then 1 (omega arith) _ (λ ws.
    word_then _ (λ id.
    destination_then _ (λ place.
    optional_number_then _ (λ index.
    end_last (commands.Edit ws (Move id place index))))))

pub set_exact : Exact set_at
unfolding set_at
set_exact = number_then 1 (omega arith) _ (λ ws. word_then _ (λ id. word_then _ (λ feature. rest_last (λ value. commands.Edit ws (Set id feature value)))))

pub unset_exact : Exact unset_at
unfolding unset_at
unset_exact = number_then 1 (omega arith) _ (λ ws. word_then _ (λ id. word_then _ (λ feature. end_last (commands.Edit ws (Unset id feature)))))

pub add_exact : Exact add_at
unfolding add_at
add_exact =
    number_then 1 (omega arith) _ (λ ws.
    word_then _ (λ id.
    word_then _ (λ feature.
    index_or_end_then _ (λ at.
    rest_last (λ value. commands.Edit ws (Add id feature at value))))))

pub remove_exact : Exact remove_at
unfolding remove_at
remove_exact =
    number_then 1 (omega arith) _ (λ ws.
    word_then _ (λ id.
    word_then _ (λ feature.
    number_then 0 (omega arith) _ (λ index.
    end_last (commands.Edit ws (Remove id feature index))))))

pub shift_exact : Exact shift_at
unfolding shift_at
shift_exact =
    number_then 1 (omega arith) _ (λ ws.
    word_then _ (λ id.
    word_then _ (λ feature.
    number_then 0 (omega arith) _ (λ from.
    number_then 0 (omega arith) _ (λ to.
    end_last (commands.Edit ws (Shift id feature from to)))))))

pub link_exact : Exact link_at
unfolding link_at
link_exact =
    number_then 1 (omega arith) _ (λ ws.
    word_then _ (λ id.
    word_then _ (λ feature.
    word_then _ (λ target.
    optional_number_then _ (λ index.
    end_last (commands.Edit ws (Link id feature target index)))))))

pub unlink_exact : Exact unlink_at
unfolding unlink_at
unlink_exact =
    number_then 1 (omega arith) _ (λ ws.
    word_then _ (λ id.
    word_then _ (λ feature.
    word_then _ (λ target.
    end_last (commands.Edit ws (Unlink id feature target))))))

pub reorder_exact : Exact reorder_at
unfolding reorder_at
reorder_exact =
    number_then 1 (omega arith) _ (λ ws.
    word_then _ (λ id.
    word_then _ (λ feature.
    word_then _ (λ target.
    number_then 0 (omega arith) _ (λ index.
    end_last (commands.Edit ws (Reorder id feature target index)))))))

pub begin_exact : Exact begin_at
unfolding begin_at
begin_exact = number_then 1 (omega arith) _ (λ ws. name_then _ (λ name. end_last (commands.Begin ws name)))

pub end_line_exact : Exact end_line_at
unfolding end_line_at
end_line_exact = number_then 1 (omega arith) _ (λ ws. end_last (commands.End ws))

pub undo_exact : Exact undo_at
unfolding undo_at
undo_exact = number_then 1 (omega arith) _ (λ ws. end_last (commands.Undo ws))

pub discard_exact : Exact discard_at
unfolding discard_at
discard_exact = number_then 1 (omega arith) _ (λ ws. end_last (commands.Discard ws))

pub tidy_exact : Exact tidy_at
unfolding tidy_at
tidy_exact = number_then 1 (omega arith) _ (λ ws. end_last (commands.Tidy ws))

pub apply_exact : Exact apply_at
unfolding apply_at
apply_exact = number_then 1 (omega arith) _ (λ ws. bytes_then _ (λ bytes. end_last (commands.Apply ws bytes)))

pub changes_exact : Exact changes_at
unfolding changes_at
changes_exact = number_then 1 (omega arith) _ (λ ws. end_last (commands.Changes ws))

pub show_exact : Exact show_at
unfolding show_at
show_exact = number_then 1 (omega arith) _ (λ ws. end_last (commands.Show ws))

pub cat_exact : Exact cat_at
unfolding cat_at
cat_exact = spec_then _ (λ spec. end_last (commands.Cat spec))

pub validate_exact : Exact validate_at
unfolding validate_at
validate_exact = number_then 1 (omega arith) _ (λ ws. end_last (commands.Validate ws))

pub commit_exact : Exact commit_at
unfolding commit_at
commit_exact = number_then 1 (omega arith) _ (λ ws. optional_rest_last (λ message. commands.Commit ws message))

pub signed_exact : Exact signed_at
unfolding signed_at
signed_exact =
    number_then 1 (omega arith) _ (λ ws.
    name_then _ (λ author.
    moment_then _ (λ moment.
    optional_rest_last (λ message. commands.Signed ws author moment message))))

pub branch_exact : Exact branch_at
unfolding branch_at
branch_exact = number_then 1 (omega arith) _ (λ ws. name_then _ (λ name. end_last (commands.Branch ws name)))

pub tag_exact : Exact tag_at
unfolding tag_at
tag_exact = name_then _ (λ name. spec_then _ (λ spec. end_last (commands.Tag name spec)))

pub log_exact : Exact log_at
unfolding log_at
log_exact = end_last commands.Log

pub package_exact : Exact package_at
unfolding package_at
package_exact = spec_then _ (λ spec. end_last (commands.Package spec))

pub update_exact : Exact update_at
unfolding update_at
update_exact = number_then 1 (omega arith) _ (λ ws. optional_then _ (λ choices. end_last (commands.Update ws choices)))

pub merge_exact : Exact merge_at
unfolding merge_at
merge_exact = number_then 1 (omega arith) _ (λ ws. name_then _ (λ branch. optional_then _ (λ choices. end_last (commands.Merge ws branch choices))))

pub revert_exact : Exact revert_at
unfolding revert_at
revert_exact = number_then 1 (omega arith) _ (λ ws. number_then 0 (omega arith) _ (λ version. end_last (commands.Revert ws version)))

pub drop_exact : Exact drop_at
unfolding drop_at
drop_exact = number_then 1 (omega arith) _ (λ ws. end_last (commands.Drop ws))

pub upgrade_exact : Exact upgrade_at
unfolding upgrade_at
upgrade_exact = end_last commands.Upgrade
