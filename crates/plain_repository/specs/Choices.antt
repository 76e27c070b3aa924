-- What is answered where theirs and mine conflict.
use Rattle.std.specs.Prelude.{ℕ, List, [], ◌∷◌, length, Option, Some, None, if◌then◌else◌}
use Rattle.footprint.specs.declared.bucket.Bucket.{Bucket}
use Rattle.merge_laws.specs.Choices.{are_choices}
use Rattle.shown_lines.specs.Buckets.{bucket_lines}
use Rattle.script_lang.specs.declared.reply.Refusal.TheVariants as refusals
use Rattle.plain_repository.specs.Answers.{Decision, refused, refused_with}

-- what is decided where the choices fit the buckets; a bucket without choices, and choices that don't fit, are refused
abbrev pub chosen : List Bucket → Option (List ℕ) → Decision → Decision
chosen [] None decision = decision
chosen (b ∷ bs) None decision = refused_with (bucket_lines (record { rows = b ∷ bs })) (refusals.Conflicts (length (b ∷ bs)))
chosen rows (Some letters) decision = if are_choices letters rows then decision else refused (refusals.BadChoice (length rows) (length letters))
