-- What a command is answered.
use Rattle.std.specs.Prelude.{ℕ, List, [], ◌∷◌, ◌++◌, codes, Some, None}
use Rattle.std.specs.Fmt.{decimal}
use Rattle.script_lang.specs.declared.reply.Refusal.{Refusal}
use Rattle.script_lang.specs.declared.reply.Refusal.TheVariants.{BadLine, NotInit, AlreadyInit, BadMetamodel, NoWorkspace, NoVersion, NoBranch}
use Rattle.script_lang.specs.declared.reply.Refusal.TheVariants.{BranchExists, TagExists, NoElement, IdInUse, BadId, NoClass, Abstract, NoFeature}
use Rattle.script_lang.specs.declared.reply.Refusal.TheVariants.{WrongKind, BadValue, WrongType, Bound, AlreadyThere, NoEntry, WouldCycle}
use Rattle.script_lang.specs.declared.reply.Refusal.TheVariants.{NothingLocal, Stale, Conflicts, BadChoice, CompositeOpen, NoComposite, BadModel}
use Rattle.script_lang.specs.declared.reply.Refusal.TheVariants.{Interferes, SameBranch, NotOnPath, HistoryFull, TooLarge, JournalFull, NotApplicable}
use Rattle.script_lang.specs.declared.reply.Refusal.TheVariants.{NotForm, NotExtension, OldForm, Unsigned, Denied, TooLong, NotPrintable}
use Rattle.script_lang.specs.declared.reply.Fields.{Fields}
use Rattle.script_lang.specs.declared.reply.Fields.TheVariants as fields
use Rattle.script_lang.specs.declared.reply.Last.{Last}
use Rattle.script_lang.specs.declared.reply.Last.TheVariants as last
use Rattle.script_lang.specs.declared.reply.Reply.{Reply}

-- a refusal's number, its name and its fields, with single spaces
unfoldable pub refusal_text : Refusal → List ℕ
refusal_text (BadLine column) = codes "1 BadLine " ++ decimal column
refusal_text NotInit = codes "2 NotInit"
refusal_text AlreadyInit = codes "3 AlreadyInit"
refusal_text (BadMetamodel n) = codes "4 BadMetamodel " ++ decimal n
refusal_text NoWorkspace = codes "5 NoWorkspace"
refusal_text NoVersion = codes "6 NoVersion"
refusal_text NoBranch = codes "7 NoBranch"
refusal_text BranchExists = codes "8 BranchExists"
refusal_text TagExists = codes "9 TagExists"
refusal_text NoElement = codes "10 NoElement"
refusal_text IdInUse = codes "11 IdInUse"
refusal_text BadId = codes "12 BadId"
refusal_text NoClass = codes "13 NoClass"
refusal_text Abstract = codes "14 Abstract"
refusal_text NoFeature = codes "15 NoFeature"
refusal_text WrongKind = codes "16 WrongKind"
refusal_text BadValue = codes "17 BadValue"
refusal_text WrongType = codes "18 WrongType"
refusal_text Bound = codes "19 Bound"
refusal_text AlreadyThere = codes "20 AlreadyThere"
refusal_text NoEntry = codes "21 NoEntry"
refusal_text WouldCycle = codes "22 WouldCycle"
refusal_text NothingLocal = codes "23 NothingLocal"
refusal_text (Stale base head) = codes "24 Stale " ++ (decimal base ++ (codes " " ++ decimal head))
refusal_text (Conflicts buckets) = codes "25 Conflicts " ++ decimal buckets
refusal_text (BadChoice want got) = codes "26 BadChoice " ++ (decimal want ++ (codes " " ++ decimal got))
refusal_text CompositeOpen = codes "27 CompositeOpen"
refusal_text NoComposite = codes "28 NoComposite"
refusal_text (BadModel n) = codes "29 BadModel " ++ decimal n
refusal_text (Interferes None) = codes "30 Interferes local"
refusal_text (Interferes (Some version)) = codes "30 Interferes " ++ decimal version
refusal_text SameBranch = codes "31 SameBranch"
refusal_text NotOnPath = codes "32 NotOnPath"
refusal_text HistoryFull = codes "33 HistoryFull"
refusal_text TooLarge = codes "34 TooLarge"
refusal_text JournalFull = codes "35 JournalFull"
refusal_text (NotApplicable step) = codes "36 NotApplicable " ++ decimal step
refusal_text (NotForm place) = codes "37 NotForm " ++ decimal place
refusal_text (NotExtension name) = codes "38 NotExtension " ++ name
refusal_text OldForm = codes "39 OldForm"
refusal_text Unsigned = codes "40 Unsigned"
refusal_text (Denied rule) = codes "41 Denied " ++ decimal rule
refusal_text (TooLong place) = codes "42 TooLong " ++ decimal place
refusal_text (NotPrintable place) = codes "43 NotPrintable " ++ decimal place

-- a title, and the fields that stand after it, with single spaces
abbrev pub with_fields : List ℕ → Fields → List ℕ
with_fields title fields.Nothing = title
with_fields title (fields.One a) = title ++ (codes " " ++ decimal a)
with_fields title (fields.Two a b) = title ++ (codes " " ++ (decimal a ++ (codes " " ++ decimal b)))
with_fields title (fields.Name name) = title ++ (codes " " ++ name.now)

-- `ok`, with its words where there are any
abbrev pub ok_line : List ℕ → List ℕ
ok_line [] = codes "ok"
ok_line (b ∷ bs) = codes "ok " ++ (b ∷ bs)

-- the line that ends a reply
abbrev pub last_line : Last → List ℕ
last_line (last.Ok words) = ok_line words
last_line (last.No refusal) = codes "no " ++ refusal_text refusal

-- lines, each ended by a line feed
abbrev pub printed_lines : List (List ℕ) → List ℕ
printed_lines [] = []
printed_lines (line ∷ lines) = line ++ (10 ∷ printed_lines lines)

-- a reply: its data lines and then its last line
abbrev pub printed : Reply → List ℕ
printed reply = printed_lines reply.lines ++ (last_line reply.last ++ 10 ∷ [])
