-- Why words give no order.
use Rattle.std.specs.Prelude.{◌≡◌, ◌≢◌, ◌⊎◌, ◌<◌, ℕ, true, false, List, [], length, codes, Option, Some, None, is_some, Result, Ok, Err, IsTrue}
use Rattle.clap.specs.Walk.{Row, Text, first_of, one_of}
use Rattle.clap.specs.Words.{HasKind, Kinds, kind_of}
use Rattle.clap.specs.declared.error.kind.ErrorKind.{ErrorKind}
use Rattle.ill_args.specs.declared.orders.FormVerb.{FormVerb}
use Rattle.ill_args.specs.declared.orders.Order.{Order}
use Rattle.ill_args.specs.declared.orders.Verb.{Verb}
use Rattle.ill_args.specs.declared.fault.LineFault.{LineFault}
use Rattle.ill_args.specs.declared.fault.LineFault.TheVariants.{Line, SameWord, InputTwice, OutputIsRead, Missing, Unexpected, LinesAndHex, LinesAndKeepGoing, LinesAndSummary, LinesAndJson, NotOneFile, MaxRefusedNeedsKeepGoing, RefusedNeedsKeepGoing, RefusedIsShared, WholeNeedsFile}
use Rattle.ill_args.specs.CommandLine.{verb_name}
use Rattle.ill_args.specs.Orders.{files_in, is_set, list_in, HasOne, HasPair, HasTwo, IsOptionNumber, NamesNothing, ReadsInputTwice, ReadsOutput, SharesRefused}

-- the command has any number of files: not `same`, nor a command with IN and OUT
abbrev pub HasAnyFiles : Verb → List Row → Type 0
HasAnyFiles Verb.Same rows = ⊥
HasAnyFiles (Verb.Write form) rows = IsTrue (is_some (first_of (codes "output") rows))
HasAnyFiles _ rows = Unit {0}

-- the words of a command are enough for its files
abbrev pub HasFiles : Verb → List Row → Type 0
HasFiles Verb.Same rows = (first second : Text) × HasPair rows first second
HasFiles (Verb.Write form) rows = IsTrue (is_some (first_of (codes "output") rows)) ⊎ ((input output : Text) × HasTwo rows input output)
HasFiles _ rows = Unit {0}

-- `same` has standard input twice, or IN and OUT are the same word other than `-`
abbrev pub HasSameWord : Verb → List Row → Type 0
HasSameWord Verb.Same rows = HasPair rows (codes "-") (codes "-")
HasSameWord (Verb.Write form) rows = (word : Text) × HasTwo rows word word × (word ≢ codes "-")
HasSameWord _ rows = ⊥

-- words of a command that writes normal forms: fewer than IN and OUT, or with a list of files, and without `-o`
abbrev pub LacksTwo : Verb → List Row → Type 0
LacksTwo (Verb.Write form) rows = (first_of (codes "output") rows ≡ None) × ((length (files_in rows) < 2) ⊎ IsTrue (is_some (list_in rows)))
LacksTwo _ rows = ⊥

-- more words than IN and OUT, without `-o`
abbrev pub ExceedsTwo : Verb → List Row → Type 0
ExceedsTwo (Verb.Write form) rows = (first_of (codes "output") rows ≡ None) × (2 < length (files_in rows))
ExceedsTwo _ rows = ⊥

-- what is wrong with the files of a command
abbrev pub HasFileFault : Verb → List Row → LineFault → Type 0
HasFileFault verb rows SameWord = HasSameWord verb rows
HasFileFault verb rows InputTwice = HasAnyFiles verb rows × ReadsInputTwice rows
HasFileFault verb rows OutputIsRead = ((form : FormVerb) × (verb ≡ Verb.Write form)) × ReadsOutput rows
HasFileFault verb rows (Missing error) = (kind_of error ≡ ErrorKind.MissingRequiredArgument) × ((HasAnyFiles verb rows × NamesNothing rows) ⊎ LacksTwo verb rows)
HasFileFault verb rows (Unexpected error) = (kind_of error ≡ ErrorKind.UnknownArgument) × ExceedsTwo verb rows
HasFileFault verb rows NotOneFile = HasAnyFiles verb rows × (is_set (codes "lines") rows ≡ true) × ((file : Text) → HasOne rows file → ⊥)
HasFileFault verb rows _ = ⊥

-- OUT is standard output
abbrev pub PrintsOutput : List Row → Type 0
PrintsOutput rows = (first_of (codes "output") rows ≡ Some (codes "-")) ⊎ ((input : Text) × HasTwo rows input (codes "-"))

-- the flag of this name is set beside `--lines`
abbrev pub HasLinesAnd : List Row → Text → Type 0
HasLinesAnd rows name = (is_set (codes "lines") rows ≡ true) × (is_set name rows ≡ true)

-- flags that exclude others, or need them
abbrev pub HasFlagFault : List Row → LineFault → Type 0
HasFlagFault rows LinesAndHex = HasLinesAnd rows (codes "hex")
HasFlagFault rows LinesAndKeepGoing = HasLinesAnd rows (codes "keep-going")
HasFlagFault rows LinesAndSummary = HasLinesAnd rows (codes "summary")
HasFlagFault rows LinesAndJson = HasLinesAnd rows (codes "json")
HasFlagFault rows WholeNeedsFile = (is_set (codes "whole") rows ≡ true) × PrintsOutput rows
HasFlagFault rows RefusedNeedsKeepGoing = IsTrue (is_some (first_of (codes "refused") rows)) × (is_set (codes "keep-going") rows ≡ false)
HasFlagFault rows MaxRefusedNeedsKeepGoing = ((n : ℕ) × IsOptionNumber (one_of (codes "max-refused") rows) (Some n)) × (is_set (codes "keep-going") rows ≡ false)
HasFlagFault rows RefusedIsShared = SharesRefused rows
HasFlagFault rows _ = ⊥

-- what is wrong with the words of a command; its flags are looked at once its files are there
abbrev pub HasFault : Verb → List Row → LineFault → Type 0
HasFault verb rows fault = HasFileFault verb rows fault ⊎ (HasFiles verb rows × HasFlagFault rows fault)

-- a fault that clap doesn't report comes only where the words have it
abbrev pub IsFaultOf : Option (Text × List Row) → LineFault → Type 0
IsFaultOf found (Line error) = Unit {0}
IsFaultOf found fault = (verb : Verb) × (rows : List Row) × (found ≡ Some (verb_name verb, rows)) × HasFault verb rows fault

-- memory ran out
abbrev pub IsOutOfMemory : LineFault → Type 0
IsOutOfMemory (Line error) = kind_of error ≡ ErrorKind.OutOfMemory
IsOutOfMemory _ = ⊥

-- the fault of words in which clap finds faults of these kinds: one of them, or out of memory; and where it finds none, another fault
abbrev pub IsFaultOfKinds : Kinds → LineFault → Type 0
IsFaultOfKinds kinds (Line error) = HasKind kinds error
IsFaultOfKinds kinds _ = kinds ≡ []

-- words in which clap finds faults give no order
abbrev pub IsRefusedBy : Kinds → Result Order LineFault → Type 0
IsRefusedBy kinds (Ok order) = kinds ≡ []
IsRefusedBy kinds (Err fault) = IsFaultOfKinds kinds fault
