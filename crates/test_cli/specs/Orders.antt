-- Orders that are one, wherever their words are in memory.
use Rattle.std.specs.Prelude.{◌≡◌, ℕ, map, Option, option_map}
use Rattle.clap.specs.Walk.{Text}
use Rattle.ill_tables.specs.declared.profile.Profile.{Profile}
use Rattle.ill_args.specs.Orders.{is_whole, target_name}
use Rattle.ill_args.specs.declared.fault.LineFault.{LineFault}
use Rattle.ill_args.specs.declared.orders.Inputs.{Inputs}
use Rattle.ill_args.specs.declared.orders.KeepGoing.{KeepGoing}
use Rattle.ill_args.specs.declared.orders.LineResults.{LineResults}
use Rattle.ill_args.specs.declared.orders.Messages.{Messages}
use Rattle.ill_args.specs.declared.orders.Order.{Order}
use Rattle.ill_args.specs.declared.orders.Target.{Target}
use Rattle.ill_args.specs.declared.orders.Work.{Work}

-- the profile that messages are read in
abbrev pub profile_of_work : Work → Profile
profile_of_work (Work.Print job json with_filename messages inputs) = messages.reading.profile
profile_of_work (Work.Dump elements with_filename inputs) = elements.reading.profile
profile_of_work (Work.Write job messages input output) = messages.reading.profile
profile_of_work (Work.Collect job messages inputs output) = messages.reading.profile
profile_of_work (Work.Lines profile input results) = profile

abbrev pub profile_of : Order → Profile
profile_of (Order.Each work) = profile_of_work work
profile_of (Order.Compare reading first second) = reading.profile

-- the words of files, of their list, of a file of refused messages, and of an output
abbrev pub IsSameInputs : Inputs → Inputs → Type 0
IsSameInputs i j = (map (λ word. word.now) i.files.items ≡ map (λ word. word.now) j.files.items) × (option_map (λ word. word.now) i.list ≡ option_map (λ word. word.now) j.list)

abbrev pub going_of : KeepGoing → Option ℕ × Option Text
going_of going = (going.limit.max_refused, option_map (λ word. word.now) going.refused)

abbrev pub IsSameMessages : Messages → Messages → Type 0
IsSameMessages m n = (m.reading ≡ n.reading) × (option_map going_of m.keep_going ≡ option_map going_of n.keep_going) × (m.summary ≡ n.summary)

abbrev pub IsSameTarget : Target → Target → Type 0
IsSameTarget t u = (target_name t ≡ target_name u) × (is_whole t ≡ is_whole u)

abbrev pub IsSameResults : LineResults → LineResults → Type 0
IsSameResults (LineResults.Report r) (LineResults.Report s) = r ≡ s
IsSameResults (LineResults.Write t) (LineResults.Write u) = IsSameTarget t u
IsSameResults (LineResults.Collect t) (LineResults.Collect u) = IsSameTarget t u
IsSameResults _ _ = ⊥

abbrev pub IsSameWork : Work → Work → Type 0
IsSameWork (Work.Print job json named messages inputs) (Work.Print job' json' named' messages' inputs') =
    (job ≡ job') × (json ≡ json') × (named ≡ named') × IsSameMessages messages messages' × IsSameInputs inputs inputs'
IsSameWork (Work.Dump elements named inputs) (Work.Dump elements' named' inputs') = (elements ≡ elements') × (named ≡ named') × IsSameInputs inputs inputs'
IsSameWork (Work.Write job messages input output) (Work.Write job' messages' input' output') = (job ≡ job') × IsSameMessages messages messages' × (input.now ≡ input'.now) × IsSameTarget output output'
IsSameWork (Work.Collect job messages inputs output) (Work.Collect job' messages' inputs' output') = (job ≡ job') × IsSameMessages messages messages' × IsSameInputs inputs inputs' × IsSameTarget output output'
IsSameWork (Work.Lines profile input results) (Work.Lines profile' input' results') = (profile ≡ profile') × (input.now ≡ input'.now) × IsSameResults results results'
IsSameWork _ _ = ⊥

abbrev pub IsSameOrder : Order → Order → Type 0
IsSameOrder (Order.Each work) (Order.Each work') = IsSameWork work work'
IsSameOrder (Order.Compare reading first second) (Order.Compare reading' first' second') = (reading ≡ reading') × (first.now ≡ first'.now) × (second.now ≡ second'.now)
IsSameOrder _ _ = ⊥

-- a fault of the files of a command, as `order` and clap report it
abbrev pub IsOfFiles : LineFault → Type 0
IsOfFiles LineFault.SameWord = Unit {0}
IsOfFiles LineFault.InputTwice = Unit {0}
IsOfFiles LineFault.OutputIsRead = Unit {0}
IsOfFiles (LineFault.Missing error) = Unit {0}
IsOfFiles (LineFault.Unexpected error) = Unit {0}
IsOfFiles _ = ⊥
