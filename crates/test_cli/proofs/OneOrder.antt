-- What was found is one command, with one list of rows; so is each part of its order.
use Rattle.std.proofs.Common.{◌≡◌, ℕ, Bool, true, false, IfOk, List, [], ◌∷◌, Option, Some, None, is_some, Result, Ok, unwrap_or, option_map, codes, length, arith, refl, sym, ap, ap₂, subst, ◌∙◌}
use Rattle.std.specs.Prelude.{find, if◌then◌else◌}
use Rattle.std.specs.Str.{bytes_eq}
use Rattle.clap.specs.Walk.{Row, Text, first_of}
use Rattle.ill_args.specs.CommandLine.{all_verbs, profile_name, verb_name}
use Rattle.ill_args.specs.Orders.{form_verb, is_set, target_name, verb, verb_of_results, verb_of_work, AreElements, AreMessages, HasBuildResults, HasFormJob, HasInputs, HasResults, HasWords, HasWork, IsByMessage, IsKeepGoing, IsLimit, IsOptionNumber, IsOrderOf, IsReading, IsTarget, NamesProfile}
use Rattle.ill_tables.specs.declared.profile.Profile.{Profile}
use Rattle.ill_args.specs.declared.fault.LineFault.{LineFault}
use Rattle.ill_args.specs.declared.orders.Elements.{Elements}
use Rattle.ill_args.specs.declared.orders.BuildResults.{BuildResults}
use Rattle.ill_args.specs.declared.orders.FileJob.{FileJob}
use Rattle.ill_args.specs.declared.orders.FormJob.{FormJob}
use Rattle.ill_args.specs.declared.orders.FormVerb.{FormVerb}
use Rattle.ill_args.specs.declared.orders.Inputs.{Inputs}
use Rattle.ill_args.specs.declared.orders.KeepGoing.{KeepGoing}
use Rattle.ill_args.specs.declared.orders.Limit.{Limit}
use Rattle.ill_args.specs.declared.orders.LineResults.{LineResults}
use Rattle.ill_args.specs.declared.orders.Messages.{Messages}
use Rattle.ill_args.specs.declared.orders.Order.{Order}
use Rattle.ill_args.specs.declared.orders.Reading.{Reading}
use Rattle.ill_args.specs.declared.orders.Report.{Report}
use Rattle.ill_args.specs.declared.orders.Target.{Target}
use Rattle.ill_args.specs.declared.orders.Verb.{Verb}
use Rattle.ill_args.specs.declared.orders.Work.{Work}
use Rattle.test_cli.specs.Orders.{going_of, profile_of, IsSameInputs, IsSameMessages, IsSameOrder, IsSameResults, IsSameTarget, IsSameWork}

-- the command of a name
abbrev verb_of : Text → Verb
verb_of name = unwrap_or (find (λ v. bytes_eq name (verb_name v)) all_verbs) Verb.Same

verb_again : (v : Verb) → verb_of (verb_name v) ≡ v
verb_again (Verb.Print (FileJob.Report Report.Check)) = refl
verb_again (Verb.Print (FileJob.Report _)) = refl
verb_again (Verb.Print _) = refl
verb_again (Verb.Write FormVerb.Build) = refl
verb_again (Verb.Write _) = refl
verb_again _ = refl

pub verb_is : (v w : Verb) → verb_name v ≡ verb_name w → v ≡ w
verb_is v w e = sym (verb_again v) ∙ ap verb_of e ∙ verb_again w

profile_is : (p q : Profile) → profile_name p ≡ profile_name q → p ≡ q
profile_is Profile.Two Profile.Two e = refl
profile_is Profile.Two Profile.Module e = absurd (let q : 1 ≡ 6 = ap length e in omega (arith, q))
profile_is Profile.Module Profile.Two e = absurd (let q : 6 ≡ 1 = ap length e in omega (arith, q))
profile_is Profile.Module Profile.Module e = refl

pub some_is : {X : Type 0} (x y : X) → Some x ≡ Some y → x ≡ y
some_is {X = X} x y e = ap (λ (o : Option X). unwrap_or o x) e

-- ---- the parts of an order

pub one_profile : (rows : List Row) (p q : Profile) → NamesProfile rows p → NamesProfile rows q → p ≡ q
one_profile rows p q h k = profile_is p q (some_is _ _ (sym h ∙ k))

one_reading : (rows : List Row) (r s : Reading) → IsReading rows r → IsReading rows s → r ≡ s
one_reading rows r s h k = ap₂ (λ (p : Profile) (x : Bool). record { profile = p; hex = x }) (one_profile rows r.profile s.profile h.profile k.profile) (h.hex ∙ sym k.hex)

-- a word is of one number
one_number : (word : Option Text) (m n : Option ℕ) → IsOptionNumber word m → IsOptionNumber word n → m ≡ n
one_number None m n h k = h ∙ sym k
one_number (Some word) (Some m) (Some n) h k = ap Some (h.1 ∙ sym k.1)
one_number (Some word) (Some m) None h k = absurd (k h.0)
one_number (Some word) None (Some n) h k = absurd (h k.0)
one_number (Some word) None None h k = refl

one_limit : (rows : List Row) (a b : Option Limit) → IsLimit rows a → IsLimit rows b → a ≡ b
one_limit rows None None h k = refl
one_limit rows None (Some b) h k = absurd cc
one_limit rows (Some a) None h k = absurd cc
one_limit rows (Some a) (Some b) h k = ap (λ (n : Option ℕ). Some (record { max_refused = n })) (one_number _ a.max_refused b.max_refused h.1 k.1)

one_going : (rows : List Row) (a b : Option KeepGoing) → IsKeepGoing rows a → IsKeepGoing rows b → option_map going_of a ≡ option_map going_of b
one_going rows None None h k = refl
one_going rows None (Some b) h k = absurd cc
one_going rows (Some a) None h k = absurd cc
one_going rows (Some a) (Some b) h k =
    ap₂ (λ (n : Option ℕ) (file : Option Text). Some (n, file)) (one_number _ a.limit.max_refused b.limit.max_refused h.0.1 k.0.1) (sym h.1 ∙ k.1)

one_messages : (rows : List Row) (m n : Messages) → AreMessages rows m → AreMessages rows n → IsSameMessages m n
one_messages rows m n h k = (one_reading rows m.reading n.reading h.reading k.reading, one_going rows m.keep_going n.keep_going h.keep_going k.keep_going, h.summary ∙ sym k.summary)

one_inputs : (rows : List Row) (i j : Inputs) → HasInputs rows i → HasInputs rows j → IsSameInputs i j
one_inputs rows i j h k = (sym h.0 ∙ k.0, sym h.1 ∙ k.1)

one_target : (rows : List Row) (t u : Target) → target_name t ≡ target_name u → IsTarget rows t → IsTarget rows u → IsSameTarget t u
one_target rows Target.StandardOutput Target.StandardOutput e h k = (e, refl)
one_target rows Target.StandardOutput (Target.File name whole) e h k = absurd (k.0 (sym e))
one_target rows (Target.File name whole) Target.StandardOutput e h k = absurd (h.0 e)
one_target rows (Target.File name whole) (Target.File name' whole') e h k = (e, h.1 ∙ sym k.1)

-- ---- the form of an order

abbrev form_of_work : Work → ℕ
form_of_work (Work.Print job json with_filename messages inputs) = 0
form_of_work (Work.Dump elements with_filename inputs) = 1
form_of_work (Work.Write job messages input output) = 2
form_of_work (Work.Collect job messages inputs output) = 3
form_of_work (Work.Lines profile input results) = 4

abbrev form_of : Order → ℕ
form_of (Order.Each work) = form_of_work work
form_of (Order.Compare reading first second) = 5

abbrev form_in : Verb → Bool → Bool → ℕ
form_in (Verb.Print (FileJob.Report report)) lines collects = if lines then 4 else 0
form_in (Verb.Print _) lines collects = 0
form_in Verb.Dump lines collects = 1
form_in Verb.Same lines collects = 5
form_in (Verb.Write FormVerb.Canonicalise) lines collects = if lines then 4 else if collects then 3 else 2
form_in (Verb.Write FormVerb.Build) lines collects = if collects then 3 else 2

form_of_job : (rows : List Row) (job : FileJob) (collects : Bool) → IsByMessage rows job → 0 ≡ form_in (Verb.Print job) (is_set (codes "lines") rows) collects
form_of_job rows (FileJob.Report report) collects h = rw h refl
form_of_job rows _ collects h = refl

form_of_results : (results : LineResults) (collects : Bool) → 4 ≡ form_in (verb_of_results results) true collects
form_of_results (LineResults.Report report) collects = refl
form_of_results _ collects = refl

-- of normal forms, by the two files or by `-o`
form_of_forms : (rows : List Row) (job : FormJob) (collects : Bool) → HasFormJob rows job → (if collects then 3 else 2) ≡ form_in (Verb.Write (form_verb job)) (is_set (codes "lines") rows) collects
form_of_forms rows FormJob.Canonicalise collects h = rw h refl
form_of_forms rows (FormJob.Build building) collects h = refl

form_is : (rows : List Row) (order : Order) → HasWords rows order → form_of order ≡ form_in (verb order) (is_set (codes "lines") rows) (is_some (first_of (codes "output") rows))
form_is rows (Order.Each (Work.Print job json with_filename messages inputs)) h = form_of_job rows job _ h.0
form_is rows (Order.Each (Work.Dump elements with_filename inputs)) h = refl
form_is rows (Order.Each (Work.Write job messages input output)) h = rw h.2.words.2 (form_of_forms rows job false h.0)
form_is rows (Order.Each (Work.Collect job messages inputs output)) h = rw h.3.word (form_of_forms rows job true h.0)
form_is rows (Order.Each (Work.Lines profile input results)) h = rw h.1.lines (form_of_results results _)
form_is rows (Order.Compare reading first second) h = refl

is_work : (work : Work) → form_of_work work ≡ 5 → ⊥
is_work (Work.Print job json with_filename messages inputs) e = absurd cc
is_work _ e = absurd cc

-- ---- one order

one_file : (files : List Text) (a b : Text) → files ≡ a ∷ [] → files ≡ b ∷ [] → a ≡ b
one_file files a b e f = cc

pub two_files : (files : List Text) (a b c d : Text) → files ≡ a ∷ b ∷ [] → files ≡ c ∷ d ∷ [] → (a ≡ c) × (b ≡ d)
two_files files a b c d e f = (cc, cc)

one_results : (rows : List Row) (input input' : Text) (r s : LineResults) → verb_of_results r ≡ verb_of_results s → HasResults rows input r → HasResults rows input' s
    → (input ≡ input') × IsSameResults r s
one_results rows input input' (LineResults.Report r) (LineResults.Report s) e h k = (one_file _ input input' h.0 k.0, cc)
one_results rows input input' (LineResults.Report r) (LineResults.Write u) e h k = absurd cc
one_results rows input input' (LineResults.Report r) (LineResults.Collect u) e h k = absurd cc
one_results rows input input' (LineResults.Write t) (LineResults.Report s) e h k = absurd cc
one_results rows input input' (LineResults.Collect t) (LineResults.Report s) e h k = absurd cc
one_results rows input input' (LineResults.Write t) (LineResults.Write u) e h k =
    let f = two_files _ input (target_name t) input' (target_name u) h.words.0 k.words.0 in
    (f.0, one_target rows t u f.1 h.target k.target)
one_results rows input input' (LineResults.Write t) (LineResults.Collect u) e h k = absurd (let f = sym h.words.2 ∙ k.1.word in cc)
one_results rows input input' (LineResults.Collect t) (LineResults.Write u) e h k = absurd (let f = sym h.1.word ∙ k.words.2 in cc)
one_results rows input input' (LineResults.Collect t) (LineResults.Collect u) e h k =
    (one_file _ input input' h.0.0 k.0.0, one_target rows t u (some_is _ _ (sym h.1.word ∙ k.1.word)) h.1.target k.1.target)

elements_are : (r s : Reading) (a b : Option Limit) (m n : Option ℕ) (x y : Bool) → r ≡ s → a ≡ b → m ≡ n → x ≡ y
    → ◌≡◌ {A = Elements} (record { reading = r; keep_going = a; message = m; html = x }) (record { reading = s; keep_going = b; message = n; html = y })
elements_are r s a b m n x y e f g h = cc

one_elements : (rows : List Row) (a b : Elements) → AreElements rows a → AreElements rows b → a ≡ b
one_elements rows a b h k =
    elements_are a.reading b.reading a.keep_going b.keep_going a.message b.message a.html b.html (one_reading rows a.reading b.reading h.reading k.reading)
    (one_limit rows a.keep_going b.keep_going h.keep_going k.keep_going) (one_number _ a.message b.message h.message k.message) (h.html ∙ sym k.html)

-- what is built, and from what, is given by the words
one_built : (rows : List Row) (r s : BuildResults) → HasBuildResults rows r → HasBuildResults rows s → r ≡ s
one_built rows BuildResults.Messages BuildResults.Messages h k = refl
one_built rows BuildResults.Messages BuildResults.Lines h k = absurd (let e = sym h.0 ∙ k.lines in cc)
one_built rows BuildResults.Messages BuildResults.Json h k = absurd (let e = sym h.1 ∙ k.1 in cc)
one_built rows BuildResults.Lines BuildResults.Messages h k = absurd (let e = sym k.0 ∙ h.lines in cc)
one_built rows BuildResults.Lines BuildResults.Lines h k = refl
one_built rows BuildResults.Lines BuildResults.Json h k = absurd (let e = sym k.0 ∙ h.lines in cc)
one_built rows BuildResults.Json BuildResults.Messages h k = absurd (let e = sym k.1 ∙ h.1 in cc)
one_built rows BuildResults.Json BuildResults.Lines h k = absurd (let e = sym h.0 ∙ k.lines in cc)
one_built rows BuildResults.Json BuildResults.Json h k = refl

one_form : (rows : List Row) (job job' : FormJob) → form_verb job ≡ form_verb job' → HasFormJob rows job → HasFormJob rows job' → job ≡ job'
one_form rows FormJob.Canonicalise FormJob.Canonicalise e h k = refl
one_form rows FormJob.Canonicalise (FormJob.Build building) e h k = absurd cc
one_form rows (FormJob.Build building) FormJob.Canonicalise e h k = absurd cc
one_form rows (FormJob.Build building) (FormJob.Build other) e h k =
    ap₂ (λ (r : BuildResults) (x : Bool). FormJob.Build (record { results = r; write_defaults = building.write_defaults; with_filename = x }))
    (one_built rows building.results other.results h.results k.results) (h.names ∙ sym k.names)
    ∙ ap (λ (x : Bool). FormJob.Build (record { results = other.results; write_defaults = x; with_filename = other.with_filename })) (h.defaults ∙ sym k.defaults)

write_is : {f g : FormVerb} → Verb.Write f ≡ Verb.Write g → f ≡ g
write_is e = cc

one_work : (rows : List Row) (one other : Work) → form_of_work one ≡ form_of_work other → verb_of_work one ≡ verb_of_work other → HasWork rows one → HasWork rows other → IsSameWork one other
one_work rows (Work.Print job json named messages inputs) (Work.Print job' json' named' messages' inputs') f e h k = (
  cc,
  h.1 ∙ sym k.1,
  h.2 ∙ sym k.2,
  one_messages rows messages messages' h.3 k.3,
  one_inputs rows inputs inputs' h.4.files k.4.files,
)
one_work rows (Work.Dump elements named inputs) (Work.Dump elements' named' inputs') f e h k =
    (one_elements rows elements elements' h.0 k.0, h.1 ∙ sym k.1, one_inputs rows inputs inputs' h.2.files k.2.files)
one_work rows (Work.Write job messages input output) (Work.Write job' messages' input' output') f e h k =
    let two = two_files _ input.now (target_name output) input'.now (target_name output') h.2.words.0 k.2.words.0 in
    (one_form rows job job' (write_is e) h.0 k.0, one_messages rows messages messages' h.1 k.1, two.0, one_target rows output output' two.1 h.2.target k.2.target)
one_work rows (Work.Collect job messages inputs output) (Work.Collect job' messages' inputs' output') f e h k = (
  one_form rows job job' (write_is e) h.0 k.0,
  one_messages rows messages messages' h.1 k.1,
  one_inputs rows inputs inputs' h.2.files k.2.files,
  one_target rows output output' (some_is _ _ (sym h.3.word ∙ k.3.word)) h.3.target k.3.target,
)
one_work rows (Work.Lines profile input results) (Work.Lines profile' input' results') f e h k =
    let same = one_results rows input.now input'.now results results' e h.2 k.2 in
    (one_profile rows profile profile' h.0 k.0, same.0, same.1)
one_work rows _ _ f e h k = absurd cc

one_words : (rows : List Row) (one other : Order) → form_of one ≡ form_of other → verb one ≡ verb other → HasWords rows one → HasWords rows other → IsSameOrder one other
one_words rows (Order.Each work) (Order.Each work') f e h k = one_work rows work work' f e h k
one_words rows (Order.Compare reading first second) (Order.Compare reading' first' second') f e h k =
    (one_reading rows reading reading' h.0 k.0, some_is _ _ (sym h.1.0 ∙ k.1.0), some_is _ _ (sym h.1.1 ∙ k.1.1))
one_words rows (Order.Each work) (Order.Compare reading first second) f e h k = absurd (is_work work f)
one_words rows (Order.Compare reading first second) (Order.Each work) f e h k = absurd (is_work work (sym f))

-- what was found is of one command, with one list of rows
pub one_found : (found : Option (Text × List Row)) (name other : Text) (rows more : List Row) → found ≡ Some (name, rows) → found ≡ Some (other, more) → (name ≡ other) × (rows ≡ more)
one_found found name other rows more e f =
    let g = some_is _ _ (sym e ∙ f) in
    (ap (λ (p : Text × List Row). p.0) g, ap (λ (p : Text × List Row). p.1) g)

pub same_order : (found : Option (Text × List Row)) (one other : Order) → IsOrderOf found one → IsOrderOf found other → IsSameOrder one other
same_order found one other h k =
    let f = one_found found (verb_name (verb one)) (verb_name (verb other)) h.rows k.rows h.command k.command in
    let v = verb_is (verb one) (verb other) f.0 in
    let words = subst (λ rows. HasWords rows other) (sym f.1) k.words in
    let form = form_is h.rows one h.words
    ∙ ap (λ v. form_in v (is_set (codes "lines") h.rows) (is_some (first_of (codes "output") h.rows))) v
    ∙ sym (form_is h.rows other words) in
    one_words h.rows one other form v h.words words

-- what words give once, and what they give again

pub given : (found : Option (Text × List Row)) (r : Result Order LineFault) (one : Order) → r ≡ Ok one → IfOk r (IsOrderOf found) → IsOrderOf found one
given found r one e h = subst (λ x. IfOk x (IsOrderOf found)) e h

-- the profile of an order

names_profile : (rows : List Row) (order : Order) → HasWords rows order → NamesProfile rows (profile_of order)
names_profile rows (Order.Each (Work.Print job json named messages inputs)) h = h.3.reading.profile
names_profile rows (Order.Each (Work.Dump elements named inputs)) h = h.0.reading.profile
names_profile rows (Order.Each (Work.Write job messages input output)) h = h.1.reading.profile
names_profile rows (Order.Each (Work.Collect job messages inputs output)) h = h.1.reading.profile
names_profile rows (Order.Each (Work.Lines profile input results)) h = h.0
names_profile rows (Order.Compare reading first second) h = h.0.profile

pub has_profile : (rows : List Row) (order : Order) (profile : Profile) → HasWords rows order → NamesProfile rows profile → profile_of order ≡ profile
has_profile rows order profile h named = one_profile rows (profile_of order) profile (names_profile rows order h) named
