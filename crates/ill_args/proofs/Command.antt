-- The command that clap finds in words in which it finds no fault.
use Rattle.std.proofs.Common.{◌≡◌, ◌&&◌, ◌||◌, Bool, cond, codes, true, false, not, refl, sym, List, [], ◌∷◌, Option, Some, None, is_some, option_map, IfSome}
use Rattle.std.specs.Prelude.{find, fold}
use Rattle.std.specs.List.{list_all, list_any}
use Rattle.std.specs.Option.{option_map_or}
use Rattle.std.specs.Str.{bytes_eq}
use Rattle.std.proofs.lemmas.Bool.{and_parts}
use Rattle.std.proofs.lemmas.Slice.Eq.{bytes_eq-Decides}
use Rattle.clap.specs.Faults.{built_fault, check_fault, entered_fault, fault_of, level_fault, other_fault, turn_fault, walk_fault, word_fault}
use Rattle.clap.specs.Kinds.{Kinds, check_kinds}
use Rattle.clap.specs.Lexer.{long_of, short_of}
use Rattle.clap.specs.Simple.{App, Shape, argument_words, built, entered, label_of, names_of, rows_at, subcommand_of}
use Rattle.clap.specs.Takes.{is_given}
use Rattle.clap.specs.Walk.{Held, Names, Outcome, Row, Rule, Step, Text, Waiting, Walk, after_flag, after_step, answers_to, arg_by_index, bundle, done, finished, idle, is_empty, long_or_other, next, nothing_held, option, plain, plain_word, positional, refused, rows_after, short_or_plain, subcommand, subcommand_met, subcommand_or_other, to_positional, trailing, value, waits, walk, walk_from, walked, walked_from, word_met}
use Rattle.ill_args.specs.CommandLine.{all_verbs, program, verb_name}
use Rattle.ill_args.specs.code.Commands.{HasBoth, IsCommand}
use Rattle.ill_args.specs.declared.orders.Verb.{Verb}
use Rattle.clap.proofs.SimpleLemmas.{is_nil}
use Rattle.ill_args.proofs.Found.{find_passes}
use Rattle.ill_args.proofs.Filled.{are_good, given_value, has_profile, level_sound, named_profile, neither, IsSound}

-- ---- the walk stops at no `help`

abbrev IsNoHelp : Option (Text × List Text) → Type 0
IsNoHelp None = Unit {0}
IsNoHelp (Some p) = bytes_eq p.0 (codes "help") ≡ false

abbrev IsNoCommand : Step → Type 0
IsNoCommand (subcommand name) = ⊥
IsNoCommand _ = Unit {0}

plain_step : (c : List Rule) (waiting : Waiting) (word : Text) (h : Held) → IsNoCommand (plain_word c waiting word h).1
plain_step c idle word h = tt
plain_step c (option id) word h = tt
plain_step c positional word h = tt

flag_step : (c : List Rule) (waiting : Waiting) (word : Text) (h : Held) (o : Outcome) → IsNoCommand (after_flag c waiting word h o).1
flag_step c waiting word h done = tt
flag_step c waiting word h (waits id) = tt
flag_step c waiting word h plain = plain_step c waiting word h
flag_step c waiting word h refused = plain_step c waiting word h

short_step : (c : List Rule) (waiting : Waiting) (word : Text) (flags : Option Text) (h : Held) → IsNoCommand (short_or_plain c waiting word flags h).1
short_step c waiting word None h = plain_step c waiting word h
short_step c waiting word (Some flags) h = flag_step c waiting word (bundle c flags h).0 (bundle c flags h).1

long_step : (c : List Rule) (waiting : Waiting) (word : Text) (name : Option (Text × Option Text)) (h : Held) → IsNoCommand (long_or_other c waiting word name h).1
long_step c waiting word None h = short_step c waiting word (short_of word) h
long_step c waiting word (Some p) h = flag_step c waiting word _ _

stays : (c : List Rule) (word : Text) (w : Walk) (h : Held) (step : Step) → IsNoCommand step → IsNoHelp w.stopped → IsNoHelp (after_step c word w h step).stopped
stays c word w h (next waiting) none n = n
stays c word w h (trailing position) none n = n
stays c word w h (subcommand name) none n = absurd none
stays c word w h value none n = at (arg_by_index c w.position)
  where
    at : (a : Option Rule) → IsNoHelp (to_positional c a word w h).stopped
    at None = n
    at (Some a) = tt

word_stays : (s : Shape) (names : Names) (w : Walk) (word : Text) → s.disable_help_subcommand ≡ false → (is_trailing : Bool) → word_fault s names is_trailing w.waiting word w.held ≡ []
    → IsNoHelp w.stopped
    → IsNoHelp (after_step s.rules word w (word_met s.rules names is_trailing w.waiting w.position word w.held).0 (word_met s.rules names is_trailing w.waiting w.position word w.held).1).stopped
word_stays s names w word on true f n = stays s.rules word w w.held value tt n
word_stays s names w word on false f n = named (subcommand_met names w.waiting word) f
  where
    no_help : (b d : Bool) (kinds : Kinds) → d ≡ false → (kinds ≡ [] → ⊥) → cond (b && not d) kinds [] ≡ [] → b ≡ false
    no_help true true kinds e k f = absurd cc
    no_help true false kinds e k f = absurd (k f)
    no_help false d kinds e k f = refl

    named : (name : Option Text) → other_fault s name word w.held ≡ []
        → IsNoHelp (after_step s.rules word w (subcommand_or_other s.rules name w.waiting w.position word w.held).0 (subcommand_or_other s.rules name w.waiting w.position word w.held).1).stopped
    named (Some name) g = no_help (bytes_eq name (codes "help")) s.disable_help_subcommand _ on (λ e. absurd cc) g
    named None g = other (bytes_eq word (45 ∷ 45 ∷ []))
      where
        other : (b : Bool) → IsNoHelp (after_step s.rules word w (cond b (w.held, trailing w.position) (long_or_other s.rules w.waiting word (long_of word) w.held)).0
            (cond b (w.held, trailing w.position) (long_or_other s.rules w.waiting word (long_of word) w.held)).1).stopped
        other true = n
        other false = stays s.rules word w _ _ (long_step s.rules w.waiting word (long_of word) w.held) n

turn_stays : (s : Shape) (names : Names) (w : Walk) (word : Text) → s.disable_help_subcommand ≡ false → turn_fault s names w word ≡ [] → IsNoHelp w.stopped
    → IsNoHelp (walked s.rules names w word).stopped
unfolding walked
turn_stays s names w word on f n = from w.stopped refl f n
  where
    from : (stopped : Option (Text × List Text)) → w.stopped ≡ stopped → turn_fault s names (record w { stopped = stopped }) word ≡ [] → IsNoHelp stopped
        → IsNoHelp (walked_from s.rules names stopped w word).stopped
    from (Some p) e f n = n
    from None e f n = word_stays s names w word on w.is_trailing (neither _ _ f).0 (rw e tt)

walk_stays : (s : Shape) (names : Names) (words : List Text) (w : Walk) → s.disable_help_subcommand ≡ false → walk_fault s names w words ≡ [] → IsNoHelp w.stopped
    → IsNoHelp (fold (walked s.rules names) w words).stopped
unfolding walk_fault
walk_stays s names [] w on f n = n
walk_stays s names (word ∷ words) w on f n =
    let two = neither _ _ f in
    walk_stays s names words (walked s.rules names w word) on two.1 (turn_stays s names w word on two.0 n)

-- ---- one level

no_kinds : (x y z : Bool) → check_kinds x y z ≡ [] → (y ≡ false) × (z ≡ false)
no_kinds true y z f = absurd cc
no_kinds false true z f = absurd cc
no_kinds false false true f = absurd cc
no_kinds false false false f = (refl, refl)

is_named : (s : Shape) (rows : List Row) (named : Bool) → s.subcommand_required ≡ true → check_fault s rows named ≡ [] → named ≡ true
is_named s rows true required f = refl
is_named s rows false required f = let none : s.subcommand_required ≡ false = (no_kinds _ _ _ f).0 in absurd cc

given_if_required : (s : Shape) (rows : List Row) (id : Text) → list_any (λ a. a.required && bytes_eq a.id id) s.rules ≡ true → check_fault s rows false ≡ [] → is_given id rows ≡ true
given_if_required s rows id required f = any s.rules required (negated s.subcommand_negates_reqs (no_kinds _ _ _ f).1)
  where
    negated : (b : Bool) {d : Bool} → (not (b && false) && d) ≡ false → d ≡ false
    negated true e = e
    negated false e = e

    any : (rules : List Rule) → list_any (λ a. a.required && bytes_eq a.id id) rules ≡ true → list_any (λ a. a.required && not (is_given a.id rows)) rules ≡ false
        → is_given id rows ≡ true
    any [] r e = absurd cc
    any (a ∷ rules) r e = one a.required (bytes_eq a.id id) (is_given a.id rows) refl refl r e (any rules)
      where
        one : (x y z : Bool) → bytes_eq a.id id ≡ y → is_given a.id rows ≡ z
            → ((x && y) || list_any (λ b. b.required && bytes_eq b.id id) rules) ≡ true → ((x && not z) || list_any (λ b. b.required && not (is_given b.id rows)) rules) ≡ false
            → (list_any (λ b. b.required && bytes_eq b.id id) rules ≡ true → list_any (λ b. b.required && not (is_given b.id rows)) rules ≡ false → is_given id rows ≡ true)
            → is_given id rows ≡ true
        one true true true same given r e rest = rw ((bytes_eq-Decides a.id id).0 same) at given
        one true true false same given r e rest = absurd cc
        one true false true same given r e rest = rest r e
        one true false false same given r e rest = absurd cc
        one false y z same given r e rest = rest r e

-- ---- the program's commands

-- two files are required
abbrev wants_both : List Rule → Bool
wants_both rules = list_any (λ a. a.required && bytes_eq a.id (codes "first")) rules && list_any (λ a. a.required && bytes_eq a.id (codes "second")) rules

-- a command has a name of ours, and a profile, and `same` wants its two files
abbrev is_ours : Shape → Bool
is_ours s = list_any (λ verb. bytes_eq s.name (verb_name verb)) all_verbs && (has_profile s.rules && (not (bytes_eq s.name (codes "same")) || wants_both s.rules))

-- a command is one of ours, or a topic of `help`, or `help` itself
abbrev is_known : Shape → Bool
is_known s = s.subcommand_required || (is_ours s || (bytes_eq s.name (codes "help") && is_empty s.aliases))

verb_of : (name : Text) (list : List Verb) → list_any (λ verb. bytes_eq name (verb_name verb)) list ≡ true → (verb : Verb) × (name ≡ verb_name verb)
verb_of name [] h = absurd cc
verb_of name (verb ∷ list) h = go (bytes_eq name (verb_name verb)) refl h (verb_of name list)
  where
    go : (b : Bool) → bytes_eq name (verb_name verb) ≡ b → (b || list_any (λ other. bytes_eq name (verb_name other)) list) ≡ true → (list_any (λ other. bytes_eq name (verb_name other)) list ≡ true → (other : Verb) × (name ≡ verb_name other))
        → (other : Verb) × (name ≡ verb_name other)
    go true same h rest = (verb, (bytes_eq-Decides name (verb_name verb)).0 same)
    go false same h rest = rest h

-- a name that is met and isn't `help`
not_help : (s : Shape) (name : Text) → answers_to name (label_of s) ≡ true → (bytes_eq s.name (codes "help") && is_empty s.aliases) ≡ true → bytes_eq name (codes "help") ≡ false → ⊥
not_help s name met help never =
    let parts = and_parts (bytes_eq s.name (codes "help")) (is_empty s.aliases) help in
    let same = either (bytes_eq s.name name) (rw (is_nil s.aliases parts.1) at met) in
    let is : bytes_eq name (codes "help") ≡ true = rw (sym ((bytes_eq-Decides s.name name).0 same)) parts.0 in
    absurd cc
  where
    either : (b : Bool) → (b || false) ≡ true → b ≡ true
    either true e = refl
    either false e = e

ours : (s : Shape) (name : Text) (rows : List Row) → is_known s ≡ true → answers_to name (label_of s) ≡ true → bytes_eq name (codes "help") ≡ false → check_fault s rows false ≡ []
    → is_ours s ≡ true
ours s name rows known met never f = go s.subcommand_required (is_ours s) (bytes_eq s.name (codes "help") && is_empty s.aliases) refl refl known
  where
    go : (x y z : Bool) → s.subcommand_required ≡ x → (bytes_eq s.name (codes "help") && is_empty s.aliases) ≡ z → (x || (y || z)) ≡ true → y ≡ true
    go true y z required help h = let not_named : false ≡ true = is_named s rows false required f in absurd cc
    go false true z required help h = refl
    go false false true required help h = absurd (not_help s name met help never)
    go false false false required help h = absurd cc

both_given : (s : Shape) (words : List Text) → are_good s.rules ≡ true → (not (bytes_eq s.name (codes "same")) || wants_both s.rules) ≡ true → IsSound s [] nothing_held words false []
    → s.name ≡ codes "same" → HasBoth (rows_after s.rules [] words)
both_given s words good wants f same =
    let rows = rows_after s.rules [] words in
    let is : bytes_eq s.name (codes "same") ≡ true = (bytes_eq-Decides s.name (codes "same")).1 same in
    let both : wants_both s.rules ≡ true = rw is at wants in
    let two = and_parts (list_any (λ a. a.required && bytes_eq a.id (codes "first")) s.rules) _ both in (
      given_value s words (codes "first") good f (given_if_required s rows (codes "first") two.0 f.rows_pass),
      given_value s words (codes "second") good f (given_if_required s rows (codes "second") two.1 f.rows_pass),
    )

is_command : (s : Shape) (words : List Text) → is_ours s ≡ true → IsSound s [] nothing_held words false [] → IsCommand (Some (s.name, rows_after s.rules [] words))
is_command s words own f =
    let parts = and_parts (list_any (λ verb. bytes_eq s.name (verb_name verb)) all_verbs) _ own in
    let rules = and_parts (has_profile s.rules) _ parts.1 in
    record {
      name = s.name;
      rows = rows_after s.rules [] words;
      is = refl;
      known = verb_of s.name all_verbs parts.0;
      profile = named_profile s words rules.0 f;
      both = both_given s words (and_parts (are_good s.rules) _ rules.0).0 rules.1 f;
    }

-- an application whose commands are ours, or topics of `help`, or `help`, and which wants one
built_command : (a : App) (words : List Text) → a.top.subcommand_required ≡ true → a.top.disable_help_subcommand ≡ false → list_all is_known a.subs ≡ true
    → built_fault a nothing_held words ≡ [] → IsCommand (entered a (walk a.top.rules (names_of a) nothing_held words).stopped)
built_command a words required on known f =
    let stop = (walk a.top.rules (names_of a) nothing_held words).stopped in
    let level = level_sound a.top (names_of a) nothing_held words (is_some (entered a stop)) (entered_fault a stop) f in
    met stop (walk_stays a.top (names_of a) words (walk_from nothing_held) on level.words_pass tt)
    (is_named a.top (finished a.top.rules (walk a.top.rules (names_of a) nothing_held words).held) _ required level.rows_pass) level.below_passes
  where
    sub : (p : Text × List Text) (found : Option Shape) → bytes_eq p.0 (codes "help") ≡ false
        → IfSome found (λ s. (answers_to p.0 (label_of s) ≡ true) × (is_known s ≡ true)) → is_some (option_map (λ s. rows_at s p.1) found) ≡ true
        → option_map_or (λ s. level_fault s [] nothing_held p.1 false []) found [] ≡ [] → IsCommand (option_map (λ s. rows_at s p.1) found)
    sub p None n k named f = absurd cc
    sub p (Some s) n k named f =
        let level = level_sound s [] nothing_held p.1 false [] f in
        is_command s p.1 (ours s p.0 (rows_after s.rules [] p.1) k.1 k.0 n level.rows_pass) level

    met : (stop : Option (Text × List Text)) → IsNoHelp stop → is_some (entered a stop) ≡ true → entered_fault a stop ≡ [] → IsCommand (entered a stop)
    met None n named f = absurd cc
    met (Some p) n named f = sub p (find (λ s. answers_to p.0 (label_of s)) a.subs) n (find_passes (λ s. answers_to p.0 (label_of s)) is_known a.subs known) named f

-- words in which clap finds no fault name a command of ours
pub command : (words : List Text) → fault_of program words ≡ [] → IsCommand (subcommand_of program words)
command words f = built_command (built program) (argument_words program words) refl refl refl f
