-- Where the names that a parser lists are in memory makes no difference to what clap finds in words, nor to its faults.
use Rattle.std.proofs.Common.{◌≡◌, ◌∙◌, ◌&&◌, ◌||◌, ◌==◌, ℕ, Bool, cond, true, false, not, zero, suc, refl, sym, ap, ap₂, List, [], ◌∷◌, length, map, Option, Some, None, is_some, option_map, Bor}
use Rattle.std.specs.Prelude.{drop, encode_utf8, find, fold, slice_get}
use Rattle.std.specs.List.{list_any}
use Rattle.std.specs.Option.{option_map_or}
use Rattle.std.specs.Str.{bytes_eq, chars}
use Rattle.clap.specs.Facts.{explicit_source, parser_of_value}
use Rattle.clap.specs.Faults.{action_fault, bundle_step_fault, check_fault, count_fault, default_fault, defaults_fault, entered_fault, fault_of, flag_word_fault, flags_fault, level_fault, long_fault, option_fault, other_fault, positional_fault, react_fault, repeat_fault, settle_fault, short_fault, step_fault, stray_fault, turn_fault, use_fault, values_fault, walk_fault, word_fault}
use Rattle.clap.specs.Kinds.{Kinds, check_kinds, or_else, request_kinds, value_kinds}
use Rattle.clap.specs.Lexer.{long_of, short_of}
use Rattle.clap.specs.Simple.{App, Shape, argument_words, built, entered, label_of, names_of, rows_at, subcommand_of}
use Rattle.clap.specs.Takes.{is_given}
use Rattle.clap.specs.Values.{reading_of, refused_kind, same_text}
use Rattle.clap.specs.Walk.{Held, Names, Outcome, Row, Rule, Step, Text, Waiting, Walk, action_of, after_flag, after_step, answers_to, arg_by_id, arg_by_index, arg_by_long, arg_by_short, attached_value, bundle_met, bundle_step, default_rows, done, finished, flag_met, has_long, has_row, has_short, idle, is_empty, is_multiple, is_pending, long_met, long_or_other, next, next_position, nothing_held, option, option_met, option_word, plain, plain_word, positional, pushed, reacted, refused, settled, settled_rows, short_met, short_or_plain, stop_after, subcommand, subcommand_met, subcommand_or_other, takes_several, takes_values, to_positional, trailing, used, used_as, used_by_id, value, values_or_missing, waits, walk, walk_from, walked, walked_from, with_default, word_met}
use Rattle.clap.specs.declared.builder.action.ArgAction.{ArgAction}
use Rattle.clap.specs.declared.builder.action.ArgAction.TheVariants as action
use Rattle.clap.specs.declared.builder.value_parser.Reading.{Reading}
use Rattle.clap.specs.declared.builder.value_parser.ValueParser.{ValueParser}
use Rattle.clap.specs.declared.builder.value_parser.ValueParser.TheVariants as parser
use Rattle.clap.specs.declared.error.kind.ErrorKind.{ErrorKind}
use Rattle.clap.proofs.WalkLemmas.{find-map, list_any-map}
use Rattle.ill_args.specs.CommandLine.{program, program_of, reference, ProfileNames}
use Rattle.ill_args.specs.code.Commands.{AreAllNames}

-- ---- the parser

abbrev moved_names : ProfileNames → ProfileNames
moved_names names = reference (map (λ (name : Bor Text). reference name.now) names.now)

abbrev moved_parser : Option ValueParser → Option ValueParser
moved_parser (Some (parser.Names names)) = Some (parser.Names (moved_names names))
moved_parser p = p

abbrev moved : Rule → Rule
moved a = record a { parser = moved_parser a.parser }

abbrev move : List Rule → List Rule
move = map moved

same_reading : (p : Option ValueParser) → reading_of (parser_of_value (moved_parser p)) ≡ reading_of (parser_of_value p)
same_reading (Some (parser.Names names)) = refl
same_reading p = refl

same_value : (p : Option ValueParser) (ignore_case : Bool) (text : Text) → value_kinds ignore_case (parser_of_value (moved_parser p)) text ≡ value_kinds ignore_case (parser_of_value p) text
same_value (Some (parser.Names names)) ignore_case text =
    ap (λ (b : Bool). cond b [] (refused_kind (parser.Names names) ∷ []))
    (sym (list_any-map (λ (name : Bor Text). same_text ignore_case name.now text) (λ (name : Bor Text). reference name.now) names.now))
same_value p ignore_case text = refl

-- ---- a use of an argument

same_missing : (a : Rule) (values : List Text) → values_or_missing (moved a) values ≡ values_or_missing a values
same_missing a [] = refl
same_missing a (v ∷ values) = refl

same_used : (a : Rule) (values : List Text) (rows : List Row) → used (moved a) values rows ≡ used a values rows
same_used a values rows = ap₂ (λ (how : Reading) (vs : List Text). used_as (action_of a) a.id how vs rows) (same_reading a.parser) (same_missing a values)

same_values : (a : Rule) (values : List Text) → values_fault (moved a) values ≡ values_fault a values
same_values a [] = refl
same_values a (v ∷ values) = ap₂ or_else (same_value a.parser a.ignore_case v) (same_values a values)

same_count : (a : Rule) (values : List Text) (rows : List Row) → count_fault (moved a) values rows ≡ count_fault a values rows
same_count a [] rows = same_value a.parser a.ignore_case _
same_count a (v ∷ values) rows = same_values a (v ∷ values)

same_action : (x : ArgAction) (again : Bool) (a : Rule) (values : List Text) (rows : List Row) → action_fault x again (moved a) values rows ≡ action_fault x again a values rows
same_action action.Set again a values rows = ap (or_else (repeat_fault again a.id rows)) (same_values a values)
same_action action.SetTrue again a values rows = ap (or_else (repeat_fault again a.id rows)) (same_values a values)
same_action action.SetFalse again a values rows = ap (or_else (repeat_fault again a.id rows)) (same_values a values)
same_action action.Append again a values rows = same_values a values
same_action action.Count again a values rows = same_count a values rows
same_action action.Help again a values rows = refl
same_action action.HelpShort again a values rows = refl
same_action action.HelpLong again a values rows = refl
same_action action.Version again a values rows = refl

same_use : (again : Bool) (a : Rule) (values : List Text) (rows : List Row) → use_fault again (moved a) values rows ≡ use_fault again a values rows
same_use again a values rows =
    ap (or_else _) (ap (λ (vs : List Text). action_fault (action_of a) again (moved a) vs rows) (same_missing a values) ∙ same_action (action_of a) again a (values_or_missing a values) rows)

-- ---- steps of clap's walk

module _ (c : List Rule) where
  found_same : (q : Rule → Bool) → find q (move c) ≡ option_map moved (find (λ a. q (moved a)) c)
  found_same q = sym (find-map q moved c)

  settled_same : (h : Held) → settled (move c) h ≡ settled c h
  settled_same h = ap (λ (rows : List Row). record h { rows = rows; pending = None }) (go h.pending)
    where
      by_id : (found : Option Rule) (values : List Text) → used_by_id (option_map moved found) values h.rows ≡ used_by_id found values h.rows
      by_id None values = refl
      by_id (Some a) values = same_used a values h.rows

      go : (p : Option (Text × List Text)) → settled_rows (move c) p h.rows ≡ settled_rows c p h.rows
      go None = refl
      go (Some p) = ap (λ (found : Option Rule). used_by_id found p.1 h.rows) (found_same (λ a. bytes_eq a.id p.0)) ∙ by_id (arg_by_id c p.0) p.1

  reacted_same : (a : Rule) (values : List Text) (h : Held) → reacted (move c) (moved a) values h ≡ reacted c a values h
  reacted_same a values h =
      ap (λ (rows : List Row). record h { rows = rows; pending = None }) (ap (λ (k : Held). used (moved a) values k.rows) (settled_same h) ∙ same_used a values (settled c h).rows)

  option_same : (a : Rule) (v : Option Text) (h : Held) → option_met (move c) (moved a) v h ≡ option_met c a v h
  option_same a (Some v) h = ap (λ (k : Held). (k, done)) (reacted_same a (v ∷ []) h)
  option_same a None h = ap (λ (k : Held). (record k { pending = Some (a.id, []) }, waits a.id)) (settled_same h)

  flag_same : (a : Rule) (v : Option Text) (h : Held) → flag_met (move c) (moved a) v h ≡ flag_met c a v h
  flag_same a (Some v) h = refl
  flag_same a None h = ap (λ (k : Held). (k, done)) (reacted_same a [] h)

  long_same : (found : Option Rule) (v : Option Text) (h : Held) → long_met (move c) (option_map moved found) v h ≡ long_met c found v h
  long_same None v h = refl
  long_same (Some a) v h = ap₂ (λ (x y : Held × Outcome). cond (takes_values a) x y) (option_same a v h) (flag_same a v h)

  short_same : (found : Option Rule) (rest : Text) (h : Held) (on go : Held → Held × Outcome) → ((k : Held) → on k ≡ go k)
      → short_met (move c) (option_map moved found) rest h on ≡ short_met c found rest h go
  short_same None rest h on go e = refl
  short_same (Some a) rest h on go e =
      ap₂ (λ (x y : Held × Outcome). cond (takes_values a) x y) (option_same a (attached_value rest) h) (e (reacted (move c) (moved a) [] h) ∙ ap go (reacted_same a [] h))

  bundle_same : (k : ℕ) (flags : Text) (skip : ℕ) (so_far : Outcome) (h : Held) → bundle_met (move c) k flags skip so_far h ≡ bundle_met c k flags skip so_far h
  unfolding bundle_met
  bundle_same zero flags skip so_far h = refl
  bundle_same (suc k) flags skip so_far h = step (slice_get (chars flags) 0) skip (bundle_same k)
    where
      step : (x : Option ℕ) (n : ℕ) → ((t : Text) (m : ℕ) (o : Outcome) (j : Held) → bundle_met (move c) k t m o j ≡ bundle_met c k t m o j)
          → bundle_step (move c) x flags n so_far h (bundle_met (move c) k) ≡ bundle_step c x flags n so_far h (bundle_met c k)
      step None n on = refl
      step (Some x) zero on =
          let rest = drop (length (encode_utf8 x)) flags in
          ap (λ (found : Option Rule). short_met (move c) found rest h (bundle_met (move c) k rest 0 done)) (found_same (λ a. not (is_some a.index) && has_short a x))
          ∙ short_same (arg_by_short c x) rest h (bundle_met (move c) k rest 0 done) (bundle_met c k rest 0 done) (on rest 0 done)
      step (Some x) (suc n) on = on _ n so_far h

  plain_same : (waiting : Waiting) (word : Text) (h : Held) → plain_word (move c) waiting word h ≡ plain_word c waiting word h
  plain_same idle word h = refl
  plain_same (option id) word h = ap (λ (found : Option Rule). ((option_word found id word h).0, next (option_word found id word h).1)) (found_same (λ a. bytes_eq a.id id)) ∙ go (arg_by_id c id)
    where
      go : (found : Option Rule)
          → ◌≡◌ {A = Held × Step} ((option_word (option_map moved found) id word h).0, next (option_word (option_map moved found) id word h).1) ((option_word found id word h).0, next (option_word found id word h).1)
      go None = refl
      go (Some a) = refl
  plain_same positional word h = refl

  after_same : (waiting : Waiting) (word : Text) (h : Held) (o : Outcome) → after_flag (move c) waiting word h o ≡ after_flag c waiting word h o
  after_same waiting word h done = refl
  after_same waiting word h (waits id) = refl
  after_same waiting word h plain = plain_same waiting word h
  after_same waiting word h refused = plain_same waiting word h

  flag_word_same : (waiting : Waiting) (word : Text) (m n : Held × Outcome) → m ≡ n → after_flag (move c) waiting word m.0 m.1 ≡ after_flag c waiting word n.0 n.1
  flag_word_same waiting word m n e = ap (λ (x : Held × Outcome). after_flag (move c) waiting word x.0 x.1) e ∙ after_same waiting word n.0 n.1

  other_same : (waiting : Waiting) (word : Text) (name : Option (Text × Option Text)) (h : Held) → long_or_other (move c) waiting word name h ≡ long_or_other c waiting word name h
  other_same waiting word (Some p) h =
      flag_word_same waiting word _ _ (ap (λ (found : Option Rule). long_met (move c) found p.1 h) (found_same (λ a. not (is_some a.index) && has_long a p.0)) ∙ long_same (arg_by_long c p.0) p.1 h)
  other_same waiting word None h = go (short_of word)
    where
      go : (flags : Option Text) → short_or_plain (move c) waiting word flags h ≡ short_or_plain c waiting word flags h
      go None = plain_same waiting word h
      go (Some flags) = flag_word_same waiting word _ _ (bundle_same (length flags) flags h.skip plain (record h { skip = 0 }))

  met_same : (names : Names) (is_trailing : Bool) (waiting : Waiting) (position : ℕ) (word : Text) (h : Held)
      → word_met (move c) names is_trailing waiting position word h ≡ word_met c names is_trailing waiting position word h
  met_same names true waiting position word h = refl
  met_same names false waiting position word h = named (subcommand_met names waiting word)
    where
      named : (name : Option Text) → subcommand_or_other (move c) name waiting position word h ≡ subcommand_or_other c name waiting position word h
      named (Some name) = refl
      named None = ap (λ (m : Held × Step). cond (bytes_eq word (45 ∷ 45 ∷ [])) (h, trailing position) m) (other_same waiting word (long_of word) h)

  to_same : (found : Option Rule) (word : Text) (w : Walk) (h : Held) → to_positional (move c) (option_map moved found) word w h ≡ to_positional c found word w h
  to_same None word w h = refl
  to_same (Some a) word w h = ap (λ (k : Held). to_positional_of k) (settled_same h)
    where
      to_positional_of : Held → Walk
      to_positional_of k = record {
        held = pushed a.id word (cond (is_pending a h.pending && takes_several a) h k);
        waiting = cond (is_multiple a) positional idle;
        position = next_position a w.position;
        is_trailing = w.is_trailing || a.trailing_var_arg;
        stopped = None;
      }

  step_same : (word : Text) (w : Walk) (h : Held) (step : Step) → after_step (move c) word w h step ≡ after_step c word w h step
  step_same word w h (next waiting) = refl
  step_same word w h (trailing position) = refl
  step_same word w h (subcommand name) = refl
  step_same word w h value =
      ap (λ (found : Option Rule). to_positional (move c) found word w h) (found_same (λ a. option_map_or (λ k. k == w.position) a.index false)) ∙ to_same (arg_by_index c w.position) word w h

  walked_same : (names : Names) (w : Walk) (word : Text) → walked (move c) names w word ≡ walked c names w word
  unfolding walked
  walked_same names w word = from w.stopped
    where
      from : (stopped : Option (Text × List Text)) → walked_from (move c) names stopped w word ≡ walked_from c names stopped w word
      from (Some p) = refl
      from None =
          let met = word_met c names w.is_trailing w.waiting w.position word w.held in
          ap (λ (m : Held × Step). after_step (move c) word w m.0 m.1) (met_same names w.is_trailing w.waiting w.position word w.held) ∙ step_same word w met.0 met.1

  walk_same : (names : Names) (words : List Text) (w : Walk) → fold (walked (move c) names) w words ≡ fold (walked c names) w words
  walk_same names [] w = refl
  walk_same names (word ∷ words) w = ap (λ (v : Walk). fold (walked (move c) names) v words) (walked_same names w word) ∙ walk_same names words (walked c names w word)

default_same : (a : Rule) (rows : List Row) → with_default rows (moved a) ≡ with_default rows a
default_same a rows = ap (λ (how : Reading). cond (has_row a.id rows) rows (default_rows a.id how a.defaults rows)) (same_reading a.parser)

defaults_same : (c : List Rule) (rows : List Row) → fold with_default rows (move c) ≡ fold with_default rows c
defaults_same [] rows = refl
defaults_same (a ∷ c) rows = ap (λ (more : List Row). fold with_default more (move c)) (default_same a rows) ∙ defaults_same c (with_default rows a)

finished_same : (c : List Rule) (names : Names) (h : Held) (words : List Text) → finished (move c) (walk (move c) names h words).held ≡ finished c (walk c names h words).held
finished_same c names h words =
    ap (λ (w : Walk). fold with_default (settled (move c) w.held).rows (move c)) (walk_same c names words (walk_from h))
    ∙ ap (λ (k : Held). fold with_default k.rows (move c)) (settled_same c (walk c names h words).held) ∙ defaults_same c (settled c (walk c names h words).held).rows

-- ---- faults of these steps

module _ (c : List Rule) (again : Bool) where
  settle_fault_same : (h : Held) → settle_fault (move c) again h ≡ settle_fault c again h
  settle_fault_same h = go h.pending
    where
      by_id : (found : Option Rule) (values : List Text) → option_map_or (λ a. use_fault again a values h.rows) (option_map moved found) [] ≡ option_map_or (λ a. use_fault again a values h.rows) found []
      by_id None values = refl
      by_id (Some a) values = same_use again a values h.rows

      go : (p : Option (Text × List Text)) → option_map_or (λ (p : Text × List Text). option_map_or (λ a. use_fault again a p.1 h.rows) (arg_by_id (move c) p.0) []) p []
          ≡ option_map_or (λ (p : Text × List Text). option_map_or (λ a. use_fault again a p.1 h.rows) (arg_by_id c p.0) []) p []
      go None = refl
      go (Some p) = ap (λ (found : Option Rule). option_map_or (λ a. use_fault again a p.1 h.rows) found []) (found_same c (λ a. bytes_eq a.id p.0)) ∙ by_id (arg_by_id c p.0) p.1

  react_fault_same : (a : Rule) (values : List Text) (h : Held) → react_fault (move c) again (moved a) values h ≡ react_fault c again a values h
  react_fault_same a values h =
      ap₂ or_else (settle_fault_same h) (ap (λ (k : Held). use_fault again (moved a) values k.rows) (settled_same c h) ∙ same_use again a values (settled c h).rows)

  option_fault_same : (a : Rule) (v : Option Text) (h : Held) → option_fault (move c) again (moved a) v h ≡ option_fault c again a v h
  option_fault_same a (Some v) h = react_fault_same a (v ∷ []) h
  option_fault_same a None h = settle_fault_same h

  long_fault_same : (found : Option Rule) (v : Option Text) (h : Held) → long_fault (move c) again (option_map moved found) v h ≡ long_fault c again found v h
  long_fault_same None v h = refl
  long_fault_same (Some a) v h = ap₂ (λ (x y : Kinds). cond (takes_values a) x (cond (is_some v) (ErrorKind.TooManyValues ∷ []) y)) (option_fault_same a v h) (react_fault_same a [] h)

  short_fault_same : (found : Option Rule) (rest : Text) (h : Held) (on go : Held → Kinds) → ((k : Held) → on k ≡ go k)
      → short_fault (move c) again (option_map moved found) rest h on ≡ short_fault c again found rest h go
  short_fault_same None rest h on go e = refl
  short_fault_same (Some a) rest h on go e =
      ap₂ (λ (x y : Kinds). cond (takes_values a) x y) (option_fault_same a (attached_value rest) h)
      (ap₂ or_else (react_fault_same a [] h) (e (reacted (move c) (moved a) [] h) ∙ ap go (reacted_same c a [] h)))

  flags_fault_same : (k : ℕ) (flags : Text) (skip : ℕ) (h : Held) → flags_fault (move c) again k flags skip h ≡ flags_fault c again k flags skip h
  unfolding flags_fault
  flags_fault_same zero flags skip h = refl
  flags_fault_same (suc k) flags skip h = step (slice_get (chars flags) 0) skip (flags_fault_same k)
    where
      step : (x : Option ℕ) (n : ℕ) → ((t : Text) (m : ℕ) (j : Held) → flags_fault (move c) again k t m j ≡ flags_fault c again k t m j)
          → bundle_step_fault (move c) again x flags n h (flags_fault (move c) again k) ≡ bundle_step_fault c again x flags n h (flags_fault c again k)
      step None n on = refl
      step (Some x) zero on =
          let rest = drop (length (encode_utf8 x)) flags in
          ap (λ (found : Option Rule). short_fault (move c) again found rest h (flags_fault (move c) again k rest 0)) (found_same c (λ a. not (is_some a.index) && has_short a x))
          ∙ short_fault_same (arg_by_short c x) rest h (flags_fault (move c) again k rest 0) (flags_fault c again k rest 0) (on rest 0)
      step (Some x) (suc n) on = on _ n h

  flag_word_fault_same : (name : Option (Text × Option Text)) (word : Text) (h : Held) → flag_word_fault (move c) again name word h ≡ flag_word_fault c again name word h
  flag_word_fault_same (Some p) word h =
      ap (λ (found : Option Rule). long_fault (move c) again found p.1 h) (found_same c (λ a. not (is_some a.index) && has_long a p.0)) ∙ long_fault_same (arg_by_long c p.0) p.1 h
  flag_word_fault_same None word h = go (short_of word)
    where
      go : (flags : Option Text) → option_map_or (λ (flags : Text). flags_fault (move c) again (length flags) flags h.skip (record h { skip = 0 })) flags []
          ≡ option_map_or (λ (flags : Text). flags_fault c again (length flags) flags h.skip (record h { skip = 0 })) flags []
      go None = refl
      go (Some flags) = flags_fault_same (length flags) flags h.skip (record h { skip = 0 })

default_fault_same : (a : Rule) (rows : List Row) → default_fault rows (moved a) ≡ default_fault rows a
default_fault_same a rows = ap (λ (kinds : Kinds). cond (has_row a.id rows || is_empty a.defaults) [] (or_else (request_kinds (action_of a)) kinds)) (same_values a a.defaults)

defaults_fault_same : (c : List Rule) (rows : List Row) → defaults_fault rows (move c) ≡ defaults_fault rows c
unfolding defaults_fault
defaults_fault_same [] rows = refl
defaults_fault_same (a ∷ c) rows =
    ap₂ or_else (default_fault_same a rows) (ap (λ (more : List Row). defaults_fault more (move c)) (default_same a rows) ∙ defaults_fault_same c (with_default rows a))

-- ---- one level

abbrev moved_shape : Shape → Shape
moved_shape s = record s { rules = move s.rules }

module _ (s : Shape) where
  word_fault_same : (names : Names) (is_trailing : Bool) (waiting : Waiting) (word : Text) (h : Held)
      → word_fault (moved_shape s) names is_trailing waiting word h ≡ word_fault s names is_trailing waiting word h
  word_fault_same names true waiting word h = refl
  word_fault_same names false waiting word h = named (subcommand_met names waiting word)
    where
      named : (name : Option Text) → other_fault (moved_shape s) name word h ≡ other_fault s name word h
      named (Some name) = refl
      named None = ap (λ (kinds : Kinds). cond (bytes_eq word (45 ∷ 45 ∷ [])) [] kinds) (flag_word_fault_same s.rules s.args_override_self (long_of word) word h)

  step_fault_same : (position : ℕ) (h : Held) (step : Step) → step_fault (moved_shape s) position h step ≡ step_fault s position h step
  step_fault_same position h (next waiting) = refl
  step_fault_same position h (trailing after) = refl
  step_fault_same position h (subcommand name) = refl
  step_fault_same position h value =
      ap (λ (found : Option Rule). option_map_or (λ a. positional_fault (move s.rules) s.args_override_self a h) found (stray_fault s)) (found_same s.rules (λ a. option_map_or (λ k. k == position) a.index false))
      ∙ go (arg_by_index s.rules position)
    where
      go : (found : Option Rule) → option_map_or (λ a. positional_fault (move s.rules) s.args_override_self a h) (option_map moved found) (stray_fault s)
          ≡ option_map_or (λ a. positional_fault s.rules s.args_override_self a h) found (stray_fault s)
      go None = refl
      go (Some a) = ap (λ (kinds : Kinds). cond (is_pending a h.pending && takes_several a) [] kinds) (settle_fault_same s.rules s.args_override_self h)

  turn_fault_same : (names : Names) (w : Walk) (word : Text) → turn_fault (moved_shape s) names w word ≡ turn_fault s names w word
  turn_fault_same names w word =
      let met = word_met s.rules names w.is_trailing w.waiting w.position word w.held in
      ap₂ (λ (x y : Kinds). cond (is_some w.stopped) [] (or_else x y)) (word_fault_same names w.is_trailing w.waiting word w.held)
      (ap (λ (m : Held × Step). step_fault (moved_shape s) w.position m.0 m.1) (met_same s.rules names w.is_trailing w.waiting w.position word w.held) ∙ step_fault_same w.position met.0 met.1)

  walk_fault_same : (names : Names) (words : List Text) (w : Walk) → walk_fault (moved_shape s) names w words ≡ walk_fault s names w words
  unfolding walk_fault
  walk_fault_same names [] w = refl
  walk_fault_same names (word ∷ words) w =
      ap₂ or_else (turn_fault_same names w word)
      (ap (λ (v : Walk). walk_fault (moved_shape s) names v words) (walked_same s.rules names w word) ∙ walk_fault_same names words (walked s.rules names w word))

  check_fault_same : (rows : List Row) (named : Bool) → check_fault (moved_shape s) rows named ≡ check_fault s rows named
  check_fault_same rows named =
      ap (λ (b : Bool). check_kinds (not named && (s.arg_required_else_help && not (list_any (λ r. explicit_source r.source) rows))) (not named && s.subcommand_required)
      (not (s.subcommand_negates_reqs && named) && b)) (sym (list_any-map (λ a. a.required && not (is_given a.id rows)) moved s.rules))

  level_fault_same : (names : Names) (h : Held) (words : List Text) (named : Bool) (below : Kinds) → level_fault (moved_shape s) names h words named below ≡ level_fault s names h words named below
  level_fault_same names h words named below =
      let end = walk s.rules names h words in
      let held = ap (λ (w : Walk). w.held) (walk_same s.rules names words (walk_from h)) in
      ap₂ or_else (walk_fault_same names words (walk_from h))
      (ap (or_else below)
      (ap₂ or_else (ap (settle_fault (move s.rules) s.args_override_self) held ∙ settle_fault_same s.rules s.args_override_self end.held)
      (ap₂ or_else
      (ap (λ (k : Held). defaults_fault (settled (move s.rules) k).rows (move s.rules)) held ∙ ap (λ (k : Held). defaults_fault k.rows (move s.rules)) (settled_same s.rules end.held)
      ∙ defaults_fault_same s.rules (settled s.rules end.held).rows)
      (ap (λ (rows : List Row). check_fault (moved_shape s) rows named) (finished_same s.rules names h words) ∙ check_fault_same (finished s.rules end.held) named))))

-- ---- the commands of an application

named_same : (name : Text) (subs : List Shape) → find (λ s. answers_to name (label_of s)) (map moved_shape subs) ≡ option_map moved_shape (find (λ s. answers_to name (label_of s)) subs)
named_same name subs = sym (find-map (λ s. answers_to name (label_of s)) moved_shape subs)

entered_same : (a : App) (stop : Option (Text × List Text)) → entered (record a { subs = map moved_shape a.subs }) stop ≡ entered a stop
entered_same a None = refl
entered_same a (Some p) = ap (option_map (λ (s : Shape). rows_at s p.1)) (named_same p.0 a.subs) ∙ go (find (λ s. answers_to p.0 (label_of s)) a.subs)
  where
    go : (found : Option Shape) → option_map (λ (s : Shape). rows_at s p.1) (option_map moved_shape found) ≡ option_map (λ (s : Shape). rows_at s p.1) found
    go None = refl
    go (Some s) = ap (λ (rows : List Row). Some (s.name, rows)) (finished_same s.rules [] nothing_held p.1)

entered_fault_same : (a : App) (stop : Option (Text × List Text)) → entered_fault (record a { subs = map moved_shape a.subs }) stop ≡ entered_fault a stop
entered_fault_same a None = refl
entered_fault_same a (Some p) =
    ap (λ (found : Option Shape). option_map_or (λ s. level_fault s [] nothing_held p.1 false []) found []) (named_same p.0 a.subs) ∙ go (find (λ s. answers_to p.0 (label_of s)) a.subs)
  where
    go : (found : Option Shape) → option_map_or (λ s. level_fault s [] nothing_held p.1 false []) (option_map moved_shape found) [] ≡ option_map_or (λ s. level_fault s [] nothing_held p.1 false []) found []
    go None = refl
    go (Some s) = level_fault_same s [] nothing_held p.1 false []

-- ---- the program

moved_is : (names : ProfileNames) → AreAllNames names → program_of (moved_names names) ≡ program
moved_is names all = ap (λ (list : List (Bor Text)). program_of (reference list)) (map_twice names.now ∙ ap (map reference) all)
  where
    map_twice : (list : List (Bor Text)) → map (λ (name : Bor Text). reference name.now) list ≡ map reference (map (λ (name : Bor Text). name.now) list)
    map_twice [] = refl
    map_twice (name ∷ list) = ap (λ (rest : List (Bor Text)). reference name.now ∷ rest) (map_twice list)

abbrev stop_of : ProfileNames → List Text → Option (Text × List Text)
stop_of names words = let a = built (program_of names) in stop_after a.top.rules (names_of a) (argument_words (program_of names) words)

pub same_command : (names : ProfileNames) (words : List Text) → AreAllNames names → subcommand_of (program_of names) words ≡ subcommand_of program words
same_command names words all = sym (entered_same (built (program_of names)) (stop_of names words)) ∙ ap (λ (a : App). subcommand_of a words) (moved_is names all)

pub same_faults : (names : ProfileNames) (words : List Text) → AreAllNames names → fault_of (program_of names) words ≡ fault_of program words
same_faults names words all =
    let a = built (program_of names) in
    sym (ap₂ (λ (found : Option (Text × List Row)) (kinds : Kinds). level_fault a.top (names_of a) nothing_held (argument_words (program_of names) words) (is_some found) kinds)
    (entered_same a (stop_of names words)) (entered_fault_same a (stop_of names words)))
    ∙ ap (λ (b : App). fault_of b words) (moved_is names all)
