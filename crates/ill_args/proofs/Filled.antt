-- In words in which clap finds no fault, each row that it leaves has a value, and the values of `--profile` are names of profiles.
use Rattle.std.proofs.Common.{◌≡◌, ◌∙◌, ◌<◌, ◌&&◌, ◌||◌, ◌⊎◌, ℕ, Bool, cond, codes, true, false, not, zero, suc, refl, sym, ap, ap₂, subst, arith, List, [], ◌∷◌, ◌++◌, length, length-append, Option, Some, None, is_some, IfSome, inl, inr, ltb-true, Bor}
use Rattle.std.specs.Prelude.{find, fold, nat_lt, slice_get}
use Rattle.std.specs.List.{list_all, list_any}
use Rattle.std.specs.Option.{option_map_or}
use Rattle.std.specs.Str.{bytes_eq, chars}
use Rattle.std.proofs.lemmas.Bool.{and_parts}
use Rattle.std.proofs.lemmas.List.Folds.{list_all-append}
use Rattle.std.proofs.lemmas.Slice.Eq.{bytes_eq-Decides}
use Rattle.clap.specs.Facts.{parser_of_value, unwrap_or_range}
use Rattle.clap.specs.Faults.{action_fault, bundle_step_fault, check_fault, default_fault, defaults_fault, flag_word_fault, flags_fault, given_default_fault, level_fault, long_fault, option_fault, other_fault, positional_fault, react_fault, settle_fault, short_fault, step_fault, stray_fault, turn_fault, use_fault, values_fault, walk_fault, word_fault}
use Rattle.clap.specs.Kinds.{Kinds, or_else, range_kinds, value_kinds, values_kinds}
use Rattle.clap.specs.Lexer.{long_of, short_of}
use Rattle.clap.specs.Simple.{Shape}
use Rattle.clap.specs.Takes.{is_given}
use Rattle.clap.specs.Values.{is_request, refused_kind, same_text}
use Rattle.clap.specs.ValueTests.{accepts}
use Rattle.clap.specs.Walk.{Held, Names, Outcome, Row, Rule, Step, Text, Waiting, Walk, action_of, after_flag, after_step, arg_by_id, arg_by_index, arg_by_long, arg_by_short, at_row, attached_value, bundle_met, bundle_step, default_rows, done, finished, first_of, flag_met, has_row, idle, is_empty, is_pending, long_met, long_or_other, more_values, next, nothing_held, option, option_met, option_word, plain, plain_word, positional, pushed, reacted, reading_by, refused, rows_after, settled, settled_rows, short_met, short_or_plain, subcommand, subcommand_met, subcommand_or_other, takes_several, takes_values, to_positional, trailing, used, used_as, used_by_id, value, values_or_missing, waits, walk, walk_from, walked, walked_from, with_default, with_values, without, word_met}
use Rattle.clap.specs.declared.builder.action.ArgAction.{ArgAction}
use Rattle.clap.specs.declared.builder.action.ArgAction.TheVariants as action
use Rattle.clap.specs.declared.builder.value_parser.Reading.{Reading}
use Rattle.clap.specs.declared.builder.value_parser.ValueParser.{ValueParser}
use Rattle.clap.specs.declared.builder.value_parser.ValueParser.TheVariants as parser
use Rattle.clap.specs.declared.error.kind.ErrorKind.{ErrorKind}
use Rattle.clap.specs.declared.parser.matches.ValueSource.{ValueSource}
use Rattle.clap.proofs.SimpleLemmas.{is_nil}
use Rattle.ill_tables.specs.declared.profile.Profile.{Profile}
use Rattle.ill_args.specs.CommandLine.{profile_name}
use Rattle.ill_args.specs.code.Commands.{HasProfile}
use Rattle.ill_args.proofs.Found.{find_passes}

-- neither of two steps has a fault
pub neither : (a b : Kinds) → or_else a b ≡ [] → (a ≡ []) × (b ≡ [])
neither [] b h = (refl, h)
neither (k ∷ kinds) b h = absurd cc

-- ---- values

abbrev is_name : Text → Bool
is_name text = bytes_eq (profile_name Profile.Two) text || bytes_eq (profile_name Profile.Module) text

-- the values of an argument: one or more, and names of profiles where it is `--profile`
abbrev AreGood : Text → List Text → Type 0
AreGood id values = (0 < length values) × (bytes_eq id (codes "profile") ≡ true → list_all is_name values ≡ true)

abbrev HasGood : List Row → Type 0
HasGood [] = Unit {0}
HasGood (r ∷ rows) = AreGood r.id r.values × HasGood rows

-- ---- rows that change

joined : (rows more : List Row) → HasGood rows → HasGood more → HasGood (rows ++ more)
joined [] more h k = k
joined (r ∷ rows) more h k = (h.0, joined rows more h.1 k)

changed : (id : Text) (change : Row → List Row) (missing rows : List Row) → ((r : Row) → r.id ≡ id → AreGood r.id r.values → HasGood (change r)) → HasGood missing
    → HasGood rows → HasGood (at_row id change missing rows)
changed id change missing [] c m h = m
changed id change missing (r ∷ rows) c m h = go (bytes_eq r.id id) refl (changed id change missing rows c m h.1)
  where
    go : (b : Bool) → bytes_eq r.id id ≡ b → HasGood (at_row id change missing rows) → HasGood (cond b (change r ++ rows) (r ∷ at_row id change missing rows))
    go true e rest = joined (change r) rows (c r ((bytes_eq-Decides r.id id).0 e) h.0) h.1
    go false e rest = (h.0, rest)

-- values that are given to a row
valued : (id : Text) (how : Reading) (source : ValueSource) (values : List Text) (rows : List Row) → AreGood id values → HasGood rows
    → HasGood (with_values id how source values rows)
valued id how source values rows g h = changed id (more_values source values) _ rows (λ r same k. (more r same k, tt)) (g, tt) h
  where
    more : (r : Row) → r.id ≡ id → AreGood r.id r.values → AreGood r.id (r.values ++ values)
    more r same k = (
      omega (arith, length-append r.values values, k.0),
      λ named. list_all-append is_name r.values values
          ∙ ap₂ (λ x y. x && y) (k.1 named) (g.1 (subst (λ (t : Text). bytes_eq t (codes "profile") ≡ true) same named)),
    )

removed : (id : Text) (rows : List Row) → HasGood rows → HasGood (without id rows)
removed id rows h = changed id (λ r. []) [] rows (λ r same k. tt) tt h

-- ---- a use of an argument

-- the parser lets only names of profiles pass
abbrev wants_names : Option ValueParser → Bool
wants_names (Some (parser.Names names)) = list_all (λ name. is_name name.now) names.now
wants_names _ = false

abbrev is_named_so : Rule → Bool
is_named_so a = not (bytes_eq a.id (codes "profile")) || (not a.ignore_case && wants_names a.parser)

-- a use without a value is a fault, or something is meant by it
abbrev has_meaning : Rule → Bool
has_meaning a = nat_lt 0 (unwrap_or_range a.range).start_inclusive || (nat_lt 0 (length a.missing) || is_request (action_of a))

abbrev pub is_good : Rule → Bool
is_good a = has_meaning a && is_named_so a

abbrev pub are_good : List Rule → Bool
are_good = list_all is_good

accepted : (ignore_case : Bool) (p : ValueParser) (text : Text) → value_kinds ignore_case p text ≡ [] → accepts ignore_case p text ≡ true
accepted ignore_case p text f = go (accepts ignore_case p text) f
  where
    go : (b : Bool) → cond b [] (refused_kind p ∷ []) ≡ [] → b ≡ true
    go true f = refl
    go false f = absurd cc

names_pass : (names : List (Bor Text)) (text : Text) → list_all (λ name. is_name name.now) names ≡ true → list_any (λ name. same_text false name.now text) names ≡ true
    → is_name text ≡ true
names_pass [] text n e = absurd cc
names_pass (name ∷ names) text n e = go (bytes_eq name.now text) refl e (names_pass names text (and_parts (is_name name.now) _ n).1)
  where
    go : (b : Bool) → bytes_eq name.now text ≡ b → (b || list_any (λ other. same_text false other.now text) names) ≡ true
        → (list_any (λ other. same_text false other.now text) names ≡ true → is_name text ≡ true) → is_name text ≡ true
    go true same e rest = subst (λ (t : Text). is_name t ≡ true) ((bytes_eq-Decides name.now text).0 same) (and_parts (is_name name.now) _ n).0
    go false same e rest = rest e

passed : (p : Option ValueParser) (values : List Text) → wants_names p ≡ true → values_kinds false (parser_of_value p) values ≡ [] → list_all is_name values ≡ true
passed (Some (parser.Names names)) [] n f = refl
passed (Some (parser.Names names)) (v ∷ values) n f =
    let two = neither _ _ f in
    ap₂ (λ x y. x && y) (names_pass names.now v n (accepted false (parser.Names names) v two.0)) (passed (Some (parser.Names names)) values n two.1)
passed _ values n f = absurd cc

are_names : (a : Rule) (values : List Text) → is_named_so a ≡ true → values_fault a values ≡ [] → bytes_eq a.id (codes "profile") ≡ true → list_all is_name values ≡ true
are_names a values n f named =
    let both = and_parts (not a.ignore_case) (wants_names a.parser) (rest (bytes_eq a.id (codes "profile")) named n) in
    passed a.parser values both.1 (subst (λ i. values_kinds i (parser_of_value a.parser) values ≡ []) (is_off a.ignore_case both.0) f)
  where
    rest : (b : Bool) {d : Bool} → b ≡ true → (not b || d) ≡ true → d ≡ true
    rest true e h = h
    rest false e h = absurd cc

    is_off : (b : Bool) → not b ≡ true → b ≡ false
    is_off true e = absurd cc
    is_off false e = refl

-- a use with values, or one that asks for help and leaves the rows as they are
acted : (x : ArgAction) (again : Bool) (a : Rule) (values : List Text) (rows : List Row) → (0 < length values) ⊎ (is_request x ≡ true) → is_named_so a ≡ true
    → action_fault x again a values rows ≡ [] → HasGood rows → HasGood (used_as x a.id (reading_by a) values rows)
acted action.Set again a values rows (inl some) n f h = valued a.id _ _ values (without a.id rows) (some, are_names a values n (neither _ _ f).1) (removed a.id rows h)
acted action.Set again a values rows (inr asks) n f h = absurd cc
acted action.SetTrue again a values rows (inl some) n f h = valued a.id _ _ values (without a.id rows) (some, are_names a values n (neither _ _ f).1) (removed a.id rows h)
acted action.SetTrue again a values rows (inr asks) n f h = absurd cc
acted action.SetFalse again a values rows (inl some) n f h = valued a.id _ _ values (without a.id rows) (some, are_names a values n (neither _ _ f).1) (removed a.id rows h)
acted action.SetFalse again a values rows (inr asks) n f h = absurd cc
acted action.Append again a values rows (inl some) n f h = valued a.id _ _ values rows (some, are_names a values n f) h
acted action.Append again a values rows (inr asks) n f h = absurd cc
acted action.Count again a [] rows (inl some) n f h = absurd (omega arith)
acted action.Count again a (v ∷ values) rows (inl some) n f h = valued a.id _ _ (v ∷ values) (without a.id rows) (some, are_names a (v ∷ values) n f) (removed a.id rows h)
acted action.Count again a values rows (inr asks) n f h = absurd cc
acted action.Help again a values rows some n f h = h
acted action.HelpShort again a values rows some n f h = h
acted action.HelpLong again a values rows some n f h = h
acted action.Version again a values rows some n f h = h

some_value : (a : Rule) (values : List Text) → has_meaning a ≡ true → range_kinds (unwrap_or_range a.range).start_inclusive (unwrap_or_range a.range).end_inclusive (length values) ≡ []
    → (0 < length (values_or_missing a values)) ⊎ (is_request (action_of a) ≡ true)
some_value a (v ∷ values) m f = inl (omega arith)
some_value a [] m f = go (nat_lt 0 (unwrap_or_range a.range).start_inclusive) (nat_lt 0 (length a.missing)) (is_request (action_of a)) _ _ refl m f
  where
    go : (b d e : Bool) (k : ErrorKind) (kinds : Kinds) → nat_lt 0 (length a.missing) ≡ d → (b || (d || e)) ≡ true → cond (b && true) (k ∷ []) kinds ≡ []
        → (0 < length a.missing) ⊎ (e ≡ true)
    go true d e k kinds is m f = absurd cc
    go false true e k kinds is m f = inl (ltb-true 0 (length a.missing) is)
    go false false e k kinds is m f = inr m

abbrev IsGood : Rule → Type 0
IsGood a = is_good a ≡ true

used_good : (again : Bool) (a : Rule) (values : List Text) (rows : List Row) → IsGood a → use_fault again a values rows ≡ [] → HasGood rows → HasGood (used a values rows)
used_good again a values rows g f h =
    let two = neither _ _ f in
    let parts = and_parts (has_meaning a) (is_named_so a) g in
    acted (action_of a) again a (values_or_missing a values) rows (some_value a values parts.0 two.0) parts.1 two.1 h

found_good : (q : Rule → Bool) (c : List Rule) → are_good c ≡ true → IfSome (find q c) IsGood
found_good q c good = go (find q c) (find_passes q is_good c good)
  where
    go : (found : Option Rule) → IfSome found (λ a. (q a ≡ true) × IsGood a) → IfSome found IsGood
    go None h = tt
    go (Some a) h = h.1

-- ---- steps of clap's walk

module _ (c : List Rule) (good : are_good c ≡ true) (again : Bool) where
  settled_good : (h : Held) → settle_fault c again h ≡ [] → HasGood h.rows → HasGood (settled c h).rows
  settled_good h f g = go h.pending f
    where
      by_id : (found : Option Rule) (values : List Text) → IfSome found IsGood → option_map_or (λ a. use_fault again a values h.rows) found [] ≡ [] → HasGood (used_by_id found values h.rows)
      by_id None values s f = g
      by_id (Some a) values s f = used_good again a values h.rows s f g

      go : (p : Option (Text × List Text)) → option_map_or (λ (p : Text × List Text). option_map_or (λ a. use_fault again a p.1 h.rows) (arg_by_id c p.0) []) p [] ≡ []
          → HasGood (settled_rows c p h.rows)
      go None f = g
      go (Some p) f = by_id (arg_by_id c p.0) p.1 (found_good _ c good) f

  reacted_good : (a : Rule) (values : List Text) (h : Held) → IsGood a → react_fault c again a values h ≡ [] → HasGood h.rows → HasGood (reacted c a values h).rows
  reacted_good a values h s f g = let two = neither _ _ f in used_good again a values (settled c h).rows s two.1 (settled_good h two.0 g)

  option_good : (a : Rule) (v : Option Text) (h : Held) → IsGood a → option_fault c again a v h ≡ [] → HasGood h.rows → HasGood (option_met c a v h).0.rows
  option_good a (Some v) h s f g = reacted_good a (v ∷ []) h s f g
  option_good a None h s f g = settled_good h f g

  long_good : (found : Option Rule) (v : Option Text) (h : Held) → IfSome found IsGood → long_fault c again found v h ≡ [] → HasGood h.rows → HasGood (long_met c found v h).0.rows
  long_good None v h s f g = g
  long_good (Some a) v h s f g = go (takes_values a) v _ f
    where
      go : (b : Bool) (v : Option Text) (k : ErrorKind) → cond b (option_fault c again a v h) (cond (is_some v) (k ∷ []) (react_fault c again a [] h)) ≡ []
          → HasGood (cond b (option_met c a v h) (flag_met c a v h)).0.rows
      go true v k f = option_good a v h s f g
      go false None k f = reacted_good a [] h s f g
      go false (Some v) k f = g

  short_good : (found : Option Rule) (rest : Text) (h : Held) (go : Held → Held × Outcome) (fault : Held → Kinds) → IfSome found IsGood → short_fault c again found rest h fault ≡ []
      → HasGood h.rows → ((k : Held) → fault k ≡ [] → HasGood k.rows → HasGood (go k).0.rows) → HasGood (short_met c found rest h go).0.rows
  short_good None rest h go fault s f g on = g
  short_good (Some a) rest h go fault s f g on = by (takes_values a) f
    where
      by : (b : Bool) → cond b (option_fault c again a (attached_value rest) h) (or_else (react_fault c again a [] h) (fault (reacted c a [] h))) ≡ []
          → HasGood (cond b (option_met c a (attached_value rest) h) (go (reacted c a [] h))).0.rows
      by true f = option_good a (attached_value rest) h s f g
      by false f = let two = neither _ _ f in on (reacted c a [] h) two.1 (reacted_good a [] h s two.0 g)

  bundle_good : (k : ℕ) (flags : Text) (skip : ℕ) (so_far : Outcome) (h : Held) → flags_fault c again k flags skip h ≡ [] → HasGood h.rows
      → HasGood (bundle_met c k flags skip so_far h).0.rows
  unfolding bundle_met flags_fault
  bundle_good zero flags skip so_far h f g = g
  bundle_good (suc k) flags skip so_far h f g = step (slice_get (chars flags) 0) skip f (bundle_good k)
    where
      step : (x : Option ℕ) (n : ℕ) → bundle_step_fault c again x flags n h (flags_fault c again k) ≡ []
          → ((t : Text) (m : ℕ) (o : Outcome) (j : Held) → flags_fault c again k t m j ≡ [] → HasGood j.rows → HasGood (bundle_met c k t m o j).0.rows)
          → HasGood (bundle_step c x flags n so_far h (bundle_met c k)).0.rows
      step None n f on = g
      step (Some x) zero f on = short_good (arg_by_short c x) _ h _ (flags_fault c again k _ 0) (found_good _ c good) f g (λ j e i. on _ 0 done j e i)
      step (Some x) (suc n) f on = on _ n so_far h f g

  plain_good : (waiting : Waiting) (word : Text) (h : Held) → HasGood h.rows → HasGood (plain_word c waiting word h).0.rows
  plain_good idle word h g = g
  plain_good (option id) word h g = go (arg_by_id c id)
    where
      go : (found : Option Rule) → HasGood (option_word found id word h).0.rows
      go None = g
      go (Some a) = g
  plain_good positional word h g = g

  after_good : (waiting : Waiting) (word : Text) (h : Held) (o : Outcome) → HasGood h.rows → HasGood (after_flag c waiting word h o).0.rows
  after_good waiting word h done g = g
  after_good waiting word h (waits id) g = g
  after_good waiting word h plain g = plain_good waiting word h g
  after_good waiting word h refused g = plain_good waiting word h g

  other_good : (waiting : Waiting) (word : Text) (name : Option (Text × Option Text)) (h : Held) → flag_word_fault c again name word h ≡ [] → HasGood h.rows
      → HasGood (long_or_other c waiting word name h).0.rows
  other_good waiting word (Some p) h f g = after_good waiting word _ _ (long_good (arg_by_long c p.0) p.1 h (found_good _ c good) f g)
  other_good waiting word None h f g = go (short_of word) f
    where
      go : (flags : Option Text) → option_map_or (λ (flags : Text). flags_fault c again (length flags) flags h.skip (record h { skip = 0 })) flags [] ≡ []
          → HasGood (short_or_plain c waiting word flags h).0.rows
      go None f = plain_good waiting word h g
      go (Some flags) f = after_good waiting word _ _ (bundle_good (length flags) flags h.skip plain (record h { skip = 0 }) f g)

  to_good : (found : Option Rule) (word : Text) (w : Walk) (h : Held) (kinds : Kinds) → option_map_or (λ a. positional_fault c again a h) found kinds ≡ [] → HasGood h.rows
      → HasGood (to_positional c found word w h).held.rows
  to_good None word w h kinds f g = g
  to_good (Some a) word w h kinds f g = go (is_pending a h.pending && takes_several a) f
    where
      go : (b : Bool) → cond b [] (settle_fault c again h) ≡ [] → HasGood (pushed a.id word (cond b h (settled c h))).rows
      go true f = g
      go false f = settled_good h f g

-- ---- the walk

module _ (s : Shape) (good : are_good s.rules ≡ true) (names : Names) where
  met_good : (is_trailing : Bool) (waiting : Waiting) (position : ℕ) (word : Text) (h : Held) → word_fault s names is_trailing waiting word h ≡ [] → HasGood h.rows
      → HasGood (word_met s.rules names is_trailing waiting position word h).0.rows
  met_good true waiting position word h f g = g
  met_good false waiting position word h f g = named (subcommand_met names waiting word) f
    where
      named : (name : Option Text) → other_fault s name word h ≡ [] → HasGood (subcommand_or_other s.rules name waiting position word h).0.rows
      named (Some name) f = g
      named None f = go (bytes_eq word (45 ∷ 45 ∷ [])) f
        where
          go : (b : Bool) → cond b [] (flag_word_fault s.rules s.args_override_self (long_of word) word h) ≡ []
              → HasGood (cond b (h, trailing position) (long_or_other s.rules waiting word (long_of word) h)).0.rows
          go true f = g
          go false f = other_good s.rules good s.args_override_self waiting word (long_of word) h f g

  step_good : (word : Text) (w : Walk) (h : Held) (step : Step) → step_fault s w.position h step ≡ [] → HasGood h.rows → HasGood (after_step s.rules word w h step).held.rows
  step_good word w h (next waiting) f g = g
  step_good word w h (trailing position) f g = g
  step_good word w h (subcommand name) f g = g
  step_good word w h value f g = to_good s.rules good s.args_override_self (arg_by_index s.rules w.position) word w h (stray_fault s) f g

  walked_good : (w : Walk) (word : Text) → turn_fault s names w word ≡ [] → HasGood w.held.rows → HasGood (walked s.rules names w word).held.rows
  unfolding walked
  walked_good w word f g = from w.stopped f
    where
      from : (stopped : Option (Text × List Text)) → turn_fault s names (record w { stopped = stopped }) word ≡ [] → HasGood (walked_from s.rules names stopped w word).held.rows
      from (Some p) f = g
      from None f =
          let two = neither _ _ f in
          step_good word w _ _ two.1 (met_good w.is_trailing w.waiting w.position word w.held two.0 g)

  walk_good : (words : List Text) (w : Walk) → walk_fault s names w words ≡ [] → HasGood w.held.rows → HasGood (fold (walked s.rules names) w words).held.rows
  unfolding walk_fault
  walk_good [] w f g = g
  walk_good (word ∷ words) w f g = let two = neither _ _ f in walk_good words (walked s.rules names w word) two.1 (walked_good w word two.0 g)

-- ---- defaults

default_good : (a : Rule) (rows : List Row) → IsGood a → default_fault rows a ≡ [] → HasGood rows → HasGood (with_default rows a)
default_good a rows s f g = go (has_row a.id rows) a.defaults f
  where
    given : (v : Text) (values : List Text) (b : Bool) → is_empty (v ∷ values) ≡ b → cond b [] (given_default_fault a (v ∷ values)) ≡ [] → HasGood (default_rows a.id (reading_by a) (v ∷ values) rows)
    given v values true e f = absurd (let none : v ∷ values ≡ [] = is_nil (v ∷ values) e in cc)
    given v values false e f =
        valued a.id _ _ (v ∷ values) rows (omega arith, are_names a (v ∷ values) (and_parts (has_meaning a) (is_named_so a) s).1 (neither _ _ f).1) g

    go : (b : Bool) (values : List Text) → cond (b || is_empty values) [] (given_default_fault a values) ≡ [] → HasGood (cond b rows (default_rows a.id (reading_by a) values rows))
    go true values f = g
    go false [] f = g
    go false (v ∷ values) f = given v values (is_empty (v ∷ values)) refl f

defaults_good : (c : List Rule) (rows : List Row) → are_good c ≡ true → defaults_fault rows c ≡ [] → HasGood rows → HasGood (fold with_default rows c)
unfolding defaults_fault
defaults_good [] rows good f g = g
defaults_good (a ∷ c) rows good f g =
    let two = neither _ _ f in
    let parts = and_parts (is_good a) _ good in
    defaults_good c (with_default rows a) parts.1 two.1 (default_good a rows parts.0 two.0 g)

-- a row that is there stays there, and one that is given values is there then
there : (id key : Text) (how : Reading) (source : ValueSource) (values : List Text) (rows : List Row) → (has_row id rows ≡ true) ⊎ (bytes_eq key id ≡ true)
    → has_row id (with_values key how source values rows) ≡ true
there id key how source values [] (inl e) = absurd cc
there id key how source values [] (inr e) = rw e refl
there id key how source values (r ∷ rows) e = go (bytes_eq r.id key) (bytes_eq r.id id) refl refl e (there id key how source values rows)
  where
    go : (x y : Bool) → bytes_eq r.id key ≡ x → bytes_eq r.id id ≡ y → ((y || has_row id rows) ≡ true) ⊎ (bytes_eq key id ≡ true)
        → ((has_row id rows ≡ true) ⊎ (bytes_eq key id ≡ true) → has_row id (with_values key how source values rows) ≡ true)
        → has_row id (cond x (more_values source values r ++ rows) (r ∷ with_values key how source values rows)) ≡ true
    go true y same is (inl e) rest = rw is e
    go true y same is (inr e) rest = rw ((bytes_eq-Decides r.id key).0 same, e) refl
    go false true same is e rest = rw is refl
    go false false same is e rest = rw is (rest e)

-- an argument of this name has a default value
abbrev has_default : Text → Rule → Bool
has_default id a = bytes_eq a.id id && not (is_empty a.defaults)

default_there : (id : Text) (a : Rule) (rows : List Row) → (has_row id rows ≡ true) ⊎ (has_default id a ≡ true) → has_row id (with_default rows a) ≡ true
default_there id a rows h = go (has_row a.id rows) refl a.defaults refl
  where
    kept : (values : List Text) → (has_row id rows ≡ true) ⊎ ((bytes_eq a.id id && not (is_empty values)) ≡ true) → has_row id (default_rows a.id (reading_by a) values rows) ≡ true
    kept [] (inl e) = e
    kept [] (inr e) = absurd (let parts = and_parts (bytes_eq a.id id) _ e in cc)
    kept (v ∷ values) (inl e) = there id a.id _ _ (v ∷ values) rows (inl e)
    kept (v ∷ values) (inr e) = there id a.id _ _ (v ∷ values) rows (inr (and_parts (bytes_eq a.id id) _ e).0)

    same : has_row a.id rows ≡ true → (has_row id rows ≡ true) ⊎ (has_default id a ≡ true) → has_row id rows ≡ true
    same e (inl k) = k
    same e (inr k) = subst (λ (t : Text). has_row t rows ≡ true) ((bytes_eq-Decides a.id id).0 (and_parts (bytes_eq a.id id) _ k).0) e

    go : (b : Bool) → has_row a.id rows ≡ b → (values : List Text) → a.defaults ≡ values → has_row id (cond b rows (default_rows a.id (reading_by a) values rows)) ≡ true
    go true e values is = same e h
    go false e values is = kept values (subst (λ (d : List Text). (has_row id rows ≡ true) ⊎ ((bytes_eq a.id id && not (is_empty d)) ≡ true)) is h)

defaults_there : (id : Text) (c : List Rule) (rows : List Row) → (has_row id rows ≡ true) ⊎ (list_any (has_default id) c ≡ true) → has_row id (fold with_default rows c) ≡ true
defaults_there id [] rows (inl e) = e
defaults_there id [] rows (inr e) = absurd cc
defaults_there id (a ∷ c) rows (inl e) = defaults_there id c (with_default rows a) (inl (default_there id a rows (inl e)))
defaults_there id (a ∷ c) rows (inr e) = defaults_there id c (with_default rows a) (go (has_default id a) refl e)
  where
    go : (b : Bool) → has_default id a ≡ b → (b || list_any (has_default id) c) ≡ true → (has_row id (with_default rows a) ≡ true) ⊎ (list_any (has_default id) c ≡ true)
    go true is e = inl (default_there id a rows (inr is))
    go false is e = inr e

-- ---- one level

-- the parts of a level have no fault
pub record IsSound (s : Shape) (names : Names) (h : Held) (words : List Text) (named : Bool) (below : Kinds) : Type 0 where
  pub words_pass : walk_fault s names (walk_from h) words ≡ []
  pub below_passes : below ≡ []
  pub end_passes : settle_fault s.rules s.args_override_self (walk s.rules names h words).held ≡ []
  pub defaults_pass : defaults_fault (settled s.rules (walk s.rules names h words).held).rows s.rules ≡ []
  pub rows_pass : check_fault s (finished s.rules (walk s.rules names h words).held) named ≡ []

pub level_sound : (s : Shape) (names : Names) (h : Held) (words : List Text) (named : Bool) (below : Kinds) → level_fault s names h words named below ≡ []
    → IsSound s names h words named below
level_sound s names h words named below f =
    let one = neither _ _ f in
    let two = neither _ _ one.1 in
    let three = neither _ _ two.1 in
    let four = neither _ _ three.1 in
    record { words_pass = one.0; below_passes = two.0; end_passes = three.0; defaults_pass = four.0; rows_pass = four.1 }

rows_good : (s : Shape) (words : List Text) {named : Bool} {below : Kinds} → are_good s.rules ≡ true → IsSound s [] nothing_held words named below → HasGood (rows_after s.rules [] words)
rows_good s words good f =
    let h = (walk s.rules [] nothing_held words).held in
    defaults_good s.rules (settled s.rules h).rows good f.defaults_pass
    (settled_good s.rules good s.args_override_self h f.end_passes (walk_good s good [] words (walk_from nothing_held) f.words_pass tt))

-- ---- what is asked of the rows

first_given : (id : Text) (rows : List Row) → HasGood rows → is_given id rows ≡ true → is_some (first_of id rows) ≡ true
first_given id [] h given = absurd cc
first_given id (r ∷ rows) h given = go (bytes_eq r.id id) refl (first_given id rows h.1)
  where
    some : (values : List Text) → 0 < length values → is_some (slice_get values 0) ≡ true
    some [] lt = absurd (omega arith)
    some (v ∷ values) lt = refl

    go : (b : Bool) → bytes_eq r.id id ≡ b → (is_given id rows ≡ true → is_some (first_of id rows) ≡ true) → is_some (first_of id (r ∷ rows)) ≡ true
    go true e rest = rw e (some r.values h.0.0)
    go false e rest = rw e (rest (rw e at given))

name_of : (values : List Text) → 0 < length values → list_all is_name values ≡ true → (profile : Profile) × (slice_get values 0 ≡ Some (profile_name profile))
name_of [] lt n = absurd (omega arith)
name_of (v ∷ values) lt n = go (bytes_eq (profile_name Profile.Two) v) refl (and_parts (is_name v) _ n).0
  where
    go : (b : Bool) → bytes_eq (profile_name Profile.Two) v ≡ b → (b || bytes_eq (profile_name Profile.Module) v) ≡ true → (profile : Profile) × (Some v ≡ Some (profile_name profile))
    go true e n = (Profile.Two, ap (λ (t : Text). Some t) (sym ((bytes_eq-Decides (profile_name Profile.Two) v).0 e)))
    go false e n = (Profile.Module, ap (λ (t : Text). Some t) (sym ((bytes_eq-Decides (profile_name Profile.Module) v).0 n)))

first_named : (rows : List Row) → HasGood rows → has_row (codes "profile") rows ≡ true → HasProfile rows
first_named [] h e = absurd cc
first_named (r ∷ rows) h e = go (bytes_eq r.id (codes "profile")) refl e (first_named rows h.1)
  where
    go : (b : Bool) → bytes_eq r.id (codes "profile") ≡ b → (b || has_row (codes "profile") rows) ≡ true → (has_row (codes "profile") rows ≡ true → HasProfile rows) → HasProfile (r ∷ rows)
    go true is e rest = let name = name_of r.values h.0.0 (h.0.1 is) in (name.0, rw is name.1)
    go false is e rest = let named = rest e in (named.0, rw is named.1)

-- what such a command was given has a value
pub given_value : (s : Shape) (words : List Text) (id : Text) {named : Bool} {below : Kinds} → are_good s.rules ≡ true → IsSound s [] nothing_held words named below
    → is_given id (rows_after s.rules [] words) ≡ true → is_some (first_of id (rows_after s.rules [] words)) ≡ true
given_value s words id good f given = first_given id (rows_after s.rules [] words) (rows_good s words good f) given

-- the arguments have values that are good, and `--profile` has a default value
abbrev pub has_profile : List Rule → Bool
has_profile rules = are_good rules && list_any (has_default (codes "profile")) rules

-- such a command has a profile
pub named_profile : (s : Shape) (words : List Text) {named : Bool} {below : Kinds} → has_profile s.rules ≡ true → IsSound s [] nothing_held words named below
    → HasProfile (rows_after s.rules [] words)
named_profile s words has f =
    let parts = and_parts (are_good s.rules) _ has in
    let h = (walk s.rules [] nothing_held words).held in
    first_named (rows_after s.rules [] words) (rows_good s words parts.0 f) (defaults_there (codes "profile") s.rules (settled s.rules h).rows (inr parts.1))
