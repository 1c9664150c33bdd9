-- Worked messages: each fits, and so its normal form spells it; some are spelled in other ways too.
use Rattle.std.proofs.Common.{ℕ, ◌<◌, ◌≤◌, ◌^◌, false, true, List, [], ◌∷◌, ◌++◌, length, None, refl, inl, inr, lit≤, arith, length-append}
use Rattle.std.specs.Prelude.{unwrap_or, slice_get}
use Rattle.ber_tree.specs.declared.class.Class.{Class}
use Rattle.ber_core.specs.Der.{encoding, encodings, HasIdentifiers, HaveIdentifiers}
use Rattle.ber_tree.specs.Identifier.{Tag, identifier}
use Rattle.ber_tree.specs.Tree.{Tree, Trees, primitive, constructed, none, more, Spells, SpellsAll}
use Rattle.ber_core.proofs.Encodings.{encoding_spells}
use Rattle.ber_leaf.specs.Leaf.{boolean, integer, enumerated, general_string, iso_date}
use Rattle.ber_leaf.specs.Profile.{profile_two}
use Rattle.ill_tables.specs.declared.node.NodeId.{NodeId}
use Rattle.ill_tables.specs.declared.node.NodeId.TheVariants.{IllApdu, Integer, Enumerated, TransactionId, ServiceDateTime, Boolean, RequesterOptionalMessages, ItemId, IllServiceTypes, Results, Locs, LocationInfo, Symbol, IllAnswer, Expired}
use Rattle.ill_tables.specs.declared.part.{Row.Row, Mode.Mode, Presence.Presence}
use Rattle.ber_leaf.specs.Simple.{flag}
use Rattle.ill_schema.specs.Content.{Content, simple, no_entries, absent, present}
use Rattle.ill_schema.specs.Tagging.{untagged, implicit, explicit, sequence_tag}
use Rattle.ill_schema.specs.Meaning.{Means, Matches}
use Rattle.ill_tables.specs.Table.{rows_of}
use Rattle.ill_schema.specs.Fits.{Fits, FitRows, FitsApdu}
use Rattle.ill_schema.specs.{Normal.normal_tree, Normal.normal_trees}
use Rattle.ill_schema.specs.Apdu.{Apdu, choice_of, normal_form, SpellsApdu}
use Rattle.ill_schema.specs.Worked.{absents, number, transaction, service_date, head_entries, optional_messages, location, answer, expired, request, estimate, unfilled, retry, IsNormalForm}
use Rattle.ill_schema.proofs.Normal.{normal_means, normal_matches, normal_apdu_means}
use Rattle.ill_schema.proofs.Encodings.{normal_valid, normal_spells}

abbrev row_at : NodeId → ℕ → Row
row_at node n = unwrap_or (slice_get (rows_of node) n) (record { tag = None; mode = Mode.Untagged; presence = Presence.May; node = node })

-- an entry that fits, or that is absent, before others
entry : {A B : Type 0} → A → B → Unit {0} × A × B
entry a b = (tt, a, b)

lack : {B : Type 0} → B → Unit {0} × B
lack b = (tt, b)

version_fits : Fits profile_two (number 2) Integer
version_fits = (integer, refl, (refl, refl, refl))

transaction_fits : Fits profile_two transaction TransactionId
transaction_fits = (refl, lack (entry (general_string, refl, (refl, refl, refl)) (entry (general_string, refl, (refl, refl, refl)) (lack tt))))

date_fits : Fits profile_two service_date ServiceDateTime
date_fits = (refl, entry (refl, entry (iso_date, refl, (refl, refl, refl)) (lack tt)) (lack tt))

expired_rows : FitRows profile_two (head_entries (absent no_entries)) (rows_of Expired)
expired_rows = entry version_fits (entry transaction_fits (entry date_fits (lack (lack (lack tt)))))

pub expired_fits : FitsApdu profile_two expired
expired_fits = (lit≤ tt, (row_at IllApdu 19, (refl, refl, tt), (refl, expired_rows)))

one_fits : Fits profile_two (number 1) Enumerated
one_fits = (enumerated, refl, (refl, refl, refl))

pub request_fits : FitsApdu profile_two request
request_fits = (
  lit≤ tt,
  (
    row_at IllApdu 0,
    (refl, refl, tt),
    (
      refl,
      entry version_fits (entry transaction_fits (entry date_fits (lack (lack (
          entry one_fits (lack (lack (lack (entry (refl, (row_at IllServiceTypes 0, refl, one_fits, tt)) (lack (entry messages (lack (lack (
          entry (enumerated, refl, (refl, refl, refl)) (lack (entry (refl, nothing) (lack (lack (lack (lack (
          entry no (entry no (lack (lack (lack tt))))))))))))))))))))))))),
    ),
  ),
)
  where
    no : Fits profile_two (simple (flag false)) Boolean
    no = (boolean, refl, (refl, refl, refl))

    messages : Fits profile_two optional_messages RequesterOptionalMessages
    messages = (refl, entry no (entry no (entry one_fits (entry one_fits tt))))

    nothing : FitRows profile_two (absents 23 no_entries) (rows_of ItemId)
    nothing = (tt, (tt, (tt, (tt, (tt, (tt, (tt, (tt, (tt, (tt, (tt, (tt, (tt, (tt, (tt, (tt, (tt, (tt, (tt, (tt, (tt, (tt, (tt, tt)))))))))))))))))))))))

-- an answer fits if its result does
answer_fits : (n : ℕ) (c : Content) → Fits profile_two (number n) Enumerated → Fits profile_two c Results → FitsApdu profile_two (answer n c)
answer_fits n c number_fits result_fits = (
  lit≤ tt,
  (
    row_at IllApdu 3,
    (refl, refl, tt),
    (
      refl,
      entry version_fits (entry transaction_fits (entry date_fits (lack (lack (
          entry number_fits (entry result_fits (lack (lack (lack (lack (lack (lack (lack tt))))))))))))),
    ),
  ),
)

pub estimate_fits : FitsApdu profile_two (answer 7 estimate)
estimate_fits = answer_fits 7 estimate (enumerated, refl, (refl, refl, refl)) fits
  where
    fits : Fits profile_two estimate Results
    fits = (row_at Results 6, (refl, refl, tt), (refl, entry (general_string, refl, (refl, refl, refl)) (lack tt)))

pub unfilled_fits : FitsApdu profile_two (answer 3 unfilled)
unfilled_fits = answer_fits 3 unfilled (enumerated, refl, (refl, refl, refl)) fits
  where
    location_fits : Fits profile_two location LocationInfo
    location_fits =
        (refl, entry (refl, entry (row_at Symbol 1, (refl, refl, tt), (general_string, refl, (refl, refl, refl))) (lack tt)) (lack (lack tt)))

    fits : Fits profile_two unfilled Results
    fits = (row_at Results 2, (refl, refl, tt), (refl, entry one_fits (entry (refl, (row_at Locs 0, refl, location_fits, tt)) tt)))

pub retry_fits : FitsApdu profile_two (answer 2 retry)
retry_fits = answer_fits 2 retry (enumerated, refl, (refl, refl, refl)) (row_at Results 1, (refl, refl, tt), (refl, lack (lack (lack tt))))

-- an APDU that fits is spelled by its normal form
pub own : (a : Apdu) → FitsApdu profile_two a → length (normal_form a) ≤ profile_two.limit → IsNormalForm a (normal_form a)
own a fit le = (normal_spells profile_two a fit (lit≤ tt) le, refl)

-- a tree's encoding with indefinite lengths
abbrev mutual
  indefinite : Tree → List ℕ
  indefinite (primitive t octets) = encoding (primitive t octets)
  indefinite (constructed t ts) = identifier t true ++ (128 ∷ indefinites ts ++ 0 ∷ 0 ∷ [])

  indefinites : Trees → List ℕ
  indefinites none = []
  indefinites (more T ts) = indefinite T ++ indefinites ts

tail_short : (xs ys : List ℕ) (n : ℕ) → length (xs ++ ys) < n → length ys < n
tail_short xs ys n h = omega (arith, h, length-append xs ys)

head_short : (xs ys : List ℕ) (n : ℕ) → length (xs ++ ys) < n → length xs < n
head_short xs ys n h = omega (arith, h, length-append xs ys)

mutual
  indefinite_spells : (T : Tree) → HasIdentifiers T → length (encoding T) < 256 ^ 126 → Spells T (indefinite T)
  indefinite_spells (primitive t octets) h le = encoding_spells (primitive t octets) h le
  indefinite_spells (constructed t ts) h le =
      let short = tail_short _ (encodings ts) _ (tail_short _ (_ ++ encodings ts) _ le) in
      (indefinites ts, indefinites_spell ts h.1 short, inr (record { has_identifier = h.0; joined = refl }))

  indefinites_spell : (ts : Trees) → HaveIdentifiers ts → length (encodings ts) < 256 ^ 126 → SpellsAll ts (indefinites ts)
  indefinites_spell none h le = refl
  indefinites_spell (more T ts) h le = (
    _,
    _,
    indefinite_spells T h.0 (head_short (encoding T) (encodings ts) _ le),
    indefinites_spell ts h.1 (tail_short (encoding T) (encodings ts) _ le),
    refl,
  )

-- the identifiers of an APDU's normal tree
ids : (a : Apdu) → FitsApdu profile_two a → HasIdentifiers (normal_tree (choice_of a) IllApdu untagged)
ids a fit = normal_valid profile_two (choice_of a) IllApdu untagged tt fit.1

abbrev expired_tree : Tree
expired_tree = normal_tree (choice_of expired) IllApdu untagged

pub expired_by_indefinite : SpellsApdu profile_two expired (indefinite expired_tree)
expired_by_indefinite = record {
  encodes = record {
    tree = expired_tree;
    means = normal_apdu_means profile_two expired expired_fits;
    spells = indefinite_spells expired_tree (ids expired expired_fits) (lit≤ tt);
    shallow = lit≤ tt;
    short = lit≤ tt;
  };
  normal_short = lit≤ tt;
}

abbrev tag : Class → ℕ → Tag
tag class number = record { class = class; number = number }

-- the Expired without its inner SEQUENCE
abbrev bare_tree : Tree
bare_tree = constructed (tag Class.Application 20) (normal_trees (head_entries (absent no_entries)) (rows_of Expired))

pub expired_without_sequence : SpellsApdu profile_two expired (encoding bare_tree)
expired_without_sequence = record {
  encodes = record {
    tree = bare_tree;
    means = (
      lit≤ tt,
      (row_at IllApdu 19, (refl, refl, tt), (refl, inr (_, refl, normal_matches profile_two (head_entries (absent no_entries)) (rows_of Expired) expired_rows))),
    );
    spells = let h = ids expired expired_fits in encoding_spells bare_tree (h.0, h.1.0.1) (lit≤ tt);
    shallow = lit≤ tt;
    short = lit≤ tt;
  };
  normal_short = lit≤ tt;
}

-- the answer to retry, whose result is without its inner SEQUENCE
abbrev result_tree : Tree
result_tree = constructed (tag Class.Context 32) (more (constructed (tag Class.Context 2) none) none)

abbrev retry_trees : Trees
retry_trees =
    more (normal_tree (number 2) Integer (implicit (tag Class.Context 0)))
    (more (normal_tree transaction TransactionId (implicit (tag Class.Context 1)))
    (more (normal_tree service_date ServiceDateTime (implicit (tag Class.Context 2)))
    (more (primitive (tag Class.Context 31) (2 ∷ [])) (more result_tree none))))

abbrev retry_tree : Tree
retry_tree = constructed (tag Class.Application 4) (more (constructed sequence_tag retry_trees) none)

retry_matches : Matches profile_two (head_entries (present (number 2) (present retry (absents 7 no_entries)))) (rows_of IllAnswer) retry_trees
retry_matches = (tt, inl (_, _, refl, version, (tt, inl (_, _, refl, group, (tt, inl (_, _, refl, date, (tt, (tt, (tt, inl (_, _, refl, two, (tt, inl (_, _, refl, result, (tt, (tt, (tt, (tt, (tt, (tt, (tt, refl)))))))))))))))))))
  where
    version : Means profile_two (number 2) Integer (implicit (tag Class.Context 0)) (normal_tree (number 2) Integer (implicit (tag Class.Context 0)))
    version = normal_means profile_two (number 2) Integer (implicit (tag Class.Context 0)) version_fits

    group : Means profile_two transaction TransactionId (implicit (tag Class.Context 1)) (normal_tree transaction TransactionId (implicit (tag Class.Context 1)))
    group = normal_means profile_two transaction TransactionId (implicit (tag Class.Context 1)) transaction_fits

    date : Means profile_two service_date ServiceDateTime (implicit (tag Class.Context 2)) (normal_tree service_date ServiceDateTime (implicit (tag Class.Context 2)))
    date = normal_means profile_two service_date ServiceDateTime (implicit (tag Class.Context 2)) date_fits

    two : Means profile_two (number 2) Enumerated (implicit (tag Class.Context 31)) (primitive (tag Class.Context 31) (2 ∷ []))
    two = (enumerated, refl, (refl, tt, (refl, refl, refl)))

    result : Means profile_two retry Results (explicit (tag Class.Context 32)) result_tree
    result = (row_at Results 1, (refl, refl, tt), (_, refl, (refl, inr (none, refl, (tt, (tt, (tt, refl)))))))

pub retry_without_sequence : SpellsApdu profile_two (answer 2 retry) (encoding retry_tree)
retry_without_sequence = record {
  encodes = record {
    tree = retry_tree;
    means = (lit≤ tt, (row_at IllApdu 3, (refl, refl, tt), (refl, inl (_, refl, (retry_trees, refl, retry_matches)))));
    spells =
        let h = ids (answer 2 retry) retry_fits in
        let k = h.1.0.1 in
        let r = k.1.1.1.1.0 in
        encoding_spells retry_tree (h.0, ((h.1.0.0, (k.0, (k.1.0, (k.1.1.0, (k.1.1.1.0, ((r.0, ((r.1.0.0, tt), tt)), tt)))))), tt)) (lit≤ tt);
    shallow = lit≤ tt;
    short = lit≤ tt;
  };
  normal_short = lit≤ tt;
}
