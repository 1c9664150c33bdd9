-- The members of a result, and their tokens.
use Rattle.std.proofs.Common.{◌≡◌, ◌<◌, ◌==◌, ◌+◌, ℕ, suc, true, false, List, [], ◌∷◌, ◌++◌, length, map, take, slice_index_or, string_bytes, String, Global, codes, Option, Some, None, refl, sym, ap, ◌∙◌, append_assoc, arith}
use Rattle.std.proofs.Math.Seq.{take-suc}
use Rattle.std.proofs.lemmas.Bool.Decides.{eqb_tells}
use Rattle.std.proofs.lemmas.List.{map-append}
use Rattle.json.specs.Json.{Members, no_members}
use Rattle.json.specs.Token.{Token, begin_array, end_array, end_object, key, string}
use Rattle.json.specs.Tree.{items_tokens, members_tokens}
use Rattle.ill_json.specs.Json.{with_file}
use Rattle.ill_json.specs.Results.{place_members, strings, with_count, with_list, with_text, with_words}
use Rattle.ill_json.specs.code.Adding.{count_tokens, file_tokens, list_tokens, place_tokens, text_tokens, words_tokens}
use Rattle.ill_inputs.specs.declared.place.RefusalPlace.{RefusalPlace}

pub file_member : (file : Option (List ℕ)) (ms : Members) → file_tokens file ++ members_tokens ms ≡ members_tokens (with_file file ms)
file_member None ms = refl
file_member (Some name) ms = refl

pub text_member : (name : List ℕ) (text : Option (List ℕ)) (ms : Members) → text_tokens name text ++ members_tokens ms ≡ members_tokens (with_text name text ms)
text_member name None ms = refl
text_member name (Some text) ms = refl

pub count_member : (name : List ℕ) (n : Option ℕ) (ms : Members) → count_tokens name n ++ members_tokens ms ≡ members_tokens (with_count name n ms)
count_member name None ms = refl
count_member name (Some n) ms = refl

pub words_member : (name words : List ℕ) (ms : Members) → words_tokens name words ++ members_tokens ms ≡ members_tokens (with_words name words ms)
words_member name [] ms = refl
words_member name (octet ∷ words) ms = refl

pub array_tokens : (texts : List (List ℕ)) → map string texts ++ end_array ∷ [] ≡ items_tokens (strings texts)
array_tokens [] = refl
array_tokens (text ∷ texts) = ap (λ (ts : List Token). string text ∷ ts) (array_tokens texts)

pub list_member : (name : List ℕ) (texts : List (List ℕ)) (ms : Members) → list_tokens name texts ++ members_tokens ms ≡ members_tokens (with_list name texts ms)
list_member name [] ms = refl
list_member name (text ∷ texts) ms = ap (λ (ts : List Token). key name ∷ begin_array ∷ (ts ++ members_tokens ms)) (array_tokens (text ∷ texts))

-- the members of a place, and the end of the object
pub place_member : (place : RefusalPlace) → place_tokens place ++ end_object ∷ [] ≡ members_tokens (place_members place)
place_member place =
    let path = words_tokens (codes "path") (string_bytes place.path) in
    let found = words_tokens (codes "found") (string_bytes place.found) in
    let due = list_tokens (codes "due") (map string_bytes place.due.items) in
    append_assoc path (found ++ due) (end_object ∷ [])
    ∙ ap (λ (ts : List Token). path ++ ts) (append_assoc found due (end_object ∷ []) ∙ ap (λ (ts : List Token). found ++ ts) (list_member (codes "due") _ no_members) ∙ words_member (codes "found") _ _)
    ∙ words_member (codes "path") _ _

-- words that are there, and none
pub some_words : (name words : List ℕ) → false ≡ (length words == 0) → key name ∷ string words ∷ [] ≡ words_tokens name words
some_words name [] e = absurd cc
some_words name (octet ∷ words) e = refl

pub no_words : (name words : List ℕ) → true ≡ (length words == 0) → [] ≡ words_tokens name words
no_words name [] e = refl
no_words name (octet ∷ words) e = absurd (grind (arith, eqb_tells, e))

-- texts that are there, and none
pub some_texts : (name : List ℕ) (texts : List (String Global)) → false ≡ (length texts == 0)
    → key name ∷ begin_array ∷ (map string (map string_bytes texts) ++ end_array ∷ []) ≡ list_tokens name (map string_bytes texts)
some_texts name [] e = absurd cc
some_texts name (text ∷ texts) e = refl

pub no_texts : (name : List ℕ) (texts : List (String Global)) → true ≡ (length texts == 0) → [] ≡ list_tokens name (map string_bytes texts)
no_texts name [] e = refl
no_texts name (text ∷ texts) e = absurd (grind (arith, eqb_tells, e))

-- one text more
pub text_step : (texts : List (String Global)) (i : ℕ) (text : String Global) (words : List ℕ) → i < length texts → text ≡ slice_index_or texts i text → words ≡ string_bytes text
    → map string (map string_bytes (take i texts)) ++ string words ∷ [] ≡ map string (map string_bytes (take (i + 1) texts))
text_step texts i text words lt is same =
    let next : i + 1 ≡ suc i = omega arith in
    let more : take (i + 1) texts ≡ take i texts ++ text ∷ [] = ap (λ n. take n texts) next ∙ take-suc texts i text lt ∙ ap (λ t. take i texts ++ t ∷ []) (sym is) in
    ap (λ w. map string (map string_bytes (take i texts)) ++ string w ∷ []) same ∙ sym (map-append string (map string_bytes (take i texts)) (string_bytes text ∷ []))
    ∙ sym (ap (map string) (map-append string_bytes (take i texts) (text ∷ []))) ∙ sym (ap (λ l. map string (map string_bytes l)) more)
