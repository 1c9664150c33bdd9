-- The content of each kind of value.
use Rattle.std.proofs.Common.{◌≡◌, ℕ, suc, ℤ, Bool, List, [], ◌∷◌, length, Option, Some, None, Vec, Box, Global, refl, sym, ap, ◌∙◌, rules}
use Rattle.ber_leaf.specs.declared.text.ill_string.IllString.{IllString}
use Rattle.ber_leaf.specs.Simple.{flag, whole, date, time, printable}
use Rattle.ber_leaf.specs.Strings.{string_value}
use Rattle.ill_schema.specs.declared.value.Value.{Value, Flag, Whole, Date, Time, Print, Str, Seq, List as ListOf, Alt, the_lemmas}
use Rattle.ill_schema.specs.Content.{simple, sequence, list, alternative, Entries, no_entries, absent, present, Items, no_items, item}
use Rattle.ill_schema.specs.Value.{content_of, entries_content, items_content}

pub content_of-Flag : (b : Bool) → content_of (Flag b) ≡ simple (flag b)
content_of-Flag b = search (rules, the_lemmas)

pub content_of-Whole : (n : ℤ) → content_of (Whole n) ≡ simple (whole n)
content_of-Whole n = search (rules, the_lemmas)

pub content_of-Date : (text : List ℕ) → content_of (Date text) ≡ simple (date text)
content_of-Date text = search (rules, the_lemmas)

pub content_of-Time : (text : List ℕ) → content_of (Time text) ≡ simple (time text)
content_of-Time text = search (rules, the_lemmas)

pub content_of-Print : (text : List ℕ) → content_of (Print text) ≡ simple (printable text)
content_of-Print text = search (rules, the_lemmas)

pub content_of-Str : (string : IllString) → content_of (Str string) ≡ simple (string_value string)
content_of-Str string = search (rules, the_lemmas)

pub content_of-Seq : (v : Vec (Option Value) Global) → content_of (Seq v) ≡ sequence (entries_content v.items)
content_of-Seq v = search (rules, the_lemmas)

pub content_of-List : (v : Vec Value Global) → content_of (ListOf v) ≡ list (items_content v.items)
content_of-List v = search (rules, the_lemmas)

pub content_of-Alt : (n : ℕ) (b : Box Value Global) → content_of (Alt n b) ≡ alternative n (content_of b.value)
content_of-Alt n b = search (rules, the_lemmas)

entries_len : Entries → ℕ
entries_len no_entries = 0
entries_len (absent es) = suc (entries_len es)
entries_len (present c es) = suc (entries_len es)

length-entries : (es : List (Option Value)) → entries_len (entries_content es) ≡ length es
unfolding entries_len
length-entries [] = refl
length-entries (None ∷ es) = ap suc (length-entries es)
length-entries (Some v ∷ es) = ap suc (length-entries es)

-- equal contents have as many entries
pub same_entries-length : (xs ys : List (Option Value)) → entries_content xs ≡ entries_content ys → length xs ≡ length ys
same_entries-length xs ys e = sym (length-entries xs) ∙ ap entries_len e ∙ length-entries ys

items_len : Items → ℕ
items_len no_items = 0
items_len (item c is) = suc (items_len is)

length-items : (vs : List Value) → items_len (items_content vs) ≡ length vs
unfolding items_len
length-items [] = refl
length-items (v ∷ vs) = ap suc (length-items vs)

pub same_items-length : (xs ys : List Value) → items_content xs ≡ items_content ys → length xs ≡ length ys
same_items-length xs ys e = sym (length-items xs) ∙ ap items_len e ∙ length-items ys
