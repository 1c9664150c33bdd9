-- The lines of a message, made and written.
use Rattle.std.proofs.Common.{◌≡◌, ℕ, Bool, true, false, List, [], ◌++◌, Option, Result, Ok, Err, codes, decimal, subst, sym, ap, ap₂, ◌∙◌, refl, append-nil, append_assoc}
use Rattle.std.specs.Prelude.{OnOk, if◌then◌else◌}
use Rattle.std.specs.Io.KnownBytes.{Appends}
use Rattle.std.proofs.KnownBytes.{Appends-nil, Appends-trans}
use Rattle.ill_inputs.specs.Inputs.{label_of}
use Rattle.ill_walk.specs.Markup.{shown_in, tags_in}
use Rattle.ill_walk.specs.declared.markup.DumpFormat.{DumpFormat}
use Rattle.ill_dump.specs.Dumped.{dumped, head, is_chosen}
use Rattle.ill_dump.specs.code.Putting.{BeginsWith, Puts}
use Rattle.ill_dump.specs.declared.run.DumpOptions.{DumpOptions}

-- what waits for the sink

pub on_ok : {T E : Type 0} (r : Result T E) (P Q : Type 0) → (P → Q) → OnOk r P → OnOk r Q
on_ok (Ok x) P Q f h = f h
on_ok (Err e) P Q f h = tt

pub puts_none : (held : Option (List ℕ)) (waiting : List ℕ) → Puts held held waiting waiting
puts_none held waiting = record { written = []; more = []; appended = Appends-nil held; order = append-nil waiting }

pub puts_more : (held held' held'' : Option (List ℕ)) (waiting waiting' waiting'' lines : List ℕ) → Puts held held' waiting waiting' → Appends held' held'' (waiting' ++ lines) → waiting'' ≡ []
    → Puts held held'' waiting waiting''
puts_more held held' held'' waiting waiting' waiting'' lines p more none =
    let all = p.written ++ (waiting' ++ lines) in
    record {
      written = all;
      more = p.more ++ lines;
      appended = Appends-trans held held' held'' _ _ p.appended more;
      order = sym (append_assoc waiting p.more lines) ∙ ap (λ l. l ++ lines) p.order ∙ append_assoc p.written waiting' lines ∙ sym (append-nil all) ∙ ap (λ l. all ++ l) (sym none);
    }

pub puts_join : (held held' held'' : Option (List ℕ)) (waiting waiting' waiting'' : List ℕ) → Puts held held' waiting waiting' → Puts held' held'' waiting' waiting'' → Puts held held'' waiting waiting''
puts_join held held' held'' waiting waiting' waiting'' p q = record {
  written = p.written ++ q.written;
  more = p.more ++ q.more;
  appended = Appends-trans held held' held'' _ _ p.appended q.appended;
  order = sym (append_assoc waiting p.more q.more) ∙ ap (λ l. l ++ q.more) p.order ∙ append_assoc p.written waiting' q.more ∙ ap (λ l. p.written ++ l) q.order
      ∙ sym (append_assoc p.written q.written waiting'');
}

pub puts_all : (held held' held'' : Option (List ℕ)) (front waiting waiting' lines : List ℕ) → waiting ≡ front → Puts held held' waiting waiting' → Appends held' held'' (waiting' ++ lines) → BeginsWith held held'' front
puts_all held held' held'' front waiting waiting' lines e p more =
    let all = puts_more held held' held'' waiting waiting' [] lines p more refl in
    (all.more, subst (Appends held held'') (sym (append-nil all.written) ∙ sym all.order ∙ ap (λ l. l ++ all.more) e) all.appended)

-- the head of a message, made part by part

plain_message : (format : DumpFormat) → shown_in format (codes "message ") ≡ codes "message "
plain_message DumpFormat.Text = refl
plain_message DumpFormat.Html = refl

plain_colon : (format : DumpFormat) → shown_in format (codes ": ") ≡ codes ": "
plain_colon DumpFormat.Text = refl
plain_colon DumpFormat.Html = refl

joined_five : (o a b c d e : List ℕ) → o ++ a ++ b ++ c ++ d ++ e ≡ o ++ (a ++ b ++ c ++ d ++ e)
joined_five o a b c d e =
    let two = append_assoc o a b in
    let three = ap (λ l. l ++ c) two ∙ append_assoc o (a ++ b) c in
    let four = ap (λ l. l ++ d) three ∙ append_assoc o (a ++ b ++ c) d in
    ap (λ l. l ++ e) four ∙ append_assoc o (a ++ b ++ c ++ d) e

pub head_made : (dump : DumpOptions) (i : ℕ) (old tagged labelled named counted made : List ℕ) → tagged ≡ old ++ tags_in dump.format (codes "<section><h2>")
    → labelled ≡ tagged ++ label_of dump.names_input (shown_in dump.format dump.name.now) → named ≡ labelled ++ shown_in dump.format (codes "message ")
    → counted ≡ named ++ decimal i → made ≡ counted ++ shown_in dump.format (codes ": ") → made ≡ old ++ head dump i
head_made dump i old tagged labelled named counted made a b c d e =
    let label = label_of dump.names_input (shown_in dump.format dump.name.now) in
    let tags = tags_in dump.format (codes "<section><h2>") in
    let to_label : labelled ≡ old ++ tags ++ label = b ∙ ap (λ l. l ++ label) a in
    let to_message : named ≡ old ++ tags ++ label ++ codes "message " = c ∙ ap₂ (λ (l m : List ℕ). l ++ m) to_label (plain_message dump.format) in
    let to_count : counted ≡ old ++ tags ++ label ++ codes "message " ++ decimal i = d ∙ ap (λ l. l ++ decimal i) to_message in
    e ∙ ap₂ (λ (l m : List ℕ). l ++ m) to_count (plain_colon dump.format) ∙ joined_five old tags label (codes "message ") (decimal i) (codes ": ")

-- what is put of a message that is chosen, and of another

pub chosen_put : (dump : DumpOptions) (i : ℕ) (held held' : Option (List ℕ)) (waiting : List ℕ) → is_chosen dump.only i ≡ true → waiting ≡ [] → BeginsWith held held' (waiting ++ head dump i)
    → (octets : List ℕ) × ((more : List ℕ) × (octets ≡ dumped dump i more)) × Appends held held' octets
chosen_put dump i held held' waiting e none h =
    let octets = head dump i ++ h.0 in
    let is : octets ≡ dumped dump i h.0 = ap (λ (b : Bool). if b then octets else []) (sym e) in
    (octets, (h.0, is), subst (λ l. Appends held held' (l ++ head dump i ++ h.0)) none h.1)

pub other_put : (dump : DumpOptions) (i : ℕ) (held : Option (List ℕ)) → is_chosen dump.only i ≡ false → (octets : List ℕ) × ((more : List ℕ) × (octets ≡ dumped dump i more)) × Appends held held octets
other_put dump i held e =
    let is : [] ≡ dumped dump i [] = ap (λ (b : Bool). if b then head dump i ++ [] else []) (sym e) in
    ([], ([], is), Appends-nil held)
