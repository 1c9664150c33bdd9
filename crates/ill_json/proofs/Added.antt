-- What is put one after another.
use Rattle.std.proofs.Common.{◌≡◌, List, [], ◌∷◌, ◌++◌, true, false, sym, ap, subst, ◌∙◌, append_assoc, append-nil}
use Rattle.json.specs.Token.{Token}
use Rattle.ill_json.specs.declared.writing.LineWriter.{LineWriter}
use Rattle.ill_json.specs.code.Adding.{Adds}

pub adds_nothing : (o : LineWriter) → Adds [] o o
unfolding Adds
adds_nothing o = λ ok. (ok, sym (append-nil o.writer.tokens))

pub adds_then : (xs ys : List Token) (a b c : LineWriter) → Adds xs a b → Adds ys b c → Adds (xs ++ ys) a c
unfolding Adds
adds_then xs ys a b c f g = λ ok.
    let second = g ok in
    let first = f second.0 in
    (first.0, second.1 ∙ ap (λ (ts : List Token). ts ++ ys) first.1 ∙ append_assoc a.writer.tokens xs ys)

pub adds_as : (xs ys : List Token) (a b : LineWriter) → xs ≡ ys → Adds xs a b → Adds ys a b
adds_as xs ys a b e h = subst (λ ts. Adds ts a b) e h

-- one token
pub adds_one : (t : Token) (a b : LineWriter) → b.failed ≡ a.failed → b.writer.tokens ≡ a.writer.tokens ++ t ∷ [] → Adds (t ∷ []) a b
unfolding Adds
adds_one t a b f w = λ ok. (sym f ∙ ok, w)

-- where memory was refused nothing is claimed
pub adds_failed : (ts : List Token) (a b : LineWriter) → b.failed ≡ true → Adds ts a b
unfolding Adds
adds_failed ts a b f = λ ok. absurd (let q : true ≡ false = sym f ∙ ok in cc)

-- another buffer for characters changes nothing
pub adds_from : (ts : List Token) (a b c : LineWriter) → b.failed ≡ a.failed → b.writer.tokens ≡ a.writer.tokens → Adds ts b c → Adds ts a c
unfolding Adds
adds_from ts a b c f w h = λ ok. let did = h ok in (sym f ∙ did.0, did.1 ∙ ap (λ (put : List Token). put ++ ts) w)
