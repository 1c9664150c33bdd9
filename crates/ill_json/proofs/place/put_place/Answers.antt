use Rattle.std.proofs.Common.{ap, codes, List, String, Global, map, string_bytes}
use Rattle.ill_json.specs.code.Adding.{list_tokens, words_tokens}
use Rattle.ill_json.proofs.Added.{adds_as, adds_then}
use Rattle.ill_json.proofs.place.put_place.Goals as goal

pub returns : goal.returns
returns c =
    adds_then _ _ _ _ _ (adds_as _ _ _ _ (ap (words_tokens (codes "path")) c.deref.ensures) c.put_words.ensures)
    (adds_then _ _ _ _ _ (adds_as _ _ _ _ (ap (words_tokens (codes "found")) c.deref-2.ensures) c.put_words-2.ensures)
    (adds_as _ _ _ _ (ap (λ (texts : List (String Global)). list_tokens (codes "due") (map string_bytes texts)) c.deref-3.ensures.value) c.put_list.ensures))
