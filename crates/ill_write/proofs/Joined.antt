-- Encodings and content sizes of trees that are joined.
use Rattle.std.proofs.Common.{◌≡◌, ℕ, List, [], ◌∷◌, ◌++◌, length, refl, sym, ap, ◌∙◌, append_assoc, set}
use Rattle.ber_core.specs.Der.{encoding, encodings}
use Rattle.ber_tree.specs.Tree.{Trees, none, more}
use Rattle.ill_schema.specs.Elements.{joined}
use Rattle.ill_write.specs.ContentSizes.{content_sizes, all_content_sizes}

pub encodings-joined : (ts us : Trees) → encodings (joined ts us) ≡ encodings ts ++ encodings us
encodings-joined none us = refl
encodings-joined (more T ts) us = ap (λ z. encoding T ++ z) (encodings-joined ts us) ∙ sym (append_assoc (encoding T) (encodings ts) (encodings us))

pub content_sizes-joined : (ts us : Trees) → all_content_sizes (joined ts us) ≡ all_content_sizes ts ++ all_content_sizes us
content_sizes-joined none us = refl
content_sizes-joined (more T ts) us = ap (λ z. content_sizes T ++ z) (content_sizes-joined ts us) ∙ sym (append_assoc (content_sizes T) (all_content_sizes ts) (all_content_sizes us))

-- a size that is filled in where its place was kept
pub filled : (before after : List ℕ) (n : ℕ) → set ((before ++ (0 ∷ [])) ++ after) (length before) n ≡ before ++ (n ∷ after)
filled [] after n = refl
filled (x ∷ before) after n = ap (λ z. x ∷ z) (filled before after n)
