-- The DER encoding of a tree spells it, and has the size that is said of it.
use Rattle.std.proofs.Common.{◌≡◌, ℕ, ◌+◌, ◌<◌, ◌^◌, true, false, List, ◌++◌, length, refl, ap, ◌∙◌, inl, arith, length-append}
use Rattle.ber_tree.specs.Identifier.{identifier}
use Rattle.ber_tree.specs.Length.{IsLength, shortest_length}
use Rattle.ber_tree.specs.Tree.{Tree, Trees, primitive, constructed, none, more, Spells, SpellsAll}
use Rattle.ber_core.specs.Der.{encoding, encodings, size, sizes, HasIdentifiers, HaveIdentifiers}
use Rattle.ber_core.proofs.Shortest.{shortest_is}

pub three_parts : (a b c : List ℕ) → length (a ++ (b ++ c)) ≡ length a + length b + length c
three_parts a b c = omega (arith, length-append a (b ++ c), length-append b c)

mutual
  pub length-encoding : (T : Tree) → length (encoding T) ≡ size T
  length-encoding (primitive tag octets) = three_parts (identifier tag false) (shortest_length (length octets)) octets
  length-encoding (constructed tag trees) =
      three_parts (identifier tag true) (shortest_length (length (encodings trees))) (encodings trees)
      ∙ ap (λ (n : ℕ). length (identifier tag true) + length (shortest_length n) + n) (length-encodings trees)

  pub length-encodings : (ts : Trees) → length (encodings ts) ≡ sizes ts
  length-encodings none = refl
  length-encodings (more T ts) = let a = length-encoding T in let b = length-encodings ts in omega (arith, length-append (encoding T) (encodings ts))

parts_shorter : (a b c : List ℕ) (n : ℕ) → length (a ++ (b ++ c)) < n → length c < n
parts_shorter a b c n h = omega (arith, length-append a (b ++ c), length-append b c)

-- The bound n is a variable, since 256 ^ 126 in the goals is slow.
mutual
  spells_below : (n : ℕ) → ((m : ℕ) → m < n → IsLength m (shortest_length m)) → (T : Tree) → HasIdentifiers T → length (encoding T) < n → Spells T (encoding T)
  spells_below n short (primitive tag octets) v h = record {
    has_identifier = v;
    octets = shortest_length (length octets);
    spell_length = short (length octets) (parts_shorter (identifier tag false) (shortest_length (length octets)) octets n h);
    joined = refl;
  }
  spells_below n short (constructed tag trees) v h =
      let le = parts_shorter (identifier tag true) (shortest_length (length (encodings trees))) (encodings trees) n h in (
        encodings trees,
        spell_below n short trees v.1 le,
        inl (record {
          has_identifier = v.0;
          octets = shortest_length (length (encodings trees));
          spell_length = short (length (encodings trees)) le;
          joined = refl;
        }),
      )

  spell_below : (n : ℕ) → ((m : ℕ) → m < n → IsLength m (shortest_length m)) → (ts : Trees) → HaveIdentifiers ts → length (encodings ts) < n → SpellsAll ts (encodings ts)
  spell_below n short none v h = refl
  spell_below n short (more T ts) v h = (
    encoding T,
    encodings ts,
    spells_below n short T v.0 (omega (arith, length-append (encoding T) (encodings ts))),
    spell_below n short ts v.1 (omega (arith, length-append (encoding T) (encodings ts))),
    refl,
  )

pub encoding_spells : (T : Tree) → HasIdentifiers T → length (encoding T) < 256 ^ 126 → Spells T (encoding T)
encoding_spells = spells_below (256 ^ 126) shortest_is
