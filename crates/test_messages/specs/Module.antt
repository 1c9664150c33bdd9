-- Messages of the module profile, foreign trees, and BIT STRINGs in segments.
use Rattle.std.specs.Prelude.{◌≡◌, ℕ, zero, suc, false, List, [], ◌∷◌, codes, Option}
use Rattle.ber_tree.specs.Tree.{Tree, Trees, primitive, constructed, none, more}
use Rattle.ber_leaf.specs.declared.fault.LeafFault.{LeafFault}
use Rattle.ber_leaf.specs.Leaf.{bit_string, content_fault, value}
use Rattle.ber_leaf.specs.Profile.{profile_three}
use Rattle.ber_leaf.specs.Segments.{leaf_content}
use Rattle.ber_leaf.specs.Simple.{Simple, flag, date, general, null, oid, binary, bits}
use Rattle.ill_schema.specs.Apdu.{Apdu, normal_form_in, SpellsApdu}
use Rattle.ill_schema.specs.Content.{Content, simple, sequence, list, alternative, foreign, Entries, no_entries, absent, present, no_items, item}
use Rattle.ill_schema.specs.Tagging.{sequence_tag, universal}
use Rattle.ill_schema.specs.Worked.{absents, answer, head_entries, number}

-- a NULL, in this number of SEQUENCEs
abbrev pub nested : ℕ → Tree
nested zero = primitive (universal 5) []
nested (suc n) = constructed sequence_tag (more (nested n) none)

abbrev pub with_head : ℕ → Entries → Apdu
with_head n es = record { number = n; body = sequence (head_entries es) }

abbrev pub only : Content → Content
only c = list (item c no_items)

abbrev pub day : Content
day = simple (date (codes "20240229"))

-- an EXPIRED with an extension: the tree is its item
abbrev pub extended : Tree → Apdu
extended T = with_head 20 (present (only (sequence (present (number 1) (present (simple (flag false)) (present (foreign T) no_entries))))) no_entries)

-- a RETURNED with an EXTERNAL
abbrev pub returned : Entries → Apdu
returned es = with_head 10 (present (only (alternative 0 (sequence es))) (present day (absents 4 no_entries)))

-- 1.2.840.10003.5.10
abbrev pub identifier : Content
identifier = simple (oid (0x2A ∷ 0x86 ∷ 0x48 ∷ 0xCE ∷ 0x13 ∷ 0x05 ∷ 0x0A ∷ []))

abbrev pub octet_aligned : Entries
octet_aligned = present identifier (absents 2 (present (alternative 1 (simple (binary (codes "X12345")))) no_entries))

abbrev pub arbitrary : Entries
arbitrary = absent (present (number 5) (absent (present (alternative 2 (simple (bits 5 (0xF8 ∷ [])))) no_entries)))

-- a DAMAGED of a whole document
abbrev pub damaged : Apdu
damaged = with_head 16 (present (sequence (absent (present (alternative 0 (simple null)) no_entries))) (absents 2 no_entries))

-- to be supplied, for reason 26, on a day, and to be returned to city "C"
abbrev pub supplied : Apdu
supplied = answer 5 (alternative 4 (sequence (present (number 26) (present day (present address (absents 2 no_entries))))))
  where
    address : Content
    address = sequence (absents 4 (present (simple (general (codes "C"))) (absents 3 no_entries)))

-- a conditional answer with a proposed electronic delivery, whose parameters have the greatest number of levels
abbrev pub proposed : Apdu
proposed = answer 1 (alternative 0 (sequence (present (number 30) (absents 2 (present delivery no_entries)))))
  where
    service : Content
    service = sequence (present (simple (oid (0x2A ∷ []))) (present (foreign (nested 19)) no_entries))

    details : Content
    details = alternative 0 (sequence (absents 2 no_entries))

    delivery : Content
    delivery = alternative 1 (only (sequence (present service (absents 2 (present details (absents 2 no_entries))))))

-- the octets spell the APDU in the module profile, and are its normal form there
abbrev pub IsModuleForm : Apdu → List ℕ → Type 0
IsModuleForm a octets = SpellsApdu profile_three a octets × (normal_form_in profile_three a ≡ octets)

-- a segment of a BIT STRING, and one that is itself in segments
abbrev pub part : List ℕ → Tree
part octets = primitive (universal 3) octets

abbrev pub parts : Trees → Tree
parts trees = constructed (universal 3) trees

-- the bits of a BIT STRING, or why it has none
abbrev pub joined : Tree → Simple
joined T = value bit_string (leaf_content bit_string T)

abbrev pub joined_fault : Tree → Option LeafFault
joined_fault T = content_fault profile_three bit_string (leaf_content bit_string T)

-- eight bits and four
abbrev pub twelve_bits : Tree
twelve_bits = parts (more (part (0x00 ∷ 0xA5 ∷ [])) (more (part (0x04 ∷ 0xF7 ∷ [])) none))

-- none and eight, then no segments, then one bit
abbrev pub nine_bits : Tree
nine_bits = parts (more (parts (more (part (0x00 ∷ [])) (more (part (0x00 ∷ 0xA5 ∷ [])) none))) (more (parts none) (more (part (0x07 ∷ 0xFF ∷ [])) none)))

-- four bits and eight
abbrev pub short_first : Tree
short_first = parts (more (part (0x04 ∷ 0xF0 ∷ [])) (more (part (0x00 ∷ 0xA5 ∷ [])) none))

-- four bits in a segment of their own, and no segments
abbrev pub short_inside : Tree
short_inside = parts (more (parts (more (part (0x04 ∷ 0xF0 ∷ [])) none)) (more (parts none) none))
