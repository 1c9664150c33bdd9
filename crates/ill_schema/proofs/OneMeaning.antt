-- A tree means at most one APDU, and octets begin with at most one spelling.
use Rattle.std.proofs.Common.{◌≡◌, ℕ, ◌-◌, List, [], ◌∷◌, ◌++◌, append-nil, refl, sym, ap₂, subst, arith}
use Rattle.ber_tree.specs.Tree.{Tree}
use Rattle.ber_core.proofs.Trees.{one_reading}
use Rattle.ill_schema.specs.Content.{Content, alternative}
use Rattle.ber_leaf.specs.Profile.{Profile}
use Rattle.ill_schema.specs.Tagging.{untagged}
use Rattle.ill_schema.specs.Apdu.{Apdu, choice_of, root, MeansApdu, Encodes, SpellsApdu}
use Rattle.ill_schema.proofs.Tags.{root_untagged}
use Rattle.ill_schema.proofs.Unique.{means_unique}

same_apdu : (a b : Apdu) → a.number ≡ b.number → a.body ≡ b.body → a ≡ b
same_apdu a b e f = ap₂ (λ (n : ℕ) (c : Content). let x : Apdu = record { number = n; body = c } in x) e f

-- a tree means at most one APDU
pub apdu_unique : (p : Profile) (a b : Apdu) (T : Tree) → MeansApdu p a T → MeansApdu p b T → a ≡ b
apdu_unique p a b T h k =
    let e : alternative (a.number - 1) a.body ≡ alternative (b.number - 1) b.body = means_unique p (choice_of a) (choice_of b) (root p) untagged T (root_untagged p.full) h.1 k.1 in
    let n : a.number - 1 ≡ b.number - 1 = cc in
    let c : a.body ≡ b.body = cc in
    same_apdu a b (omega (arith, h.0, k.0)) c

-- octets begin with at most one spelling, of one APDU
pub one_message : (p : Profile) (a b : Apdu) (c d x y : List ℕ) → Encodes p a c → Encodes p b d → c ++ x ≡ d ++ y → (a ≡ b) × (c ≡ d)
one_message p a b c d x y h k e =
    let u = one_reading h.tree k.tree c d x y h.spells k.spells e in
    (apdu_unique p a b h.tree h.means (subst (λ T. MeansApdu p b T) (sym u.0) k.means), u.1)

pub one_apdu : (p : Profile) (a b : Apdu) (c : List ℕ) → SpellsApdu p a c → SpellsApdu p b c → a ≡ b
one_apdu p a b c h k = (one_message p a b c c [] [] h.encodes k.encodes refl).0

nothing_more : (c x : List ℕ) → c ≡ c ++ x → x ≡ []
nothing_more [] x e = sym e
nothing_more (o ∷ c) x e = nothing_more c x (let f : c ≡ c ++ x = cc in f)

-- no spelling is a proper prefix of another
pub no_prefix : (p : Profile) (a b : Apdu) (c x : List ℕ) → SpellsApdu p a c → SpellsApdu p b (c ++ x) → x ≡ []
no_prefix p a b c x h k = nothing_more c x ((one_message p a b c (c ++ x) x [] h.encodes k.encodes (sym (append-nil (c ++ x)))).1)
