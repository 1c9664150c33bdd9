-- Streams of messages.
use Rattle.std.proofs.Common.{◌≡◌, ℕ, zero, suc, ◌≤◌, Bool, true, false, List, [], ◌∷◌, ◌++◌, length, take, drop, refl, sym, inl, inr, ap, subst, ◌∙◌, arith, take-append-drop, length-append}
use Rattle.ber_tree.specs.Identifier.{Tag, HasIdentifier, identifier}
use Rattle.ber_tree.specs.Tree.{Tree, primitive, constructed, Spells}
use Rattle.std.proofs.lemmas.List.{length-take-le}
use Rattle.ber_core.proofs.Identifiers.{IsEnd, identifier_no_end}
use Rattle.ber_tree.proofs.Lists.{fronts}
use Rattle.ill_schema.specs.Apdu.{Apdu, Encodes, SpellsApdu, Accepts, IsStream}
use Rattle.ber_leaf.specs.Profile.{Profile}
use Rattle.ill_schema.proofs.OneMeaning.{one_message}

pub tails : (a b x y : List ℕ) → a ≡ b → a ++ x ≡ b ++ y → x ≡ y
tails a b x y e h = (fronts a b x y (ap length e) h).1

-- a stream, and then a stream of what is left
pub stream_join : (p : Profile) (s r t : List ℕ) (xs ys : List Apdu) → IsStream p s xs r → IsStream p r ys t → IsStream p s (xs ++ ys) t
stream_join p s r t [] ys h k = subst (λ z. IsStream p z ys t) (sym h) k
stream_join p s r t (x ∷ xs) ys h k = (h.0, h.1, h.2, h.3, stream_join p h.1 r t xs ys h.4 k)

-- of two streams that the same octets are, the one with fewer messages begins the other
pub stream_fewer : (p : Profile) (s r t : List ℕ) (xs ys : List Apdu) → IsStream p s xs r → IsStream p s ys t → length xs ≤ length ys
    → (zs : List Apdu) × (ys ≡ xs ++ zs) × IsStream p r zs t
stream_fewer p s r t [] ys h k le = (ys, refl, subst (λ z. IsStream p z ys t) h k)
stream_fewer p s r t (x ∷ xs) [] h k le = absurd (omega arith)
stream_fewer p s r t (x ∷ xs) (y ∷ ys) h k le =
    let joined : h.0 ++ h.1 ≡ k.0 ++ k.1 = sym h.2 ∙ k.2 in
    let one = one_message p x y h.0 k.0 h.1 k.1 h.3.encodes k.3.encodes joined in
    let rest : h.1 ≡ k.1 = tails h.0 k.0 h.1 k.1 one.1 joined in
    let more = stream_fewer p h.1 r t xs ys h.4 (subst (λ z. IsStream p z ys t) (sym rest) k.4) (omega arith) in
    (more.0, subst (λ z. y ∷ ys ≡ z ∷ (xs ++ more.0)) (sym one.0) (ap (λ l. y ∷ l) more.1), more.2)

-- the octets of a front of the input, and what is left
pub accepts_parts : (p : Profile) (s : List ℕ) (a : Apdu) (n : ℕ) → Accepts p s a n → s ≡ take n s ++ drop n s
accepts_parts p s a n h = sym (take-append-drop n s)

pub take_front : (b t : List ℕ) → take (length b) (b ++ t) ≡ b
take_front [] t = refl
take_front (x ∷ b) t = ap (λ l. x ∷ l) (take_front b t)

pub drop_front : (b t : List ℕ) → drop (length b) (b ++ t) ≡ t
drop_front [] t = refl
drop_front (x ∷ b) t = drop_front b t

pub parts_accept : (p : Profile) (s : List ℕ) (a : Apdu) (b t : List ℕ) → s ≡ b ++ t → SpellsApdu p a b → Accepts p s a (length b)
parts_accept p s a b t e h =
    let le : length b ≤ length (b ++ t) = omega (arith, length-append b t) in
    (subst (λ z. length b ≤ length z) (sym e) le, subst (λ z. SpellsApdu p a (take (length b) z)) (sym e) (subst (λ z. SpellsApdu p a z) (sym (take_front b t)) h))

-- an input is accepted as one APDU, with one size
pub accepts_once : (p : Profile) (s : List ℕ) (a b : Apdu) (m n : ℕ) → Accepts p s a m → Accepts p s b n → (a ≡ b) × (m ≡ n)
accepts_once p s a b m n h k =
    let one = one_message p a b (take m s) (take n s) (drop m s) (drop n s) h.1.encodes k.1.encodes (take-append-drop m s ∙ sym (take-append-drop n s)) in
    (one.0, lengths m n s h.0 k.0 (ap length one.1))
  where
    lengths : (m n : ℕ) (s : List ℕ) → m ≤ length s → n ≤ length s → length (take m s) ≡ length (take n s) → m ≡ n
    lengths m n s h k e = omega (arith, length-take-le m s h, length-take-le n s k)

-- no spelling is empty
element_some : (tag : Tag) (form : Bool) (x : List ℕ) → HasIdentifier tag form → [] ≡ identifier tag form ++ x → ⊥
element_some tag form x h e = identifier_no_end tag form x h (subst IsEnd e tt)

tree_some : (T : Tree) → Spells T [] → ⊥
tree_some (primitive tag octets) h = element_some tag false _ h.has_identifier h.joined
tree_some (constructed tag ts) (contents, all, inl h) = element_some tag true _ h.has_identifier h.joined
tree_some (constructed tag ts) (contents, all, inr h) = element_some tag true _ h.has_identifier h.joined

pub spells_some : (p : Profile) (a : Apdu) (b : List ℕ) → Encodes p a b → b ≡ [] → ⊥
spells_some p a b h e = tree_some h.tree (subst (Spells h.tree) e h.spells)

take_none : (n : ℕ) (s : List ℕ) → s ≡ [] → take n s ≡ []
take_none zero s e = refl
take_none (suc n) [] e = refl
take_none (suc n) (x ∷ s) e = cc

pub accepts_some : (p : Profile) (s : List ℕ) (a : Apdu) (n : ℕ) → s ≡ [] → Accepts p s a n → ⊥
accepts_some p s a n e h = spells_some p a (take n s) h.1.encodes (take_none n s e)
