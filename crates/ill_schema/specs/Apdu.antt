-- APDUs of ISO 10161-1 (the type ILL-APDU of its module), their encodings, their normal forms and streams of them.
use Rattle.std.specs.Prelude.{◌≡◌, ℕ, ◌-◌, ◌≤◌, Bool, true, false, List, [], ◌∷◌, ◌++◌, length, take}
use Rattle.ber_tree.specs.Tree.{Tree, depth, Spells}
use Rattle.ill_tables.specs.declared.node.NodeId.{NodeId}
use Rattle.ill_tables.specs.declared.node.NodeId.TheVariants.{IllApdu, ModuleIllApdu}
use Rattle.ill_schema.specs.Content.{Content, alternative}
use Rattle.ber_leaf.specs.Profile.{Profile, profile_two}
use Rattle.ill_schema.specs.{Tagging.untagged, Meaning.Means, Normal.normal_tree}
use Rattle.ber_core.specs.Der.{encoding}

-- an alternative of ILL-APDU, by its number, and its value
pub record Apdu : Type 0 where
  pub number : ℕ
  pub body : Content

-- the value of type ILL-APDU: its rows are numbered from 0, its alternatives from 1
abbrev pub choice_of : Apdu → Content
choice_of a = alternative (a.number - 1) a.body

abbrev pub root_of : Bool → NodeId
root_of false = IllApdu
root_of true = ModuleIllApdu

-- the type of a message: ILL-APDU, with all rows of the module where the profile has them
abbrev pub root : Profile → NodeId
root p = root_of p.full

-- the tree means the APDU
abbrev pub MeansApdu : Profile → Apdu → Tree → Type 0
MeansApdu p a T = (1 ≤ a.number) × Means p (choice_of a) (root p) untagged T

-- the octets are an encoding of the APDU (X.690, 8) with at most 32 open elements and within the profile's limit, whatever the size of its normal form
pub record Encodes (p : Profile) (a : Apdu) (b : List ℕ) : Type 0 where
  pub tree : Tree
  pub means : MeansApdu p a tree
  pub spells : Spells tree b
  pub shallow : depth tree ≤ 32
  pub short : length b ≤ p.limit

-- the normal form: the octets of the APDU in DER (X.690, 10 and 11)
abbrev pub normal_form_in : Profile → Apdu → List ℕ
normal_form_in p a = encoding (normal_tree (choice_of a) (root p) untagged)

-- the normal form in profile 2
abbrev pub normal_form : Apdu → List ℕ
normal_form a = normal_form_in profile_two a

-- the octets are a spelling of the APDU: an encoding whose normal form is within the limit, too
pub record SpellsApdu (p : Profile) (a : Apdu) (b : List ℕ) : Type 0 where
  pub encodes : Encodes p a b
  pub normal_short : length (normal_form_in p a) ≤ p.limit

-- the first n octets of s are a spelling of the APDU
abbrev pub Accepts : Profile → List ℕ → Apdu → ℕ → Type 0
Accepts p s a n = (n ≤ length s) × SpellsApdu p a (take n s)

-- s is one spelling of each of the APDUs, one after another, and then the rest
abbrev pub IsStream : Profile → List ℕ → List Apdu → List ℕ → Type 0
IsStream p s [] rest = s ≡ rest
IsStream p s (a ∷ as') rest = (b : List ℕ) × (t : List ℕ) × (s ≡ b ++ t) × SpellsApdu p a b × IsStream p t as' rest
