-- Places in a message: the elements that are open after some of its octets.
use Rattle.std.specs.Prelude.{◌≡◌, ◌⊎◌, ℕ, ◌+◌, ◌≤◌, Bool, true, false, List, [], ◌∷◌, ◌++◌, length, take, Option, Some, None, IsTrue, unwrap_or}
use Rattle.ber_tree.specs.Identifier.{Tag, identifier, HasIdentifier}
use Rattle.ber_tree.specs.Length.{IsLength}
use Rattle.ber_tree.specs.Tree.{Trees, depth_all, SpellsAll}
use Rattle.ill_tables.specs.declared.part.Presence.{Presence}
use Rattle.ber_leaf.specs.Leaf.{is_string}
use Rattle.ber_leaf.specs.Profile.{Profile}
use Rattle.ill_schema.specs.Apdu.{root}
use Rattle.ill_schema.specs.Tagging.{untagged}
use Rattle.ill_refusals.specs.Element.{Component, Element, leaf, segment, foreign, left_out}
use Rattle.ill_refusals.specs.Next.{Next, rows, Due, element_of, due, opening, next_after, AreWhole}

-- an open element: where it begins, where it ends if its length is definite, and the whole trees in it so far
pub record Open : Type 0 where
  pub element : Element
  pub tag : Tag
  pub start : ℕ
  pub end : Option ℕ
  pub trees : Trees

-- a message, which is due where no element is open
abbrev pub message : Profile → Component
message p = record { part = record { node = root p; row = 0 }; presence = Presence.Must; tagging = untagged; node = root p }

-- what may come next, the open elements being listed innermost first
abbrev pub next_in : Profile → List Open → Next
next_in p [] = rows (message p ∷ [])
next_in p (o ∷ path) = next_after p (opening p o.element) o.trees

-- the end of the innermost definite element
abbrev pub innermost_end : List Open → Option ℕ
innermost_end [] = None
innermost_end (o ∷ path) = elim o.end as (λ _. Option ℕ) [ Some e ↦ Some e | None ↦ innermost_end path ]

-- how far octets may reach
abbrev pub bound : Profile → List Open → ℕ
bound p path = unwrap_or (innermost_end path) p.limit

-- whether the element may have the form: an element of a foreign tree and a string both (8.7.1, 8.23), another leaf only primitive (8.2.1, 8.3.1, 8.4), all else only constructed (8.9.1, 8.10.1, 8.14.2)
abbrev pub allows : Element → Bool → Bool
allows (leaf l) true = is_string l
allows (leaf l) false = true
allows (segment tag) constructed = true
allows (foreign n) constructed = true
allows (left_out part) constructed = false
allows _ constructed = constructed

-- the octets of a constructed header (X.690, 8.1.2 and 8.1.3), and the end that they give
abbrev pub IsOpening : Open → List ℕ → Type 0
IsOpening o header = (octets : List ℕ) × HasIdentifier o.tag true × (header ≡ identifier o.tag true ++ octets)
    × (((o.end ≡ None) × (octets ≡ 128 ∷ [])) ⊎ ((n : ℕ) × IsLength n octets × (o.end ≡ Some (o.start + length header + n))))

-- the element was due in the path and has been read as far as its trees
pub record IsOpen (p : Profile) (path : List Open) (o : Open) (before header contents : List ℕ) : Type 0 where
  pub starts : o.start ≡ length before
  pub opens : IsOpening o header
  pub is_due : (d : Due) × (due p o.tag (next_in p path) ≡ Some d) × (element_of d ≡ o.element)
  pub allowed : IsTrue (allows o.element true)
  pub spelled : SpellsAll o.trees contents
  pub whole : AreWhole p (opening p o.element) o.trees
  pub shallow : length path + 1 + depth_all o.trees ≤ 32
  pub inside : bound p (o ∷ path) ≤ bound p path
  pub reached : length before + length header + length contents ≤ bound p (o ∷ path)

-- these octets lead to the place where these elements are open
abbrev pub IsPlace : Profile → List ℕ → List Open → Type 0
IsPlace p u [] = u ≡ []
IsPlace p u (o ∷ path) = (before : List ℕ) × (header : List ℕ) × (contents : List ℕ)
    × IsPlace p before path × IsOpen p path o before header contents × (u ≡ before ++ (header ++ contents))

-- an element or an end is due at offset k, where these elements are open
abbrev pub IsDue : Profile → List ℕ → ℕ → List Open → Type 0
IsDue p s k path = (k ≤ length s) × IsPlace p (take k s) path
