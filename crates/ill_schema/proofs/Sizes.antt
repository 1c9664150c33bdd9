-- The sizes of elements, from those of their parts.
use Rattle.std.proofs.Common.{◌≡◌, ℕ, ◌+◌, ◌<◌, ◌≤◌, ◌^◌, Bool, true, false, length, Option, refl, sym, ap, subst, ◌∙◌, arith}
use Rattle.ber_tree.specs.declared.class.Class.{Class}
use Rattle.ber_core.specs.Der.{encoding, header_size, size, sizes}
use Rattle.ber_tree.specs.Identifier.{Tag, identifier}
use Rattle.ber_tree.specs.Length.{short_length, shortest_length}
use Rattle.ber_tree.specs.Tree.{Tree, Trees, primitive, constructed}
use Rattle.ber_core.proofs.Encodings.{length-encoding}
use Rattle.ber_core.proofs.Shortest.{short_length_is}
use Rattle.ber_leaf.specs.Leaf.{normal_content}
use Rattle.ber_leaf.specs.Profile.{profile_two}
use Rattle.ber_leaf.specs.Simple.{Simple}
use Rattle.ill_tables.specs.declared.node.Kind.{Kind}
use Rattle.ill_tables.specs.declared.node.NodeId.{NodeId}
use Rattle.ill_tables.specs.declared.node.NodeId.TheVariants.{Boolean}
use Rattle.ill_schema.specs.Content.{Content, simple}
use Rattle.ill_schema.specs.Elements.{joined, element_tag, element_tree}
use Rattle.ill_schema.specs.Sizes.{apdu_row_of, node_tree, node_form, IsSizeWithin, IsElementSize}
use Rattle.ill_tables.specs.Table.{kind_of}
use Rattle.ill_schema.proofs.Trees.{sizes-joined, simple_tree}

short_is : (n : ℕ) → n ≤ profile_two.limit → length (short_length n) ≡ length (shortest_length n)
short_is n le = ap length (short_length_is n (below n le))
  where
    below : (n : ℕ) → n ≤ 1_048_576 → n < 2 ^ 32
    below n le = omega arith

-- identifier, length and contents
pub element_sized : (replaced : Option (Class × ℕ)) (n : ℕ) (result : Option ℕ) (i l : ℕ) → n ≤ profile_two.limit
    → ((kind : Kind) (c : Content) (form : Bool) → length (identifier (element_tag replaced kind c) form) ≡ i) → l ≡ length (short_length n)
    → IsSizeWithin result (i + l + n) → IsElementSize replaced n result
element_sized replaced n result i l le is short within kind c form =
    let tag = element_tag replaced kind c in
    let e : i + l + n ≡ header_size tag form n + n = omega (arith, is kind c form, short, short_is n le) in
    subst (λ (m : ℕ). IsSizeWithin result m) e within

pub leaf_sized : (replaced : Option (Class × ℕ)) (node : NodeId) (c : Content) (v : Simple) (n : ℕ) (result : Option ℕ) → c ≡ simple v
    → n ≡ length (normal_content v) → IsElementSize replaced n result → IsSizeWithin result (size (element_tree replaced node c))
leaf_sized replaced node c v n result e f sized =
    let tag = element_tag replaced (kind_of node) (simple v) in
    let T : element_tree replaced node c ≡ primitive tag (normal_content v) = ap (λ x. element_tree replaced node x) e ∙ simple_tree replaced node v in
    subst (λ U. IsSizeWithin result (size U)) (sym T) (subst (λ (m : ℕ). IsSizeWithin result (header_size tag false m + m)) f (sized (kind_of node) (simple v) false))

-- an element whose contents are elements
pub inside_sized : (T : Tree) (replaced : Option (Class × ℕ)) (kind : Kind) (c : Content) (ts : Trees) (n : ℕ) (result : Option ℕ)
    → T ≡ constructed (element_tag replaced kind c) ts → n ≡ sizes ts → IsElementSize replaced n result → IsSizeWithin result (size T)
inside_sized T replaced kind c ts n result e f sized =
    subst (λ U. IsSizeWithin result (size U)) (sym e) (subst (λ (m : ℕ). IsSizeWithin result (header_size (element_tag replaced kind c) true m + m)) f (sized kind c true))

pub inside_passes : (T : Tree) (tag : Tag) (ts : Trees) → T ≡ constructed tag ts → profile_two.limit < sizes ts → profile_two.limit < size T
inside_passes T tag ts e h = let s = ap size e in omega (arith, s, h)

-- one step of a sum over trees
pub step_sum : (ts us ws : Trees) (sum n total : ℕ) → ws ≡ joined ts us → n ≡ sizes ts → sum + sizes ws ≡ total → sum + n + sizes us ≡ total
step_sum ts us ws sum n total e is so_far = let a = sizes-joined ts us in let b = ap sizes e in omega (arith, a, b, so_far, is)

pub part_passes : (ts us ws : Trees) (sum total : ℕ) → ws ≡ joined ts us → sum + sizes ws ≡ total → profile_two.limit < sizes ts → profile_two.limit < total
part_passes ts us ws sum total e so_far h = let a = sizes-joined ts us in let b = ap sizes e in omega (arith, a, b, so_far, h)

pub sum_passes : (ts us ws : Trees) (sum n total : ℕ) → ws ≡ joined ts us → n ≡ sizes ts → sum + sizes ws ≡ total → profile_two.limit < sum + n → profile_two.limit < total
sum_passes ts us ws sum n total e is so_far h = let f = step_sum ts us ws sum n total e is so_far in omega (arith, f, h)

form_tree : (node : NodeId) (c : Content) → node_form c node ≡ encoding (node_tree (apdu_row_of node) node c)
form_tree Boolean c = refl
form_tree _ c = refl

pub length-node_form : (node : NodeId) (c : Content) → length (node_form c node) ≡ size (node_tree (apdu_row_of node) node c)
length-node_form node c = ap length (form_tree node c) ∙ length-encoding (node_tree (apdu_row_of node) node c)
