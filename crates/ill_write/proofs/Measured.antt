-- The sizes of elements as they are measured.
use Rattle.std.proofs.Common.{◌≡◌, ℕ, ◌+◌, ◌≤◌, true, List, [], ◌∷◌, ◌++◌, length, Option, sym, ap, subst, ◌∙◌, arith, append_assoc, append-nil, set}
use Rattle.ber_tree.specs.declared.class.Class.{Class}
use Rattle.ber_core.specs.Der.{header_size, size, sizes}
use Rattle.ber_tree.specs.Identifier.{Tag}
use Rattle.ber_tree.specs.Tree.{Tree, Trees, primitive, constructed, none, more}
use Rattle.ber_leaf.specs.Leaf.{normal_content}
use Rattle.ber_leaf.specs.Profile.{profile_two}
use Rattle.ber_leaf.specs.Simple.{Simple}
use Rattle.ill_tables.specs.declared.node.NodeId.{NodeId}
use Rattle.ill_schema.specs.Content.{Content, simple}
use Rattle.ill_schema.specs.Elements.{tag_at, joined, element_tag, element_tree}
use Rattle.ill_tables.specs.Table.{kind_of}
use Rattle.ill_schema.proofs.Trees.{sizes-joined, simple_tree}
use Rattle.ill_write.specs.ContentSizes.{content_sizes, all_content_sizes}
use Rattle.ill_write.specs.code.Measured.{Measures, MeasuresOne}
use Rattle.ill_write.proofs.Joined.{content_sizes-joined, filled}

pub leaf_tree : (r : Option (Class × ℕ)) (node : NodeId) (c : Content) (v : Simple) (tag : Class × ℕ) → c ≡ simple v → tag_at tag ≡ element_tag r (kind_of node) c
    → element_tree r node c ≡ primitive (tag_at tag) (normal_content v)
leaf_tree r node c v tag e t =
    ap (λ x. element_tree r node x) e ∙ simple_tree r node v ∙ ap (λ x. primitive x (normal_content v)) (sym (t ∙ ap (λ x. element_tag r (kind_of node) x) e))

pub inside_small : (T : Tree) (tag : Tag) (ts : Trees) → T ≡ constructed tag ts → size T ≤ profile_two.limit → sizes ts ≤ profile_two.limit
inside_small T tag ts e le = let s = ap size e in omega (arith, s, le)

-- an element whose place was kept before its contents
pub closed : (T : Tree) (tag : Tag) (ts : Trees) (before after : List ℕ) (inside n : ℕ) → T ≡ constructed tag ts
    → Measures (before ++ 0 ∷ []) after inside ts → n ≡ header_size tag true inside + inside → MeasuresOne before (set after (length before) inside) n T
closed T tag ts before after inside n e m h =
    subst (λ z. MeasuresOne before (set after (length before) inside) n z) (sym e) (
      h ∙ ap (λ (x : ℕ). header_size tag true x + x) m.0,
      ap (λ z. set z (length before) inside) m.1 ∙ filled before (all_content_sizes ts) inside ∙ ap (λ (x : ℕ). before ++ (x ∷ all_content_sizes ts)) m.0,
    )

-- an element with no contents
pub closed_empty : (T : Tree) (tag : Tag) (before after : List ℕ) (n : ℕ) → T ≡ constructed tag none → after ≡ before ++ 0 ∷ [] → n ≡ header_size tag true 0 + 0
    → MeasuresOne before after n T
closed_empty T tag before after n e a h = subst (λ z. MeasuresOne before after n z) (sym e) (h, a)

-- the one element in a wrapper
pub only : (before after : List ℕ) (n : ℕ) (T : Tree) → MeasuresOne before after n T → Measures before after n (more T none)
only before after n T m = (omega (arith, m.0), m.1 ∙ ap (λ z. before ++ z) (sym (append-nil (content_sizes T))))

-- one step of a sum over trees
pub step_sum : (now after : List ℕ) (ts us ws : Trees) (sum n total : ℕ) → ws ≡ joined ts us → Measures now after n ts → sum + sizes ws ≡ total → sum + n + sizes us ≡ total
step_sum now after ts us ws sum n total e m s = let a = sizes-joined ts us in let b = ap sizes e in omega (arith, a, b, s, m.0)

pub step_pushed : (now after all : List ℕ) (ts us ws : Trees) (n : ℕ) → ws ≡ joined ts us → Measures now after n ts → now ++ all_content_sizes ws ≡ all
    → after ++ all_content_sizes us ≡ all
step_pushed now after all ts us ws n e m p =
    ap (λ z. z ++ all_content_sizes us) m.1 ∙ append_assoc now (all_content_sizes ts) (all_content_sizes us)
    ∙ ap (λ z. now ++ z) (sym (content_sizes-joined ts us)) ∙ ap (λ z. now ++ all_content_sizes z) (sym e) ∙ p

pub step_small : (ts us ws : Trees) (sum total : ℕ) → ws ≡ joined ts us → sum + sizes ws ≡ total → total ≤ profile_two.limit → sizes ts ≤ profile_two.limit
step_small ts us ws sum total e s le = let a = sizes-joined ts us in let b = ap sizes e in omega (arith, a, b, s, le)
