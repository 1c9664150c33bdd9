-- Steps in usual messages: a loose wrapper keeps its SEQUENCE, and a string lies in its tag.
use Rattle.std.proofs.Common.{◌≡◌, false, None, refl, sym, subst}
use Rattle.ill_tables.specs.declared.node.NodeId.{NodeId}
use Rattle.ill_schema.specs.Tagging.{leaf_tag}
use Rattle.ill_grammar.specs.Due.{IsDueIn, behind, due_with, first_of}
use Rattle.ill_grammar.specs.LeafTypes.{leaf_is}
use Rattle.ill_grammar.specs.code.Spots.{IsInSequence, is_bare}
use Rattle.ill_grammar.specs.declared.due.Next.{Next}
use Rattle.ill_grammar.specs.declared.due.Next.TheVariants.{Inner, Either, Nothing}
use Rattle.ill_grammar.specs.declared.due.Slot.{Slot}
use Rattle.ill_grammar.specs.declared.due.Slot.TheVariants.{Row as AtRow, Inner as Inside}
use Rattle.ill_grammar.specs.declared.element.Element.{Element as CodeElement}
use Rattle.ill_grammar.specs.declared.element.Element.TheVariants.{Leaf, LooseWrapper, Wrapper}
use Rattle.ill_grammar.specs.declared.element.Wrapped.{Wrapped}
use Rattle.ill_grammar.specs.declared.leaf_type.LeafType.TheVariants.{General, Visible}

-- where it opens
pub sequence_first : (e : CodeElement) → IsInSequence e (first_of e)
sequence_first (LooseWrapper w) = tt
sequence_first _ = tt

-- after an element more
pub sequence_kept : (e : CodeElement) (n : Next) (slot : Slot) → IsInSequence e n → is_bare n slot ≡ false → IsInSequence e (behind n slot)
sequence_kept (LooseWrapper w) (Either v) (AtRow r) h b = absurd cc
sequence_kept (LooseWrapper w) (Either v) _ h b = tt
sequence_kept (LooseWrapper w) Nothing slot h b = tt
sequence_kept (LooseWrapper w) _ slot h b = absurd h
sequence_kept _ n slot h b = tt

-- what comes in the tag of an ILL-String
pub string_first : (w : Wrapped) → w.node ≡ NodeId.IllString → first_of (Wrapper w) ≡ Inner w
string_first w h = subst (λ node. first_of (Wrapper (record { part = w.part; node = node })) ≡ Inner (record { part = w.part; node = node })) (sym h) refl

-- a GeneralString and a VisibleString are due there
pub general_due : (w : Wrapped) → w.node ≡ NodeId.IllString → IsDueIn (leaf_tag (leaf_is General)) (Inner w) (due_with Inside None (Leaf General))
general_due w h = subst (λ node. IsDueIn (leaf_tag (leaf_is General)) (Inner (record { part = w.part; node = node })) (due_with Inside None (Leaf General))) (sym h)
    (record { slot = refl; begun = record { is = refl; begins = refl } })

pub visible_due : (w : Wrapped) → w.node ≡ NodeId.IllString → IsDueIn (leaf_tag (leaf_is Visible)) (Inner w) (due_with Inside None (Leaf Visible))
visible_due w h = subst (λ node. IsDueIn (leaf_tag (leaf_is Visible)) (Inner (record { part = w.part; node = node })) (due_with Inside None (Leaf Visible))) (sym h)
    (record { slot = refl; begun = record { is = refl; begins = refl } })
