use Rattle.std.proofs.Common.{◌≡◌, ◌<◌, ℕ, Bool, true, length, refl, sym, ap, subst, arith, IsTrue, IfSome, MatchOption, Option, Some, None}
use Rattle.ber_core.specs.Id.{form_of_id, tag_of_id}
use Rattle.ber_leaf.specs.Profile.{profile_two}
use Rattle.ill_tables.specs.Table.{kind_of}
use Rattle.ill_tables.specs.declared.node.Kind.{Kind}
use Rattle.ill_schema.proofs.Tags.{two_not_any}
use Rattle.ill_refusals.specs.Next.{due}
use Rattle.ill_refusals.specs.Place.{allows}
use Rattle.ill_grammar.specs.Begun as begun
use Rattle.ill_grammar.specs.Cells.{levels_in}
use Rattle.ill_grammar.specs.Due.{element_as, found_as, read_as}
use Rattle.ill_grammar.specs.Elements.{element_is}
use Rattle.ill_grammar.specs.Places.{IsDueWithTag, next_at, node_at, node_of, part_in, part_of, type_of}
use Rattle.ill_grammar.specs.Two.{is_found_of}
use Rattle.ill_grammar.specs.code.ByTag.{due_by_tag}
use Rattle.ill_grammar.specs.code.Judging.{IsBegin, IsFormed, WhereItStands}
use Rattle.ill_grammar.specs.declared.cell.ElementType.{ElementType}
use Rattle.ill_grammar.specs.declared.element.Element.TheVariants.{Foreign}
use Rattle.ill_grammar.specs.declared.place.Found.{Found}
use Rattle.ill_grammar.proofs.DueCells.{is-coming}
use Rattle.ill_grammar.proofs.Judgements.{formed_judged}
use Rattle.ill_grammar.proofs.OpenFrames.{found_of, frames_open}
use Rattle.ill_grammar.proofs.Scanning.{any-by-tag}
use Rattle.ill_grammar.proofs.frames.Frames.find_foreign.Goals as goal

foreign_formed : (f : Found) (constructed : Bool) → type_of f ≡ ElementType.Foreign → IsFormed f constructed None
foreign_formed f constructed is = (
  subst (λ w. found_as (part_of f) (node_of f) w ≡ begun.Element (element_as (part_of f) (node_of f) w)) (sym is) refl,
  subst (λ w. allows (element_is (element_as (part_of f) (node_of f) w)) constructed ≡ true) (sym is) refl,
)

pub returns-clause-begun : goal.returns-clause-begun
returns-clause-begun c id = go c.find_any.result (c.find_any.ensures.due (tag_of_id id)) c.find_any.ensures.open c.find_any.ensures.foreign
  where
    go : (o : Option Found) → (due_by_tag (tag_of_id id) (next_at c.place.result) ≡ None → MatchOption o (due profile_two (tag_of_id id) (next_at c.place.result) ≡ None) (λ f. IsDueWithTag (tag_of_id id) c.place.result f))
        → IfSome o (λ _. kind_of (node_at c.place.result) ≡ Kind.Any) → IfSome o (λ f. type_of f ≡ ElementType.Foreign)
        → IfSome o (λ f. WhereItStands c.args.self.now (λ place. IsBegin c.args.self.now place (tag_of_id id) f (form_of_id id)))
    go None is_due any is = tt
    go (Some f) is_due any is = λ place h.
        let here = is_due (any-by-tag (tag_of_id id) (part_in c.place.result) (node_at c.place.result) c.place.result.position any) in
        let shallow : length place < 32 = omega (arith, c.depth.ensures, frames_open c.args.self.now.profile place _ _ h.1, c.args.self.now.few, c.if-depth-eq-MAX_DEPTH.false) in
        formed_judged c.args.self.now place c.place.result id f h shallow c.place.ensures.shape (is-coming (tag_of_id id) c.place.result f here) (foreign_formed f (form_of_id id) is)

pub returns-clause-foreign : goal.returns-clause-foreign
returns-clause-foreign c = go c.find_any.result c.find_any.ensures.foreign
  where
    go : (o : Option Found) → IfSome o (λ f. type_of f ≡ ElementType.Foreign) → IfSome o (λ f. (levels : ℕ) × (read_as f ≡ Foreign levels))
    go None is = tt
    go (Some f) is = (levels_in (part_of f), ap (element_as (part_of f) (node_of f)) is)

pub returns-clause-is_of : goal.returns-clause-is_of
returns-clause-is_of c = go c.find_any.result c.find_any.ensures.open
  where
    go : (o : Option Found) → IfSome o (λ _. kind_of (node_at c.place.result) ≡ Kind.Any) → IfSome o (λ f. IsTrue (is_found_of c.args.self.now.profile f))
    go None any = tt
    go (Some f) any = found_of c.args.self.now.profile c.place.result f c.place.ensures.is_of (λ two. absurd (two_not_any (node_at c.place.result) two any))
