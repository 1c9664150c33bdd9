use Rattle.std.proofs.Common.{◌≡◌, arith, ◌-◌, ◌++◌, [], ◌∷◌, Option, Some, take, drop, map, min, sym, ap, subst, append-nil, ◌∙◌, Global}
use Rattle.std.specs.Iterator.{Yields}
use Rattle.std.proofs.Math.ListN.{drop_of_length-le}
use Rattle.std.proofs.Math.Seq.{take-length}
use Rattle.std.proofs.lemmas.List.{length-drop}
use Rattle.std.specs.Vec.Iter.{drain_items, drain_kept, drain_lender, drain_steps}
use Rattle.std.specs.declared.vec.Drain.{Drain}
use Rattle.ill_schema.specs.declared.value.Value.{Value}
use Rattle.ill_schema.specs.Value.{items_content}
use Rattle.ill_schema.specs.Content.{list}
use Rattle.ill_schema.proofs.Contents.{content_of-List}
use Rattle.ill_read.proofs.HeldEntries.{somes, somes-some, somes-none, somes-all, drained_all, split_held}
use Rattle.ill_read.proofs.open_values.OpenValues.list.Goals as goal

pub loop-held-preserved : goal.loop-held-preserved
loop-held-preserved c =
    c.in_ok-push.ensures.items ∙ ap (λ xs. xs ++ c.in-Some-held.item ∷ []) c.loop-held.invariant ∙ sym (somes-some c.loop-held.yielded c.in-Some-held.item)
    ∙ ap (λ x. somes (c.loop-held.yielded ++ x ∷ [])) (sym c.in-Some-held.is)

pub loop-held-preserved-in_default : goal.loop-held-preserved-in_default
loop-held-preserved-in_default c = c.loop-held.invariant ∙ sym (somes-none c.loop-held.yielded) ∙ ap (λ x. somes (c.loop-held.yielded ++ x ∷ [])) (sym c.in_default.is)

pub returns : goal.returns
returns c below items e n =
    let parts = split_held below (map Some items) c.args.self.now.entries.items c.args.contents_start c.min-contents_start.result e n (c.min-contents_start.ensures ∙ ap (min c.args.contents_start) c.len.ensures) in
    let all = drained_all c.into_iter-held-iterator.result c.loop-held.yielded c.loop-held.held-iterator c.loop-held.yielded_by c.in-None.ensures.steps.0 in
    let kept = c.drop-held-iterator-2.ensures.items in
    let stays = c.drain-held-items.ensures.stays in
    let given = c.into_iter-held-iterator.ensures.into_iter_gives in
    let run = subst (λ (d : Drain (Option Value) Global). Yields drain_steps d c.loop-held.yielded c.loop-held.held-iterator) given c.loop-held.yielded_by in
    let keeps = stays c.loop-held.yielded c.loop-held.held-iterator run in
    let lent = sym (ap drain_lender c.in-None.ensures.steps.1 ∙ keeps.0 ∙ c.drain-held-items.ensures.same_reference) in
    let none : drop c.args.self.now.entries.len c.args.self.now.entries.items ≡ [] = drop_of_length-le c.args.self.now.entries.items (omega (arith, c.args.self.now.entries.ok.0)) in
    let left = kept ∙ ap drain_kept c.in-None.ensures.steps.1 ∙ keeps.1 ∙ c.drain-held-items.ensures.kept ∙ ap (λ xs. take c.min-contents_start.result c.args.self.now.entries.items ++ xs) none
    ∙ append-nil (take c.min-contents_start.result c.args.self.now.entries.items) ∙ parts.0 in
    let taken = all ∙ ap drain_items given ∙ c.drain-held-items.ensures.rest in
    let tail : c.loop-held.yielded ≡ drop c.min-contents_start.result c.args.self.now.entries.items = taken
    ∙ ap (λ k. take k (drop c.min-contents_start.result c.args.self.now.entries.items)) (ap (λ k. k - c.min-contents_start.result) c.args.self.now.entries.ok.0 ∙ sym (length-drop c.min-contents_start.result c.args.self.now.entries.items))
    ∙ take-length (drop c.min-contents_start.result c.args.self.now.entries.items) in
    let is : c.loop-held.items.items ≡ items = c.loop-held.invariant ∙ ap somes (tail ∙ parts.1) ∙ somes-all items in
    (ap (λ v. v.items) (c.self-2-1.given.1 lent) ∙ left, content_of-List c.loop-held.items ∙ ap (λ vs. list (items_content vs)) is)
