use Rattle.std.proofs.Common.{◌≡◌, ◌++◌, [], sym, ap, ◌∙◌, subst, map, Ok, List, Option, rules}
use Rattle.ill_tables.specs.declared.part.Row.{Row}
use Rattle.ill_schema.specs.Content.{Content}
use Rattle.ill_parts.specs.Shape.{AreBuilt, AreReady, head_rows, other_rows, record_of}
use Rattle.ill_parts.specs.Views.{headed}
use Rattle.ill_parts.proofs.Shapes.{record_fits, built_seen, ready_holds, built_joined, ready_joined, seen_built, seen_ready, content_of-record}
use Rattle.ill_parts.proofs.head.headed.Goals as goal

pub returns-clause-value : goal.returns-clause-value
returns-clause-value g c =
    let es = c.push_head.new.entries.items in
    let e : map Ok es ++ c.args.others ≡ map Ok c.push_all.new.entries.items = search rules in
    let head : AreBuilt (map Ok es) (headed c.args.head.now []) = subst (λ (os : List (Option Content)). AreBuilt (map Ok es) os) c.in_ok-push_head.ensures.built (seen_built es) in
    let built = built_joined _ _ _ _ head c.requires.built in
    rw content_of-record (ap record_of (built_seen _ _ (rw e at built) ∙ sym c.requires.entries))

pub returns-clause-fits : goal.returns-clause-fits
returns-clause-fits g c =
    let es = c.push_head.new.entries.items in
    let e : map Ok es ++ c.args.others ≡ map Ok c.push_all.new.entries.items = search rules in
    let ready = ready_joined head_rows (other_rows g.T.Node.NODE) _ _ (seen_ready es head_rows c.in_ok-push_head.ensures.ready) c.requires.ready in
    let P : List Row → Type 0 = λ rows. AreReady rows (map Ok c.push_all.new.entries.items) in
    rw content_of-record (record_fits _ _ c.requires.kind (ready_holds _ _ (subst P (sym c.requires.rows) (rw e at ready))))
