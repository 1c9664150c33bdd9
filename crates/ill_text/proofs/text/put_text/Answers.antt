use Rattle.std.proofs.Common.{sym, subst, append-nil, []}
use Rattle.ill_schema.specs.Apdu.{choice_of}
use Rattle.ill_schema.specs.Profiles.{profile_of}
use Rattle.ill_grammar.specs.Outline.{IsMarked}
use Rattle.ill_text.specs.Shown.{shown_text_in}
use Rattle.ill_text.proofs.Sent.{adds_as, adds_then}
use Rattle.ill_text.proofs.text.put_text.Goals as goal

pub returns-clause-adds : goal.returns-clause-adds
returns-clause-adds g c a h =
    let text = shown_text_in (profile_of c.args.profile) c.args.number a in
    adds_as _ _ _ _ (append-nil text) (adds_then text [] _ _ _ (c.put_marks.ensures.adds a (subst (IsMarked (choice_of a)) (sym c.marks.ensures) h)) c.flush.ensures.adds)
