use Rattle.std.proofs.Common.{length, subst, sym, Some}
use Rattle.std.specs.Io.KnownBytes.{Consumes}
use Rattle.ber_leaf.specs.Profile.{profile_two}
use Rattle.ill_text.proofs.Messages.{IsSpelling, one_outline, spelling_is_accepted, spelling_is_some}
use Rattle.ill_text.proofs.message.outline_of.Goals as goal

pub returns-in-Ok-Some : goal.returns-in-Ok-Some
returns-in-Ok-Some c a h =
    let left = Some c.read_outline.new.source in
    let m = (rw c.in-Ok-Some.field-0-is at c.in-Ok-Some.ensures).message in
    one_outline profile_two c.args.octets.now left a c.in-Ok-Some.read h m.0 (subst (λ s. Consumes (Some s) left m.0) c.new-source.ensures m.1) m.2

pub unreachable-requires : goal.unreachable-requires
unreachable-requires c =
    let none = (rw c.in-Ok-None.field-0-is at c.in-Ok-None.ensures).none in
    spelling_is_some profile_two c.new-source.result c.read_outline.new.source (subst (IsSpelling profile_two) (sym c.new-source.ensures) c.requires) none.0 none.1

pub unreachable-requires-in-Err-Refused : goal.unreachable-requires-in-Err-Refused
unreachable-requires-in-Err-Refused c =
    let s = c.new-source.result in
    let spelling = subst (IsSpelling profile_two) (sym c.new-source.ensures) c.requires in
    let refused = (rw c.in-Err-Refused.field-0-is at c.in-Err-Refused.ensures).refused in
    refused.1.2 spelling.0 (length s) (spelling_is_accepted profile_two s spelling)
