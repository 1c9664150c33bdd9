use Rattle.std.proofs.Common.{ℕ, List, Some, subst}
use Rattle.std.specs.Io.KnownBytes.{Consumes}
use Rattle.ill_schema.specs.Profiles.{profile_of}
use Rattle.ill_tables.specs.declared.profile.Profile.{Profile as Named}
use Rattle.ill_refusals.specs.Fault.{fault_of}
use Rattle.ill_refusals.specs.Outcome.{OnlyRefuses}
use Rattle.ill_commands.proofs.RefusalKinds.{reads_message, reads_no_further}
use Rattle.ill_commands.proofs.refused.is_read_past.Goals as goal

pub returns-in-Ok-Some : goal.returns-in-Ok-Some
returns-in-Ok-Some c =
    let next = rw c.in-Ok-Some.field-0-is at c.in-Ok-Some.ensures in
    let message = next.message in
    let left' = Some c.read_normal.new.source in
    reads_message c.args.octets.now left' message.0 message.2.0 c.args.refusal (subst (λ (s : List ℕ). Consumes (Some s) left' message.0) c.new-source.ensures message.1) message.2.1

pub returns-in-Err-Refused-2 : goal.returns-in-Err-Refused-2
returns-in-Err-Refused-2 c =
    let other = c.in-Err-Refused.other in
    let next = rw c.in-Err-Refused.field-0-is at c.in-Err-Refused.ensures in
    let only = subst (λ (s : List ℕ). OnlyRefuses (profile_of Named.Module) s (fault_of other)) c.new-source.ensures next.refused.1 in
    reads_no_further c.args.octets.now c.args.refusal c.requires other only c.if-other-refusal.false
