use Rattle.std.proofs.Common.{◌≡◌, ◌-◌, ◌≤◌, ◌++◌, ◌∙◌, length, take, ap, arith}
use Rattle.ill_commands.proofs.LineEnds.{extended, keeps_first, keeps_whole}
use Rattle.ill_commands.proofs.lines.reader.LineReader.keep.Goals as goal

pub returns-then-octets-room-clause-kept : goal.returns-then-octets-room-clause-kept
returns-then-octets-room-clause-kept c rest e =
    let kept = c.args.self.now.part.items in
    let octets = c.args.octets.now in
    let most = c.args.most in
    let le : length octets ≤ most - length kept = omega (arith, c.len.ensures, c.saturating_sub-room.ensures, c.if-octets-room.true) in
    extended c.extend_from_slice.result c.extend_from_slice.new.self.items kept octets _ c.extend_from_slice.ensures.items (keeps_whole most kept rest octets e le)

pub returns-else-octets-room-clause-kept : goal.returns-else-octets-room-clause-kept
returns-else-octets-room-clause-kept c rest e =
    let kept = c.args.self.now.part.items in
    let octets = c.args.octets.now in
    let most = c.args.most in
    let room = c.saturating_sub-room.result in
    let call = c.extend_from_slice-else-octets-room in
    let is : room ≡ most - length kept = omega (arith, c.len.ensures, c.saturating_sub-room.ensures) in
    extended call.result call.new.self.items kept (take room octets) _ call.ensures.items (ap (λ n. kept ++ take n octets) is ∙ keeps_first most kept rest octets e)
