use Rattle.std.proofs.Common.{rules, ◌≡◌, ◌≤◌, [], ◌++◌, length, append-nil, take, drop, refl, sym, subst, ap, ◌∙◌, arith}
use Rattle.std.proofs.lemmas.List.{length-take-le, take-append-le}
use Rattle.ill_read.specs.code.ReaderCode.{IsFed}
use Rattle.ill_read.specs.code.Filling.{NoneEndsWithin}
use Rattle.ill_read.proofs.SourceReads.{none_yet, pulled_exact, pulled_ended}
use Rattle.ill_read.proofs.read.take_octets.Goals as goal

pub returns-then-wanted-eq0-clause-fed : goal.returns-then-wanted-eq0-clause-fed
returns-then-wanted-eq0-clause-fed g c p b h exact =
    let d = c.args.reader.now in
    let none : b ++ [] ≡ b = append-nil b in
    let zero = c.if-wanted-eq0.true in
    let space = c.requires.space in let room = c.requires.room in
    record {
      fed = subst (IsFed p g.D.Draft.holds g.D.Draft.has d) (sym none) h;
      exact = subst (NoneEndsWithin p) (sym none) exact;
      ended = λ e. pulled_ended d d _ c.request_len.result c.min-wanted.result (λ closed. refl) (λ opened. c.request_len.ensures.some p b h opened)
          (λ z. omega (arith, z, c.min-wanted.ensures, c.min.ensures, space, room))
          (λ l. absurd (omega (arith, l, zero)));
    }

pub returns-in_err-count-clause-unfinished : goal.returns-in_err-count-clause-unfinished
returns-in_err-count-clause-unfinished g c is_err p b h a n accepted =
    let wanted = c.if-wanted-eq0.false in
    none_yet p g.D.Draft.holds g.D.Draft.has c.args.reader.now b c.request_len.result h c.request_len.ensures.closed (λ zero. wanted (omega (arith, zero, c.min-wanted.ensures, c.min.ensures)))
    (λ x k opened octets spelled. c.request_len.ensures.at_least p b [] x k h octets opened spelled) a n accepted

pub returns-clause-fed : goal.returns-clause-fed
returns-clause-fed g c p b h exact =
    let d = c.args.reader.now in
    let n = c.in_ok-count.count in
    let given = c.take.new.buffer in
    let piece = take n (given ++ drop c.min-wanted.result c.args.buffer.now) in
    let le = c.in_ok-count.ensures.count in
    let len : length given ≡ c.min-wanted.result = search rules in
    let long : length piece ≡ n = ap length (take-append-le n given (drop c.min-wanted.result c.args.buffer.now) le) ∙ length-take-le n given le in
    let needed : length piece ≤ c.request_len.result = omega (arith, long, len, le, c.min-wanted.ensures, c.min.ensures) in
    let space = c.requires.space in let room = c.requires.room in
    let ends : NoneEndsWithin p (b ++ piece) = pulled_exact p g.D.Draft.holds g.D.Draft.has d b piece c.request_len.result h c.read_piece.ensures.octets exact c.request_len.ensures.closed
    (λ a k opened ok accepted. c.request_len.ensures.at_least p b piece a k h ok opened accepted) needed in
    record {
      fed = c.read_piece.ensures.fed p b h;
      exact = ends;
      ended = λ e. pulled_ended d c.read_piece.new.self _ c.request_len.result c.min-wanted.result c.read_piece.ensures.stays (λ opened. c.request_len.ensures.some p b h opened)
          (λ z. omega (arith, z, c.min-wanted.ensures, c.min.ensures, space, room))
          (λ l. c.in_ok-count.ensures.octets.1 (let q = ap length e in omega (arith, q, long)) (omega (arith, l, len)));
    }
