use Rattle.std.proofs.Common.{◌≡◌, ◌+◌, ◌-◌, ◌≤◌, ◌∙◌, length, drop, take, sym, ap, subst, arith, length-drop, refl}
use Rattle.std.proofs.lemmas.List.{take_all}
use Rattle.ill_read.specs.code.StringsInTags.{BeginsWithString, HoldsOnly}
use Rattle.ill_read.proofs.StringsInTags.{string_found, two_zeros}
use Rattle.ill_read.proofs.reader.strings.string_in.Goals as goal

pub returns-else-marks-ne0-2 : goal.returns-else-marks-ne0-2
returns-else-marks-ne0-2 c =
    let w = c.args.window.now in let header = c.args.opening.header in
    let string = c.in_ok-string-in-None.string in
    let contents = take (length w - header) (drop header w) in
    let all : contents ≡ drop header w = take_all (length w - header) (drop header w) (omega (arith, length-drop header w)) in
    let begins : BeginsWithString string.leaf string.header string.size contents = c.in_ok-string-in-None.ensures in
    let within = begins.within in
    let size : string.header + string.size - string.header ≡ string.size = omega arith in
    let held = string.header + string.size in
    let behind = take (length contents - held) (drop held contents) in
    let rest : behind ≡ drop held contents = take_all (length contents - held) (drop held contents) (omega (arith, length-drop held contents)) in
    let marks = two_zeros behind c.if-marks-lt2.false c.if-marks-ne0.false c.if-marks-ne0-2.false in
    let long : header + held + 2 ≤ length w = omega (arith, c.if-marks-lt2.false, ap length rest, length-drop held contents, within, ap length all, length-drop header w, c.requires.header) in
    let only = subst (λ e. HoldsOnly c.args.at header e w held contents (header + held + 2)) (sym c.in-None.is) (all, (marks.0, sym rest ∙ marks.1), refl) in
    string_found c.args.at header c.args.opening.end w contents _ string.leaf string.header string.size _ begins (ap (λ k. take k (drop string.header contents)) size) only long
