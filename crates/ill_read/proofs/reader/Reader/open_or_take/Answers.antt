use Rattle.std.proofs.Common.{◌-◌, Ok, length, subst}
use Rattle.ber_core.specs.Id.{tag_of_id}
use Rattle.ill_schema.specs.Profiles.{profile_of}
use Rattle.ill_refusals.specs.Place.{bound}
use Rattle.ill_refusals.specs.code.Judge.{judge}
use Rattle.ill_grammar.specs.code.Judging.{Fits, IsBegin, IsExtent}
use Rattle.ill_read.proofs.Windows.{window_joined}
use Rattle.ill_read.proofs.StringsInTags.{string_size}
use Rattle.ill_read.proofs.reader.Reader.open_or_take.Goals as goal

pub returns-in_default-clause-goes : goal.returns-in_default-clause-goes
returns-in_default-clause-goes g c p s rest b is = c.open_or_read.ensures.goes p s rest _ b (window_joined (bound (profile_of p) b.place - c.args.self.now.at) rest c.args.window.now is)

pub returns-then-not-wraps_string-clause-goes : goal.returns-then-not-wraps_string-clause-goes
returns-then-not-wraps_string-clause-goes g c p s rest b is begin judged =
    let d = c.args.self.now in
    c.open_or_read-then-not-wraps_string.ensures.goes p s rest _ b (window_joined (bound (profile_of p) b.place - d.at) rest c.args.window.now is) begin
    (subst (λ x. IsExtent p c.args.found c.args.id d.at c.args.window.now (Ok x) (judge (profile_of p) b.place d.at rest)) c.in-Opens.is judged)

pub returns-in_default-string_in-clause-goes : goal.returns-in_default-string_in-clause-goes
returns-in_default-string_in-clause-goes g c p s rest b is begin judged =
    let d = c.args.self.now in
    c.open_or_read-in_default-string_in.ensures.goes p s rest _ b (window_joined (bound (profile_of p) b.place - d.at) rest c.args.window.now is) begin
    (subst (λ x. IsExtent p c.args.found c.args.id d.at c.args.window.now (Ok x) (judge (profile_of p) b.place d.at rest)) c.in-Opens.is judged)

pub returns-then-is_some-clause-goes : goal.returns-then-is_some-clause-goes
returns-then-is_some-clause-goes g c p s rest b is begin judged =
    let d = c.args.self.now in
    c.open_or_read-then-is_some.ensures.goes p s rest _ b (window_joined (bound (profile_of p) b.place - d.at) rest c.args.window.now is) begin
    (subst (λ x. IsExtent p c.args.found c.args.id d.at c.args.window.now (Ok x) (judge (profile_of p) b.place d.at rest)) c.in-Opens.is judged)

pub take_string-requires-clause-header : goal.take_string-requires-clause-header
take_string-requires-clause-header g c =
    let fits = subst (Fits c.args.id (length c.args.window.now)) c.in-Opens.is c.requires.extent in
    (fits.1, string_size c.args.self.now.at c.in-Opens.header c.in-Opens.end c.args.window.now c.in-Some.leaf c.in-Some.content.now c.in-Some.size c.in-Some.ensures)

pub returns-clause-goes : goal.returns-clause-goes
returns-clause-goes g c p s rest b is begin judged =
    let w = c.args.window.now in let id = c.args.id in let d = c.args.self.now in
    let fits = subst (Fits id (length w)) c.in-Opens.is c.requires.extent in
    let begun = subst (IsBegin d.path.frames b.place (tag_of_id id) c.args.found) fits.0 begin in
    let extent = subst (λ x. IsExtent p c.args.found id d.at w (Ok x) (judge (profile_of p) b.place d.at rest)) c.in-Opens.is judged in
    c.take_string.ensures.goes p s rest w (b, (begun, extent)) is c.in-Some.ensures
