use Rattle.std.proofs.Common.{◌∙◌, ◌++◌, Ok, Err, sym}
use Rattle.ill_tables.specs.declared.profile.Profile.TheVariants.{Two}
use Rattle.ill_read.specs.Paths.{AreMessage, AreValues, HoldsAt}
use Rattle.ill_read.specs.declared.decoder.Decoder.{Decoder}
use Rattle.ill_read.specs.declared.decoder.Progress.{Progress}
use Rattle.ill_read.proofs.MessageEnds.{is_failed, is_fed, is_whole, message_is, open_stands, stands_part}
use Rattle.ill_read.proofs.FedPieces.{spelled_done, spelled_whole}
use Rattle.ill_read.proofs.decoder.Decoder.feed.Goals as goal

pub returns-in-Failed-clause-open : goal.returns-in-Failed-clause-open
returns-in-Failed-clause-open c fed h =
    let r = c.read_piece.new.self in
    let is = sym c.state.ensures ∙ c.in-Failed.is in
    (is, is_failed Two AreValues (λ p values a n. AreMessage values a n) r (fed ++ c.args.piece.now) r.pending.items c.in-Failed.failure (c.read_piece.ensures.fed Two fed (is_fed Two AreValues (λ p values a n. AreMessage values a n) c.args.self.now.reader fed h)) is)

pub returns-in-Whole-clause-open : goal.returns-in-Whole-clause-open
returns-in-Whole-clause-open c fed h =
    let r = c.read_piece.new.self in
    let s = fed ++ c.args.piece.now in
    let is = sym c.state.ensures ∙ c.in-Whole.is in
    let m = message_is r s (is_whole Two AreValues (λ p values a n. AreMessage values a n) r s r.pending.items (c.read_piece.ensures.fed Two fed (is_fed Two AreValues (λ p values a n. AreMessage values a n) c.args.self.now.reader fed h)) is) in
    (m.0, (is, m.1), spelled_whole c.args.self.now fed c.args.piece.now m.0 h c.requires c.read_piece.ensures.octets m.2)

pub returns-in-Open-clause-open : goal.returns-in-Open-clause-open
returns-in-Open-clause-open c fed h =
    let r = c.read_piece.new.self in
    let s = fed ++ c.args.piece.now in
    let is = sym c.state.ensures ∙ c.in-Open.is in
    let last = open_stands Two AreValues (λ p values a n. AreMessage values a n) r s r.pending.items (c.read_piece.ensures.fed Two fed (is_fed Two AreValues (λ p values a n. AreMessage values a n) c.args.self.now.reader fed h)) is in
    ((is, last), stands_part Two (HoldsAt Two AreValues r.path) r.at s r.pending.items last)

pub returns-in-Failed-clause-done : goal.returns-in-Failed-clause-done
returns-in-Failed-clause-done c fed a h spells =
    let d : Decoder = record { reader = c.read_piece.new.self; two = c.read_piece.ensures.profile ∙ c.args.self.now.two } in
    spelled_done d (fed ++ c.args.piece.now) a (Err c.in-Failed.failure) (returns-in-Failed-clause-open c fed h) spells

pub returns-in-Open-clause-done : goal.returns-in-Open-clause-done
returns-in-Open-clause-done c fed a h spells =
    let d : Decoder = record { reader = c.read_piece.new.self; two = c.read_piece.ensures.profile ∙ c.args.self.now.two } in
    spelled_done d (fed ++ c.args.piece.now) a (Ok Progress.More) (returns-in-Open-clause-open c fed h) spells

pub returns-in-Failed-clause-few : goal.returns-in-Failed-clause-few
returns-in-Failed-clause-few c = c.read_piece.new.self.path.frames.few

pub returns-in-Whole-clause-few : goal.returns-in-Whole-clause-few
returns-in-Whole-clause-few c = c.read_piece.new.self.path.frames.few

pub returns-in-Open-clause-few : goal.returns-in-Open-clause-few
returns-in-Open-clause-few c = c.read_piece.new.self.path.frames.few
