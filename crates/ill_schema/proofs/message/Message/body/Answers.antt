use Rattle.std.proofs.Math.Logic.{∥∥₁_elim}
use Rattle.ber_leaf.specs.Profile.{profile_two}
use Rattle.ill_schema.specs.Message.{apdu_of}
use Rattle.ill_schema.proofs.FitsProps.{FitsApdu-prop}
use Rattle.ill_schema.proofs.message.Message.body.Goals as goal

pub returns-clause-fits : goal.returns-clause-fits
returns-clause-fits c = ∥∥₁_elim c.args.self.now.fits (FitsApdu-prop profile_two (apdu_of c.args.self.now)) (λ fits. fits)
