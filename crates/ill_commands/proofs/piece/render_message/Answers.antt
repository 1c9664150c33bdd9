use Rattle.std.proofs.Common.{sym, subst}
use Rattle.ill_commands.specs.code.Rendering.{Renders}
use Rattle.ill_commands.proofs.piece.render_message.Goals as goal

pub returns-in-Show : goal.returns-in-Show
returns-in-Show c = subst (λ j. Renders j c.args.work c.args.place c.args.message.now c.show_message.result) (sym c.in-Show.is) c.show_message.ensures

pub returns-in-Json : goal.returns-in-Json
returns-in-Json c = subst (λ j. Renders j c.args.work c.args.place c.args.message.now c.json_message.result) (sym c.in-Json.is) c.json_message.ensures

pub returns-in-Check : goal.returns-in-Check
returns-in-Check c = subst (λ j. Renders j c.args.work c.args.place c.args.message.now c.check_message.result) (sym c.in-Check.is) c.check_message.ensures

pub returns-in-CheckJson : goal.returns-in-CheckJson
returns-in-CheckJson c = subst (λ j. Renders j c.args.work c.args.place c.args.message.now c.check_json_message.result) (sym c.in-CheckJson.is) c.check_json_message.ensures

pub returns-in-Digest : goal.returns-in-Digest
returns-in-Digest c = subst (λ j. Renders j c.args.work c.args.place c.args.message.now c.digest_message.result) (sym c.in-Digest.is) c.digest_message.ensures

pub returns-in-DigestJson : goal.returns-in-DigestJson
returns-in-DigestJson c = subst (λ j. Renders j c.args.work c.args.place c.args.message.now c.digest_json_message.result) (sym c.in-DigestJson.is) c.digest_json_message.ensures

pub returns-in-Canonicalise : goal.returns-in-Canonicalise
returns-in-Canonicalise c = subst (λ j. Renders j c.args.work c.args.place c.args.message.now c.canonical_message.result) (sym c.in-Canonicalise.is) (c.canonical_message.ensures c.args.place)
