use Rattle.ill_read.proofs.Accepted.{decode_accepts, decode_refused, decode_spelled}
use Rattle.ill_read.proofs.read.decode.Goals as goal

pub returns : goal.returns
returns c =
    let s = c.args.octets.now in
    let answer = c.decode_value.ensures in
    record {
      spelled = decode_spelled s c.decode_value.result answer;
      refused = decode_refused s c.decode_value.result answer;
      accepts = decode_accepts s c.decode_value.result answer;
    }
