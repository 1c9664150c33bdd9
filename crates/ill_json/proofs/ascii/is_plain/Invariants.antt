use Rattle.std.proofs.Common.{◌≡◌, nat_lt, take}
use Rattle.std.specs.List.{list_all}
use Rattle.ill_json.proofs.ascii.is_plain.Given as goal

abbrev pub invariant-loop-octet : goal.invariant-loop-octet
invariant-loop-octet l = l.is_plain ≡ list_all (λ octet. nat_lt octet 127) (take l.octet-index l.text)
