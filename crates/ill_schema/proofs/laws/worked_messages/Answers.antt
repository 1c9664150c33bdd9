use Rattle.std.proofs.Common.{lit≤}
use Rattle.ill_schema.specs.Worked.{expired, request, answer, estimate, unfilled, retry}
use Rattle.ill_schema.proofs.WorkedRows.{own, expired_fits, request_fits, estimate_fits, unfilled_fits, retry_fits, expired_by_indefinite, expired_without_sequence, retry_without_sequence}
use Rattle.ill_schema.proofs.laws.worked_messages.Goals as goal

pub returns-clause-expired : goal.returns-clause-expired
returns-clause-expired c = own expired expired_fits (lit≤ tt)

pub returns-clause-indefinite : goal.returns-clause-indefinite
returns-clause-indefinite c = expired_by_indefinite

pub returns-clause-bare : goal.returns-clause-bare
returns-clause-bare c = expired_without_sequence

pub returns-clause-request : goal.returns-clause-request
returns-clause-request c = own request request_fits (lit≤ tt)

pub returns-clause-estimate : goal.returns-clause-estimate
returns-clause-estimate c = own (answer 7 estimate) estimate_fits (lit≤ tt)

pub returns-clause-unfilled : goal.returns-clause-unfilled
returns-clause-unfilled c = own (answer 3 unfilled) unfilled_fits (lit≤ tt)

pub returns-clause-bare_retry : goal.returns-clause-bare_retry
returns-clause-bare_retry c = retry_without_sequence

pub returns-clause-retry : goal.returns-clause-retry
returns-clause-retry c = own (answer 2 retry) retry_fits (lit≤ tt)
