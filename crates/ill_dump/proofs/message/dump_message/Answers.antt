use Rattle.ill_dump.proofs.message.dump_message.Goals as goal

pub returns-in_ok-put_refused-in-Err-Refused : goal.returns-in_ok-put_refused-in-Err-Refused
returns-in_ok-put_refused-in-Err-Refused c =
    rw c.in-Err-Refused.field-0-is (rw c.in-Err-Refused.field-0-is at c.in-Err-Refused.ensures)
