-- How many octets were taken of a known input.
use Rattle.std.proofs.Common.{◌+◌, ◌≤◌, ℕ, Bool, List, length, Some, ap, arith, length-append}
use Rattle.std.specs.Io.KnownBytes.{Consumes}
use Rattle.ill_inputs.specs.Inputs.{IsUnread}
use Rattle.ill_inputs.specs.declared.run_fault.RunFault.{RunFault}

pub bounded : (n : ℕ) (s t b : List ℕ) → Consumes (Some s) (Some t) b → length b ≤ n → length s ≤ n + length t
bounded n s t b h l = omega (arith, ap length h, length-append b t, l)

pub unread_bound : (n : ℕ) (s t : List ℕ) (x : Bool) (e : RunFault) → IsUnread n (Some s) (Some t) x e → length s ≤ n + length t
unread_bound n s t x RunFault.OutOfMemory u = bounded n s t u.0 u.1 u.2
unread_bound n s t x RunFault.ReadFault u = bounded n s t u.1.0 u.1.1 u.1.2
unread_bound n s t x (RunFault.Refused m r) u = absurd u
unread_bound n s t x (RunFault.RefusedSide m r) u = absurd u
unread_bound n s t x RunFault.OddHex u = absurd u
unread_bound n s t x (RunFault.BadHex i) u = absurd u
unread_bound n s t x RunFault.HexTooLong u = absurd u
unread_bound n s t x RunFault.NotReported u = absurd u
unread_bound n s t x RunFault.TooManyMessages u = absurd u
unread_bound n s t x (RunFault.WriteFault i) u = absurd u
