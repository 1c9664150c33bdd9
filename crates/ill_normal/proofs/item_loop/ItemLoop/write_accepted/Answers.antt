use Rattle.std.proofs.Common.{refl}
use Rattle.ill_normal.specs.Entries.{accepted}
use Rattle.ill_normal.specs.Messages.{spelling}
use Rattle.ill_normal.proofs.ReadItems.{ends_unwritten, read_good, spelled_front, takes_front}
use Rattle.ill_normal.proofs.item_loop.ItemLoop.write_accepted.Goals as goal

pub returns-in-Ok-clause-steps : goal.returns-in-Ok-clause-steps
returns-in-Ok-clause-steps g c = λ octets left now u v r h taken.
    let puts = rw c.next_place-place.ensures at (c.in-Ok.ensures.puts octets h) in
    record {
      next = λ from k. rw c.with_accepted-self.ensures (read_good _ _ _ _ _ from _ _ _ k (spelling h.apdu octets) c.in-Ok.written.octets _ _ h.spells taken h.size puts.0 puts.1 refl);
      ends = tt;
    }

pub returns-in-Err-clause-steps : goal.returns-in-Err-clause-steps
returns-in-Err-clause-steps g c = λ octets left now u v r h taken.
    let fails = rw c.next_place-place.ensures at (c.in-Err.ensures.fails octets h) in
    let front = takes_front c.args.self.now.reading.on_refusal left now (spelled_front (g.I.WriteItems.reads (g.I.WriteItems.options c.args.writer.now)) left now (spelling h.apdu octets) h.spells taken) in
    record {
      next = λ from k. tt;
      ends = λ from k. rw c.unwritten.ensures (ends_unwritten _ _ _ _ _ from _ _ _ k c.in-Err.error c.requires.few front (accepted _ (spelling h.apdu octets), (refl, h.spells, taken), fails.0) fails.1 refl);
    }
