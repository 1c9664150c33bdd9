use Rattle.std.proofs.Common.{sym, ◌∙◌}
use Rattle.ber_tree.specs.Identifier.{identifier}
use Rattle.der_buffer.proofs.OpenElements.{closed_element}
use Rattle.der_buffer.proofs.der_buffer.DerBuffer.close.Goals as goal

pub returns-clause-element : goal.returns-clause-element
returns-clause-element c before body tag form x e l =
    rw (sym (closed_element before (identifier tag form) body c.self.inside.octets.items x c.args.contents_start (c.self.view_is ∙ e) l)) c.set_length.ensures
