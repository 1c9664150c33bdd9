use Rattle.std.proofs.Common.{[], refl}
use Rattle.ill_grammar.specs.Standing.{top_part}
use Rattle.ill_grammar.specs.declared.element.Element.TheVariants.{Wrapper}
use Rattle.ill_read.specs.code.Outlines.{is_open_type}
use Rattle.ill_read.proofs.Outlines.{none_own}
use Rattle.ill_read.proofs.outline_draft.OutlineDraft.new.Goals as goal

pub returns : goal.returns
returns c p = record { octets = c.new.ensures p; front = []; joined = c.clear.ensures.items; are = ([], [], [], refl, refl, none_own (is_open_type (Wrapper (top_part p))), refl) }
