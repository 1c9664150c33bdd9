use Rattle.std.proofs.Common.{◌↔◌, drop}
use Rattle.ill_schema.specs.code.ValueFits.{EntriesFit, ItemsFit}
use Rattle.ill_schema.proofs.shape.+fits.Given as goal

-- the whole fits exactly if what is left does
abbrev pub invariant-fit_items-loop-item : goal.invariant-fit_items-loop-item
invariant-fit_items-loop-item l = ItemsFit (drop l.item-index l.item-items) l.rows ↔ ItemsFit l.item-items l.rows

abbrev pub invariant-fit_rows-loop-i : goal.invariant-fit_rows-loop-i
invariant-fit_rows-loop-i l = EntriesFit (drop l.i l.entry-items) (drop l.i l.rows) ↔ EntriesFit l.entry-items l.rows
