use Rattle.std.proofs.Common.{◌≡◌, map, take, drop}
use Rattle.ill_schema.specs.Value.{content_of, items_of}
use Rattle.ill_parts.specs.Shape.{EachItem}
use Rattle.ill_parts.proofs.list.VecPart.read.Given as goal

abbrev pub invariant-loop-item : goal.invariant-loop-item
invariant-loop-item g l = record {
  same : map g.P.Part.content l.parts.items ≡ map content_of (take l.item-index l.item-items);
  fits : EachItem g.P.Part.accepts (items_of (map content_of (drop l.item-index l.item-items)));
}
