use Rattle.std.proofs.Common.{◌≡◌, map, take}
use Rattle.ill_schema.specs.Value.{content_of, items_of}
use Rattle.ill_parts.specs.Shape.{EachItem}
use Rattle.ill_parts.proofs.list.VecPart.to_value.Given as goal

abbrev pub invariant-loop-part : goal.invariant-loop-part
invariant-loop-part g l = record {
  same : map content_of l.items.items ≡ map g.P.Part.content (take l.part-index l.part-items);
  fits : EachItem g.P.Part.accepts (items_of (map content_of l.items.items));
}
