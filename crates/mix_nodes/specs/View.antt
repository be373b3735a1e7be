-- The shape that the fields of a Shape stand for.
use Rattle.mix_nodes.specs.Shape.{ShapeValue}
use Rattle.mix_nodes.specs.declared.shape.Shape.TheInside.{Inside}

abbrev pub view_of : Inside → ShapeValue
view_of s =
    record {
      first = s.first;
      last = s.last;
      size = s.size;
      base = s.base;
      labels = s.labels.items;
      links = s.links.items;
      heads = s.heads.items;
    }
