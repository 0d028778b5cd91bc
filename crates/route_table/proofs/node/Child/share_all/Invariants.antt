use Rattle.std.proofs.Common.{◌≡◌, take, length, vec_len, vec_capacity}
use Rattle.route_table.specs.Children.{children_of}
use Rattle.route_table.proofs.node.Child.share_all.Given as goal

abbrev pub invariant-loop-child : goal.invariant-loop-child
invariant-loop-child l =
    record {
      done : children_of l.shared.items ≡ children_of (take l.child-index l.children);
      count : vec_len l.shared ≡ l.child-index;
      room : vec_capacity l.shared ≡ length l.children;
    }
