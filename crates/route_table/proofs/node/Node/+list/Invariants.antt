use Rattle.std.proofs.Common.{◌++◌}
use Rattle.std.specs.Prelude.{drop, option_copied}
use Rattle.std.specs.FinMap.{entries}
use Rattle.route_table.specs.Children.{children_of}
use Rattle.route_table.specs.Listing.{AreSpelled, spelled}
use Rattle.route_table.proofs.Listed.{behind, IsListing}
use Rattle.route_table.proofs.node.Node.+list.Given as goal

abbrev pub invariant-loop-child : goal.invariant-loop-child
invariant-loop-child l =
    AreSpelled (option_copied l.front) (entries l.self.routes)
    → IsListing (option_copied l.front) (l.fn.routes.items ++ spelled (option_copied l.front) (entries l.self.routes)) l.routes.items
    (behind (children_of (drop l.child-index l.child-items)))
