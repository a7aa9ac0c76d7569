use Rattle.std.proofs.Common.{◌≡◌, ◌++◌, drop, map}
use Rattle.rocket_launches.specs.Launches.{as_catalyst}
use Rattle.rocket_launches.proofs.launches.brought_back.Given as goal

abbrev pub invariant-loop-product : goal.invariant-loop-product
invariant-loop-product l = l.back.items ++ map as_catalyst (drop l.product-index l.products) ≡ map as_catalyst l.products
