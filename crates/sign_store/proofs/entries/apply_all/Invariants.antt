use Rattle.std.proofs.Common.{◌≡◌, ◌≤◌, ◌-◌, ℕ, List, ◌++◌, length, take, drop}
use Rattle.sign_store.specs.Maps.{map_in}
use Rattle.sign_store.specs.Images.{after_entries}
use Rattle.sign_store.specs.Orders.{IsOrdered}
use Rattle.sign_store.proofs.entries.apply_all.Given as goal

abbrev pub invariant-loop-change : goal.invariant-loop-change
invariant-loop-change l = record {
  fits : l.len ≤ length l.body;
  reads : (behind : List ℕ) → after_entries l.version (length (take l.len l.body ++ behind)) (map_in l.initial.map) (take l.len l.body ++ behind) ≡ after_entries l.version (length behind) (map_in l.map) behind;
  ordered : IsOrdered l.initial.map → IsOrdered l.map;
  so_far : after_entries l.version (length (drop l.len l.body)) (map_in l.map) (drop l.len l.body) ≡ after_entries l.version (length l.body) (map_in l.initial.map) l.body;
}

abbrev pub decreases-loop-change : goal.decreases-loop-change
decreases-loop-change l = length l.body - l.len
