use Rattle.std.proofs.Common.{◌≡◌, ℕ, List, take, true}
use Rattle.std.specs.Option.{is_some}
use Rattle.sign_store.specs.Tables.{number_in, place_in, Enters}
use Rattle.sign_store.proofs.map.enter_each.Given as goal

abbrev pub invariant-loop-path : goal.invariant-loop-path
invariant-loop-path l = record {
  same : (path : List ℕ) → number_in l.table path ≡ number_in l.initial.table path;
  places : Enters (take l.path-index l.paths) l.table;
  stay : (path : List ℕ) → is_some (place_in l.initial.table path) ≡ true → is_some (place_in l.table path) ≡ true;
}
