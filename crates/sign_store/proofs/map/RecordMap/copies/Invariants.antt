use Rattle.std.proofs.Common.{◌≡◌, ◌<◌, ℕ, true, Some}
use Rattle.std.specs.Prelude.{Contains, slice_get}
use Rattle.std.specs.List.{list_any}
use Rattle.deciders.specs.declared.recorded.Rec.{Rec}
use Rattle.world_api.specs.declared.job.Work.TheVariants.{Copy}
use Rattle.sign_store.specs.Copies.{IsCopyIn}
use Rattle.sign_store.specs.Maps.{map_in}
use Rattle.sign_store.specs.Orders.{is_held}
use Rattle.sign_store.proofs.map.RecordMap.copies.Given as goal

abbrev pub invariant-loop-number : goal.invariant-loop-number
invariant-loop-number l = record {
  each : (rec : Rec) → Contains l.copies rec → IsCopyIn (map_in l.self) rec;
  all : (n : ℕ) (rec : Rec) → n < l.number → slice_get l.self.records.items n ≡ Some rec → rec.work ≡ Copy → list_any (is_held l.self n) rec.targets ≡ true → Contains l.copies rec;
}
