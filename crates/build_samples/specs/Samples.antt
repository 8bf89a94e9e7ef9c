-- A call of `build` that meets all that its clauses ask for: what it began with, and what it did.
use Rattle.std.specs.Prelude.{◌≡◌, ℕ, true, false, List, [], ◌∷◌, codes}
use Rattle.world_api.specs.declared.hash.Hash.TheVariants.{Md5}
use Rattle.sign_store.specs.Stores.{IsKept, is_live, map_of}
use Rattle.sign_store.specs.Tables.{nothing}
use Rattle.sign_store.specs.declared.store.Store.{Store}
use Rattle.build_means.specs.Builds.{Wanted, setting_in}
use Rattle.build_run.specs.Outsets.{wanted_of, HasRun, HasSucceeded}
use Rattle.build_run.specs.Safe.{StaysTrue}
use Rattle.build_run.specs.declared.building.Options.{Options}
use Rattle.world_mem.specs.AsAround.{around_of}
use Rattle.world_mem.specs.InSlots.{file_at}
use Rattle.world_mem.specs.Means.{world_meaning}
use Rattle.world_mem.specs.declared.world.MemWorld.{MemWorld}
use Rattle.build_samples.specs.Copies.{copy_graph, target_node}
use Rattle.build_samples.specs.declared.sample.Sample.{Sample}

-- What the build began with: `s` with this content was the only file, and nothing ran; the store was live, and neither it nor anything
-- that a stop might have left had a record.
pub record IsOutsetOf (content : List ℕ) (world : MemWorld) (store : Store) : Type 0 where
  pub only : (path : List ℕ) → (around_of world.state).tree path ≡ file_at ((codes "s", content) ∷ []) path
  pub idle : (around_of world.state).running ≡ []
  pub live : is_live store ≡ true
  pub kept : IsKept world_meaning world store
  pub empty : map_of store ≡ nothing

abbrev pub options : Options
options = record { jobs = 1; keep = false; hash = Md5; silent = false; explain = false }

-- `t` was requested, of the graph in which it is a copy of `s`
abbrev pub wanted : Wanted
wanted = wanted_of copy_graph (target_node ∷ []) options

-- The build took these steps from there, and where it reports nothing it succeeded; and wherever it was stopped the records told the
-- truth. No premise is left: a world in memory tells and is sure, and none of its directories is closed; the node that is requested is the
-- graph's; and where no record is kept each of them tells the truth.
pub record HasBuilt (content : List ℕ) (sample : Sample) : Type 0 where
  pub old : MemWorld
  pub store : Store
  pub outset : IsOutsetOf content old store
  pub runs : HasRun world_meaning wanted (map_of store) old sample.world (map_of sample.store) sample.end.is_ended
  pub succeeds : sample.end.faults ≡ [] → sample.end.memory ≡ false →
      HasSucceeded world_meaning wanted (map_of store) old sample.world (map_of sample.store)
  pub safe : StaysTrue world_meaning (setting_in wanted (around_of old.state)) old sample.world
