-- What a world on threads means: what the world in memory inside it means.
use Rattle.world_api.specs.Meaning.{Meaning}
use Rattle.world_mem.specs.Means.{world_meaning}
use Rattle.thread_world.specs.declared.world.ThreadWorld.{ThreadWorld}

abbrev pub thread_meaning : {T G : Type 0} → Meaning (ThreadWorld T G)
thread_meaning = record {
  tells = λ w. world_meaning.tells w.world;
  sure = λ w. world_meaning.sure w.world;
  seen = λ w. world_meaning.seen w.world;
  image = λ w. world_meaning.image w.world;
  around = λ w. world_meaning.around w.world;
  clock = λ w. world_meaning.clock w.world;
  left_since = λ w. world_meaning.left_since w.world;
  closed = λ w. world_meaning.closed w.world;
  counts = λ w. world_meaning.counts w.world;
}
