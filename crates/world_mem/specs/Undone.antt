-- What was around before a change, from what is around after it.
use Rattle.std.specs.Prelude.{ℕ, Bool, List, ◌-◌, ◌&&◌, not, None, Some, length, take, insert, if◌then◌else◌}
use Rattle.std.specs.Str.{bytes_eq}
use Rattle.world_api.specs.Act.{Content}
use Rattle.world_api.specs.Around.{Around}
use Rattle.world_mem.specs.Standing.{is_in}
use Rattle.world_mem.specs.declared.past.Change.{Change}
use Rattle.world_mem.specs.declared.past.Change.TheVariants.{Removed, Made, Started, Ended}

-- a list without its last items
abbrev pub without_last : {X : Type 0} → ℕ → List X → List X
without_last n items = take (length items - n) items

-- these directories don't stand yet
abbrev pub without_dirs : List (List ℕ) → (List ℕ → Bool) → List ℕ → Bool
without_dirs fresh dirs dir = not (is_in fresh dir) && dirs dir

abbrev pub content_if : Bool → Content → Content → Content
content_if one this other = if one then this else other

abbrev pub number_if : Bool → ℕ → ℕ → ℕ
number_if one this other = if one then this else other

abbrev pub undone : Change → Around → Around
undone (Removed file) around = record around {
  tree = λ path. content_if (bytes_eq file.name path) (Some file.bytes) (around.tree path);
  stamps = λ path. number_if (bytes_eq file.name path) file.stamp (around.stamps path);
}
undone (Made fresh) around = record around { dirs = without_dirs fresh around.dirs }
undone (Started fresh) around = record around {
  dirs = without_dirs fresh around.dirs;
  running = without_last 1 around.running;
  log = without_last 1 around.log;
}
undone (Ended ending) around = record around {
  tree = λ path. content_if (is_in ending.job.targets path) None (around.tree path);
  stamps = λ path. number_if (is_in ending.job.targets path) 0 (around.stamps path);
  running = insert around.running ending.place (record { job = ending.job; given = ending.given });
  log = without_last 1 around.log;
  met = without_last ending.gained around.met;
}
