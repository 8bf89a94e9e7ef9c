-- What is told of a world that tells nothing of its files and jobs.
use Rattle.std.specs.Prelude.{[], false, None}
use Rattle.world_api.specs.Around.{Around}

-- nothing stands and nothing runs
abbrev pub nothing : Around
nothing = record {
  tree = λ path. None;
  dirs = λ path. false;
  stamps = λ path. 0;
  running = [];
  log = [];
  met = [];
  law = λ signed targets given path. None;
  top = [];
}
