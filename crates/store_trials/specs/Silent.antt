-- A disk that tells nothing but how often it was at fault.
use Rattle.std.specs.Prelude.{ℕ, [], false, None}
use Rattle.world_api.specs.Around.{Around}
use Rattle.world_api.specs.Counts.{Counts}
use Rattle.world_api.specs.Meaning.{Meaning}

-- nothing stands and nothing runs
abbrev pub nothing : Around
nothing = record {
  tree = λ path. None;
  dirs = λ path. false;
  stamps = λ path. 0;
  running = [];
  log = [];
  met = [];
  law = λ signed targets given path. None;
  top = [];
}

abbrev pub counts_of : ℕ → Counts
counts_of faults = record { disk_faults = faults; tree_faults = 0; start_faults = 0; action_failures = 0 }

abbrev pub silent : {D : Type 0} → (D → ℕ) → Meaning D
silent faults = record {
  tells = λ disk. ⊥;
  sure = λ disk. ⊥;
  seen = λ disk bank. [];
  image = λ disk bank bytes. ⊥;
  around = λ disk. nothing;
  clock = λ disk. 0;
  left_since = λ disk time around banks. ⊥;
  closed = λ disk. [];
  counts = λ disk. counts_of (faults disk);
}
