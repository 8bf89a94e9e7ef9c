-- Calls of a world, counted, and those that are to fail.
use Rattle.std.specs.Prelude.{◌≢◌, ℕ, Bool, List, ◌+◌, ◌-◌, ◌^◌, ◌==◌, ◌&&◌, min, Option, Some, None, slice_index, slice_set, option_map, if◌then◌else◌}
use Rattle.std.specs.List.{list_any}
use Rattle.world_mem.specs.declared.calls.Call.{Call}
use Rattle.world_mem.specs.declared.calls.Call.TheVariants.{Size, ReadAt, WriteAt, Sync, TopPath, Kind, ReadFile, List as Lists, Stamp, MakeDir, Remove, Start, Wait}
use Rattle.world_mem.specs.declared.calls.Calls.{Calls}
use Rattle.world_mem.specs.declared.calls.Verdict.{Verdict}
use Rattle.world_mem.specs.declared.calls.Verdict.TheVariants.{Goes, Listed, Spent}

abbrev pub place_of : Call → ℕ
place_of Size = 0
place_of ReadAt = 1
place_of WriteAt = 2
place_of Sync = 3
place_of TopPath = 4
place_of Kind = 5
place_of ReadFile = 6
place_of Lists = 7
place_of Stamp = 8
place_of MakeDir = 9
place_of Remove = 10
place_of Start = 11
place_of Wait = 12

-- how often a call was made
abbrev pub count_of : Call → Calls → ℕ
count_of call calls = slice_index calls.made (place_of call)

-- one more, up to the greatest number of 64 bits
abbrev pub next : ℕ → ℕ
next count = min (count + 1) (2 ^ 64 - 1)

-- one call less until all fail
abbrev pub burned : Option ℕ → Option ℕ
burned fuse = option_map (λ left. left - 1) fuse

-- the calls after one more
abbrev pub counted : Call → Calls → Calls
counted call calls = record calls {
  made = slice_set calls.made (place_of call) (next (count_of call calls));
  fuse = burned calls.fuse;
}

abbrev pub is_listed : List (Call × ℕ) → Call → ℕ → Bool
is_listed failing call number = list_any (λ pair. (place_of pair.0 == place_of call) && (pair.1 == number)) failing

abbrev pub verdict_by : Option ℕ → Bool → Verdict
verdict_by None listed = if listed then Listed else Goes
verdict_by (Some left) listed = if left == 0 then Spent else (if listed then Listed else Goes)

-- what becomes of the next call of this kind
abbrev pub verdict_of : Call → Calls → Verdict
verdict_of call calls = verdict_by calls.fuse (is_listed calls.failing.items call (count_of call calls))

-- the next call of this kind fails
abbrev pub Fails : Call → Calls → Type 0
Fails call calls = verdict_of call calls ≢ Goes
