use Rattle.std.proofs.Common.{ℕ, ◌<◌, List, length, sym, subst, ◌∙◌}
use Rattle.std.specs.Prelude.{◌≢◌, slice_index_or}
use Rattle.world_api.specs.Replacing.{Pair}
use Rattle.text_files.proofs.PairLemmas.{keyed}
use Rattle.text_files.proofs.writing.files_written.Goals as goal

pub replace_all-requires : goal.replace_all-requires
replace_all-requires c =
    subst (λ (x : List Pair). (k : ℕ) (d : Pair) → k < length x → length (slice_index_or x k d).0 ≢ 0) (sym c.as_slice-in-Some-Some.ensures)
    (keyed c.args.texts.now c.in-Some-Some.pairs (sym c.in_ok-pairs.ensures ∙ c.in-Some-Some.is-1))
