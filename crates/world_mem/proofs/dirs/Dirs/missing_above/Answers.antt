use Rattle.std.proofs.Common.{◌≡◌, ◌∙◌, ◌⊎◌, ◌↔◌, ◌+◌, subst, sym, arith, List, ℕ, false, Contains, length}
use Rattle.world_mem.specs.Standing.{is_dir}
use Rattle.world_mem.proofs.Fresh.{IsFront, at_slash, at_other, all_fronts}
use Rattle.world_mem.proofs.dirs.Dirs.missing_above.Goals as goal
use Rattle.world_mem.proofs.dirs.Dirs.missing_above.Goals.{then-byte-eq47+in_ok-note, else-byte-eq47}

pub loop-place-preserved : goal.loop-place-preserved
loop-place-preserved c = λ dir.
    let bytes = c.as_bytes-bytes.result.now in
    let place = c.loop-place.place in
    let old = c.args.fresh.now in
    let mid = c.loop-place.fresh in
    let absent : Type 0 = is_dir c.args.self.now dir ≡ false in
    let P : List (List ℕ) → Type 0 = λ new. Contains new dir ↔ (Contains old dir ⊎ (IsFront bytes (place + 1) dir × absent)) in
    elim c.if-byte-eq47.branch [
      | then-byte-eq47+in_ok-note w ↦ subst P (sym w.fresh-is)
          (at_slash bytes place old mid w.note.new.fresh dir absent w.if-byte-eq47.true (c.loop-place.invariant dir) (w.in_ok-note.ensures dir))
      | else-byte-eq47 w ↦ subst P (sym w.fresh-is) (at_other bytes place old mid dir absent w.if-byte-eq47.false (c.loop-place.invariant dir))
    ]

pub returns : goal.returns
returns c = λ dir.
    let bytes = c.as_bytes-bytes.result.now in
    let same : bytes ≡ c.args.path.now = c.as_bytes-bytes.ensures.value ∙ c.as_str.ensures in
    let size : length bytes ≡ c.loop-place.place = omega (arith, c.loop-place-test.false, c.loop-place.auto.place-end) in
    all_fronts bytes c.args.path.now c.loop-place.place c.args.fresh.now c.loop-place.fresh dir (is_dir c.args.self.now dir ≡ false) same size (c.loop-place.invariant dir)
