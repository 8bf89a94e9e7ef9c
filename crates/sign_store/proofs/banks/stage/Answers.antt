use Rattle.std.proofs.Common.{◌≡◌, ◌+◌, ◌∙◌, ℕ, length, drop, ap, arith}
use Rattle.std.specs.Prelude.{min}
use Rattle.std.proofs.lemmas.List.{take_rest}
use Rattle.sign_store.proofs.DiskLemmas.{wrote}
use Rattle.sign_store.proofs.WriteLemmas.{write_moments}
use Rattle.sign_store.proofs.StageLemmas.{behind_written, ok_told, stage_behind, stage_inside, stage_spans, stage_staged, told_ok}
use Rattle.sign_store.proofs.banks.stage.Goals as goal

pub write_at-requires-clause-within : goal.write_at-requires-clause-within
write_at-requires-clause-within g c = λ told. stage_inside c.args.end c.args.place c.gate_len-skip.result _ c.requires.behind c.gate_len-skip.ensures (c.requires.within told)

pub returns-clause-writes : goal.returns-clause-writes
returns-clause-writes g c = wrote g.W.Disk.meaning c.args.bank c.args.world.now c.write_at.new.self c.write_at.ensures.told c.write_at.ensures.recalls c.write_at.ensures.around c.write_at.ensures.other

pub returns-clause-stays : goal.returns-clause-stays
returns-clause-stays g c =
    behind_written g.W.Disk.meaning c.args.world.now c.write_at.new.self c.args.bank c.args.end (c.args.place + c.gate_len-skip.result) _
    (stage_behind c.args.end c.args.place c.gate_len-skip.result c.requires.behind c.gate_len-skip.ensures)
    (write_moments g.W.Disk.meaning c.args.world.now c.write_at.new.self c.args.bank _ _ c.write_at.ensures.time c.write_at.ensures.around c.write_at.ensures.image c.write_at.ensures.other)

pub returns-clause-staged : goal.returns-clause-staged
returns-clause-staged g c = λ from mid map is staged.
    let cut : c.min.result ≡ min c.gate_len-skip.result (length c.args.entry.now) = omega (arith, c.min.ensures) in
    told_ok c.write_at.result c.write_at.ensures.written (λ told holds.
    let before = c.write_at.ensures.told.told told in
    stage_staged c.args.end c.args.place c.gate_len-skip.result _ _ c.args.entry.now _ c.requires.behind c.gate_len-skip.ensures (take_rest c.args.entry.now c.min.result ∙ ap (λ n. drop n c.args.entry.now) cut) (c.requires.within before) holds
    from mid map is (staged before))

pub returns-clause-within : goal.returns-clause-within
returns-clause-within g c =
    let cut : c.min.result ≡ min c.gate_len-skip.result (length c.args.entry.now) = omega (arith, c.min.ensures) in
    ok_told c.write_at.result c.write_at.ensures.written (λ told holds.
    stage_spans c.args.end c.args.place c.gate_len-skip.result _ _ c.args.entry.now _ c.requires.behind c.gate_len-skip.ensures (take_rest c.args.entry.now c.min.result ∙ ap (λ n. drop n c.args.entry.now) cut) (c.requires.within (c.write_at.ensures.told.told told)) holds)
