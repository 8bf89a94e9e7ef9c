use Rattle.std.proofs.Common.{◌≡◌, length, sym, ap, ◌∙◌, arith}
use Rattle.sign_store.specs.Maps.{map_in}
use Rattle.sign_store.proofs.BeginLemmas.{written_map}
use Rattle.sign_store.proofs.BlockLemmas.{end_written, short_map}
use Rattle.sign_store.proofs.opening.read_bank.Goals as goal

pub returns-then-size-clause-map : goal.returns-then-size-clause-map
returns-then-size-clause-map g c = λ told.
    short_map c.args.version (map_in c.new-map.result) (g.W.Disk.meaning.seen c.args.world.now c.args.bank) (omega (arith, c.requires told, c.if-size.true)) c.new-map.ensures.map

pub returns-clause-map : goal.returns-clause-map
returns-clause-map g c = λ told.
    let m = g.W.Disk.meaning in
    let bank = m.seen c.load_bank.new.world c.args.bank in
    let size : c.args.size ≡ length bank = c.requires (c.load_bank.ensures.told.told told) ∙ sym (ap length (c.load_bank.ensures.looks.banks told c.args.bank).same) in
    let place = c.in_ok-end.ensures.place in
    sym (written_map c.args.version c.in_ok-end.end.place (map_in c.load_bank.new.map) bank
    (end_written c.args.version c.in_ok-end.end (map_in c.new-map.result) (map_in c.load_bank.new.map) bank c.new-map.ensures.map place.0 (omega (arith, c.if-size.false, size)) (omega (arith, place.1, size)) (c.in_ok-end.ensures.read told)))

pub returns-clause-written : goal.returns-clause-written
returns-clause-written g c = λ told long.
    let m = g.W.Disk.meaning in
    let bank = m.seen c.load_bank.new.world c.args.bank in
    let size : c.args.size ≡ length bank = c.requires (c.load_bank.ensures.told.told told) ∙ sym (ap length (c.load_bank.ensures.looks.banks told c.args.bank).same) in
    let place = c.in_ok-end.ensures.place in
    end_written c.args.version c.in_ok-end.end (map_in c.new-map.result) (map_in c.load_bank.new.map) bank c.new-map.ensures.map place.0 (omega (arith, c.if-size.false, size)) (omega (arith, place.1, size)) (c.in_ok-end.ensures.read told)

pub returns-clause-gate : goal.returns-clause-gate
returns-clause-gate g c = λ told long. (c.in_ok-end.ensures.read told).gate_is
