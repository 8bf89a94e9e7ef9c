use Rattle.std.proofs.Common.{rules, ◌≡◌, ◌∙◌, ◌≤◌, sym, subst, ap, length}
use Rattle.world_api.specs.Banks.{Torn}
use Rattle.mem_banks.specs.Past.{spliced}
use Rattle.mem_banks.specs.Picks.{torn_part}
use Rattle.mem_banks.proofs.Splices.{splice_torn}
use Rattle.mem_banks.proofs.Picks.{torn_over}
use Rattle.mem_banks.proofs.outcome.tear.Goals as goal

pub returns-clause-torn : goal.returns-clause-torn
returns-clause-torn c =
    let w = c.args.write.now in
    let before = c.restore.new.bytes.items in
    let part = c.as_slice-2.result.now in
    let within : w.place ≤ length before = search rules in
    let small : length part ≤ w.count = search rules in
    subst (λ b. Torn w.place w.count b c.overwrite.new.bytes.items) c.restore.ensures.bytes
    (subst (λ b. Torn w.place w.count before b) (sym c.overwrite.ensures.bytes) (splice_torn before part w.place within w.count small))

pub returns-clause-cut : goal.returns-clause-cut
returns-clause-cut c =
    let w = c.args.write.now in
    let part : c.as_slice-2.result.now ≡ torn_part c.args.cut w c.args.bytes.now.items = search rules in
    c.overwrite.ensures.bytes
    ∙ ap (λ b. spliced w.place b c.restore.new.bytes.items) part
    ∙ ap (λ b. spliced w.place (torn_part c.args.cut w c.args.bytes.now.items) b) c.restore.ensures.bytes
    ∙ sym (torn_over c.args.cut w c.args.bytes.now.items c.args.saved.now c.requires.torn.0 c.requires.torn.1)
