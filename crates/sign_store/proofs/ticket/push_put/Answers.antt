use Rattle.std.proofs.Common.{◌≡◌, ◌++◌, List, ℕ, OnOk, subst, ap, ◌∙◌, arith}
use Rattle.sign_store.proofs.TicketLemmas.{put_spelt}
use Rattle.sign_store.proofs.ticket.push_put.Goals as goal

pub returns-clause-spelt : goal.returns-clause-spelt
returns-clause-spelt c =
    subst (λ (x : List ℕ). OnOk c.push_record.result (c.push_record.new.out.items ≡ x))
    (put_spelt c.args.out.now.items c.extend_from_slice.new.self.items c.push.new.self.items c.args.rec.now _
    ((c.in_ok-extend_from_slice.ensures {u = tt}).items ∙ ap (λ (x : List ℕ). c.args.out.now.items ++ x) c.to_be_bytes.ensures)
    (c.in_ok-push.ensures {u = tt}).items
    (omega (arith, c.spelled_len.ensures, c.requires)))
    c.push_record.ensures.spelt
