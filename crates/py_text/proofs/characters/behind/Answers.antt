use Rattle.std.proofs.Common.{arith, ◌≡◌, ◌+◌, ◌-◌, subst}
use Rattle.py_text.proofs.CharLemmas.{Follows, follows_more, follows_all}
use Rattle.py_text.proofs.characters.behind.Goals as goal
use Rattle.py_text.proofs.characters.behind.Goals.{else-characters-test, then-characters-test+in-None}

pub characters-preserved : goal.characters-preserved
characters-preserved c =
    let n : c.args.count - c.characters.left + 1 ≡ c.args.count - (c.characters.left - 1) = omega arith in (
      omega arith,
      subst (λ i. Follows c.args.text.now c.next.new.self.rest.now i) n
          (follows_more c.args.text.now c.characters.rest.rest.now c.next.new.self.rest.now c.in-Some.field-0 (c.args.count - c.characters.left) c.characters.invariant.1 (c.in-Some.ensures {u = tt}).steps.0),
    )

-- where the loop ends, no more characters are wanted or none are left
follows : (c : goal.After-as_str) → Follows c.args.text.now c.characters-test.rest.rest.now c.args.count
follows c = elim c.characters-test.branch [
  | else-characters-test w ↦
      let n : c.args.count - c.characters.left ≡ c.args.count = omega arith in
      rw w.rest-is (subst (λ i. Follows c.args.text.now c.characters.rest.rest.now i) n c.characters.invariant.1)
  | then-characters-test+in-None w ↦
      let ended = (w.in-None.ensures {u = tt}).steps.0 in
      rw (w.rest-is, ended.1) (follows_all c.args.text.now c.characters.rest.rest.now (c.args.count - c.characters.left) c.args.count c.characters.invariant.1 ended.0 (omega arith))
]

pub returns-clause-follows : goal.returns-clause-follows
returns-clause-follows c = rw c.as_str.ensures (follows c).parts

pub returns-clause-chars : goal.returns-clause-chars
returns-clause-chars c = rw c.as_str.ensures (follows c).characters
