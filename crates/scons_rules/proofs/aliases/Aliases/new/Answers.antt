use Rattle.std.proofs.Common.{arith, sym}
use Rattle.std.proofs.lemmas.List.{length-map}
use Rattle.scons_rules.specs.AliasTable.{names_in, parts_in}
use Rattle.scons_rules.proofs.Leaving.{list_pushed, no_list}
use Rattle.scons_rules.proofs.aliases.Aliases.new.Goals as goal
use Rattle.scons_rules.proofs.aliases.Aliases.new.Goals.{in-Some+in_ok-steps_of+in_ok-push, in_default}

pub aliases-preserved : goal.aliases-preserved
aliases-preserved c =
    let aliases = c.args.state.now.aliases in
    elim c.match-parts_at.branch [
      | in-Some+in_ok-steps_of+in_ok-push w ↦ rw w.lists-is
          (list_pushed (names_in aliases) (parts_in aliases) c.aliases.place w.in-Some.parts.now w.in_ok-steps_of.field-0 c.aliases.lists.items w.push.new.self.items
          (sym (rw w.in-Some.is at c.parts_at.ensures)) c.aliases.invariant (w.in_ok-steps_of.ensures {u = tt}) (w.in_ok-push.ensures {u = tt}).items)
      | in_default w ↦ rw w.lists-is
          (no_list (names_in aliases) (parts_in aliases) c.aliases.place c.aliases.lists.items (omega (arith, c.len-place-end.ensures, length-map aliases (λ a. a.1)))
          (sym (rw w.in_default.is at c.parts_at.ensures)))
    ]
