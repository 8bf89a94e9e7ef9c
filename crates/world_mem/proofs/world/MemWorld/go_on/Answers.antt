use Rattle.std.proofs.Common.{◌∙◌, ap, arith, length, subst, List, ℕ, [], ◌∷◌, ◌++◌, Option, None}
use Rattle.std.proofs.lemmas.List.{length-reverse}
use Rattle.mem_banks.specs.AsStore.{store_of}
use Rattle.mem_banks.specs.Past.{bytes_in, IsLeft}
use Rattle.mem_banks.specs.declared.change.Change.{Change}
use Rattle.world_api.specs.Act.{Given}
use Rattle.world_mem.specs.CallCounts.{count_of, is_listed, verdict_by}
use Rattle.world_mem.specs.declared.calls.Call.{Call}
use Rattle.world_mem.proofs.Dirty.{counts_none}
use Rattle.world_mem.proofs.LeftOver.{leaves_of}
use Rattle.world_mem.proofs.Stamped.{stamps_left}
use Rattle.world_mem.proofs.Unmade.{unmade_of}
use Rattle.world_mem.proofs.world.MemWorld.go_on.Goals as goal

pub invariant_of-self-clause-unmade : goal.invariant_of-self-clause-unmade
invariant_of-self-clause-unmade c = unmade_of c.leave.new.self

pub invariant_of-self-clause-counts : goal.invariant_of-self-clause-counts
invariant_of-self-clause-counts c = counts_none (store_of c.reset.new.self).changes c.reset.ensures.changes

pub returns-clause-left : goal.returns-clause-left
returns-clause-left c =
    let old = c.args.self.now.state in
    let left = c.args.left in
    leaves_of old c.leave.new.self left.targets c.leave.new.self.stamp c.leave.ensures.settled c.requires.covers c.requires.only c.leave.ensures.none c.leave.ensures.log
    (c.leave.ensures.met ∙ ap (λ (group : Given). old.met.items ++ group ∷ []) left.same) c.leave.ensures.dirs c.leave.ensures.table

pub returns-clause-stamps : goal.returns-clause-stamps
returns-clause-stamps c =
    stamps_left c.args.self.now.state c.leave.new.self c.args.left.targets c.leave.ensures.settled c.leave.ensures.stamp c.requires.covers

pub returns-clause-settled : goal.returns-clause-settled
returns-clause-settled c = λ bank outcome left.
    let store = store_of c.reset.new.self in
    subst (λ (changes : List Change). IsLeft bank changes (bytes_in store bank) store.saved outcome) c.reset.ensures.changes left

pub returns-clause-spared : goal.returns-clause-spared
returns-clause-spared c = λ call fails.
    let calls = c.spare.new.self in
    let number = count_of call calls in
    fails (ap (λ (fuse : Option ℕ). verdict_by fuse (is_listed calls.failing.items call number)) c.spare.ensures.fuse
    ∙ ap (λ (failing : List (Call × ℕ)). verdict_by None (is_listed failing call number)) c.spare.ensures.failing)

pub returns-clause-room : goal.returns-clause-room
returns-clause-room c =
    let banks = c.reset.new.self in
    let none = ap length c.reset.ensures.changes in
    let count = length-reverse banks.changes.items in
    omega (arith, none, count, banks.changes.ok.0, c.leave.ensures.gone)
