use Rattle.std.proofs.Common.{◌≡◌, ◌≢◌, ◌∙◌, ◌↔◌, sym, ap, subst, append_assoc, append-nil, ◌++◌, ℕ, List, Contains, IsSome, Some}
use Rattle.std.specs.List.{AllPairs}
use Rattle.scons_base.specs.Parts.{dir_of}
use Rattle.world_mem.specs.InSlots.{slot_at, content_of, file_of, name_in}
use Rattle.world_mem.proofs.Listing.{names_in, names_each, names_once, keyed}
use Rattle.world_mem.proofs.slots.Slots.list.Goals as goal

pub loop-slot-init : goal.loop-slot-init
loop-slot-init c =
    let dir = c.args.dir.now in
    ap (λ (paths : List (List ℕ)). paths ++ names_in dir c.into_iter-slot-iterator.result) (c.new-paths.ensures ∙ c.new.ensures.items)
    ∙ ap (names_in dir) c.into_iter-slot-iterator.ensures.into_iter_gives.0

pub loop-slot-preserved : goal.loop-slot-preserved
loop-slot-preserved c =
    let dir = c.args.dir.now in
    ap (λ (names : List (List ℕ)). names ++ names_in dir c.next.new.self) c.in_ok-add_name.ensures
    ∙ append_assoc c.loop-slot.paths (name_in dir (file_of (Some c.in-Some.slot.now))) (names_in dir c.next.new.self)
    ∙ ap (λ rest. c.loop-slot.paths ++ names_in dir rest) (sym c.in-Some.ensures.steps)
    ∙ c.loop-slot.invariant

pub returns : goal.returns
returns c =
    let slots = c.args.self.now in
    let dir = c.args.dir.now in
    let gives = c.into_iter-slot-iterator.ensures.into_iter_gives in
    let all : names_in dir slots.slots.entries ≡ c.loop-slot.paths =
    sym c.loop-slot.invariant ∙ ap (λ rest. c.loop-slot.paths ++ names_in dir rest) c.in-None.ensures.steps.0 ∙ append-nil c.loop-slot.paths in
    record {
      each = λ path. subst (λ (names : List (List ℕ)). Contains names path ↔ (IsSome (content_of (slot_at slots path)) × (dir_of path ≡ dir))) all (names_each slots c.requires gives.6 dir path);
      once = subst (AllPairs (λ (one other : List ℕ). one ≢ other)) all (names_once dir slots.slots.entries gives.5 (keyed slots c.requires gives.6));
    }
