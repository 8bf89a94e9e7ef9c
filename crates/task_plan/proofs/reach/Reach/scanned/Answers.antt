use Rattle.std.proofs.Common.{◌≡◌, ◌∙◌, ap, refl}
use Rattle.std.specs.Prelude.{map}
use Rattle.task_plan.specs.Named.{put_all}
use Rattle.task_plan.proofs.ListLemmas.{scanned_insert, scanned_longer}
use Rattle.task_plan.proofs.WalkLemmas.{found_insert, scanned_other}
use Rattle.task_plan.proofs.ReachLemmas.{appended_at}
use Rattle.task_plan.specs.declared.reach.Reach.{Reach}
use Rattle.task_plan.proofs.reach.Reach.scanned.Goals as goal

pub go_on-requires-clause-next : goal.go_on-requires-clause-next
go_on-requires-clause-next c =
    let r = c.args.self.now in
    let rest = c.append.ensures.rest in
    let old : c.append.new.self.found ≡ r.found = ap (λ (x : Reach). x.found) rest in
    let entries = rw old at (c.in_ok-insert.ensures {u = tt}).entries in
    let s : Reach = record c.append.new.self { found = c.insert.new.self } in
    appended_at r s c.next_ahead-next.result c.len-before.result c.args.node c.args.included.items c.args.is_listed c.next_ahead-next.ensures c.requires.listed
    c.requires.sources c.len-before.ensures.len (ap (λ (x : Reach). x.sources) rest) (ap (λ (x : Reach). x.excluded.keys) rest) (c.in_ok-new.ensures.files ∙ ap (put_all r.excluded.keys r.files.keys) c.as_slice.ensures.value)
    (ap (map (λ e. (e.0, e.1.items))) entries ∙ found_insert (λ v. v.items) _ (λ a b. refl) r.found.entries c.args.node c.args.included)
    (λ x ne h. rw entries (scanned_other _ (λ a b. refl) r.found.entries c.args.node x c.args.included ne h)) c.append.ensures.longer

pub go_on-requires-clause-whole : goal.go_on-requires-clause-whole
go_on-requires-clause-whole c =
    let rest = c.append.ensures.rest in
    let old : c.append.new.self.found ≡ c.args.self.now.found = ap (λ (x : Reach). x.found) rest in
    let whole : c.append.new.self.whole ≡ c.args.self.now.whole = ap (λ (x : Reach). x.whole) rest in
    let entries = rw old at (c.in_ok-insert.ensures {u = tt}).entries in
    rw whole (scanned_insert _ _ _ _ _ _ _ (scanned_longer _ _ _ _ c.requires.whole c.append.ensures.longer) entries)

pub returns-clause-found : goal.returns-clause-found
returns-clause-found c =
    let r = c.args.self.now in
    let old : c.append.new.self.found ≡ r.found = ap (λ (x : Reach). x.found) c.append.ensures.rest in
    let entries = rw old at (c.in_ok-insert.ensures {u = tt}).entries in
    let last : c.note_whole.new.self.found ≡ c.go_on.new.self.found = ap (λ (x : Reach). x.found) c.note_whole.ensures.rest in
    ap (λ f. map (λ e. (e.0, e.1.items)) f.entries) (last ∙ c.go_on.ensures.found)
    ∙ ap (map (λ e. (e.0, e.1.items))) entries ∙ found_insert (λ v. v.items) _ (λ a b. refl) r.found.entries c.args.node c.args.included
