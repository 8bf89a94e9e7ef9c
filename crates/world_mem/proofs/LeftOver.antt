-- What a stop leaves, one target after another, and of the whole tree.
use Rattle.std.proofs.Common.{◌≡◌, ◌∙◌, sym, refl, ap, subst, inl, inr, ℕ, zero, suc, List, [], ◌∷◌, ◌++◌, Bool, true, false, cond, Option, Some, None, IsSome, arith, Contains, map, append_assoc, append-nil}
use Rattle.std.specs.Cmp.Lexicographic.{bytes_decides}
use Rattle.std.specs.List.{flat_map}
use Rattle.std.specs.Str.{bytes_eq}
use Rattle.std.proofs.lemmas.Bool.{cases_Bool}
use Rattle.world_api.specs.Act.{Content, Given}
use Rattle.world_api.specs.Around.{IsRunningTarget, Running, Entry}
use Rattle.world_mem.specs.AsAround.{around_of}
use Rattle.world_mem.specs.InSlots.{slot_at, content_of, stamp_at, file_with, settled}
use Rattle.world_mem.specs.Kept.{running_of, entry_of, met_of}
use Rattle.world_mem.specs.Left.{names, Cover, left_at, left_over, next_number, number_after, makings, Leaves}
use Rattle.act_table.specs.Listed.{listed}
use Rattle.world_mem.specs.Planned.{makes}
use Rattle.world_mem.specs.Standing.{is_dir}
use Rattle.world_mem.specs.Table.{law_of}
use Rattle.world_mem.specs.declared.dirs.Dirs.{Dirs}
use Rattle.world_mem.specs.declared.event.Event.{Event}
use Rattle.world_mem.specs.declared.running.RunningJob.{RunningJob}
use Rattle.world_mem.specs.declared.slots.Slot.{Slot}
use Rattle.world_mem.specs.declared.slots.Slot.TheVariants.{Settled}
use Rattle.world_mem.specs.declared.state.State.{State}
use Rattle.act_table.specs.declared.table.ActRow.{ActRow}
use Rattle.world_mem.proofs.Marks.{settled-off, settled-some, written_on_if, written_off_if, made_content, met-push}
use Rattle.world_mem.proofs.Membership.{contains_unmap}

pub over_append : (number : ℕ) (xs ys : Given) → left_over number (xs ++ ys) ≡ left_over number xs ++ left_over (number_after number xs) ys
over_append number [] ys = refl
over_append number (x ∷ xs) ys = ap (λ (rest : Given). (x.0, left_at number x.1) ∷ rest) (over_append (next_number number) xs ys)

pub after_append : (number : ℕ) (xs ys : Given) → number_after number (xs ++ ys) ≡ number_after (number_after number xs) ys
after_append number [] ys = refl
after_append number (x ∷ xs) ys = after_append (next_number number) xs ys

-- the jobs up to one more
pub flat_more : (runs : List RunningJob) (run : RunningJob) → flat_map (λ (run : RunningJob). run.made) (runs ++ run ∷ []) ≡ flat_map (λ (run : RunningJob). run.made) runs ++ run.made
flat_more [] run = append-nil run.made
flat_more (x ∷ xs) run =
    ap (λ (more : Given). x.made ++ more) (flat_more xs run) ∙ sym (append_assoc x.made (flat_map (λ (run : RunningJob). run.made) xs) run.made)

pub over_names : (number : ℕ) (given : Given) → names (left_over number given) ≡ names given
over_names number [] = refl
over_names number (x ∷ xs) = ap (λ (rest : List (List ℕ)). x.0 ∷ rest) (over_names (next_number number) xs)

-- what is planned is what the jobs make
pub makings_of : (rows : List ActRow) (running : List RunningJob) → ((run : RunningJob) → Contains running run → run.made ≡ makes rows run.job run.given)
    → flat_map (λ (run : RunningJob). run.made) running ≡ makings rows (map running_of running)
makings_of rows [] planned = refl
makings_of rows (run ∷ rest) planned =
    ap (λ (made : Given). made ++ flat_map (λ (run : RunningJob). run.made) rest) (planned run (0, omega arith, refl))
    ∙ ap (λ (more : Given). makes rows run.job run.given ++ more) (makings_of rows rest (λ other h. planned other (suc h.0, omega (arith, h.1), h.2)))

listed_on : (b : Bool) (entry : List ℕ × Content) (other : Content) → b ≡ true → cond b entry.1 other ≡ entry.1
listed_on true entry other e = refl
listed_on false entry other e = absurd (let x : false ≡ true = e in cc x)

listed_off : (b : Bool) (entry : List ℕ × Content) (other : Content) → b ≡ false → cond b entry.1 other ≡ other
listed_off false entry other e = refl
listed_off true entry other e = absurd (let x : true ≡ false = e in cc x)

other_way : (x y : List ℕ) → bytes_eq x y ≡ false → bytes_eq y x ≡ false
other_way x y n = elim (cases_Bool (bytes_eq y x)) [
  | inl e ↦ absurd (let same : true ≡ false = sym ((bytes_decides x y).1 (sym ((bytes_decides y x).0 e))) ∙ n in cc same)
  | inr off ↦ off
]

-- a slot that is settled holds what is listed first for its path
pub settled_listed : (stamp : ℕ) (left : Given) (path : List ℕ) (old : Option Slot) → IsSome old → Contains (names left) path → content_of (settled stamp left path old) ≡ listed left path
settled_listed stamp [] path old some h = absurd (omega (arith, h.1))
settled_listed stamp (x ∷ xs) path old some h = elim (cases_Bool (bytes_eq x.0 path)) [
  | inl y ↦
      let same : x.0 ≡ path = (bytes_decides x.0 path).0 y in
      ap content_of (written_on_if (bytes_eq x.0 path) (Settled (file_with stamp x.0 x.1)) (settled stamp xs path old) y (settled-some stamp xs path old some))
      ∙ made_content stamp x.0 x.1
      ∙ sym (listed_on (bytes_eq path x.0) x (listed xs path) ((bytes_decides path x.0).1 (sym same)))
  | inr n ↦
      ap content_of (written_off_if (bytes_eq x.0 path) (Settled (file_with stamp x.0 x.1)) (settled stamp xs path old) (λ y. absurd (let e : true ≡ false = sym y ∙ n in cc e)))
      ∙ settled_listed stamp xs path old some (there h (λ e. let e2 : true ≡ false = sym ((bytes_decides x.0 path).1 e) ∙ n in cc e2))
      ∙ sym (listed_off (bytes_eq path x.0) x (listed xs path) (other_way x.0 path n))
]
  where
    there : Contains (names (x ∷ xs)) path → (x.0 ≡ path → ⊥) → Contains (names xs) path
    there (zero, lt, at) apart = absurd (apart at)
    there (suc k, lt, at) apart = (k, omega (arith, lt), at)

-- a state whose running targets were settled at what a stop leaves
pub leaves_of : (old new : State) (left : Given) (stamp : ℕ) → ((path : List ℕ) → slot_at new.slots path ≡ settled stamp left path (slot_at old.slots path))
    → Cover old.running.items left → ((path : List ℕ) → Contains (names left) path → IsRunningTarget (around_of old).running path)
    → new.running.items ≡ [] → new.log.items ≡ [] → new.met.items ≡ old.met.items ++ left ∷ [] → new.dirs ≡ old.dirs → new.table ≡ old.table
    → Leaves left (around_of old) (around_of new)
leaves_of old new left stamp slots covers only idle silent met dirs table = record {
  targets = λ path target.
      let run = contains_unmap running_of old.running.items target.0 target.1 in
      let own : Contains run.0.job.targets path = subst (λ (r : Running). Contains r.job.targets path) (sym run.2) target.2 in
      let marked : IsSome (slot_at old.slots path) = subst (λ (o : Option Slot). IsSome o) (sym (old.owned run.0 path run.1 own)) refl in
      ap content_of (slots path) ∙ settled_listed stamp left path (slot_at old.slots path) marked (covers run.0 path run.1 own);
  files = λ path off. ap content_of (slots path ∙ settled-off stamp left path (slot_at old.slots path) (λ h. off (only path h)));
  stamps = λ path off. ap stamp_at (slots path ∙ settled-off stamp left path (slot_at old.slots path) (λ h. off (only path h)));
  dirs = λ dir. ap (λ (d : Dirs). is_dir d dir) dirs;
  running = ap (map running_of) idle;
  log = ap (map entry_of) silent;
  met = ap met_of met ∙ met-push old.met.items left;
  law = ap law_of table;
  top = refl;
}
