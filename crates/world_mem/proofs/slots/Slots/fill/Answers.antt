use Rattle.std.proofs.Common.{◌≡◌, ◌∙◌, sym, ap, cond, List, ℕ, Some, None, take, ◌++◌, ◌∷◌, [], ◌+◌, Contains, subst, refl, inl, inr, is_some, true, false, arith}
use Rattle.std.specs.Str.{bytes_eq}
use Rattle.std.proofs.lemmas.List.{take_more}
use Rattle.std.proofs.lemmas.List.Elements.{Contains-append_left, Contains-push, Contains-push_cases}
use Rattle.world_mem.specs.declared.slots.Slot.TheVariants.{Settled}
use Rattle.world_mem.specs.Blocked.{HasFile, IsRefused, IsFirstRefused}
use Rattle.std.specs.Cmp.Lexicographic.{bytes_decides}
use Rattle.world_mem.specs.declared.slots.File.{File}
use Rattle.world_mem.specs.InSlots.{slot_at, file_of, content_of, mark_of, stamp_at, file_at, Stands}
use Rattle.world_mem.proofs.Below.{put_live, live_after, live_of, not_refused, weaker_blocked, file_at-listed}
use Rattle.world_mem.proofs.Owners.{put-unmarked}
use Rattle.world_mem.proofs.Membership.{below_or_not}
use Rattle.world_mem.proofs.Marks.{put-file, put_named, none_of}
use Rattle.world_mem.proofs.Stamped.{put_stamp}
use Rattle.world_mem.proofs.slots.Slots.fill.Goals as goal
use Rattle.world_mem.proofs.slots.Slots.fill.Goals.{then-has_file-via-then-has_file, then-has_file-via-else-has_file+in_ok-is_blocked+then-branch}

pub loop-place-preserved : goal.loop-place-preserved
loop-place-preserved c =
    let files = c.args.files.now in
    let place = c.loop-place.place in
    let file = c.index-files-place.result in
    let before = take place files in
    let whole : File = record { name = file.0; bytes = file.1; stamp = 0 } in
    let free : content_of (slot_at c.loop-place.self file.0) ≡ None = none_of (content_of (slot_at c.loop-place.self file.0)) (sym c.has_file.ensures ∙ c.if-has_file.false) in
    let grown : take (place + 1) files ≡ before ++ file ∷ [] =
    take_more files place file c.loop-place-test.true ∙ ap (λ f. before ++ f ∷ []) (sym c.index-files-place.is) in
    record {
      files = λ path.
          let put : slot_at c.put.new.self path ≡ cond (bytes_eq file.0 path) (Some (Settled (Some whole))) (slot_at c.loop-place.self path) =
          c.in_ok-put.ensures.ok path ∙ ap (λ (f : File). cond (bytes_eq file.0 path) (Some (Settled (Some f))) (slot_at c.loop-place.self path)) c.in_ok-file.ensures in
          put-file before whole path (slot_at c.loop-place.self path) (slot_at c.put.new.self path) (sym (c.loop-place.invariant.files file.0) ∙ free) (c.loop-place.invariant.files path) put
          ∙ ap (λ files. file_at files path) (sym grown);
      only = λ path.
          put_live (λ path. (bytes : List ℕ) × Contains (take (place + 1) files) (path, bytes)) file.0 path _ (slot_at c.loop-place.self path) (slot_at c.put.new.self path) (c.in_ok-put.ensures.ok path)
          (λ live. let was = c.loop-place.invariant.only path live in
          (was.0, subst (λ (fs : List (List ℕ × List ℕ)). Contains fs (path, was.0)) (sym grown) (Contains-append_left before (file ∷ []) (path, was.0) was.1)))
          (file.1, subst (λ (fs : List (List ℕ × List ℕ)). Contains fs file) (sym grown) (Contains-push before file));
      stand = λ path listed.
          live_after file.0 path _ (slot_at c.loop-place.self path) (slot_at c.put.new.self path) (c.in_ok-put.ensures.ok path) refl
          (elim (Contains-push_cases before file (path, listed.0) (subst (λ (fs : List (List ℕ × List ℕ)). Contains fs (path, listed.0)) grown listed.1)) [
            | inl was ↦ inl (c.loop-place.invariant.stand path (listed.0, was))
            | inr e ↦ inr (ap (λ (f : List ℕ × List ℕ). f.0) e)
          ]);
      unmarked = λ path.
          ap mark_of (c.in_ok-put.ensures.ok path) ∙ put-unmarked (bytes_eq file.0 path) _ (slot_at c.loop-place.self path) (c.loop-place.invariant.unmarked path);
      named = λ path f h. put_named (bytes_eq file.0 path) whole f (slot_at c.loop-place.self path) path (λ y. (bytes_decides file.0 path).0 y) (c.loop-place.invariant.named path f)
          (ap file_of (sym (c.in_ok-put.ensures.ok path ∙ ap (λ (g : File). cond (bytes_eq file.0 path) (Some (Settled (Some g))) (slot_at c.loop-place.self path)) c.in_ok-file.ensures)) ∙ h);
      stamps = λ path.
          ap stamp_at (c.in_ok-put.ensures.ok path ∙ ap (λ (g : File). cond (bytes_eq file.0 path) (Some (Settled (Some g))) (slot_at c.loop-place.self path)) c.in_ok-file.ensures)
          ∙ put_stamp (bytes_eq file.0 path) whole (slot_at c.loop-place.self path) refl (c.loop-place.invariant.stamps path);
      none = λ n lt refused. elim (below_or_not n place) [
        | inl earlier ↦ c.loop-place.invariant.none n earlier refused
        | inr late ↦
            let same : n ≡ place = omega (arith, lt, late) in
            not_refused files place file (sym c.index-files-place.is)
            (λ listed. let x : false ≡ true = ap is_some (sym free ∙ c.loop-place.invariant.files file.0) ∙ file_at-listed before file.0 listed.0 listed.1 in cc x)
            (λ blocked. let x : true ≡ false = sym (c.in_ok-is_blocked.ensures.1 (weaker_blocked (HasFile before) (Stands c.loop-place.self) file.0 c.loop-place.invariant.stand blocked)) ∙ c.if-branch.false in cc x)
            (subst (λ (k : ℕ). IsRefused files k) same refused)
      ];
    }

pub returns-then-has_file-clause-place : goal.returns-then-has_file-clause-place
returns-then-has_file-clause-place c = λ n e.
    let files = c.args.files.now in
    let place = c.loop-place.place in
    let file = c.index-files-place.result in
    let before = take place files in
    let same : place ≡ n = cc e in
    subst (λ (k : ℕ). IsFirstRefused files k) same (
      (
        file,
        c.loop-place-test.true,
        sym c.index-files-place.is,
        elim c.then-has_file.branch [
          | then-has_file-via-then-has_file w ↦ inl (c.loop-place.invariant.only file.0 (live_of (slot_at c.loop-place.self file.0) (sym c.has_file.ensures ∙ w.if-has_file.true)))
          | then-has_file-via-else-has_file+in_ok-is_blocked+then-branch w ↦ inr (weaker_blocked (Stands c.loop-place.self) (HasFile before) file.0 c.loop-place.invariant.only (w.in_ok-is_blocked.ensures.0 w.if-branch.true))
        ],
      ),
      c.loop-place.invariant.none,
    )

pub returns-clause-stand : goal.returns-clause-stand
returns-clause-stand c = λ n refused. c.loop-place.invariant.none n (omega (arith, refused.1, c.loop-place-test.false)) refused
