-- What was found up to date is what its action makes of what stands in the tree: its record names the present contents,
-- and tells of bytes made of contents with those digests.
use Rattle.std.proofs.Common.{◌≡◌, List, [], ◌∷◌, map, Some, None, refl, sym, subst, ap, ap₂, ◌∙◌}
use Rattle.build_model.specs.Rules.{Path, Bytes, Content, Tree, Stamps, content, Rule, Record, Records, Setting, Among, here, there}
use Rattle.build_model.specs.Contents.{in_tree}
use Rattle.build_model.specs.Records.{dependency_of, digest_of, IsMet, AreDistinct, named_digest, digested, AreSound}
use Rattle.build_model.specs.Stale.{IsDue, IsStale, IsUpToDate, HasChanged, first_stamp}
use Rattle.build_model.specs.Steps.{Build, IsFresh, IsMade, contents_of, present_dependencies, present_record}
use Rattle.build_model.proofs.Lists.{none_some, some_same, nil_cons, same_head, same_tail, true_false}

module _ (s : Setting) where
  one_content : (met : List Bytes) → AreDistinct s met → (a b : Content) → IsMet met a → IsMet met b → digest_of s a ≡ digest_of s b → a ≡ b
  one_content met distinct None None x y e = refl
  one_content met distinct None (Some b) x y e = none_some e
  one_content met distinct (Some a) None x y e = none_some (sym e)
  one_content met distinct (Some a) (Some b) x y e = ap Some (distinct a b x y (some_same e))

  one_given : (met : List Bytes) (t : Tree) (r : Rule) (stamps : Stamps) → AreDistinct s met →
      (given : List (Path × Content)) (ps : List Path) → ((x : Path × Content) → Among x given → IsMet met x.1) →
      ((p : Path) → Among p ps → IsMet met (t p)) →
      map (digested s s.hash) given ≡ map named_digest (map (dependency_of s r (in_tree t) stamps) ps) → given ≡ contents_of t ps
  one_given met t r stamps distinct [] [] x y e = refl
  one_given met t r stamps distinct [] (p ∷ ps) x y e = nil_cons e
  one_given met t r stamps distinct (a ∷ given) [] x y e = nil_cons (sym e)
  one_given met t r stamps distinct (a ∷ given) (p ∷ ps) x y e =
      let head : (a.0, digest_of s a.1) ≡ (p, digest_of s (t p)) = same_head e in
      let same : a ≡ (p, t p) = ap₂ pair (ap (λ z. z.0) head) (one_content met distinct a.1 (t p) (x a here) (y p here) (ap (λ z. z.1) head)) in
      ap₂ (λ b l. b ∷ l) same
      (one_given met t r stamps distinct given ps (λ z m. x z (there m)) (λ q m. y q (there m)) (same_tail e))
    where
      pair : Path → Content → Path × Content
      pair p c = (p, c)

  -- a rule that is up to date by content is what its action makes
  pub fresh_made : (b : Build) (r : Rule) → AreDistinct s b.met → AreSound s b.met b.before b.records → IsFresh s b r →
      IsUpToDate b.before b.records r (present_record s b r) → IsMade s b.after r
  fresh_made b r distinct sound fresh kept p m =
      let k = kept.targets p m in
      let by = sound.true_of_files p (present_record s b r) k.bytes k.has_record k.is_file in
      let same : by.given ≡ contents_of b.after (present_dependencies s b r) =
      one_given b.met b.after r b.stamps_after distinct by.given (present_dependencies s b r) by.each_met fresh.each_met by.digests in
      sym (fresh.same p m) ∙ k.is_file ∙ sym by.made ∙ ap (λ l. s.act r.work r.signed r.targets l p) same

-- what is up to date isn't stale
pub fresh_not_stale : {t : Tree} {m : Records} {r : Rule} {now : Record} → IsUpToDate t m r now → IsStale t m r now → ⊥
fresh_not_stale kept (IsStale.is_always e) = true_false (sym e ∙ kept.not_always)
fresh_not_stale kept (IsStale.no_file p m e) = none_some (sym e ∙ (kept.targets p m).is_file)
fresh_not_stale kept (IsStale.no_record p m e) = none_some (sym e ∙ (kept.targets p m).has_record)
fresh_not_stale kept (IsStale.other_record p old m e differs) = differs (some_same (sym e ∙ (kept.targets p m).has_record))

-- what is due by content is stale
pub due_stale : {t : Tree} {stamps : Stamps} {m : Records} {r : Rule} {now : Record} → r.decider ≡ content → IsDue t stamps m r now → IsStale t m r now
due_stale by (IsDue.is_always e) = IsStale.is_always e
due_stale by (IsDue.no_file p m e) = IsStale.no_file p m e
due_stale by (IsDue.no_record p m e) = IsStale.no_record p m e
due_stale {stamps = stamps} {r = r} {now = now} by (IsDue.has_changed p old m e changed) =
    IsStale.other_record p old m e (subst (λ d. HasChanged d (first_stamp stamps r.targets) old now) by changed)

-- what is stale is due by content
pub stale_due : {t : Tree} {m : Records} {r : Rule} {now : Record} (stamps : Stamps) → r.decider ≡ content → IsStale t m r now → IsDue t stamps m r now
stale_due stamps by (IsStale.is_always e) = IsDue.is_always e
stale_due stamps by (IsStale.no_file p m e) = IsDue.no_file p m e
stale_due stamps by (IsStale.no_record p m e) = IsDue.no_record p m e
stale_due {r = r} {now = now} stamps by (IsStale.other_record p old m e differs) =
    IsDue.has_changed p old m e (subst (λ d. HasChanged d (first_stamp stamps r.targets) old now) (sym by) differs)
