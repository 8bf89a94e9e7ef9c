-- What was printed by the log is what was printed by the steps.
use Rattle.std.proofs.Common.{◌≡◌, ◌∙◌, ◌++◌, ◌∷◌, ℕ, List, [], ap, refl, subst, sym}
use Rattle.std.proofs.lemmas.List.{append_cancel_left}
use Rattle.world_api.specs.Around.{Around, Entry, Started, Finished}
use Rattle.world_api.specs.Counts.{Counts}
use Rattle.world_api.specs.Printed.{SinkMeaning}
use Rattle.world_api.specs.declared.job.Job.{Job}
use Rattle.world_api.specs.declared.job.Outcome.{Outcome}
use Rattle.build_model.specs.Rules as model
use Rattle.build_model.specs.Rules.{Among, here, there}
use Rattle.build_model.specs.Steps.{Step, Began, began}
use Rattle.build_model.proofs.Lists.{among_same, nil_cons, same_head, same_tail}
use Rattle.build_model.proofs.Ready.{needed_place}
use Rattle.build_model.proofs.Runs.{begun_prepared}
use Rattle.build_means.specs.Builds.{IsJobIn, Runs}
use Rattle.build_means.specs.Logs.{AreEntries, AreUnrisen, is_done, nothing, is_fresh, has_begun, was_refused, has_ended, lacks_one, has_halted}
use Rattle.turn_means.specs.Recording.{build_at}
use Rattle.turn_means.specs.Standing.{Outset, IsOutset, setting_at}
use Rattle.turn_means.proofs.Running.{makes_each, one_rule}
use Rattle.build_run.specs.StartTexts.{AreStepTexts, AreTexts, HasOwnText, HasPrinted, IsJobText, IsOwnText, no_step, no_text, of_begun, of_ended, of_ending, of_fresh, of_halt, of_lacking, of_refused, of_start}
use Rattle.build_run.specs.declared.building.Options.{Options}

-- ---- the last of a log

snoc_front : {A : Type 0} (xs ys : List A) (x y : A) → xs ++ x ∷ [] ≡ ys ++ y ∷ [] → xs ≡ ys
snoc_front [] [] x y e = refl
snoc_front [] (z ∷ []) x y e = nil_cons (same_tail e)
snoc_front [] (z ∷ u ∷ ys) x y e = nil_cons (same_tail e)
snoc_front (v ∷ []) [] x y e = nil_cons (sym (same_tail e))
snoc_front (v ∷ u ∷ xs) [] x y e = nil_cons (sym (same_tail e))
snoc_front {A} (v ∷ xs) (z ∷ ys) x y e =
    ap (λ (h : A). h ∷ xs) (same_head e) ∙ ap (λ (l : List A). z ∷ l) (snoc_front xs ys x y (same_tail e))

snoc_last : {A : Type 0} (xs ys : List A) (x y : A) → xs ++ x ∷ [] ≡ ys ++ y ∷ [] → x ≡ y
snoc_last [] [] x y e = same_head e
snoc_last [] (z ∷ []) x y e = nil_cons (same_tail e)
snoc_last [] (z ∷ u ∷ ys) x y e = nil_cons (same_tail e)
snoc_last (v ∷ []) [] x y e = nil_cons (sym (same_tail e))
snoc_last (v ∷ u ∷ xs) [] x y e = nil_cons (sym (same_tail e))
snoc_last (v ∷ xs) (z ∷ ys) x y e = snoc_last xs ys x y (same_tail e)

snoc_some : {A B : Type 0} (xs : List A) (x : A) → xs ++ x ∷ [] ≡ [] → B
snoc_some [] x e = nil_cons (sym e)
snoc_some (y ∷ xs) x e = nil_cons (sym e)

job_or : Job → Entry → Job
job_or other (Started job counts) = job
job_or other (Finished id outcome) = other

same_job : {j k : Job} {c d : Counts} → Started j c ≡ Started k d → j ≡ k
unfolding job_or
same_job {j} e = ap (job_or j) e

no_ending : {A : Type 0} {id : ℕ} {outcome : Outcome} {job : Job} {counts : Counts} → Finished id outcome ≡ Started job counts → A
no_ending e = cc e

-- the text of the last start, and what stands before it
record Last (IsText : Job → List ℕ → Type 0) (entries : List Entry) (job : Job) (text : List ℕ) : Type 0 where
  front : List ℕ
  own : List ℕ
  parts : text ≡ front ++ own
  is : IsText job own
  before : AreTexts IsText entries front

module _ {IsText : Job → List ℕ → Type 0} where
  none_printed : {entries : List Entry} {text : List ℕ} → AreTexts IsText entries text → entries ≡ [] → text ≡ []
  none_printed no_text e = refl
  none_printed (of_start {entries} job counts own is rest) e = snoc_some entries (Started job counts) e
  none_printed (of_ending {entries} id outcome rest) e = snoc_some entries (Finished id outcome) e

  last_start : {all : List Entry} {text : List ℕ} → AreTexts IsText all text → (entries : List Entry) (job : Job) (counts : Counts) →
      all ≡ entries ++ Started job counts ∷ [] → Last IsText entries job text
  last_start no_text entries job counts e = snoc_some entries (Started job counts) (sym e)
  last_start (of_start {entries = front} {text = text} j c own is rest) entries job counts e = record {
    front = text;
    own = own;
    parts = refl;
    is = subst (λ (k : Job). IsText k own) (same_job (snoc_last front entries (Started j c) (Started job counts) e)) is;
    before = subst (λ (l : List Entry). AreTexts IsText l text) (snoc_front front entries (Started j c) (Started job counts) e) rest;
  }
  last_start (of_ending {entries = front} id outcome rest) entries job counts e =
      no_ending (snoc_last front entries (Finished id outcome) (Started job counts) e)

  last_end : {all : List Entry} {text : List ℕ} → AreTexts IsText all text → (entries : List Entry) (id : ℕ) (outcome : Outcome) →
      all ≡ entries ++ Finished id outcome ∷ [] → AreTexts IsText entries text
  last_end no_text entries id outcome e = snoc_some entries (Finished id outcome) (sym e)
  last_end (of_start {entries = front} j c own is rest) entries id outcome e =
      no_ending (sym (snoc_last front entries (Started j c) (Finished id outcome) e))
  last_end (of_ending {entries = front} {text = text} i o rest) entries id outcome e =
      subst (λ (l : List Entry). AreTexts IsText l text) (snoc_front front entries (Finished i o) (Finished id outcome) e) rest

-- ---- by the steps

module _ (IsJob : model.Rule → Job → Type 0) (AreAt : Counts → Type 0) {IsText : Job → List ℕ → Type 0} {IsOwn : model.Rule → List ℕ → Type 0} where
  pub by_steps : {steps : List Step} {entries : List Entry} → AreEntries IsJob AreAt steps entries → (text : List ℕ) → AreTexts IsText entries text →
      ((r : model.Rule) (job : Job) (own : List ℕ) → Among r (began steps) → IsJob r job → IsText job own → IsOwn r own) → AreStepTexts IsOwn steps text
  by_steps nothing text are own = subst (λ (l : List ℕ). AreStepTexts IsOwn [] l) (sym (none_printed are refl)) no_step
  by_steps (is_fresh r h) text are own = of_fresh r (by_steps h text are own)
  by_steps (has_begun {past} {entries} r job counts is at new h) text are own =
      let last = last_start are entries job counts refl in
      subst (λ (l : List ℕ). AreStepTexts IsOwn (Began r ∷ past) l) (sym last.parts)
      (of_begun r last.own (own r job last.own here is last.is) (by_steps h last.front last.before (λ q j t m. own q j t (there m))))
  by_steps (was_refused r h) text are own = of_refused r (by_steps h text are (λ q j t m. own q j t (there m)))
  by_steps (has_ended {entries = entries} r id outcome ran started h) text are own =
      of_ended r (is_done outcome) (by_steps h text (last_end are entries id outcome refl) own)
  by_steps (lacks_one r p h) text are own = of_lacking r p (by_steps h text are own)
  by_steps (has_halted h) text are own = of_halt (by_steps h text are own)

-- of a build
pub steps_printed : {O : Type 0} (p : SinkMeaning O) (o : Outset) → IsOutset o → (options : Options) (around : Around) (out new : O)
    (runs : Runs o.wanted o.kept o.counts o.before around) (has : HasPrinted p o options around out new) →
    AreStepTexts (HasOwnText o options around) runs.steps has.text
steps_printed p o outset options around out new runs has =
    by_steps (IsJobIn o.wanted o.kept o.before around) (AreUnrisen o.wanted.keep o.counts) runs.log.are has.text
    (subst (λ (l : List Entry). AreTexts (IsJobText o options around) l has.text)
    (append_cancel_left o.before.log has.entries runs.log.entries (sym has.grown ∙ runs.log.grown)) has.are)
    (λ r job own m is text.
    let place = needed_place (begun_prepared (setting_at o) (build_at o around) runs.steps runs.seen.build.run m).wanted.is_needed in
    let makes = makes_each o outset place.0 place.1 text.target (among_same is.targets text.among) in
    let same : text.rule ≡ r = one_rule o outset text.target (text.makes text.target text.among) makes in
    record { number = job.id; own = subst (λ (q : model.Rule). IsOwnText o options around job.id q own) same text.own })
