-- Records tell the truth after any history.
use Rattle.std.proofs.Common.{◌≡◌, ℕ, List, Option, Some, None, refl, sym, subst, ap, ◌∙◌, inl, inr, ◌⊎◌}
use Rattle.build_model.specs.Rules.{Path, Bytes, Digest, Content, Tree, Record, Records, Setting, Among}
use Rattle.build_model.specs.Records.{digest_by, IsMet, digested, IsMadeBy, AreSound}
use Rattle.build_model.specs.Steps.{Step, Build, IsRun, Succeeds}
use Rattle.build_model.specs.Graphs.{Graph, IsGraph, setting, rule_at}
use Rattle.build_model.specs.Headline.{IsBuilt}
use Rattle.build_model.specs.Histories.{Act, no_records, IsEdit, BeginsWith, IsHistory, begins, edited, built, GoesByContent}
use Rattle.build_model.proofs.Lists.{none_some, same_map}
use Rattle.build_model.proofs.Leaving.{stays_sound}
use Rattle.build_model.proofs.Headline.{incremental_is_clean}

met_more : {met more : List Bytes} → ((bytes : Bytes) → Among bytes met → Among bytes more) → (c : Content) → IsMet met c → IsMet more c
met_more h None m = tt
met_more h (Some bytes) m = h bytes m

-- what tells the truth goes by what actions make and by digests alone
module _ (s u : Setting) (act : u.act ≡ s.act) (digest : u.digest ≡ s.digest) where
  same_digest : (hash : ℕ) (c : Content) → digest_by u hash c ≡ digest_by s hash c
  same_digest hash None = refl
  same_digest hash (Some bytes) = ap (λ f. Some (f hash bytes)) digest

  with_digest : Path → Option Digest → Path × Option Digest
  with_digest p d = (p, d)

  same_digested : (hash : ℕ) (x : Path × Content) → digested u hash x ≡ digested s hash x
  unfolding with_digest
  same_digested hash x = ap (with_digest x.0) (same_digest hash x.1)

  made_too : {met more : List Bytes} {r : Record} {p : Path} {bytes : Bytes} → ((c : Bytes) → Among c met → Among c more) →
      IsMadeBy s met r p bytes → IsMadeBy u more r p bytes
  made_too {r = r} {p = p} h by = record {
    given = by.given;
    each_met = λ x m. met_more h x.1 (by.each_met x m);
    digests = same_map (digested u r.hash) (digested s r.hash) by.given (λ x m. same_digested r.hash x) ∙ by.digests;
    made = ap (λ f. f r.work r.signed r.targets by.given p) act ∙ by.made;
  }

  pub sound_too : {met more : List Bytes} {t : Tree} {m : Records} → ((c : Bytes) → Among c met → Among c more) →
      AreSound s met t m → AreSound u more t m
  sound_too h sound = record {
    at_targets = sound.at_targets;
    true_of_files = λ p r bytes is file. made_too h (sound.true_of_files p r bytes is file);
  }

no_more : (met : List Bytes) (c : Bytes) → Among c met → Among c met
no_more met c m = m

edit_true : (t u : Tree) (m : Records) (p : Path) {r : Record} {bytes : Bytes} {A : Type 0} →
    (t p ≡ u p) ⊎ ((u p ≡ None) ⊎ (m p ≡ None)) → m p ≡ Some r → u p ≡ Some bytes → (t p ≡ Some bytes → A) → A
edit_true t u m p (inl same) is file next = next (same ∙ file)
edit_true t u m p (inr (inl none)) is file next = none_some (sym none ∙ file)
edit_true t u m p (inr (inr none)) is file next = none_some (sym none ∙ is)

edit_sound : (s : Setting) (met : List Bytes) (t u : Tree) (m : Records) → IsEdit t m u → AreSound s met t m → AreSound s met u m
edit_sound s met t u m edit sound = record {
  at_targets = sound.at_targets;
  true_of_files = λ p r bytes is file. edit_true t u m p (edit p) is file
      (λ before. sound.true_of_files p r bytes is before);
}

blank_sound : (s : Setting) (met : List Bytes) (t : Tree) → AreSound s met t no_records
blank_sound s met t = record { at_targets = λ p r e. none_some e; true_of_files = λ p r bytes e file. none_some e }

-- a build may trust what a history left
begins_sound : (act : Act) (digest : ℕ → Bytes → Digest) (t : Tree) (m : Records) (met : List Bytes) (g : Graph) (b : Build) →
    BeginsWith act digest t m met g b →
    ((s : Setting) → s.act ≡ act → s.digest ≡ digest → AreSound s met t m) → AreSound (setting g b.before) b.met b.before b.records
begins_sound act digest t m met g b next sound =
    subst (λ x. AreSound (setting g b.before) b.met x b.records) (sym next.tree)
    (subst (λ x. AreSound (setting g b.before) b.met t x) (sym next.records)
    (sound_too (setting g b.before) (setting g b.before) refl refl next.met_more (sound (setting g b.before) next.act_is next.digest_is)))

pub history_sound : {act : Act} {digest : ℕ → Bytes → Digest} {t : Tree} {m : Records} {met : List Bytes} → IsHistory act digest t m met →
    (s : Setting) → s.act ≡ act → s.digest ≡ digest → AreSound s met t m
history_sound (begins t met) s a d = blank_sound s met t
history_sound (edited {t = t} {m = m} {met = met} u edit h) s a d = edit_sound s met t u m edit (history_sound h s a d)
history_sound {act} {digest} (built {t = t} {m = m} {met = met} g b steps later next build untouched each h) s a d =
    sound_too (setting g b.before) s (a ∙ sym next.act_is) (d ∙ sym next.digest_is) (no_more b.met)
    (stays_sound (setting g b.before) b steps later build untouched
    (begins_sound act digest t m met g b next (history_sound h)) each)

pub histories_end_clean : (act : Act) (digest : ℕ → Bytes → Digest) (t : Tree) (m : Records) (met : List Bytes) → IsHistory act digest t m met →
    (g : Graph) (b : Build) (steps : List Step) → BeginsWith act digest t m met g b → IsGraph g → GoesByContent g b →
    ((p : Path) → rule_at g b.before p ≡ None → b.before p ≡ b.after p) → IsRun (setting g b.before) b steps →
    Succeeds (setting g b.before) b steps → IsBuilt g b steps
histories_end_clean act digest t m met h g b steps next graph by sources run succeeds =
    incremental_is_clean g b steps (record {
      graph = graph;
      by = record {
        tests = by.tests;
        distinct = by.distinct;
        sound = begins_sound act digest t m met g b next (history_sound h);
        decider = by.decider;
      };
      sources = sources;
      run = run;
    }) succeeds
