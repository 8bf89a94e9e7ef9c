-- A course stays one as more contents are met, whatever stands at the end.
use Rattle.std.proofs.Common.{List, Some, None}
use Rattle.build_model.specs.Rules.{Bytes, Content, Tree, Stamps, Rule, Path, Setting, Among}
use Rattle.build_model.specs.Records.{IsMet}
use Rattle.build_model.specs.Steps.{Step, Build, IsWanted, IsDecided, IsFresh, IsStart, IsLacking}
use Rattle.build_model.specs.Moments.{Job, so_far, IsCourse, begins, changes, finds, starts, makes, fails, lacks, halts}

met_more : {met more : List Bytes} → ((bytes : Bytes) → Among bytes met → Among bytes more) → (x : Content) → IsMet met x → IsMet more x
met_more grows None h = h
met_more grows (Some bytes) h = grows bytes h

module _ (s : Setting) (b : Build) (met : List Bytes) (after : Tree) (stamps_after : Stamps) (grows : (bytes : Bytes) → Among bytes b.met → Among bytes met) where
  wanted_so : {t : Tree} {stamps : Stamps} {rules : List Rule} {r : Rule} → IsWanted s (so_far b t stamps) rules r →
      IsWanted s (so_far (record b { met = met; after = after; stamps_after = stamps_after }) t stamps) rules r
  wanted_so h = record { found = h.found; is_found = h.is_found; is_needed = h.is_needed }

  decided_so : {t : Tree} {stamps : Stamps} {past : List Step} {r : Rule} → IsDecided s (so_far b t stamps) past r →
      IsDecided s (so_far (record b { met = met; after = after; stamps_after = stamps_after }) t stamps) past r
  decided_so {t} {stamps} h = record {
    goes_on = h.goes_on;
    not_began = h.not_began;
    not_done = h.not_done;
    prepared = record { wanted = wanted_so {t = t} {stamps = stamps} h.prepared.wanted; whole = h.prepared.whole; dependencies = h.prepared.dependencies; required = h.prepared.required };
  }

  fresh_so : {t : Tree} {stamps : Stamps} {r : Rule} → IsFresh s (so_far b t stamps) r →
      IsFresh s (so_far (record b { met = met; after = after; stamps_after = stamps_after }) t stamps) r
  fresh_so {t} h = record { not_due = h.not_due; each_met = λ p m. met_more grows (t p) (h.each_met p m); same = h.same }

  start_so : {t : Tree} {stamps : Stamps} {past : List Step} {r : Rule} → IsStart s (so_far b t stamps) past r →
      IsStart s (so_far (record b { met = met; after = after; stamps_after = stamps_after }) t stamps) past r
  start_so {t} h = record { due = h.due; each_met = λ p m. met_more grows (t p) (h.each_met p m); room = h.room }

  lacking_so : {t : Tree} {stamps : Stamps} {past : List Step} {r : Rule} {p : Path} → IsLacking s (so_far b t stamps) past r p →
      IsLacking s (so_far (record b { met = met; after = after; stamps_after = stamps_after }) t stamps) past r p
  lacking_so {t} {stamps} h = record {
    goes_on = h.goes_on;
    not_began = h.not_began;
    not_done = h.not_done;
    wanted = wanted_so {t = t} {stamps = stamps} h.wanted;
    whole = h.whole;
    first_missing = h.first_missing;
    required = h.required;
  }

  pub course_so : {jobs : List Job} {t : Tree} {stamps : Stamps} {past : List Step} → IsCourse s b jobs t stamps past →
      IsCourse s (record b { met = met; after = after; stamps_after = stamps_after }) jobs t stamps past
  course_so begins = begins
  course_so (changes u later c h) = changes u later c (course_so h)
  course_so (finds r d f h) = finds r (decided_so d) (fresh_so f) (course_so h)
  course_so (starts r d f h) = starts r (decided_so d) (start_so f) (course_so h)
  course_so (makes j m run made h) = makes j m run made (course_so h)
  course_so (fails r run h) = fails r run (course_so h)
  course_so (lacks r p l h) = lacks r p (lacking_so l) (course_so h)
  course_so (halts h) = halts (course_so h)
